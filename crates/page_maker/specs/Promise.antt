-- What making one page promises. Assumes nothing.
use Rattle.std.specs.Prelude.{◌≡◌, ℕ, ◌+◌, ◌-◌, ◌*◌, ◌<◌, ◌≤◌, List, [], ◌∷◌, ◌++◌, length, take, drop, Some, None, Ok, Err, Option, Result}
use Rattle.std.proofs.Math.Seq.{paste}
use Rattle.line.specs.Lines.{Line}
use Rattle.engine.specs.Model.{Row, Stepped, Stepped.goes, Stepped.refuses, Model, row_width, step_rows}
use Rattle.engine.specs.declared.EngineFault.{EngineFault}
use Rattle.engine.specs.Promise.{joined, fronted}
use Rattle.page_rule.specs.Pages.{body, steps, page_rows}
use Rattle.page_rule.specs.Filling.{Filled, Filled.last, Filled.full, Filled.stuck, fill}
use Rattle.page_rule.specs.Formatting.{Ending.complete, Formatted, no_page, onto, page, pages_from}
use Rattle.page_maker.specs.declared.fault.LineFault.{LineFault}
use Rattle.page_maker.specs.declared.fault.PageFault.{PageFault}
use Rattle.page_maker.specs.declared.fault.PageFault.TheVariants.{Engine, TooManyPages}
use Rattle.page_maker.specs.declared.made.Position.{Position}
use Rattle.page_maker.specs.declared.made.Made.{Made}
use Rattle.page_maker.specs.declared.made.Filling.{Filling}
use Rattle.page_maker.specs.declared.made.Placed.{Placed}
use Rattle.page_maker.specs.declared.made.Placed.TheVariants.{On, End, Over}
use Rattle.page_maker.specs.declared.count.RowCount.{RowCount}
use Rattle.page_maker.specs.Faults.{ending}

module _ {M S : Type 0} (means : S → M) (e : Model M) (lines : List Line) where
  -- the pages that the rule gives from a position on, under a limit
  abbrev pub ahead : ℕ → Position S → Formatted M
  ahead limit at = pages_from e (limit - at.page) at.page at.first (means at.state) lines

  -- those behind a page: none where the end is on it
  abbrev pub behind : ℕ → Option (Position S) → Formatted M
  behind limit None = no_page complete
  behind limit (Some at) = ahead limit at

  -- the position behind a page is that of the next page
  abbrev pub Next : Position S → ℕ → Option (Position S) → Type 0
  Next at items None = Unit {0}
  Next at items (Some next) = (next.page ≡ at.page + 1) × (next.first ≡ at.first + items)

  -- the page is made: it is the page that the rule has there, what the rule has behind it is what it has from the next position on,
  -- and the body is its body
  pub record PageMade (limit : ℕ) (at : Position S) (made : Made S) (after : List ℕ) : Type 0 where
    pub begun : at.page < limit
    pub rows : List Row
    pub rule : ahead limit at ≡ onto (page at.first made.items rows (means at.state) ∷ []) (behind limit made.next)
    pub next : Next at made.items made.next
    pub counts : made.rows ≡ length rows
    pub steps : made.steps ≡ steps (length lines) (page at.first made.items rows (means at.state))
    pub body : after ≡ body rows

  -- a line is refused: the rule ends so, and the rows set before that line stand at the front of the body
  pub record LineRefused (limit : ℕ) (at : Position S) (fault : LineFault) (before after : List ℕ) : Type 0 where
    pub begun : at.page < limit
    pub items : ℕ
    pub rows : List Row
    pub fills : fill e (drop at.first lines) (means at.state) 0 [] ≡ stuck items rows fault.fault.cause fault.fault.column
    pub line : fault.line ≡ at.first + items
    pub page : fault.page ≡ at.page
    pub rule : ahead limit at ≡ no_page (ending (Engine fault))
    pub body : after ≡ fronted rows before

  -- the page is one too many: nothing is done
  pub record NoMorePages (limit : ℕ) (at : Position S) (first told : ℕ) (before after : List ℕ) : Type 0 where
    pub over : limit ≤ at.page
    pub item : first ≡ at.first
    pub pages : told ≡ limit
    pub rule : at.page ≡ limit → ahead limit at ≡ no_page (ending (TooManyPages first told))
    pub body : after ≡ before

  abbrev pub PageGives : ℕ → Position S → List ℕ → Result (Made S) PageFault → List ℕ → Type 0
  PageGives limit at before (Ok made) after = PageMade limit at made after
  PageGives limit at before (Err (Engine fault)) after = LineRefused limit at fault before after
  PageGives limit at before (Err (TooManyPages first told)) after = NoMorePages limit at first told before after

-- the parts from which a page is made

-- a page that was filled: what the rule says, the count of its rows, and its body; `how` says whether the end is on it
pub record Lies {M : Type 0} (f : Filled M) (how : ℕ → List Row → Filled M) (items rows : ℕ) (after : List ℕ) : Type 0 where
  pub set : List Row
  pub rule : f ≡ how items set
  pub counts : rows ≡ length set
  pub holds : after ≡ body set

-- a page on which a line is refused
pub record Stops {M : Type 0} (f : Filled M) (fault : LineFault) (first number : ℕ) (before after : List ℕ) : Type 0 where
  pub items : ℕ
  pub set : List Row
  pub rule : f ≡ stuck items set fault.fault.cause fault.fault.column
  pub line : fault.line ≡ first + items
  pub page : fault.page ≡ number
  pub holds : after ≡ fronted set before

module _ {M S : Type 0} (means : S → M) where
  -- the end is on the page, or it is one of the items that are left
  abbrev pub FilledTo : ℕ → Filled M → ℕ → Filling S → Option S → List ℕ → Type 0
  FilledTo n f first filling None after = (n < first + filling.items) × (filling.items ≤ n + 1) × Lies f last filling.items filling.rows after
  FilledTo n f first filling (Some s) after = (first + filling.items ≤ n) × Lies f (λ items rows. full items rows (means s)) filling.items filling.rows after

  abbrev pub FillGives : ℕ → Filled M → ℕ → ℕ → List ℕ → Result (Filling S) LineFault → List ℕ → Type 0
  FillGives n f first number before (Ok filling) after = FilledTo n f first filling filling.next after
  FillGives n f first number before (Err fault) after = Stops f fault first number before after

-- an item whose step was x, put below `rows` rows of a body, which has `total` rows then
pub record ItemOn {M : Type 0} (x : Stepped M) (t : M) (rows : ℕ) (before : List ℕ) (total : ℕ) (after : List ℕ) : Type 0 where
  pub given : List Row
  pub step : x ≡ goes t given
  pub counts : total ≡ rows + length given
  pub few : length given ≤ step_rows
  pub size : length (joined given) ≡ length given * row_width
  pub fits : total ≤ page_rows
  pub holds : after ≡ take (rows * row_width) before ++ joined given ++ drop (total * row_width) before

pub record ItemOver {M : Type 0} (x : Stepped M) (rows : ℕ) (before after : List ℕ) : Type 0 where
  pub next : M
  pub given : List Row
  pub step : x ≡ goes next given
  pub few : length given ≤ step_rows
  pub over : page_rows < rows + length given
  pub same : after ≡ before

-- the first `more` rows of a buffer, put below `rows` rows of a body where they fit
abbrev pub PutGives : ℕ → List ℕ → List ℕ → ℕ → Option RowCount → List ℕ → Type 0
PutGives rows before buffer more (Some total) after = (total.count ≡ rows + more) × (after ≡ paste before (rows * row_width) buffer (more * row_width))
PutGives rows before buffer more None after = (page_rows < rows + more) × (after ≡ before)

-- the end whose rows are these, put below `rows` rows of a body
abbrev pub EndGives : {M : Type 0} → M → List Row → ℕ → List ℕ → Option RowCount → List ℕ → Type 0
EndGives m close rows before (Some total) after = ItemOn (goes m close) m rows before total.count after
EndGives m close rows before None after = ItemOver (goes m close) rows before after

module _ {M S : Type 0} (means : S → M) where
  -- a line whose step was x
  abbrev pub LineGives : Stepped M → ℕ → List ℕ → Result (Placed S) EngineFault → List ℕ → Type 0
  LineGives x rows before (Ok (On next total)) after = ItemOn x (means next) rows before total.count after
  LineGives x rows before (Ok (End total)) after = ⊥
  LineGives x rows before (Ok Over) after = ItemOver x rows before after
  LineGives x rows before (Err fault) after = (x ≡ refuses fault.cause fault.column) × (after ≡ before)

  -- item `item` of a text of n lines, whose step was x
  abbrev pub PlaceGives : ℕ → ℕ → Stepped M → M → ℕ → List ℕ → Result (Placed S) EngineFault → List ℕ → Type 0
  PlaceGives n item x m rows before (Ok (On next total)) after = (item < n) × ItemOn x (means next) rows before total.count after
  PlaceGives n item x m rows before (Ok (End total)) after = (n ≤ item) × ItemOn x m rows before total.count after
  PlaceGives n item x m rows before (Ok Over) after = ItemOver x rows before after
  PlaceGives n item x m rows before (Err fault) after = (item < n) × (x ≡ refuses fault.cause fault.column) × (after ≡ before)
