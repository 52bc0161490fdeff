-- One item, by the lines from it on. Assumes nothing.
use Rattle.std.proofs.Common.{◌≡◌, ℕ, ◌-◌, ◌<◌, List, [], ◌++◌, length, get_or, take, drop, Ok, Err, Result, sym, ap, ◌∙◌, subst, arith, drop-cons}
use Rattle.std.proofs.lemmas.List.{take_at}
use Rattle.line.specs.Lines.{Line}
use Rattle.engine.specs.declared.EngineFault.{EngineFault}
use Rattle.engine.specs.Model.{Stepped, Model}
use Rattle.page_rule.specs.Filling.{stepped}
use Rattle.page_maker.specs.declared.made.Placed.{Placed}
use Rattle.page_maker.specs.declared.made.Placed.TheVariants.{On, End, Over}
use Rattle.page_maker.specs.Promise.{LineGives, PlaceGives}

-- the line at the front of the buffer that it was read to
pub read_is : (line before after : List ℕ) (n : ℕ) → n ≡ length line → after ≡ line ++ drop n before → take (n - 0) after ≡ line
read_is line before after n k e = ap (take (n - 0)) e ∙ take_at line (drop n before) (n - 0) (omega arith)

module _ {M S : Type 0} (means : S → M) (e : Model M) (lines : List Line) (item : ℕ) (m : M) (rows : ℕ) (before after : List ℕ) where
  -- a line
  line_step : item < length lines → stepped e m (drop item lines) ≡ e.step m (get_or lines item [])
  line_step h = ap (stepped e m) (drop-cons lines item [] h)

  placed : (x : Stepped M) (r : Result (Placed S) EngineFault) → item < length lines → LineGives means x rows before r after → PlaceGives means (length lines) item x m rows before r after
  placed x (Ok (On next total)) h p = (h, p)
  placed x (Ok (End total)) h p = absurd p
  placed x (Ok Over) h p = p
  placed x (Err fault) h p = (h, p.0, p.1)

  pub line_placed : (line : Line) (r : Result (Placed S) EngineFault) → item < length lines → line ≡ get_or lines item [] → LineGives means (e.step m line) rows before r after → PlaceGives means (length lines) item (stepped e m (drop item lines)) m rows before r after
  line_placed line r h q p =
      placed (stepped e m (drop item lines)) r h (subst (λ x. LineGives means x rows before r after) (ap (e.step m) q ∙ sym (line_step h)) p)
