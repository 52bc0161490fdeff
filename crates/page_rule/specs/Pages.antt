-- What a page is. Assumes nothing.
use Rattle.std.specs.Prelude.{ℕ, ◌+◌, ◌-◌, ◌*◌, cond, List, ◌++◌, length, replicate, nat_le}
use Rattle.engine.specs.Model.{Row, row_width}
use Rattle.engine.specs.Promise.{joined}

-- the rows of a body
abbrev pub page_rows : ℕ
page_rows = 40

-- the bytes of a body
abbrev pub body_bytes : ℕ
body_bytes = page_rows * row_width

-- a page: its first item, the number of its items, its rows, and its checkpoint: what the state before its first item means
pub record Page (M : Type 0) : Type 0 where
  pub first : ℕ
  pub items : ℕ
  pub rows : List Row
  pub checkpoint : M

-- its body: the rows from the top, and spaces in the unused ones
abbrev pub body : List Row → List ℕ
body rows = joined rows ++ replicate ((page_rows - length rows) * row_width) 32

-- the steps of a page of a text of n lines: its items, and one for the item that did not fit; the page that holds the end, item n,
-- has no such item
abbrev pub steps : {M : Type 0} → ℕ → Page M → ℕ
steps n p = p.items + cond (nat_le (p.first + p.items) n) 1 0
