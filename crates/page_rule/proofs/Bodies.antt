-- How many bytes rows and bodies have. Assumes nothing.
use Rattle.std.proofs.Common.{◌≡◌, ◌*◌, ◌≤◌, List, [], ◌∷◌, length, refl, arith, length-append}
use lib.ListN.{length-replicate}
use Rattle.std.specs.List.{AllByRecursion}
use Rattle.engine.specs.Model.{Row, row_width}
use Rattle.engine.specs.Promise.{joined}
use Rattle.page_rule.specs.Pages.{page_rows, body_bytes, body}

pub length_joined : (rows : List Row) → AllByRecursion (λ (r : Row). length r ≡ row_width) rows → length (joined rows) ≡ length rows * row_width
length_joined [] h = refl
length_joined (r ∷ rs) h = let n = length-append r (joined rs) in let i = length_joined rs h.1 in let w = h.0 in omega arith

pub body_size : (rows : List Row) → length rows ≤ page_rows → AllByRecursion (λ (r : Row). length r ≡ row_width) rows → length (body rows) ≡ body_bytes
body_size rows few wide = let n = length_joined rows wide in simp (length-append, length-replicate) (omega arith)
