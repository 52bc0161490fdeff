-- The lines of edited records. Assumes nothing.
use Rattle.std.specs.Prelude.{◌≡◌, ◌≤◌, ℕ, suc, true, List, [], ◌∷◌, ◌++◌, length, take, drop, slice_set, vec_items, vec_len, Vec}
use Rattle.std.proofs.Common.{sym, ap, ◌∙◌, arith}
use Rattle.std.specs.List.{insert, remove, AllByRecursion}
use Rattle.std.proofs.lemmas.List.{length-map, map-append, map-set, take-map, drop-map}
use Rattle.line.specs.Lines.{Line, is_line}
use Rattle.line.specs.Stores.{charges, store_limit, Kept}
use Rattle.line.proofs.Charges.{charges_one}
use Rattle.vec_store.specs.Records.{record_line, record_lines}
use Rattle.vec_store.specs.declared.record.LineRecord.{LineRecord}

pub length_lines : (rs : List LineRecord) → length (record_lines rs) ≡ length rs
length_lines rs = length-map rs record_line

pub charged : (rs : List LineRecord) → charges (λ _. 1) (record_lines rs) ≡ length rs
charged rs = charges_one (record_lines rs) ∙ length_lines rs

-- a record holds a line
pub all_lines : (rs : List LineRecord) → AllByRecursion (λ (l : Line). is_line l ≡ true) (record_lines rs)
all_lines [] = tt
all_lines (r ∷ rs) = (r.good, all_lines rs)

-- what every store keeps
pub kept_by : {Z : Type 0} (v : Vec LineRecord Z) (room : ℕ) → room ≤ store_limit → vec_len v ≤ room → Kept (record_lines (vec_items v)) room (λ _. 1)
kept_by v room few within =
    let l = v.ok.0 in
    let n = length_lines (vec_items v) in
    let all = charged (vec_items v) in
    record { few = omega arith; each = all_lines (vec_items v); within = omega arith }

module _ (rs : List LineRecord) (at : ℕ) (r : LineRecord) (line : Line) (e : record_line r ≡ line) where
  pub lines_replaced : record_lines (slice_set rs at r) ≡ slice_set (record_lines rs) at line
  lines_replaced = map-set record_line rs at r ∙ ap (slice_set (record_lines rs) at) e

  pub lines_inserted : record_lines (insert rs at r) ≡ insert (record_lines rs) at line
  lines_inserted =
      map-append record_line (take at rs) (r ∷ drop at rs)
      ∙ ap (λ (xs : List Line). xs ++ record_line r ∷ record_lines (drop at rs)) (sym (take-map record_line at rs))
      ∙ ap (λ (xs : List Line). take at (record_lines rs) ++ record_line r ∷ xs) (sym (drop-map record_line at rs))
      ∙ ap (λ (l : Line). insert (record_lines rs) at l) e

pub lines_removed : (rs : List LineRecord) (at : ℕ) → record_lines (remove rs at) ≡ remove (record_lines rs) at
lines_removed rs at =
    map-append record_line (take at rs) (drop (suc at) rs)
    ∙ ap (λ (xs : List Line). xs ++ record_lines (drop (suc at) rs)) (sym (take-map record_line at rs))
    ∙ ap (λ (xs : List Line). take at (record_lines rs) ++ xs) (sym (drop-map record_line (suc at) rs))
