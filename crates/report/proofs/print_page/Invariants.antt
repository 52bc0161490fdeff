use Rattle.std.proofs.Common.{◌≡◌, ℕ, ◌*◌, ◌++◌, length, vec_items}
use Rattle.std.specs.Slice.Iter.{chunks_exact_rest, chunks_exact_size}
use Rattle.report.specs.Texts.{rows_text}
use Rattle.report.proofs.print_page.Given as goal

-- the text so far, and the rows that are left behind it
abbrev pub invariant-loop-row : goal.invariant-loop-row
invariant-loop-row l = (left : ℕ) × (length (chunks_exact_rest l.row-iterator) ≡ left * 72) × (chunks_exact_size l.row-iterator ≡ 72) × (vec_items l.text ++ rows_text left (chunks_exact_rest l.row-iterator) ≡ vec_items l.initial.text ++ rows_text 40 l.body)
