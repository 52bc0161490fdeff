-- A line written between its two lengths. Assumes nothing.
use Rattle.std.proofs.Common.{◌≡◌, ℕ, suc, ◌+◌, ◌≤◌, List, [], ◌∷◌, ◌++◌, length, take, drop, set, sym, ap, ◌∙◌, arith, drop-cons}
use lib.Seq.{paste, take-length}
use borrow.Rule.Slice.PartMut.{put_mid}
use Rattle.std.proofs.lemmas.List.{append_assoc, length-append, length-take, set_at, take_all}
use Rattle.line.proofs.Pastes.{put_mid_record}
use Rattle.gap_store.specs.Records.{record_of, taken}
use Rattle.gap_store.specs.RecordsLemmas.{length_record}

pub record_written : (d : List ℕ) (at : ℕ) (line : List ℕ) (k : ℕ) (ys : List ℕ) → at + taken (length line) ≤ length d → k ≡ length line → ys ≡ line → set (put_mid (at + 1) k (set d at (length line)) ys) ((at + 1) + length line) (length line) ≡ paste d at (record_of line) (taken (length line))
record_written d at line k ys h e f =
    let n : ℕ = length line in
    let p : List ℕ = take at d ++ (n ∷ line) in
    let i : ℕ = at + suc n in
    let a : paste d at (n ∷ line) (suc n) ≡ p ++ drop i d = ap (λ (r : List ℕ). take at d ++ (n ∷ r) ++ drop i d) (take-length line) in
    let b : drop i d ≡ _ = drop-cons d i 0 (omega arith) in
    let l : length p ≡ (at + 1) + n = omega (arith, length-append (take at d) (n ∷ line), length-take at d) in
    let z : suc i ≡ at + taken n = omega arith in
    let all : take (taken n) (record_of line) ≡ record_of line = take_all (taken n) (record_of line) (omega (arith, length_record line)) in
    ap (λ (r : List ℕ). set r ((at + 1) + n) n) (put_mid_record d at line k ys (omega arith) e f ∙ a ∙ ap (λ (r : List ℕ). p ++ r) b)
    ∙ set_at p _ (drop (suc i) d) n ((at + 1) + n) l
    ∙ append_assoc (take at d) (n ∷ line) (n ∷ drop (suc i) d)
    ∙ sym (append_assoc (take at d) (record_of line) (drop (suc i) d) ∙ ap (λ (r : List ℕ). take at d ++ (n ∷ r)) (append_assoc line (n ∷ []) (drop (suc i) d)))
    ∙ ap (λ (m : ℕ). (take at d ++ record_of line) ++ drop m d) z
    ∙ ap (λ (r : List ℕ). (take at d ++ r) ++ drop (at + taken n) d) (sym all)
