-- The rows of a body behind a text, one line more at a time. Assumes nothing.
use Rattle.std.proofs.Common.{◌≡◌, ℕ, zero, suc, ◌*◌, ◌<◌, List, [], ◌∷◌, ◌++◌, length, take, drop, sym, ap, ◌∙◌, append_assoc, length-append, arith}
use Rattle.std.proofs.lemmas.List.{take_at, drop_at, append-nil}
use Rattle.report.specs.Texts.{rows_text}

pub row_more : (text text' whole rest row rest' : List ℕ) (left : ℕ) → length rest ≡ left * 72 → rest ≡ row ++ rest' → length row ≡ 72 → text' ≡ (text ++ row) ++ (10 ∷ []) → text ++ rows_text left rest ≡ whole → (k : ℕ) × (length rest' ≡ k * 72) × (text' ++ rows_text k rest' ≡ whole)
row_more text text' whole rest row rest' zero size cut wide more all = absurd (omega (arith, ap length cut, length-append row rest'))
row_more text text' whole rest row rest' (suc k) size cut wide more all =
    let front : take 72 rest ≡ row = ap (take 72) cut ∙ take_at row rest' 72 wide in
    let back : drop 72 rest ≡ rest' = ap (drop 72) cut ∙ drop_at row rest' 72 wide in (
      k,
      omega (arith, ap length cut, length-append row rest'),
      ap (λ t. t ++ rows_text k rest') more
          ∙ append_assoc (text ++ row) (10 ∷ []) (rows_text k rest')
          ∙ append_assoc text row (10 ∷ rows_text k rest')
          ∙ ap (λ l. text ++ (l ++ (10 ∷ rows_text k rest'))) (sym front)
          ∙ ap (λ l. text ++ (take 72 rest ++ (10 ∷ rows_text k l))) (sym back)
          ∙ all,
    )

-- before the first row
pub rows_begun : (n : ℕ) (text body rest : List ℕ) (width : ℕ) → rest ≡ body → length body ≡ n * 72 → width ≡ 72 → (k : ℕ) × (length rest ≡ k * 72) × (width ≡ 72) × (text ++ rows_text k rest ≡ text ++ rows_text n body)
rows_begun n text body rest width e l w = (n, ap length e ∙ l, w, ap (λ b. text ++ rows_text n b) e)

-- behind the last row
pub rows_done : (text whole rest : List ℕ) (left : ℕ) → length rest ≡ left * 72 → length rest < 72 → text ++ rows_text left rest ≡ whole → text ≡ whole
rows_done text whole rest zero size short all = sym (append-nil text) ∙ all
rows_done text whole rest (suc k) size short all = absurd (omega arith)

pub headed : (n : ℕ) (text start head body : List ℕ) → text ≡ start ++ rows_text n body → start ≡ head ++ (10 ∷ []) → text ≡ head ++ (10 ∷ rows_text n body)
headed n text start head body e h = e ∙ ap (λ l. l ++ rows_text n body) h ∙ append_assoc head (10 ∷ []) (rows_text n body)
