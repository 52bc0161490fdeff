-- What lists of lines are charged after an edit. Assumes nothing.
use Rattle.std.proofs.Common.{◌≡◌, ℕ, suc, ◌+◌, ◌<◌, List, [], ◌∷◌, ◌++◌, length, get_or, take, drop, set, sym, refl, ap, ◌∙◌, arith, drop-cons}
use Rattle.std.specs.List.{insert, remove}
use Rattle.std.proofs.lemmas.List.{take-append-drop, set_split}
use Rattle.line.specs.Lines.{Line}
use Rattle.line.specs.Stores.{charges}

module _ (charge : ℕ → ℕ) where
  pub charges_append : (xs ys : List Line) → charges charge (xs ++ ys) ≡ charges charge xs + charges charge ys
  charges_append [] ys = omega arith
  charges_append (x ∷ xs) ys = let h = charges_append xs ys in omega arith

  -- the lines before a place and those from it on
  pub charges_split : (ls : List Line) (at : ℕ) → charges charge (take at ls) + charges charge (drop at ls) ≡ charges charge ls
  charges_split ls at = sym (charges_append (take at ls) (drop at ls)) ∙ ap (charges charge) (take-append-drop at ls)

  -- the lines before a line, the line, and those behind it
  pub charges_around : (ls : List Line) (at : ℕ) → at < length ls → charges charge (take at ls) + (charge (length (get_or ls at [])) + charges charge (drop (suc at) ls)) ≡ charges charge ls
  charges_around ls at h =
      let s = charges_split ls at in
      let d = ap (charges charge) (drop-cons ls at [] h) in
      omega arith

  pub charges_inserted : (ls : List Line) (at : ℕ) (line : Line) → charges charge (insert ls at line) ≡ charges charge ls + charge (length line)
  charges_inserted ls at line =
      let s = charges_split ls at in
      let a = charges_append (take at ls) (line ∷ drop at ls) in
      omega arith

  pub charges_removed : (ls : List Line) (at : ℕ) → at < length ls → charges charge (remove ls at) + charge (length (get_or ls at [])) ≡ charges charge ls
  charges_removed ls at h =
      let s = charges_around ls at h in
      let a = charges_append (take at ls) (drop (suc at) ls) in
      omega arith

  pub charges_set : (ls : List Line) (at : ℕ) (line : Line) → at < length ls → charges charge (set ls at line) + charge (length (get_or ls at [])) ≡ charges charge ls + charge (length line)
  charges_set ls at line h =
      let s = charges_around ls at h in
      let a = charges_append (take at ls) (line ∷ drop (suc at) ls) in
      let e = ap (charges charge) (set_split ls at line h) in
      omega arith

-- where each line is charged 1, their number is charged
pub charges_one : (ls : List Line) → charges (λ _. 1) ls ≡ length ls
charges_one [] = refl
charges_one (l ∷ ls) = let h = charges_one ls in omega arith
