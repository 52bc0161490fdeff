-- Which edits a store refuses, by what its code has tested, and that an edited list is one of lines. Assumes nothing.
use Rattle.std.proofs.Common.{◌≡◌, ℕ, suc, ◌<◌, ◌≤◌, Bool, true, false, cond, not, ◌&&◌, ltb, leb, List, ◌∷◌, length, take, drop, set, is_some, Some, None, Option, sym, refl, ap, ◌∙◌, arith}
use Rattle.std.specs.List.{insert as inserted, remove as removed, AllByRecursion}
use Rattle.std.proofs.lemmas.List.{length-set}
use Rattle.std.proofs.lemmas.List.Edits.{length-insert, length-remove}
use Rattle.std.proofs.ByRecursion.{All-append, All-set, All-take, All-drop}
use Rattle.std.proofs.lemmas.Bool.{and_parts, leb-true}
use Rattle.std.proofs.lemmas.Bool.Decides.{nat_tests}
use Rattle.line.specs.declared.fault.StoreFault.{StoreFault}
use Rattle.line.specs.declared.fault.StoreFault.TheVariants.{NoLine, Full}
use Rattle.line.specs.Lines.{Line, line_limit, all_printable, is_line}
use Rattle.line.specs.Faults.{or_else, line_fault}
use Rattle.line.specs.Stores.{store_limit, charges, Edit, Edit.replace as replace, Edit.insert as insert, Edit.remove as remove, place_fault, text_fault, full_fault, edit_fault}
use Rattle.line.proofs.Columns.{fault_or_line}
use Rattle.line.proofs.Charges.{charges_removed}

abbrev Lines : List Line → Type 0
Lines = AllByRecursion (λ (l : Line). is_line l ≡ true)

-- what has no fault is a line
pub line_from_none : (bytes : List ℕ) → line_fault bytes ≡ None → is_line bytes ≡ true
line_from_none bytes e =
    let h : false ≡ not (is_line bytes) = sym (ap is_some e) ∙ fault_or_line bytes in
    let P : Bool → Type 0 = λ b. false ≡ not b → b ≡ true in
    let both : (b : Bool) → P b = λ b. elim b as P [ true ↦ (λ _. refl) | false ↦ (λ h. h) ] in
    both (is_line bytes) h

-- what a line says of its length
pub line_short : (l : Line) → is_line l ≡ true → length l ≤ line_limit
line_short l h = leb-true (length l) line_limit (and_parts (leb (length l) line_limit) (all_printable l) h).0

pub lines_inserted : (ls : List Line) (at : ℕ) (line : Line) → is_line line ≡ true → Lines ls → Lines (inserted ls at line)
lines_inserted ls at line h all =
    All-append _ (take at ls) (line ∷ drop at ls) (All-take _ at ls all) (h, All-drop _ at ls all)

pub lines_removed : (ls : List Line) (at : ℕ) → Lines ls → Lines (removed ls at)
lines_removed ls at all =
    All-append _ (take at ls) (drop (suc at) ls) (All-take _ at ls all) (All-drop _ (suc at) ls all)

pub lines_set : (ls : List Line) (at : ℕ) (line : Line) → is_line line ≡ true → Lines ls → Lines (set ls at line)
lines_set ls at line h all = All-set _ ls at line h all

-- the causes of a refusal one after the other
place_first : (capacity : ℕ) (charge : ℕ → ℕ) (ls : List Line) (e : Edit) (f : StoreFault) → place_fault (length ls) e ≡ Some f → edit_fault capacity charge ls e ≡ Some f
place_first capacity charge ls e f p = ap (λ o. or_else o (or_else (text_fault e) (full_fault capacity charge ls e))) p

text_next : (capacity : ℕ) (charge : ℕ → ℕ) (ls : List Line) (e : Edit) (f : StoreFault) → place_fault (length ls) e ≡ None → text_fault e ≡ Some f → edit_fault capacity charge ls e ≡ Some f
text_next capacity charge ls e f p t =
    ap (λ o. or_else o (or_else (text_fault e) (full_fault capacity charge ls e))) p
    ∙ ap (λ o. or_else o (full_fault capacity charge ls e)) t

full_last : (capacity : ℕ) (charge : ℕ → ℕ) (ls : List Line) (e : Edit) → place_fault (length ls) e ≡ None → text_fault e ≡ None → edit_fault capacity charge ls e ≡ full_fault capacity charge ls e
full_last capacity charge ls e p t =
    ap (λ o. or_else o (or_else (text_fault e) (full_fault capacity charge ls e))) p
    ∙ ap (λ o. or_else o (full_fault capacity charge ls e)) t

module _ (capacity : ℕ) (charge : ℕ → ℕ) (ls : List Line) where
  room : (n m : ℕ) → n ≤ store_limit → m ≤ capacity → leb n store_limit && leb m capacity ≡ true
  room n m h k = grind (arith, nat_tests)

  no_room : (n m : ℕ) → capacity < m → leb n store_limit && leb m capacity ≡ false
  no_room n m h = grind (arith, nat_tests)

  too_many : (n m : ℕ) → store_limit < n → leb n store_limit && leb m capacity ≡ false
  too_many n m h = grind (arith, nat_tests)

  there : (at n : ℕ) (f : Option StoreFault) → at < n → cond (ltb at n) None f ≡ None
  there at n f h = grind (arith, nat_tests)

  not_there : (at n : ℕ) (f : Option StoreFault) → n ≤ at → cond (ltb at n) None f ≡ f
  not_there at n f h = grind (arith, nat_tests)

  from_here : (at n : ℕ) (f : Option StoreFault) → at ≤ n → cond (leb at n) None f ≡ None
  from_here at n f h = grind (arith, nat_tests)

  pub replace_nowhere : (at n : ℕ) (line : List ℕ) → n ≡ length ls → n ≤ at → edit_fault capacity charge ls (replace at line) ≡ Some (NoLine at n)
  replace_nowhere at n line e h =
      place_first capacity charge ls (replace at line) (NoLine at n) (rw (← e) (not_there at n (Some (NoLine at n)) h))

  pub insert_nowhere : (at n : ℕ) (line : List ℕ) → n ≡ length ls → n < at → edit_fault capacity charge ls (insert at line) ≡ Some (NoLine at n)
  insert_nowhere at n line e h =
      place_first capacity charge ls (insert at line) (NoLine at n) (rw (← e) (grind (arith, nat_tests)))

  pub remove_nowhere : (at n : ℕ) → n ≡ length ls → n ≤ at → edit_fault capacity charge ls (remove at) ≡ Some (NoLine at n)
  remove_nowhere at n e h =
      place_first capacity charge ls (remove at) (NoLine at n) (rw (← e) (not_there at n (Some (NoLine at n)) h))

  pub replace_no_line : (at : ℕ) (line : List ℕ) (f : StoreFault) → at < length ls → line_fault line ≡ Some f → edit_fault capacity charge ls (replace at line) ≡ Some f
  replace_no_line at line f h t = text_next capacity charge ls (replace at line) f (there at (length ls) _ h) t

  pub insert_no_line : (at : ℕ) (line : List ℕ) (f : StoreFault) → at ≤ length ls → line_fault line ≡ Some f → edit_fault capacity charge ls (insert at line) ≡ Some f
  insert_no_line at line f h t = text_next capacity charge ls (insert at line) f (from_here at (length ls) _ h) t

  pub replace_full : (at used most : ℕ) (line : List ℕ) → used ≡ charges charge ls → most ≡ capacity → at < length ls → line_fault line ≡ None → capacity < charges charge (set ls at line) → edit_fault capacity charge ls (replace at line) ≡ Some (Full used most)
  replace_full at used most line u m h t over =
      full_last capacity charge ls (replace at line) (there at (length ls) _ h) t
      ∙ ap (λ b. cond b None (Some (Full (charges charge ls) capacity))) (no_room _ _ over)
      ∙ rw (u, m)

  pub insert_full : (at used most : ℕ) (line : List ℕ) → used ≡ charges charge ls → most ≡ capacity → at ≤ length ls → line_fault line ≡ None → capacity < charges charge (inserted ls at line) → edit_fault capacity charge ls (insert at line) ≡ Some (Full used most)
  insert_full at used most line u m h t over =
      full_last capacity charge ls (insert at line) (from_here at (length ls) _ h) t
      ∙ ap (λ b. cond b None (Some (Full (charges charge ls) capacity))) (no_room _ _ over)
      ∙ rw (u, m)

  pub insert_many : (at used most : ℕ) (line : List ℕ) → used ≡ charges charge ls → most ≡ capacity → at ≤ length ls → line_fault line ≡ None → store_limit ≤ length ls → edit_fault capacity charge ls (insert at line) ≡ Some (Full used most)
  insert_many at used most line u m h t many =
      full_last capacity charge ls (insert at line) (from_here at (length ls) _ h) t
      ∙ ap (λ b. cond b None (Some (Full (charges charge ls) capacity))) (too_many _ _ (let n = length-insert ls at line h in omega arith))
      ∙ rw (u, m)

  pub replace_allowed : (at : ℕ) (line : List ℕ) → at < length ls → line_fault line ≡ None → length ls ≤ store_limit → charges charge (set ls at line) ≤ capacity → edit_fault capacity charge ls (replace at line) ≡ None
  replace_allowed at line h t few within =
      full_last capacity charge ls (replace at line) (there at (length ls) _ h) t
      ∙ ap (λ b. cond b None (Some (Full (charges charge ls) capacity))) (room _ _ (let n = length-set ls at line in omega arith) within)

  pub insert_allowed : (at : ℕ) (line : List ℕ) → at ≤ length ls → line_fault line ≡ None → length ls < store_limit → charges charge (inserted ls at line) ≤ capacity → edit_fault capacity charge ls (insert at line) ≡ None
  insert_allowed at line h t few within =
      full_last capacity charge ls (insert at line) (from_here at (length ls) _ h) t
      ∙ ap (λ b. cond b None (Some (Full (charges charge ls) capacity))) (room _ _ (let n = length-insert ls at line h in omega arith) within)

  -- a line can always be taken out
  pub remove_allowed : (at : ℕ) → at < length ls → length ls ≤ store_limit → charges charge ls ≤ capacity → edit_fault capacity charge ls (remove at) ≡ None
  remove_allowed at h few within =
      full_last capacity charge ls (remove at) (there at (length ls) _ h) refl
      ∙ ap (λ b. cond b None (Some (Full (charges charge ls) capacity)))
      (room _ _ (let n = length-remove ls at h in omega arith) (let r = charges_removed charge ls at h in omega arith))
