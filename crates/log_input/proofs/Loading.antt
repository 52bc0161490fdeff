-- Lines put into a store, one after the other. Assumes nothing.
use Rattle.std.proofs.Common.{◌≡◌, ℕ, ◌+◌, ◌<◌, List, [], ◌∷◌, ◌++◌, length, get_or, drop, Some, None, Option, sym, refl, ap, ◌∙◌, append_assoc, arith}
use Rattle.std.proofs.lemmas.List.{at_drop_more, append-nil, take_all, drop_all}
use Rattle.line.specs.Lines.{Line}
use Rattle.line.specs.declared.fault.StoreFault.{StoreFault}
use Rattle.line.specs.Stores.{Edit.insert, edited, edit_fault}
use Rattle.log_input.specs.Loads.{Loaded, loaded, LoadLaw}

abbrev pub refused_with : List Line → StoreFault → Loaded
refused_with lines f = record { lines = lines; refusal = Some f }

module _ (capacity : ℕ) (charge : ℕ → ℕ) where
  -- one line more is taken, or refused
  pub taken : (lines : List Line) (l : List ℕ) (ls : List (List ℕ)) → edit_fault capacity charge lines (insert (length lines) l) ≡ None → loaded capacity charge lines (l ∷ ls) ≡ loaded capacity charge (edited lines (insert (length lines) l)) ls
  taken lines l ls e = rw (e, loaded)

  pub not_taken : (lines : List Line) (l : List ℕ) (ls : List (List ℕ)) (f : StoreFault) → edit_fault capacity charge lines (insert (length lines) l) ≡ Some f → loaded capacity charge lines (l ∷ ls) ≡ refused_with lines f
  not_taken lines l ls f e = rw (e, loaded)

  -- the same at a turn of the loop: line i of them all, into a store of this capacity and charge
  module _ (lines : List Line) (all : List (List ℕ)) (i at : ℕ) (l : List ℕ) (cap : ℕ) (rate : ℕ → ℕ) (room : cap ≡ capacity) (same : rate ≡ charge) (here : at ≡ length lines) (in' : i < length all) (is : get_or all i [] ≡ l) where
    fault_is : edit_fault cap rate lines (insert at l) ≡ edit_fault capacity charge lines (insert (length lines) l)
    fault_is = (λ k. edit_fault (room k) (same k) lines (insert (here k) l))

    first_is : loaded capacity charge lines (drop i all) ≡ loaded capacity charge lines (l ∷ drop (i + 1) all)
    first_is = at_drop_more (loaded capacity charge lines) all i [] in' ∙ ap (λ x. loaded capacity charge lines (x ∷ drop (i + 1) all)) is

    pub taken_at : (lines' : List Line) → edit_fault cap rate lines (insert at l) ≡ None → lines' ≡ edited lines (insert at l) → loaded capacity charge lines (drop i all) ≡ loaded capacity charge lines' (drop (i + 1) all)
    taken_at lines' e q =
        first_is
        ∙ taken lines l (drop (i + 1) all) (sym fault_is ∙ e)
        ∙ ap (λ n. loaded capacity charge (edited lines (insert n l)) (drop (i + 1) all)) (sym here)
        ∙ ap (λ x. loaded capacity charge x (drop (i + 1) all)) (sym q)

    pub not_taken_at : (f : StoreFault) → edit_fault cap rate lines (insert at l) ≡ Some f → loaded capacity charge lines (drop i all) ≡ refused_with lines f
    not_taken_at f e = first_is ∙ not_taken lines l (drop (i + 1) all) f (sym fault_is ∙ e)

  behind_all : (lines : List Line) (l : Line) → edited lines (insert (length lines) l) ≡ lines ++ (l ∷ [])
  behind_all lines l = (λ i. take_all (length lines) lines (omega arith) i ++ (l ∷ drop_all (length lines) lines (omega arith) i))

  all_taken : (lines log : List Line) → (loaded capacity charge lines log).refusal ≡ None → (loaded capacity charge lines log).lines ≡ lines ++ log
  all_taken lines [] e = sym (append-nil lines)
  all_taken lines (l ∷ ls) e = go (edit_fault capacity charge lines (insert (length lines) l)) refl (λ k. all_taken (edited lines (insert (length lines) l)) ls k)
    where
      go : (o : Option StoreFault) → edit_fault capacity charge lines (insert (length lines) l) ≡ o → ((loaded capacity charge (edited lines (insert (length lines) l)) ls).refusal ≡ None → (loaded capacity charge (edited lines (insert (length lines) l)) ls).lines ≡ edited lines (insert (length lines) l) ++ ls) → (loaded capacity charge lines (l ∷ ls)).lines ≡ lines ++ (l ∷ ls)
      go None q ih =
          ap (λ x. x.lines) (taken lines l ls q)
          ∙ ih (ap (λ x. x.refusal) (sym (taken lines l ls q)) ∙ e)
          ∙ ap (λ x. x ++ ls) (behind_all lines l)
          ∙ append_assoc lines (l ∷ []) ls
      go (Some f) q ih = let z : ◌≡◌ {A = Option StoreFault} (Some f) None = ap (λ x. x.refusal) (sym (not_taken lines l ls f q)) ∙ e in let y : ◌≡◌ {A = ℕ} 0 1 = cc in absurd (omega arith)

pub law : LoadLaw
law capacity charge lines log e = all_taken capacity charge lines log e
