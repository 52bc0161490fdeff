-- A page that meets a condition, where the condition is a test.
use Rattle.std.proofs.Common.{◌≡◌, ℕ, ◌-◌, Bool, true, false, ◌&&◌, ltb, leb, eqb, List, Some, None, Option, sym, arith}
use Rattle.std.proofs.lemmas.Bool.{eqb-true, eq-eqb}
use Rattle.std.proofs.lemmas.Bool.Decides.{nat_tests}
use Rattle.page_table.specs.declared.entry.PageEntry.{PageEntry}
use Rattle.page_table.specs.Indexes.{Index}
use Rattle.page_index.specs.declared.finds.PageAt.{PageAt}
use Rattle.page_index.specs.Promise.{FoundGives, HolderGives, BeginnerGives}

module _ (i : Index) (item : ℕ) (ps : List PageEntry) (are : ps ≡ i.pages) (meets : PageEntry → Bool → Type 0) where
  pub holder_gives : (r : Option PageAt) → FoundGives ps meets r → ((p : PageEntry) (b : Bool) → meets p b → b ≡ (leb p.first item && ltb (item - p.first) p.items)) → HolderGives i item r
  holder_gives (Some at) found test = let b = test at.page true found.gives.1 in record { there = rw are at found.gives.0; from = grind (arith, nat_tests); to = grind (arith, nat_tests) }
  holder_gives None found test = λ k p holds. let b = test p false (found.gives k p (rw (← are) at holds.there)) in let f = holds.from in let t = holds.to in grind (arith, nat_tests)

  pub beginner_gives : (r : Option PageAt) → FoundGives ps meets r → ((p : PageEntry) (b : Bool) → meets p b → b ≡ eqb p.first item) → BeginnerGives i item r
  beginner_gives (Some at) found test = (rw are at found.gives.0, eqb-true at.page.first item (sym (test at.page true found.gives.1)))
  beginner_gives None found test = λ k p there same. let b = test p false (found.gives k p (rw (← are) at there)) in let e = eq-eqb p.first item same in cc
