-- Places that are marked as used, and the lowest that is not.
use Rattle.std.proofs.Common.{◌≡◌, ℕ, ◌<◌, ◌≤◌, Bool, true, false, ◌||◌, ltb, eqb, List, ◌++◌, get_or, length, is_some, not, Decides, Some, None, Option, sym, refl, ◌∙◌, arith, MatchOption}
use Rattle.std.specs.List.{list_any}
use Rattle.std.proofs.lemmas.Bool.{ltb-false, ltb-true}
use Rattle.std.proofs.lemmas.Bool.Decides.{nat_tests}
use Rattle.page_table.specs.declared.entry.PageEntry.{PageEntry}
use Rattle.page_table.specs.Indexes.{Index, users}
use Rattle.page_table.specs.Sound.{most_places, Sound}
use Rattle.page_table.specs.Free.{Free, NeedsPlace}
use Rattle.page_table.proofs.Users.{users_append, users_any}
use Rattle.page_table.proofs.Room.{place_left}
use Rattle.page_index.specs.Promise.{FreeGives}

-- marked as used by pages, and then by others
pub marked_both : (ps qs : List PageEntry) (x : ℕ) (a b c : Bool) → a ≡ false → b ≡ (a || list_any (λ p. eqb p.place x) ps) → c ≡ (b || list_any (λ p. eqb p.place x) qs) → c ≡ ltb 0 (users (ps ++ qs) x)
marked_both ps qs x a b c e f g =
    let n = users_append ps qs x in
    let h = users_any ps x in
    let k = users_any qs x in
    grind (arith, nat_tests)

module _ (i : Index) (used : List Bool) (within : i.places ≤ most_places) (marked : (x : ℕ) → x < most_places → get_or used x false ≡ ltb 0 (users (i.pages ++ i.made) x)) where
  is_used : (x : ℕ) → x < i.places → get_or used x false ≡ true → Free i x → ⊥
  is_used x h e free =
      let l = ltb-true 0 (users (i.pages ++ i.made) x) (sym (marked x (omega arith)) ∙ e) in
      let u = free.unused in
      omega arith

  pub lowest : (front : List Bool) → length front ≡ i.places → ((x : ℕ) → x < i.places → get_or front x false ≡ get_or used x false) → (r : Option ℕ)
      → MatchOption r ((x : ℕ) → x < length front → get_or front x false ≡ true) (λ x. (x < length front) × (get_or front x false ≡ false) × ((y : ℕ) → y < x → get_or front y false ≡ true)) → FreeGives i r
  lowest front long same (Some x) h =
      let w : x < i.places = omega (arith, h.0) in
      let n = ltb-false 0 (users (i.pages ++ i.made) x) (sym (marked x (omega arith)) ∙ sym (same x w) ∙ h.1) in
      (record { within = w; unused = omega arith }, λ y l. let v : y < i.places = omega arith in is_used y v (sym (same y v) ∙ h.2 y l))
  lowest front long same None h = λ y free. let v = free.within in is_used y v (sym (same y v) ∙ h y (omega arith)) free

pub found : (i : Index) (r : Option ℕ) → Sound i → FreeGives i r → NeedsPlace i → is_some r ≡ true
found i (Some x) sound gives needs = refl
found i None sound gives needs = absurd (place_left i sound needs gives)

-- a place that is one of the N is free exactly if no page that stands has it, and none under way
pub free_test : (i : Index) (x : ℕ) (stands under : Bool) → x < i.places → not stands ≡ true → stands ≡ list_any (λ p. eqb p.place x) i.pages → under ≡ list_any (λ p. eqb p.place x) i.made
    → Decides (not under) (Free i x)
free_test i x stands under within clear s u =
    let n = users_append i.pages i.made x in
    let a = users_any i.pages x in
    let b = users_any i.made x in (
      (λ h. record { within = within; unused = grind (arith, nat_tests) }),
      (λ free. let v = free.unused in grind (arith, nat_tests)),
    )

pub taken_test : (i : Index) (x : ℕ) (stands : Bool) → not stands ≡ false → stands ≡ list_any (λ p. eqb p.place x) i.pages → Free i x → ⊥
taken_test i x stands met s free =
    let n = users_append i.pages i.made x in
    let a = users_any i.pages x in
    let v = free.unused in
    grind (arith, nat_tests)
