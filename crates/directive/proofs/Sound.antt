-- What a line says is sound: its text is no longer than the line, and a directive's value is one that its letter takes. Assumes nothing.
use Rattle.std.proofs.Common.{◌≡◌, ℕ, suc, ◌≤◌, Bool, true, false, cond, eqb, List, [], ◌∷◌, length, ℤ, pos, Some, None, Option, sym, refl, subst, arith}
use Rattle.numerals.specs.Reads.{integer}
use Rattle.directive.specs.declared.kinds.Argument.{Argument}
use Rattle.directive.specs.Grammar.{Said, Said.text, Said.directive, Said.malformed, in_range, ranged, behind, lettered, dotted, said}

-- a value that may stand behind a letter
abbrev pub Taken : Option Argument → ℤ → Type 0
Taken None v = v ≡ pos 0
Taken (Some a) v = in_range a v ≡ true

module _ {L : Type 0} (takes : L → Option Argument) where
  abbrev pub Sound : ℕ → Said L → Type 0
  Sound n (text t) = length t ≤ n
  Sound n (directive letter v) = Taken (takes letter) v
  Sound n (malformed cause column) = Unit {0}

  sound_ranged : (n : ℕ) (letter : L) (a : Argument) (o : Option ℤ) → takes letter ≡ Some a → Sound n (ranged letter a o)
  sound_ranged n letter a None e = tt
  sound_ranged n letter a (Some z) e = go (in_range a z) refl
    where
      go : (b : Bool) → in_range a z ≡ b → Sound n (cond b (directive letter z) (malformed 2 3))
      go true h = subst (λ t. Taken t z) (sym e) h
      go false h = tt

  sound_behind : (n : ℕ) (letter : L) (t : Option Argument) (bs : List ℕ) → takes letter ≡ t → Sound n (behind letter t bs)
  sound_behind n letter None [] e = subst (λ t. Taken t (pos 0)) (sym e) refl
  sound_behind n letter None (b ∷ bs) e = tt
  sound_behind n letter (Some a) [] e = tt
  sound_behind n letter (Some a) (b ∷ bs) e =
      elim (eqb b 32) as (λ v. Sound n (cond v (ranged letter a (integer a.minus a.digits bs)) (malformed 2 2))) [ true ↦ sound_ranged n letter a (integer a.minus a.digits bs) e | false ↦ tt ]

  sound_lettered : (n : ℕ) (o : Option L) (bs : List ℕ) → Sound n (lettered takes o bs)
  sound_lettered n None bs = tt
  sound_lettered n (Some letter) bs = sound_behind n letter (takes letter) bs refl

  module _ (spelled : ℕ → Option L) where
    sound_dotted : (bs : List ℕ) → Sound (suc (length bs)) (dotted spelled takes bs)
    sound_dotted [] = tt
    sound_dotted (b ∷ bs) =
        elim (eqb b 46) as (λ v. Sound (suc (suc (length bs))) (cond v (text (b ∷ bs)) (lettered takes (spelled b) bs))) [ true ↦ omega arith | false ↦ sound_lettered (suc (suc (length bs))) (spelled b) bs ]

    pub sound : (bs : List ℕ) → Sound (length bs) (said spelled takes bs)
    sound [] = omega arith
    sound (b ∷ bs) =
        elim (eqb b 46) as (λ v. Sound (suc (length bs)) (cond v (dotted spelled takes bs) (text (b ∷ bs)))) [ true ↦ sound_dotted bs | false ↦ omega arith ]

    -- by what was said
    pub value_taken : (bs : List ℕ) (letter : L) (v : ℤ) → directive letter v ≡ said spelled takes bs → Taken (takes letter) v
    value_taken bs letter v e = subst (Sound (length bs)) (sym e) (sound bs)
