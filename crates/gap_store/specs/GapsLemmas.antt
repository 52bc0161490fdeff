-- Lines around a gap: what the bytes hold is what is read back, and how much it takes. Assumes nothing.
use Rattle.std.specs.Prelude.{◌≡◌, ℕ, ◌+◌, ◌-◌, ◌≤◌, List, length, take, drop}
use Rattle.std.proofs.Common.{sym, ap, ◌∙◌, arith}
use Rattle.std.proofs.lemmas.List.{length-append, length-take, length-drop, take-append-drop, take-take, take_at, drop_at}
use Rattle.line.specs.Lines.{Line}
use Rattle.line.specs.Stores.{charges}
use Rattle.line.proofs.Charges.{charges_split}
use Rattle.gap_store.specs.Records.{packed, unpacked, Packed, taken}
use Rattle.gap_store.specs.Gaps.{gap_lines, Holds, Sound}
use Rattle.gap_store.specs.declared.gap.Gap.{Gap}
use Rattle.gap_store.specs.RecordsLemmas.{length_packed, length_unpacked, unpacked_take, packed_here, few_lines}

pub length_lines : (g : Gap) (bytes : List ℕ) → length (gap_lines g bytes) ≡ g.before + g.behind
length_lines g bytes =
    let a = length-append (unpacked g.before (take g.front bytes)) (unpacked g.behind (drop g.back bytes)) in
    let b = length_unpacked g.before (take g.front bytes) in
    let d = length_unpacked g.behind (drop g.back bytes) in
    omega arith

-- two packed parts around a gap hold their lines
pub sound_from : (g : Gap) (bytes : List ℕ) → g.front ≤ g.back → g.back ≤ length bytes → Packed g.before (take g.front bytes) → Packed g.behind (drop g.back bytes) → Sound g bytes
sound_from g bytes apart within fore aft =
    let xs : List Line = unpacked g.before (take g.front bytes) in
    let ys : List Line = unpacked g.behind (drop g.back bytes) in
    let l = length_unpacked g.before (take g.front bytes) in
    record {
      apart = apart;
      within = within;
      counted = sym (length_lines g bytes);
      fore = sym fore ∙ ap packed (sym (take_at xs ys g.before l));
      aft = sym aft ∙ ap packed (sym (drop_at xs ys g.before l));
    }

module _ (ls : List Line) (g : Gap) (bytes : List ℕ) (h : Holds ls g bytes) where
  counted : g.before + g.behind ≡ length ls
  counted = h.counted

  front_lines : unpacked g.before (take g.front bytes) ≡ take g.before ls
  front_lines = packed_here (take g.before ls) g.before (take g.front bytes) h.fore (simp length-take (omega (arith, counted)))

  back_lines : unpacked g.behind (drop g.back bytes) ≡ drop g.before ls
  back_lines = packed_here (drop g.before ls) g.behind (drop g.back bytes) h.aft (simp length-drop (omega (arith, counted)))

  -- the first lines before the gap, and the first behind it
  pub first_before : (k : ℕ) → k ≤ g.before → unpacked k (take g.front bytes) ≡ take k ls
  first_before k l =
      sym (unpacked_take k g.before (take g.front bytes) l) ∙ ap (take k) front_lines ∙ take-take k g.before ls l

  pub first_behind : (k : ℕ) → k ≤ g.behind → unpacked k (drop g.back bytes) ≡ take k (drop g.before ls)
  first_behind k l = sym (unpacked_take k g.behind (drop g.back bytes) l) ∙ ap (take k) back_lines

  -- the lines that bytes hold are those that are read back
  pub read_back : gap_lines g bytes ≡ ls
  read_back = rw (front_lines, back_lines) (take-append-drop g.before ls)

  pub fore_packed : Packed g.before (take g.front bytes)
  fore_packed = ap packed front_lines ∙ sym h.fore

  pub aft_packed : Packed g.behind (drop g.back bytes)
  aft_packed = ap packed back_lines ∙ sym h.aft

  pub front_is : g.front ≡ charges taken (take g.before ls)
  front_is =
      let a = ap length h.fore in
      let b = length_packed (take g.before ls) in
      let d = length-take g.front bytes in
      let e = h.apart in
      let f = h.within in
      omega arith

  pub back_is : length bytes - g.back ≡ charges taken (drop g.before ls)
  back_is =
      let a = ap length h.aft in
      let b = length_packed (drop g.before ls) in
      let d = length-drop g.back bytes in
      omega arith

  -- what is not the gap is what the lines take
  pub used : charges taken ls + (g.back - g.front) ≡ length bytes
  used =
      let a = front_is in
      let b = back_is in
      let d = charges_split taken ls g.before in
      let e = h.apart in
      let f = h.within in
      omega arith

  -- there are no more lines than bytes
  pub few : g.before + g.behind ≤ length bytes
  few =
      let a = few_lines ls in
      let b = used in
      let d = counted in
      omega arith
