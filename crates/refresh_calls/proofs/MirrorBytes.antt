-- Sections written over a mirror's bytes: the floats of what is left are the sections written over the floats. Bytes that are not written keep their words, and every NaN word reads as the one NaN.
-- Assumes nothing.
use Prim.Native.Nat.{ℕ, ◌+◌, ◌*◌, ◌-◌, ◌≤◌, ◌<◌}
use native.Mathlib.Omega.{arith}
use mathlib.Core.Path.{◌≡◌, refl, sym, ap, ◌∙◌}
use mathlib.Core.Logic.{◌⊎◌, inl, inr}
use mathlib.Core.Bool.{true, false}
use mathlib.Core.List.{List, [], ◌∷◌}
use lib.Dec.{ltb}
use lib.Ieee.{Float, nan, binary32, of_bits}
use lib.ListN.{length, get_or, take}
use lib.Seq.{ext_get_or}
use borrow.Author.Tests.{ltb-true, ltb-false}
use Rattle.lemmas.proofs.Branch.{branch}
use Rattle.d3d9_types.specs.Numbers.{float_fits}
use Rattle.codec.specs.Float.{float_bytes, float_at}
use Rattle.codec.specs.Little.{little_number}
use Rattle.codec.specs.Put.{put}
use Rattle.codec.proofs.Inside.{where_put}
use Rattle.codec.proofs.Laws.Float.{float_at_skips, float_at_starts}
use Rattle.codec.proofs.Laws.Little.{length-little_bytes}
use Rattle.codec.proofs.Put.{length-put, read_before, drop_behind}
use Rattle.image_lists.specs.Lists.{list_bytes, list_at}
use Rattle.image_lists.proofs.Reading.{length_list_at, get_d_list_at, list_at_skips, list_at_starts}
use Rattle.image_lists.proofs.Writing.{length_list_bytes}
use Rattle.sections.specs.Sections.{has_section}
use Rattle.ff_state.specs.Valid.{Valid}
use Rattle.sections.specs.declared.sections.Section.{Section}
use Rattle.ff_state.specs.declared.state.FfState.{FfState}
use Rattle.sections.specs.declared.key.FfVsKey.{FfVsKey}
use Rattle.packing.specs.Inputs.{inputs_of}
use Rattle.packing.specs.Pack.{state_rows}
use Rattle.packing.proofs.Fits.{packed_fit, inputs_fit}
use Rattle.refresh.specs.Written.{first_float, written_section, written}
use Rattle.refresh.proofs.Packed.{Ready, fits}
use Rattle.refresh.proofs.Parts.{put_holds, put_outside}
use Rattle.refresh_calls.specs.Written.{mirror_floats, written_section_bytes, written_bytes}
use Rattle.lemmas.proofs.Tests.{test}

length-float_bytes : (x : Float) → length (float_bytes x) ≡ 4
unfolding float_bytes
length-float_bytes x = length-little_bytes 4 _

length_bytes : (xs : List Float) → length (list_bytes float_bytes xs) ≡ 4 * length xs
length_bytes xs = length_list_bytes float_bytes 4 length-float_bytes xs

pub mirror_long : (bytes : List ℕ) → length (mirror_floats bytes) ≡ 4460
mirror_long bytes = length_list_at float_at 4 4460 bytes 0

mirror_at : (bytes : List ℕ) (i : ℕ) → i < 4460 → get_or (mirror_floats bytes) i nan ≡ float_at bytes (4 * i)
mirror_at bytes i h =
    let e : 0 + 4 * i ≡ 4 * i = omega arith in
    get_d_list_at float_at 4 4460 bytes 0 i nan h ∙ ap (float_at bytes) e

module _ (at : ℕ) (xs : List Float) (bytes : List ℕ) (fit : (i : ℕ) → i < length xs → float_fits (get_or xs i nan)) (room : at + length xs ≤ 4460) (long : length bytes ≡ 17_840) where
  abbrev vs : List ℕ
  vs = list_bytes float_bytes xs

  space : 4 * at + length vs ≤ length bytes
  space = omega (arith, room, long, length_bytes xs)

  place : at + length xs ≤ length (mirror_floats bytes)
  place = omega (arith, room, mirror_long bytes)

  inside_is : list_at float_at 4 (length xs) (put (4 * at) vs bytes) (4 * at) ≡ xs
  inside_is =
      where_put (list_at float_at 4 (length xs)) (list_at_skips float_at 4 float_at_skips (length xs)) vs xs
      (list_at_starts float_at 4 float_at_skips float_bytes length-float_bytes nan xs (λ (i : ℕ) (h : i < length xs). float_at_starts (fit i h)))
      (4 * at) bytes space

  at_inside : (j : ℕ) → j < length xs → float_at (put (4 * at) vs bytes) (4 * (at + j)) ≡ get_or xs j nan
  at_inside j h =
      let e : 4 * (at + j) ≡ 4 * at + 4 * j = omega arith in
      ap (float_at (put (4 * at) vs bytes)) e
      ∙ sym (get_d_list_at float_at 4 (length xs) (put (4 * at) vs bytes) (4 * at) j nan h)
      ∙ ap (λ (l : List Float). get_or l j nan) inside_is

  at_before : (i : ℕ) → i < at → float_at (put (4 * at) vs bytes) (4 * i) ≡ float_at bytes (4 * i)
  unfolding float_at
  at_before i h = ap (λ (l : List ℕ). of_bits binary32 (little_number l)) (read_before (4 * at) vs bytes space 4 (4 * i) (omega arith))

  at_behind : (i : ℕ) → at + length xs ≤ i → float_at (put (4 * at) vs bytes) (4 * i) ≡ float_at bytes (4 * i)
  unfolding float_at
  at_behind i h = ap (λ (l : List ℕ). of_bits binary32 (little_number (take 4 l))) (drop_behind (4 * at) vs bytes space (4 * i) (omega (arith, h, length_bytes xs)))

  each : (i : ℕ) → i < 4460 → float_at (put (4 * at) vs bytes) (4 * i) ≡ get_or (put at xs (mirror_floats bytes)) i nan
  each i h = go (test (ltb i at)) (test (ltb i (at + length xs)))
    where
      go : (ltb i at ≡ true) ⊎ (ltb i at ≡ false) → (ltb i (at + length xs) ≡ true) ⊎ (ltb i (at + length xs) ≡ false)
          → float_at (put (4 * at) vs bytes) (4 * i) ≡ get_or (put at xs (mirror_floats bytes)) i nan
      go (inl p) q = at_before i (ltb-true i at p) ∙ sym (mirror_at bytes i h) ∙ sym (put_outside at xs (mirror_floats bytes) place i (inl (ltb-true i at p)))
      go (inr p) (inr q) =
          let l = ltb-false i (at + length xs) q in
          at_behind i l ∙ sym (mirror_at bytes i h) ∙ sym (put_outside at xs (mirror_floats bytes) place i (inr l))
      go (inr p) (inl q) =
          let j : ℕ = i - at in
          let e : i ≡ at + j = omega (arith, ltb-false i at p) in
          let l : j < length xs = omega (arith, ltb-false i at p, ltb-true i (at + length xs) q) in
          ap (λ (n : ℕ). float_at (put (4 * at) vs bytes) (4 * n)) e
          ∙ at_inside j l
          ∙ sym (put_holds at xs (mirror_floats bytes) place j l)
          ∙ ap (λ (n : ℕ). get_or (put at xs (mirror_floats bytes)) n nan) (sym e)

  pub put-floats : mirror_floats (put (4 * at) vs bytes) ≡ put at xs (mirror_floats bytes)
  put-floats =
      ext_get_or nan (mirror_floats (put (4 * at) vs bytes)) (put at xs (mirror_floats bytes))
      (mirror_long (put (4 * at) vs bytes) ∙ sym (length-put at xs (mirror_floats bytes) place ∙ mirror_long bytes))
      (λ i h.
      let l : i < 4460 = omega (arith, h, mirror_long (put (4 * at) vs bytes)) in
      mirror_at (put (4 * at) vs bytes) i l ∙ each i l)

  pub put_long : length (put (4 * at) vs bytes) ≡ 17_840
  put_long = length-put (4 * at) vs bytes space ∙ long

-- ---- the sections of a state

module _ {s : FfState} {k : FfVsKey} (r : Ready s k) (v : Valid s) (bits : ℕ) where
  abbrev over : Section → List ℕ → List ℕ
  over σ bytes = written_section_bytes σ bits s k bytes

  module _ (σ : Section) (bytes : List ℕ) (long : length bytes ≡ 17_840) where
    fit : (i : ℕ) → i < length (state_rows σ s k) → float_fits (get_or (state_rows σ s k) i nan)
    fit i h = packed_fit k (inputs_of s) (inputs_fit v) σ i

    over_long : length (over σ bytes) ≡ 17_840
    unfolding written_section_bytes
    over_long =
        branch (λ (b : List ℕ). length b ≡ 17_840) (has_section bits σ) _ bytes
        (λ on. put_long (first_float σ) (state_rows σ s k) bytes fit (fits r σ) long) (λ off. long)

    over-floats : mirror_floats (over σ bytes) ≡ written_section σ bits s k (mirror_floats bytes)
    unfolding written_section written_section_bytes
    over-floats = go (test (has_section bits σ))
      where
        go : (has_section bits σ ≡ true) ⊎ (has_section bits σ ≡ false) → mirror_floats (over σ bytes) ≡ written_section σ bits s k (mirror_floats bytes)
        go (inl on) = rw on (put-floats (first_float σ) (state_rows σ s k) bytes fit (fits r σ) long)
        go (inr off) = rw off

  pub written-floats : (σs : List Section) (bytes : List ℕ) → length bytes ≡ 17_840 → mirror_floats (written_bytes σs bits s k bytes) ≡ written σs bits s k (mirror_floats bytes)
  unfolding written_bytes written
  written-floats [] bytes long = refl
  written-floats (σ ∷ σs) bytes long = written-floats σs (over σ bytes) (over_long σ bytes long) ∙ ap (written σs bits s k) (over-floats σ bytes long)
