-- Pushing lights one after another, up to a limit, gives the list of the first so many. Assumes nothing.
use Prim.Native.Nat.{ℕ, suc, ◌+◌, ◌-◌, ◌*◌, ◌^◌, ◌≤◌, ◌<◌, zero-le}
use native.Mathlib.Nat.{le_of_lt, le_refl, le_trans, lt_of_lt_of_le, lt_of_not-le, pow-suc, min-le_left}
use native.Mathlib.Numerals.{add-one}
use native.Mathlib.Omega.{arith}
use mathlib.Core.Path.{◌≡◌, refl, sym, ap, ap₂, ◌∙◌}
use mathlib.Core.Bool.{Bool, true, false, cond}
use mathlib.Core.List.{List, [], ◌∷◌, ◌++◌, append-nil, append_assoc}
use native.Mathlib.Decide.{dec_le}
use lib.Dec.{eqb, lit<}
use mir.Val.{bool_byte}
use lib.ListN.{length, take, drop, get_or, set, replicate, length-append, length-take}
use lib.Pow.{pow_mono}
use mir.Val.{Fits}
use mir.Syntax.{w8}
use Rattle.std.proofs.lemmas.List.{nil_from_length}
use lib.Seq.{take-append_seam, drop-cons, take_all, take-append-le, length-take-le, set_at}
use borrow.Author.Tests.{lt-ltb, le-ltb}
use Rattle.d3d9_types.specs.Light.{default_light}
use Rattle.d3d9_types.specs.declared.light.D3DLIGHT9.{D3DLIGHT9}
use Rattle.light_table.specs.Active.{slots_from, is_active, active_overflow, listed, no_lights, pushed, push_all, kind_mask}
use Rattle.words.specs.Bits.{has_bit}
use Rattle.light_table.specs.declared.entry.OverflowLight.{OverflowLight}
use Rattle.words.proofs.Words.{flag_is, flag_small_cond}
use Rattle.light_table.specs.declared.active.ActiveLights.{ActiveLights}

-- a list of at most eight, padded
abbrev padded : List D3DLIGHT9 → ActiveLights
padded ls = record { lights = ls ++ replicate (8 - length ls) default_light; len = length ls }

listed_short : (limit : ℕ) (ls : List D3DLIGHT9) → length ls ≤ limit → listed limit ls ≡ padded ls
unfolding listed
listed_short limit ls h = ap padded (take_all limit ls h)

module _ (limit : ℕ) (small : limit ≤ 8) (ls : List D3DLIGHT9) (l : D3DLIGHT9) where
  -- there is room: the light goes behind the others
  behind : length ls < limit → pushed limit (listed limit ls) l ≡ listed limit (ls ++ (l ∷ []))
  unfolding pushed
  behind h =
      let n : ℕ = length ls in
      let m : 8 - n ≡ suc (8 - (n + 1)) = omega arith in
      let long : length (ls ++ (l ∷ [])) ≡ n + 1 = length-append ls (l ∷ []) in
      let stored : set (ls ++ replicate (8 - n) default_light) n l ≡ (ls ++ (l ∷ [])) ++ replicate (8 - (n + 1)) default_light =
      ap (λ (k : ℕ). set (ls ++ replicate k default_light) n l) m
      ∙ set_at ls default_light (replicate (8 - (n + 1)) default_light) l n refl
      ∙ sym (append_assoc ls (l ∷ []) (replicate (8 - (n + 1)) default_light)) in
      rw (listed_short limit ls (le_of_lt h), lt-ltb n limit h)
      (ap₂ (λ (x : List D3DLIGHT9) (k : ℕ). record { lights = x; len = k }) (stored ∙ ap (λ (k : ℕ). (ls ++ (l ∷ [])) ++ replicate (8 - k) default_light) (sym long)) (sym long)
      ∙ sym (listed_short limit (ls ++ (l ∷ [])) (omega arith)))

  -- there is none: nothing changes
  beyond : limit ≤ length ls → pushed limit (listed limit ls) l ≡ listed limit (ls ++ (l ∷ []))
  unfolding pushed listed
  beyond h = rw (length-take-le limit ls h, le-ltb limit limit (le_refl limit), take-append-le limit ls (l ∷ []) h) (rw (length-take-le limit ls h))

  pushed-listed : pushed limit (listed limit ls) l ≡ listed limit (ls ++ (l ∷ []))
  pushed-listed = either (dec_le limit (length ls))
    where
      either : Dec (limit ≤ length ls) → pushed limit (listed limit ls) l ≡ listed limit (ls ++ (l ∷ []))
      either (yes h) = beyond h
      either (no f) = behind (omega (arith, lt_of_not-le f))

push_all_listed : (limit : ℕ) → limit ≤ 8 → (ls ms : List D3DLIGHT9) → push_all limit (listed limit ls) ms ≡ listed limit (ls ++ ms)
unfolding push_all
push_all_listed limit h ls [] = ap (listed limit) (sym (append-nil ls))
push_all_listed limit h ls (m ∷ ms) =
    ap (λ (a : ActiveLights). push_all limit a ms) (pushed-listed limit h ls m)
    ∙ push_all_listed limit h (ls ++ (m ∷ [])) ms
    ∙ ap (listed limit) (append_assoc ls (m ∷ []) ms)

none : (limit : ℕ) → no_lights ≡ listed limit []
unfolding no_lights
none limit = sym (listed_short limit [] zero-le)

-- two lists one after the other, from nothing
pub pushed_two : (limit : ℕ) → limit ≤ 8 → (ls ms : List D3DLIGHT9) → push_all limit (push_all limit no_lights ls) ms ≡ listed limit (ls ++ ms)
pushed_two limit h ls ms =
    ap (λ (a : ActiveLights). push_all limit a ms) (ap (λ (a : ActiveLights). push_all limit a ls) (none limit) ∙ push_all_listed limit h [] ls)
    ∙ push_all_listed limit h ls ms

-- a light that is pushed or not is pushed from a list that has it or not
push_if : (limit : ℕ) (t : Bool) (a : ActiveLights) (l : D3DLIGHT9) (ls : List D3DLIGHT9)
    → push_all limit (cond t (pushed limit a l) a) ls ≡ push_all limit a (cond t (l ∷ ls) ls)
unfolding push_all
push_if limit true a l ls = refl
push_if limit false a l ls = refl

module _ (limit : ℕ) (list a : ActiveLights) (l : D3DLIGHT9) (t : Bool) where
  pub taken : t ≡ true → a ≡ pushed limit list l → a ≡ cond t (pushed limit list l) list
  taken e f = rw e f

  pub left_out : t ≡ false → a ≡ list → a ≡ cond t (pushed limit list l) list
  left_out e f = rw e f

-- ---- one turn of each loop: what is left to push, with and without the light at i

slots-from : (i mask : ℕ) (ls : List D3DLIGHT9) (d : D3DLIGHT9) → i < length ls
    → slots_from i mask (drop i ls) ≡ cond (has_bit mask i) (get_or ls i d ∷ slots_from (suc i) mask (drop (suc i) ls)) (slots_from (suc i) mask (drop (suc i) ls))
unfolding slots_from
slots-from i mask ls d h = rw (drop-cons ls i d h)

pub slots_again : (limit mask i : ℕ) (ls : List D3DLIGHT9) (d : D3DLIGHT9) (list a : ActiveLights) (t : Bool) → i < length ls → t ≡ has_bit mask i
    → a ≡ cond t (pushed limit list (get_or ls i d)) list
    → push_all limit a (slots_from (i + 1) mask (drop (i + 1) ls)) ≡ push_all limit list (slots_from i mask (drop i ls))
slots_again limit mask i ls d list a t h e p =
    rw (add-one i, p, e)
    (push_if limit (has_bit mask i) list (get_or ls i d) (slots_from (suc i) mask (drop (suc i) ls)) ∙ ap (push_all limit list) (sym (slots-from i mask ls d h)))

overflow_from : (i : ℕ) (es : List OverflowLight) (d : OverflowLight) → i < length es
    → active_overflow (drop i es) ≡ cond (is_active (get_or es i d)) ((get_or es i d).light ∷ active_overflow (drop (suc i) es)) (active_overflow (drop (suc i) es))
unfolding active_overflow
overflow_from i es d h = rw (drop-cons es i d h)

pub overflow_again : (limit i : ℕ) (es : List OverflowLight) (d e : OverflowLight) (list a : ActiveLights) (t : Bool) → i < length es → get_or es i d ≡ e → t ≡ is_active e
    → a ≡ cond t (pushed limit list e.light) list
    → push_all limit a (active_overflow (drop (i + 1) es)) ≡ push_all limit list (active_overflow (drop i es))
overflow_again limit i es d e list a t h g q p =
    rw (add-one i, p, q, ← g)
    (push_if limit (is_active (get_or es i d)) list (get_or es i d).light (active_overflow (drop (suc i) es)) ∙ ap (push_all limit list) (sym (overflow_from i es d h)))

-- ---- the mask of a type

pub kind_mask_lt : (t : ℕ) (ls : List D3DLIGHT9) → kind_mask t ls < 2 ^ length ls
unfolding kind_mask
kind_mask_lt t [] = lit< tt
kind_mask_lt t (l ∷ ls) = omega (arith, kind_mask_lt t ls, pow-suc 2 (length ls), flag_small_cond (eqb l.type_ t))

-- one light more in front
pub kind_more : (t : ℕ) (l : D3DLIGHT9) (ls : List D3DLIGHT9) → kind_mask t ls * 2 + bool_byte (eqb l.type_ t) ≡ kind_mask t (l ∷ ls)
unfolding kind_mask
kind_more t l ls = ap (λ (n : ℕ). kind_mask t ls * 2 + n) (flag_is (eqb l.type_ t))

-- the mask of at most seven lights
pub kind_small : (t : ℕ) (ls : List D3DLIGHT9) → length ls ≤ 7 → kind_mask t ls < 128
kind_small t ls few = lt_of_lt_of_le (kind_mask_lt t ls) (pow_mono {i = length ls} {j = 7} few)

-- some lights are left and the others done, of which the mask is
module _ (t mask : ℕ) (all rest done : List D3DLIGHT9) (parts : rest ++ done ≡ all) (is : mask ≡ kind_mask t done) where
  -- where one is left, at most seven are done
  pub kind_room : length all ≤ 8 → (more : List D3DLIGHT9) (l : D3DLIGHT9) → rest ≡ more ++ (l ∷ []) → mask < 128
  kind_room few more l e =
      let long = simp length-append at (ap length parts) in
      let left = simp length-append at (ap length e) in
      rw is (kind_small t done (omega (arith, long, left)))

  pub kind_turn : (more : List D3DLIGHT9) (l : D3DLIGHT9) → rest ≡ more ++ (l ∷ [])
      → (more ++ (l ∷ done) ≡ all) × (mask * 2 + bool_byte (eqb l.type_ t) ≡ kind_mask t (l ∷ done))
  kind_turn more l e = (
    sym (append_assoc more (l ∷ []) done) ∙ ap (λ (r : List D3DLIGHT9). r ++ done) (sym e) ∙ parts,
    ap (λ (m : ℕ). m * 2 + bool_byte (eqb l.type_ t)) is ∙ kind_more t l done,
  )

  pub kind_done : length rest ≡ 0 → mask ≡ kind_mask t all
  kind_done e = is ∙ ap (kind_mask t) (ap (λ (r : List D3DLIGHT9). r ++ done) (sym (nil_from_length rest e)) ∙ parts)

pub turn_fits : (m : ℕ) (b : Bool) → m < 128 → Fits w8 (m * 2 + bool_byte b)
turn_fits m true h = omega arith
turn_fits m false h = omega arith

-- ---- a listed list, read back

pub few : (limit : ℕ) → limit ≤ 8 → (ls : List D3DLIGHT9) → length (take limit ls) ≤ 8
few limit h ls = le_trans (simp length-take (min-le_left limit (length ls))) h

pub listed_len : (limit : ℕ) → limit ≤ 8 → (ls : List D3DLIGHT9) → (listed limit ls).len ≤ 8
unfolding listed
listed_len limit h ls = few limit h ls

pub listed_front : (limit : ℕ) (ls : List D3DLIGHT9) → take (listed limit ls).len (listed limit ls).lights ≡ take limit ls
unfolding listed
listed_front limit ls = take-append_seam (take limit ls) (replicate (8 - length (take limit ls)) default_light)
