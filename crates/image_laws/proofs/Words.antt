-- Matrices, materials, lights and entries as words of four bytes: the words that are written for floats are plain, and plain words are written as they were read.
-- Assumes nothing.
use Prim.Native.Nat.{ℕ, zero, suc, ◌+◌, ◌*◌, ◌%◌, ◌^◌, ◌<◌}
use native.Mathlib.Omega.{arith}
use mathlib.Core.Path.{◌≡◌, refl, sym, ap, ◌∙◌}
use mathlib.Core.Bool.{Bool, true, false, ◌||◌}
use mathlib.Core.List.{List, [], ◌∷◌, ◌++◌, flatten}
use lib.Dec.{leb, ltb, eqb}
use lib.Ieee.{Float, binary32, is_nan, nan, to_bits}
use lib.Ieee.Bits.{of_bits-to_bits, to_bits-lt, nan_bits_is, nan_bits_above}
use lib.ListN.{length, get_or}
use borrow.Author.Tests.{ltb-false, le-leb, eq-eqb}
use Rattle.d3d9_types.proofs.Fits.{color_row_fits}
use Rattle.d3d9_types.specs.Numbers.{float_fits}
use Rattle.d3d9_types.specs.Color.{color_row, colorFits}
use Rattle.d3d9_types.specs.Light.{lightFits}
use Rattle.d3d9_types.specs.Material.{materialFits}
use Rattle.d3d9_types.specs.Matrix.{rowFits, matrixFits}
use Rattle.d3d9_types.specs.RenderStates.{statesFit}
use Rattle.d3d9_types.specs.Vector.{vectorFits}
use Rattle.d3d9_types.specs.declared.color.D3DCOLORVALUE.{D3DCOLORVALUE}
use Rattle.d3d9_types.specs.declared.light.D3DLIGHT9.{D3DLIGHT9}
use Rattle.d3d9_types.specs.declared.material.D3DMATERIAL9.{D3DMATERIAL9}
use Rattle.d3d9_types.specs.declared.matrix.D3DMATRIX.{D3DMATRIX}
use Rattle.d3d9_types.specs.declared.matrix.Row.{Row}
use Rattle.d3d9_types.specs.declared.render_states.RenderStates.{RenderStates}
use Rattle.d3d9_types.specs.declared.vector.D3DVECTOR.{D3DVECTOR}
use Rattle.float32.proofs.Nan.{nan_is}
use Rattle.codec.specs.Little.{little_bytes}
use Rattle.codec.specs.Float.{float_bytes}
use Rattle.codec.specs.Matrix.{row_bytes, matrix_bytes}
use Rattle.codec.specs.Color.{color_bytes}
use Rattle.codec.specs.Vector.{vector_bytes}
use Rattle.codec.specs.Material.{material_bytes}
use Rattle.codec.specs.Light.{light_bytes}
use Rattle.codec.specs.RenderStates.{states_bytes}
use Rattle.codec.proofs.Laws.Little.{length-little_bytes}
use Rattle.light_table.specs.declared.entry.OverflowLight.{OverflowLight}
use Rattle.codec.specs.Entry.{entry_bytes}
use Rattle.image_lists.specs.Lists.{list_bytes}
use Rattle.image_reasons.specs.Tests.{plain_word, plain_at, nan_free}
use Rattle.image_reasons.proofs.Every.{every_is}
use Rattle.image_laws.proofs.IsAt.{IsAt, item_is, is_number}

abbrev pub bits : Float → ℕ
bits x = to_bits binary32 x

-- ---- the floats of each item as words

abbrev pub row_words : Row → List ℕ
row_words r = bits r.x ∷ bits r.y ∷ bits r.z ∷ bits r.w ∷ []

abbrev pub color_words : D3DCOLORVALUE → List ℕ
color_words c = row_words (color_row c)

abbrev pub vector_words : D3DVECTOR → List ℕ
vector_words v = bits v.x ∷ bits v.y ∷ bits v.z ∷ []

abbrev pub matrix_words : D3DMATRIX → List ℕ
matrix_words m = row_words m.r0 ++ (row_words m.r1 ++ (row_words m.r2 ++ row_words m.r3))

abbrev pub material_words : D3DMATERIAL9 → List ℕ
material_words m =
    color_words m.diffuse ++ (color_words m.ambient ++ (color_words m.specular ++ (color_words m.emissive ++ (bits m.power ∷ []))))

-- of a light, those behind its type
abbrev pub light_floats : D3DLIGHT9 → List ℕ
light_floats l =
    color_words l.diffuse
    ++ (color_words l.specular
    ++ (color_words l.ambient
    ++ (vector_words l.position
    ++ (vector_words l.direction
    ++ (bits l.range
    ∷ bits l.falloff
    ∷ bits l.attenuation0
    ∷ bits l.attenuation1
    ∷ bits l.attenuation2
    ∷ bits l.theta
    ∷ bits l.phi
    ∷ [])))))

-- of the render states, those before the ambient colour
abbrev pub fog_words : RenderStates → List ℕ
fog_words r = bits r.fog_start ∷ bits r.fog_end ∷ bits r.fog_density ∷ []

abbrev pub word_bytes : List ℕ → List ℕ
word_bytes ws = list_bytes (little_bytes 4) ws

pub matrix-words : (m : D3DMATRIX) → matrix_bytes m ≡ word_bytes (matrix_words m)
unfolding matrix_bytes row_bytes flatten float_bytes little_bytes list_bytes
matrix-words m = refl

pub material-words : (m : D3DMATERIAL9) → material_bytes m ≡ word_bytes (material_words m)
unfolding material_bytes color_bytes row_bytes flatten float_bytes little_bytes list_bytes
material-words m = refl

pub light-words : (l : D3DLIGHT9) → light_bytes l ≡ word_bytes (l.type_ ∷ light_floats l)
unfolding light_bytes color_bytes vector_bytes row_bytes flatten float_bytes little_bytes list_bytes
light-words l = refl

pub entry_words : (e : OverflowLight) → entry_bytes e ≡ word_bytes (e.index ∷ e.enabled ∷ e.light.type_ ∷ light_floats e.light)
unfolding entry_bytes light_bytes color_bytes vector_bytes row_bytes flatten float_bytes little_bytes list_bytes
entry_words e = refl

pub states_words : (r : RenderStates) → states_bytes r ≡ word_bytes (fog_words r ++ (r.ambient ∷ []))
unfolding states_bytes flatten float_bytes little_bytes list_bytes
states_words r = refl

-- ---- what is written for a float that fits is plain

pub record Plain (n : ℕ) : Type 0 where
  pub plain : plain_word n ≡ true
  pub small : n < 2 ^ 32

or_right : (a b : Bool) → b ≡ true → (a || b) ≡ true
or_right true b e = refl
or_right false b e = e

the_nan : bits nan ≡ 0x7FC0_0000
unfolding to_bits
the_nan = refl

bits_plain : (x : Float) → float_fits x → Plain (bits x)
unfolding plain_word
bits_plain x h = record { plain = by_cases (is_nan x) refl; small = to_bits-lt binary32 x h }
  where
    by_cases : (t : Bool) → is_nan x ≡ t → (leb (bits x % 0x8000_0000) 0x7F80_0000 || eqb (bits x) 0x7FC0_0000) ≡ true
    by_cases true e =
        or_right (leb (bits x % 0x8000_0000) 0x7F80_0000) (eqb (bits x) 0x7FC0_0000) (eq-eqb (bits x) 0x7FC0_0000 (ap bits (nan_is x e) ∙ the_nan))
    by_cases false e =
        let below : ltb 0x7F80_0000 (bits x % 0x8000_0000) ≡ false =
        sym (nan_bits_above binary32 (bits x)) ∙ nan_bits_is binary32 (bits x) ∙ ap is_nan (of_bits-to_bits binary32 x h) ∙ e in
        rw (le-leb (bits x % 0x8000_0000) 0x7F80_0000 (ltb-false 0x7F80_0000 (bits x % 0x8000_0000) below))

pub data Plains : List ℕ → Type 0 where
  none : Plains []
  more : {n : ℕ} {ns : List ℕ} → Plain n → Plains ns → Plains (n ∷ ns)

plain-at : {ns : List ℕ} → Plains ns → (i : ℕ) → i < length ns → Plain (get_or ns i 0)
plain-at none i l = absurd (omega arith)
plain-at (more h hs) zero l = h
plain-at (more h hs) (suc i) l = plain-at hs i (omega arith)

module _ {ns : List ℕ} where
  and_row : {r : Row} → rowFits r → Plains ns → Plains (row_words r ++ ns)
  and_row h k = more (bits_plain _ h.x) (more (bits_plain _ h.y) (more (bits_plain _ h.z) (more (bits_plain _ h.w) k)))

  and_color : {c : D3DCOLORVALUE} → colorFits c → Plains ns → Plains (color_words c ++ ns)
  and_color h k = and_row (color_row_fits h) k

  and_vector : {v : D3DVECTOR} → vectorFits v → Plains ns → Plains (vector_words v ++ ns)
  and_vector h k = more (bits_plain _ h.x) (more (bits_plain _ h.y) (more (bits_plain _ h.z) k))

pub matrix_plain : {m : D3DMATRIX} → matrixFits m → Plains (matrix_words m)
matrix_plain h = and_row h.r0 (and_row h.r1 (and_row h.r2 (and_row h.r3 none)))

pub material_plain : {m : D3DMATERIAL9} → materialFits m → Plains (material_words m)
material_plain h =
    and_color h.diffuse (and_color h.ambient (and_color h.specular (and_color h.emissive (more (bits_plain _ h.power) none))))

pub light_plain : {l : D3DLIGHT9} → lightFits l → Plains (light_floats l)
light_plain h =
    let last = more (bits_plain _ h.attenuation2) (more (bits_plain _ h.theta) (more (bits_plain _ h.phi) none)) in
    let seven = more (bits_plain _ h.range) (more (bits_plain _ h.falloff) (more (bits_plain _ h.attenuation0) (more (bits_plain _ h.attenuation1) last))) in
    and_color h.diffuse (and_color h.specular (and_color h.ambient (and_vector h.position (and_vector h.direction seven))))

pub fog_plain : {r : RenderStates} → statesFit r → Plains (fog_words r)
fog_plain h = more (bits_plain _ h.fog_start) (more (bits_plain _ h.fog_end) (more (bits_plain _ h.fog_density) none))

-- plain words at a place pass
pub plain_pass : (ns bytes : List ℕ) (at : ℕ) → IsAt (word_bytes ns) bytes at → Plains ns → nan_free (length ns) bytes at ≡ true
unfolding nan_free
plain_pass ns bytes at h p =
    every_is (plain_at bytes at) (length ns)
    (λ (k : ℕ) (l : k < length ns).
    let n = plain-at p k l in
    rw (is_number 4 bytes (at + 4 * k) (get_or ns k 0) n.small (item_is (little_bytes 4) 4 (length-little_bytes 4) bytes 0 ns at k h l)) n.plain)
