-- Document 01, 'Cases': P1 to P12, each a test. "States start fresh, and key fields not named are 0."
use Rattle.std.specs.Prelude.{ℕ, zero, suc, ◌+◌, ◌*◌, Bool, true, false, ◌&&◌, List, [], ◌∷◌, map, eqb, pos, get_or, replicate}
use Rattle.std.specs.Float.{binary32}
use Rattle.std.specs.Float.Ieee.{of_int, to_bits}
use Rattle.d3d9_types.specs.Numbers as Numbers
use Rattle.d3d9_types.specs.Matrix.{identity}
use Rattle.d3d9_types.specs.Light.{default_light}
use Rattle.d3d9_types.specs.declared.matrix.D3DMATRIX.{D3DMATRIX}
use Rattle.d3d9_types.specs.declared.light.D3DLIGHT9.{D3DLIGHT9}
use Rattle.ff_state.specs.State.{fresh_state}
use Rattle.ff_state.specs.Transforms.{set_transform}
use Rattle.ff_state.specs.Lights.{set_light_at, set_light_enabled_at, light_number}
use Rattle.ff_state.specs.Cases.{light_of, p7, p8}
use Rattle.sections.specs.declared.sections.Section.{Section}
use Rattle.sections.specs.declared.sections.Section.TheVariants.{Wv, Lights}
use Rattle.ff_state.specs.declared.state.FfState.{FfState}
use Rattle.sections.specs.RowCount.{ff_vs_row_count}
use Rattle.sections.specs.declared.key.FfVsKey.{FfVsKey}
use Rattle.packing.specs.Pack.{pack_section, state_count}
use Rattle.packing.specs.Inputs.{inputs_of}

-- HAS_RHW, LIGHTING_ENABLED, SPECULAR_ENABLE, VERTEX_BLEND_INDEXED, light_active_mask, vertex_blend_count; on the main screen
abbrev pub key_of : Bool → Bool → Bool → Bool → ℕ → ℕ → FfVsKey
key_of rhw lit specular indexed mask count =
    record {
      has_rhw = rhw;
      lighting_enabled = lit;
      specular_enable = specular;
      vertex_blend_indexed = indexed;
      preview = false;
      light_active_mask = mask;
      fog_mode = 0;
      vertex_blend_count = count;
    }

abbrev rows : FfVsKey → ℕ → Bool
rows k n = eqb (ff_vs_row_count k (inputs_of fresh_state).texture_mask) n

-- "P1 unlit row count 11."
unfoldable pub p1 : Bool
p1 = rows (key_of false false false false 0 0) 11

-- "P2 lit 14, specular 15."
unfoldable pub p2 : Bool
p2 = rows (key_of false true false false 0 0) 14 && rows (key_of false true true false 0 0) 15

-- "P3 lit mask 1: 21; 0xFF: 63."
unfoldable pub p3 : Bool
p3 = rows (key_of false true false false 1 0) 21 && rows (key_of false true false false 0xFF 0) 63

-- "P4 unlit, indexed count 1: 255."
unfoldable pub p4 : Bool
p4 = rows (key_of false false false true 0 1) 255

-- "P5 unlit, unindexed 255: 1,115."
unfoldable pub p5 : Bool
p5 = rows (key_of false false false false 0 255) 1115

-- "P6 HAS_RHW: 1."
unfoldable pub p6 : Bool
p6 = rows (key_of true false false false 0 0) 1

-- a fresh state with n point lights from index 8 on
unfoldable pub crowded : ℕ → FfState
crowded zero = fresh_state
crowded (suc n) = (set_light_at (crowded n) (8 + n) (light_of 1)).state

abbrev taken : ℕ → ℕ
taken n = light_number (set_light_at (crowded n) (8 + n) (light_of 1)).answer

-- "P9 entry 56 taken, 57 refused 3."
unfoldable pub p9 : Bool
p9 = eqb (taken 55) 0 && eqb (taken 56) 3

-- the bits of a section, packed into zeros
unfoldable pub packed : Section → FfState → FfVsKey → List ℕ
packed σ s k = map (to_bits binary32) (pack_section σ s k (replicate (4 * state_count σ s k) Numbers.zero)).floats

-- the four floats of row r have these bits
abbrev row_is : List ℕ → ℕ → ℕ → ℕ → ℕ → ℕ → Bool
row_is xs r a b c d = eqb (get_or xs (4 * r) 0) a && eqb (get_or xs (4 * r + 1) 0) b && eqb (get_or xs (4 * r + 2) 0) c && eqb (get_or xs (4 * r + 3) 0) d

abbrev translation : ℕ → ℕ → ℕ → D3DMATRIX
translation x y z =
    record identity {
      r3 = record { x = of_int binary32 (pos x); y = of_int binary32 (pos y); z = of_int binary32 (pos z); w = Numbers.one };
    }

-- "P10 world translation 5,6,7: WV row 0 is 1,0,0,5."
unfoldable pub p10 : Bool
p10 =
    row_is (packed Wv (set_transform fresh_state 256 (translation 5 6 7)).state (key_of false false false false 0 0)) 0
    0x3F800000 0 0 0x40A00000

-- a light of a type whose direction has this third part
abbrev towards : ℕ → ℕ → D3DLIGHT9
towards kind z =
    record default_light {
      type_ = kind;
      direction = record { x = Numbers.zero; y = Numbers.zero; z = of_int binary32 (pos z) };
    }

-- the packed lights of a fresh state in which light 0 is this one, enabled
abbrev packed_light : D3DLIGHT9 → List ℕ
packed_light l = packed Lights (set_light_enabled_at (set_light_at fresh_state 0 l).state 0 true).state (key_of false true false false 1 0)

-- "P11 direction 0,0,2 packs 0,0,1.": beside it the floor, 1e-6
unfoldable pub p11 : Bool
p11 = row_is (packed_light (towards 3 2)) 1 0 0 0x3F800000 0x358637BD

-- "P12 spot theta = phi = 0: scale 1,000,000, offset −1,000,000."
unfoldable pub p12 : Bool
p12 = let xs = packed_light (towards 2 1) in eqb (get_or xs 23 0) 0x49742400 && eqb (get_or xs 15 0) 0xC9742400

unfoldable pub cases : List Bool
cases = p1 ∷ p2 ∷ p3 ∷ p4 ∷ p5 ∷ p6 ∷ p7 ∷ p8 ∷ p9 ∷ p10 ∷ p11 ∷ p12 ∷ []
