-- A light in a slot: setting and enabling keep the masks right, and change the light of the index. Assumes nothing.
use Prim.Native.Nat.{ℕ, ◌<◌}
use native.Mathlib.Omega.{arith}
use mathlib.Core.Path.{◌≡◌, refl, sym, ap, subst, ◌∙◌}
use mathlib.Core.Bool.{Bool, true, false, cond, ◌&&◌, true≢false}
use mathlib.Core.List.{List}
use lib.Dec.{eqb}
use lib.ListN.{length, get_or, set, length-set}
use borrow.Author.Tests.{eqb-true, eq-eqb}
use Rattle.d3d9_types.proofs.Fits.{default_light_fits}
use Rattle.lemmas.proofs.Branch.{branch}
use Rattle.d3d9_types.specs.Light.{default_light, lightFits}
use Rattle.d3d9_types.specs.declared.light.D3DLIGHT9.{D3DLIGHT9}
use Rattle.words.specs.Bits.{has_bit, with_bit}
use Rattle.ff_state.specs.State.{with_lights, with_light_enabled, with_light_set_mask, with_light_defined_mask, with_light_directional_mask, with_light_spot_mask}
use Rattle.light_table.specs.Kinds.{contributes}
use Rattle.ff_state.specs.Slots.{set_slot, define_slot, enable_slot}
use Rattle.ff_state.specs.Valid.{Valid, SlotsValid}
use Rattle.ff_state.specs.declared.state.FfState.{FfState}
use Rattle.words.proofs.Words.{has_with_bit, with_bit_lt}
use Rattle.lemmas.proofs.Lists.{get_d_set, set_has}

-- ---- one bit of a mask, and the light beside it

module _ (i : ℕ) (ls : List D3DLIGHT9) (l : D3DLIGHT9) (h : i < length ls) (j de : ℕ) where
  -- a mask of the defined slots whose lights pass a test
  mask_kept : (test : D3DLIGHT9 → Bool) (w : ℕ) → has_bit w j ≡ (has_bit de j && test (get_or ls j default_light))
      → has_bit (with_bit w i (test l)) j ≡ (has_bit (with_bit de i true) j && test (get_or (set ls i l) j default_light))
  mask_kept test w old = rw (has_with_bit w i j (test l), has_with_bit de i j true, get_d_set ls i l default_light h j) (go (eqb i j))
    where
      go : (t : Bool) → cond t (test l) (has_bit w j) ≡ (cond t true (has_bit de j) && test (cond t l (get_or ls j default_light)))
      go true = refl
      go false = old

  undefined_kept : (has_bit de j ≡ false → get_or ls j default_light ≡ default_light) → has_bit (with_bit de i true) j ≡ false → get_or (set ls i l) j default_light ≡ default_light
  undefined_kept old e = rw (get_d_set ls i l default_light h j) (go (eqb i j) (sym (has_with_bit de i j true) ∙ e))
    where
      go : (t : Bool) → cond t true (has_bit de j) ≡ false → cond t l (get_or ls j default_light) ≡ default_light
      go true q = absurd (true≢false q)
      go false q = old q

on_still : (de i j : ℕ) → has_bit de j ≡ true → has_bit (with_bit de i true) j ≡ true
on_still de i j h = has_with_bit de i j true ∙ branch (λ (b : Bool). b ≡ true) (eqb i j) true (has_bit de j) (λ t. refl) (λ t. h)

on_now : (w i : ℕ) (b : Bool) → has_bit (with_bit w i b) i ≡ b
on_now w i b = has_with_bit w i i b ∙ ap (λ (t : Bool). cond t b (has_bit w i)) (eq-eqb i i refl)

-- ---- validity

module _ {s : FfState} (v : Valid s) where
  -- a valid state, with other slots
  slots_valid : {ls : List D3DLIGHT9} {e st de di sp : ℕ} → length ls ≡ 8 → ((j : ℕ) → j < 8 → lightFits (get_or ls j default_light))
      → SlotsValid ls e st de di sp
      → Valid (with_light_spot_mask (with_light_directional_mask (with_light_set_mask (with_light_defined_mask (with_light_enabled (with_lights s ls) e) de) st) di) sp)
  slots_valid long fits h =
      record {
        palette_length = v.palette_length;
        texture_length = v.texture_length;
        lights_length = long;
        overflow_length = v.overflow_length;
        high_water = v.high_water;
        states = v.states;
        texture-mask = v.texture-mask;
        dirty = v.dirty;
        slots = h;
        overflow = v.overflow;
        floats =
            record {
              view = v.floats.view;
              projection = v.floats.projection;
              palette = v.floats.palette;
              texture = v.floats.texture;
              material = v.floats.material;
              lights = fits;
              overflow = v.floats.overflow;
            };
      }

  module _ (i : ℕ) (low : i < 8) where
    pub set_slot_valid : (l : D3DLIGHT9) → lightFits l → Valid (set_slot s i l)
    unfolding set_slot
    set_slot_valid l f =
        let ls = s.lights in
        let de = s.light_defined_mask in
        let o = v.slots in
        let h : i < length s.lights = omega (arith, v.lights_length) in
        slots_valid (length-set ls i l ∙ v.lights_length) (λ j g. set_has ls i l default_light h lightFits f j (v.floats.lights j g))
        (record {
          enabled_width = o.enabled_width;
          set_width = with_bit_lt 8 s.light_set_mask i (contributes l.type_) low o.set_width;
          defined_width = with_bit_lt 8 de i true low o.defined_width;
          directional_width = with_bit_lt 8 s.light_directional_mask i (eqb l.type_ 3) low o.directional_width;
          spot_width = with_bit_lt 8 s.light_spot_mask i (eqb l.type_ 2) low o.spot_width;
          enabled_defined = λ j g e. on_still de i j (o.enabled_defined j g e);
          undefined_default = λ j g. undefined_kept i ls l h j de (o.undefined_default j g);
          set-mask = λ j g. mask_kept i ls l h j de (λ x. contributes x.type_) s.light_set_mask (o.set-mask j g);
          directional_mask = λ j g. mask_kept i ls l h j de (λ x. eqb x.type_ 3) s.light_directional_mask (o.directional_mask j g);
          spot_mask = λ j g. mask_kept i ls l h j de (λ x. eqb x.type_ 2) s.light_spot_mask (o.spot_mask j g);
        })

    -- the enable of a slot that is defined
    enabled_valid : (on : Bool) → has_bit s.light_defined_mask i ≡ true → Valid (with_light_enabled s (with_bit s.light_enabled i on))
    enabled_valid on d =
        let o = v.slots in
        let w = s.light_enabled in
        slots_valid v.lights_length v.floats.lights
        (record {
          enabled_width = with_bit_lt 8 w i on low o.enabled_width;
          set_width = o.set_width;
          defined_width = o.defined_width;
          directional_width = o.directional_width;
          spot_width = o.spot_width;
          enabled_defined = λ j g e. defined_there j (o.enabled_defined j g) (sym (has_with_bit w i j on) ∙ e);
          undefined_default = o.undefined_default;
          set-mask = o.set-mask;
          directional_mask = o.directional_mask;
          spot_mask = o.spot_mask;
        })
      where
        defined_there : (j : ℕ) → (has_bit s.light_enabled j ≡ true → has_bit s.light_defined_mask j ≡ true)
            → cond (eqb i j) on (has_bit s.light_enabled j) ≡ true → has_bit s.light_defined_mask j ≡ true
        defined_there j old =
            branch (λ (b : Bool). b ≡ true → has_bit s.light_defined_mask j ≡ true) (eqb i j) on (has_bit s.light_enabled j)
            (λ (t : eqb i j ≡ true) q. subst (λ (k : ℕ). has_bit s.light_defined_mask k ≡ true) (eqb-true i j t) d)
            (λ t q. old q)

    define_valid : Valid (define_slot s i)
    unfolding define_slot
    define_valid = branch Valid (has_bit s.light_defined_mask i) s (set_slot s i default_light) (λ t. v) (λ t. set_slot_valid default_light default_light_fits)

  define_defines : (i : ℕ) → has_bit (define_slot s i).light_defined_mask i ≡ true
  unfolding define_slot set_slot
  define_defines i =
      branch (λ (t : FfState). has_bit t.light_defined_mask i ≡ true) (has_bit s.light_defined_mask i) s (set_slot s i default_light)
      (λ t. t) (λ t. on_now s.light_defined_mask i true)

pub enable_slot_valid : {s : FfState} → Valid s → (i : ℕ) → i < 8 → (on : Bool) → Valid (enable_slot s i on)
unfolding enable_slot
enable_slot_valid v i low on = enabled_valid (define_valid v i low) i low on (define_defines v i)
