-- Transforms: setting, multiplying and reading by the abstract state's numbers. Assumes nothing.
use Rattle.std.specs.Prelude.{Ok, Err}
use Prim.Native.Nat.{ℕ, ◌+◌, ◌-◌, ◌≤◌, ◌<◌, max}
use native.Mathlib.Nat.{max-le}
use native.Mathlib.Omega.{arith}
use mathlib.Core.Path.{◌≡◌, refl, sym, ap, ap₂, ◌∙◌}
use mathlib.Core.Bool.{true, false, cond}
use mathlib.Core.List.{List}
use lib.Dec.{eqb}
use lib.ListN.{length, get_or, set, length-set}
use borrow.Author.Tests.{eqb-true, eqb-false, eq-eqb, ne_eqb, le-leb, lt-leb}
use Rattle.lemmas.proofs.Branch.{branch}
use Rattle.d3d9_types.specs.Matrix.{matrixFits}
use Rattle.d3d9_types.specs.declared.matrix.D3DMATRIX.{D3DMATRIX}
use Rattle.matrix.specs.Product.{mat_mul}
use Rattle.matrix.proofs.Fits.{mat_mul_fits}
use Rattle.d3d9_model.specs.State.{AbstractState, raised, replaced_matrix}
use Rattle.d3d9_model.specs.Operations.{known, abstract_refusal, abstract_change, abstract_step}
use Rattle.d3d9_model.specs.Operations as Operations
use Rattle.ff_state.specs.State.{no_matrix, with_view, with_projection, with_world_palette, with_world_palette_high_water, with_texture_transforms}
use Rattle.sections.specs.Sections.{bits_of, all_bits}
use Rattle.ff_state.specs.Transforms.{slot_of, InRange, place_sections, place_bits, place_matrix, placed, change_at, set_transform, multiplied, multiply_transform, read_at, transform_of, transform_number}
use Rattle.ff_state.specs.Valid.{Valid}
use Rattle.ff_state.specs.declared.state.FfState.{FfState}
use Rattle.sections.specs.declared.sections.Section.{Section}
use Rattle.ff_state.specs.declared.transforms.Place.{Place}
use Rattle.ff_state.specs.declared.transforms.Place.TheVariants.{View, Projection, Texture, Palette}
use Rattle.agreement.specs.Agrees.{Agrees, state_lights}
use Rattle.agreement.proofs.Dirty.{dirtied_valid, dirtied_agrees}
use Rattle.lemmas.proofs.Lists.{get_d_set, set_has}
use Rattle.agreement.proofs.Numbers.{number, Named, place, no_place, named}

-- ---- a matrix stored at a place

module _ {s : FfState} (v : Valid s) where
  -- a valid state, with other matrices
  stored_valid : {p q : D3DMATRIX} {ps ts : List D3DMATRIX} {hw : ℕ} → length ps ≡ 256 → length ts ≡ 8 → hw ≤ 255 → matrixFits p → matrixFits q
      → ((i : ℕ) → i < 256 → matrixFits (get_or ps i no_matrix)) → ((i : ℕ) → i < 8 → matrixFits (get_or ts i no_matrix))
      → Valid (with_view (with_projection (with_world_palette_high_water (with_world_palette (with_texture_transforms s ts) ps) hw) q) p)
  stored_valid lp lt lh fp fq fps fts =
      record {
        palette_length = lp;
        texture_length = lt;
        lights_length = v.lights_length;
        overflow_length = v.overflow_length;
        high_water = lh;
        states = v.states;
        texture-mask = v.texture-mask;
        dirty = v.dirty;
        slots = v.slots;
        overflow = v.overflow;
        floats =
            record {
              view = fp;
              projection = fq;
              palette = fps;
              texture = fts;
              material = v.floats.material;
              lights = v.floats.lights;
              overflow = v.floats.overflow;
            };
      }

  placed_valid : (p : Place) (m : D3DMATRIX) → InRange p → matrixFits m → Valid (placed s p m)
  unfolding placed
  placed_valid View m h f = stored_valid v.palette_length v.texture_length v.high_water f v.floats.projection v.floats.palette v.floats.texture
  placed_valid Projection m h f = stored_valid v.palette_length v.texture_length v.high_water v.floats.view f v.floats.palette v.floats.texture
  placed_valid (Texture i) m h f =
      stored_valid v.palette_length (length-set s.texture_transforms i m ∙ v.texture_length) v.high_water v.floats.view v.floats.projection v.floats.palette
      (λ j g. set_has s.texture_transforms i m no_matrix (omega (arith, v.texture_length)) matrixFits f j (v.floats.texture j g))
  placed_valid (Palette i) m h f =
      stored_valid (length-set s.world_palette i m ∙ v.palette_length) v.texture_length (max-le v.high_water (omega arith)) v.floats.view v.floats.projection
      (λ j g. set_has s.world_palette i m no_matrix (omega (arith, v.palette_length)) matrixFits f j (v.floats.palette j g))
      v.floats.texture

place-bits : (p : Place) → place_bits p ≤ all_bits
unfolding place_sections
place-bits View = omega arith
place-bits Projection = omega arith
place-bits (Texture i) = omega arith
place-bits (Palette i) = branch (λ (σs : List Section). bits_of σs ≤ all_bits) (eqb i 0) _ _ (λ e. omega arith) (λ e. omega arith)

module _ {s : FfState} {a : AbstractState} (v : Valid s) (g : Agrees s a) (m : D3DMATRIX) where
  -- the abstract matrix of a number, after one is set
  hit : (k n : ℕ) → k ≡ n → (replaced_matrix a n m).matrix k ≡ m
  hit k n e = rw (eq-eqb k n e)

  missed : (k n : ℕ) → (k ≡ n → ⊥) → (replaced_matrix a n m).matrix k ≡ a.matrix k
  missed k n e = rw (ne_eqb k n e)

  -- the numbers of an array that begins at b
  stored : (ms : List D3DMATRIX) (b size i n : ℕ) → n ≡ b + i → i < size → length ms ≡ size → ((j : ℕ) → j < size → get_or ms j no_matrix ≡ a.matrix (b + j))
      → (j : ℕ) → j < size → get_or (set ms i m) j no_matrix ≡ (replaced_matrix a n m).matrix (b + j)
  stored ms b size i n e h l old j k =
      get_d_set ms i m no_matrix (omega arith) j
      ∙ branch (λ (x : D3DMATRIX). x ≡ (replaced_matrix a n m).matrix (b + j)) (eqb i j) m (get_or ms j no_matrix)
      (λ (t : eqb i j ≡ true). sym (hit (b + j) n (omega (arith, eqb-true i j t))))
      (λ (t : eqb i j ≡ false). old j k ∙ sym (missed (b + j) n (λ q. eqb-false i j t (omega arith))))

  -- the highest palette index: a number below the palette leaves it, and 256 + i raises it to i
  unraised : (n : ℕ) → n < 256 → s.world_palette_high_water ≡ raised a.highest_index n
  unfolding raised
  unraised n h = rw (lt-leb 256 n h) g.highest

  raised_to : (i n : ℕ) → n ≡ 256 + i → i < 256 → max s.world_palette_high_water i ≡ raised a.highest_index n
  unfolding raised
  raised_to i n e h =
      let j : i ≡ n - 256 = omega arith in
      rw (le-leb 256 n (omega arith), le-leb n 511 (omega arith)) (ap₂ max g.highest j)

  placed_agrees : (p : Place) (n : ℕ) → n ≡ number p → InRange p → Agrees (placed s p m) (replaced_matrix a n m)
  unfolding placed state_lights
  placed_agrees View n e h =
      record {
        matrices =
            record {
              view = sym (hit 2 n (sym e));
              projection = g.matrices.projection ∙ sym (missed 3 n (λ q. omega arith));
              texture = λ j k. g.matrices.texture j k ∙ sym (missed (16 + j) n (λ q. omega arith));
              palette = λ j k. g.matrices.palette j k ∙ sym (missed (256 + j) n (λ q. omega arith));
            };
        material = g.material;
        lights = g.lights;
        highest = unraised n (omega arith);
        states = g.states;
        texture-mask = g.texture-mask;
      }
  placed_agrees Projection n e h =
      record {
        matrices =
            record {
              view = g.matrices.view ∙ sym (missed 2 n (λ q. omega arith));
              projection = sym (hit 3 n (sym e));
              texture = λ j k. g.matrices.texture j k ∙ sym (missed (16 + j) n (λ q. omega arith));
              palette = λ j k. g.matrices.palette j k ∙ sym (missed (256 + j) n (λ q. omega arith));
            };
        material = g.material;
        lights = g.lights;
        highest = unraised n (omega arith);
        states = g.states;
        texture-mask = g.texture-mask;
      }
  placed_agrees (Texture i) n e h =
      record {
        matrices =
            record {
              view = g.matrices.view ∙ sym (missed 2 n (λ q. omega arith));
              projection = g.matrices.projection ∙ sym (missed 3 n (λ q. omega arith));
              texture = stored s.texture_transforms 16 8 i n e h v.texture_length g.matrices.texture;
              palette = λ j k. g.matrices.palette j k ∙ sym (missed (256 + j) n (λ q. omega arith));
            };
        material = g.material;
        lights = g.lights;
        highest = unraised n (omega arith);
        states = g.states;
        texture-mask = g.texture-mask;
      }
  placed_agrees (Palette i) n e h =
      record {
        matrices =
            record {
              view = g.matrices.view ∙ sym (missed 2 n (λ q. omega arith));
              projection = g.matrices.projection ∙ sym (missed 3 n (λ q. omega arith));
              texture = λ j k. g.matrices.texture j k ∙ sym (missed (16 + j) n (λ q. omega arith));
              palette = stored s.world_palette 256 256 i n e h v.palette_length g.matrices.palette;
            };
        material = g.material;
        lights = g.lights;
        highest = raised_to i n e h;
        states = g.states;
        texture-mask = g.texture-mask;
      }

-- ---- the calls: a change of the matrix that a number names

module _ {s : FfState} (v : Valid s) (n : ℕ) where
  module _ (f : Place → D3DMATRIX) where
    number_is : transform_number (change_at s (slot_of n) f).answer ≡ cond (known n) 0 1
    unfolding change_at transform_number
    number_is = go (named n)
      where
        go : Named n → transform_number (change_at s (slot_of n) f).answer ≡ cond (known n) 0 1
        go (place p h e q k) = rw (q, k)
        go (no_place q k) = rw (q, k)

    change_valid : ((p : Place) → matrixFits (f p)) → Valid (change_at s (slot_of n) f).state
    unfolding change_at
    change_valid fits = go (named n)
      where
        go : Named n → Valid (change_at s (slot_of n) f).state
        go (place p h e q k) = rw q (dirtied_valid (place_bits p) (place-bits p) (placed_valid v p (f p) h (fits p)))
        go (no_place q k) = rw q v

    -- the step of an operation that is refused by the number alone
    change_agrees : {a : AbstractState} (m : D3DMATRIX) → ((p : Place) → InRange p → n ≡ number p → f p ≡ m) → Agrees s a
        → Agrees (change_at s (slot_of n) f).state (cond (eqb (cond (known n) 0 1) 0) (replaced_matrix a n m) a)
    unfolding change_at
    change_agrees {a} m same g = go (named n)
      where
        go : Named n → Agrees (change_at s (slot_of n) f).state (cond (eqb (cond (known n) 0 1) 0) (replaced_matrix a n m) a)
        go (place p h e q k) = rw (q, k, same p h e) (dirtied_agrees (place_bits p) (placed_agrees v g m p n e h))
        go (no_place q k) = rw (q, k) g

  module _ (m : D3DMATRIX) where
    pub set-number : transform_number (set_transform s n m).answer ≡ cond (known n) 0 1
    unfolding set_transform
    set-number = number_is (λ p. m)

    pub set_valid : matrixFits m → Valid (set_transform s n m).state
    unfolding set_transform
    set_valid h = change_valid (λ p. m) (λ p. h)

    pub set_agrees : {a : AbstractState} → Agrees s a → Agrees (set_transform s n m).state (abstract_step a (Operations.set_transform n m))
    unfolding set_transform abstract_step abstract_refusal abstract_change
    set_agrees g = change_agrees (λ p. m) m (λ p h e. refl) g

    pub multiply_number : transform_number (multiply_transform s n m).answer ≡ cond (known n) 0 1
    unfolding multiply_transform
    multiply_number = number_is (multiplied s m)

    pub multiply_valid : Valid (multiply_transform s n m).state
    unfolding multiply_transform
    multiply_valid = change_valid (multiplied s m) (λ p. mat_mul_fits m (place_matrix s p))

matrix-at : {s : FfState} {a : AbstractState} → Agrees s a → (p : Place) → InRange p → place_matrix s p ≡ a.matrix (number p)
unfolding place_matrix
matrix-at g View h = g.matrices.view
matrix-at g Projection h = g.matrices.projection
matrix-at g (Texture i) h = g.matrices.texture i h
matrix-at g (Palette i) h = g.matrices.palette i h

module _ {s : FfState} {a : AbstractState} (v : Valid s) (g : Agrees s a) (n : ℕ) where
  pub multiply_agrees : (m : D3DMATRIX) → Agrees (multiply_transform s n m).state (abstract_step a (Operations.multiply_transform n m))
  unfolding multiply_transform abstract_step abstract_refusal abstract_change
  multiply_agrees m =
      change_agrees v n (multiplied s m) (mat_mul m (a.matrix n))
      (λ p h e. ap (mat_mul m) (matrix-at g p h ∙ ap a.matrix (sym e)))
      g

  -- a read refuses an unknown number, and gives the matrix of any other
  pub transform_read : transform_of s n ≡ cond (known n) (Ok (a.matrix n)) (Err (record {}))
  unfolding transform_of read_at
  transform_read = go (named n)
    where
      go : Named n → transform_of s n ≡ cond (known n) (Ok (a.matrix n)) (Err (record {}))
      go (place p h e q k) = rw (q, k) (ap Ok (matrix-at g p h ∙ ap a.matrix (sym e)))
      go (no_place q k) = rw (q, k)
