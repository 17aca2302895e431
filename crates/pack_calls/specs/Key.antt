-- A key from eight numbers. docs/INTERFACE.md, 'Conventions': "a flag is set by any number but 0".
use Rattle.std.specs.Prelude.{ℕ, not, eqb}
use Rattle.sections.specs.declared.key.FfVsKey.{FfVsKey}

abbrev pub key_of : ℕ → ℕ → ℕ → ℕ → ℕ → ℕ → ℕ → ℕ → FfVsKey
key_of rhw lit specular indexed preview mask fog count =
    record {
      has_rhw = not (eqb rhw 0);
      lighting_enabled = not (eqb lit 0);
      specular_enable = not (eqb specular 0);
      vertex_blend_indexed = not (eqb indexed 0);
      preview = not (eqb preview 0);
      light_active_mask = mask;
      fog_mode = fog;
      vertex_blend_count = count;
    }
