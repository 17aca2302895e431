-- The calls on fog, the ambient colour and the texture mask of docs/INTERFACE.md: 9 alone. Document 02, T-05: "each with a setter"; a float is given by its bits, and any NaN pattern is the NaN.
use Rattle.std.specs.Prelude.{ℕ, List}
use Rattle.std.specs.Float.{binary32}
use Rattle.std.specs.Float.Ieee.{of_bits}
use Rattle.ff_state.specs.RenderStates.{set_fog_start, set_fog_end, set_fog_density, set_ambient, set_texture_mask}
use Rattle.calls.specs.Answer.{Answer}
use Rattle.calls.specs.Call.{called, changing}

abbrev pub ff_set_fog_start : List ℕ → ℕ → Answer (List ℕ)
ff_set_fog_start image bits = changing (λ s. called 0 (set_fog_start s (of_bits binary32 bits))) 0 image

abbrev pub ff_set_fog_end : List ℕ → ℕ → Answer (List ℕ)
ff_set_fog_end image bits = changing (λ s. called 0 (set_fog_end s (of_bits binary32 bits))) 0 image

abbrev pub ff_set_fog_density : List ℕ → ℕ → Answer (List ℕ)
ff_set_fog_density image bits = changing (λ s. called 0 (set_fog_density s (of_bits binary32 bits))) 0 image

abbrev pub ff_set_ambient : List ℕ → ℕ → Answer (List ℕ)
ff_set_ambient image color = changing (λ s. called 0 (set_ambient s color)) 0 image

abbrev pub ff_set_texture_mask : List ℕ → ℕ → Answer (List ℕ)
ff_set_texture_mask image mask = changing (λ s. called 0 (set_texture_mask s mask)) 0 image
