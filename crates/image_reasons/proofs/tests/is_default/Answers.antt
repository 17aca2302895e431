-- The 104 bytes put into `d` are the default light's, and they are compared.
use Rattle.std.proofs.Common.{◌≡◌, ◌∙◌, ap, refl, replicate, List, ℕ}
use lib.Dec.{eqb}
use lib.Pointwise.{pointwise}
use Rattle.d3d9_types.specs.Light.{default_light}
use Rattle.codec.specs.Light.{light_bytes}
use Rattle.codec.proofs.Laws.Light.{put-light_bytes}
use Rattle.image_reasons.proofs.Chains.{default_same}
use Rattle.image_reasons.proofs.tests.is_default.Goals as goal

pub returns : goal.returns
returns c =
    let put : c.put.new.dst ≡ light_bytes default_light = rw (c.put.ensures, c.default.ensures, put-light_bytes default_light (replicate 104 0) refl) in
    c.eq.ensures ∙ ap (λ (ws : List ℕ). pointwise eqb c.args.light.now ws) put ∙ default_same c.args.light.now c.told-light
