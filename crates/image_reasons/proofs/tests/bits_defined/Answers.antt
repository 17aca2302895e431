-- The numbers of the range are those below 8.
use Rattle.std.proofs.Common.{rules, ◌∙◌, refl}
use Rattle.std.proofs.lemmas.Iterator.{YieldsList-from_range}
use Rattle.std.proofs.lemmas.Iterator.Search.{all_from_yields_List}
use Rattle.image_reasons.specs.Tests.{bit_defined}
use Rattle.image_reasons.proofs.Chains.{bits_all}
use Rattle.image_reasons.proofs.tests.bits_defined.Goals as goal

pub returns : goal.returns
returns c =
    all_from_yields_List (bit_defined c.args.enabled c.args.defined) _ _ _ c.all.ensures.ran (YieldsList-from_range 0 8 8 refl refl) (λ x b q k. search rules)
    ∙ bits_all c.args.enabled c.args.defined
