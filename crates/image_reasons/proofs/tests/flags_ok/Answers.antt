-- The entries are the chunks of 112 bytes.
use Rattle.std.proofs.Common.{rules, ◌∙◌}
use Rattle.std.proofs.lemmas.Iterator.{YieldsList-from_slice}
use Rattle.std.proofs.lemmas.Iterator.Search.{all_from_yields_List}
use Rattle.codec.specs.Entry.{entry_at}
use Rattle.image_reasons.proofs.Chains.{flag_of, flags_all}
use Rattle.image_reasons.proofs.tests.flags_ok.Goals as goal

pub returns : goal.returns
unfolding entry_at
returns c =
    all_from_yields_List flag_of _ _ _ c.all.ensures.ran (YieldsList-from_slice _ (c.iter.ensures.rest ∙ c.as_chunks.ensures.front)) (λ x b q k. search rules)
    ∙ flags_all c.args.entries.now
