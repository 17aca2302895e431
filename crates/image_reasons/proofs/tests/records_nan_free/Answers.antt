-- `all` asks each record.
use Rattle.std.proofs.Common.{rules}
use Rattle.std.proofs.lemmas.Iterator.{YieldsList-from_slice}
use Rattle.std.proofs.lemmas.Iterator.Search.{all_from_yields_List}
use Rattle.image_reasons.specs.Tests.{plain_record}
use Rattle.image_reasons.proofs.tests.records_nan_free.Goals as goal

pub returns : goal.returns
returns g c =
    all_from_yields_List (plain_record c.args.from g.row.SIZE) _ _ _ c.all.ensures.ran (YieldsList-from_slice _ c.iter.ensures.rest) (λ x b q k. search rules)
