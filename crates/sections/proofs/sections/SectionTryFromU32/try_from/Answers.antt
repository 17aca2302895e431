-- The first section of the array that passes is the definition's: the array is its list.
use Rattle.std.proofs.Common.{rules, tests, ap, ◌∙◌, Option}
use Rattle.std.specs.Option.{ok_or}
use Rattle.std.proofs.lemmas.Iterator.{YieldsList-from_slice}
use Rattle.std.proofs.lemmas.Iterator.Search.{find_from_yields_List}
use lib.Dec.{eqb}
use Rattle.sections.specs.Sections.{bit_of, sections}
use Rattle.sections.specs.declared.sections.Section.{Section}
use Rattle.sections.proofs.sections.SectionTryFromU32.try_from.Goals as goal

pub returns : goal.returns
returns c =
    let e = find_from_yields_List (λ σ. eqb (bit_of σ) c.args.bit) _ _ c.find-found.result c.find-found.ensures.ran (YieldsList-from_slice sections c.iter.ensures.rest) (λ x b q k. search (rules, tests)) in
    c.ok_or.ensures.value ∙ ap (λ (o : Option Section). ok_or o (record {})) (c.copied.ensures ∙ e)
