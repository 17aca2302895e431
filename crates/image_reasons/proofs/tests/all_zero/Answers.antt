-- Each byte is looked at, and `all` says whether those so far passed.
use Rattle.std.proofs.Common.{rules, ◌≡◌, ◌∙◌, refl, ap}
use Rattle.std.specs.List.{list_all}
use Rattle.std.proofs.lemmas.Fn.{fold_over, fronts, slice_gives}
use Rattle.image_reasons.proofs.Chains.{is_zero, all_more, zeros_all}
use Rattle.image_reasons.proofs.tests.all_zero.Goals as goal

pub returns : goal.returns
returns c =
    fold_over fronts (λ y. y.now) _ (λ ys a. a ≡ list_all is_zero ys) _ (λ ys a x b q h k. search (rules, h, all_more is_zero ys x.now)) c.iter.result c.iter.result.rest.now _ _ (slice_gives c.iter.result) refl
    c.fold.ensures.ran
    ∙ ap (list_all is_zero) c.iter.ensures.rest
    ∙ zeros_all c.args.bytes.now
