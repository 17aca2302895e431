-- Each word is looked at, and `all` says whether those so far passed.
use Rattle.std.proofs.Common.{rules, ◌≡◌, ◌∙◌, refl, ap}
use Rattle.std.specs.List.{list_all}
use Rattle.std.proofs.lemmas.Fn.{fold_over, fronts, slice_gives}
use Rattle.image_reasons.proofs.Chains.{plain_four, all_more, nans_all}
use Rattle.image_reasons.proofs.tests.nan_free.Goals as goal

pub returns : goal.returns
returns c =
    fold_over fronts (λ y. y.now) _ (λ ys a. a ≡ list_all plain_four ys) _ (λ ys a x b q h k. search (rules, h, all_more plain_four ys x.now)) c.iter.result c.iter.result.rest.now _ _ (slice_gives c.iter.result) refl
    c.fold.ensures.ran
    ∙ ap (list_all plain_four) (c.iter.ensures.rest ∙ c.as_chunks.ensures.front)
    ∙ nans_all c.args.floats.now
