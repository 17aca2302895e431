-- The word passed stands behind those before it, and all stand behind the first.
use Rattle.std.proofs.Common.{rules, ap, sym, ◌∙◌, ◌++◌, [], take, get_or}
use Rattle.std.specs.List.{flat_map}
use Rattle.std.proofs.lemmas.Grind.{put_two}
use Rattle.std.proofs.lemmas.List.{take_more, take_all, flat_map_more}
use Rattle.io.specs.Digits.{last_digits}
use Rattle.replay_text.specs.Answer.{spaced, words_text}
use Rattle.replay_text.proofs.answer.WordsDisplay.fmt.Goals as goal

pub loop-w-preserved : goal.loop-w-preserved
loop-w-preserved g c =
    let ws = c.in-Some.rest.now in
    let i = c.loop-w.w-index in
    λ p. put_two _ _ c.loop-w.f _ (flat_map spaced (take i ws)) (spaced (get_or ws i 0)) _ (c.loop-w.invariant p) (search rules)
    (flat_map_more spaced [] (take i ws) (get_or ws i 0) ∙ ap (flat_map spaced) (sym (take_more ws i 0 c.loop-w-test.true)))

pub returns-after-loop-w-clause-writes : goal.returns-after-loop-w-clause-writes
returns-after-loop-w-clause-writes g c =
    let w = c.in-Some.first.now in
    let ws = c.in-Some.rest.now in
    let n = c.loop-w.w-index in
    λ p q. put_two _ _ c.write.new.self _ (last_digits 16 8 w) (flat_map spaced (take n ws)) _ (search rules) (c.loop-w.invariant (search rules))
    (ap (λ t. last_digits 16 8 w ++ flat_map spaced t) (take_all n ws c.loop-w-test.false) ∙ ap words_text (sym c.in-Some.ensures.cases.0 ∙ c.as_slice.ensures.words))
