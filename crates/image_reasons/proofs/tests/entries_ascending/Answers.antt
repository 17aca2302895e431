-- An index below `from` decides; at the end none was.
use Rattle.std.proofs.Common.{◌≡◌, ◌∙◌, ◌+◌, ◌*◌, ◌<◌, ◌/◌, ℕ, List, [], ap, arith, length, get_or, refl}
use Rattle.codec.specs.Little.{number_at}
use Rattle.std.specs.Simd.{first_chunks}
use Rattle.image_reasons.specs.Tests.{ascends}
use Rattle.image_reasons.proofs.Ascends.{begins, goes_on, stops, ends}
use Rattle.image_reasons.proofs.Chains.{index_in_chunk}
use Rattle.image_reasons.proofs.tests.entries_ascending.Goals as goal

index_is : (bs : List ℕ) (chunks : List (List ℕ)) (i n : ℕ) → chunks ≡ first_chunks 112 (length bs / 112) bs → i < length bs / 112 → n ≡ number_at 4 (get_or chunks i []) 0
    → n ≡ number_at 4 bs (0 + 112 * i)
index_is bs chunks i n e l h = h ∙ ap (λ (cs : List (List ℕ)). number_at 4 (get_or cs i []) 0) e ∙ index_in_chunk (length bs / 112) i bs l

pub loop-entry-init : goal.loop-entry-init
unfolding ascends
loop-entry-init c = begins _ _ _ _ refl

pub returns-then-index-from : goal.returns-then-index-from
returns-then-index-from c =
    let bs = c.args.entries.now in
    let less : c.loop-entry.entry-index < length bs / 112 = omega (arith, c.as_chunks.ensures.front_len, c.loop-entry-test.true) in
    stops _ _ _ c.loop-entry.from c.loop-entry.entry-index c.from-index.result less
    (index_is bs _ _ _ c.as_chunks.ensures.front less (c.from-index.ensures ∙ c.read.ensures)) c.loop-entry.invariant c.if-index-from.true

pub loop-entry-preserved : goal.loop-entry-preserved
loop-entry-preserved c =
    let bs = c.args.entries.now in
    let less : c.loop-entry.entry-index < length bs / 112 = omega (arith, c.as_chunks.ensures.front_len, c.loop-entry-test.true) in
    goes_on _ _ _ c.loop-entry.from c.loop-entry.entry-index c.from-index.result less
    (index_is bs _ _ _ c.as_chunks.ensures.front less (c.from-index.ensures ∙ c.read.ensures)) c.loop-entry.invariant c.if-index-from.false

pub returns : goal.returns
returns c =
    ends _ _ _ c.loop-entry.from c.loop-entry.entry-index (omega (arith, c.as_chunks.ensures.front_len, c.loop-entry-test.false)) c.loop-entry.invariant
