-- Slot i stands in chunk i of 104 bytes.
use Rattle.std.proofs.Common.{rules, ◌≡◌, ◌∙◌, ◌/◌, ap, refl, ℕ, take, drop, arith}
use Rattle.std.specs.Simd.{first_chunks}
use Rattle.std.proofs.lemmas.Iterator.{YieldsList-from_range, YieldsList-from_slice, YieldsList-from_zip}
use Rattle.std.proofs.lemmas.Iterator.Consumers.{YieldsList-at}
use Rattle.std.proofs.lemmas.Iterator.Search.{all_from_yields_List}
use Rattle.codec.proofs.Put.{part_length}
use Rattle.image_reasons.proofs.Chains.{slot_of, slots_all}
use Rattle.image_reasons.proofs.tests.slots_default.Goals as goal

pub returns : goal.returns
returns c =
    let s = c.args.s.now in
    let lights : c.as_chunks.result.0.now ≡ first_chunks 104 8 (take 832 (drop 17_092 s)) =
    c.as_chunks.ensures.front ∙ ap (λ (n : ℕ). first_chunks 104 (n / 104) (take 832 (drop 17_092 s))) (part_length 17_092 832 s (omega arith)) in
    all_from_yields_List (slot_of c.args.defined) c.all.new.self _ _ c.all.ensures.ran
    (YieldsList-from_zip {s = c.zip.result} (YieldsList-at c.zip.ensures.first (YieldsList-from_range 0 8 8 refl refl)) (YieldsList-from_slice _ (c.zip.ensures.second.0 ∙ lights)))
    (λ x b q k. search rules)
    ∙ slots_all c.args.defined s
