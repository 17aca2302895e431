-- Bytes of another length have a reason. Of an image's each `||` is that of the definition (`left`, `right`), up to the last.
use Rattle.std.proofs.Common.{◌≡◌, ◌∙◌, ◌||◌, ap, sym, length}
use mathlib.Core.Bool.{Bool, true, false}
use mathlib.Core.Path.{refl}
use Rattle.image_reasons.specs.Reasons.{numbers_refused, entries_refused, slots_refused, another_nan}
use Rattle.image_reasons.proofs.Numbers.{of_image, or_assoc4}
use Rattle.image_reasons.proofs.reasons.image_refused.Goals as goal
use Rattle.image_reasons.proofs.reasons.image_refused.Goals.{then-numbers_refused, else-numbers_refused, then-entries_refused, else-entries_refused}

-- v is what `a || b` gave, where a is A and b is B
left : (v a A B : Bool) → v ≡ a → a ≡ true → a ≡ A → v ≡ (A || B)
left v a A B p q r = p ∙ q ∙ sym (ap (λ (t : Bool). t || B) (sym r ∙ q))

right : (v a b A B : Bool) → v ≡ b → a ≡ false → a ≡ A → b ≡ B → v ≡ (A || B)
right v a b A B p q r h = p ∙ h ∙ sym (ap (λ (t : Bool). t || B) (sym r ∙ q))

pub returns-then-slots_refused : goal.returns-then-slots_refused
returns-then-slots_refused c =
    let s = c.in-Some.image.now in
    let same = c.in-Some.ensures.cases in
    let first : c.if-numbers_refused.value ≡ (numbers_refused s || entries_refused s) =
    elim c.if-numbers_refused.branch [
      | then-numbers_refused w ↦ left _ _ _ _ w.value-is w.if-numbers_refused.true c.numbers_refused.ensures
      | else-numbers_refused w ↦ right _ _ _ _ _ w.value-is w.if-numbers_refused.false c.numbers_refused.ensures w.entries_refused.ensures
    ] in
    let second : c.if-entries_refused.value ≡ ((numbers_refused s || entries_refused s) || slots_refused s) =
    elim c.if-entries_refused.branch [
      | then-entries_refused w ↦ left _ _ _ _ w.value-is w.if-entries_refused.true first
      | else-entries_refused w ↦ right _ _ _ _ _ w.value-is w.if-entries_refused.false first w.slots_refused.ensures
    ] in
    rw (← same.same)
    (of_image _ s (ap length same.same ∙ same.long)
    (left _ _ ((numbers_refused s || entries_refused s) || slots_refused s) (another_nan s) refl c.if-slots_refused.true second
    ∙ or_assoc4 (numbers_refused s) (entries_refused s) (slots_refused s) (another_nan s)))

pub returns-else-slots_refused : goal.returns-else-slots_refused
returns-else-slots_refused c =
    let s = c.in-Some.image.now in
    let same = c.in-Some.ensures.cases in
    let first : c.if-numbers_refused.value ≡ (numbers_refused s || entries_refused s) =
    elim c.if-numbers_refused.branch [
      | then-numbers_refused w ↦ left _ _ _ _ w.value-is w.if-numbers_refused.true c.numbers_refused.ensures
      | else-numbers_refused w ↦ right _ _ _ _ _ w.value-is w.if-numbers_refused.false c.numbers_refused.ensures w.entries_refused.ensures
    ] in
    let second : c.if-entries_refused.value ≡ ((numbers_refused s || entries_refused s) || slots_refused s) =
    elim c.if-entries_refused.branch [
      | then-entries_refused w ↦ left _ _ _ _ w.value-is w.if-entries_refused.true first
      | else-entries_refused w ↦ right _ _ _ _ _ w.value-is w.if-entries_refused.false first w.slots_refused.ensures
    ] in
    rw (← same.same)
    (of_image _ s (ap length same.same ∙ same.long)
    (right _ _ _ ((numbers_refused s || entries_refused s) || slots_refused s) (another_nan s) refl c.if-slots_refused.false second c.another_nan.ensures
    ∙ or_assoc4 (numbers_refused s) (entries_refused s) (slots_refused s) (another_nan s)))
