-- What is left to write ends in what all the sections end in.
use Rattle.std.proofs.Common.{◌≡◌, drop}
use Rattle.sections.specs.Sections.{sections}
use Rattle.refresh.specs.Written.{written}
use Rattle.refresh.proofs.mirror.refresh_in_place.Given as goal

abbrev pub invariant-loop-section : goal.invariant-loop-section
invariant-loop-section l =
    written (drop l.section-index sections) l.bits l.s l.key l.mirror ≡ written sections l.bits l.s l.key l.fn.mirror
