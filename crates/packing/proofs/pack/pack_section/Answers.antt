-- Past both tests the section's rows stand in the destination.
use Rattle.std.proofs.Common.{◌∙◌, sym}
use Rattle.packing.proofs.Outcomes.{passed}
use Rattle.packing.proofs.pack.pack_section.Goals as goal

pub returns : goal.returns
returns c =
    let a = c.args in
    let ok = passed a.section a.s.now a.key a.dst.now c.fits.ensures c.in_ok-fits.was in
    ok.packs (sym c.mask_accepted.ensures ∙ c.if-not-mask_accepted.false) _ c.write_section.ensures
