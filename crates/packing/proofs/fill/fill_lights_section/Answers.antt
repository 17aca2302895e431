-- The length is tested first. A mask of 0 packs nothing; the mask of n lights has n places, so that the rows of the resolved list fill the destination.
use lib.Seq.{length-take-le}
use Rattle.std.proofs.Common.{◌≡◌, ◌∙◌, ℕ, ◌*◌, ◌≤◌, List, sym, ap, subst, arith, length, take}
use Rattle.d3d9_types.specs.declared.light.D3DLIGHT9.{D3DLIGHT9}
use Rattle.ff_state.specs.Active.{active_lights, resolve_active_lights}
use Rattle.ff_state.specs.declared.state.FfState.{FfState}
use Rattle.light_rows.specs.Light.{lights_rows}
use Rattle.light_table.specs.Active.{low_bits, listed}
use Rattle.light_table.specs.declared.active.ActiveLights.{ActiveLights}
use Rattle.light_table.proofs.Compaction.{listed_len, listed_front}
use Rattle.rows.specs.Rows.{floats}
use Rattle.sections.specs.Counts.{places, light_count}
use Rattle.sections.specs.Key.{light_limit}
use Rattle.sections.specs.declared.key.FfVsKey.{FfVsKey}
use Rattle.sections.specs.declared.sections.Section.TheVariants.{Lights}
use Rattle.sections.proofs.Shape.{limit_small}
use Rattle.packing.proofs.Lengths.{places_low}
use Rattle.packing.proofs.LightMask.{packed, none_accepted, none-packed, its_accepted, another_refused, some_packed}
use Rattle.packing.proofs.Outcomes.{passed}
use Rattle.packing.proofs.fill.fill_lights_section.Goals as goal

module _ (s : FfState) (k : FfVsKey) (l : ActiveLights) (is : l ≡ resolve_active_lights s (light_limit k)) where
  -- the resolved list: at most eight lights, which stand in front
  few : l.len ≤ 8
  unfolding resolve_active_lights
  few = subst (λ (x : ActiveLights). x.len ≤ 8) (sym is) (listed_len (light_limit k) (limit_small k) (active_lights s))

  front : take l.len l.lights ≡ packed s k
  unfolding resolve_active_lights
  front = ap (λ (x : ActiveLights). take x.len x.lights) is ∙ listed_front (light_limit k) (active_lights s)

  counted : l.len ≡ length (packed s k)
  unfolding resolve_active_lights listed
  counted = ap (λ (x : ActiveLights). x.len) is

  -- under their mask the section has six rows for each
  filled : k.light_active_mask ≡ low_bits l.len → light_count k ≡ l.len * 6
  unfolding light_count
  filled e = ap (λ (m : ℕ). places m * 6) e ∙ ap (λ (n : ℕ). n * 6) (places_low l.len few)

pub returns-then-mask-eq0 : goal.returns-then-mask-eq0
returns-then-mask-eq0 c =
    let a = c.args in
    let ok = passed Lights a.s a.key a.dst.now c.fits.ensures c.in_ok-fits.was in
    ok.packs (none_accepted a.s a.key c.if-mask-eq0.true) _ (none-packed a.s a.key _ ok.long c.if-mask-eq0.true)

pub low_bits-requires : goal.low_bits-requires
low_bits-requires c = few c.args.s c.args.key _ c.resolve_active_lights-list.ensures

pub returns-then-mask-low_bits : goal.returns-then-mask-low_bits
returns-then-mask-low_bits c =
    let a = c.args in
    let list = c.resolve_active_lights-list in
    let ok = passed Lights a.s a.key a.dst.now c.fits.ensures c.in_ok-fits.was in
    ok.another_mask
    (another_refused a.s a.key list.result.len c.if-mask-eq0.false (counted a.s a.key _ list.ensures) (λ e. c.if-mask-low_bits.true (e ∙ sym c.low_bits.ensures)))

pub write_lights-requires : goal.write_lights-requires
write_lights-requires c =
    let a = c.args in
    let list = c.resolve_active_lights-list in
    let ok = passed Lights a.s a.key a.dst.now c.fits.ensures c.in_ok-fits.was in
    let short = length-take-le list.result.len list.result.lights (omega (arith, few a.s a.key _ list.ensures)) in
    omega (arith, ok.long, short, filled a.s a.key _ list.ensures (c.if-mask-low_bits.false ∙ c.low_bits.ensures))

pub shared_ref_as_front-write_lights : goal.shared_ref_as_front-write_lights
shared_ref_as_front-write_lights c = omega (arith, few c.args.s c.args.key _ c.resolve_active_lights-list.ensures)

pub returns : goal.returns
returns c =
    let a = c.args in
    let list = c.resolve_active_lights-list in
    let ok = passed Lights a.s a.key a.dst.now c.fits.ensures c.in_ok-fits.was in
    ok.packs
    (its_accepted a.s a.key list.result.len c.if-mask-eq0.false (counted a.s a.key _ list.ensures) (c.if-mask-low_bits.false ∙ c.low_bits.ensures))
    _
    (c.write_lights.ensures
    ∙ ap (λ (ls : List D3DLIGHT9). floats (lights_rows a.s.view ls)) (front a.s a.key _ list.ensures)
    ∙ some_packed a.s a.key c.if-mask-eq0.false)
