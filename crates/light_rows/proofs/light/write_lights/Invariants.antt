-- The rows of i of the lights stand, as `Standing` says.
use Rattle.std.proofs.Common.{◌*◌, length}
use Rattle.rows.proofs.Items.{Standing}
use Rattle.light_rows.specs.Light.{light_rows, six_rows}
use Rattle.light_rows.proofs.light.write_lights.Given as goal

abbrev pub invariant-loop-i : goal.invariant-loop-i
invariant-loop-i l = Standing (λ x. six_rows (light_rows l.view x)) 6 (length l.lights) l.lights l.initial.dst l.dst l.i (24 * l.i)
