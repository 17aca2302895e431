-- i of the matrices stand, as `Standing` says.
use Rattle.std.proofs.Common.{◌*◌, length}
use Rattle.rows.specs.Matrices.{world_view_rows}
use Rattle.rows.proofs.Items.{Standing}
use Rattle.rows.proofs.palette.write_palette.Given as goal

abbrev pub invariant-loop-i : goal.invariant-loop-i
invariant-loop-i l = Standing (world_view_rows l.view) 4 (length l.fn.palette) l.fn.palette l.initial.dst l.dst l.i (16 * l.i)
