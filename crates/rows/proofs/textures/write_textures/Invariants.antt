-- i of the matrices stand, as `Standing` says.
use Rattle.std.proofs.Common.{◌*◌, length}
use Rattle.rows.specs.Matrices.{projection_rows}
use Rattle.rows.proofs.Items.{Standing}
use Rattle.rows.proofs.textures.write_textures.Given as goal

abbrev pub invariant-loop-i : goal.invariant-loop-i
invariant-loop-i l = Standing projection_rows 4 (length l.fn.textures) l.fn.textures l.initial.dst l.dst l.i (16 * l.i)
