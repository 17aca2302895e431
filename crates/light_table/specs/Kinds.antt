-- D3DLIGHTTYPE: point 1, spot 2, directional 3.
use Rattle.std.specs.Prelude.{ℕ, Bool, ◌&&◌, ltb, leb}

-- "Types other than 1 point, 2 spot, 3 directional are stored and light nothing."
unfoldable pub contributes : ℕ → Bool
contributes t = leb 1 t && ltb t 4
