-- "Larger" of document 01, 'Rows of a section': the larger of two floats, in which a NaN loses. The Rust's `f32::max`.
use Rattle.std.specs.Prelude.{cond, ◌||◌, Float}
use Rattle.std.specs.Float.Ieee.{lt, is_nan}

-- b where a is below b or a is a NaN, else a. Where they are equal, as -0.0 and +0.0 are, the first.
unfoldable pub larger : Float → Float → Float
larger a b = cond (lt a b || is_nan a) b a
