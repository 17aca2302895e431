-- A value that is there is no other, and none is there where there is none. Assumes nothing.
use Prim.Native.Nat.{ℕ}
use native.Mathlib.Omega.{arith}
use mathlib.Core.Path.{◌≡◌}
use mathlib.Core.Option.{none, some}

pub some_is : {A : Type 0} {x y : A} → some x ≡ some y → x ≡ y
some_is e = cc

pub not_some : {A B : Type 0} {x : A} → none ≡ some x → B
not_some e = absurd (let z : ◌≡◌ {A = ℕ} 0 1 = cc in omega arith)
