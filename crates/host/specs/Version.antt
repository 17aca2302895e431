-- The version of the interface (docs/INTERFACE.md, 'Version'): major × 2^24 + minor × 2^16 + patch × 2^8. The header, the Rust crate and the examples are held to it.
use Rattle.std.specs.Prelude.{ℕ, ◌+◌, ◌*◌}

abbrev pub version_of : ℕ → ℕ → ℕ → ℕ
version_of major minor patch = major * 0x1000000 + minor * 0x10000 + patch * 0x100

abbrev pub version : ℕ
version = version_of 0 2 0
