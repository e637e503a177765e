-- The low byte of a number.
use mathlib.Core.Path.{◌≡◌}
use Prim.Native.Nat.{ℕ, ◌%◌}
use native.Mathlib.Omega.{arith}
use Rattle.words.specs.Bytes.{byte_of}

-- the low byte of a number
pub low_byte : (n : ℕ) → byte_of n 0 ≡ n % 256
low_byte n = omega arith
