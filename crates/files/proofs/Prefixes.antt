-- A number of a list's bytes counts those that stand first.
use mathlib.Core.Path.{◌≡◌, sym}
use mathlib.Core.List.{List}
use Prim.Native.Nat.{ℕ, ◌≤◌}
use native.Mathlib.Omega.{arith}
use lib.ListN.{length, length-take, replicate, length-replicate}
use Rattle.io.specs.Counts.{IsPrefixLen}

-- so many bytes of a list that has them
pub first_bytes : (n : ℕ) (l : List ℕ) → n ≤ length l → IsPrefixLen n l
first_bytes n l h = let e = length-take n l in (h, omega arith)

-- so many bytes, all the same, are so many
pub so_many : (n byte : ℕ) → n ≡ length (replicate n byte)
so_many n byte = sym (length-replicate n byte)
