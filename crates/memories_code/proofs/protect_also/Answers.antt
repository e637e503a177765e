-- The sector's bit, shifted within one byte, is the byte that is masked out.
use native.Mathlib.Omega.{arith}
use mathlib.Core.Path.{◌≡◌, ap, ◌∙◌}
use Prim.Native.Nat.{ℕ, ◌*◌, ◌%◌, ◌^◌}
use Rattle.memories.specs.Protection.{also_protected}
use Rattle.memories_code.proofs.protect_also.Goals as goal
use native.Mathlib.Nat.{one-mul, mod-eq_of_lt}
use lib.Pow.{pow-lt}

pub returns : goal.returns
unfolding also_protected
returns c =
    let b = c.bit_place-bit.result in
    let e : 1 * 2 ^ b % 256 ≡ 2 ^ b = ap (λ (x : ℕ). x % 256) (one-mul (2 ^ b)) ∙ mod-eq_of_lt (pow-lt {j = 8} (omega arith)) in
    rw (← c.bit_index-byte.ensures, ← c.bit_place-bit.ensures, e)
