-- How many reads may still be made is fewer than before, and some only where there was something to read.
use Prim.Native.Nat.{ℕ, ◌+◌, ◌<◌}
use native.Mathlib.Omega.{arith}
use mathlib.Core.Path.{◌≡◌, refl}
use mathlib.Core.Bool.{Bool, true, false}

pub fewer : (going : Bool) (turns left : ℕ) → 0 < turns → (going ≡ true → left + 1 ≡ turns) × (going ≡ false → left ≡ 0) → left < turns
fewer true turns left p e = omega (arith, e.0 refl)
fewer false turns left p e = omega (arith, p, e.1 refl)

pub some_left : (going : Bool) (turns left : ℕ) → (going ≡ true → left + 1 ≡ turns) × (going ≡ false → left ≡ 0) → 0 < left → going ≡ true
some_left true turns left e p = refl
some_left false turns left e p = absurd (omega (arith, p, e.1 refl))
