-- The verdict on a line, by the tests that lead to it.
use mathlib.Core.Path.{◌≡◌, refl, ap}
use mathlib.Core.Bool.{Bool, true, false, not}
use mathlib.Core.List.{List}
use Prim.Native.Nat.{ℕ}
use lib.IntN.{ℤ}
use Rattle.std.specs.Prelude.{Option, Some, None, Result, Err}
use Rattle.records.specs.declared.Line.{Line}
use Rattle.loading.specs.Places.{place_of}
use Rattle.loading.specs.Loads.{verdict_at, verdict_of, ends_by}
use Rattle.loading.specs.declared.Cause.{Cause}
use Rattle.loading.specs.declared.Cause.TheVariants.{BadLine, BadChecksum}

-- a line that says nothing is bad
pub bad_line_verdict : (shift : ℤ) (ended : Bool) (touched : List ℕ) → Err BadLine ≡ verdict_of shift ended touched None
unfolding verdict_of
bad_line_verdict shift true touched = refl
bad_line_verdict shift false touched = refl

-- and a bad line is what it comes to
pub bad_line_lem : (shift : ℤ) (ended : Bool) (touched : List ℕ) → Err BadLine ≡ ends_by (verdict_of shift ended touched None) None
bad_line_lem shift ended touched = ap (λ (v : Result (Unit {0}) Cause). ends_by v None) (bad_line_verdict shift ended touched)

-- any line behind the ending record is bad too
pub behind_the_end : (shift : ℤ) (ended : Bool) (touched : List ℕ) (o : Option Line) → ended ≡ true → Err BadLine ≡ verdict_of shift ended touched o
unfolding verdict_of
behind_the_end shift ended touched o t = rw t refl

module _ (shift : ℤ) (ended : Bool) (touched : List ℕ) (x : Line) where
  pub bad_checksum : ended ≡ false → x.right ≡ false → Err BadChecksum ≡ verdict_of shift ended touched (Some x)
  unfolding verdict_of
  bad_checksum t s = rw (t, s) refl

  pub by_place : ended ≡ false → x.right ≡ true → (p : Result (Option ℕ) Cause) → p ≡ place_of shift (Some x)
      → verdict_of shift ended touched (Some x) ≡ verdict_at p x.bytes touched
  unfolding verdict_of
  by_place t s p g =
      let n : not x.right ≡ false = ap not s in
      rw (t, n, ← g) refl
