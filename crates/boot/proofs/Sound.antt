-- What a sound session says of its numbers.
use mathlib.Core.Path.{subst}
use mathlib.Core.Bool.{Bool, true, false, ◌&&◌}
use Prim.Native.Nat.{ℕ, ◌≤◌, ◌<◌}
use native.Mathlib.Omega.{arith}
use lib.Dec.{T, eqb, leb, ltb, ltb→lt, eqb→eq}
use lib.ListN.{length}
use Rattle.std.specs.Prelude.{if◌then◌else◌}
use Rattle.words.proofs.Tests.{both_left, both_right}
use Rattle.uart.specs.Steps as U
use Rattle.uart.proofs.Steps as UP
use Rattle.can.specs.Steps as C
use Rattle.can.proofs.Steps as CP
use Rattle.boot.specs.Session.{on, sound}
use Rattle.carriers.specs.Carriers.{step_sound}
use Rattle.carriers.specs.declared.Carrier.TheVariants.{Uart, Can}
use Rattle.boot.specs.declared.Session.{Session}

module _ (s : Session) (t : T (sound s)) where
  -- taken is below expected
  pub sound_taken : s.taken < s.expected
  unfolding sound
  sound_taken =
      ltb→lt s.taken s.expected
      (both_right (leb s.carrier 3 && leb s.speed 3 && step_sound s.carrier s.step s.expected) (ltb s.taken s.expected) t)

  -- the step is one of the carrier's, and may expect what it does
  pub sound_step : T (step_sound s.carrier s.step s.expected)
  unfolding sound
  sound_step =
      both_right (leb s.carrier 3 && leb s.speed 3) (step_sound s.carrier s.step s.expected)
      (both_left (leb s.carrier 3 && leb s.speed 3 && step_sound s.carrier s.step s.expected) (ltb s.taken s.expected) t)

  -- the speed is one of the four
  pub sound_speed : T (leb s.speed 3)
  unfolding sound
  sound_speed =
      both_right (leb s.carrier 3) (leb s.speed 3)
      (both_left (leb s.carrier 3 && leb s.speed 3) (step_sound s.carrier s.step s.expected)
      (both_left (leb s.carrier 3 && leb s.speed 3 && step_sound s.carrier s.step s.expected) (ltb s.taken s.expected) t))

  -- on UART, that is a step of UART, and on CAN one of CAN
  pub uart_expects : T (on Uart s) → T (U.expects (U.step_of s.step) s.expected)
  uart_expects o =
      both_right (ltb s.step 14) (U.expects (U.step_of s.step) s.expected)
      (subst (λ (c : ℕ). T (step_sound c s.step s.expected)) (eqb→eq s.carrier 1 o) sound_step)

  pub can_expects : T (on Can s) → T (C.expects (C.step_of s.step) s.expected)
  can_expects o =
      both_right (ltb s.step 4) (C.expects (C.step_of s.step) s.expected)
      (subst (λ (c : ℕ). T (step_sound c s.step s.expected)) (eqb→eq s.carrier 2 o) sound_step)

  -- no more is expected than there are staged bytes
  pub sound_expected : s.expected ≤ 257
  sound_expected = by_tests (eqb s.carrier 1) (eqb s.carrier 2) sound_step
    where
      by_tests : (b c : Bool)
          → T (if b then ltb s.step (length U.steps) && U.expects (U.step_of s.step) s.expected
          else if c then ltb s.step (length C.steps) && C.expects (C.step_of s.step) s.expected
          else eqb s.step 0 && eqb s.expected 1)
          → s.expected ≤ 257
      by_tests true c h =
          UP.at_most (U.step_of s.step) s.expected (both_right (ltb s.step 14) (U.expects (U.step_of s.step) s.expected) h)
      by_tests false true h =
          CP.at_most (C.step_of s.step) s.expected (both_right (ltb s.step 4) (C.expects (C.step_of s.step) s.expected) h)
      by_tests false false h = omega (arith, eqb→eq s.expected 1 (both_right (eqb s.step 0) (eqb s.expected 1) h))
