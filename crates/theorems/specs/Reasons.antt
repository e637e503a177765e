-- The reason and the place that a call hands back beside its reply: document 02, Wish 2.
use Rattle.std.specs.Prelude.{ℕ, ◌+◌, ◌≡◌, List, [], map, T, length}
use Rattle.command.specs.Tests.{Test, only_if, IsFirst}
use Rattle.uart.specs.Steps as U
use Rattle.uart.specs.Tests as UT
use Rattle.can.specs.Steps as C
use Rattle.can.specs.Tests as CT
use Rattle.frames.specs.Frames.{frame_in}
use Rattle.carriers.specs.declared.Carrier.TheVariants.{Uart, Can}
use Rattle.boot.specs.Session.{on, progress, placed}
use Rattle.boot.specs.Causes.{accepts}
use Rattle.boot.specs.Calls.{State, Input, Power, Byte, Framed, view_in, cause_for, call, run}
use Rattle.theorems.specs.Longest.{between, goes_on}

-- what an input is tested for by its carrier's step, if the session is on that carrier
abbrev pub heard_tests : Input → State → List Test
heard_tests Power p = []
heard_tests (Byte room b) p =
    only_if (on Uart p.session) (UT.tests (U.step_of p.session.step) (progress p.session) (view_in p) b)
heard_tests (Framed room l) p =
    only_if (on Can p.session) (CT.tests (C.step_of p.session.step) (progress p.session) (view_in p) (frame_in l))

-- and what a call is: it is refused for no reason where one of the five causes holds
abbrev pub call_tests : Input → State → List Test
call_tests i p = only_if (accepts (cause_for i p)) (heard_tests i p)

-- the board after some UART bytes
abbrev pub come : ℕ → List ℕ → State → State
come room bs p = run (map (Byte room) bs) p

-- what every call tells of a NACK
pub record ReasonsAndPlaces : Type 0 where
  -- the reason of any call, on any board, is the first of those whose tests refuse
  pub first : (i : Input) (p : State) → IsFirst (call i p).reason (call_tests i p)
  -- on UART its place is the number of the byte that brings the NACK, counted from the first byte of its command, where all of them are accepted and nothing
  -- else comes between
  pub counted : (room : ℕ) (bs : List ℕ) (b : ℕ) (p : State) → T (between p.session) → T (goes_on room bs p)
      → (call (Byte room b) (come room bs p)).place ≡ placed (call (Byte room b) (come room bs p)).reason (length bs + 1)
  -- on CAN it is what the session has taken, the count of the bytes that were gathered before the frame (`Sessions` has how it grows)
  pub gathered : (room : ℕ) (l : List ℕ) (p : State) → (call (Framed room l) p).place ≡ placed (call (Framed room l) p).reason p.session.taken
