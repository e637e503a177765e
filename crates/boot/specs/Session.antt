-- The session: document 01, "Calls and the five causes".
use Rattle.std.specs.Prelude.{ℕ, ◌+◌, Bool, ◌&&◌, List, length, eqb, leb, ltb}
use Rattle.std.specs.Prelude.{if◌then◌else◌}
use Rattle.memories.specs.Effects.{no_bytes}
use Rattle.command.specs.Progress.{Progress, progress_at, fitting, staged_with}
use Rattle.command.specs.declared.Next.{Next}
use Rattle.command.specs.declared.Next.TheVariants.{Stay, Reset, Gather, GoIdle, SetSpeed, Enter, EnterAt, Run}
use Rattle.command.specs.Why.{no_reason}
use Rattle.uart.specs.Steps.{step_of, wire_byte}
use Rattle.can.specs.Conversation.{largest_speed}
use Rattle.carriers.specs.Carriers.{carrier_no, resting, idle_expects, step_sound}
use Rattle.carriers.specs.declared.Carrier.{Carrier}
use Rattle.carriers.specs.declared.Carrier.TheVariants.{None, Uart, Can, Running}
use Rattle.boot.specs.declared.Session.{Session}

-- a session is on a carrier
abbrev pub on : Carrier → Session → Bool
on c s = eqb s.carrier (carrier_no c)

-- ---- sound sessions

-- unsound exactly when carrier or speed exceeds 3, the step is not one of the carrier's, expected is not allowed for the step, or taken is not below expected
unfoldable pub sound : Session → Bool
sound s =
    leb s.carrier (carrier_no Running) && leb s.speed largest_speed
    && step_sound s.carrier s.step s.expected
    && ltb s.taken s.expected

-- ---- the parts of a session

-- the session of a carrier's number, a step's number, a progress and a speed
abbrev pub session_of : ℕ → ℕ → Progress → ℕ → Session
session_of c step p v = record {
  carrier = c;
  step = step;
  taken = p.taken;
  expected = p.expected;
  address = p.address;
  speed = v;
  staged = p.staged;
}

-- how far a session has come with its step
abbrev pub progress : Session → Progress
progress s = progress_at s.taken s.expected s.address s.staged

-- a session in a step of a carrier, with a progress; its speed stays
abbrev pub in_step : ℕ → ℕ → Progress → Session → Session
in_step c step p s = session_of c step p s.speed

-- at another speed
abbrev pub at_speed : ℕ → Session → Session
at_speed v s = session_of s.carrier s.step (progress s) v

-- ---- the first session, and those that follow a session

-- power on: speed 2, expected 1 and every other number 0
abbrev pub fresh_speed : ℕ
fresh_speed = 2

abbrev pub fresh : Session
fresh = session_of (carrier_no None) 0 (progress_at 0 resting 0 no_bytes) fresh_speed

-- an entered step has taken 0, and its staged bytes are 0
abbrev pub entered : Carrier → ℕ → ℕ → ℕ → Session → Session
entered c step e a s = in_step (carrier_no c) step (progress_at 0 e a no_bytes) s

-- idle on a carrier: the speed is kept, the address is 0
abbrev pub idle : Carrier → Session → Session
idle c s = entered c 0 (idle_expects c) 0 s

-- at rest on a carrier, with an address, and every other number as fresh; what is to outlive a reset is kept by `entered` and `at_speed`
abbrev pub rested : Carrier → ℕ → Session → Session
rested c a s = at_speed fresh_speed (entered c 0 resting a s)

-- reset makes the session fresh
abbrev pub reset : Session → Session
reset s = rested None 0 s

-- running: the target as address, every other number as fresh
abbrev pub running : ℕ → Session → Session
running a s = rested Running a s

-- so many bytes are taken, and staged so
abbrev pub with_taken : ℕ → List ℕ → Session → Session
with_taken n staged s = in_step s.carrier s.step (progress_at n s.expected s.address staged) s

-- bytes are taken, as far as they are expected
abbrev pub gathered : List ℕ → Session → Session
gathered new s = with_taken (s.taken + length (fitting (progress s) new)) (staged_with (progress s) new) s

-- the session after an input of a carrier, given the session with the input's bytes taken
unfoldable pub after : Carrier → Session → Next → Session → Session
after c held Stay s = s
after c held Reset s = reset s
after c held Gather s = held
after c held GoIdle s = idle c s
after c held (SetSpeed v) s = idle c (at_speed v s)
after c held (Enter step e) s = entered c step e s.address s
after c held (EnterAt step e a) s = entered c step e a s
after c held (Run a) s = running a s

-- ---- where a NACK falls: document 02, Wish 2

-- on UART the wire byte of the command, from 1, whose coming brings it; on CAN the count of bytes gathered before that frame
unfoldable pub falls_at : Carrier → Session → ℕ
falls_at None s = 0
falls_at Uart s = wire_byte (step_of s.step) s.expected
falls_at Can s = s.taken
falls_at Running s = 0

-- a place is told with a reason, and is 0 where there is no NACK
abbrev pub placed : ℕ → ℕ → ℕ
placed reason at = if eqb reason no_reason then 0 else at
