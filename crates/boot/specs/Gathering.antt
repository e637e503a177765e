-- Input that a session only gathers: it is accepted, nothing is said of it, and no memory changes.
use Rattle.std.specs.Prelude.{ℕ, ◌+◌, ◌<◌, ◌≡◌, Bool, T}
use Rattle.can.specs.Steps.{step_of}
use Rattle.can.specs.Conversation.{bears}
use Rattle.boot.specs.Session.{on, sound}
use Rattle.carriers.specs.declared.Carrier.TheVariants.{Uart, Can}
use Rattle.boot.specs.declared.Session.{Session}

-- so many UART bytes are only gathered: what is lent has its lengths, and a sound session on UART expects more
pub record Gathers (s : Session) (ready : Bool) (n : ℕ) : Type 0 where
  pub lengths : T ready
  pub here : T (on Uart s)
  pub firm : T (sound s)
  pub short : s.taken + n < s.expected

-- frames are heard: the memories have their lengths, and a sound session is on CAN
pub record HearsFrames (s : Session) (right : Bool) : Type 0 where
  pub lengths : T right
  pub here : T (on Can s)
  pub firm : T (sound s)

-- a step of CAN only gathers a frame: it is of the running ID and not empty, and the step expects more
pub record SilentFrame (step taken expected id dlc : ℕ) : Type 0 where
  pub own : bears (step_of step) id ≡ id
  pub some : 0 < dlc
  pub short : taken + dlc < expected
