-- The three calls as one function from input and state to outcome, and runs of inputs.
use Rattle.std.specs.Prelude.{ℕ, true, List, [], ◌∷◌, leb}
use Rattle.std.specs.Prelude.{if◌then◌else◌}
use Rattle.words.specs.Lists.{join}
use Rattle.board.specs.View.{view_of}
use Rattle.board.specs.declared.View.{View}
use Rattle.memories.specs.Memories.{Memories, proper}
use Rattle.memories.specs.Effects.{effect}
use Rattle.command.specs.Decision.{if◌gives◌else◌, answer}
use Rattle.command.specs.Progress.{staged_with}
use Rattle.command.specs.Says.{says}
use Rattle.command.specs.Why.{no_reason, reason_of}
use Rattle.command.specs.declared.Decision.{Decision}
use Rattle.command.specs.declared.Next.TheVariants.{Stay, Reset}
use Rattle.command.specs.declared.FixedReply.TheVariants.{Silence}
use Rattle.uart.specs.Conversation as UC
use Rattle.can.specs.Steps as C
use Rattle.can.specs.Conversation as CC
use Rattle.frames.specs.Frames.{classic, frame_in, carried, is_frame, framed}
use Rattle.boot.specs.Session.{fresh, on, progress, gathered, after, falls_at, placed}
use Rattle.boot.specs.Decide.{decide_byte, decide_frame}
use Rattle.boot.specs.Causes.{cause_of, accepts}
use Rattle.carriers.specs.declared.Carrier.{Carrier}
use Rattle.carriers.specs.declared.Carrier.TheVariants.{None, Uart, Can}
use Rattle.boot.specs.Causes.{Judged}
use Rattle.boot.specs.Causes.{accepted}
use Rattle.boot.specs.declared.Session.{Session}

-- the session and the three memories
pub record State : Type 0 where
  pub session : Session
  pub memories : Memories

-- a board freshly powered, with these memories
abbrev pub powered : Memories → State
powered m = record { session = fresh; memories = m }

-- an input: power on; the room lent for the reply and a UART byte; that room and a CAN frame's slice
pub data Input : Type 0 where
  Power : Input
  Byte : ℕ → ℕ → Input
  Framed : ℕ → List ℕ → Input

-- what a call gives back and leaves: beside the reply the reason of a NACK in it and the place where it fell
pub record Outcome : Type 0 where
  pub cause : Judged
  pub reply : List ℕ
  pub reason : ℕ
  pub place : ℕ
  pub state : State

-- the carrier that an input comes on
abbrev pub carrier_of : Input → Carrier
carrier_of Power = None
carrier_of (Byte room b) = Uart
carrier_of (Framed room l) = Can

-- the bytes that an input brings
abbrev pub brings : Input → List ℕ
brings Power = []
brings (Byte room b) = b ∷ []
brings (Framed room l) = carried (frame_in l)

-- why a UART byte is refused, if it is, whatever byte it is, with such a room for the reply
abbrev pub byte_cause : ℕ → State → Judged
byte_cause room p = cause_of (proper p.memories) (leb UC.uart_room room) true p.session

-- why an input is refused, if it is
unfoldable pub cause_for : Input → State → Judged
cause_for Power p = accepted
cause_for (Byte room b) p = byte_cause room p
cause_for (Framed room l) p = cause_of (proper p.memories) (leb CC.can_room room) (is_frame classic l) p.session

-- what the board may look at in a state
abbrev pub view_in : State → View
view_in p = view_of p.memories.usd

-- what is decided on an input that is accepted
unfoldable pub decide : Input → Session → View → Decision
decide Power s view = answer Silence Reset
decide (Byte room b) s view = decide_byte s view b
decide (Framed room l) s view = decide_frame s view (frame_in l)

-- what a carrier tells of its commands
abbrev pub commands_of : Input → List ℕ
commands_of Power = []
commands_of (Byte room b) = UC.command_bytes
commands_of (Framed room l) = CC.command_bytes

-- the ID that the replies to a frame bear: its own, or while connected to CAN what the step says
abbrev pub bears : Session → ℕ → ℕ
bears s id = if on Can s then CC.bears (C.step_of s.step) id else id

-- the messages as the carrier sends them
unfoldable pub sent : Input → Session → List (List ℕ) → List ℕ
sent Power s ms = []
sent (Byte room b) s ms = join ms
sent (Framed room l) s ms = framed classic (bears s (frame_in l).id) ms

-- a decision is carried out
unfoldable pub perform : Input → State → Decision → Outcome
perform i p d = record {
  cause = accepted;
  reply = sent i p.session (says (commands_of i) d.reply p.memories);
  reason = reason_of d.reply;
  place = placed (reason_of d.reply) (falls_at (carrier_of i) p.session);
  state = record {
    session = after (carrier_of i) (gathered (brings i) p.session) d.next p.session;
    memories = effect d.change (staged_with (progress p.session) (brings i)) p.memories;
  };
}

-- a refused call gives no reply and no reason, and leaves everything as it was
abbrev pub refused : Judged → State → Outcome
refused c p = record { cause = c; reply = []; reason = no_reason; place = 0; state = p }

-- one call
unfoldable pub call : Input → State → Outcome
call i p =
    if accepts (cause_for i p) then perform i p (decide i p.session (view_in p))
    else refused (cause_for i p) p

-- what is done: as decided where the call is accepted, and nothing where it is refused
unfoldable pub done : Input → State → Decision
done i p = if accepts (cause_for i p) gives decide i p.session (view_in p) else answer Silence Stay

-- ---- runs of inputs, power cycles among them

-- what each call of a run gives back and leaves
unfoldable pub outcomes : List Input → State → List Outcome
outcomes [] p = []
outcomes (i ∷ is) p = call i p ∷ outcomes is (call i p).state

-- the state after a run
unfoldable pub run : List Input → State → State
run [] p = p
run (i ∷ is) p = run is (call i p).state
