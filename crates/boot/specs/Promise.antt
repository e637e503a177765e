-- What each call promises: every part of what it gives back and every byte lent.
use Rattle.std.specs.Prelude.{ℕ, ◌≡◌, List, ◌++◌, length, drop}
use Rattle.memories.specs.Memories.{Memories}
use Rattle.command.specs.Why.{no_reason, reason_of}
use Rattle.command.specs.declared.Decision.{Decision}
use Rattle.boot.specs.Session as S
use Rattle.boot.specs.Session.{fresh}
use Rattle.boot.specs.Causes.{cause_no}
use Rattle.boot.specs.Calls.{State, Input, Byte, Framed, Outcome, call}
use Rattle.carriers.specs.declared.Carrier.{Carrier}
use Rattle.boot.specs.Causes.{Judged}
use Rattle.boot.specs.Causes.{accepted}
use Rattle.boot.specs.declared.Session.{Session}
use Rattle.boot.specs.declared.Taken.{Taken}

-- power on hands back a fresh session
pub record PoweredOn (s : Session) : Type 0 where
  pub session : s ≡ fresh

-- what a call is given: the input, the session, and what is lent
pub record Given : Type 0 where
  pub input : Input
  pub state : State
  pub buffer : List ℕ

-- what a call leaves: its result, and what was lent
pub record Left : Type 0 where
  pub result : Taken
  pub flash : List ℕ
  pub sram : List ℕ
  pub usd : List ℕ
  pub buffer : List ℕ

-- a result, and what was lent as it is now
abbrev pub left : Taken → Memories → List ℕ → Left
left r m buffer = record { result = r; flash = m.flash; sram = m.sram; usd = m.usd; buffer = buffer }

-- the state of a session and the memories
abbrev pub state_of : Session → Memories → State
state_of s m = record { session = s; memories = m }

-- a UART byte is given, and a CAN frame
abbrev pub given_byte : Session → ℕ → Memories → List ℕ → Given
given_byte s b m buffer = record {
  input = Byte (length buffer) b;
  state = state_of s m;
  buffer = buffer;
}

abbrev pub given_frame : Session → List ℕ → Memories → List ℕ → Given
given_frame s frame m buffer = record {
  input = Framed (length buffer) frame;
  state = state_of s m;
  buffer = buffer;
}

-- what the paper says comes of it
unfoldable pub outcome : Given → Outcome
outcome g = call g.input g.state

-- what an accepted call hands back: the carrier, the session, the session with the input's bytes, what was decided, the reply's length
abbrev pub accepted_taken : Carrier → Session → Session → Decision → ℕ → Taken
accepted_taken c s t d n = record {
  number = cause_no accepted;
  length = n;
  reason = reason_of d.reply;
  place = S.placed (reason_of d.reply) (S.falls_at c s);
  session = S.after c t d.next s;
}

-- what is handed back where nothing was taken: the number of a cause, or of none
abbrev pub unanswered_taken : Judged → Session → Taken
unanswered_taken c s = record { number = cause_no c; length = 0; reason = no_reason; place = 0; session = s }

-- what is left is what an outcome says, part by part; the reply buffer beyond the reply is unchanged
pub record Leaves (o : Outcome) (lent : List ℕ) (l : Left) : Type 0 where
  pub number : l.result.number ≡ cause_no o.cause
  pub count : l.result.length ≡ length o.reply
  pub reason : l.result.reason ≡ o.reason
  pub place : l.result.place ≡ o.place
  pub session : l.result.session ≡ o.state.session
  pub flash : l.flash ≡ o.state.memories.flash
  pub sram : l.sram ≡ o.state.memories.sram
  pub usd : l.usd ≡ o.state.memories.usd
  pub buffer : l.buffer ≡ o.reply ++ drop (length o.reply) lent

-- the promise of the two taking calls
abbrev pub Took : Given → Left → Type 0
Took g l = Leaves (outcome g) g.buffer l
