-- A slice of UART bytes that is taken by one call: document 02, Wish 4.
use Rattle.std.specs.Prelude.{ℕ, zero, suc, ◌+◌, ◌-◌, ◌<◌, ◌≡◌, ◌&&◌, eqb, leb, length, take, get_or}
use mathlib.Core.List.{List, [], ◌∷◌, map, foldl}
use Rattle.std.specs.Prelude.{if◌then◌else◌}
use Rattle.words.specs.Lists.{join}
use Rattle.memories.specs.Memories.{Memories, proper}
use Rattle.command.specs.Why.{no_reason}
use Rattle.uart.specs.Conversation.{uart_room}
use Rattle.boot.specs.Session.{gathered}
use Rattle.boot.specs.Causes.{accepts}
use Rattle.boot.specs.Calls.{State, Byte, Outcome, byte_cause, refused, outcomes, run}
use Rattle.boot.specs.Gathering.{Gathers}
use Rattle.boot.specs.Promise.{Left, state_of, given_byte, Leaves, Took}
use Rattle.boot.specs.Causes.{Judged}
use Rattle.boot.specs.Causes.{accepted}
use Rattle.boot.specs.declared.Session.{Session}
use Rattle.boot.specs.declared.Taken.{Taken}

-- ---- one-by-one calls

-- what the calls of some bytes give and leave, one by one, each with the room that a byte needs
abbrev pub one_by_one : List ℕ → State → List Outcome
one_by_one bs p = outcomes (map (Byte uart_room) bs) p

-- the state that they leave
abbrev pub after_bytes : List ℕ → State → State
after_bytes bs p = run (map (Byte uart_room) bs) p

-- how many of them are made with so much room: it stops before a byte for which under 257 bytes of room are left, and at a refusal
unfoldable pub how_many : ℕ → List Outcome → ℕ
how_many room [] = zero
how_many room (o ∷ os) =
    if leb uart_room room && accepts o.cause then suc (how_many (room - length o.reply) os) else zero

-- ---- the last reason

-- the reason of a NACK and its place
pub record Nack : Type 0 where
  pub reason : ℕ
  pub place : ℕ

-- no NACK
abbrev pub no_nack : Nack
no_nack = record { reason = no_reason; place = 0 }

-- the later of a NACK and what a call tells of another, which may be none
abbrev pub later : Nack → ℕ → ℕ → Nack
later before reason place = if eqb reason no_reason then before else record { reason = reason; place = place }

-- the last one of some calls
abbrev pub last_nack : List Outcome → Nack
last_nack os = foldl (λ (n : Nack) (o : Outcome). later n o.reason o.place) no_nack os

-- ---- the call

-- what a call of a slice gives and leaves: how many bytes it took, and the rest as a single call does
pub record SliceOutcome : Type 0 where
  pub count : ℕ
  pub outcome : Outcome

-- the calls of some bytes as one, which is accepted: their replies joined, the last reason with its place, and the state that they leave
unfoldable pub as_one : List ℕ → State → Outcome
as_one bs p = record {
  cause = accepted;
  reply = join (map (λ (o : Outcome). o.reply) (one_by_one bs p));
  reason = (last_nack (one_by_one bs p)).reason;
  place = (last_nack (one_by_one bs p)).place;
  state = after_bytes bs p;
}

-- as many bytes are taken as find room and are not refused; a refusal met midway stops it and is not returned
abbrev pub taking : ℕ → List ℕ → State → SliceOutcome
taking room bs p =
    let n = how_many room (one_by_one bs p) in
    record { count = n; outcome = as_one (take n bs) p }

-- refused as a single byte is that has room enough, so never for reply room; tested first, whatever the slice and the room
unfoldable pub slice_cause : State → Judged
slice_cause p = byte_cause uart_room p

-- a refused one takes no byte
abbrev pub none_taken : State → SliceOutcome
none_taken p = record { count = 0; outcome = refused (slice_cause p) p }

-- one call
unfoldable pub call_bytes : ℕ → List ℕ → State → SliceOutcome
call_bytes room bs p = if accepts (slice_cause p) then taking room bs p else none_taken p

-- ---- what the call promises

-- what it is given: the bytes, the session and the memories, the reply buffer
pub record GivenBytes : Type 0 where
  pub bytes : List ℕ
  pub state : State
  pub buffer : List ℕ

abbrev pub given_bytes : Session → List ℕ → Memories → List ℕ → GivenBytes
given_bytes s bs m buffer = record { bytes = bs; state = state_of s m; buffer = buffer }

-- what the paper says comes of it
unfoldable pub slice_outcome : GivenBytes → SliceOutcome
slice_outcome g = call_bytes (length g.buffer) g.bytes g.state

-- a number of bytes was taken, and what is left is what such an outcome says, part by part
pub record LeavesBytes (o : SliceOutcome) (lent : List ℕ) (n : ℕ) (l : Left) : Type 0 where
  pub count : n ≡ o.count
  pub leaves : Leaves o.outcome lent l

-- the promise
abbrev pub TookBytes : GivenBytes → ℕ → Left → Type 0
TookBytes g n l = LeavesBytes (slice_outcome g) g.buffer n l

-- ---- what is promised on the way

-- the NACK that a call hands back, or none
abbrev pub nack_of : Taken → Nack
nack_of t = record { reason = t.reason; place = t.place }

-- what a call and the next one hand back as one: the first number, their replies one behind the other, the last reason with its place, the last session
abbrev pub joined : Taken → Taken → Taken
joined a b = record {
  number = a.number;
  length = a.length + b.length;
  reason = (later (nack_of a) b.reason b.place).reason;
  place = (later (nack_of a) b.reason b.place).place;
  session = b.session;
}

-- the front of a slice was taken: n bytes that were only gathered, and by a call of its own the byte behind them
pub record TookFront (g : GivenBytes) (n : ℕ) (l : Left) : Type 0 where
  pub within : n < length g.bytes
  pub silent : 0 < n → Gathers g.state.session (proper g.state.memories && leb uart_room (length g.buffer)) n
  pub took : Took (given_byte (gathered (take n g.bytes) g.state.session) (get_or g.bytes n 0) g.state.memories g.buffer) l
