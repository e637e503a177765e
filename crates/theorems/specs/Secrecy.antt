-- Demand 3: "Two locked boards, freshly powered, alike in user system data and different in flash and SRAM. Give both the same inputs, power cycles
-- among them, and reply buffers alike beforehand. Up to the first Access Unprotect that is obeyed, all replies, refusals, sessions and user system data
-- agree, save the four value bytes of a Firmware CRC answer; and neither flash nor SRAM changes. After it, the two boards agree in everything, CRC values
-- too."
use Rattle.std.specs.Prelude.{ℕ, ◌+◌, ◌≡◌, Bool, true, false, not, ◌&&◌, List, [], ◌∷◌, ◌++◌, map, length, get_or, take, drop, replicate, T, eqb}
use Rattle.words.specs.Bytes.{four_bytes}
use Rattle.words.specs.Over.{put}
use Rattle.board.specs.Usd.{protection_on}
use Rattle.memories.specs.Memories.{Memories, proper}
use Rattle.memories.specs.Effects.{staged_bytes}
use Rattle.memories.specs.declared.Change.{Change}
use Rattle.memories.specs.declared.Change.TheVariants.{Nothing, Write, EraseAll, EraseSectors, ProtectOnly, Release, Lock, Unlock}
use Rattle.command.specs.declared.Reply.{Reply}
use Rattle.command.specs.declared.Reply.TheVariants.{Fixed, Data, Crc}
use Rattle.uart.specs.Steps as U
use Rattle.uart.specs.declared.Step as US
use Rattle.can.specs.Steps as C
use Rattle.can.specs.declared.Step as CS
use Rattle.frames.specs.Frames.{classic, head_bytes, frame_bytes, frame_in}
use Rattle.carriers.specs.declared.Carrier.TheVariants.{Uart, Can}
use Rattle.boot.specs.Session.{on}
use Rattle.boot.specs.Causes.{cause_no, accepts}
use Rattle.boot.specs.Calls.{State, powered, Input, Power, Byte, Framed, Outcome, cause_for, done, call, run}
use Rattle.boot.specs.Promise.{Left, left}
use Rattle.boot.specs.declared.Session.{Session}
use Rattle.boot.specs.declared.Taken.{Taken}

-- ---- an obeyed Access Unprotect

abbrev pub unlocks : Change → Bool
unlocks Nothing = false
unlocks (Write r at x) = false
unlocks EraseAll = false
unlocks (EraseSectors x) = false
unlocks (ProtectOnly x) = false
unlocks Release = false
unlocks Lock = false
unlocks Unlock = true

-- an input is an Access Unprotect, and is obeyed; on a locked board the memories are then wiped, and protection is off
unfoldable pub opens : Input → State → Bool
opens i p = unlocks (done i p).change

-- a session is on UART in a step, or on CAN in a step
abbrev pub in_uart : US.Step → Session → Bool
in_uart s p = on Uart p && eqb p.step (U.step_no s)

abbrev pub in_can : CS.Step → Session → Bool
in_can s p = on Can p && eqb p.step (C.step_no s)

-- an input is Access Unprotect: on UART 0x6D, the second byte to an idle session whose first was 0x92, and on CAN a frame of ID 0x92 to an idle session
abbrev pub is_unprotect : Input → Session → Bool
is_unprotect Power s = false
is_unprotect (Byte room b) s = in_uart US.Step.Idle s && eqb s.taken 1 && eqb (get_or s.staged 0 0) 0x92 && eqb b 0x6D
is_unprotect (Framed room l) s = in_can CS.Step.Idle s && eqb (frame_in l).id 0x92

-- an obeyed Access Unprotect is exactly that, in a call that is accepted
abbrev pub Exactly : Input → State → Type 0
Exactly i p = opens i p ≡ (accepts (cause_for i p) && is_unprotect i p.session)

pub record OpensExactly : Type 0 where
  -- of any session, with its 257 staged bytes
  pub anywhere : (i : Input) (p : State) → length p.session.staged ≡ staged_bytes → Exactly i p
  -- and so after any run of a board freshly powered
  pub after : (m : Memories) (is : List Input) (i : Input) → Exactly i (run is (powered m))

-- no input of a run is an obeyed Access Unprotect
unfoldable pub shut : List Input → State → Bool
shut [] p = true
shut (i ∷ is) p = not (opens i p) && shut is (call i p).state

-- ---- an answered Firmware CRC

-- a reply holds a CRC value
abbrev pub sums : Reply → Bool
sums (Fixed t) = false
sums (Data r at x) = false
sums (Crc at n) = true

-- an input is the last of a Firmware CRC: on UART the third byte to a session in the step CRC count, and on CAN a frame of ID 0xAC to an idle session
abbrev pub is_sum : Input → Session → Bool
is_sum Power s = false
is_sum (Byte room b) s = in_uart US.Step.CrcCount s && eqb s.taken 2
is_sum (Framed room l) s = in_can CS.Step.Idle s && eqb (frame_in l).id 0xAC

-- a reply begins with ACK: on UART its first byte is 0x79, and on CAN the first data byte of its first frame
abbrev pub begins_with_ack : Input → List ℕ → Bool
begins_with_ack Power reply = false
begins_with_ack (Byte room b) reply = eqb (get_or reply 0 0) 0x79
begins_with_ack (Framed room l) reply = eqb (get_or (frame_in reply).bytes 0 0) 0x79

-- a Firmware CRC is answered, as a host sees it: the number is 0, the input is the last of one to the session given, and the reply begins with ACK
abbrev pub answered : Input → Session → ℕ → List ℕ → Bool
answered i s number reply = eqb number 0 && is_sum i s && begins_with_ack i reply

-- a call on a board has answered one
abbrev pub struck : Input → State → Bool
struck i p = answered i p.session (cause_no (call i p).cause) (call i p).reply

-- a CRC value is sent exactly there, on any board
abbrev pub StruckExactly : Type 0
StruckExactly = (i : Input) (p : State) → struck i p ≡ sums (done i p).reply

-- ---- what is given to a board

-- the three calls, each with what it is given: nothing; a reply buffer as it is beforehand and a UART byte; such a buffer and a CAN frame's slice
pub data Call : Type 0 where
  PowerOn : Call
  TakeByte : List ℕ → ℕ → Call
  TakeFrame : List ℕ → List ℕ → Call

-- the input of a call, and of each call of a run
abbrev pub input : Call → Input
input PowerOn = Power
input (TakeByte buffer b) = Byte (length buffer) b
input (TakeFrame buffer frame) = Framed (length buffer) frame

abbrev pub inputs : List Call → List Input
inputs cs = map input cs

-- the reply buffer that a call is lent
abbrev pub lent : Call → List ℕ
lent PowerOn = []
lent (TakeByte buffer b) = buffer
lent (TakeFrame buffer frame) = buffer

-- ---- what a call leaves

-- a reply buffer with a reply in it: behind the reply stands what was lent
abbrev pub filled : List ℕ → List ℕ → List ℕ
filled before reply = reply ++ drop (length reply) before

-- what a call hands back: the number of its cause, the reply's length, the reason and the place of a NACK, the session
abbrev pub handed_back : Outcome → Taken
handed_back o = record {
  number = cause_no o.cause;
  length = length o.reply;
  reason = o.reason;
  place = o.place;
  session = o.state.session;
}

-- everything: that, the memories and the reply buffer
abbrev pub left_by : Outcome → List ℕ → Left
left_by o before = left (handed_back o) o.state.memories (filled before o.reply)

abbrev pub leaves : Call → State → Left
leaves c p = left_by (call (input c) p) (lent c)

-- call by call over a run
unfoldable pub leaves_of : List Call → State → List Left
leaves_of [] p = []
leaves_of (c ∷ cs) p = leaves c p ∷ leaves_of cs (call (input c) p).state

-- ---- what is seen of it

-- how many bytes a CRC value has
abbrev pub value_bytes : ℕ
value_bytes = length (four_bytes 0)

-- where the value bytes of a Firmware CRC answer stand: behind the ACK, which on CAN is a frame, and the frame's head
abbrev pub value_at : Input → ℕ
value_at Power = 0
value_at (Byte room b) = 1
value_at (Framed room l) = frame_bytes classic + head_bytes

-- bytes that begin with a reply, of which the four value bytes are struck out where a Firmware CRC is answered, and nothing else
abbrev pub veiled : Input → Bool → List ℕ → List ℕ
veiled i true l = put l (value_at i) (replicate value_bytes 0)
veiled i false l = l

-- all that a call leaves, but for flash, SRAM and a CRC value; the reply is so many bytes at the front of the buffer
pub record Seen : Type 0 where
  pub number : ℕ
  pub length : ℕ
  pub reason : ℕ
  pub place : ℕ
  pub session : Session
  pub usd : List ℕ
  pub buffer : List ℕ

-- of what a call has left that was given a session
abbrev pub seen : Call → Session → Left → Seen
seen c s l = record {
  number = l.result.number;
  length = l.result.length;
  reason = l.result.reason;
  place = l.result.place;
  session = l.result.session;
  usd = l.usd;
  buffer = veiled (input c) (answered (input c) s l.result.number (take l.result.length l.buffer)) l.buffer;
}

-- call by call over a run
unfoldable pub seen_of : List Call → State → List Seen
seen_of [] p = []
seen_of (c ∷ cs) p = seen c p.session (leaves c p) ∷ seen_of cs (call (input c) p).state

-- ---- what demand 3 says of two boards

-- over a run nothing that is seen differs, and no memory changes
pub record Alike (cs : List Call) (p q : State) : Type 0 where
  pub seen : seen_of cs p ≡ seen_of cs q
  pub first : (run (inputs cs) p).memories ≡ p.memories
  pub second : (run (inputs cs) q).memories ≡ q.memories

pub record Secret (p q : State) : Type 0 where
  -- up to the first obeyed Access Unprotect
  pub before : (cs : List Call) → T (shut (inputs cs) p) → Alike cs p q
  -- the next input is decided alike, so that it is the same one for both
  pub decided : (is : List Input) (i : Input) → T (shut is p) → done i (run is p) ≡ done i (run is q)
  -- and from it on everything that is left is the same, memories and CRC values too
  pub after : (cs : List Call) (c : Call) (ds : List Call) → T (shut (inputs cs) p) → T (opens (input c) (run (inputs cs) p))
      → leaves_of (c ∷ ds) (run (inputs cs) p) ≡ leaves_of (c ∷ ds) (run (inputs cs) q)

-- demand 3, of any two boards freshly powered, locked, with memories of their proper sizes and alike in user system data
abbrev pub Demand3 : Type 0
Demand3 = (m n : Memories) → T (proper m) → T (proper n) → m.usd ≡ n.usd → T (protection_on m.usd) → Secret (powered m) (powered n)
