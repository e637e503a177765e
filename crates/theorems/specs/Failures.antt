-- The club's failures, each as a statement that a mentor can read.
use Rattle.std.specs.Prelude.{ℕ, ◌<◌, ◌≡◌, Bool, true, false, not, ◌&&◌, ◌||◌, List, [], ◌∷◌, length, get_or, take, drop, T, eqb, Option, Some, None}
use Rattle.words.specs.Lists.{any, all}
use Rattle.std.specs.Prelude.{if◌then◌else◌}
use Rattle.words.specs.Over.{within}
use Rattle.board.specs.Quantities.{is_sector, named, first_indexed, first_numbered}
use Rattle.board.specs.Regions.{inside, place_of}
use Rattle.board.specs.Usd.{beside_bits, protection_on}
use Rattle.board.specs.View.{view_of, write_protected}
use Rattle.board.specs.declared.Address.{Address}
use Rattle.board.specs.declared.Place.{Place}
use Rattle.board.specs.declared.Sector.{Sector}
use Rattle.memories.specs.Memories.{Memories, bytes_of, proper}
use Rattle.command.specs.Progress.{staged_with}
use Rattle.command.specs.Says.{says}
use Rattle.command.specs.Why.{no_reason}
use Rattle.command.specs.declared.Reply.{Reply}
use Rattle.command.specs.declared.Reply.TheVariants.{Fixed, Data, Crc}
use Rattle.command.specs.declared.FixedReply.TheVariants.{Silence, Ack, AckAck, Nack, AckNack, Commands, Version, DeviceId}
use Rattle.uart.specs.Steps as U
use Rattle.uart.specs.declared.Step as US
use Rattle.can.specs.Steps as C
use Rattle.can.specs.declared.Step as CS
use Rattle.frames.specs.Frames.{classic, frame_bytes, frame_in}
use Rattle.boot.specs.Session.{on, progress}
use Rattle.boot.specs.Causes.{cause_no}
use Rattle.boot.specs.Calls.{State, powered, Input, brings, Power, Byte, Framed, view_in, commands_of, sent, call, done, run}
use Rattle.carriers.specs.declared.Carrier.TheVariants.{Uart}
use Rattle.boot.specs.declared.Session.{Session}
use Rattle.theorems.specs.Secrecy.{in_uart, in_can, shut, struck, veiled}

-- the X of a step that counts bytes, read back from what it expects
abbrev pub count_of_bytes : Session → ℕ
count_of_bytes s = if on Uart s then U.count_in s.expected else s.expected

-- the staged bytes, with those that an input brings among them
abbrev pub staged_after : Input → Session → List ℕ
staged_after i s = staged_with (progress s) (brings i)

-- ---- an ACK and a NACK, as a host sees them

-- bytes are one frame of DLC 1 with this data byte
abbrev pub is_frame_of : ℕ → List ℕ → Bool
is_frame_of b l = eqb (frame_in l).dlc 1 && eqb (get_or (frame_in l).bytes 0 0) b && eqb (length l) (frame_bytes classic)

-- a reply is this byte and nothing else, on CAN as a frame
abbrev pub is_one : ℕ → Input → List ℕ → Bool
is_one b Power reply = false
is_one b (Byte room n) reply = eqb (get_or reply 0 0) b && eqb (length reply) 1
is_one b (Framed room l) reply = is_frame_of b reply

-- one ACK
abbrev pub acked : Input → List ℕ → Bool
acked i reply = is_one 0x79 i reply

-- an input is the frame of an erase, of ID 0x44 to an idle session
abbrev pub is_erase : Input → Session → Bool
is_erase Power s = false
is_erase (Byte room b) s = false
is_erase (Framed room l) s = in_can CS.Step.Idle s && eqb (frame_in l).id 0x44

-- one NACK, or on CAN, to a special erase, an ACK and then a NACK
abbrev pub nacked : Input → Session → List ℕ → Bool
nacked i s reply =
    is_one 0x1F i reply
    || (is_frame_of 0x79 (take (frame_bytes classic) reply) && is_frame_of 0x1F (drop (frame_bytes classic) reply) && is_erase i s)

-- ---- (a) the padding of a last frame was programmed: "a completed write changes at most the X bytes it names, whatever else its last
-- frame carried"

-- a session gathers the data of a write
abbrev pub in_write : Session → Bool
in_write s = in_uart US.Step.WriteData s || in_can CS.Step.WriteData s

-- an address is one of the X that the write names, from the session's address on
abbrev pub is_named : Session → Address → Bool
is_named s a = within s.address (count_of_bytes s) a.0

-- the byte at an address
abbrev pub byte_in : Option Place → Memories → ℕ
byte_in (Some p) m = get_or (bytes_of p.region m) p.at 0
byte_in None m = 0

abbrev pub byte_at : Address → Memories → ℕ
byte_at a m = byte_in (place_of a 1) m

-- whatever comes in while a write gathers its data, no byte changes but the X that it names
abbrev pub OnlyNamedBytes : Type 0
OnlyNamedBytes =
    (i : Input) (p : State) → T (in_write p.session) → (a : Address) → T (not (is_named p.session a))
    → byte_at a (call i p).state.memories ≡ byte_at a p.memories

-- ---- (b) half a list was erased before a bad number refused it: "an erase that is refused, for any reason and at any point of its conversation,
-- leaves every byte of every memory as it was, and no byte of flash changes before the last byte or frame of the list"

-- an input is refused: by one of the five causes, or by a NACK
abbrev pub is_refused : Input → State → Bool
is_refused i p = not (eqb (cause_no (call i p).cause) 0) || nacked i p.session (call i p).reply

-- a session is inside an erase
abbrev pub in_erase : Session → Bool
in_erase s =
    in_uart US.Step.EraseSelector s || in_uart US.Step.SpecialCheck s || in_uart US.Step.EraseList s || in_can CS.Step.EraseList s

-- after each input of a run the session is inside an erase: its last byte or frame has not come
unfoldable pub erase_pending : List Input → State → Bool
erase_pending [] p = true
erase_pending (i ∷ is) p = in_erase (call i p).state.session && erase_pending is (call i p).state

-- a session gathers the numbers of an erase; the sectors that they name
abbrev pub in_erase_list : Session → Bool
in_erase_list s = in_uart US.Step.EraseList s || in_can CS.Step.EraseList s

abbrev pub to_erase : Input → Session → List Sector
to_erase i s = first_numbered (if on Uart s then U.numbers_in s.expected else C.numbers_in s.expected) (staged_after i s)

pub record EraseAllOrNothing : Type 0 where
  -- a refusal of any command, at any point, leaves every byte of every memory
  pub refusal : (i : Input) (p : State) → T (is_refused i p) → (call i p).state.memories ≡ p.memories
  -- while an erase is still coming in, every byte of every memory stays
  pub pending : (is : List Input) (p : State) → T (erase_pending is p) → (run is p).memories ≡ p.memories
  -- so an erase that is refused in the end has changed nothing from its beginning
  pub together : (is : List Input) (i : Input) (p : State) → T (erase_pending is p) → T (is_refused i (run is p))
      → (call i (run is p)).state.memories ≡ p.memories
  -- and a list that is accepted holds only sectors of the board, none of them write-protected
  pub accepted : (i : Input) (p : State) → T (in_erase_list p.session) → T (acked i (call i p).reply)
      → T (all is_sector (to_erase i p.session)) × T (not (any (write_protected (view_in p)) (to_erase i p.session)))

-- ---- (c) a locked board was read: "a board that is locked when it is powered on never decides to read, whatever comes in, until an obeyed Access
-- Unprotect (by its wiping): no byte of flash, SRAM or USD is sent, the CRC value apart"

-- a reply holds bytes of a memory
abbrev pub reads : Reply → Bool
reads (Fixed t) = false
reads (Data r at x) = true
reads (Crc at n) = false

-- what would be sent with other memories in place of a board's own
abbrev pub sent_with : Memories → Input → State → List ℕ
sent_with m i p = sent i p.session (says (commands_of i) (done i p).reply m)

-- of a board, before an obeyed Access Unprotect
pub record Unread (p : State) : Type 0 where
  -- what a call replies is what is sent with the board's own memories
  pub own : (is : List Input) (i : Input) → (call i (run is p)).reply ≡ sent_with (run is p).memories i (run is p)
  -- no input is decided to read
  pub never : (is : List Input) (i : Input) → T (shut is p) → T (not (reads (done i (run is p)).reply))
  -- and what is sent is the same for any memories, but for a CRC value
  pub blind : (is : List Input) (i : Input) → T (shut is p) → (m n : Memories)
      → veiled i (struck i (run is p)) (sent_with m i (run is p)) ≡ veiled i (struck i (run is p)) (sent_with n i (run is p))

-- a board that is locked when it is powered on
abbrev pub NeverRead : Type 0
NeverRead = (m : Memories) → T (proper m) → T (protection_on m.usd) → Unread (powered m)

-- ---- (d) other sectors than the named ones were protected: "after an accepted 0x63 exactly the named sectors are protected"

-- a session gathers the indexes of 0x63; the sectors that they name
abbrev pub in_protect : Session → Bool
in_protect s = in_uart US.Step.ProtectList s || in_can CS.Step.ProtectList s

abbrev pub to_protect : Input → Session → List Sector
to_protect i s = first_indexed (count_of_bytes s) (staged_after i s)

-- what an accepted list leaves of the memories
pub record Protects (ks : List Sector) (m n : Memories) : Type 0 where
  -- a sector is write-protected exactly if it is named
  pub exactly : (k : Sector) → T (is_sector k) → write_protected (view_of n.usd) k ≡ named ks k
  -- only sectors of the board are named
  pub sectors : T (all is_sector ks)
  -- and nothing else changes
  pub others : (i : ℕ) → i < length m.usd → T (beside_bits i) → get_or n.usd i 0 ≡ get_or m.usd i 0
  pub flash : n.flash ≡ m.flash
  pub sram : n.sram ≡ m.sram

abbrev pub ExactlyNamed : Type 0
ExactlyNamed =
    (i : Input) (p : State) → T (in_protect p.session) → T (acked i (call i p).reply)
    → Protects (to_protect i p.session) p.memories (call i p).state.memories

-- ---- what is seen is what was decided

-- a reply is one ACK
abbrev pub acks : Reply → Bool
acks (Fixed Silence) = false
acks (Fixed Ack) = true
acks (Fixed AckAck) = false
acks (Fixed (Nack w)) = false
acks (Fixed (AckNack w)) = false
acks (Fixed Commands) = false
acks (Fixed Version) = false
acks (Fixed DeviceId) = false
acks (Data r at x) = false
acks (Crc at n) = false

-- a reply refuses
abbrev pub refuses : Reply → Bool
refuses (Fixed Silence) = false
refuses (Fixed Ack) = false
refuses (Fixed AckAck) = false
refuses (Fixed (Nack w)) = true
refuses (Fixed (AckNack w)) = true
refuses (Fixed Commands) = false
refuses (Fixed Version) = false
refuses (Fixed DeviceId) = false
refuses (Data r at x) = false
refuses (Crc at n) = false

-- an ACK and a NACK, as a host sees them, tell what was decided, and a reason is told beside a NACK
pub record OnTheWire : Type 0 where
  -- a NACK to any input, on any board
  pub refusal : (i : Input) (p : State) → nacked i p.session (call i p).reply ≡ refuses (done i p).reply
  -- an ACK to an input while a list of sectors is gathered
  pub acceptance : (i : Input) (p : State) → T (in_erase_list p.session || in_protect p.session) → acked i (call i p).reply ≡ acks (done i p).reply
  -- a reason is told exactly where there is a NACK, and a place only there
  pub reason : (i : Input) (p : State) → eqb (call i p).reason no_reason ≡ not (nacked i p.session (call i p).reply)
  pub place : (i : Input) (p : State) → T (not (nacked i p.session (call i p).reply)) → (call i p).place ≡ 0
