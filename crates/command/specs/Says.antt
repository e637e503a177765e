-- What each reply says, message by message.
use Rattle.std.specs.Prelude.{ℕ, ◌+◌, Bool, true, false, ◌&&◌, List, [], ◌∷◌, ◌++◌, ◌≡◌, length, drop, leb}
use Rattle.words.specs.Bytes.{byte_of, four_bytes}
use Rattle.words.specs.Lists.{part, singly}
use Rattle.board.specs.Board.{extent_of, flash, identity}
use Rattle.board.specs.Quantities.{largest_count}
use Rattle.word_crc.specs.Words.{word_crc}
use Rattle.memories.specs.Memories.{Memories, bytes_of}
use Rattle.command.specs.declared.Reply.{Reply}
use Rattle.command.specs.declared.Reply.TheVariants.{Fixed, Data, Crc}
use Rattle.command.specs.declared.FixedReply.{FixedReply}
use Rattle.command.specs.declared.FixedReply.TheVariants.{Silence, Ack, AckAck, Nack, AckNack, Commands, Version, DeviceId}

-- ACK is 0x79, NACK 0x1F
abbrev pub ack_byte : ℕ
ack_byte = 0x79

abbrev pub nack_byte : ℕ
nack_byte = 0x1F

abbrev pub ack_message : List ℕ
ack_message = ack_byte ∷ []

abbrev pub nack_message : List ℕ
nack_message = nack_byte ∷ []

-- ACK, then bytes one by one, then ACK
abbrev pub told : List ℕ → List (List ℕ)
told bytes = ack_message ∷ singly bytes ++ ack_message ∷ []

-- 0x01: version, BID
abbrev pub version_bytes : List ℕ
version_bytes = identity.version ∷ identity.bid_first ∷ identity.bid_second ∷ []

-- 0x02: 0x04, product bits 8-15, 0-7, 24-31, 16-23, project
abbrev pub device_bytes : List ℕ
device_bytes =
    0x04 ∷ byte_of identity.product 1 ∷ byte_of identity.product 0 ∷ byte_of identity.product 3
    ∷ byte_of identity.product 2 ∷ identity.project ∷ []

-- the messages of what is told, given what the carrier tells of its commands
abbrev pub tells : List ℕ → FixedReply → List (List ℕ)
tells commands Silence = []
tells commands Ack = ack_message ∷ []
tells commands AckAck = ack_message ∷ ack_message ∷ []
tells commands (Nack w) = nack_message ∷ []
tells commands (AckNack w) = ack_message ∷ nack_message ∷ []
tells commands Commands = told commands
tells commands Version = told version_bytes
tells commands DeviceId = told device_bytes

-- and those of a reply
unfoldable pub says : List ℕ → Reply → Memories → List (List ℕ)
says commands (Fixed t) m = tells commands t
says commands (Data r at x) m = ack_message ∷ part at x (bytes_of r m) ∷ []
says commands (Crc at n) m = ack_message ∷ four_bytes (word_crc (part at n m.flash)) ∷ []

-- a reply tells nothing of a memory
abbrev pub fixed : Reply → Bool
fixed (Fixed t) = true
fixed (Data r at x) = false
fixed (Crc at n) = false

-- a reply can be given: its bytes of a memory are there, and no more than a command carries
abbrev pub sayable : Reply → Bool
sayable (Fixed t) = true
sayable (Data r at x) = leb x largest_count && leb (at + x) (extent_of r).bytes
sayable (Crc at n) = leb (at + n) flash.bytes

-- the most bytes of a reply: ACK and the bytes of the largest read
abbrev pub reply_room : ℕ
reply_room = largest_count + 1

-- a reply of so many bytes stands at the front of a buffer, which is unchanged beyond it
pub record Said (reply : List ℕ) (n : ℕ) (before after : List ℕ) : Type 0 where
  pub count : n ≡ length reply
  pub buffer : after ≡ reply ++ drop (length reply) before
