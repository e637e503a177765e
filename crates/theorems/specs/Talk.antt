-- The worked talk of document 01: the starred rows, in the paper's hex.
use Rattle.std.specs.Prelude.{ℕ, ◌≡◌, List, [], ◌∷◌, ◌++◌, map, length, replicate, set}
use Prim.Native.String.{String}
use Rattle.words.specs.Hex.{hex}
use Rattle.words.specs.Lists.{join, part}
use Rattle.board.specs.Board as B
use Rattle.board.specs.declared.Region.TheVariants.{Flash, Usd}
use Rattle.memories.specs.Memories.{Memories, memories, with_bytes, fresh_usd, fresh_memories}
use Rattle.uart.specs.Conversation.{uart_room}
use Rattle.can.specs.Conversation.{can_room}
use Rattle.boot.specs.Causes.{cause_no}
use Rattle.boot.specs.Calls.{State, powered, Input, Byte, Framed, Outcome, outcomes, run}

-- ---- boards

-- the fresh board
abbrev pub fresh_board : State
fresh_board = powered fresh_memories

-- the same with sector 1 write-protected
abbrev pub sector_one_protected : State
sector_one_protected = powered (with_bytes Usd (set fresh_usd 8 0xFD) fresh_memories)

-- the same with every byte of flash 0x5A, so that an erase is seen
abbrev pub loaded_board : State
loaded_board = powered (with_bytes Flash (replicate (B.flash).bytes 0x5A) fresh_memories)

-- a locked board with nothing blank, so that a wipe is seen
abbrev pub locked_usd : List ℕ
locked_usd = replicate (B.usd).bytes 0x3C

abbrev pub locked_board : State
locked_board = powered (memories (replicate (B.flash).bytes 0x5A) (replicate (B.sram).bytes 0xC3) locked_usd)

-- ---- what is sent, and what is answered

-- inputs, and the bytes of their replies, one behind the other
pub record Exchange : Type 0 where
  pub inputs : List Input
  pub answered : List ℕ

-- bytes on UART, each with the room it needs
abbrev pub uart : String → String → Exchange
uart sent answered = record { inputs = map (Byte uart_room) (hex sent); answered = hex answered }

-- a frame on CAN, in eleven bytes
abbrev pub can : String → String → Exchange
can sent answered = record { inputs = Framed can_room (hex sent) ∷ []; answered = hex answered }

-- the calls to connect
abbrev pub connect_uart : Exchange
connect_uart = uart "7F" "79"

abbrev pub connect_can : Exchange
connect_can = can "00 79 00 00 00 00 00 00 00 00 00" "00 79 01 79 00 00 00 00 00 00 00"

-- ---- what is seen afterwards

-- nothing is looked at
abbrev pub nothing : Memories → List ℕ
nothing m = []

-- the whole flash, bytes of it, and bytes of user system data
abbrev pub flash_of : Memories → List ℕ
flash_of m = m.flash

abbrev pub flash_at : ℕ → ℕ → Memories → List ℕ
flash_at at n m = part at n m.flash

abbrev pub usd_at : ℕ → ℕ → Memories → List ℕ
usd_at at n m = part at n m.usd

-- every byte of every memory
abbrev pub everything : Memories → List ℕ
everything m = m.flash ++ m.sram ++ m.usd

-- the whole flash 0xFF, SRAM 0 and USD byte 0 A5
abbrev pub wiped_clean : List ℕ
wiped_clean = replicate (B.flash).bytes 0xFF ++ replicate (B.sram).bytes 0 ++ set locked_usd 0 0xA5

-- ---- rows

-- on a board these exchanges take place, and then something is seen
pub record Talk : Type 0 where
  pub board : State
  pub exchanges : List Exchange
  pub look : Memories → List ℕ
  pub seen : List ℕ

-- a row in which the memories are looked at
abbrev pub shows : State → List Exchange → (Memories → List ℕ) → List ℕ → Talk
shows board exchanges look seen = record { board = board; exchanges = exchanges; look = look; seen = seen }

-- a row of answers
abbrev pub answers : State → List Exchange → Talk
answers board exchanges = shows board exchanges nothing []

-- what comes of an exchange: the number of each call, and the bytes of all replies
pub record Exchanged : Type 0 where
  pub numbers : List ℕ
  pub answered : List ℕ

-- what comes of each exchange, and what is seen
pub record Heard : Type 0 where
  pub exchanged : List Exchanged
  pub seen : List ℕ

-- as the paper has it: every call is accepted, which is number 0
abbrev pub exchanged_on_paper : Exchange → Exchanged
exchanged_on_paper e = record { numbers = replicate (length e.inputs) 0; answered = e.answered }

abbrev pub paper : Talk → Heard
paper t = record { exchanged = map exchanged_on_paper t.exchanges; seen = t.seen }

-- as the definitions have it
abbrev pub exchanged_by : List Outcome → Exchanged
exchanged_by os = record {
  numbers = map (λ (o : Outcome). cause_no o.cause) os;
  answered = join (map (λ (o : Outcome). o.reply) os);
}

unfoldable pub exchanges_of : List Exchange → State → List Exchanged
exchanges_of [] p = []
exchanges_of (e ∷ es) p = exchanged_by (outcomes e.inputs p) ∷ exchanges_of es (run e.inputs p)

unfoldable pub ends : List Exchange → State → State
ends [] p = p
ends (e ∷ es) p = ends es (run e.inputs p)

unfoldable pub board : Talk → Heard
board t = record { exchanged = exchanges_of t.exchanges t.board; seen = t.look (ends t.exchanges t.board).memories }

-- the starred rows
abbrev pub starred : List Talk
starred =
    answers fresh_board (connect_uart ∷ [])
    ∷ answers fresh_board (connect_uart ∷ uart "00 FF" "79 0E 20 00 01 02 11 21 31 44 63 73 82 92 AC D4 79" ∷ [])
    ∷ answers fresh_board (connect_uart ∷ uart "02 FD" "79 04 56 78 12 34 5A 79" ∷ [])
    ∷ answers fresh_board (connect_uart ∷ uart "01 FF" "1F" ∷ [])
    ∷ answers fresh_board
    (connect_uart ∷ uart "11 EE" "79" ∷ uart "08 00 00 00 08" "79" ∷ uart "03 FC" "79 FF FF FF FF" ∷ [])
    ∷ shows fresh_board
    (connect_uart ∷ uart "31 CE" "79" ∷ uart "08 00 03 FF F4" "79" ∷ uart "01 AA 0F A4" "79" ∷ [])
    (flash_at 1022 4) (hex "FF AA 0F FF")
    ∷ shows sector_one_protected
    (connect_uart ∷ uart "31 CE" "79" ∷ uart "08 00 03 FF F4" "79" ∷ uart "01 AA 0F A4" "1F" ∷ [])
    (flash_at 1022 4) (hex "FF FF FF FF")
    ∷ answers fresh_board
    (connect_uart ∷ uart "11 EE" "79" ∷ uart "08 00 7F FF 88" "79" ∷ uart "00 FF" "79 FF" ∷ [])
    ∷ answers fresh_board
    (connect_uart ∷ uart "11 EE" "79" ∷ uart "08 00 7F FF 88" "79" ∷ uart "01 FE" "1F" ∷ [])
    ∷ shows fresh_board
    (connect_uart ∷ uart "31 CE" "79" ∷ uart "08 00 7F FF 88" "79" ∷ uart "00 12 12" "79" ∷ [])
    (flash_at 32766 2) (hex "FF 12")
    ∷ shows fresh_board
    (connect_uart ∷ uart "31 CE" "79" ∷ uart "08 00 7F FF 88" "79" ∷ uart "01 12 34 27" "1F" ∷ [])
    (flash_at 32766 2) (hex "FF FF")
    ∷ shows fresh_board
    (connect_uart ∷ uart "31 CE 08 00 00 00 08 00 F0 F0" "79 79 79" ∷ uart "31 CE 08 00 00 00 08 00 3C 3C" "79 79 79" ∷ [])
    (flash_at 0 2) (hex "30 FF")
    ∷ shows fresh_board
    (connect_uart ∷ uart "63 9C" "79" ∷ uart "01 00 1F 1E" "79" ∷ [])
    (usd_at 7 6) (hex "FF FE FF FF 7F FF")
    ∷ shows fresh_board
    (connect_uart ∷ uart "63 9C 01 00 1F 1E" "79 79" ∷ connect_uart ∷ uart "63 9C" "79" ∷ uart "00 03 03" "79" ∷ [])
    (usd_at 7 6) (hex "FF F7 FF FF FF FF")
    ∷ shows fresh_board
    (connect_uart ∷ uart "44 BB" "79" ∷ uart "00 00 00 20 20" "1F" ∷ [])
    flash_of (replicate (B.flash).bytes 0xFF)
    ∷ shows loaded_board
    (connect_uart ∷ uart "44 BB" "79" ∷ uart "00 00 00 20 20" "1F" ∷ [])
    flash_of (replicate (B.flash).bytes 0x5A)
    ∷ shows fresh_board
    (connect_can
    ∷ can "00 31 05 08 00 00 00 02 00 00 00" "00 31 01 79 00 00 00 00 00 00 00"
    ∷ can "00 31 08 01 02 03 04 05 06 07 08" "00 31 01 79 00 00 00 00 00 00 00" ∷ [])
    (flash_at 0 9) (hex "01 02 03 FF FF FF FF FF FF")
    ∷ shows locked_board (connect_uart ∷ uart "11 EE" "1F" ∷ uart "92 6D" "79 79" ∷ []) everything wiped_clean
    ∷ []

-- in every row each call has the number, the answers and what is seen that the paper has
abbrev pub WorkedTalk : Type 0
WorkedTalk = map board starred ≡ map paper starred
