-- Rulings of the UART conversation that document 01 gives, and the places of document 02, Wish 2.
use Rattle.std.specs.Prelude.{◌≡◌, ◌&&◌, List, [], ◌∷◌, map, ℕ, ◌+◌, ◌*◌, ◌-◌, ◌%◌, length, get_or, T, eqb, leb}
use Rattle.words.specs.Hex.{hex}
use Rattle.words.specs.Lists.{count_from}
use Rattle.board.specs.declared.Region.TheVariants.{Flash}
use Rattle.board.specs.declared.View.{View}
use Rattle.memories.specs.declared.Change.TheVariants.{Write, EraseAll, EraseSectors, ProtectOnly, Lock, Unlock}
use Rattle.command.specs.Decision.{answer, alter, show, nack}
use Rattle.command.specs.declared.Decision.{Decision}
use Rattle.command.specs.declared.Next.TheVariants.{Reset, GoIdle, Enter, EnterAt, Run}
use Rattle.command.specs.declared.Reply.TheVariants.{Data, Crc}
use Rattle.command.specs.declared.FixedReply.TheVariants.{Silence, Ack, AckAck}
use Rattle.command.specs.declared.Why.TheVariants.{BadComplement, UnknownCommand, AccessProtected, BadChecksum, BadAddress, BadRange, UnsupportedErase}
use Rattle.rules.specs.Rulings.{Ruling, ◌is◌, Ruled, fresh, locked}
use Rattle.uart.specs.Conversation.{command_bytes, heard}
use Rattle.uart.specs.Steps.{step_no, steps, step_of, expects, expected_for, count_in, expected_for_numbers, numbers_in, wire_byte}
use Rattle.uart.specs.declared.Step.{Step}
use Rattle.uart.specs.declared.Step.TheVariants.{Idle, ReadAddress, JumpAddress, WriteAddress, CrcAddress, ReadLength, WriteLength, WriteData}
use Rattle.uart.specs.declared.Step.TheVariants.{EraseSelector, SpecialCheck, EraseList, ProtectList, CrcCount}

-- the last byte of a step comes in: the bytes before it, the address, the view
abbrev pub last : Step → List ℕ → ℕ → View → Decision
last s bytes a view =
    heard s (record { taken = length bytes - 1; expected = length bytes; address = a; staged = bytes }) view (get_or bytes (length bytes - 1) 0)

-- the last bytes of each step, as the worked talk and the rules have them
abbrev pub rulings : List Ruling
rulings =
    (last Idle (hex "01 FF") 0 fresh is nack BadComplement)
    ∷ (last Idle (hex "03 FC") 0 fresh is nack UnknownCommand)
    ∷ (last Idle (hex "11 EE") 0 locked is nack AccessProtected)
    ∷ (last Idle (hex "AC 53") 0 locked is answer Ack (Enter (step_no CrcAddress) 5))
    ∷ (last Idle (hex "92 6D") 0 locked is alter AckAck Unlock Reset)
    ∷ (last Idle (hex "82 7D") 0 fresh is alter AckAck Lock Reset)
    ∷ (last ReadAddress (hex "08 00 00 00 08") 0 fresh is answer Ack (EnterAt (step_no ReadLength) 2 0x08000000))
    ∷ (last ReadAddress (hex "08 00 00 00 09") 0 fresh is nack BadChecksum)
    ∷ (last ReadAddress (hex "09 00 00 00 09") 0 fresh is nack BadAddress)
    ∷ (last ReadLength (hex "03 FC") 0x08000000 fresh is show (Data Flash 0 4) GoIdle)
    ∷ (last JumpAddress (hex "20 00 00 00 20") 0 fresh is answer Ack (Run 0x20000000))
    ∷ (last WriteLength (hex "01") 0x080003FF fresh is answer Silence (Enter (step_no WriteData) 3))
    ∷ (last WriteData (hex "AA 0F A4") 0x080003FF fresh is alter Ack (Write Flash 1023 2) GoIdle)
    ∷ (last WriteData (hex "AA 0F A5") 0x080003FF fresh is nack BadChecksum)
    ∷ (last EraseSelector (hex "00 00") 0 fresh is answer Silence (Enter (step_no EraseList) 3))
    ∷ (last EraseSelector (hex "00 20") 0 fresh is nack BadRange)
    ∷ (last EraseSelector (hex "FF FB") 0 fresh is answer Silence (EnterAt (step_no SpecialCheck) 1 0xFFFB))
    ∷ (last SpecialCheck (hex "01") 0xFFFE fresh is alter Ack EraseAll GoIdle)
    ∷ (last SpecialCheck (hex "01") 0x1FFFE fresh is nack UnsupportedErase)
    ∷ (last SpecialCheck (hex "02") 0xFFFD fresh is nack UnsupportedErase)
    ∷ (last EraseList (hex "00 03 00 1F 1D") 0 fresh is alter Ack (EraseSectors 2) GoIdle)
    ∷ (last ProtectList (hex "00 1F 1E") 0 fresh is alter Ack (ProtectOnly 2) Reset)
    ∷ (last CrcAddress (hex "08 00 7C 00 74") 0 fresh is answer Ack (EnterAt (step_no CrcCount) 3 0x08007C00))
    ∷ (last CrcCount (hex "00 00 FF") 0x08007C00 fresh is show (Crc 31744 1024) GoIdle)
    ∷ (last CrcCount (hex "00 00 00") 0x08007C00 fresh is nack BadChecksum)
    ∷ (last CrcCount (hex "00 01 FE") 0x08007C00 fresh is nack BadRange)
    ∷ []

-- what is heard, and what is told
pub record Rulings : Type 0 where
  -- each last byte is decided as the paper decides it
  pub ruled : Ruled rulings
  -- n, version and list, as 00 FF is answered
  pub commands_told : command_bytes ≡ hex "0E 20 00 01 02 11 21 31 44 63 73 82 92 AC D4"

-- the steps, in document 01's numbers
pub record StepRulings : Type 0 where
  -- numbered from 0, idle first, then as listed
  pub in_order : map step_no steps ≡ count_from 0 (length steps)
  pub read_back : (s : Step) → step_of (step_no s) ≡ s
  -- what each may expect
  pub expected : (e : ℕ) → map (λ (s : Step). expects s e) steps
      ≡ eqb e 2 ∷ eqb e 5 ∷ eqb e 5 ∷ eqb e 5 ∷ eqb e 5 ∷ eqb e 2 ∷ eqb e 1 ∷ (leb 2 e && leb e 257) ∷ eqb e 2 ∷ eqb e 1
      ∷ (leb 3 e && leb e 65 && eqb (e % 2) 1) ∷ eqb e 1 ∷ (leb 2 e && leb e 257) ∷ eqb e 3 ∷ []
  -- X is read back from it
  pub bytes_back : (x : ℕ) → count_in (expected_for x) ≡ x
  pub numbers_back : (x : ℕ) → numbers_in (expected_for_numbers x) ≡ x

-- whatever a step expects, its last byte is this wire byte of the command
abbrev pub DecidedAt : Step → ℕ → Type 0
DecidedAt s n = (e : ℕ) → T (expects s e) → wire_byte s e ≡ n

-- the wire bytes, from 1, at which a NACK may fall, in numbers; a length is never refused
pub record PlaceRulings : Type 0 where
  -- a command, at its complement
  pub command : DecidedAt Idle 2
  -- the addresses of 0x11, 0x21, 0x31 and 0xAC, at their XOR
  pub read_address : DecidedAt ReadAddress 7
  pub jump_address : DecidedAt JumpAddress 7
  pub write_address : DecidedAt WriteAddress 7
  pub crc_address : DecidedAt CrcAddress 7
  -- a read's length, at its complement
  pub read_length : DecidedAt ReadLength 9
  -- a write's X bytes, at their checksum
  pub write_data : (x : ℕ) → wire_byte WriteData (expected_for x) ≡ 9 + x
  -- an erase: its selector, its special check, its list of X numbers
  pub erase_selector : DecidedAt EraseSelector 4
  pub special_check : DecidedAt SpecialCheck 5
  pub erase_list : (x : ℕ) → wire_byte EraseList (expected_for_numbers x) ≡ 5 + 2 * x
  -- 0x63's list of X indexes
  pub protect_list : (x : ℕ) → wire_byte ProtectList (expected_for x) ≡ 4 + x
  -- the count of 0xAC, at its check
  pub crc_count : DecidedAt CrcCount 10
