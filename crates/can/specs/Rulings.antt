-- Rulings of the CAN conversation that document 01 gives.
use Rattle.std.specs.Prelude.{◌≡◌, ◌&&◌, List, [], ◌∷◌, map, ℕ, ◌%◌, length, replicate, eqb, leb}
use Prim.Native.String.{String}
use Rattle.words.specs.Hex.{hex}
use Rattle.words.specs.Lists.{count_from}
use Rattle.board.specs.declared.Region.TheVariants.{Flash}
use Rattle.board.specs.declared.View.{View}
use Rattle.memories.specs.declared.Change.TheVariants.{Write, EraseAll, EraseSectors, ProtectOnly}
use Rattle.command.specs.Decision.{answer, alter, show, nack}
use Rattle.command.specs.declared.Decision.{Decision}
use Rattle.command.specs.declared.Next.TheVariants.{Reset, Gather, GoIdle, SetSpeed, Enter, EnterAt}
use Rattle.command.specs.declared.Reply.TheVariants.{Data, Crc}
use Rattle.command.specs.declared.FixedReply.TheVariants.{Silence, Ack, AckAck, AckNack}
use Rattle.command.specs.declared.Why.TheVariants.{BadComplement, UnknownCommand, AccessProtected, OtherFrame, BadRange, BadSector, UnsupportedErase, BadSpeed}
use Rattle.rules.specs.Rulings.{Ruling, ◌is◌, Ruled, fresh, locked}
use Rattle.can.specs.Conversation.{command_bytes, heard}
use Rattle.frames.specs.Frames.{classic, frame_in, framed}
use Rattle.can.specs.Steps.{step_no, steps, step_of, expects, expected_for_numbers, numbers_in}
use Rattle.can.specs.declared.Step.{Step}
use Rattle.can.specs.declared.Step.TheVariants.{Idle, WriteData, EraseList, ProtectList}

-- a frame comes to an idle session; and to one that gathers, with what it has taken, expects and keeps
abbrev pub command : String → View → Decision
command t view = heard Idle (record { taken = 0; expected = 1; address = 0; staged = replicate 257 0 }) view (frame_in (hex t))

abbrev pub gathers : Step → ℕ → ℕ → ℕ → String → Decision
gathers s taken expected a t =
    heard s (record { taken = taken; expected = expected; address = a; staged = replicate 257 0 }) fresh (frame_in (hex t))

-- frames of each command, and of each step that gathers
abbrev pub rulings : List Ruling
rulings =
    (command "00 11 05 08 00 00 00 03 00 00 00" fresh is show (Data Flash 0 4) GoIdle)
    ∷ (command "00 11 04 08 00 00 00 03 00 00 00" fresh is nack BadComplement)
    ∷ (command "00 11 05 08 00 00 00 03 00 00 00" locked is nack AccessProtected)
    ∷ (command "07 FF 00 00 00 00 00 00 00 00 00" fresh is nack UnknownCommand)
    ∷ (command "00 31 05 08 00 00 00 02 00 00 00" fresh is answer Ack (EnterAt (step_no WriteData) 3 0x08000000))
    ∷ (command "00 31 05 08 00 7F FF 01 00 00 00" fresh is nack BadRange)
    ∷ (command "00 44 02 00 1F 00 00 00 00 00 00" fresh is answer Ack (Enter (step_no EraseList) 64))
    ∷ (command "00 44 02 00 20 00 00 00 00 00 00" fresh is nack BadRange)
    ∷ (command "00 44 02 FF FF 00 00 00 00 00 00" fresh is alter AckAck EraseAll GoIdle)
    ∷ (command "00 44 02 FF FB 00 00 00 00 00 00" fresh is answer (AckNack UnsupportedErase) GoIdle)
    ∷ (command "00 63 01 01 00 00 00 00 00 00 00" fresh is answer Ack (Enter (step_no ProtectList) 2))
    ∷ (command "00 AC 06 08 00 7C 00 00 00 00 00" fresh is show (Crc 31744 1024) GoIdle)
    ∷ (command "00 03 02 03 FF 00 00 00 00 00 00" fresh is answer AckAck (SetSpeed 3))
    ∷ (command "00 03 02 04 00 00 00 00 00 00 00" fresh is nack BadSpeed)
    ∷ (gathers WriteData 0 3 0x08000000 "00 31 08 01 02 03 04 05 06 07 08" is alter Ack (Write Flash 0 3) GoIdle)
    ∷ (gathers WriteData 0 9 0x08000000 "00 31 08 01 02 03 04 05 06 07 08" is answer Silence Gather)
    ∷ (gathers WriteData 0 3 0x08000000 "00 11 08 01 02 03 04 05 06 07 08" is nack OtherFrame)
    ∷ (gathers WriteData 0 3 0x08000000 "00 31 00 01 02 03 04 05 06 07 08" is nack OtherFrame)
    ∷ (gathers EraseList 0 4 0 "00 44 04 00 00 00 1F 00 00 00 00" is alter Ack (EraseSectors 2) GoIdle)
    ∷ (gathers EraseList 0 4 0 "00 44 04 00 00 00 20 00 00 00 00" is nack BadSector)
    ∷ (gathers EraseList 0 4 0 "00 44 05 00 00 00 1F 00 00 00 00" is nack BadRange)
    ∷ (gathers ProtectList 0 2 0 "00 63 02 00 1F 00 00 00 00 00 00" is alter Ack (ProtectOnly 2) Reset)
    ∷ (gathers ProtectList 0 2 0 "00 63 03 00 1F 00 00 00 00 00 00" is nack BadRange)
    ∷ []

-- what is heard, and what is told
pub record Rulings : Type 0 where
  -- each frame is decided as the paper decides it
  pub ruled : Ruled rulings
  -- n - 1, version and list, which ends with 03
  pub commands_told : command_bytes ≡ hex "0E 20 00 01 02 11 21 31 44 63 73 82 92 AC D4 03"
  -- ten bytes are one frame of eight and a last with what remains, unused data bytes 0
  pub cut : framed classic 0x11 (hex "01 02 03 04 05 06 07 08 09 0A" ∷ [])
      ≡ hex "00 11 08 01 02 03 04 05 06 07 08 00 11 02 09 0A 00 00 00 00 00 00"

-- the steps, in document 01's numbers
pub record StepRulings : Type 0 where
  -- numbered from 0, idle first, then as listed
  pub in_order : map step_no steps ≡ count_from 0 (length steps)
  pub read_back : (s : Step) → step_of (step_no s) ≡ s
  -- what each may expect
  pub expected : (e : ℕ) → map (λ (s : Step). expects s e) steps
      ≡ eqb e 1 ∷ (leb 1 e && leb e 256) ∷ (leb 2 e && leb e 64 && eqb (e % 2) 0) ∷ (leb 1 e && leb e 256) ∷ []
  -- X is read back from it
  pub numbers_back : (x : ℕ) → numbers_in (expected_for_numbers x) ≡ x
