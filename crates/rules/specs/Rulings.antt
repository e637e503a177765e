-- Rulings that document 01's worked talk and its rules give, in two columns: what the definitions decide, and what the paper does.
use Rattle.std.specs.Prelude.{◌≡◌, List, [], ◌∷◌, map, replicate, set}
use Rattle.words.specs.Hex.{hex}
use Rattle.board.specs.Board.{address}
use Rattle.board.specs.View.{view_of}
use Rattle.board.specs.declared.Region.TheVariants.{Flash, Sram, Usd}
use Rattle.board.specs.declared.View.{View}
use Rattle.memories.specs.Memories.{fresh_usd}
use Rattle.memories.specs.declared.Change.TheVariants.{Write, EraseAll, EraseSectors, ProtectOnly}
use Rattle.command.specs.Decision.{answer, alter, show, nack, judged}
use Rattle.command.specs.declared.Command.TheVariants.{ReadMemory, FirmwareCrc}
use Rattle.command.specs.declared.Decision.{Decision}
use Rattle.command.specs.declared.Next.TheVariants.{Reset, GoIdle, Run}
use Rattle.command.specs.declared.Reply.TheVariants.{Data, Crc}
use Rattle.command.specs.declared.FixedReply.TheVariants.{Ack}
use Rattle.command.specs.declared.Why.TheVariants.{AccessProtected, BadAddress, BadRange, BadSector, WriteProtected, UnsupportedErase}
use Rattle.rules.specs.Rules.{unless_protected, reading, writing, erasing, erase_all_verdict, protecting, resetting, jumping, summing}

-- what is looked at of a fresh board, of one with sector 1 write-protected, and of one with protection on
abbrev pub fresh : View
fresh = view_of fresh_usd

abbrev pub one_protected : View
one_protected = view_of (set fresh_usd 8 0xFD)

abbrev pub locked : View
locked = view_of (replicate 64 0xFF)

-- what the definitions decide, and what the paper does
pub record Ruling : Type 0 where
  pub decided : Decision
  pub paper : Decision

infix 4 ◌is◌
abbrev pub ◌is◌ : Decision → Decision → Ruling
d is p = record { decided = d; paper = p }

-- both columns of a table of rulings
abbrev pub decisions : List Ruling → List Decision
decisions rs = map (λ (r : Ruling). r.decided) rs

abbrev pub papers : List Ruling → List Decision
papers rs = map (λ (r : Ruling). r.paper) rs

-- each decision is the paper's
abbrev pub Ruled : List Ruling → Type 0
Ruled rs = decisions rs ≡ papers rs

-- rulings that the worked talk and the rules give
abbrev pub rulings : List Ruling
rulings =
    (unless_protected locked ReadMemory resetting is nack AccessProtected)
    ∷ (unless_protected locked FirmwareCrc resetting is resetting)
    ∷ (unless_protected fresh ReadMemory resetting is resetting)
    ∷ (reading (address 0x08000000) 4 is show (Data Flash 0 4) GoIdle)
    ∷ (reading (address 0x20001FFF) 1 is show (Data Sram 8191 1) GoIdle)
    ∷ (reading (address 0x20001FFF) 2 is nack BadRange)
    ∷ (reading (address 0x1FFFF83F) 1 is show (Data Usd 63 1) GoIdle)
    ∷ (reading (address 0x07FFFFFF) 1 is nack BadAddress)
    ∷ (writing fresh (address 0x080003FF) 2 is alter Ack (Write Flash 1023 2) GoIdle)
    ∷ (writing one_protected (address 0x080003FF) 2 is nack WriteProtected)
    ∷ (writing one_protected (address 0x080003FF) 1 is alter Ack (Write Flash 1023 1) GoIdle)
    ∷ (writing fresh (address 0x08007FFF) 1 is alter Ack (Write Flash 32767 1) GoIdle)
    ∷ (writing fresh (address 0x08007FFF) 2 is nack BadRange)
    ∷ (writing fresh (address 0x1FFFF800) 64 is alter Ack (Write Usd 0 64) Reset)
    ∷ (writing fresh (address 0x1FFFF800) 63 is nack BadRange)
    ∷ (writing fresh (address 0x1FFFF801) 63 is nack BadRange)
    ∷ (erasing fresh (hex "00 1F 00 1F") 2 is alter Ack (EraseSectors 2) GoIdle)
    ∷ (erasing fresh (hex "00 00 00 20") 2 is nack BadSector)
    ∷ (erasing one_protected (hex "00 00 00 01") 2 is nack WriteProtected)
    ∷ (judged (erase_all_verdict fresh 0xFFFE) (alter Ack EraseAll GoIdle) is alter Ack EraseAll GoIdle)
    ∷ (judged (erase_all_verdict one_protected 0xFFFF) (alter Ack EraseAll GoIdle) is nack WriteProtected)
    ∷ (judged (erase_all_verdict fresh 0xFFFD) (alter Ack EraseAll GoIdle) is nack UnsupportedErase)
    ∷ (protecting (hex "00 1F") 2 is alter Ack (ProtectOnly 2) Reset)
    ∷ (protecting (hex "00 20") 2 is nack BadSector)
    ∷ (jumping (address 0x20000000) is answer Ack (Run 0x20000000))
    ∷ (jumping (address 0x1FFFF800) is nack BadAddress)
    ∷ (summing (address 0x08007C00) 1 is show (Crc 31744 1024) GoIdle)
    ∷ (summing (address 0x08007C00) 2 is nack BadRange)
    ∷ (summing (address 0x08007C01) 1 is nack BadAddress)
    ∷ []
