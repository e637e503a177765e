-- The rules of the commands, said once for both carriers: document 01, "Effects shared by both carriers".
use Rattle.std.specs.Prelude.{ℕ, not, ◌&&◌, ◌||◌, List, eqb, leb, if◌then◌else◌, Option, Some, None, Err}
use Rattle.words.specs.Lists.{any, all}
use Rattle.board.specs.Board as B
use Rattle.board.specs.Quantities.{count_of, less_one, bytes_in, is_sector, every_sector, first_indexed, first_numbered}
use Rattle.board.specs.Regions.{place_of, known, jumpable, sector_start, touched}
use Rattle.board.specs.View.{write_protected}
use Rattle.board.specs.declared.Address.{Address}
use Rattle.board.specs.declared.Place.{Place}
use Rattle.board.specs.declared.Region.{Region}
use Rattle.board.specs.declared.Region.TheVariants.{Flash, Sram, Usd}
use Rattle.board.specs.declared.Sector.{Sector}
use Rattle.board.specs.declared.View.{View}
use Rattle.memories.specs.declared.Change.{Change}
use Rattle.memories.specs.declared.Change.TheVariants.{Write, EraseSectors, ProtectOnly, Release, Lock, Unlock}
use Rattle.command.specs.Commands.{protected}
use Rattle.command.specs.Decision.{if◌gives◌else◌, answer, alter, show, nack, Verdict, fine, judged}
use Rattle.command.specs.declared.Command.{Command}
use Rattle.command.specs.declared.Decision.{Decision}
use Rattle.command.specs.declared.Next.{Next}
use Rattle.command.specs.declared.Next.TheVariants.{Reset, GoIdle, Run}
use Rattle.command.specs.declared.Reply.TheVariants.{Data, Crc}
use Rattle.command.specs.declared.FixedReply.{FixedReply}
use Rattle.command.specs.declared.FixedReply.TheVariants.{Ack, AckAck}
use Rattle.command.specs.declared.Why.TheVariants.{AccessProtected, BadAddress, BadRange, BadSector, WriteProtected, UnsupportedErase}
use Rattle.rules.specs.declared.Selector.{Selector}
use Rattle.rules.specs.declared.Selector.TheVariants.{Listed, Special, Impossible}

-- Protected commands are NACKed while protection is on
unfoldable pub unless_protected : View → Command → Decision → Decision
unless_protected view c d = if view.locked && protected c gives nack AccessProtected else d

-- 0x00, 0x01 and 0x02 are answered at once
abbrev pub telling : FixedReply → Decision
telling t = answer t GoIdle

-- 0x11: an address in no region, and a range that leaves its region, are refused
unfoldable pub read_at : Option Place → ℕ → Decision
read_at (Some p) x = show (Data p.region p.at x) GoIdle
read_at None x = nack BadRange

unfoldable pub reading : Address → ℕ → Decision
reading a x = if known a gives read_at (place_of a x) x else nack BadAddress

-- 0x31: the sectors that are touched, the whole of user system data
abbrev pub flash_verdict : View → ℕ → ℕ → Verdict
flash_verdict view at x = if any (write_protected view) (touched at x) then Err WriteProtected else fine

abbrev pub usd_verdict : ℕ → ℕ → Verdict
usd_verdict at x = if eqb at 0 && eqb x (B.usd).bytes then fine else Err BadRange

abbrev pub write_verdict_in : View → Region → ℕ → ℕ → Verdict
write_verdict_in view Flash at x = flash_verdict view at x
write_verdict_in view Sram at x = fine
write_verdict_in view Usd at x = usd_verdict at x

-- the range
unfoldable pub write_verdict_at : View → Option Place → ℕ → Verdict
write_verdict_at view (Some p) x = write_verdict_in view p.region p.at x
write_verdict_at view None x = Err BadRange

unfoldable pub write_verdict : View → Address → ℕ → Verdict
write_verdict view a x = if known a then write_verdict_at view (place_of a x) x else Err BadAddress

-- user system data is replaced, then reset
abbrev pub after_write : Region → Next
after_write Flash = GoIdle
after_write Sram = GoIdle
after_write Usd = Reset

-- (a write to nowhere never gets here)
unfoldable pub write_at : Option Place → ℕ → Decision
write_at (Some p) x = alter Ack (Write p.region p.at x) (after_write p.region)
write_at None x = nack BadRange

-- x staged bytes go to an address, or the write is refused whole
unfoldable pub writing : View → Address → ℕ → Decision
writing view a x = judged (write_verdict view a x) (write_at (place_of a x) x)

-- the first special selector, and the two that erase all flash
abbrev pub first_special : ℕ
first_special = 0xFFFB

abbrev pub whole_flash : ℕ
whole_flash = 0xFFFF

abbrev pub first_bank : ℕ
first_bank = 0xFFFE

-- 0x44: 0xFFFB to 0xFFFF are special, 0 to 31 announce a list of one more, others are impossible
unfoldable pub selector_of : ℕ → Selector
selector_of n =
    if leb first_special n then Special n
    else if leb (count_of (less_one n)) (B.sectors).count then Listed (less_one n)
    else Impossible

-- any number over 31 or any write-protected sector named refuses the whole list
unfoldable pub erase_verdict : View → List Sector → Verdict
erase_verdict view ks =
    if not (all is_sector ks) then Err BadSector
    else if any (write_protected view) ks then Err WriteProtected
    else fine

-- the x sectors whose numbers are staged are erased, or none
unfoldable pub erasing : View → List ℕ → ℕ → Decision
erasing view staged x = judged (erase_verdict view (first_numbered x staged)) (alter Ack (EraseSectors x) GoIdle)

-- 0xFFFF and 0xFFFE both mean all flash, refused if any sector is write-protected; other special selectors are refused, and name none
unfoldable pub erase_all_verdict : View → ℕ → Verdict
erase_all_verdict view n =
    if not (eqb n whole_flash || eqb n first_bank) then Err UnsupportedErase
    else if any (write_protected view) every_sector then Err WriteProtected
    else fine

-- 0x63: an index over 31 refuses all; then reset
unfoldable pub protect_verdict : List Sector → Verdict
protect_verdict ks = if all is_sector ks then fine else Err BadSector

unfoldable pub protecting : List ℕ → ℕ → Decision
protecting staged x = judged (protect_verdict (first_indexed x staged)) (alter Ack (ProtectOnly x) Reset)

-- 0x73, 0x82, 0x92 and 0xD4: a second ACK at once, then reset
abbrev pub altering : Change → Decision
altering c = alter AckAck c Reset

abbrev pub releasing : Decision
releasing = altering Release

abbrev pub locking : Decision
locking = altering Lock

abbrev pub unlocking : Decision
unlocking = altering Unlock

abbrev pub resetting : Decision
resetting = answer AckAck Reset

-- 0x21: the address is in flash or SRAM
unfoldable pub jumping : Address → Decision
jumping a = if jumpable a gives answer Ack (Run a.0) else nack BadAddress

-- 0xAC: whole sectors, from a sector's start, all inside flash (a sector's start is never in SRAM or USD)
abbrev pub sum_in : Region → ℕ → ℕ → Decision
sum_in Flash at n = show (Crc at n) GoIdle
sum_in Sram at n = nack BadRange
sum_in Usd at n = nack BadRange

unfoldable pub sum_at : Option Place → ℕ → Decision
sum_at (Some p) n = sum_in p.region p.at n
sum_at None n = nack BadRange

unfoldable pub summing : Address → ℕ → Decision
summing a x = if sector_start a gives sum_at (place_of a (bytes_in x)) (bytes_in x) else nack BadAddress
