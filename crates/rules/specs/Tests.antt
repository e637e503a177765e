-- What each rule tests, beside the reason that it has: document 02, Wish 2. Which of several is given, the order of the reasons says.
use Rattle.std.specs.Prelude.{ℕ, Bool, false, not, ◌&&◌, ◌||◌, List, [], ◌∷◌, eqb, leb, Option, Some, None, is_none}
use Rattle.words.specs.Lists.{any, all}
use Rattle.board.specs.Board.{sectors, usd}
use Rattle.board.specs.Quantities.{count_of, less_one, bytes_in, is_sector, every_sector}
use Rattle.board.specs.Regions.{place_of, found, known, is_flash, jumpable, sector_start, touched}
use Rattle.board.specs.View.{write_protected}
use Rattle.board.specs.declared.Address.{Address}
use Rattle.board.specs.declared.Place.{Place}
use Rattle.board.specs.declared.Region.{Region}
use Rattle.board.specs.declared.Region.TheVariants.{Flash, Sram, Usd}
use Rattle.board.specs.declared.Sector.{Sector}
use Rattle.board.specs.declared.View.{View}
use Rattle.command.specs.Commands.{protected}
use Rattle.command.specs.Tests.{Test, ◌when◌}
use Rattle.command.specs.declared.Command.{Command}
use Rattle.command.specs.declared.Why.TheVariants.{UnknownCommand, AccessProtected, BadAddress, BadRange, BadSector, WriteProtected, UnsupportedErase}
use Rattle.rules.specs.Rules.{first_special, whole_flash, first_bank}

-- a number is no command's
abbrev pub no_command : Option Command → Bool
no_command k = is_none k

-- it is that of a protected command
abbrev pub protected_one : Option Command → Bool
protected_one (Some c) = protected c
protected_one None = false

-- a command: unknown; protected while protection is on
abbrev pub command_tests : View → Option Command → List Test
command_tests view l = (UnknownCommand when no_command l) ∷ (AccessProtected when view.locked && protected_one l) ∷ []

-- x bytes from an address leave their region
abbrev pub leaves : Address → ℕ → Bool
leaves a x = not (found (place_of a x))

-- 0x11: an address in no region; a range that leaves its region
abbrev pub read_tests : Address → ℕ → List Test
read_tests a x = (BadAddress when not (known a)) ∷ (BadRange when leaves a x) ∷ []

-- x bytes of a region from an offset on are in user system data, and not the whole of it
abbrev pub part_in : Region → ℕ → ℕ → Bool
part_in Flash at x = false
part_in Sram at x = false
part_in Usd at x = not (eqb at 0 && eqb x usd.bytes)

-- the same of a place
abbrev pub part_of_usd : Option Place → ℕ → Bool
part_of_usd (Some p) x = part_in p.region p.at x
part_of_usd None x = false

-- a number is that of a sector, and this sector is write-protected
abbrev pub protected_sector : View → Sector → Bool
protected_sector view k = is_sector k && write_protected view k

-- x bytes of a region from an offset on are in flash, and touch a write-protected sector, whether or not they leave flash
abbrev pub touches_in : View → Region → ℕ → ℕ → Bool
touches_in view Flash at x = any (protected_sector view) (touched at x)
touches_in view Sram at x = false
touches_in view Usd at x = false

-- the same of a place
abbrev pub touches_protected : View → Option Place → ℕ → Bool
touches_protected view (Some p) x = touches_in view p.region p.at x
touches_protected view None x = false

-- 0x31: an address in no region; a range that leaves its region, or a USD write other than the whole; a write-protected sector
abbrev pub write_tests : View → Address → ℕ → List Test
write_tests view a x =
    (BadAddress when not (known a))
    ∷ (BadRange when leaves a x || part_of_usd (place_of a 1) x)
    ∷ (WriteProtected when touches_protected view (place_of a 1) x)
    ∷ []

-- a selector is special
abbrev pub special : ℕ → Bool
special n = leb first_special n

-- a selector is impossible: neither special, nor does it announce a list
abbrev pub impossible : ℕ → Bool
impossible n = not (special n) && not (leb (count_of (less_one n)) sectors.count)

-- 0x44, the selector: an impossible one
abbrev pub selector_tests : ℕ → List Test
selector_tests n = (BadRange when impossible n) ∷ []

-- 0x44, the list: a number over 31; a write-protected sector
abbrev pub erase_tests : View → List Sector → List Test
erase_tests view ks = (BadSector when not (all is_sector ks)) ∷ (WriteProtected when any (protected_sector view) ks) ∷ []

-- a special selector means all flash
abbrev pub means_all : ℕ → Bool
means_all n = eqb n whole_flash || eqb n first_bank

-- 0x44, special: all flash is meant, and a sector is write-protected; all flash is not meant
abbrev pub erase_all_tests : View → ℕ → List Test
erase_all_tests view n =
    (WriteProtected when means_all n && any (write_protected view) every_sector) ∷ (UnsupportedErase when not (means_all n)) ∷ []

-- 0x63: an index over 31
abbrev pub protect_tests : List Sector → List Test
protect_tests ks = (BadSector when not (all is_sector ks)) ∷ []

-- 0x21: an address outside flash and SRAM
abbrev pub jump_tests : Address → List Test
jump_tests a = (BadAddress when not (jumpable a)) ∷ []

-- a place is in flash
abbrev pub in_flash : Option Place → Bool
in_flash (Some p) = is_flash p.region
in_flash None = false

-- 0xAC: a start that is no flash sector's; sectors that leave flash
abbrev pub sum_tests : Address → ℕ → List Test
sum_tests a x = (BadAddress when not (sector_start a)) ∷ (BadRange when not (in_flash (place_of a (bytes_in x)))) ∷ []
