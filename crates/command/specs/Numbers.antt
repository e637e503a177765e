-- The numbers of commands and reasons, and what is told of the board, as document 01 writes them.
use Rattle.std.specs.Prelude.{◌≡◌, List, [], ◌∷◌, ◌++◌, map, length, Option, Some, None}
use Rattle.words.specs.Hex.{hex}
use Rattle.words.specs.Lists.{count_from}
use Rattle.command.specs.Commands.{code, uart_commands, can_commands, look_up}
use Rattle.command.specs.Says.{version_bytes, device_bytes}
use Rattle.command.specs.Why.{reason}
use Rattle.command.specs.declared.Command.{Command}
use Rattle.command.specs.declared.Command.TheVariants.{Speed}
use Rattle.command.specs.declared.Why.{Why}
use Rattle.command.specs.declared.Why.TheVariants.{BadComplement, UnknownCommand, AccessProtected, OtherFrame, BadChecksum, BadAddress}
use Rattle.command.specs.declared.Why.TheVariants.{BadRange, BadSector, WriteProtected, UnsupportedErase, BadSpeed}

-- what each number of a list of commands finds in it
abbrev pub found_in : List Command → List (Option Command)
found_in cs = map (λ (c : Command). look_up cs (code c)) cs

-- every reason, in the order of the tests
abbrev pub whys : List Why
whys =
    BadComplement ∷ UnknownCommand ∷ AccessProtected ∷ OtherFrame ∷ BadChecksum ∷ BadAddress ∷ BadRange ∷ BadSector
    ∷ WriteProtected ∷ UnsupportedErase ∷ BadSpeed ∷ []

-- the numbers, in the paper's hex
pub record Numbers : Type 0 where
  -- the list of UART, and 03 behind it on CAN
  pub uart_list : map code uart_commands ≡ hex "00 01 02 11 21 31 44 63 73 82 92 AC D4"
  pub can_list : map code can_commands ≡ map code uart_commands ++ hex "03"
  -- each command of a list is the one that its number finds
  pub uart_found : found_in uart_commands ≡ map Some uart_commands
  pub can_found : found_in can_commands ≡ map Some can_commands
  -- 0x03 is no command on UART
  pub no_speed : look_up uart_commands (code Speed) ≡ None
  -- reasons are numbered from 1 on
  pub reasons : map reason whys ≡ count_from 1 (length whys)
  -- what 0x01 and 0x02 tell
  pub version_told : version_bytes ≡ hex "20 01 07"
  pub device_told : device_bytes ≡ hex "04 56 78 12 34 5A"
