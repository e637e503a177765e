-- What each UART step tests, beside the reason that it has: document 02, Wish 2.
use Rattle.std.specs.Prelude.{ℕ, ◌≡◌, Bool, not, List, [], ◌∷◌, get_or, take, T}
use Rattle.words.specs.Bytes.{number, two_bytes}
use Rattle.board.specs.Board.{address}
use Rattle.board.specs.Quantities.{count_of, less_one, address_in, count_sent, address_bytes, selector_bytes, long_count_bytes, first_indexed, first_numbered}
use Rattle.board.specs.Regions.{known, jumpable, sector_start}
use Rattle.board.specs.declared.Address.{Address}
use Rattle.board.specs.declared.View.{View}
use Rattle.command.specs.Commands.{uart_commands, look_up}
use Rattle.command.specs.Progress.{Progress, staged_with, short}
use Rattle.command.specs.Tests.{Test, ◌when◌, only_if, GivesFirst, IsFirst, in_order, one_of, reasons_of}
use Rattle.command.specs.Why.{reason_of}
use Rattle.command.specs.declared.Why.{Why}
use Rattle.command.specs.declared.Why.TheVariants.{BadComplement, UnknownCommand, AccessProtected, BadChecksum, BadAddress, BadRange, BadSector}
use Rattle.command.specs.declared.Why.TheVariants.{WriteProtected, UnsupportedErase}
use Rattle.rules.specs.Tests.{command_tests, read_tests, write_tests, selector_tests, erase_tests, erase_all_tests, protect_tests, sum_tests}
use Rattle.uart.specs.Conversation.{complemented, checks, checks_counted, checks_numbered, heard}
use Rattle.uart.specs.Steps.{count_in, numbers_in}
use Rattle.uart.specs.declared.Step.{Step}
use Rattle.uart.specs.declared.Step.TheVariants.{Idle, ReadAddress, JumpAddress, WriteAddress, CrcAddress, ReadLength, WriteLength, WriteData}
use Rattle.uart.specs.declared.Step.TheVariants.{EraseSelector, SpecialCheck, EraseList, ProtectLength, ProtectList, CrcCount}

-- the reasons that each step may give, in document 02's order: no reason but these, and which of them, if any, `first` says
abbrev pub possible : Step → List Why
possible Idle = BadComplement ∷ UnknownCommand ∷ AccessProtected ∷ []
possible ReadAddress = BadChecksum ∷ BadAddress ∷ []
possible JumpAddress = BadChecksum ∷ BadAddress ∷ []
possible WriteAddress = BadChecksum ∷ BadAddress ∷ []
possible CrcAddress = BadChecksum ∷ BadAddress ∷ []
possible ReadLength = BadChecksum ∷ BadAddress ∷ BadRange ∷ []
possible WriteLength = []
possible WriteData = BadChecksum ∷ BadAddress ∷ BadRange ∷ WriteProtected ∷ []
possible EraseSelector = BadRange ∷ []
possible SpecialCheck = BadChecksum ∷ WriteProtected ∷ UnsupportedErase ∷ []
possible EraseList = BadChecksum ∷ BadSector ∷ WriteProtected ∷ []
possible ProtectLength = []
possible ProtectList = BadChecksum ∷ BadSector ∷ []
possible CrcCount = BadChecksum ∷ BadAddress ∷ BadRange ∷ []

-- an address: the XOR of its four bytes; what the command asks of it
abbrev pub address_tests : (Address → Bool) → List ℕ → List Test
address_tests good bytes =
    (BadChecksum when not (checks (take address_bytes bytes) (get_or bytes address_bytes 0))) ∷ (BadAddress when not (good (address_in bytes))) ∷ []

-- a step whose bytes are all there: what it expected, the session's address, the staged bytes, the view
abbrev pub complete_tests : Step → ℕ → ℕ → List ℕ → View → List Test
complete_tests Idle e a bytes view =
    (BadComplement when not (complemented bytes)) ∷ command_tests view (look_up uart_commands (get_or bytes 0 0))
complete_tests ReadAddress e a bytes view = address_tests known bytes
complete_tests JumpAddress e a bytes view = address_tests jumpable bytes
complete_tests WriteAddress e a bytes view = address_tests known bytes
complete_tests CrcAddress e a bytes view = address_tests sector_start bytes
complete_tests ReadLength e a bytes view =
    (BadChecksum when not (complemented bytes)) ∷ read_tests (address a) (count_of (less_one (get_or bytes 0 0)))
complete_tests WriteLength e a bytes view = []
complete_tests WriteData e a bytes view =
    (BadChecksum when not (checks_counted (count_in e) bytes)) ∷ write_tests view (address a) (count_in e)
complete_tests EraseSelector e a bytes view = selector_tests (number (take selector_bytes bytes))
complete_tests SpecialCheck e a bytes view =
    (BadChecksum when not (checks (two_bytes a) (get_or bytes 0 0))) ∷ erase_all_tests view a
complete_tests EraseList e a bytes view =
    (BadChecksum when not (checks_numbered (numbers_in e) bytes)) ∷ erase_tests view (first_numbered (numbers_in e) bytes)
complete_tests ProtectLength e a bytes view = []
complete_tests ProtectList e a bytes view =
    (BadChecksum when not (checks_counted (count_in e) bytes)) ∷ protect_tests (first_indexed (count_in e) bytes)
complete_tests CrcCount e a bytes view =
    (BadChecksum when not (checks (0xFF ∷ take long_count_bytes bytes) (get_or bytes long_count_bytes 0)))
    ∷ sum_tests (address a) (count_sent (take long_count_bytes bytes))

-- one byte of a connected host: nothing refuses it but the tests of its step, when it is the last
abbrev pub tests : Step → Progress → View → ℕ → List Test
tests s p view b =
    only_if (not (short p (b ∷ []))) (complete_tests s p.expected p.address (staged_with p (b ∷ [])) view)

-- the reason of any byte, in any step and for any board
pub record FirstReasons : Type 0 where
  -- the table is in document 02's order, and a step tests what the table has
  pub ordered : (s : Step) → T (in_order (possible s))
  pub tested : (s : Step) (p : Progress) (view : View) (b : ℕ) → reasons_of (tests s p view b) ≡ possible s
  -- the reason given is the first of those whose tests refuse, also when each test is asked by itself
  pub first : (s : Step) (p : Progress) (view : View) (b : ℕ) → GivesFirst (heard s p view b) (tests s p view b)
  pub foremost : (s : Step) (p : Progress) (view : View) (b : ℕ) → IsFirst (reason_of (heard s p view b).reply) (tests s p view b)
  -- and no other is given than those of the table
  pub only : (s : Step) (p : Progress) (view : View) (b : ℕ) → T (one_of (possible s) (reason_of (heard s p view b).reply))
