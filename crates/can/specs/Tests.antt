-- What each CAN frame is tested for, beside the reason that it has: document 02, Wish 2.
use Rattle.std.specs.Prelude.{ℕ, ◌≡◌, not, ◌||◌, List, [], ◌∷◌, ◌++◌, length, get_or, drop, T, eqb, leb, Option, Some, None}
use Rattle.words.specs.Bytes.{number}
use Rattle.board.specs.Board.{address}
use Rattle.board.specs.Quantities.{address_in, count_sent, address_bytes, first_indexed, first_numbered}
use Rattle.board.specs.declared.View.{View}
use Rattle.command.specs.Commands.{code, can_commands, look_up}
use Rattle.command.specs.Progress.{Progress, progress_at, staged_with, short, overfull}
use Rattle.command.specs.Tests.{Test, ◌when◌, only_if, GivesFirst, IsFirst, in_order, one_of, reasons_of}
use Rattle.command.specs.Why.{reason_of}
use Rattle.command.specs.declared.Command.{Command}
use Rattle.command.specs.declared.Command.TheVariants.{GetCommands, GetVersion, GetDeviceId, ReadMemory, Jump, WriteMemory, Erase, ProgramProtect}
use Rattle.command.specs.declared.Command.TheVariants.{ProgramUnprotect, AccessProtect, AccessUnprotect, FirmwareCrc, ResetDevice, Speed}
use Rattle.command.specs.declared.Why.{Why}
use Rattle.command.specs.declared.Why.TheVariants.{BadComplement, UnknownCommand, AccessProtected, OtherFrame, BadAddress, BadRange, BadSector}
use Rattle.command.specs.declared.Why.TheVariants.{WriteProtected, UnsupportedErase, BadSpeed}
use Rattle.rules.specs.Tests.{command_tests, read_tests, write_tests, special, selector_tests, erase_tests, erase_all_tests, protect_tests, jump_tests, sum_tests}
use Rattle.frames.specs.Frames.{Frame, carried, counted}
use Rattle.can.specs.Conversation.{largest_speed, dlc_right, heard}
use Rattle.can.specs.Steps.{numbers_in}
use Rattle.can.specs.declared.Step.{Step}
use Rattle.can.specs.declared.Step.TheVariants.{Idle, WriteData, EraseList, ProtectList}

-- the reasons that a command frame may give for its own command, in document 02's order: no reason but these, and which of them, if any, `first` says
abbrev pub possible_of : Command → List Why
possible_of GetCommands = []
possible_of GetVersion = []
possible_of GetDeviceId = []
possible_of ReadMemory = BadAddress ∷ BadRange ∷ []
possible_of Jump = BadAddress ∷ []
possible_of WriteMemory = BadAddress ∷ BadRange ∷ WriteProtected ∷ []
possible_of Erase = BadRange ∷ WriteProtected ∷ UnsupportedErase ∷ []
possible_of ProgramProtect = []
possible_of ProgramUnprotect = []
possible_of AccessProtect = []
possible_of AccessUnprotect = []
possible_of FirmwareCrc = BadAddress ∷ BadRange ∷ []
possible_of ResetDevice = []
possible_of Speed = BadSpeed ∷ []

-- and those of any command frame: again no reason but these, of which an unknown ID gives the second
abbrev pub possible_for : Option Command → List Why
possible_for (Some c) = BadComplement ∷ UnknownCommand ∷ AccessProtected ∷ possible_of c
possible_for None = BadComplement ∷ UnknownCommand ∷ AccessProtected ∷ []

-- no reason but these is given by a frame in a step, idle by the command that its ID is, while gathering by the running one; which of them, `first` says
abbrev pub possible : Step → Option Command → List Why
possible Idle l = possible_for l
possible WriteData l = OtherFrame ∷ BadAddress ∷ BadRange ∷ WriteProtected ∷ []
possible EraseList l = OtherFrame ∷ BadRange ∷ BadSector ∷ WriteProtected ∷ []
possible ProtectList l = OtherFrame ∷ BadRange ∷ BadSector ∷ []

-- what a command frame's data are tested for, by the command
abbrev pub data_tests : View → List ℕ → Command → List Test
data_tests view d GetCommands = []
data_tests view d GetVersion = []
data_tests view d GetDeviceId = []
data_tests view d ReadMemory = read_tests (address_in d) (count_sent (drop address_bytes d))
data_tests view d Jump = jump_tests (address_in d)
data_tests view d WriteMemory = write_tests view (address_in d) (count_sent (drop address_bytes d))
data_tests view d Erase = selector_tests (number d) ++ only_if (special (number d)) (erase_all_tests view (number d))
data_tests view d ProgramProtect = []
data_tests view d ProgramUnprotect = []
data_tests view d AccessProtect = []
data_tests view d AccessUnprotect = []
data_tests view d FirmwareCrc = sum_tests (address_in d) (count_sent (drop address_bytes d))
data_tests view d ResetDevice = []
data_tests view d Speed = (BadSpeed when not (leb (get_or d 0 0) largest_speed)) ∷ []

-- the same by what was looked up
abbrev pub data_tests_for : View → List ℕ → Option Command → List Test
data_tests_for view d (Some c) = data_tests view d c
data_tests_for view d None = []

-- a command frame: a wrong DLC; unknown, or protected while protection is on; what its data are tested for
abbrev pub frame_tests : View → List ℕ → Option Command → List Test
frame_tests view d l = (BadComplement when not (dlc_right l (length d))) ∷ command_tests view l ++ data_tests_for view d l

-- a frame that is gathered: another ID, or DLC 0; then, when no more bytes are expected, what the whole is tested for
abbrev pub gathering_tests : Command → Progress → Frame → List Test → List Test
gathering_tests c p f ts =
    (OtherFrame when not (eqb f.id (code c)) || eqb f.dlc 0) ∷ only_if (not (short p f.bytes)) ts

-- one frame, given the progress with its bytes staged, and only those of its bytes that count; an index list is refused for extra bytes
abbrev pub decided_tests : Step → Progress → View → Frame → List Test
decided_tests Idle p view f = frame_tests view f.bytes (look_up can_commands f.id)
decided_tests WriteData p view f = gathering_tests WriteMemory p f (write_tests view (address p.address) p.expected)
decided_tests EraseList p view f =
    gathering_tests Erase p f
    ((BadRange when overfull p f.bytes) ∷ erase_tests view (first_numbered (numbers_in p.expected) p.staged))
decided_tests ProtectList p view f =
    gathering_tests ProgramProtect p f
    ((BadRange when overfull p f.bytes) ∷ protect_tests (first_indexed p.expected p.staged))

-- one frame of a connected host
abbrev pub tests : Step → Progress → View → Frame → List Test
tests s p view f =
    decided_tests s (progress_at p.taken p.expected p.address (staged_with p (carried f))) view (counted f)

-- the reason of any frame, in any step and for any board
pub record FirstReasons : Type 0 where
  -- the table is in document 02's order, and a step tests what the table has
  pub ordered : (s : Step) (l : Option Command) → T (in_order (possible s l))
  pub tested : (s : Step) (p : Progress) (view : View) (f : Frame)
      → reasons_of (tests s p view f) ≡ possible s (look_up can_commands f.id)
  -- the reason given is the first of those whose tests refuse, also when each test is asked by itself
  pub first : (s : Step) (p : Progress) (view : View) (f : Frame) → GivesFirst (heard s p view f) (tests s p view f)
  pub foremost : (s : Step) (p : Progress) (view : View) (f : Frame) → IsFirst (reason_of (heard s p view f).reply) (tests s p view f)
  -- and no other is given than those of the table
  pub only : (s : Step) (p : Progress) (view : View) (f : Frame)
      → T (one_of (possible s (look_up can_commands f.id)) (reason_of (heard s p view f).reply))
