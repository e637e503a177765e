-- The CAN conversation, command by command and step by step: document 01, "CAN conversation".
use Rattle.std.specs.Prelude.{ℕ, ◌+◌, Bool, true, not, ◌||◌, List, ◌∷◌, map, length, get_or, drop, eqb, leb, Option, Some, None, Ok, Err}
use Rattle.words.specs.Bytes.{number}
use Rattle.board.specs.Board.{address, identity}
use Rattle.board.specs.Quantities.{count_of, one_less, address_in, count_sent, address_bytes, selector_bytes, long_count_bytes}
use Rattle.board.specs.declared.View.{View}
use Rattle.memories.specs.declared.Change.TheVariants.{EraseAll}
use Rattle.command.specs.Commands.{code, can_commands, look_up}
use Rattle.command.specs.Decision.{Verdict, if◌gives◌else◌, answer, alter, nack, judged}
use Rattle.command.specs.Progress.{Progress, progress_at, staged_with, short, overfull}
use Rattle.command.specs.declared.Command.{Command}
use Rattle.command.specs.declared.Command.TheVariants.{GetCommands, GetVersion, GetDeviceId, ReadMemory, Jump, WriteMemory, Erase, ProgramProtect}
use Rattle.command.specs.declared.Command.TheVariants.{ProgramUnprotect, AccessProtect, AccessUnprotect, FirmwareCrc, ResetDevice, Speed}
use Rattle.command.specs.declared.Decision.{Decision}
use Rattle.command.specs.declared.Next.TheVariants.{Gather, GoIdle, SetSpeed, Enter, EnterAt}
use Rattle.command.specs.declared.FixedReply.TheVariants.{Silence, Ack, AckAck, AckNack, Commands, Version, DeviceId}
use Rattle.command.specs.declared.Why.TheVariants.{BadComplement, UnknownCommand, OtherFrame, BadRange, BadSpeed}
use Rattle.rules.specs.Rules.{unless_protected, telling, reading, write_verdict, writing, selector_of, erasing, erase_all_verdict, protecting, releasing}
use Rattle.rules.specs.Rules.{locking, unlocking, resetting, jumping, summing}
use Rattle.rules.specs.declared.Selector.{Selector}
use Rattle.rules.specs.declared.Selector.TheVariants.{Listed, Special, Impossible}
use Rattle.frames.specs.Frames.{Frame, carried, counted}
use Rattle.can.specs.Steps.{step_no, expected_for_numbers, numbers_in}
use Rattle.can.specs.declared.Step.{Step}
use Rattle.can.specs.declared.Step.TheVariants.{Idle, WriteData, EraseList, ProtectList}

-- the room that a reply buffer must have
abbrev pub can_room : ℕ
can_room = 363

-- the ID that asks for a connection
abbrev pub connect_id : ℕ
connect_id = 0x79

-- 0x00 tells n - 1, version, list, where n counts version and commands
abbrev pub command_bytes : List ℕ
command_bytes = (one_less (length can_commands + 1)).0 ∷ identity.version ∷ map code can_commands

-- the largest speed
abbrev pub largest_speed : ℕ
largest_speed = 3

-- the DLC that a command must have; the rest ignore DLC and data
abbrev pub dlc_fits : Command → ℕ → Bool
dlc_fits GetCommands n = true
dlc_fits GetVersion n = true
dlc_fits GetDeviceId n = true
dlc_fits ReadMemory n = eqb n (address_bytes + 1)
dlc_fits Jump n = eqb n address_bytes
dlc_fits WriteMemory n = eqb n (address_bytes + 1)
dlc_fits Erase n = eqb n selector_bytes
dlc_fits ProgramProtect n = eqb n 1
dlc_fits ProgramUnprotect n = true
dlc_fits AccessProtect n = true
dlc_fits AccessUnprotect n = true
dlc_fits FirmwareCrc n = eqb n (address_bytes + long_count_bytes)
dlc_fits ResetDevice n = true
dlc_fits Speed n = eqb n 2

-- the same for the command that was looked up; an unknown command has no rule
abbrev pub dlc_right : Option Command → ℕ → Bool
dlc_right (Some c) n = dlc_fits c n
dlc_right None n = true

-- special erases: ACK, then ACK or NACK
unfoldable pub erased_or_not : Verdict → Decision
erased_or_not (Ok u) = alter AckAck EraseAll GoIdle
erased_or_not (Err w) = answer (AckNack w) GoIdle

-- a list is announced, or a special erase is done
unfoldable pub selected : View → Selector → Decision
selected view (Listed n) = answer Ack (Enter (step_no EraseList) (expected_for_numbers (count_of n)))
selected view (Special n) = erased_or_not (erase_all_verdict view n)
selected view Impossible = nack BadRange

-- 0x11: an address and a count
abbrev pub read_memory : List ℕ → Decision
read_memory d = reading (address_in d) (count_sent (drop address_bytes d))

-- 0x63: a count
abbrev pub program_protect : List ℕ → Decision
program_protect d = answer Ack (Enter (step_no ProtectList) (count_sent d))

-- 0xAC: an address and a count of two bytes
abbrev pub firmware_crc : List ℕ → Decision
firmware_crc d = summing (address_in d) (count_sent (drop address_bytes d))

-- 0x03: a speed
abbrev pub set_speed : List ℕ → Decision
set_speed d = if leb (get_or d 0 0) largest_speed gives answer AckAck (SetSpeed (get_or d 0 0)) else nack BadSpeed

-- a command frame's data, and what the command asks for
unfoldable pub obeyed : View → List ℕ → Command → Decision
obeyed view d GetCommands = telling Commands
obeyed view d GetVersion = telling Version
obeyed view d GetDeviceId = telling DeviceId
obeyed view d ReadMemory = read_memory d
obeyed view d Jump = jumping (address_in d)
obeyed view d WriteMemory =
    judged (write_verdict view (address_in d) (count_sent (drop address_bytes d)))
    (answer Ack (EnterAt (step_no WriteData) (count_sent (drop address_bytes d)) (address_in d).0))
obeyed view d Erase = selected view (selector_of (number d))
obeyed view d ProgramProtect = program_protect d
obeyed view d ProgramUnprotect = releasing
obeyed view d AccessProtect = locking
obeyed view d AccessUnprotect = unlocking
obeyed view d FirmwareCrc = firmware_crc d
obeyed view d ResetDevice = resetting
obeyed view d Speed = set_speed d

-- the ID is the command; a wrong DLC, no command, or a protected one: NACK
unfoldable pub commanded : View → List ℕ → Option Command → Decision
commanded view d (Some c) =
    if dlc_fits c (length d) gives unless_protected view c (obeyed view d c) else nack BadComplement
commanded view d None = nack UnknownCommand

-- frames of the running ID are gathered until all bytes are there; another ID, or DLC 0, ends the command
unfoldable pub gathering : Command → Progress → Frame → Decision → Decision
gathering c p f done =
    if not (eqb f.id (code c)) || eqb f.dlc 0 gives nack OtherFrame
    else if short p f.bytes gives answer Silence Gather
    else done

-- extra bytes in an index list refuse it
unfoldable pub unless_extra : Progress → Frame → Decision → Decision
unless_extra p f d = if overfull p f.bytes gives nack BadRange else d

-- one frame of a connected host, given the progress with its bytes staged, and only those of its bytes that count
unfoldable pub decided : Step → Progress → View → Frame → Decision
decided Idle p view f = commanded view f.bytes (look_up can_commands f.id)
decided WriteData p view f = gathering WriteMemory p f (writing view (address p.address) p.expected)
decided EraseList p view f = gathering Erase p f (unless_extra p f (erasing view p.staged (numbers_in p.expected)))
decided ProtectList p view f = gathering ProgramProtect p f (unless_extra p f (protecting p.staged p.expected))

-- one frame of a connected host
unfoldable pub heard : Step → Progress → View → Frame → Decision
heard s p view f =
    decided s (progress_at p.taken p.expected p.address (staged_with p (carried f))) view (counted f)

-- the ID that replies bear: the frame's own, or while gathering the running one
abbrev pub bears : Step → ℕ → ℕ
bears Idle id = id
bears WriteData id = code WriteMemory
bears EraseList id = code Erase
bears ProtectList id = code ProgramProtect
