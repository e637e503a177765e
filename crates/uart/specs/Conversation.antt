-- The UART conversation, step by step: document 01, "UART conversation".
use Rattle.std.specs.Prelude.{ℕ, ◌+◌, Bool, List, [], ◌∷◌, ◌++◌, map, length, get_or, take, eqb, Option, Some, None}
use Rattle.words.specs.Bytes.{complement, xor_all, number, two_bytes}
use Rattle.board.specs.Board.{address, identity}
use Rattle.board.specs.Quantities.{count_of, less_one, one_less, address_in, count_sent, address_bytes, selector_bytes, long_count_bytes, numbers_bytes}
use Rattle.command.specs.Says.{reply_room}
use Rattle.board.specs.Regions.{known, sector_start}
use Rattle.board.specs.declared.Address.{Address}
use Rattle.board.specs.declared.View.{View}
use Rattle.memories.specs.declared.Change.TheVariants.{EraseAll}
use Rattle.command.specs.Commands.{code, uart_commands, look_up}
use Rattle.command.specs.Decision.{if◌gives◌else◌, answer, alter, nack, judged}
use Rattle.command.specs.Progress.{Progress, staged_with, short}
use Rattle.command.specs.declared.Command.{Command}
use Rattle.command.specs.declared.Command.TheVariants.{GetCommands, GetVersion, GetDeviceId, ReadMemory, Jump, WriteMemory, Erase, ProgramProtect}
use Rattle.command.specs.declared.Command.TheVariants.{ProgramUnprotect, AccessProtect, AccessUnprotect, FirmwareCrc, ResetDevice, Speed}
use Rattle.command.specs.declared.Decision.{Decision}
use Rattle.command.specs.declared.Next.TheVariants.{Gather, GoIdle, Enter, EnterAt}
use Rattle.command.specs.declared.FixedReply.TheVariants.{Silence, Ack, Commands, Version, DeviceId}
use Rattle.command.specs.declared.Why.TheVariants.{BadComplement, UnknownCommand, BadChecksum, BadAddress, BadRange}
use Rattle.rules.specs.Rules.{unless_protected, telling, reading, writing, selector_of, erasing, erase_all_verdict, protecting, releasing, locking}
use Rattle.rules.specs.Rules.{unlocking, resetting, jumping, summing}
use Rattle.rules.specs.declared.Selector.{Selector}
use Rattle.rules.specs.declared.Selector.TheVariants.{Listed, Special, Impossible}
use Rattle.uart.specs.Steps.{step_no, complemented_byte, checked_address, one_byte, checked_count, expected_for, count_in, expected_for_numbers, numbers_in}
use Rattle.uart.specs.declared.Step.{Step}
use Rattle.uart.specs.declared.Step.TheVariants.{Idle, ReadAddress, JumpAddress, WriteAddress, CrcAddress, ReadLength, WriteLength, WriteData}
use Rattle.uart.specs.declared.Step.TheVariants.{EraseSelector, SpecialCheck, EraseList, ProtectLength, ProtectList, CrcCount}

-- the room that a reply buffer must have: 257
abbrev pub uart_room : ℕ
uart_room = reply_room

-- the byte that asks for a connection
abbrev pub connect_byte : ℕ
connect_byte = 0x7F

-- 0x00 tells n, version, list, where n counts version and commands
abbrev pub command_bytes : List ℕ
command_bytes = (length uart_commands + 1) ∷ identity.version ∷ map code uart_commands

-- the second byte is the complement of the first
abbrev pub complemented : List ℕ → Bool
complemented bytes = eqb (get_or bytes 1 0) (complement (get_or bytes 0 0))

-- a checksum is the XOR of the bytes that it is over
abbrev pub checks : List ℕ → ℕ → Bool
checks bytes checksum = eqb checksum (xor_all bytes)

-- X - 1, X bytes and XOR of all of these, X - 1 having come before
abbrev pub checks_counted : ℕ → List ℕ → Bool
checks_counted x bytes = checks ((one_less x).0 ∷ take x bytes) (get_or bytes x 0)

-- the selector X - 1, X two-byte numbers and XOR of all of these, the selector having come before
abbrev pub checks_numbered : ℕ → List ℕ → Bool
checks_numbered x bytes = checks (two_bytes (one_less x).0 ++ take (numbers_bytes x) bytes) (get_or bytes (numbers_bytes x) 0)

-- ACK, and a step is entered
abbrev pub go_on : Step → ℕ → Decision
go_on s e = answer Ack (Enter (step_no s) e)

-- a byte X - 1 has come, and a step for X bytes and their checksum is entered
abbrev pub awaits : Step → List ℕ → Decision
awaits s bytes = answer Silence (Enter (step_no s) (expected_for (count_of (less_one (get_or bytes 0 0)))))

-- the command's ACK, with what it asks for; 0x03 is not in the list of UART
unfoldable pub obeyed : Command → Decision
obeyed GetCommands = telling Commands
obeyed GetVersion = telling Version
obeyed GetDeviceId = telling DeviceId
obeyed ReadMemory = go_on ReadAddress checked_address
obeyed Jump = go_on JumpAddress checked_address
obeyed WriteMemory = go_on WriteAddress checked_address
obeyed Erase = go_on EraseSelector selector_bytes
obeyed ProgramProtect = go_on ProtectLength one_byte
obeyed ProgramUnprotect = releasing
obeyed AccessProtect = locking
obeyed AccessUnprotect = unlocking
obeyed FirmwareCrc = go_on CrcAddress checked_address
obeyed ResetDevice = resetting
obeyed Speed = nack UnknownCommand

-- unknown or protected: NACK
unfoldable pub commanded : View → Option Command → Decision
commanded view (Some c) = unless_protected view c (obeyed c)
commanded view None = nack UnknownCommand

-- an address and the XOR of its four bytes
unfoldable pub addressed : (Address → Decision) → List ℕ → Decision
addressed go bytes =
    if checks (take address_bytes bytes) (get_or bytes address_bytes 0) gives go (address_in bytes)
    else nack BadChecksum

-- an address that is good is kept, and a step is entered
abbrev pub kept : Bool → Step → ℕ → Address → Decision
kept good s e a = if good gives answer Ack (EnterAt (step_no s) e a.0) else nack BadAddress

-- an address is good where it passes a test
unfoldable pub kept_if : (Address → Bool) → Step → ℕ → Address → Decision
kept_if good s e a = kept (good a) s e a

-- two selector bytes: the special one is kept in the address
unfoldable pub selected : Selector → Decision
selected (Listed n) = answer Silence (Enter (step_no EraseList) (expected_for_numbers (count_of n)))
selected (Special n) = answer Silence (EnterAt (step_no SpecialCheck) one_byte n)
selected Impossible = nack BadRange

-- the end of a read's length and its complement
abbrev pub read_ends : ℕ → List ℕ → Decision
read_ends a bytes = if complemented bytes gives reading (address a) (count_of (less_one (get_or bytes 0 0))) else nack BadChecksum

-- the end of an erase's selector
abbrev pub selector_ends : List ℕ → Decision
selector_ends bytes = selected (selector_of (number (take selector_bytes bytes)))

-- the end of the indexes of 0x63 and their checksum
abbrev pub protect_ends : ℕ → List ℕ → Decision
protect_ends e bytes = if checks_counted (count_in e) bytes gives protecting bytes (count_in e) else nack BadChecksum

-- the end of Firmware CRC's count and its checksum
abbrev pub crc_ends : ℕ → List ℕ → Decision
crc_ends a bytes =
    if checks (0xFF ∷ take long_count_bytes bytes) (get_or bytes long_count_bytes 0)
    gives summing (address a) (count_sent (take long_count_bytes bytes))
    else nack BadChecksum

-- a step whose bytes are all there: what it expected, the session's address, the staged bytes, the view
unfoldable pub complete : Step → ℕ → ℕ → List ℕ → View → Decision
complete Idle e a bytes view =
    if complemented bytes gives commanded view (look_up uart_commands (get_or bytes 0 0)) else nack BadComplement
complete ReadAddress e a bytes view = addressed (kept_if known ReadLength complemented_byte) bytes
complete JumpAddress e a bytes view = addressed jumping bytes
complete WriteAddress e a bytes view = addressed (kept_if known WriteLength one_byte) bytes
complete CrcAddress e a bytes view = addressed (kept_if sector_start CrcCount checked_count) bytes
complete ReadLength e a bytes view = read_ends a bytes
complete WriteLength e a bytes view = awaits WriteData bytes
complete WriteData e a bytes view =
    if checks_counted (count_in e) bytes gives writing view (address a) (count_in e) else nack BadChecksum
complete EraseSelector e a bytes view = selector_ends bytes
complete SpecialCheck e a bytes view =
    if checks (two_bytes a) (get_or bytes 0 0) gives judged (erase_all_verdict view a) (alter Ack EraseAll GoIdle)
    else nack BadChecksum
complete EraseList e a bytes view =
    if checks_numbered (numbers_in e) bytes gives erasing view bytes (numbers_in e) else nack BadChecksum
complete ProtectLength e a bytes view = awaits ProtectList bytes
complete ProtectList e a bytes view = protect_ends e bytes
complete CrcCount e a bytes view = crc_ends a bytes

-- one byte of a connected host: gathered, or the last of its step
unfoldable pub heard : Step → Progress → View → ℕ → Decision
heard s p view b =
    if short p (b ∷ []) gives answer Silence Gather
    else complete s p.expected p.address (staged_with p (b ∷ [])) view
