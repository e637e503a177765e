-- The commands and their numbers: document 01, "Protected commands", and the lists of both conversations.
use Rattle.std.specs.Prelude.{ℕ, Bool, true, false, List, [], ◌∷◌, ◌++◌, eqb, if◌then◌else◌, Option, Some, None}
use Rattle.command.specs.declared.Command.{Command}
use Rattle.command.specs.declared.Command.TheVariants.{GetCommands, GetVersion, GetDeviceId, ReadMemory, Jump, WriteMemory, Erase}
use Rattle.command.specs.declared.Command.TheVariants.{ProgramProtect, ProgramUnprotect, AccessProtect, AccessUnprotect, FirmwareCrc}
use Rattle.command.specs.declared.Command.TheVariants.{ResetDevice, Speed}

-- the number of each command
abbrev pub code : Command → ℕ
code GetCommands = 0x00
code GetVersion = 0x01
code GetDeviceId = 0x02
code ReadMemory = 0x11
code Jump = 0x21
code WriteMemory = 0x31
code Erase = 0x44
code ProgramProtect = 0x63
code ProgramUnprotect = 0x73
code AccessProtect = 0x82
code AccessUnprotect = 0x92
code FirmwareCrc = 0xAC
code ResetDevice = 0xD4
code Speed = 0x03

-- the list of UART
abbrev pub uart_commands : List Command
uart_commands =
    GetCommands ∷ GetVersion ∷ GetDeviceId ∷ ReadMemory ∷ Jump ∷ WriteMemory ∷ Erase ∷ ProgramProtect ∷ ProgramUnprotect
    ∷ AccessProtect ∷ AccessUnprotect ∷ FirmwareCrc ∷ ResetDevice ∷ []

-- the list of CAN, which ends with 03
abbrev pub can_commands : List Command
can_commands = uart_commands ++ Speed ∷ []

-- the command of a list that has a number
abbrev pub look_up : List Command → ℕ → Option Command
look_up [] n = None
look_up (c ∷ cs) n = if eqb n (code c) then Some c else look_up cs n

-- NACKed at once while protection is on; Firmware CRC is not
abbrev pub protected : Command → Bool
protected GetCommands = false
protected GetVersion = false
protected GetDeviceId = false
protected ReadMemory = true
protected Jump = true
protected WriteMemory = true
protected Erase = true
protected ProgramProtect = true
protected ProgramUnprotect = true
protected AccessProtect = true
protected AccessUnprotect = false
protected FirmwareCrc = false
protected ResetDevice = false
protected Speed = false
