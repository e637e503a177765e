-- Document 01, "UART conversation": "No command takes over 265 bytes to its last answer."
use Rattle.std.specs.Prelude.{ℕ, ◌+◌, ◌-◌, ◌<◌, Bool, true, not, ◌&&◌, ◌||◌, List, [], ◌∷◌, ◌++◌, ◌⊎◌, T, eqb, ltb, length, replicate}
use Rattle.words.specs.Hex.{hex}
use Rattle.words.specs.Lists.{all}
use Rattle.board.specs.Board.{sectors}
use Rattle.board.specs.Quantities.{largest_count}
use Rattle.uart.specs.Conversation.{uart_room}
use Rattle.uart.specs.Steps.{step_of, complemented_byte, checked_address, one_byte, checked_count, expected_for, expected_for_numbers}
use Rattle.uart.specs.declared.Step.{Step}
use Rattle.uart.specs.declared.Step.TheVariants.{Idle, ReadAddress, JumpAddress, WriteAddress, CrcAddress, ReadLength, WriteLength, WriteData}
use Rattle.uart.specs.declared.Step.TheVariants.{EraseSelector, SpecialCheck, EraseList, ProtectLength, ProtectList, CrcCount}
use Rattle.boot.specs.Session.{on}
use Rattle.boot.specs.Causes.{accepts}
use Rattle.boot.specs.Calls.{State, Byte, cause_for, call, run}
use Rattle.carriers.specs.declared.Carrier.TheVariants.{Uart}
use Rattle.boot.specs.declared.Session.{Session}
use Rattle.theorems.specs.Secrecy.{in_uart}
use Rattle.theorems.specs.Talk.{fresh_board}

-- ---- how much of a command may still come

-- the most bytes that come behind a step before its command's last answer: what the longest steps that may follow it expect
abbrev pub behind : Step → ℕ
behind Idle = checked_address + one_byte + expected_for largest_count
behind ReadAddress = complemented_byte
behind JumpAddress = 0
behind WriteAddress = one_byte + expected_for largest_count
behind CrcAddress = checked_count
behind ReadLength = 0
behind WriteLength = expected_for largest_count
behind WriteData = 0
behind EraseSelector = expected_for_numbers sectors.count
behind SpecialCheck = 0
behind EraseList = 0
behind ProtectLength = expected_for largest_count
behind ProtectList = 0
behind CrcCount = 0

-- the most bytes that a session on UART may still take before its command's last answer
abbrev pub bytes_left : Session → ℕ
bytes_left s = s.expected - s.taken + behind (step_of s.step)

-- a session is between two commands: idle on UART, and no byte taken
abbrev pub between : Session → Bool
between s = in_uart Idle s && eqb s.taken 0

-- a command is over: the session is between two, or no longer on UART
abbrev pub is_over : Session → Bool
is_over s = not (on Uart s) || between s

-- ---- the bytes of one command

-- the session after a byte
abbrev pub session_after : ℕ → ℕ → State → Session
session_after room b p = (call (Byte room b) p).state.session

-- a byte is one
abbrev pub is_byte : ℕ → Bool
is_byte b = ltb b 256

-- each of some bytes is accepted, and after each of them the command is still going on
unfoldable pub goes_on : ℕ → List ℕ → State → Bool
goes_on room [] p = true
goes_on room (b ∷ bs) p =
    is_byte b && accepts (cause_for (Byte room b) p) && not (is_over (session_after room b p)) && goes_on room bs (call (Byte room b) p).state

-- a write of 256 bytes at the start of flash, but for its checksum
abbrev pub longest_write : List ℕ
longest_write = hex "31 CE 08 00 00 00 08 FF" ++ replicate largest_count 0xA5

pub record NoLongerCommand : Type 0 where
  -- each byte that is accepted on UART ends the command, or some are left for it, and fewer than before
  pub lowers : (room b : ℕ) (p : State) → T (is_byte b) → T (accepts (cause_for (Byte room b) p)) → T (on Uart p.session)
      → T (is_over (session_after room b p))
      ⊎ (0 < bytes_left (session_after room b p)) × (bytes_left (session_after room b p) < bytes_left p.session)
  -- the byte that ends it is answered
  pub answered : (room b : ℕ) (p : State) → T (is_byte b) → T (accepts (cause_for (Byte room b) p)) → T (on Uart p.session)
      → T (is_over (session_after room b p)) → 0 < length (call (Byte room b) p).reply
  -- so bytes after each of which a command is still going on, from its first one, are fewer than 265
  pub few : (room : ℕ) (bs : List ℕ) (p : State) → T (between p.session) → T (goes_on room bs p) → length bs < 265
  -- and 264 of them there can be
  pub longest : T (goes_on uart_room longest_write (run (Byte uart_room 0x7F ∷ []) fresh_board))
