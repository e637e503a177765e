-- The UART steps and what they expect: document 01, "Calls and the five causes".
use Rattle.std.specs.Prelude.{ℕ, ◌+◌, ◌-◌, ◌/◌, ◌%◌, Bool, ◌&&◌, List, [], ◌∷◌, get_or, eqb, leb}
use Rattle.board.specs.Board.{sectors}
use Rattle.board.specs.Quantities.{largest_count, address_bytes, selector_bytes, long_count_bytes, numbers_bytes}
use Rattle.uart.specs.declared.Step.{Step}
use Rattle.uart.specs.declared.Step.TheVariants.{Idle, ReadAddress, JumpAddress, WriteAddress, CrcAddress, ReadLength, WriteLength, WriteData}
use Rattle.uart.specs.declared.Step.TheVariants.{EraseSelector, SpecialCheck, EraseList, ProtectLength, ProtectList, CrcCount}

-- the number of each step, idle first, then as listed
abbrev pub step_no : Step → ℕ
step_no Idle = 0
step_no ReadAddress = 1
step_no JumpAddress = 2
step_no WriteAddress = 3
step_no CrcAddress = 4
step_no ReadLength = 5
step_no WriteLength = 6
step_no WriteData = 7
step_no EraseSelector = 8
step_no SpecialCheck = 9
step_no EraseList = 10
step_no ProtectLength = 11
step_no ProtectList = 12
step_no CrcCount = 13

-- the steps in the order of their numbers
abbrev pub steps : List Step
steps =
    Idle ∷ ReadAddress ∷ JumpAddress ∷ WriteAddress ∷ CrcAddress ∷ ReadLength ∷ WriteLength ∷ WriteData ∷ EraseSelector
    ∷ SpecialCheck ∷ EraseList ∷ ProtectLength ∷ ProtectList ∷ CrcCount ∷ []

-- the step of a number
abbrev pub step_of : ℕ → Step
step_of n = get_or steps n Idle

-- what is expected of a byte and its complement, an address and its XOR, one byte, a count of sectors and its checksum
abbrev pub complemented_byte : ℕ
complemented_byte = 2

abbrev pub checked_address : ℕ
checked_address = address_bytes + 1

abbrev pub one_byte : ℕ
one_byte = 1

abbrev pub checked_count : ℕ
checked_count = long_count_bytes + 1

-- what is expected for X bytes and their checksum, and X read back from it
abbrev pub expected_for : ℕ → ℕ
expected_for x = x + 1

abbrev pub count_in : ℕ → ℕ
count_in e = e - 1

-- what is expected for X two-byte numbers and their checksum, and X read back from it
abbrev pub expected_for_numbers : ℕ → ℕ
expected_for_numbers x = numbers_bytes x + 1

abbrev pub numbers_in : ℕ → ℕ
numbers_in e = (e - 1) / selector_bytes

-- a step may expect this many bytes
abbrev pub expects : Step → ℕ → Bool
expects Idle e = eqb e complemented_byte
expects ReadAddress e = eqb e checked_address
expects JumpAddress e = eqb e checked_address
expects WriteAddress e = eqb e checked_address
expects CrcAddress e = eqb e checked_address
expects ReadLength e = eqb e complemented_byte
expects WriteLength e = eqb e one_byte
expects WriteData e = leb (expected_for 1) e && leb e (expected_for largest_count)
expects EraseSelector e = eqb e selector_bytes
expects SpecialCheck e = eqb e one_byte
expects EraseList e = leb (expected_for_numbers 1) e && leb e (expected_for_numbers sectors.count) && eqb (e % selector_bytes) 1
expects ProtectLength e = eqb e one_byte
expects ProtectList e = leb (expected_for 1) e && leb e (expected_for largest_count)
expects CrcCount e = eqb e checked_count

-- ---- the place of a step in its command: document 02, Wish 2

-- how many wire bytes of its command come before a step: the command and its complement, an address and its XOR, a count or a selector
abbrev pub before : Step → ℕ
before Idle = 0
before ReadAddress = complemented_byte
before JumpAddress = complemented_byte
before WriteAddress = complemented_byte
before CrcAddress = complemented_byte
before ReadLength = complemented_byte + checked_address
before WriteLength = complemented_byte + checked_address
before WriteData = complemented_byte + checked_address + one_byte
before EraseSelector = complemented_byte
before SpecialCheck = complemented_byte + selector_bytes
before EraseList = complemented_byte + selector_bytes
before ProtectLength = complemented_byte
before ProtectList = complemented_byte + one_byte
before CrcCount = complemented_byte + checked_address

-- the wire byte of the command, from 1, that is the last of a step which expects so many
abbrev pub wire_byte : Step → ℕ → ℕ
wire_byte s e = before s + e
