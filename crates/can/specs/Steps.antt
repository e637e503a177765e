-- The CAN steps and what they expect: document 01, "Calls and the five causes".
use Rattle.std.specs.Prelude.{ℕ, ◌/◌, ◌%◌, Bool, ◌&&◌, List, [], ◌∷◌, get_or, eqb, leb}
use Rattle.board.specs.Board.{sectors}
use Rattle.board.specs.Quantities.{largest_count, selector_bytes, numbers_bytes}
use Rattle.can.specs.declared.Step.{Step}
use Rattle.can.specs.declared.Step.TheVariants.{Idle, WriteData, EraseList, ProtectList}

-- the number of each step, idle first, then as listed
abbrev pub step_no : Step → ℕ
step_no Idle = 0
step_no WriteData = 1
step_no EraseList = 2
step_no ProtectList = 3

-- the steps in the order of their numbers
abbrev pub steps : List Step
steps = Idle ∷ WriteData ∷ EraseList ∷ ProtectList ∷ []

-- the step of a number
abbrev pub step_of : ℕ → Step
step_of n = get_or steps n Idle

-- one command frame is expected
abbrev pub one_frame : ℕ
one_frame = 1

-- what is expected for X two-byte numbers, and X read back from it; X bytes are expected as they are
abbrev pub expected_for_numbers : ℕ → ℕ
expected_for_numbers x = numbers_bytes x

abbrev pub numbers_in : ℕ → ℕ
numbers_in e = e / selector_bytes

-- a step may expect this many frames or bytes
abbrev pub expects : Step → ℕ → Bool
expects Idle e = eqb e one_frame
expects WriteData e = leb 1 e && leb e largest_count
expects EraseList e = leb (expected_for_numbers 1) e && leb e (expected_for_numbers sectors.count) && eqb (e % selector_bytes) 0
expects ProtectList e = leb 1 e && leb e largest_count
