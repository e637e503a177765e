-- Numbers as a program's arguments write them: decimal, of one to five digits; a shift may be negative.
use Rattle.std.specs.Prelude.{ℕ, ◌+◌, ◌*◌, ◌-◌, Bool, ◌&&◌, List, [], ◌∷◌, eqb, leb, pos, ◌-ℤ◌, length, get_or, drop}
use Rattle.std.specs.Prelude.{if◌then◌else◌, ℤ, true, false, Option, Some, None, option_and_then}
use Rattle.words.specs.Lists.{all}

-- a decimal digit
abbrev pub is_decimal : ℕ → Bool
is_decimal c = leb 48 c && leb c 57

-- the value of digits behind those of a value
abbrev pub value_from : ℕ → List ℕ → ℕ
value_from v [] = v
value_from v (c ∷ cs) = value_from (v * 10 + (c - 48)) cs

-- the number that characters write, if they write one
unfoldable pub number_in : List ℕ → Option ℕ
number_in l = if leb 1 (length l) && leb (length l) 5 && all is_decimal l then Some (value_from 0 l) else None

-- a shift from -32,768 to 32,767, by a number behind a minus or without one
abbrev pub minus : ℕ
minus = 0x2D

abbrev pub shift_by : Bool → ℕ → Option ℤ
shift_by false n = if leb n 32767 then Some (pos n) else None
shift_by true n = if leb n 32768 then Some (pos 0 -ℤ pos n) else None

-- the shift that characters write, if they write one
unfoldable pub shift_in : List ℕ → Option ℤ
shift_in l =
    if eqb (get_or l 0 0) minus then option_and_then (shift_by true) (number_in (drop 1 l)) else option_and_then (shift_by false) (number_in l)
