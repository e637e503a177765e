-- Bytes and numbers in digits. Assumes nothing.
use Rattle.std.specs.Prelude.{ℕ, zero, suc, ◌+◌, ◌/◌, ◌%◌, List, [], ◌∷◌, ◌++◌, ltb}
use Rattle.std.specs.Prelude.{if◌then◌else◌}

-- the digit of a value below 16
abbrev pub digit_of : ℕ → ℕ
digit_of v = if ltb v 10 then 48 + v else 55 + v

-- the two hex digits of a byte
abbrev pub digits_of : ℕ → List ℕ
digits_of b = digit_of (b / 16) ∷ digit_of (b % 16) ∷ []

-- a number's last decimal digits, at most f of them and no more than it has
abbrev pub decimal_up_to : ℕ → ℕ → List ℕ
decimal_up_to zero n = []
decimal_up_to (suc f) n = if ltb n 10 then digit_of n ∷ [] else decimal_up_to f (n / 10) ++ digit_of (n % 10) ∷ []

-- a number in decimal
abbrev pub decimal : ℕ → List ℕ
decimal n = decimal_up_to (suc n) n
