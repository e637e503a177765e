-- Numbers of several bytes in a memory, high byte first.
use Rattle.std.specs.Prelude.{ℕ, List, [], ◌∷◌}
use Rattle.words.specs.Bytes.{byte_of}

-- the bytes of a short number and of a long one
abbrev pub short_bytes : ℕ
short_bytes = 4

abbrev pub long_bytes : ℕ
long_bytes = 8

-- a number's eight bytes, high first
abbrev pub eight_bytes : ℕ → List ℕ
eight_bytes n =
    byte_of n 7 ∷ byte_of n 6 ∷ byte_of n 5 ∷ byte_of n 4 ∷ byte_of n 3 ∷ byte_of n 2 ∷ byte_of n 1 ∷ byte_of n 0 ∷ []
