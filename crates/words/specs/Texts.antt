-- The characters of texts. Assumes nothing.
use Rattle.std.specs.Prelude.{ℕ, zero, suc, ◌+◌, List, [], ◌∷◌}
use Prim.Native.Char.{code}
use Prim.Native.String.{String, len, char_at}

-- n characters of a text, from place i on
abbrev pub characters_from : String → ℕ → ℕ → List ℕ
characters_from t i zero = []
characters_from t i (suc n) = code (char_at t i) ∷ characters_from t (i + 1) n

-- the characters of a text
abbrev pub characters : String → List ℕ
characters t = characters_from t 0 (len t)
