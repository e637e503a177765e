-- Bytes laid over a memory. Assumes nothing.
use Rattle.std.specs.Prelude.{ℕ, zero, suc, ◌+◌, Bool, ◌&&◌, List, [], ◌∷◌, leb, ltb}

-- a memory with bytes laid over it from a place on, each joined by f with the byte that stood there; no other byte changes
abbrev pub over : (ℕ → ℕ → ℕ) → List ℕ → ℕ → List ℕ → List ℕ
over f [] at new = []
over f (x ∷ m) (suc at) new = x ∷ over f m at new
over f (x ∷ m) zero [] = x ∷ m
over f (x ∷ m) zero (b ∷ new) = f x b ∷ over f m zero new

-- the new byte in place of the old one
abbrev pub newer : ℕ → ℕ → ℕ
newer old b = b

-- a memory with bytes put in place of those from a place on
abbrev pub put : List ℕ → ℕ → List ℕ → List ℕ
put m at new = over newer m at new

-- place i is one of n from a place on
abbrev pub within : ℕ → ℕ → ℕ → Bool
within at n i = leb at i && ltb i (at + n)
