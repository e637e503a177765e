-- What a command frame's data write behind their first bytes.
use mathlib.Core.Path.{◌≡◌, ap, sym, ◌∙◌}
use mathlib.Core.List.{List, [], ◌∷◌}
use Prim.Native.Nat.{ℕ, suc}
use native.Mathlib.Omega.{arith}
use lib.ListN.{length, get_or, drop}
use lib.Seq.{drop-cons, drop-length}
use Rattle.words.specs.Bytes.{number}

-- nothing stands behind the last byte
beyond : (n : ℕ) (l : List ℕ) → length l ≡ n → drop n l ≡ []
beyond n l h = ap (λ (m : ℕ). drop m l) (sym h) ∙ drop-length l

-- the last byte, and the number that it writes
pub last_one : (k : ℕ) (l : List ℕ) → length l ≡ suc k → drop k l ≡ get_or l k 0 ∷ []
last_one k l h = drop-cons l k 0 (omega arith) ∙ ap (λ (m : List ℕ). get_or l k 0 ∷ m) (beyond (suc k) l h)

pub last_number : (k : ℕ) (l : List ℕ) → length l ≡ suc k → number (drop k l) ≡ get_or l k 0
last_number k l h = rw (last_one k l h) (omega arith)
