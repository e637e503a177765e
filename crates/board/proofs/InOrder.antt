-- Lists of sectors, taken apart from their front.
use mathlib.Core.Path.{◌≡◌}
use mathlib.Core.Bool.{Bool, ◌||◌}
use mathlib.Core.List.{List, ◌∷◌}
use Prim.Native.Nat.{ℕ, zero, suc, ◌+◌, ◌-◌, ◌≤◌, ◌<◌}
use native.Mathlib.Nat.{not-suc-le-zero}
use native.Mathlib.Numerals.{add-one, sub-one}
use lib.ListN.{length}
use lib.Seq.{slice}
use Rattle.words.specs.Lists.{any}
use Rattle.words.proofs.Slices.{slice_first, pairs_first}
use Rattle.board.specs.Quantities.{sector, sectors_from, indexed_at, indexed, numbered_at, numbered}
use Rattle.board.specs.declared.Sector.{Sector}

-- some of them pass a test where the first one does, or some of the rest
pub any_first : (f : Sector → Bool) (k n : ℕ) → 0 < n
    → any f (sectors_from (sector k) n) ≡ (f (sector k) || any f (sectors_from (sector (k + 1)) (n - 1)))
any_first f k zero h = absurd (not-suc-le-zero h)
any_first f k (suc n) h = rw (sub-one, add-one k)

-- the sectors that are left of a list of two-byte numbers: the first one, and the rest
pub numbered_first : (s : List ℕ) (j m : ℕ) → j + 1 < m → m ≤ length s → numbered (slice j m s) ≡ numbered_at s j ∷ numbered (slice (j + 2) m s)
numbered_first s j m h l = rw (pairs_first s j m h l)

-- the same of a list of indexes
pub indexed_first : (s : List ℕ) (i n : ℕ) → i < n → n ≤ length s → indexed (slice i n s) ≡ indexed_at s i ∷ indexed (slice (i + 1) n s)
indexed_first s i n h l = rw (slice_first s i n h l)
