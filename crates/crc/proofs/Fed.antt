-- Bytes fed one by one are a fold over them.
use mathlib.Core.Path.{◌≡◌, refl}
use mathlib.Core.List.{List, [], ◌∷◌}
use Prim.Native.Nat.{ℕ}
use Rattle.std.specs.List.{fold}
use Rattle.crc.specs.Crc.{fed, crc_from}

-- from any register on
pub fold_fed : (c : ℕ) (l : List ℕ) → fold fed c l ≡ crc_from c l
fold_fed c [] = refl
fold_fed c (b ∷ l) = fold_fed (fed c b) l
