-- The sectors that staged bytes name, as the library's walks come to them.
use mathlib.Core.Path.{◌≡◌, refl, ap}
use mathlib.Core.Bool.{Bool, ◌&&◌, ◌||◌}
use mathlib.Core.List.{List, [], ◌∷◌}
use Prim.Native.Nat.{ℕ, zero, suc, ◌*◌}
use native.Mathlib.Omega.{arith}
use lib.ListN.{length}
use Rattle.std.specs.Prelude.{map}
use Rattle.std.specs.List.{list_all, list_any}
use Rattle.std.specs.Simd.{first_chunks}
use Rattle.words.specs.Bytes.{number}
use Rattle.words.specs.Lists.{any, all}
use Rattle.board.specs.Quantities.{sector, numbered}
use Rattle.board.specs.declared.Sector.{Sector}

-- a test of each sector that is named
module _ (f : Sector → Bool) where
  -- by one index
  pub all_indexed : (l : List ℕ) → list_all (λ n. f (sector n)) l ≡ all f (map sector l)
  all_indexed [] = refl
  all_indexed (n ∷ l) = ap (λ (b : Bool). f (sector n) && b) (all_indexed l)

  -- by two bytes of twice as many
  pub all_numbered : (x : ℕ) (l : List ℕ) → length l ≡ 2 * x
      → list_all (λ n. f (sector (number n))) (first_chunks 2 x l) ≡ all f (numbered l)
  all_numbered zero [] h = refl
  all_numbered zero (a ∷ l) h = absurd (omega arith)
  all_numbered (suc x) [] h = absurd (omega arith)
  all_numbered (suc x) (a ∷ []) h = absurd (omega arith)
  all_numbered (suc x) (a ∷ b ∷ l) h = ap (λ (c : Bool). f (sector (number (a ∷ b ∷ []))) && c) (all_numbered x l (omega arith))

  pub any_numbered : (x : ℕ) (l : List ℕ) → length l ≡ 2 * x
      → list_any (λ n. f (sector (number n))) (first_chunks 2 x l) ≡ any f (numbered l)
  any_numbered zero [] h = refl
  any_numbered zero (a ∷ l) h = absurd (omega arith)
  any_numbered (suc x) [] h = absurd (omega arith)
  any_numbered (suc x) (a ∷ []) h = absurd (omega arith)
  any_numbered (suc x) (a ∷ b ∷ l) h = ap (λ (c : Bool). f (sector (number (a ∷ b ∷ []))) || c) (any_numbered x l (omega arith))
