-- The bytes that hold the sectors' bits, in user system data and in a view of it.
use mathlib.Core.Path.{◌≡◌}
use mathlib.Core.List.{List, [], ◌∷◌}
use Prim.Native.Nat.{ℕ, ◌/◌, ◌≤◌, ◌<◌}
use native.Mathlib.Omega.{arith}
use lib.Dec.{eqb}
use lib.ListN.{length, get_or, drop, length-drop}
use lib.Seq.{get_or-drop, get_or-take}
use Rattle.words.specs.Bytes.{bit}
use Rattle.words.specs.Lists.{part}
use Rattle.words.proofs.Slices.{take_four}
use Rattle.board.specs.Usd.{bit_byte, bit_place}
use Rattle.board.specs.View.{view_of, write_protected}
use Rattle.board.specs.declared.Sector.{Sector}

-- they are four
pub four_bytes : (u : List ℕ) → 12 ≤ length u → get_or u 8 0 ∷ get_or u 9 0 ∷ get_or u 10 0 ∷ get_or u 11 0 ∷ [] ≡ part 8 4 u
four_bytes u h = rw (take_four (drop 8 u) (simp length-drop (omega arith)), get_or-drop, get_or-drop, get_or-drop, get_or-drop)

-- sector k is write-protected where bit k mod 8 of byte 8 + k/8 of user system data is 0
pub by_its_bit : (u : List ℕ) (k : Sector) → k.0 < 32 → write_protected (view_of u) k ≡ eqb (bit (get_or u (bit_byte k) 0) (bit_place k)) 0
unfolding view_of write_protected
by_its_bit u k h = let l : k.0 / 8 < 4 = omega arith in rw (get_or-take, get_or-drop)
