-- What a place says: its bytes lie in the region, from the offset on.
use mathlib.Core.Path.{◌≡◌, refl, subst}
use mathlib.Core.Bool.{Bool, true, false}
use Prim.Native.Nat.{ℕ, ◌+◌, ◌≤◌}
use native.Mathlib.Omega.{arith}
use lib.Dec.{T, leb, leb→le}
use Rattle.std.specs.Prelude.{cond, Option, Some, None, option_map}
use Rattle.words.proofs.Tests.{both_left, both_right}
use Rattle.board.specs.Board.{flash, sram, usd, extent_of}
use Rattle.board.specs.Quantities.{offset_in}
use Rattle.board.specs.Regions.{holds, regions, place_in, inside, place_of}
use Rattle.board.specs.declared.Address.{Address}
use Rattle.board.specs.declared.Place.{Place}
use Rattle.board.specs.declared.Region.{Region}
use Rattle.board.specs.declared.Region.TheVariants.{Flash, Sram, Usd}

-- x bytes from an address lie in a region, from an offset on
pub record Lies (a : Address) (x : ℕ) (r : Region) (at : ℕ) : Type 0 where
  pub from : (extent_of r).first.0 ≤ a.0
  pub to : a.0 + x ≤ (extent_of r).first.0 + (extent_of r).bytes
  pub offset : at ≡ offset_in (extent_of r) a

abbrev Means : Address → ℕ → Option Place → Type 0
Means a x (Some p) = Lies a x p.region p.at
Means a x None = Unit {0}

-- an extent that holds the bytes
held : (a : Address) (x : ℕ) (r : Region) → T (holds (extent_of r) a x) → Lies a x r (offset_in (extent_of r) a)
held a x r t = record {
  from = leb→le _ _ (both_left (leb (extent_of r).first.0 a.0) (leb (a.0 + x) ((extent_of r).first.0 + (extent_of r).bytes)) t);
  to = leb→le _ _ (both_right (leb (extent_of r).first.0 a.0) (leb (a.0 + x) ((extent_of r).first.0 + (extent_of r).bytes)) t);
  offset = refl;
}

means : (a : Address) (x : ℕ) → Means a x (place_of a x)
unfolding place_of regions
means a x = by_tests (holds flash a x) (held a x Flash) (holds sram a x) (held a x Sram) (holds usd a x) (held a x Usd)
  where
    by_tests : (f : Bool) → (T f → Lies a x Flash (offset_in flash a)) → (s : Bool) → (T s → Lies a x Sram (offset_in sram a))
        → (u : Bool) → (T u → Lies a x Usd (offset_in usd a))
        → Means a x (option_map (place_in a) (cond f (Some Flash) (cond s (Some Sram) (cond u (Some Usd) None))))
    by_tests true h s k u l = h tt
    by_tests false h true k u l = k tt
    by_tests false h false k true l = l tt
    by_tests false h false k false l = tt

-- the place of some bytes says where they lie
pub lies : (a : Address) (x : ℕ) (r : Region) (at : ℕ) → place_of a x ≡ inside r at → Lies a x r at
lies a x r at e = subst (Means a x) e (means a x)

-- and the region has room for them there
pub room : (a : Address) (x : ℕ) (r : Region) (at : ℕ) → place_of a x ≡ inside r at → at + x ≤ (extent_of r).bytes
room a x r at e = let l = lies a x r at e in omega (arith, l.from, l.to, l.offset)
