-- What a fits change says of its own numbers.
use mathlib.Core.Path.{◌≡◌, subst}
use mathlib.Core.Bool.{◌&&◌}
use mathlib.Core.List.{List}
use Prim.Native.Nat.{ℕ, ◌+◌, ◌*◌, ◌≤◌}
use lib.Dec.{T, leb, leb→le}
use lib.ListN.{take}
use Rattle.words.specs.Lists.{all}
use Rattle.words.proofs.Tests.{both_left, both_right}
use Rattle.board.specs.Board as B
use Rattle.board.specs.Quantities.{is_sector, indexed, numbered}
use Rattle.board.specs.declared.Region.{Region}
use Rattle.memories.specs.Effects.{fits}
use Rattle.memories.specs.declared.Change.{Change}
use Rattle.memories.specs.declared.Change.TheVariants.{Write, EraseSectors, ProtectOnly}

module _ (c : Change) (staged : List ℕ) (t : T (fits c staged)) where
  pub write_fits : (r : Region) (at x : ℕ) → c ≡ Write r at x → (x ≤ 256) × (at + x ≤ (B.extent_of r).bytes)
  write_fits r at x e =
      let p = leb x 256 in
      let q = leb (at + x) (B.extent_of r).bytes in
      let u : T (p && q) = subst (λ (d : Change). T (fits d staged)) e t in
      (leb→le x 256 (both_left p q u), leb→le (at + x) (B.extent_of r).bytes (both_right p q u))

  pub erase_fits : (x : ℕ) → c ≡ EraseSectors x → (x ≤ 32) × T (all is_sector (numbered (take (2 * x) staged)))
  erase_fits x e =
      let p = leb x 32 in
      let q = all is_sector (numbered (take (2 * x) staged)) in
      let u : T (p && q) = subst (λ (d : Change). T (fits d staged)) e t in
      (leb→le x 32 (both_left p q u), both_right p q u)

  pub protect_fits : (x : ℕ) → c ≡ ProtectOnly x → (x ≤ 256) × T (all is_sector (indexed (take x staged)))
  protect_fits x e =
      let p = leb x 256 in
      let q = all is_sector (indexed (take x staged)) in
      let u : T (p && q) = subst (λ (d : Change). T (fits d staged)) e t in
      (leb→le x 256 (both_left p q u), both_right p q u)
