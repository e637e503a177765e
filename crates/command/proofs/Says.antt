-- What a reply that can be given says of its own numbers.
use mathlib.Core.Path.{◌≡◌, subst}
use mathlib.Core.Bool.{◌&&◌}
use Prim.Native.Nat.{ℕ, ◌+◌, ◌≤◌}
use lib.Dec.{T, leb, leb→le}
use Rattle.words.proofs.Tests.{both_left, both_right}
use Rattle.board.specs.Board as B
use Rattle.board.specs.declared.Region.{Region}
use Rattle.command.specs.Says.{sayable}
use Rattle.command.specs.declared.Reply.{Reply}
use Rattle.command.specs.declared.Reply.TheVariants.{Data, Crc}

module _ (r : Reply) (t : T (sayable r)) where
  pub data_there : (g : Region) (at x : ℕ) → r ≡ Data g at x → (x ≤ 256) × (at + x ≤ (B.extent_of g).bytes)
  data_there g at x e =
      let p = leb x 256 in
      let q = leb (at + x) (B.extent_of g).bytes in
      let u : T (p && q) = subst (λ (z : Reply). T (sayable z)) e t in
      (leb→le x 256 (both_left p q u), leb→le (at + x) (B.extent_of g).bytes (both_right p q u))

  pub crc_there : (at n : ℕ) → r ≡ Crc at n → at + n ≤ (B.flash).bytes
  crc_there at n e = leb→le (at + n) (B.flash).bytes (subst (λ (z : Reply). T (sayable z)) e t)
