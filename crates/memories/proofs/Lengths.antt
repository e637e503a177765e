-- Whatever change is made, memories of their proper sizes keep them.
use mathlib.Core.Path.{◌≡◌, ◌∙◌}
use mathlib.Core.Bool.{Bool, true, false}
use mathlib.Core.List.{List}
use Prim.Native.Nat.{ℕ}
use lib.Dec.{T}
use lib.ListN.{length, take, length-set, length-replicate}
use Rattle.std.specs.Prelude.{if◌then◌else◌}
use Rattle.words.proofs.Over.{length_over}
use Rattle.board.specs.Quantities.{first_indexed, first_numbered}
use Rattle.board.specs.Usd.{protection_on}
use Rattle.board.specs.declared.Region.TheVariants.{Flash, Sram, Usd}
use Rattle.memories.specs.Memories.{Memories, proper}
use Rattle.memories.specs.Effects.{written, erased_all, wiped, effect}
use Rattle.memories.specs.declared.Change.{Change}
use Rattle.memories.specs.declared.Change.TheVariants.{Nothing, Write, EraseAll, EraseSectors, ProtectOnly, Release, Lock, Unlock}
use Rattle.memories.proofs.Memories.{proper_length}
use Rattle.memories.proofs.Erased.{length-erased}
use Rattle.memories.proofs.Protected.{length-released, length-only}

-- memories whose three lengths are right are proper
sized : (m : Memories) → length m.flash ≡ 32768 → length m.sram ≡ 8192 → length m.usd ≡ 64 → T (proper m)
sized m f s u = rw (f, s, u) tt

module _ (staged : List ℕ) (m : Memories) (t : T (proper m)) where
  -- the lengths before
  flash : length m.flash ≡ 32768
  flash = proper_length m t Flash

  sram : length m.sram ≡ 8192
  sram = proper_length m t Sram

  usd : length m.usd ≡ 64
  usd = proper_length m t Usd

  -- and what a change makes of them
  abbrev made : Change → Memories
  made c = effect c staged m

  -- are proper still
  pub effect_proper : (c : Change) → T (proper (effect c staged m))
  unfolding effect written erased_all wiped
  effect_proper Nothing = t
  effect_proper (Write Flash at x) = sized (made (Write Flash at x)) (length_over _ m.flash at (take x staged) ∙ flash) sram usd
  effect_proper (Write Sram at x) = sized (made (Write Sram at x)) flash (length_over _ m.sram at (take x staged) ∙ sram) usd
  effect_proper (Write Usd at x) = sized (made (Write Usd at x)) flash sram (length_over _ m.usd at (take x staged) ∙ usd)
  effect_proper EraseAll = sized (made EraseAll) (length-replicate {A = ℕ} 32768 255) sram usd
  effect_proper (EraseSectors x) = sized (made (EraseSectors x)) (length-erased m.flash (first_numbered x staged) ∙ flash) sram usd
  effect_proper (ProtectOnly x) = sized (made (ProtectOnly x)) flash sram (length-only m.usd (first_indexed x staged) ∙ usd)
  effect_proper Release = sized (made Release) flash sram (length-released m.usd ∙ usd)
  effect_proper Lock = sized (made Lock) flash sram (length-set m.usd 0 0 ∙ usd)
  effect_proper Unlock = by_test (protection_on m.usd)
    where
      by_test : (on : Bool) → T (proper (if on then wiped m else m))
      by_test true = sized (wiped m) (length-replicate {A = ℕ} 32768 255) (length-replicate {A = ℕ} 8192 0) (length-set m.usd 0 0xA5 ∙ usd)
      by_test false = t
