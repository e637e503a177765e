-- Each change lays bytes over one memory, or over each where the board is wiped: what is laid stands there, and nothing else changes.
use mathlib.Core.Path.{◌≡◌, refl}
use mathlib.Core.List.{List}
use Prim.Native.Nat.{ℕ, ◌+◌, ◌≤◌, ◌<◌}
use native.Mathlib.Omega.{arith}
use lib.Dec.{T, leb, ltb, leb→le, ltb→lt}
use lib.ListN.{length, take, set}
use lib.Bits.{bit_and}
use Rattle.words.specs.Lists.{all}
use Rattle.words.specs.Over.{newer, within}
use Rattle.words.proofs.Over.{put_one}
use Rattle.words.proofs.Tests.{both_left, both_right, holds_true, fails_false}
use Rattle.board.specs.Quantities.{is_sector, first_indexed, first_numbered}
use Rattle.board.specs.Board as B
use Rattle.board.specs.Usd.{protection_on}
use Rattle.board.specs.declared.Region.{Region}
use Rattle.board.specs.declared.Region.TheVariants.{Flash, Sram, Usd}
use Rattle.memories.specs.Memories.{Memories, with_bytes, proper}
use Rattle.memories.specs.Protection.{released}
use Rattle.memories.specs.Effects.{written, erased_all, wiped, effect}
use Rattle.memories.specs.Meaning.{Becomes, everywhere, Beside, Writes, Wipes, Meaning}
use Rattle.memories.proofs.Memories.{proper_length}
use Rattle.memories.proofs.Becomes.{laid_first, filled, all_filled}
use Rattle.memories.proofs.Erased.{erased_at, length-erased}
use Rattle.memories.proofs.Protected.{released_none, only_named, only_small, only_beside, length-only}
use Rattle.memories.proofs.held.effects.Statement.{statement}
use Rattle.memories.proofs.held.effects.Tie as tie

-- other bytes in one region leave the regions beside it
beside : (r : Region) (l : List ℕ) (m : Memories) → Beside r m (with_bytes r l m)
beside Flash l m = record { flash = λ no. absurd (no refl); sram = λ no. refl; usd = λ no. refl }
beside Sram l m = record { flash = λ no. refl; sram = λ no. absurd (no refl); usd = λ no. refl }
beside Usd l m = record { flash = λ no. refl; sram = λ no. refl; usd = λ no. absurd (no refl) }

-- a write to each region
writes : (r : Region) (at x : ℕ) (staged : List ℕ) (m : Memories) → x ≤ length staged → Writes r at x staged m (written r at (take x staged) m)
unfolding written
writes Flash at x staged m h = record { region = laid_first bit_and m.flash at x staged h; beside = beside Flash _ m }
writes Sram at x staged m h = record { region = laid_first newer m.sram at x staged h; beside = beside Sram _ m }
writes Usd at x staged m h = record { region = laid_first newer m.usd at x staged h; beside = beside Usd _ m }

-- all of a memory, the bytes of the sectors' bits, and one byte
erases : (m : Memories) → T (proper m) → Becomes everywhere (λ i. 0xFF) m.flash (erased_all m).flash
unfolding erased_all
erases m t = all_filled m.flash 32768 0xFF (proper_length m t Flash)

releases : (u : List ℕ) → Becomes (within 8 4) (λ i. 0xFF) u (released u)
unfolding released
releases u = filled u 8 4 0xFF

stores : (u : List ℕ) (b : ℕ) → Becomes (within 0 1) (λ i. b) u (set u 0 b)
stores u b = rw put_one at (filled u 0 1 b)

wipes : (m : Memories) → T (proper m) → Wipes m (wiped m)
unfolding wiped
wipes m t = record { flash = erases m t; sram = all_filled m.sram 8192 0 (proper_length m t Sram); usd = stores m.usd 0xA5 }

meaning : Meaning
unfolding effect erased_all
meaning staged m l t = record {
  nothing = refl;
  write = λ r at x f. writes r at x staged m (let h = leb→le x 256 (both_left (leb x 256) (leb (at + x) (B.extent_of r).bytes) f) in omega arith);
  erase_all = record { flash = erases m t; beside = beside Flash _ m };
  erase_sectors = λ x. record {
    flash = record { byte = erased_at m.flash (first_numbered x staged); size = length-erased m.flash (first_numbered x staged) };
    beside = beside Flash _ m;
  };
  protect_only = λ x f. let s = both_right (leb x 256) (all is_sector (first_indexed x staged)) f in record {
    exactly = λ k h. only_named m.usd (first_indexed x staged) k usd_length s (ltb→lt k.0 32 h);
    bytes = λ i h. only_small m.usd (first_indexed x staged) i (in_usd i h) h;
    others = λ i h k. only_beside m.usd (first_indexed x staged) i h s k;
    size = length-only m.usd (first_indexed x staged);
    beside = beside Usd _ m;
  };
  release = record {
    usd = releases m.usd;
    none = λ k h. released_none m.usd k usd_length (ltb→lt k.0 32 h);
    beside = beside Usd _ m;
  };
  lock = record { usd = stores m.usd 0; beside = beside Usd _ m };
  unlock = λ on. rw (holds_true (protection_on m.usd) on) (wipes m t);
  unlocked = λ off. rw (fails_false (protection_on m.usd) off);
}
  where
    usd_length : length m.usd ≡ 64
    usd_length = proper_length m t Usd

    in_usd : (i : ℕ) → T (within 8 4 i) → i < length m.usd
    in_usd i h = let k = ltb→lt i 12 (both_right (leb 8 i) (ltb i 12) h) in omega (arith, usd_length)

pub effects_spec : {M : Type 1} → statement M
effects_spec = tie.close (tie.spec (λ c. meaning))
