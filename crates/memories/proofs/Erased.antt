-- Erase, byte by byte: a byte is 0xFF where its sector is named, and else what it was.
use mathlib.Core.Path.{◌≡◌, refl, ap, ◌∙◌}
use mathlib.Core.Bool.{Bool, true, false, ◌&&◌, ◌||◌}
use mathlib.Core.List.{List, [], ◌∷◌}
use Prim.Native.Nat.{ℕ, ◌+◌, ◌*◌, ◌-◌, ◌/◌, ◌≤◌, ◌<◌}
use native.Mathlib.Omega.{arith}
use lib.Dec.{eqb, leb, ltb}
use lib.ListN.{length, get_or, length-replicate, get_or-replicate}
use borrow.Author.Tests.{eqb-true, eqb-false, le-leb, lt-ltb, le-ltb, leb-true}
use Rattle.std.specs.Prelude.{if◌then◌else◌}
use Rattle.words.specs.Over.{newer, put, within}
use Rattle.words.proofs.Over.{over_at, length_over}
use Rattle.words.proofs.Tests.{same_choice}
use Rattle.board.specs.Board as B
use Rattle.board.specs.Quantities.{start_of, sector_at, named}
use Rattle.board.specs.declared.Sector.{Sector}
use Rattle.memories.specs.Memories.{erased_byte}
use Rattle.memories.specs.Effects.{erased, blank}

-- a place lies within a sector exactly where the sector is the place's own
in_sector_lem : (k : Sector) (i : ℕ) → within (start_of k) (B.sectors).bytes i ≡ eqb k.0 (i / (B.sectors).bytes)
in_sector_lem k i = by_test (eqb k.0 (i / 1024)) refl
  where
    by_test : (t : Bool) → eqb k.0 (i / 1024) ≡ t → within (k.0 * 1024) 1024 i ≡ t
    by_test true e =
        let q : k.0 ≡ i / 1024 = eqb-true k.0 (i / 1024) e in
        rw (le-leb (k.0 * 1024) i (omega arith), lt-ltb i (k.0 * 1024 + 1024) (omega arith))
    by_test false e = by_side (leb (k.0 * 1024) i) refl
      where
        differ : k.0 ≡ i / 1024 → ⊥
        differ = eqb-false k.0 (i / 1024) e

        by_side : (s : Bool) → leb (k.0 * 1024) i ≡ s → (s && ltb i (k.0 * 1024 + 1024)) ≡ false
        by_side false f = refl
        by_side true f =
            let l : k.0 * 1024 ≤ i = leb-true (k.0 * 1024) i f in
            le-ltb i (k.0 * 1024 + 1024) (omega (arith, differ))

length-blank : length blank ≡ (B.sectors).bytes
unfolding blank
length-blank = length-replicate {A = ℕ} 1024 erased_byte

blank_at : (i : ℕ) → i < 1024 → get_or blank i 0 ≡ erased_byte
unfolding blank
blank_at i h = get_or-replicate {A = ℕ} 1024 i erased_byte 0 h

-- one sector
erased_one : (f : List ℕ) (k : Sector) (i : ℕ) → i < length f
    → get_or (put f (start_of k) blank) i 0 ≡ (if eqb k.0 (i / (B.sectors).bytes) then erased_byte else get_or f i 0)
erased_one f k i h = over_at newer f (start_of k) blank i h ∙ rw (length-blank, in_sector_lem k i) (by_test (eqb k.0 (i / 1024)) refl)
  where
    by_test : (t : Bool) → eqb k.0 (i / 1024) ≡ t
        → (if t then get_or blank (i - k.0 * 1024) 0 else get_or f i 0) ≡ (if t then erased_byte else get_or f i 0)
    by_test true e =
        let q : k.0 ≡ i / 1024 = eqb-true k.0 (i / 1024) e in
        blank_at (i - k.0 * 1024) (omega arith)
    by_test false e = refl

-- each byte of flash after the named sectors are erased
pub erased_at : (f : List ℕ) (ks : List Sector) (i : ℕ) → i < length f
    → get_or (erased f ks) i 0 ≡ (if named ks (sector_at i) then erased_byte else get_or f i 0)
erased_at f [] i h = refl
erased_at f (k ∷ ks) i h =
    erased_at (put f (start_of k) blank) ks i (rw length_over h)
    ∙ ap (λ (x : ℕ). if named ks (sector_at i) then erased_byte else x) (erased_one f k i h)
    ∙ by_tests (eqb k.0 (i / 1024)) (named ks (sector_at i))
  where
    by_tests : (s t : Bool) → (if t then erased_byte else if s then erased_byte else get_or f i 0) ≡ (if s || t then erased_byte else get_or f i 0)
    by_tests true t = same_choice t erased_byte
    by_tests false t = refl

-- the length stays
pub length-erased : (f : List ℕ) (ks : List Sector) → length (erased f ks) ≡ length f
length-erased f [] = refl
length-erased f (k ∷ ks) = length-erased (put f (start_of k) blank) ks ∙ length_over newer f (start_of k) blank
