-- Memories and the bytes that they are, one behind the other.
use mathlib.Core.Path.{◌≡◌, refl, sym, ap, subst, ◌∙◌}
use mathlib.Core.Bool.{Bool, true, ◌&&◌}
use mathlib.Core.List.{List, ◌++◌}
use Prim.Native.Nat.{ℕ, ◌+◌, ◌-◌}
use native.Mathlib.Omega.{arith}
use lib.Dec.{T, eqb, eqb→eq}
use lib.ListN.{length, take, drop, length-append}
use lib.Seq.{take_at, drop_at, take_all, drop-append-le, take-append-le, take-add}
use borrow.Author.Tests.{eq-eqb}
use Rattle.words.specs.Lists.{part}
use Rattle.words.specs.Over.{put, newer}
use Rattle.words.proofs.Over.{put_all, over_then}
use Rattle.words.proofs.Slices.{length_part}
use Rattle.words.proofs.Tests.{both_left, both_right, holds_true}
use Rattle.board.specs.Board as B
use Rattle.memories.specs.Memories.{Memories, memories, proper}
use Rattle.keeping.specs.Kept.{usd_at, memories_bytes, in_bytes, memories_in, Fits}

-- ---- lengths

-- memories that have their lengths
pub record Lengths (m : Memories) : Type 0 where
  pub flash : length m.flash ≡ (B.flash).bytes
  pub sram : length m.sram ≡ (B.sram).bytes
  pub usd : length m.usd ≡ (B.usd).bytes

pub lengths : (m : Memories) → T (proper m) → Lengths m
lengths m t =
    let f = eqb (length m.flash) (B.flash).bytes in
    let s = eqb (length m.sram) (B.sram).bytes in
    let u = eqb (length m.usd) (B.usd).bytes in
    record {
      flash = eqb→eq (length m.flash) (B.flash).bytes (both_left f s (both_left (f && s) u t));
      sram = eqb→eq (length m.sram) (B.sram).bytes (both_right f s (both_left (f && s) u t));
      usd = eqb→eq (length m.usd) (B.usd).bytes (both_right (f && s) u t);
    }

pub are_proper : (m : Memories) → Lengths m → T (proper m)
are_proper m l = rw (
  eq-eqb (length m.flash) (B.flash).bytes l.flash,
  eq-eqb (length m.sram) (B.sram).bytes l.sram,
  eq-eqb (length m.usd) (B.usd).bytes l.usd,
) tt

-- memories for which there is room have theirs
pub lengths_fit : {m : Memories} {room : List ℕ} → Fits m room → Lengths m
lengths_fit f = record { flash = f.flash; sram = f.sram; usd = f.usd }

pub proper_fit : {m : Memories} {room : List ℕ} → Fits m room → T (proper m)
proper_fit f = are_proper _ (lengths_fit f)

-- others that have their lengths fit, too
pub fits_again : {m n : Memories} {old new : List ℕ} → Fits m old → T (proper n) → length new ≡ length old → Fits n new
fits_again {n = n} f t e = let l = lengths n t in record { flash = l.flash; sram = l.sram; usd = l.usd; room = e ∙ f.room }

-- as many bytes as the memories have
pub all_bytes : (m : Memories) → Lengths m → length (in_bytes m) ≡ memories_bytes
all_bytes m l =
    let a = length-append (m.flash ++ m.sram) m.usd in
    let b = length-append m.flash m.sram in
    omega (arith, a, b, l.flash, l.sram, l.usd)

-- ---- what is taken down comes back

-- where each memory stands among the bytes
module _ (m : Memories) (l : Lengths m) where
  both : length (m.flash ++ m.sram) ≡ usd_at
  both = let b = length-append m.flash m.sram in omega (arith, b, l.flash, l.sram)

  flash_back : part 0 (B.flash).bytes (in_bytes m) ≡ m.flash
  flash_back =
      take-append-le (B.flash).bytes (m.flash ++ m.sram) m.usd (omega (arith, both))
      ∙ take_at m.flash m.sram (B.flash).bytes l.flash

  sram_back : part (B.flash).bytes (B.sram).bytes (in_bytes m) ≡ m.sram
  sram_back =
      ap (take (B.sram).bytes) (drop-append-le (B.flash).bytes (m.flash ++ m.sram) m.usd (omega (arith, both))
      ∙ ap (λ (r : List ℕ). r ++ m.usd) (drop_at m.flash m.sram (B.flash).bytes l.flash))
      ∙ take_at m.sram m.usd (B.sram).bytes l.sram

  usd_back : part usd_at (B.usd).bytes (in_bytes m) ≡ m.usd
  usd_back =
      ap (take (B.usd).bytes) (drop_at (m.flash ++ m.sram) m.usd usd_at both)
      ∙ take_all (B.usd).bytes m.usd (omega (arith, l.usd))

  pub memories_back : memories_in (in_bytes m) ≡ m
  memories_back = λ i. memories (flash_back i) (sram_back i) (usd_back i)

-- so many bytes are those of the memories that they hold
module _ (room : List ℕ) (e : length room ≡ memories_bytes) where
  pub lengths_in : Lengths (memories_in room)
  lengths_in = record {
    flash = length_part room 0 (B.flash).bytes (omega (arith, e));
    sram = length_part room (B.flash).bytes (B.sram).bytes (omega (arith, e));
    usd = length_part room usd_at (B.usd).bytes (omega (arith, e));
  }

  pub bytes_back : in_bytes (memories_in room) ≡ room
  bytes_back =
      ap (λ (r : List ℕ). r ++ part usd_at (B.usd).bytes room) (sym (take-add (B.flash).bytes (B.sram).bytes room))
      ∙ sym (take-add usd_at (B.usd).bytes room)
      ∙ take_all memories_bytes room (omega (arith, e))

-- three memories that are the parts of a room are what it holds
pub parts_held : (m : Memories) (room : List ℕ) → length room ≡ memories_bytes → m ≡ memories_in room → room ≡ in_bytes m
parts_held m room e p = sym (bytes_back room e) ∙ ap in_bytes (sym p)

-- memories that came back from so many bytes have their lengths
pub proper_back : {m : Memories} (room : List ℕ) → length room ≡ memories_bytes → m ≡ memories_in room → T (proper m)
proper_back room e p = subst (λ (n : Memories). T (proper n)) (sym p) (are_proper _ (lengths_in room e))

-- ---- the code's steps

-- user system data reaches to the end of a room
pub usd_part : (room : List ℕ) → length room ≡ memories_bytes
    → take (length room - usd_at) (drop usd_at room) ≡ part usd_at (B.usd).bytes room
usd_part room e =
    let n : length room - usd_at ≡ (B.usd).bytes = omega (arith, e) in
    ap (λ (k : ℕ). take k (drop usd_at room)) n

-- a test of each part tests whether the room holds the memories
pub each_held : (m : Memories) (room : List ℕ) → Lengths m → length room ≡ memories_bytes → (a b c : Bool)
    → (a ≡ true → m.flash ≡ part 0 (B.flash).bytes room) × (m.flash ≡ part 0 (B.flash).bytes room → a ≡ true)
    → (b ≡ true → m.sram ≡ part (B.flash).bytes (B.sram).bytes room) × (m.sram ≡ part (B.flash).bytes (B.sram).bytes room → b ≡ true)
    → (c ≡ true → m.usd ≡ take (length room - usd_at) (drop usd_at room)) × (m.usd ≡ take (length room - usd_at) (drop usd_at room) → c ≡ true)
    → ((a && b && c) ≡ true → room ≡ in_bytes m) × (room ≡ in_bytes m → (a && b && c) ≡ true)
each_held m room l e a b c f s u = (forth, back)
  where
    forth : (a && b && c) ≡ true → room ≡ in_bytes m
    forth t =
        let h = subst T (sym t) tt in
        let ab = both_left (a && b) c h in
        let p = f.0 (holds_true a (both_left a b ab)) in
        let q = s.0 (holds_true b (both_right a b ab)) in
        let r = u.0 (holds_true c (both_right (a && b) c h)) ∙ usd_part room e in
        parts_held m room e (λ i. memories (p i) (q i) (r i))

    back : room ≡ in_bytes m → (a && b && c) ≡ true
    back h =
        let w = sym (memories_back m l) ∙ ap memories_in (sym h) in
        rw (
          f.1 (ap (λ (n : Memories). n.flash) w),
          s.1 (ap (λ (n : Memories). n.sram) w),
          u.1 (ap (λ (n : Memories). n.usd) w ∙ sym (usd_part room e)),
        ) refl

-- the memories laid one behind the other over a room
pub laid : (m : Memories) (room : List ℕ) {one two three : List ℕ} → Lengths m → length room ≡ memories_bytes
    → one ≡ put room 0 m.flash → two ≡ put one (B.flash).bytes m.sram → three ≡ put two usd_at m.usd → three ≡ in_bytes m
laid m room {one} {two} {three} l e p q r =
    let n : (B.flash).bytes ≡ 0 + length m.flash = omega (arith, l.flash) in
    let k : usd_at ≡ 0 + length (m.flash ++ m.sram) = omega (arith, both m l) in
    let second = q ∙ (λ i. put (p i) (n i) m.sram) ∙ over_then newer room 0 m.flash m.sram in
    r ∙ (λ i. put (second i) (k i) m.usd) ∙ over_then newer room 0 (m.flash ++ m.sram) m.usd
    ∙ put_all room (in_bytes m) (omega (arith, all_bytes m l, e))
