-- Protection, sector by sector: after 0x63 exactly the named sectors are write-protected, after 0x73 none is.
use mathlib.Core.Path.{◌≡◌, refl, sym, ap, ◌∙◌}
use mathlib.Core.Bool.{Bool, true, false, ◌&&◌, ◌||◌, or-false, or-true, or_assoc}
use mathlib.Core.List.{List, [], ◌∷◌}
use mathlib.Core.Logic.{⊎_elim}
use Prim.Native.Nat.{ℕ, zero, suc, ◌+◌, ◌-◌, ◌/◌, ◌%◌, ◌^◌, ◌<◌}
use native.Mathlib.Nat.{not-suc-le-zero, le_of_suc-le-suc, eq-or-lt_of_le}
use native.Mathlib.Omega.{arith}
use lib.Dec.{T, T_not, eqb, eqb→eq, ltb→lt}
use lib.ListN.{length, get_or, set, replicate, length-set, get_or-replicate}
use lib.Seq.{get_or-set_same, get_or-set_other}
use lib.Bits.{bit_and, and_shr, and_mod, and_mask, and_zero_r, and_le_l}
use borrow.Author.Tests.{eq-eqb, ne_eqb, eqb-true, eqb-false, le-leb, lt-ltb}
use Rattle.words.specs.Bytes.{bit}
use Rattle.std.specs.Prelude.{if◌then◌else◌}
use Rattle.words.specs.Lists.{all}
use Rattle.words.specs.Over.{newer, within}
use Rattle.words.proofs.Over.{length_over, over_within, over_at}
use Rattle.words.proofs.Tests.{both_left, both_right, holds_true, fails_false}
use Rattle.board.specs.Quantities.{is_sector, named}
use Rattle.board.specs.Usd.{beside_bits, bit_byte}
use Rattle.board.specs.View.{view_of, write_protected}
use Rattle.board.specs.declared.Sector.{Sector}
use Rattle.board.proofs.Bits.{by_its_bit}
use Rattle.memories.specs.Protection.{released, also_protected, all_protected, only_protected}
use Rattle.memories.proofs.Becomes.{filled}

-- ---- bits, by a table of 64 cases that is computed

-- a test holds of every number below n
abbrev all_below : ℕ → (ℕ → Bool) → Bool
all_below zero p = true
all_below (suc n) p = p n && all_below n p

each_below : (n : ℕ) (p : ℕ → Bool) → T (all_below n p) → (i : ℕ) → i < n → T (p i)
each_below zero p t i h = absurd (not-suc-le-zero h)
each_below (suc n) p t i h =
    ⊎_elim (λ q. rw q (both_left (p n) (all_below n p) t)) (λ l. each_below n p (both_right (p n) (all_below n p) t) i l)
    (eq-or-lt_of_le (le_of_suc-le-suc h))

-- the mask of bit s has a 0 at bit s alone
mask_bit : (s b : ℕ) → s < 8 → b < 8 → bit (255 - 2 ^ s) b ≡ (if eqb s b then 0 else 1)
mask_bit s b hs hb =
    eqb→eq (bit (255 - 2 ^ s) b) (if eqb s b then 0 else 1)
    (each_below 8 (λ y. eqb (bit (255 - 2 ^ s) y) (if eqb s y then 0 else 1))
    (each_below 8 (λ x. all_below 8 (λ y. eqb (bit (255 - 2 ^ x) y) (if eqb x y then 0 else 1))) tt s hs) b hb)

-- every bit of 0xFF is 1
ones_bit : (b : ℕ) → b < 8 → bit 255 b ≡ 1
ones_bit b hb = eqb→eq (bit 255 b) 1 (each_below 8 (λ y. eqb (bit 255 y) 1) tt b hb)

-- a bit of two numbers joined by AND
and_bit : (x m b : ℕ) → bit (bit_and x m) b ≡ bit_and (bit x b) (bit m b)
and_bit x m b = ap (λ (z : ℕ). z % 2) (and_shr x m b) ∙ and_mod (x / 2 ^ b) (m / 2 ^ b) 1

-- ---- one sector

-- a bit joined with the mask of a sector is 0 where it was 0 or is the sector's own
masked : (x s b : ℕ) → s < 8 → b < 8 → eqb (bit (bit_and x (255 - 2 ^ s)) b) 0 ≡ (eqb (bit x b) 0 || eqb s b)
masked x s b hs hb = rw (and_bit x (255 - 2 ^ s) b, mask_bit s b hs hb) (by_test (eqb s b))
  where
    by_test : (t : Bool) → eqb (bit_and (bit x b) (if t then 0 else 1)) 0 ≡ (eqb (bit x b) 0 || t)
    by_test true = rw (and_zero_r (bit x b)) (sym (or-true (eqb (bit x b) 0)))
    by_test false =
        let y : bit x b % 2 ≡ bit x b = omega arith in
        rw (and_mask (bit x b) 1, y) (sym (or-false (eqb (bit x b) 0)))

-- protecting a sector too protects it, and changes nothing for any other
also_protected_lem : (u : List ℕ) (j k : Sector) → length u ≡ 64 → j.0 < 32 → k.0 < 32
    → write_protected (view_of (also_protected u j)) k ≡ (write_protected (view_of u) k || eqb j.0 k.0)
unfolding also_protected
also_protected_lem u j k l hj hk =
    rw (by_its_bit (also_protected u j) k hk, by_its_bit u k hk) (by_byte (eqb (j.0 / 8) (k.0 / 8)) refl)
  where
    m : ℕ
    m = 255 - 2 ^ (j.0 % 8)

    by_byte : (t : Bool) → eqb (j.0 / 8) (k.0 / 8) ≡ t
        → eqb (bit (get_or (set u (8 + j.0 / 8) (bit_and (get_or u (8 + j.0 / 8) 0) (255 - 2 ^ (j.0 % 8)))) (8 + k.0 / 8) 0) (k.0 % 8)) 0
        ≡ (eqb (bit (get_or u (8 + k.0 / 8) 0) (k.0 % 8)) 0 || eqb j.0 k.0)
    by_byte false e =
        let n = eqb-false (j.0 / 8) (k.0 / 8) e in
        let o = get_or-set_other u (8 + j.0 / 8) (8 + k.0 / 8) (bit_and (get_or u (8 + j.0 / 8) 0) m) 0 (λ q. n (omega arith)) in
        rw (o, ne_eqb j.0 k.0 (λ q. n (ap (λ (z : ℕ). z / 8) q))) (sym (or-false (eqb (bit (get_or u (8 + k.0 / 8) 0) (k.0 % 8)) 0)))
    by_byte true e =
        let q : j.0 / 8 ≡ k.0 / 8 = eqb-true (j.0 / 8) (k.0 / 8) e in
        let v = get_or-set_same u (8 + k.0 / 8) (bit_and (get_or u (8 + k.0 / 8) 0) m) 0 (omega arith) in
        rw (q, v, masked (get_or u (8 + k.0 / 8) 0) (j.0 % 8) (k.0 % 8) (omega arith) (omega arith), same_bit q)
      where
        same_bit : j.0 / 8 ≡ k.0 / 8 → eqb (j.0 % 8) (k.0 % 8) ≡ eqb j.0 k.0
        same_bit q = by_bit (eqb (j.0 % 8) (k.0 % 8)) refl
          where
            by_bit : (t : Bool) → eqb (j.0 % 8) (k.0 % 8) ≡ t → t ≡ eqb j.0 k.0
            by_bit true e =
                let r = eqb-true (j.0 % 8) (k.0 % 8) e in
                sym (eq-eqb j.0 k.0 (omega arith))
            by_bit false e =
                let n = eqb-false (j.0 % 8) (k.0 % 8) e in
                sym (ne_eqb j.0 k.0 (λ r. n (ap (λ (z : ℕ). z % 8) r)))

-- ---- some sectors

length_also : (u : List ℕ) (j : Sector) → length (also_protected u j) ≡ length u
unfolding also_protected
length_also u j = simp length-set

all_protected_lem : (u : List ℕ) (ks : List Sector) (k : Sector) → length u ≡ 64 → T (all is_sector ks) → k.0 < 32
    → write_protected (view_of (all_protected u ks)) k ≡ (write_protected (view_of u) k || named ks k)
all_protected_lem u [] k l t h = sym (or-false (write_protected (view_of u) k))
all_protected_lem u (j ∷ ks) k l t h =
    let hj : j.0 < 32 = ltb→lt j.0 32 (both_left (is_sector j) (all is_sector ks) t) in
    all_protected_lem (also_protected u j) ks k (length_also u j ∙ l) (both_right (is_sector j) (all is_sector ks) t) h
    ∙ ap (λ (b : Bool). b || named ks k) (also_protected_lem u j k l hj h)
    ∙ or_assoc (write_protected (view_of u) k) (eqb j.0 k.0) (named ks k)

-- after 0x73 no sector is write-protected
pub released_none : (u : List ℕ) (k : Sector) → length u ≡ 64 → k.0 < 32 → write_protected (view_of (released u)) k ≡ false
unfolding released
released_none u k l h =
    let a : get_or (released u) (8 + k.0 / 8) 0 ≡ 255 =
    over_within newer u 8 (replicate 4 0xFF) (k.0 / 8) (omega arith) (omega arith)
    ∙ get_or-replicate {A = ℕ} 4 (k.0 / 8) 255 0 (omega arith) in
    rw (by_its_bit (released u) k h, a, ones_bit (k.0 % 8) (omega arith))

pub length-released : (u : List ℕ) → length (released u) ≡ length u
unfolding released
length-released u = length_over newer u 8 (replicate 4 0xFF)

-- after 0x63 exactly the named sectors are write-protected
pub only_named : (u : List ℕ) (ks : List Sector) (k : Sector) → length u ≡ 64 → T (all is_sector ks) → k.0 < 32
    → write_protected (view_of (only_protected u ks)) k ≡ named ks k
unfolding only_protected
only_named u ks k l t h =
    all_protected_lem (released u) ks k (length-released u ∙ l) t h
    ∙ ap (λ (b : Bool). b || named ks k) (released_none u k l h)

-- ---- the other bytes of user system data

released_beside : (u : List ℕ) (i : ℕ) → i < length u → T (beside_bits i) → get_or (released u) i 0 ≡ get_or u i 0
unfolding released
released_beside u i h t = over_at newer u 8 (replicate 4 0xFF) i h ∙ rw (fails_false (within 8 4 i) t)

also_beside : (u : List ℕ) (j : Sector) (i : ℕ) → T (is_sector j) → T (beside_bits i) → get_or (also_protected u j) i 0 ≡ get_or u i 0
unfolding also_protected
also_beside u j i s t = get_or-set_other u (bit_byte j) i (bit_and (get_or u (bit_byte j) 0) (255 - 2 ^ (j.0 % 8))) 0 (λ q. T_not (within 8 4 i) t (rw q inside))
  where
    inside : T (within 8 4 (8 + j.0 / 8))
    inside =
        let h : j.0 < 32 = ltb→lt j.0 32 s in
        rw (le-leb 8 (8 + j.0 / 8) (omega arith), lt-ltb (8 + j.0 / 8) 12 (omega arith)) tt

all_beside : (u : List ℕ) (ks : List Sector) (i : ℕ) → T (all is_sector ks) → T (beside_bits i)
    → get_or (all_protected u ks) i 0 ≡ get_or u i 0
all_beside u [] i s t = refl
all_beside u (j ∷ ks) i s t =
    all_beside (also_protected u j) ks i (both_right (is_sector j) (all is_sector ks) s) t
    ∙ also_beside u j i (both_left (is_sector j) (all is_sector ks) s) t

-- 0x63 changes no other byte
pub only_beside : (u : List ℕ) (ks : List Sector) (i : ℕ) → i < length u → T (all is_sector ks) → T (beside_bits i)
    → get_or (only_protected u ks) i 0 ≡ get_or u i 0
unfolding only_protected
only_beside u ks i h s t = all_beside (released u) ks i s t ∙ released_beside u i h t

-- ---- the bytes that hold the bits

length_all : (u : List ℕ) (ks : List Sector) → length (all_protected u ks) ≡ length u
length_all u [] = refl
length_all u (k ∷ ks) = length_all (also_protected u k) ks ∙ length_also u k

pub length-only : (u : List ℕ) (ks : List Sector) → length (only_protected u ks) ≡ length u
unfolding only_protected
length-only u ks = length_all (released u) ks ∙ length-released u

-- a byte joined with a mask stays one
also_small : (u : List ℕ) (k : Sector) (i : ℕ) → i < length u → get_or u i 0 < 256 → get_or (also_protected u k) i 0 < 256
unfolding also_protected
also_small u k i h s = by_place (eqb i (bit_byte k)) refl
  where
    v : ℕ
    v = bit_and (get_or u (bit_byte k) 0) (255 - 2 ^ (k.0 % 8))

    by_place : (t : Bool) → eqb i (bit_byte k) ≡ t → get_or (set u (bit_byte k) v) i 0 < 256
    by_place false e = rw (get_or-set_other u (bit_byte k) i v 0 (eqb-false i (bit_byte k) e)) s
    by_place true e =
        let q = eqb-true i (bit_byte k) e in
        let l = and_le_l (get_or u i 0) (255 - 2 ^ (k.0 % 8)) in
        rw (← q, get_or-set_same) (omega arith)

all_small : (u : List ℕ) (ks : List Sector) (i : ℕ) → i < length u → get_or u i 0 < 256 → get_or (all_protected u ks) i 0 < 256
all_small u [] i h s = s
all_small u (k ∷ ks) i h s = all_small (also_protected u k) ks i (rw length_also h) (also_small u k i h s)

-- after 0x63 each byte that holds bits is a byte
pub only_small : (u : List ℕ) (ks : List Sector) (i : ℕ) → i < length u → T (within 8 4 i) → get_or (only_protected u ks) i 0 < 256
unfolding only_protected released
only_small u ks i h t =
    let e : get_or (released u) i 0 ≡ 255 = (filled u 8 4 255).byte i h ∙ rw (holds_true (within 8 4 i) t) in
    all_small (released u) ks i (rw length-released h) (omega arith)
