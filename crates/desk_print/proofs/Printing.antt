-- Laws of what is printed: the bytes of a reply one by one.
use mathlib.Core.Path.{◌≡◌, refl, sym, ap, ◌∙◌}
use mathlib.Core.Bool.{Bool, true, false}
use mathlib.Core.List.{List, [], ◌∷◌, ◌++◌}
use Prim.Native.Nat.{ℕ, ◌+◌, ◌*◌, ◌-◌, ◌/◌, ◌%◌, ◌≤◌, ◌<◌, min}
use native.Mathlib.Nat.{min-eq_left, min-eq_right, min-le_left, min-le_right}
use native.Mathlib.Numerals.{add-one}
use native.Mathlib.Omega.{arith}
use lib.Dec.{leb}
use lib.ListN.{length, get_or, take, drop, length-take, length-drop, length-append}
use lib.Seq.{take-suc, take_all, length-take-le, take-append_seam, drop-append_seam}
use borrow.Author.Tests.{leb-true, leb-false}
use Rattle.words.specs.Bytes.{number}
use Rattle.words.specs.Hex.{space}
use Rattle.words.proofs.Slices.{take_two}
use Rattle.words.proofs.Pieces.{cut_more}
use Rattle.frames.specs.Frames.{classic, frame_bytes, frame_in, carried}
use Rattle.words.specs.Over.{put}
use Rattle.words.proofs.Over.{put_then}
use Rattle.desk_print.specs.Digits.{digit_of, digits_of}
use Rattle.desk_print.specs.Prints.{colon, spelled, unspaced, id_digits, spelled_frame, spelled_frames}

-- a printed byte takes three characters
pub length-spelled : (bs : List ℕ) → length (spelled bs) ≡ length bs * 3
length-spelled [] = refl
length-spelled (b ∷ bs) = let e = length-spelled bs in omega arith

-- one byte more is printed behind the others
pub spelled_snoc : (bs : List ℕ) (b : ℕ) → spelled (bs ++ (b ∷ [])) ≡ spelled bs ++ (space ∷ digits_of b)
spelled_snoc [] b = refl
spelled_snoc (x ∷ bs) b = ap (λ (l : List ℕ). space ∷ digits_of x ++ l) (spelled_snoc bs b)

-- a turn that prints byte i of a reply
pub spelled_more : (m : List ℕ) (at : ℕ) (reply : List ℕ) (i end : ℕ) → i < length reply → end ≡ at + i * 3
    → put (put m at (spelled (take i reply))) end (space ∷ digits_of (get_or reply i 0)) ≡ put m at (spelled (take (i + 1) reply))
spelled_more m at reply i end h e =
    let l : length (spelled (take i reply)) ≡ i * 3 = length-spelled (take i reply) ∙ ap (λ (k : ℕ). k * 3) (length-take-le i reply (omega arith)) in
    let t : take (i + 1) reply ≡ take i reply ++ (get_or reply i 0 ∷ []) = rw add-one (take-suc reply i 0 h) in
    put_then m at end (spelled (take i reply)) (space ∷ digits_of (get_or reply i 0)) (omega arith)
    ∙ rw (t, spelled_snoc (take i reply) (get_or reply i 0)) refl

-- the same of bytes that are not spaced, two characters each
pub length-unspaced : (bs : List ℕ) → length (unspaced bs) ≡ length bs * 2
length-unspaced [] = refl
length-unspaced (b ∷ bs) = let e = length-unspaced bs in omega arith

unspaced_snoc : (bs : List ℕ) (b : ℕ) → unspaced (bs ++ (b ∷ [])) ≡ unspaced bs ++ digits_of b
unspaced_snoc [] b = refl
unspaced_snoc (x ∷ bs) b = ap (λ (l : List ℕ). digits_of x ++ l) (unspaced_snoc bs b)

pub unspaced_more : (m : List ℕ) (at : ℕ) (bytes : List ℕ) (i end : ℕ) → i < length bytes → end ≡ at + i * 2
    → put (put m at (unspaced (take i bytes))) end (digits_of (get_or bytes i 0)) ≡ put m at (unspaced (take (i + 1) bytes))
unspaced_more m at bytes i end h e =
    let l : length (unspaced (take i bytes)) ≡ i * 2 = length-unspaced (take i bytes) ∙ ap (λ (k : ℕ). k * 2) (length-take-le i bytes (omega arith)) in
    let t : take (i + 1) bytes ≡ take i bytes ++ (get_or bytes i 0 ∷ []) = rw add-one (take-suc bytes i 0 h) in
    put_then m at end (unspaced (take i bytes)) (digits_of (get_or bytes i 0)) (omega arith)
    ∙ rw (t, unspaced_snoc (take i bytes) (get_or bytes i 0)) refl

-- a frame of eleven bytes: its ID and the bytes that count are printed as they stand
module _ (l : List ℕ) (e : length l ≡ 11) (b : get_or l 1 0 < 256) (k : ℕ) (ek : k ≡ min (get_or l 2 0) 8) where
  counts : take (3 + k - 3) (drop 3 l) ≡ carried (frame_in l)
  counts = by_order (leb (get_or l 2 0) 8) refl
    where
      d : length (drop 3 l) ≡ length l - 3
      d = length-drop 3 l

      by_order : (t : Bool) → leb (get_or l 2 0) 8 ≡ t → take (3 + k - 3) (drop 3 l) ≡ take (get_or l 2 0) (drop 3 l)
      by_order true t =
          let m : min (get_or l 2 0) 8 ≡ get_or l 2 0 = min-eq_left (leb-true (get_or l 2 0) 8 t) in
          let a : 3 + k - 3 ≡ get_or l 2 0 = omega arith in
          ap (λ (n : ℕ). take n (drop 3 l)) a
      by_order false t =
          let o = leb-false (get_or l 2 0) 8 t in
          let m : min (get_or l 2 0) 8 ≡ 8 = min-eq_right (omega arith) in
          let a : 3 + k - 3 ≡ 8 = omega arith in
          ap (λ (n : ℕ). take n (drop 3 l)) a ∙ take_all 8 (drop 3 l) (omega (arith, d, e)) ∙ sym (take_all (get_or l 2 0) (drop 3 l) (omega (arith, d, e, o)))

  head : id_digits (frame_in l).id ≡ digit_of (get_or l 0 0 % 16) ∷ digit_of (get_or l 1 0 / 16) ∷ digit_of (get_or l 1 0 % 16) ∷ []
  head =
      let n : number (take 2 l) ≡ get_or l 0 0 * 256 + get_or l 1 0 = rw (take_two l (omega arith)) (omega arith) in
      let x : (get_or l 0 0 * 256 + get_or l 1 0) / 256 % 16 ≡ get_or l 0 0 % 16 = omega arith in
      let y : (get_or l 0 0 * 256 + get_or l 1 0) / 16 % 16 ≡ get_or l 1 0 / 16 = omega arith in
      let z : (get_or l 0 0 * 256 + get_or l 1 0) % 16 ≡ get_or l 1 0 % 16 = omega arith in
      rw (n, x, y, z) refl

  pub frame_spelled : (m : List ℕ) (at : ℕ)
      → put (put m at (space ∷ digit_of (get_or l 0 0 % 16) ∷ digit_of (get_or l 1 0 / 16) ∷ digit_of (get_or l 1 0 % 16) ∷ colon ∷ [])) (at + 5) (unspaced (take (3 + k - 3) (drop 3 l)))
      ≡ put m at (spelled_frame (frame_in l))
  frame_spelled m at =
      put_then m at (at + 5) (space ∷ digit_of (get_or l 0 0 % 16) ∷ digit_of (get_or l 1 0 / 16) ∷ digit_of (get_or l 1 0 % 16) ∷ colon ∷ []) (unspaced (take (3 + k - 3) (drop 3 l))) (omega arith)
      ∙ ap (λ (t : List ℕ). put m at (space ∷ digit_of (get_or l 0 0 % 16) ∷ digit_of (get_or l 1 0 / 16) ∷ digit_of (get_or l 1 0 % 16) ∷ colon ∷ unspaced t)) counts
      ∙ ap (λ (t : List ℕ). put m at (space ∷ t ++ colon ∷ unspaced (carried (frame_in l)))) (sym head)

  pub frame_length : (length (spelled_frame (frame_in l)) ≡ 5 + length (take (3 + k - 3) (drop 3 l)) * 2) × (length (spelled_frame (frame_in l)) ≤ 22)
  frame_length =
      let u = length-unspaced (carried (frame_in l)) in
      let c = ap length counts in
      let t = length-take (3 + k - 3) (drop 3 l) in
      let m = min-le_left (3 + k - 3) (length (drop 3 l)) in
      let n = min-le_right (get_or l 2 0) 8 in
      (omega arith, omega arith)

-- the first frame is printed, and then what remains
pub first_spelled : (s f t : List ℕ) → s ≡ f ++ t → length f ≡ frame_bytes classic → spelled_frames s ≡ spelled_frame (frame_in f) ++ spelled_frames t
first_spelled s f t e n =
    let l = length-append f t in
    let first : take (frame_bytes classic) s ≡ f =
    ap (λ (k : ℕ). take k s) (sym n) ∙ ap (λ (x : List ℕ). take (length f) x) e ∙ take-append_seam f t in
    let others : drop (frame_bytes classic) s ≡ t =
    ap (λ (k : ℕ). drop k s) (sym n) ∙ ap (λ (x : List ℕ). drop (length f) x) e ∙ drop-append_seam f t in
    rw (cut_more (frame_bytes classic) s (omega arith) (omega (arith, ap length e)), first, others) refl

-- where nothing is left nothing is printed
pub none_spelled : (s : List ℕ) → length s ≡ 0 → spelled_frames s ≡ []
none_spelled [] e = refl
none_spelled (b ∷ s) e = absurd (omega arith)
