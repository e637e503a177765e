-- Laws of bytes cut into frames: how long they are, a frame as it is written, and a turn that writes one.
use mathlib.Core.Path.{◌≡◌, refl, sym, ap, ◌∙◌}
use mathlib.Core.List.{List, [], ◌∷◌, ◌++◌}
use Prim.Native.Nat.{ℕ, zero, suc, ◌+◌, ◌*◌, ◌-◌, ◌/◌, ◌%◌, ◌≤◌, ◌<◌, min}
use native.Mathlib.Nat.{min-le_left, add_comm, mul-suc}
use native.Mathlib.Omega.{arith}
use lib.ListN.{length, take, drop, replicate, length-append, length-take, length-drop, length-replicate}
use Rattle.words.specs.Lists.{cut_up_to, cut, singly}
use Rattle.words.specs.Over.{put}
use Rattle.words.proofs.Pieces.{cut_chunk}
use Rattle.words.proofs.Over.{put_then}
use Rattle.frames.specs.Frames.{Kind, of_size, classic, head_bytes, frame_bytes, frame, frames, framed}

-- ---- how long frames are

-- a frame has its head and its size
pub length-frame : (k : Kind) (id : ℕ) (l : List ℕ) → length l ≤ k.largest → length (frame k id l) ≡ head_bytes + k.largest
length-frame k id l h =
    let a = length-append l (replicate (k.largest - length l) 0) in
    let r = length-replicate {A = ℕ} (k.largest - length l) 0 in
    omega arith

-- pieces of n bytes in frames
pub length-frames : (k : Kind) (id f n : ℕ) (l : List ℕ) → n ≤ k.largest
    → length (frames k id (cut_up_to f n l)) ≡ (head_bytes + k.largest) * length (cut_up_to f n l)
length-frames k id zero n l h = omega arith
length-frames k id (suc f) n [] h = omega arith
length-frames k id (suc f) n (x ∷ xs) h =
    let t = length-take n (x ∷ xs) in
    let m = min-le_left n (length (x ∷ xs)) in
    let e = length-frame k id (take n (x ∷ xs)) (omega arith) in
    let r = length-frames k id f n (drop n (x ∷ xs)) h in
    length-append (frame k id (take n (x ∷ xs))) (frames k id (cut_up_to f n (drop n (x ∷ xs)))) ∙ rw (e, r) (sum (head_bytes + k.largest) (length (cut_up_to f n (drop n (x ∷ xs)))))
  where
    sum : (a b : ℕ) → a + a * b ≡ a * suc b
    sum a b = add_comm a (a * b) ∙ sym (mul-suc a b)

-- messages are sent in whole frames
pub framed_whole : (id : ℕ) (ms : List (List ℕ)) → length (framed classic id ms) % frame_bytes classic ≡ 0
framed_whole id [] = refl
framed_whole id (m ∷ ms) =
    let a = length-append (frames classic id (cut 8 m)) (framed classic id ms) in
    let b = length-frames classic id (length m) 8 m (omega arith) in
    let r = framed_whole id ms in
    omega arith

-- pieces of eight are no more than an eighth of the bytes, rounded up; pieces of one are as many as the bytes
pub few_eights : (f : ℕ) (l : List ℕ) → 8 * length (cut_up_to f 8 l) ≤ length l + 7
few_eights zero l = omega arith
few_eights (suc f) [] = omega arith
few_eights (suc f) (x ∷ xs) =
    let r = few_eights f (drop 8 (x ∷ xs)) in
    let d = length-drop 8 (x ∷ xs) in
    let e : length (cut_up_to (suc f) 8 (x ∷ xs)) ≡ suc (length (cut_up_to f 8 (drop 8 (x ∷ xs)))) = refl in
    omega arith

pub ones : (l : List ℕ) → cut 1 l ≡ singly l
ones [] = refl
ones (x ∷ xs) = ap (λ (ls : List (List ℕ)). (x ∷ []) ∷ ls) (ones xs)

pub length-singly : (l : List ℕ) → length (singly l) ≡ length l
length-singly [] = refl
length-singly (x ∷ xs) = ap suc (length-singly xs)

-- ---- a frame as it is written: its head, its bytes, and zeros
pub frame_written : (m : List ℕ) (at id size : ℕ) (l : List ℕ)
    → put (put (put m at (id / 256 % 256 ∷ id % 256 ∷ length l ∷ [])) (at + head_bytes) l) (at + head_bytes + length l) (replicate (size - length l) 0)
    ≡ put m at (frame (of_size size) id l)
frame_written m at id size l =
    let a : id / 1 % 256 ≡ id % 256 = omega arith in
    let head = id / 256 % 256 ∷ id % 256 ∷ length l ∷ [] in
    rw (a, put_then m at (at + head_bytes) head l (omega arith), put_then m at (at + head_bytes + length l) (head ++ l) (replicate (size - length l) 0) (omega arith)) refl

-- ---- a turn: one frame is written, and what remains is left
pub record Turn (k : Kind) (id n : ℕ) (rest p l : List ℕ) : Type 0 where
  pub fits : length p ≤ k.largest
  pub long : length (frame k id p) ≡ head_bytes + k.largest
  pub first : frames k id (cut n rest) ≡ frame k id p ++ frames k id (cut n l)
  pub both : length (frames k id (cut n rest)) ≡ head_bytes + k.largest + length (frames k id (cut n l))

pub turn : (k : Kind) (id n : ℕ) (rest p l : List ℕ) → 0 < n → n ≤ k.largest → rest ≡ p ++ l → length p ≡ min n (length rest) → 0 < length rest
    → Turn k id n rest p l
turn k id n rest p l z f e m h =
    let fits : length p ≤ k.largest = omega (arith, min-le_left n (length rest)) in
    let long = length-frame k id p fits in
    let first : frames k id (cut n rest) ≡ frame k id p ++ frames k id (cut n l) =
    rw e (ap (λ (ls : List (List ℕ)). frames k id ls) (cut_chunk n p l z (rw e at h) (rw e at m))) in
    record { fits = fits; long = long; first = first; both = ap length first ∙ length-append (frame k id p) (frames k id (cut n l)) ∙ ap (λ (j : ℕ). j + length (frames k id (cut n l))) long }
