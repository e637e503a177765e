-- What a slice that holds a frame says of its parts.
use mathlib.Core.Path.{◌≡◌}
use mathlib.Core.Bool.{◌&&◌}
use mathlib.Core.List.{List}
use Prim.Native.Nat.{ℕ, ◌+◌, ◌≤◌, ◌<◌}
use native.Mathlib.Omega.{arith}
use lib.Dec.{T, eqb, leb, eqb→eq, leb→le}
use lib.ListN.{length, get_or, drop, length-drop}
use lib.Seq.{length-take-le, get_or-drop}
use Rattle.board.specs.Quantities.{address_bytes}
use Rattle.words.proofs.Bytes.{still_byte}
use Rattle.words.proofs.Tests.{both_left, both_right}
use Rattle.frames.specs.Frames.{classic, head_bytes, frame_in, is_frame, carried}

module _ (l : List ℕ) (t : T (is_frame classic l)) where
  -- it is 11 bytes long
  pub frame_length : length l ≡ 11
  frame_length =
      let a = eqb (length l) 11 in
      let b = leb (frame_in l).id 0x7FF in
      eqb→eq (length l) 11 (both_left a b (both_left (a && b) (leb (frame_in l).dlc 8) t))

  -- no DLC is over 8
  pub frame_dlc : (frame_in l).dlc ≤ 8
  frame_dlc =
      leb→le (frame_in l).dlc 8 (both_right (eqb (length l) 11 && leb (frame_in l).id 0x7FF) (leb (frame_in l).dlc 8) t)

  -- as many data bytes count as the DLC says
  pub carried_length : length (carried (frame_in l)) ≡ (frame_in l).dlc
  carried_length =
      let e = frame_length in
      let h = frame_dlc in
      length-take-le (frame_in l).dlc (drop 3 l) (omega (arith, length-drop 3 l))

-- what a slice of bytes carries behind an address is a byte, where it holds a frame
pub carried_byte : (l : List ℕ) → ((i : ℕ) → get_or l i 0 < 256) → get_or (carried (frame_in l)) address_bytes 0 < 256
carried_byte l h = still_byte (frame_in l).dlc (drop head_bytes l) (λ i. rw get_or-drop (h (head_bytes + i))) address_bytes
