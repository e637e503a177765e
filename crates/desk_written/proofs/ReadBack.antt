-- The frame that characters write, read back: it is one, and has the ID and the data bytes that they write.
use mathlib.Core.Path.{◌≡◌}
use mathlib.Core.List.{List}
use Prim.Native.Nat.{ℕ, ◌-◌, ◌≤◌}
use native.Mathlib.Omega.{arith}
use borrow.Author.Tests.{eq-eqb, le-leb}
use lib.Dec.{T}
use lib.ListN.{length, drop, replicate}
use lib.Seq.{take-append_seam}
use Rattle.frames.specs.Frames.{classic, frame_bytes, largest_id, frame_in, carried, is_frame}
use Rattle.frames.proofs.Cutting.{length-frame}
use Rattle.desk_lines.specs.Lines.{fields, id_in, frame_written}
use Rattle.desk_lines.proofs.Lines.{FrameGood, data_fits}

module _ (l : List ℕ) (g : FrameGood l) where
  pub carried_back : carried (frame_in (frame_written l)) ≡ fields (drop 4 l)
  carried_back = take-append_seam (fields (drop 4 l)) (replicate (8 - length (fields (drop 4 l))) 0)

  module _ (small : id_in l ≤ largest_id) where
    pub id_back : (frame_in (frame_written l)).id ≡ id_in l
    id_back = let i = id_in l in let s : i ≤ 2047 = small in omega arith

    pub formed_back : T (is_frame classic (frame_written l))
    formed_back =
        let o = data_fits l g in
        let e = length-frame classic (id_in l) (fields (drop 4 l)) (omega arith) in
        rw (eq-eqb (length (frame_written l)) (frame_bytes classic) e, id_back, le-leb (id_in l) largest_id small, le-leb (length (fields (drop 4 l))) 8 o) tt
