-- Before each turn whole frames are left, and what is left to print ends as the whole does.
use mathlib.Core.Path.{◌≡◌}
use Prim.Native.Nat.{◌+◌, ◌*◌, ◌%◌, ◌≤◌}
use lib.ListN.{length}
use Rattle.std.specs.Slice.Iter.{chunks_exact_rest, chunks_exact_size}
use Rattle.frames.specs.Frames.{classic, frame_bytes}
use Rattle.words.specs.Over.{put}
use Rattle.desk_print.specs.Prints.{spelled_frames}
use Rattle.desk_print.proofs.frames.Given as goal

abbrev pub invariant-loop-f : goal.invariant-loop-f
invariant-loop-f l = (chunks_exact_size l.f-iterator ≡ frame_bytes classic)
    × (length (chunks_exact_rest l.f-iterator) % frame_bytes classic ≡ 0)
    × (l.end + 2 * length (chunks_exact_rest l.f-iterator) ≤ l.at + 2 * length l.reply)
    × (l.end + length (spelled_frames (chunks_exact_rest l.f-iterator)) ≡ l.at + length (spelled_frames l.reply))
    × (put l.out l.end (spelled_frames (chunks_exact_rest l.f-iterator)) ≡ put l.initial.out l.at (spelled_frames l.reply))
