-- What is left to write ends as the whole does.
use Rattle.std.proofs.Common.{◌≡◌, ◌+◌, length}
use Rattle.words.specs.Lists.{cut}
use Rattle.words.specs.Over.{put}
use Rattle.frames.specs.Frames.{of_size, frames}
use Rattle.frames.proofs.put.put_frames.Given as goal

abbrev pub invariant-loop-part : goal.invariant-loop-part
invariant-loop-part l =
    (l.part-iterator.size ≡ l.piece)
    × (l.end + length (frames (of_size l.size) l.id (cut l.piece l.part-iterator.rest.now)) ≡ l.at + length (frames (of_size l.size) l.id (cut l.piece l.bytes)))
    × (put l.buffer l.end (frames (of_size l.size) l.id (cut l.piece l.part-iterator.rest.now))
    ≡ put l.initial.buffer l.at (frames (of_size l.size) l.id (cut l.piece l.bytes)))
