-- Before each turn what is left to store ends as the whole does.
use mathlib.Core.Path.{◌≡◌}
use Prim.Native.Nat.{◌-◌}
use lib.ListN.{length}
use Rattle.words.specs.Over.{put}
use Rattle.vector_lines.specs.Vectors.{filled}
use Rattle.vector_lines.proofs.vector.fill.Given as goal

abbrev pub invariant-loop-slot : goal.invariant-loop-slot
invariant-loop-slot l =
    put l.memory l.slot-index (filled l.value l.stride (length l.memory - l.slot-index)) ≡ filled l.seed l.stride (length l.memory)
