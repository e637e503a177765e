-- Before each turn the bytes that were passed are printed, two characters each.
use mathlib.Core.Path.{◌≡◌}
use Prim.Native.Nat.{◌+◌, ◌*◌}
use lib.ListN.{take}
use Rattle.words.specs.Over.{put}
use Rattle.desk_print.specs.Prints.{unspaced}
use Rattle.desk_print.proofs.unspaced.Given as goal

abbrev pub invariant-loop-b : goal.invariant-loop-b
invariant-loop-b l = (l.end ≡ l.at + l.b-index * 2) × (l.out ≡ put l.initial.out l.at (unspaced (take l.b-index l.bytes)))
