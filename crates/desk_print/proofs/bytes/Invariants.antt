-- Before each turn the bytes that were passed are printed, three characters each.
use mathlib.Core.Path.{◌≡◌}
use Prim.Native.Nat.{◌+◌, ◌*◌}
use lib.ListN.{take}
use Rattle.words.specs.Over.{put}
use Rattle.desk_print.specs.Prints.{spelled}
use Rattle.desk_print.proofs.bytes.Given as goal

abbrev pub invariant-loop-b : goal.invariant-loop-b
invariant-loop-b l = (l.end ≡ l.at + l.b-index * 3) × (l.out ≡ put l.initial.out l.at (spelled (take l.b-index l.reply)))
