-- Before each turn as many answers stand as turns were taken.
use mathlib.Core.Path.{◌≡◌}
use Prim.Native.Nat.{◌+◌}
use Rattle.words.specs.Over.{put}
use Rattle.desk_passing.specs.Passing.{nods}
use Rattle.desk_passing.proofs.nod.Given as goal

abbrev pub invariant-loop : goal.invariant-loop
invariant-loop l = (l.end ≡ l.at + l.counter + l.counter) × (l.out ≡ put l.initial.out l.at (nods l.counter))
