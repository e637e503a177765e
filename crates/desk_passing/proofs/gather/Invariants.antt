-- Before each turn the lines that were passed left this session, which still hears frames.
use mathlib.Core.Path.{◌≡◌}
use Prim.Native.Nat.{◌-◌}
use lib.ListN.{length}
use Rattle.boot.specs.Gathering.{HearsFrames}
use Rattle.desk_passing.specs.Passing.{PassesLines}
use Rattle.desk_passing.proofs.gather.Given as goal

abbrev pub invariant-loop-line : goal.invariant-loop-line
invariant-loop-line l = (length l.new ≡ 8) × HearsFrames l.here l.right × PassesLines l.initial.here l.right l.text l.here l.lines l.characters

abbrev pub decreases-loop-line : goal.decreases-loop-line
decreases-loop-line l = length l.text - l.characters
