-- Between two reads the board is what the bytes read so far have made of it, that is kept, and each read uses up one of those that may be made.
use Rattle.std.proofs.Common.{◌≤◌, ◌-◌, T}
use Rattle.memories.specs.Lent.{holds, StillLent}
use Rattle.memories.specs.Memories.{proper}
use Rattle.keeping.specs.Kept.{Kept}
use Rattle.boot.specs.Promise.{state_of}
use Rattle.port_loop.specs.Turns.{most_reads, sitting, HasHeard}
use Rattle.port_loop.proofs.read_on.Given as goal

abbrev pub invariant-loop-turns : goal.invariant-loop-turns
invariant-loop-turns g l =
    (l.turns ≤ most_reads)
    × HasHeard l.st (most_reads - l.turns) (sitting (state_of l.initial.session (holds l.initial.lent)) l.initial.out)
    (sitting (state_of l.session (holds l.lent)) l.out)
    × Kept l.name (holds l.lent) l.kept
    × StillLent l.initial.lent l.lent
    × T (proper (holds l.lent))

abbrev pub decreases-loop-turns : goal.decreases-loop-turns
decreases-loop-turns g l = l.turns
