-- Between two reads all is ready, what was heard is kept, and each read uses up one of those that may be made.
use Rattle.std.proofs.Common.{◌≤◌, ◌+◌, ◌-◌, ◌*◌, ◌^◌, T}
use Rattle.memories.specs.Lent.{holds, StillLent}
use Rattle.memories.specs.Memories.{proper}
use Rattle.keeping.specs.Kept.{Kept}
use Rattle.desk_hearing.specs.Promise.{desk_of}
use Rattle.desk_loop.specs.Turns.{read_characters, most_characters, Ready, HasHeard}
use Rattle.desk_loop.proofs.read_on.Given as goal

abbrev pub invariant-loop-turns : goal.invariant-loop-turns
invariant-loop-turns g l =
    Ready l.desk l.line l.out
    × (l.desk.lines + read_characters * l.turns ≤ 2 ^ 63)
    × HasHeard (most_characters - read_characters * l.turns)
    (desk_of l.initial.desk l.initial.line (holds l.initial.lent)) (desk_of l.desk l.line (holds l.lent))
    × Kept l.name (holds l.lent) l.kept
    × StillLent l.initial.lent l.lent
    × T (proper (holds l.lent))

abbrev pub decreases-loop-turns : goal.decreases-loop-turns
decreases-loop-turns g l = l.turns
