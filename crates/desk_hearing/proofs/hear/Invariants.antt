-- Each turn takes one character in, or a line and what is passed behind it; before it, what is left ends as the whole does, and there is room for it.
use mathlib.Core.Path.{◌≡◌}
use Prim.Native.Nat.{◌≤◌, ◌+◌, ◌*◌}
use lib.ListN.{length}
use Rattle.memories.specs.Lent.{holds, StillLent}
use Rattle.desk_answers.specs.Desk.{kept_characters, hears}
use Rattle.desk_hearing.specs.Promise.{desk_of}
use Rattle.desk_answers.specs.Promise.{Continues, character_room}
use Rattle.desk_hearing.proofs.hear.Given as goal

abbrev pub invariant-loop-left : goal.invariant-loop-left
invariant-loop-left l = (length l.line ≡ kept_characters)
    × (l.here.kept ≤ kept_characters)
    × (l.here.lines + length l.left ≤ l.initial.here.lines + length l.initial.left)
    × (l.here.end + character_room * (l.here.kept + length l.left) ≤ length l.initial.out)
    × Continues (hears l.left (desk_of l.here l.line (holds l.lent))) l.here.end l.out
    (hears l.initial.left (desk_of l.initial.here l.initial.line (holds l.initial.lent))) l.initial.here.end l.initial.out
    × StillLent l.initial.lent l.lent

abbrev pub decreases-loop-left : goal.decreases-loop-left
decreases-loop-left l = length l.left
