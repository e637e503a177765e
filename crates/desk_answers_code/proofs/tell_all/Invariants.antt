-- Before each turn, what is left of both texts ends as the whole does, and there is room for it.
use mathlib.Core.List.{map}
use Prim.Native.Nat.{◌≤◌, ◌+◌, ◌*◌}
use lib.ListN.{length}
use Rattle.memories.specs.Lent.{holds, StillLent}
use Rattle.boot.specs.Calls.{Byte}
use Rattle.boot.specs.Promise.{state_of}
use Rattle.desk_answers.specs.Answers as A
use Rattle.desk_answers.specs.Answers.{desk_room, tells}
use Rattle.desk_answers.specs.Promise.{Continues, note_numbers}
use Rattle.words.specs.Hex.{field_characters}
use Rattle.desk_answers_code.proofs.tell_all.Given as goal

abbrev pub invariant-loop-left : goal.invariant-loop-left
invariant-loop-left l = (l.told.end + desk_room * field_characters * length l.left ≤ l.initial.told.end + desk_room * field_characters * length l.initial.left)
    × (l.told.noted + note_numbers * length l.left ≤ l.initial.told.noted + note_numbers * length l.initial.left)
    × Continues (tells (map (Byte desk_room) l.left) (state_of l.told.session (holds l.lent))) l.told.end l.out
    (tells (map (Byte desk_room) l.initial.left) (state_of l.initial.told.session (holds l.initial.lent))) l.initial.told.end l.initial.out
    × Continues (A.notes (map (Byte desk_room) l.left) (state_of l.told.session (holds l.lent))) l.told.noted l.notes
    (A.notes (map (Byte desk_room) l.initial.left) (state_of l.initial.told.session (holds l.initial.lent))) l.initial.told.noted l.initial.notes
    × StillLent l.initial.lent l.lent

abbrev pub decreases-loop-left : goal.decreases-loop-left
decreases-loop-left l = length l.left
