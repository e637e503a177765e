-- Before each turn, what is left to explain ends as the whole does, and there is room for it.
use mathlib.Core.Path.{◌≡◌}
use Prim.Native.Nat.{◌+◌, ◌*◌, ◌≤◌}
use lib.ListN.{length}
use Rattle.std.specs.Slice.Iter.{chunks_exact_rest, chunks_exact_size}
use Rattle.desk_answers.specs.Promise.{Continues, note_numbers, note_room}
use Rattle.desk_answers.specs.Why.{explanations}
use Rattle.desk_answers_code.proofs.Explaining.{saying}
use Rattle.desk_answers_code.proofs.why.explain_all.Given as goal

abbrev pub invariant-loop-note : goal.invariant-loop-note
invariant-loop-note l = (chunks_exact_size l.note-iterator ≡ note_numbers)
    × (l.end + note_room * length (chunks_exact_rest l.note-iterator) ≤ l.at + note_room * length l.notes)
    × Continues (saying (explanations (chunks_exact_rest l.note-iterator))) l.end l.out (saying (explanations l.notes)) l.at l.initial.out
