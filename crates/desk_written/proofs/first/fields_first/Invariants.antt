-- Before each turn the characters that were passed are fields.
use mathlib.Core.Path.{◌≡◌}
use Prim.Native.Nat.{◌≤◌}
use lib.Dec.{T}
use lib.ListN.{length, take, drop}
use Rattle.std.specs.Slice.Iter.{chunks_exact_rest, chunks_exact_size}
use Rattle.words.specs.Hex.{field_characters}
use Rattle.desk_lines.specs.Lines.{are_fields}
use Rattle.desk_written.proofs.first.fields_first.Given as goal

abbrev pub invariant-loop-field : goal.invariant-loop-field
invariant-loop-field l = (chunks_exact_size l.field-iterator ≡ field_characters)
    × (l.end ≤ length l.rest)
    × (chunks_exact_rest l.field-iterator ≡ drop l.end l.rest)
    × T (are_fields (take l.end l.rest))
