-- Before each turn what is left to store ends as the whole does.
use mathlib.Core.Path.{◌≡◌}
use Prim.Native.Nat.{◌+◌}
use lib.Dec.{T}
use lib.ListN.{length}
use Rattle.std.specs.Slice.Iter.{chunks_exact_rest, chunks_exact_size}
use Rattle.words.specs.Hex.{field_characters}
use Rattle.words.specs.Over.{put}
use Rattle.desk_lines.specs.Lines.{are_fields, fields}
use Rattle.desk_written.proofs.bytes.Given as goal

abbrev pub invariant-loop-field : goal.invariant-loop-field
invariant-loop-field l = (chunks_exact_size l.field-iterator ≡ field_characters)
    × T (are_fields (chunks_exact_rest l.field-iterator))
    × (l.count + length (fields (chunks_exact_rest l.field-iterator)) ≡ length (fields l.rest))
    × (put l.out l.count (fields (chunks_exact_rest l.field-iterator)) ≡ put l.initial.out 0 (fields l.rest))
