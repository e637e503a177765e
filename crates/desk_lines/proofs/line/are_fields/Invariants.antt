-- Before each turn what is left is fields exactly where the whole is.
use mathlib.Core.Path.{◌≡◌}
use Prim.Native.Nat.{◌%◌}
use lib.ListN.{length}
use Rattle.std.specs.Slice.Iter.{chunks_exact_rest, chunks_exact_size}
use Rattle.words.specs.Hex.{field_characters}
use Rattle.desk_lines.specs.Lines.{are_fields}
use Rattle.desk_lines.proofs.line.are_fields.Given as goal

abbrev pub invariant-loop-field : goal.invariant-loop-field
invariant-loop-field l = (chunks_exact_size l.field-iterator ≡ field_characters)
    × (length (chunks_exact_rest l.field-iterator) % field_characters ≡ length l.rest % field_characters)
    × (are_fields (chunks_exact_rest l.field-iterator) ≡ are_fields l.rest)
