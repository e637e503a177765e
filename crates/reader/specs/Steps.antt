-- What a reader finds at its place: document 02, Wish 1, "Read a lent text line by line".
use Rattle.std.specs.Prelude.{ℕ, ◌+◌, List, [], ltb, length, drop, Option, Some, None}
use Rattle.std.specs.Prelude.{if◌then◌else◌}
use Rattle.words.specs.Lists.{part}
use Rattle.records.specs.Ends.{stop_in, next_in}
use Rattle.records.specs.Records.{line_of, data_part}
use Rattle.reader.specs.declared.Found.{Found}

-- the line that begins at a place of a text: what it says, where it stops and where the next one begins; none where none begins there
abbrev pub step_at : List ℕ → ℕ → Option Found
step_at text at =
    if ltb at (length text)
    then Some record { line = line_of (part at (stop_in (drop at text)) text); stop = at + stop_in (drop at text); next = at + next_in (drop at text) }
    else None

-- the hex digits of that line's data; none at the end
abbrev pub data_from : List ℕ → ℕ → List ℕ
data_from text at = if ltb at (length text) then data_part (part at (stop_in (drop at text)) text) else []
