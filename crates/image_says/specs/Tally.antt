-- How much a file loads, told by the marks of the bytes that it touches.
use Rattle.std.specs.Prelude.{ℕ, Bool, List, eqb, count_by}
use Rattle.words.specs.Lists.{any, count_from, part}
use Rattle.board.specs.Board.{sectors}
use Rattle.board.specs.Quantities.{bytes_in}
use Rattle.loading.specs.Loads.{mark}
use Rattle.image_says.specs.declared.Tally.{Tally}

-- some byte of a sector is marked
abbrev pub in_sector : List ℕ → ℕ → Bool
in_sector touched k = any (eqb mark) (part (bytes_in k) sectors.bytes touched)

-- how many bytes are marked, and in how many sectors
unfoldable pub tally_of : List ℕ → Tally
tally_of touched = record { bytes = count_by (eqb mark) touched; sectors = count_by (in_sector touched) (count_from 0 sectors.count) }
