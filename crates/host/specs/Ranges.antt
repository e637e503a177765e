-- The commands for a range of flash: document 02, Wish 5.
use Rattle.std.specs.Prelude.{ℕ, zero, suc, ◌+◌, ◌-◌, min, List, [], ◌∷◌, map, eqb}
use Rattle.std.specs.Prelude.{if◌then◌else◌}
use Rattle.words.specs.Lists.{part}
use Rattle.board.specs.Board.{flash}
use Rattle.board.specs.Quantities.{largest_count}
use Rattle.board.specs.Regions.{touched}
use Rattle.host.specs.Commands.{write_command, read_command, erase_command}

-- the address of a byte of flash
abbrev pub flash_address : ℕ → ℕ
flash_address offset = flash.first.0 + offset

-- ---- one command at a time

-- how many bytes of a range its first command carries: 256, but for a shorter last one
abbrev pub carries : ℕ → ℕ
carries count = min count largest_count

-- n bytes of an image are written from an offset on, and n bytes of flash are read
abbrev pub write_of : List ℕ → ℕ → ℕ → List ℕ
write_of image offset n = write_command (flash_address offset) (part offset n image)

abbrev pub read_of : ℕ → ℕ → List ℕ
read_of offset n = read_command (flash_address offset) n

-- the sectors that a range touches are erased
abbrev pub erase_of : ℕ → ℕ → List ℕ
erase_of offset count = erase_command (touched offset count)

-- an empty range makes no command
abbrev pub unless_empty : ℕ → List ℕ → List ℕ
unless_empty count command = if eqb count 0 then [] else command

-- the first write of a range, its first read, and its erase
abbrev pub first_write : List ℕ → ℕ → ℕ → List ℕ
first_write image offset count = unless_empty count (write_of image offset (carries count))

abbrev pub first_read : ℕ → ℕ → List ℕ
first_read offset count = unless_empty count (read_of offset (carries count))

abbrev pub only_erase : ℕ → ℕ → List ℕ
only_erase offset count = unless_empty count (erase_of offset count)

-- ---- all of them

-- a range of flash: its offset and count
pub record Range : Type 0 where
  pub offset : ℕ
  pub count : ℕ

-- a range in pieces of 256 and a shorter last one, in address order; at most f of them
abbrev pub pieces_up_to : ℕ → ℕ → ℕ → List Range
pieces_up_to zero offset count = []
pieces_up_to (suc f) offset zero = []
pieces_up_to (suc f) offset (suc c) =
    let n = carries (suc c) in
    record { offset = offset; count = n } ∷ pieces_up_to f (offset + n) (suc c - n)

-- all pieces of a range, of which each has a byte
abbrev pub pieces : ℕ → ℕ → List Range
pieces offset count = pieces_up_to count offset count

-- the write commands of a range of an image, its read commands, and its erase command, if it is not empty
abbrev pub writes_of : List ℕ → ℕ → ℕ → List (List ℕ)
writes_of image offset count = map (λ (r : Range). write_of image r.offset r.count) (pieces offset count)

abbrev pub reads_of : ℕ → ℕ → List (List ℕ)
reads_of offset count = map (λ (r : Range). read_of r.offset r.count) (pieces offset count)

abbrev pub erases_of : ℕ → ℕ → List (List ℕ)
erases_of offset count = if eqb count 0 then [] else erase_of offset count ∷ []
