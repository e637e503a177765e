-- A sector number, a byte address and a count sent as one less: separate quantities, converted in this crate alone.
use Rattle.std.specs.Prelude.{ℕ, ◌+◌, ◌-◌, ◌*◌, ◌/◌, ◌%◌, Bool, List, [], ◌∷◌, map, take, get_or, eqb, ltb}
use Rattle.words.specs.Bytes.{number}
use Rattle.words.specs.Lists.{any, count_from, pairs}
use Rattle.board.specs.Board.{address, sectors}
use Rattle.board.specs.declared.Address.{Address}
use Rattle.board.specs.declared.Extent.{Extent}
use Rattle.board.specs.declared.LessOne.{LessOne}
use Rattle.board.specs.declared.Sector.{Sector}

-- the count sent as this number
abbrev pub less_one : ℕ → LessOne
less_one n = record { 0 = n }

-- a count, of which one less was sent
abbrev pub count_of : LessOne → ℕ
count_of n = n.0 + 1

-- the largest count that one byte sends as one less, and the largest that two do
abbrev pub largest_count : ℕ
largest_count = 256

abbrev pub largest_long_count : ℕ
largest_long_count = 65536

-- what is sent for a count
abbrev pub one_less : ℕ → LessOne
one_less x = less_one (x - 1)

-- an address is sent in so many bytes, a sector number or a selector in so many, and a count that one byte cannot send
abbrev pub address_bytes : ℕ
address_bytes = 4

abbrev pub selector_bytes : ℕ
selector_bytes = 2

abbrev pub long_count_bytes : ℕ
long_count_bytes = 2

-- the address that bytes begin with, and the count that bytes send as one less
abbrev pub address_in : List ℕ → Address
address_in bytes = address (number (take address_bytes bytes))

abbrev pub count_sent : List ℕ → ℕ
count_sent bytes = count_of (less_one (number bytes))

-- the sector of this number
abbrev pub sector : ℕ → Sector
sector k = record { 0 = k }

-- the bytes of x whole sectors
abbrev pub bytes_in : ℕ → ℕ
bytes_in x = x * sectors.bytes

-- the offset of a sector's first byte in flash
abbrev pub start_of : Sector → ℕ
start_of k = bytes_in k.0

-- the sector in which a byte of flash lies
abbrev pub sector_at : ℕ → Sector
sector_at offset = sector (offset / sectors.bytes)

-- a byte of flash is the first of its sector
abbrev pub is_start : ℕ → Bool
is_start offset = eqb (offset % sectors.bytes) 0

-- the number of a sector that the board has: 0 to 31
abbrev pub is_sector : Sector → Bool
is_sector k = ltb k.0 sectors.count

-- a sector is among those named
abbrev pub named : List Sector → Sector → Bool
named ks k = any (λ (j : Sector). eqb j.0 k.0) ks

-- n sectors in order, from one on
abbrev pub sectors_from : Sector → ℕ → List Sector
sectors_from k n = map sector (count_from k.0 n)

-- every sector of the board
abbrev pub every_sector : List Sector
every_sector = sectors_from (sector 0) sectors.count

-- the sector whose one-byte index stands at a place, the sectors that a list of indexes names, and the first x of them
abbrev pub indexed_at : List ℕ → ℕ → Sector
indexed_at bytes at = sector (get_or bytes at 0)

abbrev pub indexed : List ℕ → List Sector
indexed bytes = map sector bytes

abbrev pub first_indexed : ℕ → List ℕ → List Sector
first_indexed x bytes = indexed (take x bytes)

-- the bytes of x sector numbers
abbrev pub numbers_bytes : ℕ → ℕ
numbers_bytes x = selector_bytes * x

-- the sector whose two-byte number stands at a place, the sectors that a list of numbers names, and the first x of them
abbrev pub numbered_at : List ℕ → ℕ → Sector
numbered_at bytes at = sector (number (get_or bytes at 0 ∷ get_or bytes (at + 1) 0 ∷ []))

abbrev pub numbered : List ℕ → List Sector
numbered bytes = map sector (pairs bytes)

abbrev pub first_numbered : ℕ → List ℕ → List Sector
first_numbered x bytes = numbered (take (numbers_bytes x) bytes)

-- how far an address lies behind a region's first one
abbrev pub offset_in : Extent → Address → ℕ
offset_in e a = a.0 - e.first.0
