-- Where a line's data go: document 02, Wish 1, the load shift and flash.
use Rattle.std.specs.Prelude.{ℕ, Bool, true, false, ◌&&◌, List, ltb, ℤ, pos, negsuc, ◌+ℤ◌}
use Rattle.std.specs.Prelude.{if◌then◌else◌, Option, Some, None, Result, Ok, Err}
use Rattle.board.specs.Board.{address, flash}
use Rattle.board.specs.Quantities.{offset_in}
use Rattle.board.specs.Regions.{holds}
use Rattle.records.specs.Digits.{bytes_in}
use Rattle.records.specs.Records.{data_part}
use Rattle.records.specs.declared.Kind.{Kind}
use Rattle.records.specs.declared.Kind.TheVariants.{Header, Data, Count, End}
use Rattle.records.specs.declared.Line.{Line}
use Rattle.loading.specs.declared.Cause.{Cause}
use Rattle.loading.specs.declared.Cause.TheVariants.{OutsideFlash}

-- S1, S2, S3 carry data that are loaded
abbrev pub is_data : Kind → Bool
is_data Data = true
is_data Header = false
is_data Count = false
is_data End = false

-- the bytes that a line's data write
unfoldable pub data_of : List ℕ → List ℕ
data_of l = bytes_in (data_part l)

-- how many data bytes a line says that it has; a bad line has none
abbrev pub bytes : Option Line → ℕ
bytes None = 0
bytes (Some x) = x.bytes

-- the offset in flash at which n bytes from an address all lie there, if they do; no address below 0 does
abbrev pub place_at : ℤ → ℕ → Option ℕ
place_at (pos a) n = if holds flash (address a) n then Some (offset_in flash (address a)) else None
place_at (negsuc a) n = None

-- a place in flash, or else the address is outside
abbrev pub in_flash : Option ℕ → Result (Option ℕ) Cause
in_flash (Some at) = Ok (Some at)
in_flash None = Err OutsideFlash

-- where a line's data go, with the shift added to its address, an unbounded sum; a record without data touches no byte, nor does a bad line
unfoldable pub place_of : ℤ → Option Line → Result (Option ℕ) Cause
place_of shift None = Ok None
place_of shift (Some x) = if is_data x.kind && ltb 0 x.bytes then in_flash (place_at (pos x.address +ℤ shift) x.bytes) else Ok None
