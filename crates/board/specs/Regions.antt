-- Where bytes lie: document 01, "Valid range", and the addresses of Jump and CRC.
use Rattle.std.specs.Prelude.{ℕ, ◌+◌, ◌-◌, Bool, true, false, ◌&&◌, List, [], ◌∷◌, leb, Option, Some, None, is_some, option_map, find}
use Rattle.board.specs.Board.{extent_of}
use Rattle.board.specs.Quantities.{offset_in, sector_at, is_start, sectors_from}
use Rattle.board.specs.declared.Address.{Address}
use Rattle.board.specs.declared.Extent.{Extent}
use Rattle.board.specs.declared.Place.{Place}
use Rattle.board.specs.declared.Region.{Region}
use Rattle.board.specs.declared.Region.TheVariants.{Flash, Sram, Usd}
use Rattle.board.specs.declared.Sector.{Sector}

-- x bytes from an address all lie in an extent
abbrev pub holds : Extent → Address → ℕ → Bool
holds e a x = leb e.first.0 a.0 && leb (a.0 + x) (e.first.0 + e.bytes)

-- the regions of the board
unfoldable pub regions : List Region
regions = Flash ∷ Sram ∷ Usd ∷ []

-- the place of an address in a region
abbrev pub place_in : Address → Region → Place
place_in a r = record { region = r; at = offset_in (extent_of r) a }

-- the place from an offset on in a region
abbrev pub inside : Region → ℕ → Option Place
inside r at = Some (record { region = r; at = at })

-- the one region in which x bytes from an address all lie
abbrev pub region_of : Address → ℕ → Option Region
region_of a x = find (λ (r : Region). holds (extent_of r) a x) regions

-- this region, and the offset of the bytes in it
unfoldable pub place_of : Address → ℕ → Option Place
place_of a x = option_map (place_in a) (region_of a x)

-- a place is in some region
abbrev pub found : Option Place → Bool
found q = is_some q

-- an address is in some region
abbrev pub known : Address → Bool
known a = found (place_of a 1)

-- a region is flash or SRAM
abbrev pub runs : Region → Bool
runs Flash = true
runs Sram = true
runs Usd = false

-- a place is in flash or SRAM
abbrev pub runnable : Option Place → Bool
runnable (Some p) = runs p.region
runnable None = false

-- an address is in flash or SRAM, where a jump may go
abbrev pub jumpable : Address → Bool
jumpable a = runnable (place_of a 1)

-- a region is flash
abbrev pub is_flash : Region → Bool
is_flash Flash = true
is_flash Sram = false
is_flash Usd = false

-- a place is in flash and on a sector boundary
abbrev pub on_boundary : Option Place → Bool
on_boundary (Some p) = is_flash p.region && is_start p.at
on_boundary None = false

-- an address is a sector start in flash
abbrev pub sector_start : Address → Bool
sector_start a = on_boundary (place_of a 1)

-- the sectors that x bytes of flash from an offset touch
abbrev pub touched : ℕ → ℕ → List Sector
touched at x = sectors_from (sector_at at) ((sector_at (at + x - 1)).0 - (sector_at at).0 + 1)
