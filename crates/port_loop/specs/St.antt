-- ST's dialect of the protocol: what the host tools for ST's boards expect of two replies.
use Rattle.std.specs.Prelude.{ℕ, ◌-◌, List, eqb, get_or, set}
use Rattle.std.specs.Prelude.{if◌then◌else◌}
use Rattle.command.specs.Commands.{code}
use Rattle.command.specs.declared.Command.TheVariants.{GetCommands, GetDeviceId}

-- where the count stands in what Get Commands is answered, and the product's first two bytes in what Get Device ID is
abbrev pub count_at : ℕ
count_at = 1

abbrev pub high_at : ℕ
high_at = 2

abbrev pub low_at : ℕ
low_at = 3

-- an ST board with as much flash, in pages as large as the sectors
abbrev pub product_high : ℕ
product_high = 0x04

abbrev pub product_low : ℕ
product_low = 0x12

-- what a command is answered in ST's dialect: the count is one less, the product is ST's, and all else is as it was; a NACK has no such places
unfoldable pub in_st : ℕ → List ℕ → List ℕ
in_st command reply =
    if eqb command (code GetCommands) then set reply count_at (get_or reply count_at 0 - 1)
    else if eqb command (code GetDeviceId) then set (set reply high_at product_high) low_at product_low
    else reply
