-- What ST's dialect changes, in bytes.
use Rattle.std.specs.Prelude.{◌≡◌}
use Rattle.words.specs.Hex.{hex}
use Rattle.port_loop.specs.St.{in_st}

pub record StSays : Type 0 where
  pub commands : in_st 0x00 (hex "79 0E 20 00 01 02 11 21 31 44 63 73 82 92 AC D4 79") ≡ hex "79 0D 20 00 01 02 11 21 31 44 63 73 82 92 AC D4 79"
  pub device : in_st 0x02 (hex "79 04 56 78 12 34 5A 79") ≡ hex "79 04 04 12 12 34 5A 79"
  -- other replies stay: a NACK, and what any other command is answered
  pub nacked : in_st 0x00 (hex "1F") ≡ hex "1F"
  pub unknown : in_st 0x02 (hex "1F") ≡ hex "1F"
  pub version : in_st 0x01 (hex "79 20 01 07 79") ≡ hex "79 20 01 07 79"
