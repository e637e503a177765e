-- The public check value, computed bit by bit.
use mathlib.Core.Path.{refl}
use Rattle.crc.specs.Crc.{shifted, fed, CheckValue}

pub check_value : CheckValue
unfolding shifted fed
check_value = refl
