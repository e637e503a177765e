-- The values from outside, computed bit by bit.
use mathlib.Core.Path.{refl}
use Rattle.crc.specs.Crc.{shifted, fed}
use Rattle.word_crc.specs.Words.{OutsideValues}

pub outside_values : OutsideValues
unfolding shifted fed
outside_values = (refl, refl)
