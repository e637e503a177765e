-- The byte goes in at the high end.
use native.Mathlib.Omega.{arith}
use Rattle.std.proofs.Common.{◌≡◌, ◌*◌, ◌%◌, ◌^◌}
use Rattle.crc.specs.Crc.{fed}
use Rattle.crc.proofs.take.Goals as goal

pub returns : goal.returns
unfolding fed
returns c = let e : c.args.byte * 16777216 % 2 ^ 32 ≡ c.args.byte * 16777216 = omega arith in cc
