-- The mask tells whether the high bit is set; the shift drops it.
use native.Mathlib.Omega.{arith}
use Rattle.std.proofs.Common.{◌≡◌, ◌/◌, ◌%◌, ◌^◌}
use lib.Bits.{and_high}
use borrow.Author.Tests.{le-leb, lt-leb}
use Rattle.crc.specs.Crc.{shifted}
use Rattle.crc.proofs.shift.Goals as goal

pub returns-then-register-ne0 : goal.returns-then-register-ne0
unfolding shifted
returns-then-register-ne0 c = rw (le-leb (2 ^ 31) c.args.register (omega (arith, and_high c.args.register 1 31)))

pub returns-else-register-ne0 : goal.returns-else-register-ne0
unfolding shifted
returns-else-register-ne0 c =
    let z : c.args.register / 2 ^ 31 % 2 ≡ 0 = omega (arith, and_high c.args.register 1 31) in
    rw (lt-leb (2 ^ 31) c.args.register (omega arith))
