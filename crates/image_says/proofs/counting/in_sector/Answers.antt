-- The sector's bytes are those of its part of the marks.
use Rattle.std.proofs.Common.{◌≡◌, ◌+◌, ◌-◌, arith}
use Rattle.image_says.proofs.counting.in_sector.Goals as goal

pub returns : goal.returns
returns c =
    let k : c.bytes_in-first.result + 1024 - c.bytes_in-first.result ≡ 1024 = omega arith in
    rw (k, c.bytes_in-first.ensures) at c.any_touched.ensures
