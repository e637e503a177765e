-- As many bytes behind the head as the DLC says.
use native.Mathlib.Omega.{arith}
use mathlib.Core.Path.{◌≡◌, refl}
use Rattle.std.proofs.Common.{◌+◌, ◌-◌}
use Rattle.frames.specs.Frames.{frame_in}
use Rattle.frames.proofs.Frames.{carried_byte}
use Rattle.frames.proofs.carried.Goals as goal

pub returns : goal.returns
returns c =
    let e : 3 + c.dlc.result - 3 ≡ (frame_in c.args.frame.now).dlc = omega (arith, c.dlc.ensures) in
    rw e (refl, carried_byte c.args.frame.now (λ i. omega (arith, c.type_inv.frame i)))
