-- Each turn joins one byte more with the old one.
use native.Mathlib.Omega.{arith}
use mathlib.Core.Path.{sym}
use Rattle.std.specs.Int.Bits.{bit_and}
use Rattle.words.proofs.Over.{over_none, over_more}
use Rattle.words.proofs.lay_by_and.Goals as goal

pub loop-i-init : goal.loop-i-init
loop-i-init c = sym (over_none bit_and c.args.memory.now c.args.at)

pub loop-i-preserved : goal.loop-i-preserved
loop-i-preserved c =
    rw c.loop-i.invariant (over_more bit_and c.args.memory.now c.args.at c.args.bytes.now c.loop-i.i (omega arith) (omega arith))
