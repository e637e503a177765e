-- Each turn lays one byte more.
use native.Mathlib.Omega.{arith}
use mathlib.Core.Path.{sym}
use Rattle.words.specs.Over.{newer}
use Rattle.words.proofs.Over.{over_none, over_more}
use Rattle.words.proofs.lay.Goals as goal

pub loop-i-init : goal.loop-i-init
loop-i-init c = sym (over_none newer c.args.memory.now c.args.at)

pub loop-i-preserved : goal.loop-i-preserved
loop-i-preserved c =
    rw c.loop-i.invariant (over_more newer c.args.memory.now c.args.at c.args.bytes.now c.loop-i.i (omega arith) (omega arith))
