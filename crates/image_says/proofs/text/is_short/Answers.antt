-- Behind the last line there is none of the number.
use Rattle.std.proofs.Common.{arith, ap}
use Rattle.loading.proofs.Turns.{no_line}
use Rattle.image_says.specs.Messages.{is_short}
use Rattle.image_says.proofs.text.is_short.Goals as goal

pub returns : goal.returns
returns c = ap is_short (rw (no_line c.args.text.now c.loop-at.at (omega arith)) at c.loop-at.invariant.1)
