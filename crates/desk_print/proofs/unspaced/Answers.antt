-- Each turn prints one byte more, two characters further on.
use native.Mathlib.Omega.{arith}
use mathlib.Core.Path.{ap, sym, ◌∙◌}
use lib.ListN.{length}
use Rattle.words.specs.Over.{newer}
use Rattle.words.proofs.Over.{over_none}
use Rattle.desk_print.proofs.Printing.{unspaced_more}
use Rattle.desk_print.proofs.unspaced.Goals as goal

pub loop-b-init : goal.loop-b-init
loop-b-init c = (omega arith, sym (over_none newer _ _))

pub loop-b-preserved : goal.loop-b-preserved
loop-b-preserved c = (
  omega (arith, c.add-end.ensures.ends, ap length c.digits.ensures, c.loop-b.invariant.0),
  c.add-end.ensures.written ∙ rw (c.digits.ensures, c.loop-b.invariant.1) (unspaced_more c.args.out.now c.args.at c.args.bytes.now c.loop-b.b-index
      c.loop-b.end (omega arith) c.loop-b.invariant.0),
)
