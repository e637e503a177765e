-- Each turn lays one entry more.
use native.Mathlib.Omega.{arith}
use mathlib.Core.Path.{refl}
use Rattle.word_crc.proofs.Entries.{one_more}
use Rattle.word_crc.proofs.tables.double.Goals as goal

pub loop-i-init : goal.loop-i-init
loop-i-init c = record { size = refl; before = λ j h. refl; behind = λ j h. absurd (omega arith) }

pub loop-i-preserved : goal.loop-i-preserved
loop-i-preserved c =
    one_more c.args.at c.args.n c.loop-i.i c.args.bit c.args.tables.now c.loop-i.tables (omega arith) (omega (arith, c.loop-i.invariant.size)) c.loop-i.invariant
