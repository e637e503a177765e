-- Each turn adds the bytes of one bit more.
use native.Mathlib.Omega.{arith}
use mathlib.Core.Path.{◌≡◌}
use lib.ListN.{length-set}
use Rattle.word_crc.proofs.Entries.{no_bit, bit_more, all_bits, bit_fits}
use Rattle.word_crc.proofs.tables.fill.Goals as goal

pub loop-init : goal.loop-init
loop-init c = no_bit c.args.at c.args.first c.args.tables.now (omega arith)

pub double-requires : goal.double-requires
double-requires c =
    omega (
      arith,
      length-set c.args.tables.now c.args.at 0,
      c.loop.invariant.size,
      c.loop.invariant.power,
      bit_fits c.loop.counter (omega arith),
    )

pub overflow_add-n : goal.overflow_add-n
overflow_add-n c = omega (arith, c.loop.invariant.power, bit_fits c.loop.counter (omega arith))

pub loop-preserved : goal.loop-preserved
loop-preserved c =
    rw c.shift-bit.ensures (bit_more c.args.at c.args.first c.loop.counter _ _ _ _ _ (omega arith) c.loop.invariant c.double.ensures)

pub returns : goal.returns
returns c =
    let e : c.loop.counter ≡ 8 = omega arith in
    all_bits _ _ _ _ _ _ (rw e at c.loop.invariant)
