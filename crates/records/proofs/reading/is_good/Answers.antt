-- Each test is one of the definition's, in its order.
use Rattle.std.proofs.Common.{refl}
use Rattle.words.proofs.Slices.{to_the_end}
use Rattle.records.specs.Records.{is_good}
use Rattle.records.proofs.Good.{good_short}
use Rattle.records.proofs.reading.is_good.Goals as goal

pub returns-then-n-lt-COUNTED_FROM : goal.returns-then-n-lt-COUNTED_FROM
returns-then-n-lt-COUNTED_FROM c = good_short c.args.line.now c.if-n-lt-COUNTED_FROM.true

pub returns-then-not-shaped : goal.returns-then-not-shaped
unfolding is_good
returns-then-not-shaped c = rw (← to_the_end 2 c.args.line.now, ← c.are_pairs.ensures, c.if-not-shaped.true) refl

pub returns : goal.returns
unfolding is_good
returns c =
    let l = c.args.line.now in
    rw (
      c.fits_kind.ensures,
      c.kind_by.ensures,
      c.address_bytes.ensures.0,
      c.from-count.ensures,
      c.byte_at.ensures.0,
      to_the_end 2 l,
      ← to_the_end 2 l,
      ← c.are_pairs.ensures,
      c.if-not-shaped.false,
    ) refl
