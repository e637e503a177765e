-- Both counts are the definition's.
use Rattle.std.proofs.Common.{refl}
use Rattle.image_says.specs.Tally.{tally_of}
use Rattle.image_says.proofs.counting.tally.Goals as goal

pub returns : goal.returns
unfolding tally_of
returns c = rw (c.bytes.ensures, c.sectors.ensures) refl
