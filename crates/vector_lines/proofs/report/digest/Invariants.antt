-- Both sums stay below the modulus.
use Rattle.std.proofs.Common.{◌<◌}
use Rattle.vector_lines.proofs.report.digest.Given as goal

abbrev pub invariant-loop-byte : goal.invariant-loop-byte
invariant-loop-byte l = (l.low < 65521) × (l.high < 65521)
