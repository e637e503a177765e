-- The register and the bytes that are left give the whole checksum.
use Rattle.std.proofs.Common.{◌≡◌, ◌<◌}
use Prim.Native.Nat.{◌^◌}
use Rattle.crc.specs.Crc.{crc_from}
use Rattle.word_crc.specs.Words.{fours_reversed, word_crc}
use Rattle.word_crc.proofs.Words.{Left}
use Rattle.word_crc.proofs.crc.Given as goal

abbrev pub invariant-loop-pair : goal.invariant-loop-pair
invariant-loop-pair l =
    (l.register < 2 ^ 32)
    × (l.pair-iterator.size ≡ 8)
    × Left l.bytes l.pair-iterator.rest.now
    × (crc_from l.register (fours_reversed l.pair-iterator.rest.now) ≡ word_crc l.bytes)
