-- Before each turn the number is that of the address bytes passed.
use Rattle.std.proofs.Common.{◌≡◌, ◌<◌, ◌^◌}
use Rattle.words.specs.Bytes.{number}
use Rattle.words.specs.Lists.{part}
use Rattle.records.specs.Digits.{bytes_in}
use Rattle.records.proofs.reading.address.Given as goal

abbrev pub invariant-loop-i : goal.invariant-loop-i
invariant-loop-i l = (l.number ≡ number (part 1 l.i (bytes_in l.rest))) × (l.number < 256 ^ l.i)
