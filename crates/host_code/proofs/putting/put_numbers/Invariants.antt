-- Before each turn the numbers of the sectors so far are put.
use Rattle.std.proofs.Common.{◌≡◌}
use Rattle.words.specs.Over.{put}
use Rattle.board.specs.Quantities.{sector, sectors_from}
use Rattle.host.specs.Commands.{numbers_of}
use Rattle.host_code.proofs.putting.put_numbers.Given as goal

abbrev pub invariant-loop-i : goal.invariant-loop-i
invariant-loop-i l = l.room ≡ put l.fn.room 4 (numbers_of (sectors_from (sector l.first) l.i))
