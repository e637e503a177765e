-- Before each turn the sectors that are left give the same answer as all of them.
use Rattle.std.proofs.Common.{◌≡◌, ◌-◌}
use Rattle.words.specs.Lists.{any}
use Rattle.board.specs.Quantities.{sector, sectors_from}
use Rattle.board.specs.View.{write_protected}
use Rattle.board.proofs.View.any_write_protected.Given as goal

abbrev pub invariant-loop-k : goal.invariant-loop-k
invariant-loop-k l =
    any (write_protected l.self) (sectors_from (sector l.k) (l.k-end - l.k)) ≡ any (write_protected l.self) (sectors_from l.fn.first l.n)
