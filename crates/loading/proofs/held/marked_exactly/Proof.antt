-- Nothing is marked at first, and each line marks what it touches and nothing else.
use mathlib.Core.Bool.{false}
use mathlib.Core.List.{[]}
use Rattle.loading.specs.Loads.{untouched}
use Rattle.loading.specs.Says.{MarkedExactly}
use Rattle.loading.proofs.Marks.{kept_none, kept_all}
use Rattle.loading.proofs.held.marked_exactly.Statement.{statement}
use Rattle.loading.proofs.held.marked_exactly.Tie as tie

marked-exactly : MarkedExactly
marked-exactly shift ls j =
    let w = kept_all shift ls [] false untouched (kept_none shift) in
    (w.earlier j, λ t. w.marks t.line t.among j t.touched)

pub marked_exactly_spec : {M : Type 1} → statement M
marked_exactly_spec = tie.close (tie.spec (λ c. marked-exactly))
