-- Each decision is computed.
use mathlib.Core.Path.{refl}
use Rattle.board.specs.Regions.{regions, place_of}
use Rattle.board.specs.View.{view_of, write_protected}
use Rattle.command.specs.Decision.{if◌gives◌else◌, judged}
use Rattle.rules.specs.Rules.{unless_protected, read_at, reading, write_verdict_at, write_verdict, write_at, writing, erase_verdict, erasing}
use Rattle.rules.specs.Rules.{erase_all_verdict, protect_verdict, protecting, jumping, sum_at, summing}
use Rattle.rules.specs.Rulings.{Ruled, rulings}
use Rattle.rules.proofs.held.rulings.Statement.{statement}
use Rattle.rules.proofs.held.rulings.Tie as tie

ruled : Ruled rulings
unfolding regions place_of view_of write_protected if◌gives◌else◌ judged unless_protected read_at reading write_verdict_at write_verdict write_at writing erase_verdict erasing erase_all_verdict protect_verdict protecting jumping sum_at summing
ruled = refl

pub rulings_spec : {M : Type 1} → statement M
rulings_spec = tie.close (tie.spec (λ c. ruled))
