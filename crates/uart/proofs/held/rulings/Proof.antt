-- Each decision is computed.
use mathlib.Core.Path.{refl}
use Rattle.board.specs.Regions.{regions, place_of}
use Rattle.board.specs.View.{view_of, write_protected}
use Rattle.command.specs.Decision.{if◌gives◌else◌, judged}
use Rattle.rules.specs.Rules as Q
use Rattle.rules.specs.Rulings.{Ruled}
use Rattle.uart.specs.Conversation as C
use Rattle.uart.specs.Rulings.{rulings, Rulings}
use Rattle.uart.proofs.held.rulings.Statement.{statement}
use Rattle.uart.proofs.held.rulings.Tie as tie

decided : Ruled rulings
unfolding regions place_of view_of write_protected if◌gives◌else◌ judged Q.unless_protected Q.read_at Q.reading Q.write_verdict_at Q.write_verdict Q.write_at Q.writing Q.selector_of Q.erase_verdict Q.erasing Q.erase_all_verdict Q.protect_verdict Q.protecting Q.jumping Q.sum_at Q.summing C.obeyed C.commanded C.addressed C.kept_if C.selected C.complete C.heard
decided = refl

ruled : Rulings
ruled = record { ruled = decided; commands_told = refl }

pub rulings_spec : {M : Type 1} → statement M
rulings_spec = tie.close (tie.spec (λ c. ruled))
