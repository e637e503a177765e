-- A byte and a frame find a sound session and memories of their lengths where they are accepted, and leave such ones.
use Rattle.boot.proofs.Firm.{leaves_firm}
use Rattle.boot.proofs.held.leaves_firm.Statement.{statement}
use Rattle.boot.proofs.held.leaves_firm.Tie as tie

pub leaves_firm_spec : {M : Type 1} → statement M
leaves_firm_spec = tie.close (tie.spec (λ c. leaves_firm))
