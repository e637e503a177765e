-- Each step gives its first reason, and each byte of a command is counted.
use Rattle.theorems.proofs.Reasons.{reasons_and_places}
use Rattle.theorems.proofs.reasons_and_places.Statement.{statement}
use Rattle.theorems.proofs.reasons_and_places.Tie as tie

pub reasons_and_places_spec : {M : Type 1} → statement M
reasons_and_places_spec = tie.close (tie.spec (λ c. reasons_and_places))
