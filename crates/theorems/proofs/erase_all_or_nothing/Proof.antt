-- An erase is done whole or not at all.
use Rattle.theorems.proofs.Erase.{erase_all_or_nothing}
use Rattle.theorems.proofs.erase_all_or_nothing.Statement.{statement}
use Rattle.theorems.proofs.erase_all_or_nothing.Tie as tie

pub erase_all_or_nothing_spec : {M : Type 1} → statement M
erase_all_or_nothing_spec = tie.close (tie.spec (λ c. erase_all_or_nothing))
