-- Each ruling is computed.
use mathlib.Core.Path.{refl}
use Rattle.records.specs.Ends.{stop_in, next_in}
use Rattle.records.specs.Records.{is_good}
use Rattle.reader.specs.Rulings.{Rulings}
use Rattle.reader.proofs.held.rulings.Statement.{statement}
use Rattle.reader.proofs.held.rulings.Tie as tie

ruled : Rulings
unfolding stop_in next_in is_good
ruled = record {
  first = refl;
  digits = refl;
  second = refl;
  third = refl;
  none = refl;
  over = refl;
  nothing = refl;
}

pub rulings_spec : {M : Type 1} → statement M
rulings_spec = tie.close (tie.spec (λ c. ruled))
