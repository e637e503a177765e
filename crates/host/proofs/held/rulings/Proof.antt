-- By computing.
use mathlib.Core.Path.{refl}
use Rattle.host.specs.Refusals.{range_refusal, write_refusal}
use Rattle.host.specs.Rulings.{Rulings}
use Rattle.host.proofs.held.rulings.Statement.{statement}
use Rattle.host.proofs.held.rulings.Tie as tie

ruled : Rulings
unfolding range_refusal write_refusal
ruled = record {
  first_byte = refl;
  across_sectors = refl;
  last_byte = refl;
  four_read = refl;
  two_erased = refl;
  touching = refl;
  within = refl;
  done = refl;
  erased = refl;
  read = refl;
  cut_at256 = refl;
  cut_behind256 = refl;
  no_write = refl;
  no_read = refl;
  no_erase = refl;
  read_twice = refl;
  accepted = refl;
  refused = refl;
  range_refused = refl;
}

pub rulings_spec : {M : Type 1} → statement M
rulings_spec = tie.close (tie.spec (λ c. ruled))
