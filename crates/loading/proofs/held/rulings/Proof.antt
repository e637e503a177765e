-- Each ruling is computed.
use mathlib.Core.Path.{refl}
use Rattle.records.specs.Ends.{lines_of}
use Rattle.records.specs.Records.{is_good}
use Rattle.loading.specs.Places.{data_of, place_of}
use Rattle.loading.specs.Loads.{untouched, verdict_of, touched_by, loaded_by, answer_to, image_after}
use Rattle.loading.specs.Rulings.{Rulings}
use Rattle.loading.proofs.held.rulings.Statement.{statement}
use Rattle.loading.proofs.held.rulings.Tie as tie

ruled : Rulings
unfolding lines_of is_good data_of place_of untouched verdict_of touched_by loaded_by answer_to image_after
ruled = record {
  compiler = refl;
  empty = refl;
  unended = refl;
  short = refl;
  long = refl;
  two = refl;
  three = refl;
  bare = refl;
  first = refl;
  last = refl;
  before = refl;
  behind = refl;
  above = refl;
  below = refl;
  touching = refl;
  sharing = refl;
  equal = refl;
  earlier = refl;
  over = refl;
  order = refl;
  header = refl;
  outside = refl;
  ending = refl;
  after = refl;
  second = refl;
  blank = refl;
  faulty = refl;
  stored = refl;
  kept = refl;
}

pub rulings_spec : {M : Type 1} → statement M
rulings_spec = tie.close (tie.spec (λ c. ruled))
