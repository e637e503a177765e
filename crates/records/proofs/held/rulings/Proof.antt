-- Each ruling is computed.
use mathlib.Core.Path.{refl}
use Rattle.records.specs.Ends.{lines_of}
use Rattle.records.specs.Records.{is_good}
use Rattle.records.specs.Rulings.{Lines, Digits, Ends}
use Rattle.records.proofs.held.rulings.Statement.{statement}
use Rattle.records.proofs.held.rulings.Tie as tie

lines : Lines
unfolding is_good
lines = record {
  two = refl;
  three = refl;
  four = refl;
  header = refl;
  number = refl;
  seven = refl;
  eight = refl;
  nine = refl;
  mixed = refl;
  wrong = refl;
  bare = refl;
  few = refl;
  longest = refl;
  longest_length = refl;
  bad = refl;
  strange = refl;
  returned = refl;
}

digits : Digits
unfolding is_good
digits = record { given = refl; bytes = refl; header = refl; wrong = refl; none = refl }

ends : Ends
unfolding lines_of
ends = record { feeds = refl; returns = refl; unended = refl; alone = refl; twice = refl; last = refl; empties = refl; nothing = refl }

pub rulings_spec : {M : Type 1} → statement M
rulings_spec = tie.close (tie.spec (λ c. record { lines = lines; digits = digits; ends = ends }))
