-- By the four answers that there are, and since what is first is only one.
use Rattle.loading.specs.Faults.{FirstFaulty}
use Rattle.loading.proofs.Outcomes.{first_decides}
use Rattle.loading.proofs.Answers.{short_other, other_short, line_first, endless_sound, sound_endless, no_line_cause, cause_no_line}
use Rattle.loading.proofs.held.first_faulty.Statement.{statement}
use Rattle.loading.proofs.held.first_faulty.Tie as tie

first-faulty : FirstFaulty
first-faulty shift text n = record {
  wrong_length = (short_other shift text n, other_short shift text n);
  named = line_first shift text n;
  decides = first_decides shift text n;
  no_end = (endless_sound shift text n, sound_endless shift text n);
  unnamed = λ r a. (no_line_cause shift text n r a, cause_no_line shift text n r a);
}

pub first_faulty_spec : {M : Type 1} → statement M
first_faulty_spec = tie.close (tie.spec (λ c. first-faulty))
