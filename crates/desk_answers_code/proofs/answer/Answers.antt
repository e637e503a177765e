-- A line that makes calls is answered by what it tells, and another by its number.
use native.Mathlib.Omega.{arith}
use mathlib.Core.Path.{refl}
use Rattle.memories.specs.Lent.{holds}
use Rattle.boot.specs.Promise.{state_of}
use Rattle.desk_answers.specs.Answers.{answer, answer_by}
use Rattle.desk_answers.proofs.Telling.{obeyed_by, few_characters}
use Rattle.desk_answers_code.proofs.answer.Goals as goal

pub obey-requires : goal.obey-requires
obey-requires c = record {
  kind_value = c.kind-kind.ensures;
  line_len_bound = few_characters c.kind-kind.result c.args.line.now c.kind-kind.ensures c.in_default.not-Other;
  line_in_bounds = omega arith;
}

pub returns-in-Other : goal.returns-in-Other
unfolding answer answer_by
returns-in-Other c = record {
  told = rw (← c.kind-kind.ensures, c.in-Other.is) (record { end = c.disobey.ensures.end; text = c.disobey.ensures.text; state = refl });
  fits = omega (arith, c.disobey.ensures.fits);
  same = record { flash = refl; sram = refl; usd = refl };
}

pub returns-in_default : goal.returns-in_default
unfolding answer
returns-in_default c = record {
  told = rw (
    ← c.kind-kind.ensures,
    obeyed_by c.args.why c.kind-kind.result c.args.number c.args.line.now
        (state_of c.args.session (holds c.args.lent.now)) c.in_default.not-Other,
  ) c.obey.ensures.told;
  fits = c.obey.ensures.fits;
  same = c.obey.ensures.same;
}
