-- Mark, reason, place, words and the line's end stand one behind the other.
use native.Mathlib.Omega.{arith}
use Rattle.desk_print.proofs.Adding.{then}
use Rattle.desk_answers_code.proofs.Explaining.{numbered}
use Rattle.desk_answers_code.proofs.why.explain.Goals as goal

pub returns : goal.returns
returns c = record {
  added = then (then (then (then (then (then c.add-end.ensures (numbered c.from.ensures c.number-end.ensures))
      c.add-end-2.ensures) (numbered c.from-2.ensures c.number-end-2.ensures))
      c.add-end-3.ensures) c.words-end.ensures.added) c.add.ensures;
  short = omega (
    arith,
    c.add-end.ensures.ends,
    c.number-end.ensures.1,
    c.add-end-2.ensures.ends,
    c.number-end-2.ensures.1,
    c.add-end-3.ensures.ends,
    c.words-end.ensures.short,
    c.add.ensures.ends,
  );
}
