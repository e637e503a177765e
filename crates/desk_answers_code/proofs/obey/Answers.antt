-- The replies are printed between `>` and LF, and behind them the notes are explained.
use native.Mathlib.Omega.{arith}
use mathlib.Core.Path.{sym, ◌∙◌}
use lib.ListN.{length-set}
use lib.Seq.{length-take-le}
use Rattle.memories.specs.Lent.{holds}
use Rattle.boot.specs.Promise.{state_of}
use Rattle.desk_answers.specs.Answers as A
use Rattle.desk_answers.specs.Answers.{calls_of}
use Rattle.desk_answers.proofs.Telling.{obeyed_told}
use Rattle.desk_answers_code.proofs.Explaining.{front_noted}
use Rattle.desk_answers_code.proofs.obey.Goals as goal

pub tell_line-told-requires : goal.tell_line-told-requires
tell_line-told-requires c = record {
  kind_value = (c.requires.kind_value, c.requires.line_len_bound);
  line_in_bounds = simp length-set (omega (arith, c.requires.line_in_bounds));
  line_in_bounds_2 = omega (arith, c.requires.line_len_bound);
}

pub bounds-out-told : goal.bounds-out-told
bounds-out-told c =
    let k = c.tell_line-told.auto.out ∙ length-set c.args.out.now c.args.at 62 in
    omega (arith, c.tell_line-told.ensures.fits.0, k)

pub slice_bounds-explain_all-end : goal.slice_bounds-explain_all-end
slice_bounds-explain_all-end c =
    sym (length-take-le c.tell_line-told.result.noted c.tell_line-told.new.notes
    (omega (arith, c.tell_line-told.ensures.fits.1, c.tell_line-told.auto.notes, c.requires.line_len_bound)))

pub overflow_add-told : goal.overflow_add-told
overflow_add-told c = omega (arith, c.tell_line-told.ensures.fits.0, c.requires.line_in_bounds)

pub explain_all-requires : goal.explain_all-requires
explain_all-requires c =
    let k = c.tell_line-told.auto.out ∙ length-set c.args.out.now c.args.at 62 in
    let j = length-set c.tell_line-told.new.out c.tell_line-told.result.end 10 in
    let l =
    length-take-le c.tell_line-told.result.noted c.tell_line-told.new.notes
    (omega (arith, c.tell_line-told.ensures.fits.1, c.tell_line-told.auto.notes, c.requires.line_len_bound)) in
    omega (arith, c.tell_line-told.ensures.fits.0, c.tell_line-told.ensures.fits.1, c.requires.line_in_bounds)

pub shape_of-out : goal.shape_of-out
shape_of-out c =
    c.explain_all.auto.out ∙ length-set c.tell_line-told.new.out c.tell_line-told.result.end 10
    ∙ c.tell_line-told.auto.out ∙ length-set c.args.out.now c.args.at 62

pub returns : goal.returns
returns c =
    let made = c.tell_line-told in
    let is = calls_of c.args.kind c.args.line.now in
    let p = state_of c.args.session (holds c.args.lent.now) in
    let q = state_of made.result.session (holds made.new.lent) in
    let l =
    length-take-le made.result.noted made.new.notes
    (omega (arith, made.ensures.fits.1, made.auto.notes, c.requires.line_len_bound)) in
    record {
      told = obeyed_told c.args.why is p q c.args.at made.result.end c.explain_all.result
          c.args.out.now made.new.out c.explain_all.new.out made.ensures.told
          (rw (front_noted (A.notes is p) made.ensures.noted (omega (arith, made.ensures.fits.1, c.requires.line_len_bound))) at
          c.explain_all.ensures.added);
      fits = omega (arith, made.ensures.fits.0, made.ensures.fits.1, c.explain_all.ensures.short);
      same = made.ensures.same;
    }
