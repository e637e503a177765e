-- By the first character.
use Rattle.std.proofs.Common.{◌≡◌, None, sym, ◌∙◌, rules}
use Rattle.words.proofs.Slices.{to_the_end}
use Rattle.image_files.specs.Arguments.{shift_in}
use Rattle.image_files.proofs.arguments.shift.Goals as goal

pub returns-in_err-number : goal.returns-in_err-number
unfolding shift_in
returns-in_err-number c =
    let e : c.from_residual.result ≡ None = search rules in
    rw (sym c.is_negative-minus.ensures.minus ∙ c.if-minus.true, ← to_the_end 1 c.args.text.now, ← c.number.ensures, c.in_err-number.was) e

pub returns-in_err-number-2 : goal.returns-in_err-number-2
unfolding shift_in
returns-in_err-number-2 c =
    let e : c.from_residual-in_err-number-2.result ≡ None = search rules in
    rw (sym c.is_negative-minus.ensures.minus ∙ c.if-minus.false, ← c.number-else-minus.ensures, c.in_err-number-2.was) e

pub returns-in_ok-number : goal.returns-in_ok-number
unfolding shift_in
returns-in_ok-number c =
    rw (sym c.is_negative-minus.ensures.minus ∙ c.if-minus.true, ← to_the_end 1 c.args.text.now, ← c.number.ensures, c.in_ok-number.was) c.shift_by.ensures

pub returns-in_ok-number-2 : goal.returns-in_ok-number-2
unfolding shift_in
returns-in_ok-number-2 c =
    rw (sym c.is_negative-minus.ensures.minus ∙ c.if-minus.false, ← c.number-else-minus.ensures, c.in_ok-number-2.was) c.shift_by-else-minus.ensures
