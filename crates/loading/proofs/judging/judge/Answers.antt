-- Each test is one of the definition's, in its order; a place in flash has room for the data.
use Rattle.std.proofs.Common.{◌≡◌, ◌+◌, ◌-◌, Some, None, Ok, Err, sym, ◌∙◌, ap, arith, rules, w16}
use Rattle.std.proofs.lemmas.Int.{to_z-of_z}
use Rattle.std.specs.Result.{result_ok}
use Rattle.loading.specs.declared.Cause.TheVariants.{BadLine}
use Rattle.loading.proofs.Faults.{bad_line_verdict, behind_the_end, bad_checksum, by_place}
use Rattle.loading.proofs.Places.{room}
use Rattle.loading.proofs.judging.judge.Goals as goal

pub returns-then-ended : goal.returns-then-ended
returns-then-ended c = let a = c.args in behind_the_end a.shift a.ended a.touched.now a.read c.if-ended.true

pub returns-in_err-read : goal.returns-in_err-read
returns-in_err-read c =
    let a = c.args in
    let n : a.read ≡ None = grind arith in
    let e : c.from_residual.result ≡ Err BadLine = grind arith in
    rw n (e ∙ bad_line_verdict a.shift a.ended a.touched.now)

pub returns-then-not-right : goal.returns-then-not-right
returns-then-not-right c =
    let a = c.args in
    let said : a.read ≡ Some c.in_ok-read.read = c.ok_or.ensures.ok_part ∙ ap result_ok c.in_ok-read.was in
    rw said (bad_checksum a.shift a.ended a.touched.now c.in_ok-read.read c.if-ended.false c.if-not-right.true)

pub returns-in_err-at : goal.returns-in_err-at
returns-in_err-at c =
    let a = c.args in
    let said : a.read ≡ Some c.in_ok-read.read = c.ok_or.ensures.ok_part ∙ ap result_ok c.in_ok-read.was in
    let asked = rw (to_z-of_z w16 a.shift c.ranges.shift) at c.place.ensures in
    let p = by_place a.shift a.ended a.touched.now c.in_ok-read.read c.if-ended.false c.if-not-right.false c.place.result asked in
    let e : c.from_residual-in_err-at.result ≡ Err c.in_err-at.field-0.0 = search rules in
    e ∙ sym (rw (sym said, c.in_err-at.was) at p)

pub overflow_add-at : goal.overflow_add-at
overflow_add-at c =
    let e = rw (to_z-of_z w16 c.args.shift c.ranges.shift) at c.place.ensures in
    let r = room c.args.shift (Some c.in_ok-read.read) c.in-Some.at (sym e ∙ c.in_ok-at.was ∙ ap Ok c.in-Some.is) in
    omega arith

pub slice_bounds-any_touched-end : goal.slice_bounds-any_touched-end
slice_bounds-any_touched-end c =
    let e = rw (to_z-of_z w16 c.args.shift c.ranges.shift) at c.place.ensures in
    let r = room c.args.shift (Some c.in_ok-read.read) c.in-Some.at (sym e ∙ c.in_ok-at.was ∙ ap Ok c.in-Some.is) in
    omega arith

pub returns-then-over : goal.returns-then-over
returns-then-over c =
    let a = c.args in
    let said : a.read ≡ Some c.in_ok-read.read = c.ok_or.ensures.ok_part ∙ ap result_ok c.in_ok-read.was in
    let asked = rw (to_z-of_z w16 a.shift c.ranges.shift) at c.place.ensures in
    let p = by_place a.shift a.ended a.touched.now c.in_ok-read.read c.if-ended.false c.if-not-right.false c.place.result asked in
    let k : c.in-Some.at + c.in_ok-read.read.bytes - c.in-Some.at ≡ c.in_ok-read.read.bytes = omega arith in
    rw said (sym (rw (c.in_ok-at.was, c.in-Some.is, sym (rw k at c.any_touched-over.ensures) ∙ c.if-over.true) at p))

pub returns-else-over : goal.returns-else-over
returns-else-over c =
    let a = c.args in
    let said : a.read ≡ Some c.in_ok-read.read = c.ok_or.ensures.ok_part ∙ ap result_ok c.in_ok-read.was in
    let asked = rw (to_z-of_z w16 a.shift c.ranges.shift) at c.place.ensures in
    let p = by_place a.shift a.ended a.touched.now c.in_ok-read.read c.if-ended.false c.if-not-right.false c.place.result asked in
    let k : c.in-Some.at + c.in_ok-read.read.bytes - c.in-Some.at ≡ c.in_ok-read.read.bytes = omega arith in
    rw said (sym (rw (c.in_ok-at.was, c.in-Some.is, sym (rw k at c.any_touched-over.ensures) ∙ c.if-over.false) at p))

pub returns-in_default : goal.returns-in_default
returns-in_default c =
    let a = c.args in
    let said : a.read ≡ Some c.in_ok-read.read = c.ok_or.ensures.ok_part ∙ ap result_ok c.in_ok-read.was in
    let asked = rw (to_z-of_z w16 a.shift c.ranges.shift) at c.place.ensures in
    let p = by_place a.shift a.ended a.touched.now c.in_ok-read.read c.if-ended.false c.if-not-right.false c.place.result asked in
    rw said (sym (rw (c.in_ok-at.was, c.in_default.is) at p))
