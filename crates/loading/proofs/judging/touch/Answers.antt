-- By the line's place; one in flash has room for the data.
use Rattle.std.proofs.Common.{Some, Ok, refl, sym, ◌∙◌, ap, arith, w16}
use Rattle.std.proofs.lemmas.Int.{to_z-of_z}
use Rattle.loading.specs.Places.{place_of}
use Rattle.loading.specs.Loads.{touched_by}
use Rattle.loading.proofs.Places.{room}
use Rattle.loading.proofs.judging.touch.Goals as goal

pub returns-in_default : goal.returns-in_default
unfolding touched_by place_of
returns-in_default c = rw c.in_default.is refl

pub fill-requires : goal.fill-requires
fill-requires c =
    let e = rw (to_z-of_z w16 c.args.shift c.ranges.shift) at c.place.ensures in
    let r = room c.args.shift (Some c.in-Some.read) c.in-Ok-Some.at (sym e ∙ c.in-Ok-Some.is ∙ ap Ok c.in-Ok-Some.field-0-is) in
    omega arith

pub returns-in-Ok-Some : goal.returns-in-Ok-Some
unfolding touched_by
returns-in-Ok-Some c =
    let e = rw (to_z-of_z w16 c.args.shift c.ranges.shift) at c.place.ensures in
    rw (c.in-Some.is, ← e, c.in-Ok-Some.is, c.in-Ok-Some.field-0-is) c.fill.ensures

pub returns-in-Ok-None : goal.returns-in-Ok-None
unfolding touched_by
returns-in-Ok-None c =
    let e = rw (to_z-of_z w16 c.args.shift c.ranges.shift) at c.place.ensures in
    rw (c.in-Some.is, ← e, c.in-Ok-None.is, c.in-Ok-None.field-0-is) refl

pub returns-in-Err : goal.returns-in-Err
unfolding touched_by
returns-in-Err c =
    let e = rw (to_z-of_z w16 c.args.shift c.ranges.shift) at c.place.ensures in
    rw (c.in-Some.is, ← e, c.in-Err.is) refl
