-- By the line's place; one in flash is a good line's, and has room for the data.
use Rattle.std.proofs.Common.{Ok, refl, sym, ◌∙◌, ap, arith, w16}
use Rattle.std.proofs.lemmas.Int.{to_z-of_z}
use Rattle.records.specs.Records.{line_of}
use Rattle.records.proofs.Good.{data_pairs}
use Rattle.loading.specs.Places.{data_of}
use Rattle.loading.specs.Loads.{loaded_by}
use Rattle.loading.proofs.Bytes.{as_many}
use Rattle.loading.proofs.Places.{room, good_placed}
use Rattle.loading.proofs.laying.lay.Goals as goal

pub data_of_good-requires : goal.data_of_good-requires
data_of_good-requires c =
    let e = rw (to_z-of_z w16 c.args.shift c.ranges.shift, c.requires.0) at c.place.ensures in
    good_placed c.args.shift c.args.line.now c.in-Ok-Some.at (sym e ∙ c.in-Ok-Some.is ∙ ap Ok c.in-Ok-Some.field-0-is)

pub decode-requires : goal.decode-requires
unfolding data_of
decode-requires c =
    let b = as_many c.args.line.now in
    let e = rw (to_z-of_z w16 c.args.shift c.ranges.shift, c.requires.0) at c.place.ensures in
    let r = room c.args.shift (line_of c.args.line.now) c.in-Ok-Some.at (sym e ∙ c.in-Ok-Some.is ∙ ap Ok c.in-Ok-Some.field-0-is) in
    rw c.data_of_good.ensures (data_pairs c.args.line.now, omega arith)

pub returns-in-Ok-Some : goal.returns-in-Ok-Some
unfolding loaded_by data_of
returns-in-Ok-Some c =
    let e = rw (to_z-of_z w16 c.args.shift c.ranges.shift, c.requires.0) at c.place.ensures in
    rw (← e, c.in-Ok-Some.is, c.in-Ok-Some.field-0-is, ← c.data_of_good.ensures) c.decode.ensures

pub returns-in-Ok-None : goal.returns-in-Ok-None
unfolding loaded_by
returns-in-Ok-None c =
    let e = rw (to_z-of_z w16 c.args.shift c.ranges.shift, c.requires.0) at c.place.ensures in
    rw (← e, c.in-Ok-None.is, c.in-Ok-None.field-0-is) refl

pub returns-in-Err : goal.returns-in-Err
unfolding loaded_by
returns-in-Err c =
    let e = rw (to_z-of_z w16 c.args.shift c.ranges.shift, c.requires.0) at c.place.ensures in
    rw (← e, c.in-Err.is) refl
