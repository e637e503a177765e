-- The test that the code makes is the definition's, and both signed numbers are read back as they were written.
use Rattle.std.proofs.Common.{sym, ◌∙◌, w16, w64}
use Rattle.std.proofs.lemmas.Int.{to_z-of_z}
use Rattle.loading.proofs.Places.{nowhere, placed, unplaced}
use Rattle.loading.proofs.placing.place.Goals as goal

pub returns-in_default : goal.returns-in_default
returns-in_default c = rw c.in_default.is (nowhere c.args.shift)

pub returns-then-not-loads : goal.returns-then-not-loads
returns-then-not-loads c = rw c.in-Some.is (unplaced c.args.shift c.in-Some.read (rw c.is_data.ensures at c.if-not-loads.true))

pub returns-in-Some-at : goal.returns-in-Some-at
returns-in-Some-at c =
    let e = rw (
      to_z-of_z w64 c.shifted.result c.shifted.ensures.1,
      c.shifted.ensures.0,
      to_z-of_z w16 c.args.shift c.ranges.shift,
    ) at c.place_at-at.ensures in
    let p = rw (sym e ∙ c.in-Some-at.is) at (placed c.args.shift c.in-Some.read (rw c.is_data.ensures at c.if-not-loads.false)) in
    rw c.in-Some.is p

pub returns-in-None : goal.returns-in-None
returns-in-None c =
    let e = rw (
      to_z-of_z w64 c.shifted.result c.shifted.ensures.1,
      c.shifted.ensures.0,
      to_z-of_z w16 c.args.shift c.ranges.shift,
    ) at c.place_at-at.ensures in
    let p = rw (sym e ∙ c.in-None.is) at (placed c.args.shift c.in-Some.read (rw c.is_data.ensures at c.if-not-loads.false)) in
    rw c.in-Some.is p
