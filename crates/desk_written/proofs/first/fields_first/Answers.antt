-- Each turn finds one more field behind those that were found.
use mathlib.Core.Path.{◌≡◌, sym, ◌∙◌}
use lib.ListN.{length}
use Rattle.std.specs.Slice.Iter.{chunks_exact_rest}
use Rattle.desk_written.proofs.FrameFirst.{one_field_more}
use Rattle.desk_written.proofs.first.fields_first.Goals as goal

pub loop-field-preserved : goal.loop-field-preserved
loop-field-preserved c =
    let loop = c.loop-field in
    let steps = c.in-Some.ensures.steps in
    let n : length c.in-Some.field.now ≡ 3 = steps.1.1 ∙ loop.invariant.0 in
    let m = one_field_more c.args.rest.now loop.end c.in-Some.field.now (chunks_exact_rest c.next.new.self)
    (sym loop.invariant.2 ∙ steps.1.0) n loop.invariant.1 loop.invariant.3 c.if-not-good.ensures in
    (steps.0 ∙ loop.invariant.0, m.0, m.1, m.2)
