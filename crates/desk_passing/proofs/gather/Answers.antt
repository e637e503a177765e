-- Each turn passes one line more, after which the session still hears frames.
use native.Mathlib.Omega.{arith}
use mathlib.Core.Path.{◌∙◌}
use Prim.Native.Nat.{◌+◌, ◌≤◌, ◌<◌}
use lib.ListN.{length, drop}
use lib.Seq.{length-take-le}
use Rattle.words.proofs.Slices.{to_the_end}
use Rattle.boot.proofs.Sound.{sound_taken, sound_expected}
use Rattle.desk_passing.specs.Passing.{SilentLine}
use Rattle.desk_passing.proofs.Passing.{went_on, few_brought}
use Rattle.desk_passing.proofs.gather.Goals as goal
use Rattle.desk_passing.proofs.gather.Goals.{In-Some}

-- the line is only gathered
silent : (c : In-Some)
    → SilentLine c.loop-line.here.step c.loop-line.here.taken c.loop-line.here.expected (drop c.loop-line.characters c.args.text.now)
    c.in-Some.line.end c.in-Some.line.count c.silent_line.new.new
silent c = rw (to_the_end c.loop-line.characters c.args.text.now) at (rw c.in-Some.is at c.silent_line.ensures)

-- its bytes are no more than a frame carries, and than are expected, and it stands within the text
brought : (c : In-Some)
    → (c.in-Some.line.count ≤ 8)
    × (c.loop-line.here.taken + c.in-Some.line.count < c.loop-line.here.expected)
    × (c.loop-line.characters + (c.in-Some.line.end + 1) ≤ length c.args.text.now)
brought c =
    few_brought c.args.session c.loop-line.here c.args.right c.args.text.now
    c.loop-line.lines c.loop-line.characters c.loop-line.invariant.2 c.loop-line.invariant.1
    c.in-Some.line.end c.in-Some.line.count c.silent_line.new.new (silent c)

pub silent_line-requires-clause-taken_le_expected : goal.silent_line-requires-clause-taken_le_expected
silent_line-requires-clause-taken_le_expected c = omega (arith, sound_taken c.loop-line.here c.loop-line.invariant.1.firm)

pub stage-requires : goal.stage-requires
stage-requires c =
    let b = brought (goal.at.stage-requires c).In-Some in
    let n = length-take-le c.in-Some.line.count c.silent_line.new.new (omega (arith, b.0, c.loop-line.invariant.0, c.silent_line.auto.new)) in
    omega (arith, b.1, n, sound_expected c.loop-line.here c.loop-line.invariant.1.firm)

pub overflow_add-here : goal.overflow_add-here
overflow_add-here c =
    omega (arith, (brought (goal.at.overflow_add-here c).In-Some).1, sound_expected c.loop-line.here c.loop-line.invariant.1.firm)

pub loop-line-preserved : goal.loop-line-preserved
loop-line-preserved c =
    let loop = c.loop-line in
    let line = c.in-Some.line in
    let w = went_on c.args.session loop.here c.args.right c.args.text.now loop.lines loop.characters loop.invariant.2 loop.invariant.1
    line.end line.count c.silent_line.new.new (silent (goal.at.loop-line-preserved c).In-Some) c.stage.new.staged c.stage.ensures in
    (c.silent_line.auto.new ∙ loop.invariant.0, w.0, w.1)
