-- Where a byte is refused, what was left to take ends there, and else it is left behind that byte.
use native.Mathlib.Omega.{arith}
use mathlib.Core.Path.{sym, ap, ◌∙◌}
use mathlib.Core.List.{◌++◌}
use Prim.Native.Nat.{◌+◌, ◌-◌}
use lib.ListN.{length, take, drop}
use Rattle.memories.specs.Lent.{holds}
use Rattle.boot.specs.declared.Taken.{Taken}
use Rattle.boot.proofs.Slices.{left_over, nothing_left, all_taken, stays_within, still_fits, back_length, turn_ends, turn_goes_on, left_leaves}
use Rattle.boot.proofs.Session.take_on.Goals as goal

pub returns-then-refused-clause-leaves : goal.returns-then-refused-clause-leaves
returns-then-refused-clause-leaves c =
    let bytes = c.args.bytes.now in
    let loop = c.loop-count in
    let front = c.take_front-front in
    let silent = front.result.silent in
    let taken = front.result.taken in
    let at = loop.done.length in
    let back = take at loop.buffer ++ (front.new.buffer ++ drop (length loop.buffer - at) (drop at loop.buffer)) in
    let both = c.followed_by-done.ensures in
    let fits =
    still_fits bytes loop.buffer loop.count loop.done (holds loop.lent) silent taken (holds front.new.lent) front.new.buffer loop.invariant.2
    front.auto.buffer front.ensures.took in
    let ended =
    turn_ends bytes loop.buffer loop.count loop.done (holds loop.lent) silent taken (holds front.new.lent) front.new.buffer loop.invariant.2
    front.auto.buffer front.ensures.took c.if-refused.true in
    left_leaves c.args.self (holds c.args.lent.now) c.args.buffer.now bytes c.unanswered-done.result c.unanswered-done.ensures
    (ap (λ (t : Taken). t.number) both ∙ loop.invariant.1)
    (omega (arith, ap (λ (t : Taken). t.length) both, fits, loop.invariant.4))
    (loop.invariant.3 ∙ ended ∙ ap (λ (t : Taken). nothing_left (holds front.new.lent) back t (loop.count + silent)) (sym both))

pub loop-count-preserved : goal.loop-count-preserved
loop-count-preserved c =
    let bytes = c.args.bytes.now in
    let loop = c.loop-count in
    let front = c.take_front-front in
    let silent = front.result.silent in
    let taken = front.result.taken in
    let at = loop.done.length in
    let back = take at loop.buffer ++ (front.new.buffer ++ drop (length loop.buffer - at) (drop at loop.buffer)) in
    let both = c.followed_by-done.ensures in
    let within =
    stays_within bytes loop.buffer loop.count loop.done (holds loop.lent) silent taken (holds front.new.lent) front.new.buffer loop.invariant.2
    front.auto.buffer front.ensures.took in
    let fits =
    still_fits bytes loop.buffer loop.count loop.done (holds loop.lent) silent taken (holds front.new.lent) front.new.buffer loop.invariant.2
    front.auto.buffer front.ensures.took in
    let kept =
    back_length bytes loop.buffer loop.count loop.done (holds loop.lent) silent taken (holds front.new.lent) front.new.buffer loop.invariant.2
    front.auto.buffer front.ensures.took in
    let went_on =
    turn_goes_on bytes loop.buffer loop.count loop.done (holds loop.lent) silent taken (holds front.new.lent) front.new.buffer loop.invariant.2
    front.auto.buffer front.ensures.took c.if-refused.false in (
      omega (arith, within),
      ap (λ (t : Taken). t.number) both ∙ loop.invariant.1,
      omega (arith, ap (λ (t : Taken). t.length) both, fits, kept),
      loop.invariant.3 ∙ went_on
          ∙ ap (λ (t : Taken). left_over bytes (holds front.new.lent) back t (loop.count + silent + 1)) (sym both),
      kept ∙ loop.invariant.4,
      record {
        flash = front.ensures.same.flash ∙ loop.invariant.5.flash;
        sram = front.ensures.same.sram ∙ loop.invariant.5.sram;
        usd = front.ensures.same.usd ∙ loop.invariant.5.usd;
      },
    )

pub returns-clause-leaves : goal.returns-clause-leaves
returns-clause-leaves c =
    let loop = c.loop-count in
    left_leaves c.args.self (holds c.args.lent.now) c.args.buffer.now c.args.bytes.now c.unanswered-done.result c.unanswered-done.ensures
    loop.invariant.1
    (omega (arith, loop.invariant.2, loop.invariant.4))
    (loop.invariant.3 ∙ all_taken c.args.bytes.now (holds loop.lent) loop.buffer loop.done loop.count (omega arith))
