-- Each turn prints one frame; before it, what is left to print ends as the whole does.
use native.Mathlib.Omega.{arith}
use mathlib.Core.Path.{◌≡◌, sym, ap, ◌∙◌}
use mathlib.Core.List.{List}
use Prim.Native.Nat.{ℕ, ◌+◌}
use lib.ListN.{length, length-append}
use Rattle.std.specs.Slice.Iter.{chunks_exact_rest}
use Rattle.words.specs.Over.{put, newer}
use Rattle.words.proofs.Over.{over_none, put_then}
use Rattle.frames.specs.Frames.{classic, frame_bytes, frame_in}
use Rattle.desk_print.specs.Prints.{spelled_frame, spelled_frames}
use Rattle.desk_print.proofs.Printing.{first_spelled, none_spelled}
use Rattle.desk_print.proofs.frames.Goals as goal

pub loop-f-preserved : goal.loop-f-preserved
loop-f-preserved c =
    let loop = c.loop-f in
    let steps = c.in-Some.ensures.steps in
    let printed = c.frame-end in
    let s = chunks_exact_rest loop.f-iterator in
    let f = c.in-Some.f.now in
    let t = chunks_exact_rest c.next.new.self in
    let n : length f ≡ frame_bytes classic = steps.1.1 ∙ loop.invariant.0 in
    let l : length s ≡ length f + length t = ap length steps.1.0 ∙ length-append f t in
    let e = first_spelled s f t steps.1.0 n in
    let one = spelled_frame (frame_in f) in
    let others = spelled_frames t in
    let e1 = rw e at loop.invariant.3 in (
      steps.0 ∙ loop.invariant.0,
      omega (arith, loop.invariant.1),
      omega (arith, printed.ensures.1, loop.invariant.2),
      omega (arith, length-append one others, e1, printed.ensures.0),
      ap (λ (o : List ℕ). put o printed.result others) printed.ensures.2
          ∙ put_then loop.out loop.end printed.result one others printed.ensures.0
          ∙ ap (λ (l : List ℕ). put loop.out loop.end l) (sym e)
          ∙ loop.invariant.4,
    )

pub returns : goal.returns
returns c =
    let loop = c.loop-f in
    let steps = c.in-None.ensures.steps in
    let e = none_spelled (chunks_exact_rest loop.f-iterator) (omega (arith, steps.1.0, loop.invariant.0, loop.invariant.1)) in (
      omega (arith, rw e at loop.invariant.3),
      omega (arith, loop.invariant.2),
      sym (over_none newer loop.out loop.end) ∙ rw e at loop.invariant.4,
    )
