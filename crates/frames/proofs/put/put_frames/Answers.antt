-- Each turn writes one frame; before it, what is left to write ends as the whole does.
use native.Mathlib.Omega.{arith}
use mathlib.Core.Path.{◌≡◌, sym, ap, ◌∙◌}
use mathlib.Core.List.{List, [], ◌++◌}
use Prim.Native.Nat.{min}
use Rattle.std.proofs.Common.{rules, ℕ, ◌+◌, ◌<◌, length}
use Rattle.words.specs.Over.{put, newer}
use Rattle.words.proofs.Over.{over_none, put_then}
use Rattle.words.specs.Lists.{cut}
use Rattle.words.proofs.Pieces.{nothing}
use Rattle.frames.specs.Frames.{of_size, head_bytes, frame, frames}
use Rattle.frames.proofs.Cutting.{turn}
use Rattle.frames.proofs.put.put_frames.Goals as goal

pub put_frame-requires : goal.put_frame-requires
put_frame-requires c =
    let rest = c.loop-part.part-iterator.rest.now in
    let e : rest ≡ c.in-Some.part.now ++ c.next.new.self.rest.now = search rules in
    let m : length c.in-Some.part.now ≡ min c.args.piece (length rest) = search rules in
    let h : 0 < length rest = search rules in
    let t = turn (of_size c.args.size) c.args.id c.args.piece rest _ _ c.requires.0 c.requires.1 e m h in
    (t.fits, c.requires.2, omega (arith, t.both, c.loop-part.invariant.1, c.requires.3, c.loop-part.auto.buffer))

pub loop-part-preserved : goal.loop-part-preserved
loop-part-preserved c =
    let rest = c.loop-part.part-iterator.rest.now in
    let p = c.in-Some.part.now in
    let l = c.next.new.self.rest.now in
    let e : rest ≡ p ++ l = search rules in
    let m : length p ≡ min c.args.piece (length rest) = search rules in
    let h : 0 < length rest = search rules in
    let k = of_size c.args.size in
    let t = turn k c.args.id c.args.piece rest p l c.requires.0 c.requires.1 e m h in
    let others = frames k c.args.id (cut c.args.piece l) in
    let end = c.loop-part.end + (head_bytes + c.args.size) in (
      search rules,
      omega (arith, t.both, c.loop-part.invariant.1),
      ap (λ (b : List ℕ). put b end others) c.put_frame.ensures
          ∙ put_then c.loop-part.buffer c.loop-part.end end (frame k c.args.id p) others (omega (arith, t.long))
          ∙ rw t.first at c.loop-part.invariant.2,
    )

pub returns : goal.returns
returns c =
    let z : c.loop-part.part-iterator.rest.now ≡ [] = nothing c.loop-part.part-iterator.rest.now (search rules) in (
      omega (arith, rw z at c.loop-part.invariant.1),
      sym (over_none newer c.loop-part.buffer c.loop-part.end) ∙ rw z at c.loop-part.invariant.2,
    )
