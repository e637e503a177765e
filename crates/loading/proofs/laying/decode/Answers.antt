-- Each turn lays the byte of one pair; behind the last one nothing is left to lay.
use Rattle.std.proofs.Common.{ℕ, ◌+◌, List, [], ◌∷◌, length, sym, ap, ◌∙◌, arith}
use Rattle.std.specs.Slice.Iter.{chunks_exact_rest}
use Rattle.words.specs.Over.{put, newer}
use Rattle.words.proofs.Over.{over_none, put_one, put_then}
use Rattle.records.specs.Digits.{bytes_in}
use Rattle.records.proofs.Pairs.{pair_taken, no_pairs}
use Rattle.loading.proofs.laying.decode.Goals as goal

pub loop-i-preserved : goal.loop-i-preserved
loop-i-preserved c =
    let loop = c.loop-i in
    let steps = c.in-Some.ensures.steps in
    let first = pair_taken (chunks_exact_rest loop.i-iterator.iter) c.in-Some.pair.now (chunks_exact_rest c.next.new.self.iter)
    steps.0.1.0 (steps.0.1.1 ∙ loop.invariant.0) loop.invariant.1 in
    let left = bytes_in (chunks_exact_rest c.next.new.self.iter) in
    let at = c.args.at + c.in-Some.i in
    let byte = c.byte_at.result in (
      steps.0.0 ∙ loop.invariant.0,
      first.behind,
      omega (arith, loop.invariant.2, ap length first.byte),
      ap (λ (o : List ℕ). put o (c.args.at + c.next.new.self.count) left) (sym (put_one loop.image at byte))
          ∙ put_then loop.image at (c.args.at + c.next.new.self.count) (byte ∷ []) left (omega arith)
          ∙ ap (λ (i : ℕ). put loop.image (c.args.at + i) (byte ∷ left)) steps.1
          ∙ ap (λ (b : ℕ). put loop.image (c.args.at + loop.i-iterator.count) (b ∷ left)) c.byte_at.ensures.0
          ∙ ap (λ (l : List ℕ). put loop.image (c.args.at + loop.i-iterator.count) l) (sym first.byte)
          ∙ loop.invariant.3,
    )

pub returns : goal.returns
returns c =
    let loop = c.loop-i in
    let e = no_pairs (chunks_exact_rest loop.i-iterator.iter) (omega (arith, c.in-None.ensures.steps, loop.invariant.0)) in
    sym (over_none newer loop.image (c.args.at + loop.i-iterator.count)) ∙ rw e at loop.invariant.3
