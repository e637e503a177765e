-- Each turn takes one character in, or a line and what is passed behind it; what is left then ends as the whole does, and there is room for it.
use native.Mathlib.Omega.{arith}
use mathlib.Core.Path.{ap, ◌∙◌}
use lib.ListN.{length, length-drop}
use borrow.Author.Tests.{eq-eqb, ne_eqb}
use Rattle.words.proofs.Slices.{to_the_end}
use Rattle.memories.specs.Lent.{holds}
use Rattle.desk_hearing.specs.Promise.{desk_of}
use Rattle.desk_answers.proofs.Telling.{left_of_left, none_left}
use Rattle.desk_hearing.proofs.Hearing.{others, length-others, hears_end, hears_kept, hears_none}
use Rattle.desk_hearing.proofs.hear.Goals as goal

pub loop-left-preserved-then-character-eq-LINE_FEED : goal.loop-left-preserved-then-character-eq-LINE_FEED
loop-left-preserved-then-character-eq-LINE_FEED c =
    let loop = c.loop-left in
    let s = loop.left.now in
    let r = others s in
    let k = c.go_on-heard.result.characters in
    let a = length-others s in
    let t = ap length (to_the_end k r) in
    let l = length-drop k r in
    let d = desk_of loop.here loop.line (holds loop.lent) in
    let b = c.go_on-heard.ensures in (
      loop.invariant.0,
      omega (arith, b.counts.0),
      omega (arith, a, t, l, b.within, b.counts.1, loop.invariant.2),
      omega (arith, a, t, l, b.within, b.counts.0, b.fits, loop.invariant.3),
      rw (to_the_end k r) (left_of_left b.told
          (rw (hears_end s d (omega arith) (eq-eqb _ _ c.if-character-eq-LINE_FEED.true)) at loop.invariant.4)),
      record {
        flash = b.same.flash ∙ loop.invariant.5.flash;
        sram = b.same.sram ∙ loop.invariant.5.sram;
        usd = b.same.usd ∙ loop.invariant.5.usd;
      },
    )

pub loop-left-preserved : goal.loop-left-preserved
loop-left-preserved c =
    let loop = c.loop-left in
    let s = loop.left.now in
    let a = length-others s in
    let d = desk_of loop.here loop.line (holds loop.lent) in
    let b = c.keep.ensures in (
      c.keep.auto.line ∙ loop.invariant.0,
      b.kept.0,
      omega (arith, a, loop.invariant.2),
      omega (arith, a, b.kept.1, loop.invariant.3),
      rw (hears_kept s d (omega arith) (ne_eqb _ _ c.if-character-eq-LINE_FEED.false), ← b.line) at loop.invariant.4,
      loop.invariant.5,
    )

pub returns-clause-told : goal.returns-clause-told
returns-clause-told c =
    let loop = c.loop-left in
    let d = desk_of loop.here loop.line (holds loop.lent) in
    none_left d (rw (hears_none loop.left.now d (omega arith)) at loop.invariant.4)
