-- The space, the ID and the colon are copied, and the data bytes printed behind them.
use native.Mathlib.Omega.{arith}
use mathlib.Core.Path.{◌≡◌, ap, ◌∙◌}
use Prim.Native.Nat.{ℕ, ◌<◌, min}
use lib.ListN.{get_or}
use Rattle.desk_print.proofs.Printing.{frame_spelled, frame_length}
use Rattle.desk_print.proofs.frame.Goals as goal

pub returns : goal.returns
returns c =
    let f = c.args.frame.now in
    let b : get_or f 1 0 < 256 = omega arith in
    let k : c.min-end.result ≡ min (get_or f 2 0) 8 = c.min-end.ensures ∙ ap (λ (n : ℕ). min n 8) c.from.ensures in
    let n = frame_length f c.requires.0 b c.min-end.result k in (
      omega (arith, n.0, c.add-begun.ensures.ends, c.unspaced.ensures.0),
      omega (arith, n.0, n.1, c.add-begun.ensures.ends, c.unspaced.ensures.0),
      c.unspaced.ensures.1 ∙ rw (c.add-begun.ensures.written, c.add-begun.ensures.ends, c.digit.ensures, c.digits.ensures)
          (frame_spelled f c.requires.0 b c.min-end.result k c.args.out.now c.args.at),
    )
