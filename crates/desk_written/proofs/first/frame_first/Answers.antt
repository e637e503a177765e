-- The tests that it makes are those of a frame's characters.
use native.Mathlib.Omega.{arith}
use mathlib.Core.Path.{sym, subst}
use Prim.Native.Nat.{◌+◌}
use lib.Dec.{T}
use Rattle.words.proofs.Slices.{to_the_end}
use Rattle.desk_written.proofs.FrameFirst.{frame_at}
use Rattle.desk_written.proofs.first.frame_first.Goals as goal

pub returns-then-good : goal.returns-then-good
returns-then-good c =
    let text = c.args.text.now in
    frame_at text c.fields_first.result (5 + c.fields_first.result) (omega arith) (omega arith)
    (rw (to_the_end 5 text) at c.fields_first.ensures.1)
    (subst T (sym (rw (c.is_digit.ensures, c.is_digit-2.ensures, c.is_digit-3.ensures) at c.if-good.true)) tt)
