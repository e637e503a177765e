-- None gathered leaves the session, and others are gathered at once.
use native.Mathlib.Omega.{arith}
use mathlib.Core.Path.{sym}
use lib.Seq.{length-take-le}
use native.Mathlib.Omega.{arith}
use Rattle.words.proofs.Tests.{past}
use Rattle.boot.proofs.Silent.{none_gathered}
use Rattle.boot.proofs.Session.gather_first.Goals as goal

pub slice_bounds-gather-end : goal.slice_bounds-gather-end
slice_bounds-gather-end c = sym (length-take-le _ _ c.requires.0)

pub gather-requires : goal.gather-requires
gather-requires c = c.requires.1 (past 0 _ (omega arith) c.if-n-eq0.false)

pub returns-then-n-eq0 : goal.returns-then-n-eq0
returns-then-n-eq0 c = rw c.if-n-eq0.true (sym (none_gathered _))
