-- The sectors that are left are the next one and the rest.
use Rattle.std.proofs.Common.{◌≡◌, ◌+◌, ◌-◌, arith}
use Rattle.board.specs.View.{write_protected}
use Rattle.board.proofs.InOrder.{any_first}
use Rattle.board.proofs.View.any_write_protected.Goals as goal

pub loop-k-init : goal.loop-k-init
loop-k-init c = let e : c.args.first.0 + c.args.n - c.args.first.0 ≡ c.args.n = omega arith in rw e

pub returns-then-write_protected : goal.returns-then-write_protected
returns-then-write_protected c =
    rw (
      ← c.loop-k.invariant,
      any_first (write_protected c.args.self) c.loop-k.k (c.args.first.0 + c.args.n - c.loop-k.k) (omega arith),
      ← c.write_protected.ensures,
      c.if-write_protected.true,
    )

pub loop-k-preserved : goal.loop-k-preserved
loop-k-preserved c =
    let e : c.args.first.0 + c.args.n - (c.loop-k.k + 1) ≡ c.args.first.0 + c.args.n - c.loop-k.k - 1 = omega arith in
    rw (
      e,
      ← c.loop-k.invariant,
      any_first (write_protected c.args.self) c.loop-k.k (c.args.first.0 + c.args.n - c.loop-k.k) (omega arith),
      ← c.write_protected.ensures,
      c.if-write_protected.false,
    )

pub returns : goal.returns
returns c = let e : c.args.first.0 + c.args.n - c.loop-k.k ≡ 0 = omega arith in rw (← c.loop-k.invariant, e)
