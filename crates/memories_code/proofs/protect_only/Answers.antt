-- When none is left, the sectors were protected after all were released.
use native.Mathlib.Omega.{arith}
use mathlib.Core.Path.{◌≡◌}
use lib.Seq.{drop-length}
use lib.ListN.{length}
use Rattle.memories.specs.Protection.{only_protected}
use Rattle.memories_code.proofs.protect_only.Goals as goal

pub returns : goal.returns
unfolding only_protected
returns c =
    let e : c.loop-index.index-index ≡ length c.args.indexes.now = omega arith in
    rw (← c.release.ensures) (rw (e, drop-length) at c.loop-index.invariant.2)
