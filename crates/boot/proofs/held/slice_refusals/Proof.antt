-- A slice that is not refused gives 0, and one that is leaves what it was given.
use mathlib.Core.Path.{◌≡◌}
use mathlib.Core.Bool.{Bool, true, false}
use lib.ListN.{length}
use Rattle.std.specs.Prelude.{if◌then◌else◌}
use Rattle.boot.specs.Causes.{accepts}
use Rattle.boot.specs.Slices.{as_one, taking, slice_cause, none_taken, call_bytes, slice_outcome, LeavesBytes}
use Rattle.boot.specs.Refusals.{Unchanged, SliceRefusals}
use Rattle.boot.proofs.held.slice_refusals.Statement.{statement}
use Rattle.boot.proofs.held.slice_refusals.Tie as tie

nothing_changed : SliceRefusals
unfolding slice_outcome call_bytes as_one
nothing_changed g n l t k = by_test (accepts (slice_cause g.state)) t
  where
    by_test : (b : Bool)
        → LeavesBytes (if b then taking (length g.buffer) g.bytes g.state else none_taken g.state) g.buffer n l
        → (n ≡ 0) × Unchanged g.state g.buffer l
    by_test true t = absurd (k t.leaves.number)
    by_test false t = (
      t.count,
      record {
        count = t.leaves.count;
        reason = t.leaves.reason;
        place = t.leaves.place;
        session = t.leaves.session;
        flash = t.leaves.flash;
        sram = t.leaves.sram;
        usd = t.leaves.usd;
        buffer = t.leaves.buffer;
      },
    )

pub slice_refusals_spec : {M : Type 1} → statement M
slice_refusals_spec = tie.close (tie.spec (λ c. nothing_changed))
