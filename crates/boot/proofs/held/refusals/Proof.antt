-- An accepted call gives 0, and a refused one is promised to leave what it was given.
use mathlib.Core.Bool.{Bool, true, false}
use Rattle.std.specs.Prelude.{if◌then◌else◌}
use Rattle.boot.specs.Causes.{accepts}
use Rattle.boot.specs.Calls.{cause_for, view_in, decide, perform, refused, call}
use Rattle.boot.specs.Promise.{outcome, Leaves}
use Rattle.boot.specs.Refusals.{Unchanged, Refusals}
use Rattle.boot.proofs.held.refusals.Statement.{statement}
use Rattle.boot.proofs.held.refusals.Tie as tie

nothing_changed : Refusals
unfolding outcome call perform
nothing_changed g l t n = by_test (accepts (cause_for g.input g.state)) t
  where
    by_test : (b : Bool)
        → Leaves (if b then perform g.input g.state (decide g.input g.state.session (view_in g.state))
        else refused (cause_for g.input g.state) g.state) g.buffer l
        → Unchanged g.state g.buffer l
    by_test true t = absurd (n t.number)
    by_test false t = record {
      count = t.count;
      reason = t.reason;
      place = t.place;
      session = t.session;
      flash = t.flash;
      sram = t.sram;
      usd = t.usd;
      buffer = t.buffer;
    }

pub refusals_spec : {M : Type 1} → statement M
refusals_spec = tie.close (tie.spec (λ c. nothing_changed))
