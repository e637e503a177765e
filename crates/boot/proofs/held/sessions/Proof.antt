-- Each session is computed.
use mathlib.Core.Path.{refl}
use Rattle.boot.specs.Session.{after}
use Rattle.boot.specs.Sessions.{Sessions}
use Rattle.boot.proofs.held.sessions.Statement.{statement}
use Rattle.boot.proofs.held.sessions.Tie as tie

followed : Sessions
unfolding after
followed = record {
  power_on = refl;
  connected = refl;
  stays = refl;
  resets = λ c held s. refl;
  gathers = refl;
  goes_idle = refl;
  sets_speed = refl;
  enters = refl;
  enters_at = refl;
  runs = refl;
}

pub sessions_spec : {M : Type 1} → statement M
sessions_spec = tie.close (tie.spec (λ c. followed))
