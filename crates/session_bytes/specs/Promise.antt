-- What is promised of a session that is handed on after a call.
use Rattle.std.specs.Prelude.{ℕ, ◌≡◌, List, eqb}
use Rattle.std.specs.Prelude.{if◌then◌else◌}
use Rattle.boot.specs.Causes.{cause_no}
use Rattle.boot.specs.Causes.{accepted}
use Rattle.boot.specs.declared.Taken.{Taken}
use Rattle.session_bytes.specs.Sessions.{session_bytes, session_in}

-- the session of a result is handed on where its number is that of no cause, and is then what the slice holds
pub record HandsOn (t : Taken) (lent after : List ℕ) : Type 0 where
  pub session : after ≡ (if eqb t.number (cause_no accepted) then session_bytes t.session else lent)
  pub held : t.number ≡ cause_no accepted → session_in after ≡ t.session
