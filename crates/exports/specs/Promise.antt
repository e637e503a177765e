-- What each exported call promises: every part of what it gives back and every byte lent.
use Rattle.std.specs.Prelude.{ℕ, ◌≡◌, List, Err}
use Rattle.std.specs.Prelude.{if◌then◌else◌}
use Rattle.memories.specs.Memories.{Memories}
use Rattle.boot.specs.Session.{fresh}
use Rattle.boot.specs.Causes.{Judged, accepted, cause_no, accepts}
use Rattle.boot.specs.Calls.{Outcome}
use Rattle.boot.specs.Promise.{left, Leaves}
use Rattle.boot.specs.Slices.{GivenBytes, slice_outcome}
use Rattle.boot.specs.declared.Cause.TheVariants.{UnsoundSession}
use Rattle.boot.specs.declared.Session.{Session}
use Rattle.boot.specs.declared.Taken.{Taken}
use Rattle.session_bytes.specs.Sessions.{session_bytes, holds_session, session_in}

-- the slice of a session after a call: the next session where it was accepted, and else what was lent
abbrev pub handed_on : Judged → Session → List ℕ → List ℕ
handed_on c s lent = if accepts c then session_bytes s else lent

-- power on is refused only for a slice that has not the length of a session
abbrev pub power_cause : List ℕ → Judged
power_cause lent = if holds_session lent then accepted else Err UnsoundSession

-- power on writes a fresh session
pub record PowersOn (lent : List ℕ) (n : ℕ) (after : List ℕ) : Type 0 where
  pub number : n ≡ cause_no (power_cause lent)
  pub session : after ≡ handed_on (power_cause lent) fresh lent

-- what the board's own call hands back, whose session stands in the slice
abbrev pub result : ℕ → ℕ → ℕ → ℕ → Session → Taken
result number length reason place s = record { number = number; length = length; reason = reason; place = place; session = s }

-- a taking call leaves what an outcome of the board's own call says, given the reply buffer and the session's slice as they were lent
pub record Takes (o : Outcome) (room lent : List ℕ) (number length reason place : ℕ) (after : List ℕ) (m : Memories) (buffer : List ℕ) : Type 0 where
  pub leaves : Leaves o room (left (result number length reason place o.state.session) m buffer)
  pub session : after ≡ handed_on o.cause o.state.session lent
  pub held : session_in after ≡ o.state.session

-- the call of a slice of bytes tells besides how many of them were taken
pub record TakesBytes (g : GivenBytes) (lent : List ℕ) (number taken length reason place : ℕ) (after : List ℕ) (m : Memories) (buffer : List ℕ)
    : Type 0 where
  pub count : taken ≡ (slice_outcome g).count
  pub takes : Takes (slice_outcome g).outcome g.buffer lent number length reason place after m buffer
