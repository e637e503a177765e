-- How a step gathers its bytes, said once for one UART byte and for the bytes of a frame of any size.
use Rattle.std.specs.Prelude.{ℕ, ◌+◌, ◌-◌, ◌≤◌, ◌<◌, ◌≡◌, Bool, List, length, get_or, take, ltb}
use Rattle.words.specs.Over.{put}
use Rattle.command.specs.declared.SoFar.{SoFar}

-- how far a session has come with its step
pub record Progress : Type 0 where
  pub taken : ℕ
  pub expected : ℕ
  pub address : ℕ
  pub staged : List ℕ

-- the progress that has these numbers and these staged bytes
abbrev pub progress_at : ℕ → ℕ → ℕ → List ℕ → Progress
progress_at taken expected a staged = record { taken = taken; expected = expected; address = a; staged = staged }

-- the progress that is handed on with its staged bytes lent
abbrev pub progress_of : SoFar → Progress
progress_of p = progress_at p.taken p.expected p.address p.staged.now

-- the new bytes that the step still expects; extra ones are dropped
abbrev pub fitting : Progress → List ℕ → List ℕ
fitting p new = take (p.expected - p.taken) new

-- each byte taken is put at index taken, the others stay
abbrev pub staged_with : Progress → List ℕ → List ℕ
staged_with p new = put p.staged p.taken (fitting p new)

-- what is staged after some new bytes
pub record Stages (p : Progress) (new : List ℕ) : Type 0 where
  -- each byte that is still expected stands at index taken and on
  pub taken : (i : ℕ) → i < length (fitting p new) → p.taken + i < length p.staged → get_or (staged_with p new) (p.taken + i) 0 ≡ get_or new i 0
  -- those before stay
  pub before : (i : ℕ) → i < p.taken → get_or (staged_with p new) i 0 ≡ get_or p.staged i 0
  -- and those behind what is expected stay, however many were sent
  pub behind : (i : ℕ) → p.taken ≤ p.expected → p.expected ≤ i → get_or (staged_with p new) i 0 ≡ get_or p.staged i 0

-- the same of any step and any bytes
abbrev pub Staging : Type 0
Staging = (p : Progress) (new : List ℕ) → Stages p new

-- more bytes are expected after the new ones
abbrev pub short : Progress → List ℕ → Bool
short p new = ltb (p.taken + length new) p.expected

-- the new bytes are more than were expected
abbrev pub overfull : Progress → List ℕ → Bool
overfull p new = ltb p.expected (p.taken + length new)
