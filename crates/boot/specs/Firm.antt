-- What an accepted call leaves is never refused for memories or session: so the call of a slice meets no refusal but that of a running board.
use Rattle.std.specs.Prelude.{ℕ, ◌+◌, ◌≤◌, ◌<◌, ◌≡◌, true, List, T, length, get_or, Err}
use Rattle.memories.specs.Memories.{proper}
use Rattle.boot.specs.Session.{sound}
use Rattle.boot.specs.Causes.{accepts}
use Rattle.boot.specs.Calls.{State, Power, Byte, Framed, call}
use Rattle.boot.specs.Slices.{one_by_one, how_many, slice_cause}
use Rattle.boot.specs.Stops.{call_at, replies_before}
use Rattle.boot.specs.declared.Cause.TheVariants.{BoardRunning}

-- the session is sound, and the memories have their lengths
pub record Firm (p : State) : Type 0 where
  pub session : T (sound p.session)
  pub lengths : T (proper p.memories)

-- each number of a list is a byte (one over 255, as the count of a write, would announce more than a step may expect)
abbrev pub AreBytes : List ℕ → Type 0
AreBytes l = (i : ℕ) → get_or l i 0 < 256

-- what each input leaves where its call is accepted, whatever was staged before; after a Jump too
pub record LeavesFirm : Type 0 where
  -- power on, accepted whatever the memories: a sound session, and the memories as they were
  pub power : (p : State) → T (sound (call Power p).state.session) × ((call Power p).state.memories ≡ p.memories)
  -- a byte
  pub byte : (room b : ℕ) (p : State) → b < 256 → accepts (call (Byte room b) p).cause ≡ true → Firm (call (Byte room b) p).state
  -- a frame
  pub frame : (room : ℕ) (l : List ℕ) (p : State) → AreBytes l → accepts (call (Framed room l) p).cause ≡ true
      → Firm (call (Framed room l) p).state

-- where byte n of a slice finds 257 bytes of room left, its call is refused because the board runs
abbrev pub RunsAt : ℕ → List ℕ → State → ℕ → Type 0
RunsAt room bs p n = n < length bs → length (replies_before bs p n) + 257 ≤ room → (call_at bs p n).cause ≡ Err BoardRunning

-- document 02, Wish 4, "a refusal met midway, by a Jump": so it is of the byte at which a slice stops that was not refused
abbrev pub RefusedMidway : Type 0
RefusedMidway =
    (room : ℕ) (bs : List ℕ) (p : State) → AreBytes bs → accepts (slice_cause p) ≡ true → RunsAt room bs p (how_many room (one_by_one bs p))
