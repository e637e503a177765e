-- Why a call is refused, in the paper's numbers, and that a refused call has changed nothing.
use Rattle.std.specs.Prelude.{ℕ, ◌≡◌, not, List, eqb, leb}
use Rattle.std.specs.Prelude.{if◌then◌else◌}
use Rattle.frames.specs.Frames.{classic, is_frame}
use Rattle.memories.specs.Memories.{proper}
use Rattle.boot.specs.Session.{sound}
use Rattle.boot.specs.Causes.{cause_no}
use Rattle.boot.specs.Calls.{State, Power, Byte, Framed, cause_for}
use Rattle.boot.specs.Promise.{Given, Left, Took}
use Rattle.boot.specs.Slices.{slice_cause, GivenBytes, TookBytes}

-- the first cause that holds is given, and none otherwise
pub record FirstCauses : Type 0 where
  -- power on is never refused
  pub power : (p : State) → cause_no (cause_for Power p) ≡ 0
  -- a byte: wrong lengths, a reply buffer under 257 bytes, an unsound session, a board that is running
  pub byte : (room b : ℕ) (p : State)
      → cause_no (cause_for (Byte room b) p)
      ≡ (if not (proper p.memories) then 1
      else if not (leb 257 room) then 2
      else if not (sound p.session) then 4
      else if eqb p.session.carrier 3 then 5
      else 0)
  -- a frame: the same with 363 bytes, and a slice that is no frame
  pub frame : (room : ℕ) (f : List ℕ) (p : State)
      → cause_no (cause_for (Framed room f) p)
      ≡ (if not (proper p.memories) then 1
      else if not (leb 363 room) then 2
      else if not (is_frame classic f) then 3
      else if not (sound p.session) then 4
      else if eqb p.session.carrier 3 then 5
      else 0)
  -- a slice of bytes, whatever it is and whatever the room: as a byte, save that reply room is never refused
  pub slice : (p : State)
      → cause_no (slice_cause p)
      ≡ (if not (proper p.memories) then 1
      else if not (sound p.session) then 4
      else if eqb p.session.carrier 3 then 5
      else 0)

-- length 0, no reason and no place, session and all buffers unchanged
pub record Unchanged (p : State) (lent : List ℕ) (l : Left) : Type 0 where
  pub count : l.result.length ≡ 0
  pub reason : l.result.reason ≡ 0
  pub place : l.result.place ≡ 0
  pub session : l.result.session ≡ p.session
  pub flash : l.flash ≡ p.memories.flash
  pub sram : l.sram ≡ p.memories.sram
  pub usd : l.usd ≡ p.memories.usd
  pub buffer : l.buffer ≡ lent

-- whatever a call that keeps its promise is given: where its number is not 0, it has changed nothing
abbrev pub Refusals : Type 0
Refusals = (g : Given) (l : Left) → Took g l → (l.result.number ≡ 0 → ⊥) → Unchanged g.state g.buffer l

-- so has the call of a slice, and it has taken no byte
abbrev pub SliceRefusals : Type 0
SliceRefusals =
    (g : GivenBytes) (n : ℕ) (l : Left) → TookBytes g n l → (l.result.number ≡ 0 → ⊥) → (n ≡ 0) × Unchanged g.state g.buffer l
