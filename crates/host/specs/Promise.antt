-- What the host's functions promise.
use Rattle.std.specs.Prelude.{ℕ, ◌≡◌, Bool, true, List, [], ◌∷◌, ◌++◌, length, drop, Result, Ok, Err, ⊤, IsOkAnd}
use Rattle.command.specs.Says.{ack_byte}
use Rattle.host.specs.Ranges.{carries, first_write, first_read, only_erase}
use Rattle.host.specs.Refusals.{range_refusal, write_refusal}
use Rattle.host.specs.declared.Made.{Made}
use Rattle.host.specs.declared.Refusal.{Refusal}

-- ---- a command in a room

-- a command is put at the front of a room, which stays behind it, and its length is told
pub record Puts (command before : List ℕ) (l : ℕ) (after : List ℕ) : Type 0 where
  pub count : l ≡ length command
  pub room : after ≡ command ++ drop (length command) before

-- what is accepted puts a command, and tells for how many bytes of the range it is; a refusal is told, and the room stays
abbrev pub Tells : Result ⊤ Refusal → List ℕ → ℕ → List ℕ → Result Made Refusal → List ℕ → Type 0
Tells (Ok _) command n before r after = IsOkAnd r (λ (m : Made). (m.carried ≡ n) × Puts command before m.length after)
Tells (Err e) command n before r after = (r ≡ Err e) × (after ≡ before)

-- the first write command of a range of an image
abbrev pub MakesWrite : List ℕ → ℕ → ℕ → List ℕ → Result Made Refusal → List ℕ → Type 0
MakesWrite image offset count before r after =
    Tells (write_refusal (length image) offset count (length before)) (first_write image offset count) (carries count) before r after

-- the first read command of a range
abbrev pub MakesRead : ℕ → ℕ → List ℕ → Result Made Refusal → List ℕ → Type 0
MakesRead offset count before r after =
    Tells (range_refusal offset count (length before)) (first_read offset count) (carries count) before r after

-- the erase command of a range, which is for all of it
abbrev pub MakesErase : ℕ → ℕ → List ℕ → Result Made Refusal → List ℕ → Type 0
MakesErase offset count before r after =
    Tells (range_refusal offset count (length before)) (only_erase offset count) count before r after

-- ---- the judge

-- what is answered to a write that is done, and to an erase
abbrev pub done_reply : List ℕ
done_reply = ack_byte ∷ ack_byte ∷ ack_byte ∷ []

abbrev pub erased_reply : List ℕ
erased_reply = ack_byte ∷ ack_byte ∷ []

-- what is answered to a read: three times ACK, then the bytes
abbrev pub read_reply : List ℕ → List ℕ
read_reply bytes = done_reply ++ bytes

-- a reply is judged: yes exactly when it is the right one
pub record Judges (right reply : List ℕ) (r : Bool) : Type 0 where
  pub yes : r ≡ true → reply ≡ right
  pub no : reply ≡ right → r ≡ true
