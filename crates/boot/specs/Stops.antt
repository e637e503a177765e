-- Where the call of a slice stops, said of its bytes by their places: document 02, Wish 4.
use Rattle.std.specs.Prelude.{ℕ, ◌+◌, ◌≤◌, ◌<◌, ◌≡◌, true, List, map, length, take, get_or}
use Rattle.words.specs.Lists.{join}
use Rattle.boot.specs.Causes.{accepts}
use Rattle.boot.specs.Calls.{State, Byte, Outcome, call}
use Rattle.boot.specs.Slices.{one_by_one, after_bytes, how_many}

-- what the call of byte i comes to, where all before it were taken
abbrev pub call_at : List ℕ → State → ℕ → Outcome
call_at bs p i = call (Byte 257 (get_or bs i 0)) (after_bytes (take i bs) p)

-- the replies before it
abbrev pub replies_before : List ℕ → State → ℕ → List ℕ
replies_before bs p i = join (map (λ (o : Outcome). o.reply) (take i (one_by_one bs p)))

-- byte i may be taken: behind the replies before it 257 bytes of room are left, and its call is accepted
pub record MayBeTaken (room : ℕ) (bs : List ℕ) (p : State) (i : ℕ) : Type 0 where
  pub enough : length (replies_before bs p i) + 257 ≤ room
  pub clear : accepts (call_at bs p i).cause ≡ true

-- the first n bytes may all be taken, and the one behind them, if there is one, may not
pub record StopsAt (room : ℕ) (bs : List ℕ) (p : State) (n : ℕ) : Type 0 where
  pub within : n ≤ length bs
  pub each : (i : ℕ) → i < n → MayBeTaken room bs p i
  pub next : n < length bs → MayBeTaken room bs p n → ⊥

-- so many are taken, whatever the room, the bytes and the board
abbrev pub Stops : Type 0
Stops = (room : ℕ) (bs : List ℕ) (p : State) → StopsAt room bs p (how_many room (one_by_one bs p))
