-- The call of a slice and the calls of its bytes one by one, of the code: document 02, Wish 4. So all that is said of runs of calls, demand 3 too, is said of
-- slices.
use Rattle.std.specs.Prelude.{ℕ, ◌≤◌, ◌≡◌, T, eqb, length, take}
use mathlib.Core.List.{List, map, foldl}
use Rattle.words.specs.Lists.{all, join}
use Rattle.uart.specs.Conversation.{uart_room}
use Rattle.boot.specs.Promise.{Left}
use Rattle.boot.specs.Slices.{Nack, no_nack, later, nack_of, GivenBytes, TookBytes}
use Rattle.theorems.specs.Secrecy.{Call, TakeByte}
use Rattle.theorems.specs.Runs.{board_in, Ran, end_of}

-- the reply that a call has left
abbrev pub reply_in : Left → List ℕ
reply_in l = take l.result.length l.buffer

-- the calls of some bytes, each with a reply buffer that is long enough
abbrev pub singly : List ℕ → List ℕ → List Call
singly room bs = map (TakeByte room) bs

-- the later of a NACK and that of which a call has told, which may be none
abbrev pub later_in : Nack → Left → Nack
later_in n l = later n l.result.reason l.result.place

-- the call of a slice was accepted, took some bytes, and left this; calls of these bytes one by one have left that: each was accepted, the board is the
-- same, the replies are joined, and the reason is the last one that is not 0, with its place
pub record SameAsSingly (l : Left) (g : GivenBytes) (ls : List Left) : Type 0 where
  pub accepted : T (all (λ (k : Left). eqb k.result.number 0) ls)
  pub board : board_in l ≡ end_of g.state ls
  pub reply : reply_in l ≡ join (map reply_in ls)
  pub nack : nack_of l.result ≡ foldl later_in no_nack ls

abbrev pub SlicesAreRuns : Type 0
SlicesAreRuns =
    (g : GivenBytes) (n : ℕ) (l : Left) → TookBytes g n l → l.result.number ≡ 0 → (room : List ℕ) → uart_room ≤ length room
    → (ls : List Left) → Ran (singly room (take n g.bytes)) g.state ls → SameAsSingly l g ls
