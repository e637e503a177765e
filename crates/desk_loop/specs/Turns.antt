-- What is so between two reads, and what some text that was read has left.
use Rattle.std.specs.Prelude.{ℕ, ◌+◌, ◌*◌, ◌^◌, ◌≤◌, ◌≡◌, Bool, List, [], Result, IfOk, ltb, length}
use Rattle.words.specs.Over.{put}
use Rattle.memories.specs.Memories.{Memories}
use Rattle.boot.specs.Calls.{powered}
use Rattle.desk_answers.specs.Promise.{character_room}
use Rattle.desk_answers.specs.Told.{◌then◌}
use Rattle.desk_answers.specs.Desk as D
use Rattle.desk_answers.specs.Desk.{kept_characters, hears, input_ends}
use Rattle.keeping.specs.declared.Untold.{Untold}
use Rattle.desk_hearing.specs.declared.Desk.{Desk}

-- the most characters that one read brings
abbrev pub read_characters : ℕ
read_characters = 4096

-- the room for what one read makes it print, whatever it is
abbrev pub out_characters : ℕ
out_characters = character_room * (kept_characters + read_characters)

-- the most characters that all reads bring
abbrev pub most_characters : ℕ
most_characters = 2 ^ 63

-- there is room for the line that has begun and for the answers, and none is left unwritten
pub record Ready (d : Desk) (line out : List ℕ) : Type 0 where
  pub room : length line ≡ kept_characters
  pub kept : d.kept ≤ kept_characters
  pub written : d.end ≡ 0
  pub answers : out_characters ≤ length out

-- a read has brought some text: the desk is then as the paper says of it, and its answers stand at the front of the room for them; where all that
-- was to be kept and answered could be, it goes on where there was any
pub record Turns (before : D.Desk) (lent : List ℕ) (after : D.Desk) (left : List ℕ) (going : Result Bool Untold) : Type 0 where
  pub text : List ℕ
  pub few : length text ≤ read_characters
  pub desk : after ≡ (hears text before).state
  pub told : left ≡ put lent 0 (hears text before).text
  pub more : IfOk going (λ more. more ≡ ltb 0 (length text))

-- the desk at the start, at a board with such memories
abbrev pub desk_at : Bool → Memories → D.Desk
desk_at why m = record { why = why; state = powered m; lines = 0; line = [] }

-- a desk is what another becomes by some text of at most so many characters
pub record HasHeard (most : ℕ) (before d : D.Desk) : Type 0 where
  pub text : List ℕ
  pub few : length text ≤ most
  pub desk : d ≡ (hears text before).state

-- a desk, asked for reasons or not, is what a board that began with these memories, just powered, becomes by some text of at most so many characters
-- and the end of the input
pub record LeftBy (most : ℕ) (why : Bool) (m : Memories) (d : D.Desk) : Type 0 where
  pub text : List ℕ
  pub few : length text ≤ most
  pub desk : d ≡ (hears text (desk_at why m) then input_ends).state
