-- Lines of frames that a session only gathers: each is answered by `>`, and the session has taken their bytes.
use Rattle.std.specs.Prelude.{ℕ, zero, suc, ◌+◌, ◌≤◌, ◌≡◌, Bool, List, [], ◌∷◌, ◌++◌, length, take, drop}
use Rattle.memories.specs.Memories.{Memories, proper}
use Rattle.boot.specs.Promise.{state_of}
use Rattle.boot.specs.declared.Session.{Session}
use Rattle.boot.specs.Gathering.{SilentFrame}
use Rattle.desk_lines.specs.Lines.{line_feed, id_characters, fields, id_in}
use Rattle.desk_written.specs.First.{behind_letter, FrameFirst}
use Rattle.desk_answers.specs.Answers.{answered}
use Rattle.desk_answers.specs.Told.{Told}
use Rattle.desk_answers.specs.Desk.{Desk, hears}

-- a text begins with a line that ends at a place and writes a frame that a step of CAN only gathers; its data bytes are the first of some bytes
pub record SilentLine (step taken expected : ℕ) (text : List ℕ) (end count : ℕ) (new : List ℕ) : Type 0 where
  pub first : FrameFirst text end
  pub silent : SilentFrame step taken expected (id_in (behind_letter end text)) count
  pub counted : count ≡ length (fields (drop id_characters (behind_letter end text)))
  pub bytes : take count new ≡ fields (drop id_characters (behind_letter end text))

-- the desk before a line begins, asked for reasons or not
abbrev pub at_line : Bool → Session → Memories → ℕ → Desk
at_line why s m lines = record { why = why; state = state_of s m; lines = lines; line = [] }

-- the answers to so many lines that were understood and have no reply
abbrev pub nods : ℕ → List ℕ
nods zero = []
nods (suc n) = answered ∷ line_feed ∷ nods n

-- something is told behind a text
abbrev pub behind : {A : Type 0} → List ℕ → Told A → Told A
behind l t = record { text = l ++ t.text; state = t.state }

-- the first n characters of a text are lines of frames that are only gathered, and leave another session, whatever the memories hold; whether these
-- have their lengths is given
pub record PassesLines (s : Session) (right : Bool) (text : List ℕ) (next : Session) (lines n : ℕ) : Type 0 where
  pub within : n ≤ length text
  pub few : lines + lines ≤ n
  pub told : (why : Bool) (m : Memories) → proper m ≡ right → (k : ℕ)
      → hears text (at_line why s m k) ≡ behind (nods lines) (hears (drop n text) (at_line why next m (k + lines)))
