-- The program desk, over a whole input and character by character: document 01, "The program desk".
use Rattle.std.specs.Prelude.{ℕ, suc, ◌≡◌, Bool, List, [], ◌∷◌, ◌++◌, eqb, ltb, length}
use Rattle.std.specs.Prelude.{if◌then◌else◌}
use Rattle.memories.specs.Memories.{fresh_memories}
use Rattle.boot.specs.Calls.{State, powered}
use Rattle.desk_lines.specs.Lines.{line_feed, most_characters}
use Rattle.desk_answers.specs.Told.{Told, quiet, ◌then◌}
use Rattle.desk_answers.specs.Answers.{answer}

-- ---- a whole input

-- the lines of an input behind one that has begun: each is ended by LF, the last optionally
abbrev pub lines_from : List ℕ → List ℕ → List (List ℕ)
lines_from [] [] = []
lines_from (b ∷ begun) [] = (b ∷ begun) ∷ []
lines_from begun (c ∷ cs) = if eqb c line_feed then begun ∷ lines_from [] cs else lines_from (begun ++ c ∷ []) cs

-- the answers to lines, of which the first has number n
abbrev pub answers_from : Bool → ℕ → List (List ℕ) → State → List ℕ
answers_from why n [] p = []
answers_from why n (line ∷ lines) p = (answer why n line p).text ++ answers_from why (suc n) lines (answer why n line p).state

-- what desk prints, asked for reasons or not, from the fresh board, just powered
abbrev pub prints : Bool → List ℕ → List ℕ
prints why input = answers_from why 1 (lines_from [] input) (powered fresh_memories)

-- ---- character by character

-- whether it is asked for reasons, the board, how many lines were answered, and what is kept of the line that has begun
pub record Desk : Type 0 where
  pub why : Bool
  pub state : State
  pub lines : ℕ
  pub line : List ℕ

-- the desk at the start
abbrev pub fresh_desk : Bool → Desk
fresh_desk why = record { why = why; state = powered fresh_memories; lines = 0; line = [] }

-- what is kept of a line: one character more than it may have tells that it is too long
abbrev pub kept_characters : ℕ
kept_characters = suc most_characters

abbrev pub keep : List ℕ → ℕ → List ℕ
keep line c = if ltb (length line) kept_characters then line ++ c ∷ [] else line

-- a line ends, and is answered
abbrev pub line_ends : Desk → Told Desk
line_ends d =
    answer d.why (suc d.lines) d.line d.state
    then λ p. quiet (record { why = d.why; state = p; lines = suc d.lines; line = [] })

-- a character that ends no line is kept
abbrev pub kept : Desk → ℕ → Desk
kept d c = record { why = d.why; state = d.state; lines = d.lines; line = keep d.line c }

-- characters come in, and each line is answered as soon as its LF does
unfoldable pub hears : List ℕ → Desk → Told Desk
hears [] d = quiet d
hears (c ∷ cs) d = if eqb c line_feed then line_ends d then hears cs else hears cs (kept d c)

-- the input ends, and with it a line that has begun
unfoldable pub input_ends : Desk → Told Desk
input_ends d = if ltb 0 (length d.line) then line_ends d else quiet d

-- ---- the two together

-- what is printed does not depend on how the input comes in
pub record DeskPrints : Type 0 where
  -- characters heard to the end of the input print what the paper says of its lines
  pub whole : (why : Bool) (input : List ℕ) → (hears input (fresh_desk why) then input_ends).text ≡ prints why input
  -- and those that come in two parts print and leave what they would in one
  pub parts : (a b : List ℕ) (d : Desk) → hears (a ++ b) d ≡ (hears a d then hears b)
