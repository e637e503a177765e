-- What the functions that answer promise: every part of what they give back and every byte lent.
use Rattle.std.specs.Prelude.{ℕ, ◌+◌, ◌*◌, ◌≡◌, List, length}
use Rattle.words.specs.Over.{put}
use Rattle.desk_print.specs.Prints.{number_room}
use Rattle.desk_answers.specs.Answers.{desk_room}
use Rattle.desk_answers.specs.Told.{Told}

-- what is told stands in a text from one place to another, the text is else unchanged, and a state is as told
pub record Tells {A : Type 0} (t : Told A) (at : ℕ) (before : List ℕ) (until : ℕ) (after : List ℕ) (now : A) : Type 0 where
  pub end : until ≡ at + length t.text
  pub text : after ≡ put before at t.text
  pub state : now ≡ t.state

-- what is left to tell from a place in a text on ends as the whole does
pub record Continues {A : Type 0} (rest : Told A) (from : ℕ) (out : List ℕ) (whole : Told A) (at : ℕ) (before : List ℕ) : Type 0 where
  pub end : from + length rest.text ≡ at + length whole.text
  pub text : put out from rest.text ≡ put before at whole.text
  pub state : rest.state ≡ whole.state

-- the most characters of the notice that bears a line's number
abbrev pub notice_room : ℕ
notice_room = number_room + 3

-- the most numbers that are noted of a call, and the most characters that a number makes desk print: half of an explanation
abbrev pub note_numbers : ℕ
note_numbers = 2

abbrev pub note_room : ℕ
note_room = 40

-- the most characters that a character of a line may make desk print: of each field a whole reply, a byte in three characters, and what is noted of it
abbrev pub character_room : ℕ
character_room = desk_room + note_room

-- the most that the answer to a line of n characters may need
abbrev pub answer_room : ℕ → ℕ
answer_room n = character_room * n + notice_room
