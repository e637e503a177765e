-- What is printed for a line, and what becomes of the board: document 01, "The program desk".
use Rattle.std.specs.Prelude.{ℕ, Bool, List, [], ◌∷◌, ◌++◌, map, drop}
use Rattle.can.specs.Conversation.{can_room}
use Rattle.boot.specs.Calls.{State, Input, Power, Byte, Framed, Outcome, call}
use Rattle.std.specs.Prelude.{if◌then◌else◌}
use Rattle.words.specs.Hex.{space}
use Rattle.desk_lines.specs.Lines.{line_feed, fields, frame_written, kind_of}
use Rattle.desk_print.specs.Digits.{decimal}
use Rattle.desk_print.specs.Prints.{spelled, spelled_frames}
use Rattle.desk_answers.specs.Told.{Told, quiet, ◌then◌}
use Rattle.desk_answers.specs.Why.{note_of, explanations}
use Rattle.desk_lines.specs.declared.Kind.{Kind}
use Rattle.desk_lines.specs.declared.Kind.TheVariants.{Bytes, Frame, PowerOn, Other}

-- the characters that begin an answer
abbrev pub answered : ℕ
answered = 0x3E

abbrev pub not_understood : ℕ
not_understood = 0x3F

-- the room that desk lends for a reply: what either carrier needs
abbrev pub desk_room : ℕ
desk_room = can_room

-- a reply as it is printed for an input: bytes for a byte, frames for a frame
abbrev pub spelled_for : Input → List ℕ → List ℕ
spelled_for Power reply = []
spelled_for (Byte room b) reply = spelled reply
spelled_for (Framed room l) reply = spelled_frames reply

-- ---- calls, and what is told of each

-- what is told of a call, by its input and its outcome
abbrev pub Teller : Type 0
Teller = Input → Outcome → List ℕ

-- a call is made, and told
unfoldable pub made : Teller → Input → State → Told State
made f i p = record { text = f i (call i p); state = (call i p).state }

-- calls are made one after another, and what is told of them is joined
unfoldable pub makes : Teller → List Input → State → Told State
makes f [] p = quiet p
makes f (i ∷ is) p = made f i p then makes f is

-- a reply is printed; a refused call has none, and adds nothing
abbrev pub reply_of : Teller
reply_of i o = spelled_for i o.reply

-- the replies of calls, joined
abbrev pub tells : List Input → State → Told State
tells is p = makes reply_of is p

-- a NACK is noted
abbrev pub why_of : Teller
why_of i o = note_of o.reason o.place

-- the notes of calls, joined
abbrev pub notes : List Input → State → Told State
notes is p = makes why_of is p

-- ---- the answer to a line

-- the calls that a line of a kind makes
abbrev pub calls_of : Kind → List ℕ → List Input
calls_of Bytes line = map (Byte desk_room) (fields (drop 1 line))
calls_of Frame line = Framed desk_room (frame_written (drop 1 line)) ∷ []
calls_of PowerOn line = Power ∷ []
calls_of Other line = []

-- why NACKs came, where desk is asked for reasons
abbrev pub explained : Bool → List ℕ → List ℕ
explained why noted = if why then explanations noted else []

-- a line that makes calls is answered by `>` and their replies, and why NACKs came stands behind it
abbrev pub obeyed : Bool → List Input → State → Told State
obeyed why is p = record {
  text = answered ∷ (tells is p).text ++ line_feed ∷ explained why (notes is p).text;
  state = (tells is p).state;
}

-- another line by `?` and its number, and it changes nothing
abbrev pub notice : ℕ → List ℕ
notice n = not_understood ∷ space ∷ decimal n ++ line_feed ∷ []

abbrev pub unobeyed : ℕ → State → Told State
unobeyed n p = record { text = notice n; state = p }

-- the answer to line n, by its kind
unfoldable pub answer_by : Bool → Kind → ℕ → List ℕ → State → Told State
answer_by why Bytes n line p = obeyed why (calls_of Bytes line) p
answer_by why Frame n line p = obeyed why (calls_of Frame line) p
answer_by why PowerOn n line p = obeyed why (calls_of PowerOn line) p
answer_by why Other n line p = unobeyed n p

-- the answer to line n, of a desk that is asked for reasons or not
unfoldable pub answer : Bool → ℕ → List ℕ → State → Told State
answer why n line p = answer_by why (kind_of line) n line p
