-- The example of document 01, "The program desk", and one of desk that is asked for reasons.
use Rattle.std.specs.Prelude.{ℕ, ◌≡◌, true, false, List, [], ◌∷◌, ◌++◌}
use Prim.Native.String.{String}
use Rattle.words.specs.Texts.{characters}
use Rattle.desk_lines.specs.Lines.{line_feed}
use Rattle.desk_answers.specs.Desk.{prints}

-- lines, each ended by LF
abbrev pub written : List String → List ℕ
written [] = []
written (t ∷ ts) = characters t ++ line_feed ∷ written ts

-- what is typed, and what is printed, whole
abbrev pub typed : List String
typed = "U 7F" ∷ "U 01 FE" ∷ "P" ∷ "C 079" ∷ "Q" ∷ []

abbrev pub printed : List String
printed = "> 79" ∷ "> 79 20 01 07 79" ∷ ">" ∷ "> 079:79" ∷ "? 5" ∷ []

-- the example holds
abbrev pub Example : Type 0
Example = prints false (written typed) ≡ written printed

-- a command that does not exist, and the address of a Read Memory whose checksum is wrong
abbrev pub mistyped : List String
mistyped = "U 7F 05 FA" ∷ "U 11 EE 08 00 00 00 00 11 EE 08 00 00 00 08" ∷ "U 00" ∷ []

-- each NACK is explained behind the answer to its line: the first fell at the command's second byte, the second at the seventh
abbrev pub explained_to : List String
explained_to = "> 79 1F" ∷ "! 2 2 unknown command" ∷ "> 79 1F 79 79" ∷ "! 5 7 bad checksum" ∷ ">" ∷ []

-- and that is what desk prints, asked for reasons
abbrev pub ExampleWhy : Type 0
ExampleWhy = prints true (written mistyped) ≡ written explained_to
