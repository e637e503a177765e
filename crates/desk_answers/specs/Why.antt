-- Why a command was refused: the line that desk prints for a NACK where it is asked for reasons (document 02, Wish 2).
use Rattle.std.specs.Prelude.{ℕ, ◌≡◌, List, [], ◌∷◌, ◌++◌, map, eqb, get_or}
use Prim.Native.String.{String}
use Rattle.std.specs.Prelude.{if◌then◌else◌}
use Rattle.words.specs.Texts.{characters}
use Rattle.command.specs.Numbers.{whys}
use Rattle.command.specs.Why.{no_reason, reason}
use Rattle.command.specs.declared.Why.{Why}
use Rattle.command.specs.declared.Why.TheVariants.{BadComplement, UnknownCommand, AccessProtected, OtherFrame, BadChecksum, BadAddress}
use Rattle.command.specs.declared.Why.TheVariants.{BadRange, BadSector, WriteProtected, UnsupportedErase, BadSpeed}
use Rattle.desk_lines.specs.Lines.{line_feed}
use Rattle.desk_print.specs.Digits.{decimal}

-- what is noted of a call: the reason and the place of the NACK in its reply, where there is one
abbrev pub note_of : ℕ → ℕ → List ℕ
note_of reason place = if eqb reason no_reason then [] else reason ∷ place ∷ []

-- document 02's words for each reason
abbrev pub words_of : Why → String
words_of BadComplement = "bad complement or DLC"
words_of UnknownCommand = "unknown command"
words_of AccessProtected = "access protected"
words_of OtherFrame = "frame of another ID or empty frame"
words_of BadChecksum = "bad checksum"
words_of BadAddress = "bad address"
words_of BadRange = "bad count or range"
words_of BadSector = "bad sector number"
words_of WriteProtected = "write-protected sector"
words_of UnsupportedErase = "unsupported erase"
words_of BadSpeed = "bad speed"

-- the words by the numbers of the reasons, which are counted from 1; 0 is none, and has none
abbrev pub words : List String
words = "" ∷ map words_of whys

-- the characters of a number's words
abbrev pub words_for : ℕ → List ℕ
words_for n = characters (get_or words n "")

-- the most characters of a reason's words
abbrev pub most_words : ℕ
most_words = 34

-- each reason is said in its own words
abbrev pub InItsWords : Type 0
InItsWords = (w : Why) → words_for (reason w) ≡ characters (words_of w)

-- the line of a NACK: `!`, its reason, its place and the reason in words
abbrev pub explanation : ℕ → ℕ → List ℕ
explanation reason place =
    characters "! " ++ decimal reason ++ characters " " ++ decimal place ++ characters " " ++ words_for reason ++ line_feed ∷ []

-- a line for each NACK that was noted
abbrev pub explanations : List ℕ → List ℕ
explanations [] = []
explanations (reason ∷ []) = []
explanations (reason ∷ place ∷ rest) = explanation reason place ++ explanations rest
