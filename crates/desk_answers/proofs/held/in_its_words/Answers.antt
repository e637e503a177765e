-- By the reason; its number is its place among the words.
use mathlib.Core.Path.{refl}
use Rattle.command.specs.declared.Why.TheVariants.{BadComplement, UnknownCommand, AccessProtected, OtherFrame, BadChecksum, BadAddress}
use Rattle.command.specs.declared.Why.TheVariants.{BadRange, BadSector, WriteProtected, UnsupportedErase, BadSpeed}
use Rattle.desk_answers.specs.Why.{InItsWords}
use Rattle.desk_answers.proofs.held.in_its_words.Goals as goal

in-its-words : InItsWords
in-its-words BadComplement = refl
in-its-words UnknownCommand = refl
in-its-words AccessProtected = refl
in-its-words OtherFrame = refl
in-its-words BadChecksum = refl
in-its-words BadAddress = refl
in-its-words BadRange = refl
in-its-words BadSector = refl
in-its-words WriteProtected = refl
in-its-words UnsupportedErase = refl
in-its-words BadSpeed = refl

pub returns : goal.returns
returns c = in-its-words
