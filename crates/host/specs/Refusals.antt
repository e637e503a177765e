-- Why no command is made: document 02, Wish 5, "Refusals, in this order".
use Rattle.std.specs.Prelude.{ℕ, ◌+◌, not, eqb, leb, Result, Ok, Err, ⊤}
use Rattle.std.specs.Prelude.{if◌then◌else◌}
use Rattle.board.specs.Board.{flash}
use Rattle.host.specs.declared.Refusal.{Refusal}
use Rattle.host.specs.declared.Refusal.TheVariants.{WrongImage, OutsideFlash, ShortRoom}

-- the room that must be lent for a command
abbrev pub command_room : ℕ
command_room = 265

-- the number of each refusal
abbrev pub refusal_no : Refusal → ℕ
refusal_no WrongImage = 1
refusal_no OutsideFlash = 2
refusal_no ShortRoom = 3

-- the number of what was tested or is told: that of its refusal, and 0 where it is accepted
abbrev pub tested_no : {A : Type 0} → Result A Refusal → ℕ
tested_no (Ok _) = 0
tested_no (Err e) = refusal_no e

-- of a range and a room of so many bytes: offset + count over 32,768, room under 265 bytes
unfoldable pub range_refusal : ℕ → ℕ → ℕ → Result ⊤ Refusal
range_refusal offset count room =
    if not (leb (offset + count) flash.bytes) then Err OutsideFlash
    else if not (leb command_room room) then Err ShortRoom
    else Ok tt

-- of an image of so many bytes besides: wrong image length first
unfoldable pub write_refusal : ℕ → ℕ → ℕ → ℕ → Result ⊤ Refusal
write_refusal image offset count room =
    if not (eqb image flash.bytes) then Err WrongImage
    else range_refusal offset count room
