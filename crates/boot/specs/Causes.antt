-- The five causes, in their order: document 01, "Calls and the five causes".
use Rattle.std.specs.Prelude.{ℕ, ◌≡◌, Bool, not, [], ◌∷◌, map, Result, Ok, Err, is_ok}
use Rattle.std.specs.Prelude.{if◌then◌else◌}
use Rattle.boot.specs.Session.{on, sound}
use Rattle.carriers.specs.declared.Carrier.TheVariants.{Running}
use Rattle.boot.specs.declared.Cause.{Cause}
use Rattle.boot.specs.declared.Cause.TheVariants.{WrongMemory, ShortReply, BadFrame, UnsoundSession, BoardRunning}
use Rattle.boot.specs.declared.Session.{Session}

-- how a call is judged: it is accepted, or refused for a cause
abbrev pub Judged : Type 0
Judged = Result (Unit {0}) Cause

-- it is accepted
abbrev pub accepted : Judged
accepted = Ok tt

-- the number of each cause, and of none
abbrev pub cause_no : Judged → ℕ
cause_no (Ok u) = 0
cause_no (Err WrongMemory) = 1
cause_no (Err ShortReply) = 2
cause_no (Err BadFrame) = 3
cause_no (Err UnsoundSession) = 4
cause_no (Err BoardRunning) = 5

-- the table of causes: 0 accepted, 1 wrong memory, 2 short reply buffer, 3 no frame, 4 unsound session, 5 running
abbrev pub CauseNumbers : Type 0
CauseNumbers =
    map cause_no (accepted ∷ Err WrongMemory ∷ Err ShortReply ∷ Err BadFrame ∷ Err UnsoundSession ∷ Err BoardRunning ∷ [])
    ≡ 0 ∷ 1 ∷ 2 ∷ 3 ∷ 4 ∷ 5 ∷ []

-- a call is accepted
abbrev pub accepts : Judged → Bool
accepts c = is_ok c

-- the first cause that holds, of memories with their lengths, room for the reply, a well-formed frame and a session
unfoldable pub cause_of : Bool → Bool → Bool → Session → Judged
cause_of memories room frame s =
    if not memories then Err WrongMemory
    else if not room then Err ShortReply
    else if not frame then Err BadFrame
    else if not (sound s) then Err UnsoundSession
    else if on Running s then Err BoardRunning
    else accepted
