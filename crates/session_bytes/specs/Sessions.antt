-- A session as the bytes that it is lent in: its numbers one behind the other, each high byte first, and the staged bytes.
use Rattle.std.specs.Prelude.{ℕ, ◌+◌, Bool, List, [], ◌∷◌, ◌++◌, eqb, length, get_or}
use Rattle.std.specs.Prelude.{if◌then◌else◌}
use Rattle.words.specs.Bytes.{number, four_bytes}
use Rattle.words.specs.Lists.{part}
use Rattle.numbers.specs.Numbers.{short_bytes, long_bytes, eight_bytes}
use Rattle.memories.specs.Effects.{staged_bytes}
use Rattle.command.specs.Progress.{progress_at}
use Rattle.carriers.specs.Carriers.{carrier_no}
use Rattle.carriers.specs.declared.Carrier.TheVariants.{Running}
use Rattle.boot.specs.Session.{session_of, progress, in_step, fresh}
use Rattle.boot.specs.declared.Session.{Session}

-- where each number stands, and where the staged bytes begin
abbrev pub carrier_place : ℕ
carrier_place = 0

abbrev pub step_place : ℕ
step_place = 1

abbrev pub taken_place : ℕ
taken_place = 2

abbrev pub expected_place : ℕ
expected_place = 10

abbrev pub address_place : ℕ
address_place = 18

abbrev pub speed_place : ℕ
speed_place = 22

abbrev pub staged_place : ℕ
staged_place = 23

-- how many bytes a session is lent in: 280
abbrev pub session_length : ℕ
session_length = staged_place + staged_bytes

-- the bytes of a session
unfoldable pub session_bytes : Session → List ℕ
session_bytes s =
    (s.carrier ∷ s.step ∷ []) ++ eight_bytes s.taken ++ eight_bytes s.expected ++ four_bytes s.address
    ++ (s.speed ∷ []) ++ s.staged

-- a slice holds a session: it has the length of one
abbrev pub holds_session : List ℕ → Bool
holds_session l = eqb (length l) session_length

-- the session whose bytes these are
unfoldable pub held_in : List ℕ → Session
held_in l =
    session_of (get_or l carrier_place 0) (get_or l step_place 0)
    (progress_at (number (part taken_place long_bytes l)) (number (part expected_place long_bytes l)) (number (part address_place short_bytes l))
    (part staged_place staged_bytes l)) (get_or l speed_place 0)

-- no session: its carrier exceeds 3, so it is unsound
abbrev pub no_session : Session
no_session = in_step (carrier_no Running + 1) 0 (progress fresh) fresh

-- the session that a slice holds; a slice of another length holds none
unfoldable pub session_in : List ℕ → Session
session_in l = if holds_session l then held_in l else no_session
