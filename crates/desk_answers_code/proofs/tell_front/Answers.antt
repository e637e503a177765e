-- Nothing is told of what is only gathered; of the byte behind it the front of the room is printed, and its NACK noted.
use native.Mathlib.Omega.{arith}
use mathlib.Core.Path.{◌≡◌, refl, sym}
use mathlib.Core.List.{List, map}
use Prim.Native.Nat.{ℕ, suc, ◌+◌, ◌≤◌}
use lib.ListN.{length, get_or, take, drop, replicate}
use lib.Seq.{length-take-le}
use Rattle.memories.specs.Lent.{holds}
use Rattle.memories.specs.Memories.{Memories}
use Rattle.boot.specs.Session.{gathered}
use Rattle.boot.specs.Calls.{State, Byte}
use Rattle.boot.specs.Promise.{Left, left, state_of, Given, given_byte}
use Rattle.boot.specs.declared.Session.{Session}
use Rattle.desk_answers.specs.Answers.{desk_room, made, makes, reply_of, tells, why_of, notes}
use Rattle.desk_answers.proofs.Telling.{took_fits, byte_told, input_noted, one_told}
use Rattle.desk_answers_code.proofs.Passing.{told_as, front_told}
use Rattle.desk_answers_code.proofs.tell_front.Goals as goal
use Rattle.desk_answers_code.proofs.tell_front.Goals.{After-take_front-front}

-- the memories before the call that was made, and after it
abbrev before : After-take_front-front → Memories
before c = holds c.args.lent.now

abbrev after : After-take_front-front → Memories
after c = holds c.take_front-front.new.lent

-- the bytes that were only gathered, the session with them, and the byte behind them
abbrev silent : After-take_front-front → ℕ
silent c = c.take_front-front.result.silent

abbrev session : After-take_front-front → Session
session c = gathered (take (silent c) c.args.bytes.now) c.args.begun.session

abbrev byte : After-take_front-front → ℕ
byte c = get_or c.args.bytes.now (silent c) 0

-- what its call was given, and what it left
abbrev given : After-take_front-front → Given
given c = given_byte (session c) (byte c) (before c) (replicate desk_room 0)

abbrev leaves : After-take_front-front → Left
leaves c = left c.take_front-front.result.taken (after c) c.take_front-front.new.buffer

-- its reply is no longer than the room lent for it
fits : (c : After-take_front-front) → c.take_front-front.result.taken.length ≤ desk_room
fits c = took_fits (given c) (leaves c) c.take_front-front.ensures.took.took c.take_front-front.auto.buffer

-- and is as long as is said
long : (c : After-take_front-front)
    → length (take c.take_front-front.result.taken.length c.take_front-front.new.buffer) ≡ c.take_front-front.result.taken.length
long c = length-take-le c.take_front-front.result.taken.length c.take_front-front.new.buffer (omega (arith, fits c, c.take_front-front.auto.buffer))

pub slice_bounds-bytes-end : goal.slice_bounds-bytes-end
slice_bounds-bytes-end c = sym (long (goal.at.slice_bounds-bytes-end c).After-take_front-front)

pub bytes-end-requires : goal.bytes-end-requires
bytes-end-requires c =
    let taken = (goal.at.bytes-end-requires c).After-take_front-front in
    omega (arith, long taken, fits taken, c.requires.field_characters_in_bounds)

pub note-noted-requires : goal.note-noted-requires
note-noted-requires c = omega (arith, c.requires.note_numbers_in_bounds)

pub returns : goal.returns
unfolding makes
returns c =
    let taken = (goal.at.returns c).After-take_front-front in
    let noted = c.note-noted in
    let printed = c.bytes-end in
    let k = c.take_front-front.ensures.took in
    let end = rw (long taken) at printed.ensures.0 in
    let lent : List ℕ = replicate desk_room 0 in
    let begun : State = state_of c.args.begun.session (before taken) in
    let here : State = state_of (session taken) (before taken) in
    let others = map (Byte desk_room) (drop (suc (silent taken)) c.args.bytes.now) in
    let e : silent taken + 1 ≡ suc (silent taken) = omega arith in
    record {
      some = (omega arith, omega (arith, k.within));
      told = rw e
          (one_told (made reply_of (Byte desk_room (byte taken)) here) (tells others)
          (told_as (front_told reply_of (λ b p. refl) c.args.bytes.now (silent taken) begun k.within k.silent) c.args.begun.end c.args.out.now)
          (byte_told (session taken) (byte taken) (before taken) lent refl c.take_front-front.result.taken (after taken)
          (leaves taken).buffer k.took c.args.begun.end printed.result c.args.out.now printed.new.out
          end printed.ensures.1));
      noted = rw e
          (one_told (made why_of (Byte desk_room (byte taken)) here) (notes others)
          (told_as (front_told why_of (λ b p. refl) c.args.bytes.now (silent taken) begun k.within k.silent) c.args.begun.noted c.args.notes.now)
          (input_noted (λ (n : ℕ). Byte n (byte taken)) (session taken) (before taken) lent refl c.take_front-front.result.taken (after taken)
          (leaves taken).buffer k.took c.args.begun.noted noted.result c.args.notes.now noted.new.notes
          noted.ensures.noted));
      fits = (omega (arith, fits taken, end), noted.ensures.few);
      same = c.take_front-front.ensures.same;
    }
