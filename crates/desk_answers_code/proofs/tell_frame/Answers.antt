-- The frame is made, the call leaves what it promises, the front of the room, which is whole frames, is printed, and the NACK noted.
use native.Mathlib.Omega.{arith}
use mathlib.Core.Path.{◌≡◌, refl, sym, ap, subst, ◌∙◌}
use mathlib.Core.List.{List, [], ◌∷◌}
use Prim.Native.Nat.{ℕ, ◌%◌, ◌≤◌}
use lib.ListN.{length, take, replicate}
use lib.Seq.{length-take-le}
use Rattle.frames.specs.Frames.{classic, frame_bytes}
use Rattle.memories.specs.Lent.{holds}
use Rattle.memories.specs.Memories.{Memories}
use Rattle.boot.specs.Calls.{Input, Framed}
use Rattle.boot.specs.Promise.{Left, left, Given, given_frame, state_of, outcome}
use Rattle.desk_lines.proofs.Lines.{frame_good}
use Rattle.desk_answers.specs.Answers as A
use Rattle.desk_answers.specs.Answers.{desk_room, reply_of, tells, why_of}
use Rattle.desk_answers.specs.Promise.{Tells}
use Rattle.desk_answers.proofs.Telling.{took_fits, took_reply, input_told, input_noted, frame_whole, one_call}
use Rattle.desk_answers_code.proofs.tell_frame.Goals as goal
use Rattle.desk_answers_code.proofs.tell_frame.Goals.{After-take_frame-taken}

-- the memories before the call and after it, what it was given, and what it left
abbrev before : After-take_frame-taken → Memories
before c = holds c.args.lent.now

abbrev after : After-take_frame-taken → Memories
after c = holds c.take_frame-taken.new.lent

abbrev given : After-take_frame-taken → Given
given c = given_frame c.args.begun.session c.frame.new.out (before c) (replicate desk_room 0)

abbrev leaves : After-take_frame-taken → Left
leaves c = left c.take_frame-taken.result (after c) c.take_frame-taken.new.buffer

-- its reply is no longer than the room lent for it, and stands there whole
fits : (c : After-take_frame-taken) → c.take_frame-taken.result.length ≤ desk_room
fits c = took_fits (given c) (leaves c) c.take_frame-taken.ensures.took c.take_frame-taken.auto.buffer

whole : (c : After-take_frame-taken) → length (take c.take_frame-taken.result.length (leaves c).buffer) ≡ c.take_frame-taken.result.length
whole c =
    length-take-le c.take_frame-taken.result.length (leaves c).buffer (omega (arith, fits c, c.take_frame-taken.auto.buffer))

pub slice_bounds-buffer-end : goal.slice_bounds-buffer-end
slice_bounds-buffer-end c =
    omega (arith, fits (goal.at.slice_bounds-buffer-end c).After-take_frame-taken, c.take_frame-taken.auto.buffer)

pub slice_bounds-frames-end : goal.slice_bounds-frames-end
slice_bounds-frames-end c = sym (whole (goal.at.slice_bounds-frames-end c).After-take_frame-taken)

pub frames-end-requires : goal.frames-end-requires
unfolding outcome
frames-end-requires c =
    let taken = (goal.at.frames-end-requires c).After-take_frame-taken in
    let o = frame_good c.args.rest.now c.requires.t in (
      ap (λ (r : List ℕ). length r % frame_bytes classic) (took_reply (given taken) (leaves taken) c.take_frame-taken.ensures.took)
          ∙ frame_whole desk_room c.frame.new.out (given taken).state,
      omega (arith, whole taken, fits taken, o.long, c.requires.rest_in_bounds),
    )

pub note-noted-requires : goal.note-noted-requires
note-noted-requires c = omega (arith, (frame_good c.args.rest.now c.requires.t).long, c.requires.rest_in_bounds_2)

pub returns : goal.returns
returns c =
    let taken = (goal.at.returns c).After-take_frame-taken in
    let noted = c.note-noted in
    let printed = c.frames-end in
    let frame = c.frame.new.out in
    let input : ℕ → Input = λ n. Framed n frame in
    let lent : List ℕ = replicate desk_room 0 in
    let out = printed.new.out in
    let notes = noted.new.notes in
    let o = frame_good c.args.rest.now c.requires.t in
    let p = (given taken).state in
    let q = state_of c.take_frame-taken.result.session (after taken) in
    record {
      told = subst (λ (w : List ℕ). Tells (tells (Framed desk_room w ∷ []) p) c.args.begun.end c.args.out.now printed.result out q)
          c.frame.ensures
          (one_call reply_of (Framed desk_room frame) p c.args.begun.end printed.result c.args.out.now out q
          (input_told input c.args.begun.session (before taken) lent refl
          c.take_frame-taken.result (after taken) (leaves taken).buffer c.take_frame-taken.ensures.took c.args.begun.end printed.result
          c.args.out.now out printed.ensures.0 printed.ensures.2));
      noted = subst (λ (w : List ℕ). Tells (A.notes (Framed desk_room w ∷ []) p) c.args.begun.noted c.args.notes.now noted.result notes q)
          c.frame.ensures
          (one_call why_of (Framed desk_room frame) p c.args.begun.noted noted.result c.args.notes.now notes q
          (input_noted input c.args.begun.session (before taken) lent refl
          c.take_frame-taken.result (after taken) (leaves taken).buffer c.take_frame-taken.ensures.took c.args.begun.noted noted.result
          c.args.notes.now notes noted.ensures.noted));
      fits = (omega (arith, printed.ensures.1, whole taken, fits taken, o.long), omega (arith, noted.ensures.few, o.long));
      same = c.take_frame-taken.ensures.same;
    }
