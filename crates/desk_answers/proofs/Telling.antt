-- What a call left, as it is told: its reply, its NACK, and the state after it.
use mathlib.Core.Path.{◌≡◌, refl, sym, ap, ap₂, ◌∙◌}
use mathlib.Core.Bool.{Bool, true, false}
use mathlib.Core.List.{List, [], ◌∷◌, ◌++◌, append-nil, append_assoc}
use Prim.Native.Nat.{ℕ, ◌+◌, ◌*◌, ◌%◌, ◌≤◌}
use native.Mathlib.Omega.{arith}
use lib.Dec.{leb}
use borrow.Author.Tests.{leb-true, leb-false}
use lib.ListN.{length, set, take, drop, length-append, length-drop}
use lib.Seq.{take-append_seam}
use Rattle.words.specs.Over.{put, newer}
use Rattle.words.proofs.Over.{over_none, put_one, put_then}
use Rattle.std.specs.Prelude.{if◌then◌else◌}
use Rattle.memories.specs.Memories.{Memories}
use Rattle.memories.specs.Effects.{effect}
use Rattle.command.specs.Says.{says}
use Rattle.frames.specs.Frames.{classic, frame_bytes, frame_in}
use Rattle.frames.proofs.Cutting.{framed_whole}
use Rattle.boot.specs.Session.{after}
use Rattle.boot.specs.Causes.{accepts}
use Rattle.boot.specs.Calls.{State, powered, Input, Power, Byte, Framed, commands_of, bears, view_in, cause_for, decide, sent, perform, refused, call}
use Rattle.boot.specs.Promise.{Given, Left, left, given_byte, state_of, outcome, Took}
use Rattle.boot.specs.declared.Session.{Session}
use Rattle.boot.specs.declared.Taken.{Taken}
use Rattle.desk_lines.specs.Lines.{line_feed, most_characters, kind_of}
use Rattle.desk_answers.specs.Told.{Told, quiet, ◌then◌}
use Rattle.desk_print.specs.Adds.{Adds}
use Rattle.desk_print.specs.Prints.{spelled}
use Rattle.desk_answers.specs.Answers.{answered, desk_room, spelled_for, Teller, made, makes, reply_of, tells, why_of, notes}
use Rattle.desk_answers.specs.Answers.{calls_of, explained, obeyed, answer_by}
use Rattle.desk_answers.specs.Why.{note_of}
use Rattle.desk_answers.specs.Promise.{Tells, Continues}
use Rattle.desk_lines.specs.declared.Kind.{Kind}
use Rattle.desk_lines.specs.declared.Kind.TheVariants.{Bytes, Frame, PowerOn, Other}
use Rattle.desk_print.proofs.Printing.{length-spelled}
use Rattle.desk_lines.proofs.Lines.{kind_beyond}

module _ (g : Given) (l : Left) (t : Took g l) where
  -- a reply is no longer than the room lent for it
  pub took_fits : length l.buffer ≡ length g.buffer → l.result.length ≤ length g.buffer
  took_fits e =
      let r = (outcome g).reply in
      let n = t.count in
      let k = sym (ap length t.buffer) ∙ e in
      let a = length-append r (drop (length r) g.buffer) in
      let d = length-drop (length r) g.buffer in
      omega arith

  -- it stands at the front of the room
  pub took_reply : take l.result.length l.buffer ≡ (outcome g).reply
  took_reply = rw (t.count, t.buffer) (take-append_seam (outcome g).reply (drop (length (outcome g).reply) g.buffer))

-- an input was taken
module _ (input : ℕ → Input) (s : Session) (m : Memories) (lent : List ℕ) (room : length lent ≡ desk_room) where
  abbrev pub given : Given
  given = record { input = input (length lent); state = state_of s m; buffer = lent }

  module _ (r : Taken) (n : Memories) (buffer : List ℕ) (t : Took given (left r n buffer)) where
    -- what is told of its outcome stands in a text
    input_made : (f : Teller) (at end : ℕ) (out out' told : List ℕ) → told ≡ f (input (length lent)) (outcome given)
        → end ≡ at + length told → out' ≡ put out at told → Tells (made f (input desk_room) (state_of s m)) at out end out' (state_of r.session n)
    unfolding outcome made
    input_made f at end out out' told k e w = record {
      end = e ∙ ap (λ (b : List ℕ). at + length b) (k ∙ same);
      text = w ∙ ap (λ (b : List ℕ). put out at b) (k ∙ same);
      state = left_state ∙ ap (λ (k : ℕ). (call (input k) (state_of s m)).state) room;
    }
      where
        same : f (input (length lent)) (call (input (length lent)) (state_of s m)) ≡ f (input desk_room) (call (input desk_room) (state_of s m))
        same = ap (λ (k : ℕ). f (input k) (call (input k) (state_of s m))) room

        left_state : state_of r.session n ≡ (call (input (length lent)) (state_of s m)).state
        left_state = λ i. record {
          session = t.session i;
          memories = record { flash = t.flash i; sram = t.sram i; usd = t.usd i };
        }

    -- its reply was printed
    pub input_told : (at end : ℕ) (out out' : List ℕ)
        → end ≡ at + length (spelled_for (input (length lent)) (take r.length buffer))
        → out' ≡ put out at (spelled_for (input (length lent)) (take r.length buffer))
        → Tells (made reply_of (input desk_room) (state_of s m)) at out end out' (state_of r.session n)
    input_told at end out out' e w =
        input_made reply_of at end out out' (spelled_for (input (length lent)) (take r.length buffer))
        (ap (spelled_for (input (length lent))) (took_reply given (left r n buffer) t)) e w

    -- its NACK was noted
    pub input_noted : (at end : ℕ) (out out' : List ℕ) → Adds out at end out' (note_of r.reason r.place)
        → Tells (made why_of (input desk_room) (state_of s m)) at out end out' (state_of r.session n)
    input_noted at end out out' a =
        input_made why_of at end out out' (note_of r.reason r.place) (ap₂ note_of t.reason t.place) a.ends a.written

-- a byte was taken, and its reply printed in three characters each
pub byte_told : (s : Session) (b : ℕ) (m : Memories) (lent : List ℕ) → length lent ≡ desk_room
    → (r : Taken) (n : Memories) (buffer : List ℕ) → Took (given_byte s b m lent) (left r n buffer)
    → (at end : ℕ) (out out' : List ℕ) → end ≡ at + r.length * 3 → out' ≡ put out at (spelled (take r.length buffer))
    → Tells (made reply_of (Byte desk_room b) (state_of s m)) at out end out' (state_of r.session n)
byte_told s b m lent room r n buffer t at end out out' e w =
    let c = ap length (took_reply (given_byte s b m lent) (left r n buffer) t) ∙ sym t.count in
    let k = length-spelled (take r.length buffer) in
    input_told (λ (k : ℕ). Byte k b) s m lent room r n buffer t at end out out' (omega arith) w

-- the reply to a frame is whole frames
pub frame_whole : (room : ℕ) (f : List ℕ) (p : State) → length (call (Framed room f) p).reply % frame_bytes classic ≡ 0
unfolding call perform sent
frame_whole room f p = by_cause (accepts (cause_for (Framed room f) p))
  where
    by_cause : (a : Bool)
        → length (if a then perform (Framed room f) p (decide (Framed room f) p.session (view_in p)) else refused (cause_for (Framed room f) p) p).reply % frame_bytes classic ≡ 0
    by_cause true = framed_whole (bears p.session (frame_in f).id) (says (commands_of (Framed room f)) (decide (Framed room f) p.session (view_in p)).reply p.memories)
    by_cause false = refl

-- one call that is told is all that is
pub one_call : (f : Teller) (i : Input) (p : State) (at end : ℕ) (out out' : List ℕ) (q : State)
    → Tells (made f i p) at out end out' q → Tells (makes f (i ∷ []) p) at out end out' q
unfolding makes
one_call f i p at end out out' q h = record {
  end = h.end ∙ ap (λ (t : List ℕ). at + length t) (sym (append-nil (made f i p).text));
  text = h.text ∙ ap (λ (t : List ℕ). put out at t) (sym (append-nil (made f i p).text));
  state = h.state;
}

-- before anything is told, the whole is left
pub all_left : {A : Type 0} (t : Told A) (at : ℕ) (out : List ℕ) → Continues t at out t at out
all_left t at out = record { end = refl; text = refl; state = refl }

-- what is left of what is left
pub left_of_left : {A : Type 0} {a b c : Told A} {from mid at : ℕ} {out between before : List ℕ}
    → Continues a from out b mid between → Continues b mid between c at before → Continues a from out c at before
left_of_left k h = record { end = k.end ∙ h.end; text = k.text ∙ h.text; state = k.state ∙ h.state }

-- a text stands before what is left
pub text_told : {A : Type 0} (t : Told A) (l : List ℕ) (from to : ℕ) (out : List ℕ) → to ≡ from + length l
    → Continues t to (put out from l) (record { text = l ++ t.text; state = t.state }) from out
text_told t l from to out e = record {
  end = let a = length-append l t.text in omega arith;
  text = put_then out from to l t.text e;
  state = refl;
}

-- one thing is told, and what was to be told after it is left
pub one_told : {A B : Type 0} (t : Told A) (f : A → Told B) {from to at : ℕ} {out out' before : List ℕ} {a : A} {whole : Told B}
    → Continues (t then f) from out whole at before → Tells t from out to out' a → Continues (f a) to out' whole at before
one_told {B = B} t f {from = from} {to = to} {out = out} {out' = out'} {a = a} k h = record {
  end = sums ∙ k.end;
  text = ap (λ (x : Told B). put out' to x.text) (ap f h.state) ∙ ap (λ (o : List ℕ). put o to (f t.state).text) h.text ∙ put_then out from to t.text (f t.state).text h.end ∙ k.text;
  state = ap (λ (x : Told B). x.state) (ap f h.state) ∙ k.state;
}
  where
    sums : to + length (f a).text ≡ from + length (t.text ++ (f t.state).text)
    sums =
        let e = ap (λ (x : Told B). length x.text) (ap f h.state) in
        let l = length-append t.text (f t.state).text in
        let g = h.end in
        omega arith

-- nothing is left, and the whole is told
pub none_left : {A : Type 0} (a : A) {from at : ℕ} {out before : List ℕ} {whole : Told A}
    → Continues (quiet a) from out whole at before → Tells whole at before from out a
none_left a {from = from} {out = out} k = record {
  end = omega (arith, k.end);
  text = sym (over_none newer out from) ∙ k.text;
  state = k.state;
}

-- ---- answers

-- a character stored behind a text is put behind it
put_behind : (m : List ℕ) (at end : ℕ) (t : List ℕ) (d : ℕ) → end ≡ at + length t → set (put m at t) end d ≡ put m at (t ++ d ∷ [])
put_behind m at end t d e = sym (put_one (put m at t) end d) ∙ put_then m at end t (d ∷ []) e

-- replies that stand between `>` and LF, and what is explained behind them, are an answer
pub obeyed_told : (why : Bool) (is : List Input) (p q : State) (at end last : ℕ) (m out' out'' : List ℕ)
    → Tells (tells is p) (at + 1) (set m at answered) end out' q
    → Adds (set out' end line_feed) (end + 1) last out'' (explained why (notes is p).text)
    → Tells (obeyed why is p) at m last out'' q
obeyed_told why is p q at end last m out' out'' h a =
    let t = (tells is p).text in
    let n = explained why (notes is p).text in
    let joined : (answered ∷ t ++ line_feed ∷ []) ++ n ≡ answered ∷ t ++ line_feed ∷ n = append_assoc (answered ∷ t) (line_feed ∷ []) n in
    let l = length-append t (line_feed ∷ n) in
    let k = length-append t (line_feed ∷ []) in
    let e = h.end in
    let line : set out' end line_feed ≡ put m at (answered ∷ t ++ line_feed ∷ []) =
    rw (h.text, ← put_one m at answered, put_then m at (at + 1) (answered ∷ []) t (omega arith))
    (put_behind m at end (answered ∷ t) line_feed (omega arith)) in
    record {
      end = omega (arith, a.ends);
      text = a.written
          ∙ ap (λ (o : List ℕ). put o (end + 1) n) line
          ∙ put_then m at (end + 1) (answered ∷ t ++ line_feed ∷ []) n (omega arith)
          ∙ ap (λ (x : List ℕ). put m at x) joined;
      state = h.state;
    }

-- a line of another kind than Other is answered by the replies of its calls
pub obeyed_by : (why : Bool) (k : Kind) (n : ℕ) (line : List ℕ) (p : State) → (k ≡ Other → ⊥)
    → answer_by why k n line p ≡ obeyed why (calls_of k line) p
unfolding answer_by
obeyed_by why Bytes n line p h = refl
obeyed_by why Frame n line p h = refl
obeyed_by why PowerOn n line p h = refl
obeyed_by why Other n line p h = absurd (h refl)

-- and has no more than the most characters
pub few_characters : (k : Kind) (line : List ℕ) → k ≡ kind_of line → (k ≡ Other → ⊥) → length line ≤ most_characters
few_characters k line e h = by_length (leb (length line) most_characters) refl
  where
    by_length : (t : Bool) → leb (length line) most_characters ≡ t → length line ≤ most_characters
    by_length true l = leb-true (length line) most_characters l
    by_length false l = absurd (h (e ∙ sym (kind_beyond line (leb-false (length line) most_characters l))))

-- nothing is told in no character
pub nothing_told : (p : State) (at : ℕ) (out : List ℕ) → Tells (quiet p) at out at out p
nothing_told p at out = record { end = omega arith; text = sym (over_none newer out at); state = refl }

-- power on has no reply and no NACK, and leaves the memories
pub power_told : (p : State) → tells (Power ∷ []) p ≡ quiet (powered p.memories)
unfolding makes made call cause_for decide perform sent after effect says
power_told p = refl

pub power_noted : (p : State) → notes (Power ∷ []) p ≡ quiet (powered p.memories)
unfolding makes made call cause_for decide perform after effect
power_noted p = refl
