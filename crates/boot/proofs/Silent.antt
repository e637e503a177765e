-- Bytes that a session connected to UART only gathers: each is accepted, says nothing and changes no memory, so that many may be taken at once.
use mathlib.Core.Path.{◌≡◌, refl, sym, ap, ap₂, subst, ◌∙◌}
use mathlib.Core.Bool.{Bool, true, false, ◌&&◌}
use mathlib.Core.List.{List, [], ◌∷◌, ◌++◌}
use Prim.Native.Nat.{ℕ, zero, suc, ◌+◌, ◌-◌, ◌≤◌, ◌<◌}
use native.Mathlib.Omega.{arith}
use lib.Dec.{T, leb, ltb, eqb→eq, leb→le}
use lib.ListN.{length, take, drop, get_or}
use borrow.Author.Tests.{le-leb, lt-ltb, eq-eqb, ne_eqb}
use lib.Seq.{take_all, take-nil, split_at, length-take-le}
use Rattle.words.specs.Over.{put, newer}
use Rattle.words.proofs.Over.{over_none, put_then}
use Rattle.words.proofs.Tests.{both_left, both_right, holds_true}
use Rattle.board.specs.declared.View.{View}
use Rattle.memories.specs.Memories.{proper}
use Rattle.memories.specs.Effects.{effect}
use Rattle.command.specs.Commands.{code}
use Rattle.command.specs.Decision.{if◌gives◌else◌, answer}
use Rattle.command.specs.Progress.{Progress}
use Rattle.command.specs.Says.{says}
use Rattle.command.specs.Why.{no_reason}
use Rattle.command.specs.declared.Command.{Command}
use Rattle.command.specs.declared.Command.TheVariants.{WriteMemory, Erase, ProgramProtect}
use Rattle.command.specs.declared.Decision.{Decision}
use Rattle.command.specs.declared.Next.TheVariants.{Gather}
use Rattle.command.specs.declared.FixedReply.TheVariants.{Silence}
use Rattle.frames.specs.Frames.{Frame, classic, largest_id, frame_in, carried, counted, is_frame}
use Rattle.frames.proofs.Frames.{carried_length}
use Rattle.can.specs.Steps as C
use Rattle.can.specs.Conversation as CC
use Rattle.can.specs.declared.Step as CS
use Rattle.can.specs.declared.Step.TheVariants as CSV
use Rattle.uart.specs.Conversation.{uart_room, heard}
use Rattle.boot.specs.Session.{on, sound, progress, with_taken, gathered, after}
use Rattle.carriers.specs.Carriers.{step_sound}
use Rattle.boot.specs.Causes.{cause_of}
use Rattle.boot.specs.Decide.{connected, decide_byte, decide_frame}
use Rattle.boot.specs.Calls.{State, Byte, Framed, Outcome, view_in, cause_for, decide, sent, perform, call}
use Rattle.boot.specs.Gathering.{Gathers, HearsFrames, SilentFrame}
use Rattle.carriers.specs.declared.Carrier.TheVariants.{Uart, Can}
use Rattle.boot.specs.Causes.{accepted}
use Rattle.boot.specs.declared.Session.{Session}
use Rattle.boot.proofs.Sound.{can_expects}

-- what a call leaves that only gathers bytes
abbrev pub only_gathered : List ℕ → State → Outcome
only_gathered new p = record {
  cause = accepted;
  reply = [];
  reason = no_reason;
  place = 0;
  state = record { session = gathered new p.session; memories = p.memories };
}

pub gathers_byte : (room b : ℕ) (p : State) → T (proper p.memories) → uart_room ≤ room → T (on Uart p.session) → T (sound p.session)
    → p.session.taken + 1 < p.session.expected → call (Byte room b) p ≡ only_gathered (b ∷ []) p
unfolding call cause_for cause_of decide decide_byte connected heard if◌gives◌else◌ perform sent says after effect
gathers_byte room b p m r u s h =
    let c : p.session.carrier ≡ 1 = eqb→eq p.session.carrier 1 u in
    rw (
      holds_true (proper p.memories) m,
      le-leb uart_room room r,
      holds_true (sound p.session) s,
      ne_eqb p.session.carrier 3 (λ e. omega arith),
      holds_true (on Uart p.session) u,
      lt-ltb (p.session.taken + 1) p.session.expected h,
    ) refl

-- ---- bytes gathered at once are bytes gathered one by one

-- the session with bytes taken that all fit
abbrev pub with_all : List ℕ → Session → Session
with_all new s = with_taken (s.taken + length new) (put s.staged s.taken new) s

pub all_fit : (new : List ℕ) (s : Session) → s.taken + length new ≤ s.expected → gathered new s ≡ with_all new s
all_fit new s h = ap (λ (l : List ℕ). with_all l s) (take_all (s.expected - s.taken) new (omega arith))

pub gathered_more : (b : ℕ) (bs : List ℕ) (s : Session) → s.taken + 1 + length bs ≤ s.expected
    → gathered bs (gathered (b ∷ []) s) ≡ gathered (b ∷ bs) s
gathered_more b bs s h =
    ap (λ (t : Session). gathered bs t) (all_fit (b ∷ []) s (omega arith))
    ∙ all_fit bs (with_all (b ∷ []) s) h
    ∙ ap₂ (λ (n : ℕ) (l : List ℕ). with_taken n l s) (omega arith)
    (put_then s.staged s.taken (s.taken + 1) (b ∷ []) bs (omega arith))
    ∙ sym (all_fit (b ∷ bs) s (omega arith))

-- no bytes change nothing
pub none_gathered : (s : Session) → gathered [] s ≡ s
none_gathered s =
    rw (take-nil {A = ℕ} (s.expected - s.taken))
    (ap₂ (λ (n : ℕ) (l : List ℕ). with_taken n l s) (omega arith) (over_none newer s.staged s.taken))

-- and a session that expects more stays sound
pub gathered_sound : (new : List ℕ) (s : Session) → T (sound s) → s.taken + length new < s.expected → T (sound (gathered new s))
unfolding sound
gathered_sound new s t h =
    let a = leb s.carrier 3 && leb s.speed 3 && step_sound s.carrier s.step s.expected in
    let l = take_all (s.expected - s.taken) new (omega arith) in
    rw (holds_true a (both_left a (ltb s.taken s.expected) t), l, lt-ltb (s.taken + length new) s.expected h) tt

-- whatever a call that only gathers a byte leaves as it is, counting it, many leave so, counting them
module _ {X : Type 0} (f : ℕ → List ℕ → State → X) (room : ℕ)
    (one : (i b : ℕ) (bs : List ℕ) (p : State) → call (Byte room b) p ≡ only_gathered (b ∷ []) p
    → f i (b ∷ bs) p ≡ f (i + 1) bs (only_gathered (b ∷ []) p).state) where
  all_passed : (new bs : List ℕ) (i : ℕ) (p : State) → uart_room ≤ room → T (proper p.memories) → T (on Uart p.session)
      → T (sound p.session) → p.session.taken + length new < p.session.expected
      → f i (new ++ bs) p ≡ f (i + length new) bs (only_gathered new p).state
  all_passed [] bs i p r m u s h =
      ap₂ (λ (n : ℕ) (t : Session). f n bs (record { session = t; memories = p.memories })) (omega arith) (sym (none_gathered p.session))
  all_passed (b ∷ new) bs i p r m u s h =
      one i b (new ++ bs) p (gathers_byte room b p m r u s (omega arith))
      ∙ all_passed new bs (i + 1) (only_gathered (b ∷ []) p).state r m u (gathered_sound (b ∷ []) p.session s (omega arith))
      (rw (take_all (p.session.expected - p.session.taken) (b ∷ []) (omega arith)) (omega arith))
      ∙ ap₂ (λ (n : ℕ) (t : Session). f n bs (record { session = t; memories = p.memories })) (omega arith)
      (gathered_more b new p.session (omega arith))

  -- so does the front of a slice
  pub front_passed : (bs : List ℕ) (i n : ℕ) (p : State) → n < length bs
      → (0 < n → Gathers p.session (proper p.memories && leb uart_room room) n)
      → f i bs p ≡ f (i + n) (get_or bs n 0 ∷ drop (suc n) bs) (only_gathered (take n bs) p).state
  front_passed bs i zero p w g =
      ap (λ (cs : List ℕ). f i cs p) (split_at bs 0 0 w)
      ∙ ap₂ (λ (k : ℕ) (t : Session). f k (get_or bs 0 0 ∷ drop 1 bs) (record { session = t; memories = p.memories })) (omega arith)
      (sym (none_gathered p.session))
  front_passed bs i (suc n) p w g =
      let h = g (omega arith) in
      let l = length-take-le (suc n) bs (omega arith) in
      ap (λ (cs : List ℕ). f i cs p) (split_at bs (suc n) 0 w)
      ∙ all_passed (take (suc n) bs) (get_or bs (suc n) 0 ∷ drop (suc (suc n)) bs) i p
      (leb→le uart_room room (both_right (proper p.memories) (leb uart_room room) h.lengths))
      (both_left (proper p.memories) (leb uart_room room) h.lengths) h.here h.firm (omega (arith, h.short))
      ∙ ap (λ (k : ℕ). f (i + k) (get_or bs (suc n) 0 ∷ drop (suc (suc n)) bs) (only_gathered (take (suc n) bs) p).state) l

-- three tests that hold together
pub all_three : (a b d : Bool) → a && b && d ≡ true → T a × T b × T d
all_three true true true e = (tt, tt, tt)
all_three true true false e = absurd (subst T (sym e) tt)
all_three true false d e = absurd (subst T (sym e) tt)
all_three false b d e = absurd (subst T (sym e) tt)

-- ---- a frame that a session connected to CAN only gathers

-- a step that gathers, and expects more than a frame of its ID brings
silent_step : (c : Command) (p : Progress) (f : Frame) (done : Decision) → code c ≡ f.id → 0 < f.dlc → p.taken + length f.bytes < p.expected
    → CC.gathering c p f done ≡ answer Silence Gather
unfolding CC.gathering if◌gives◌else◌
silent_step c p f done b h s =
    rw (eq-eqb f.id (code c) (sym b), ne_eqb f.dlc 0 (λ e. omega arith), lt-ltb (p.taken + length f.bytes) p.expected s) refl

frame_heard : (k : CS.Step) (p : Progress) (view : View) (f : Frame) → T (C.expects k p.expected) → CC.bears k f.id ≡ f.id → 0 < f.dlc
    → length (carried f) ≡ f.dlc → p.taken + length (carried f) < p.expected → CC.heard k p view f ≡ answer Silence Gather
unfolding CC.heard CC.decided
frame_heard CSV.Idle p view f t b h l s = absurd (omega (arith, eqb→eq p.expected 1 t))
frame_heard CSV.WriteData p view f t b h l s = silent_step WriteMemory _ (counted f) _ b h s
frame_heard CSV.EraseList p view f t b h l s = silent_step Erase _ (counted f) _ b h s
frame_heard CSV.ProtectList p view f t b h l s = silent_step ProgramProtect _ (counted f) _ b h s

-- an ID that such a step gathers is that of a frame
own_small : (k : CS.Step) (expected id : ℕ) → T (C.expects k expected) → 1 < expected → CC.bears k id ≡ id → id ≤ largest_id
own_small CSV.Idle expected id t h b = absurd (omega (arith, eqb→eq expected 1 t))
own_small CSV.WriteData expected id t h b = omega arith
own_small CSV.EraseList expected id t h b = omega arith
own_small CSV.ProtectList expected id t h b = omega arith

module _ (s : Session) (right : Bool) (g : HearsFrames s right) where
  pub silent_id : (id dlc : ℕ) → SilentFrame s.step s.taken s.expected id dlc → id ≤ largest_id
  silent_id id dlc h =
      own_small (C.step_of s.step) s.expected id (can_expects s g.firm g.here) (omega (arith, h.some, h.short)) h.own

  -- frames are heard after bytes that were only gathered
  pub still_hears : (new : List ℕ) → s.taken + length new < s.expected → HearsFrames (gathered new s) right
  still_hears new h = record { lengths = g.lengths; here = g.here; firm = gathered_sound new s g.firm h }

pub gathers_frame : (room : ℕ) (l : List ℕ) (p : State) → CC.can_room ≤ room
    → HearsFrames p.session (proper p.memories) → T (is_frame classic l)
    → SilentFrame p.session.step p.session.taken p.session.expected (frame_in l).id (frame_in l).dlc
    → call (Framed room l) p ≡ only_gathered (carried (frame_in l)) p
unfolding call cause_for cause_of decide decide_frame connected if◌gives◌else◌ perform sent says after effect
gathers_frame room l p r g f h =
    let s = p.session in
    let c : s.carrier ≡ 2 = eqb→eq s.carrier 2 g.here in
    let k = carried_length l f in
    rw (
      holds_true (proper p.memories) g.lengths,
      le-leb CC.can_room room r,
      holds_true (is_frame classic l) f,
      holds_true (sound s) g.firm,
      ne_eqb s.carrier 3 (λ e. omega arith),
      holds_true (on Can s) g.here,
      frame_heard (C.step_of s.step) (progress s) (view_in p) (frame_in l) (can_expects s g.firm g.here) h.own h.some k
          (omega (arith, h.short)),
    ) refl
