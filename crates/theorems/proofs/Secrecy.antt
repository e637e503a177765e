-- Demand 3: what is decided sees neither flash nor SRAM; under protection what is done shows and changes nothing of them; a wipe makes two boards one.
use mathlib.Core.Path.{◌≡◌, refl, sym, ap, ap₂, ◌∙◌, subst}
use mathlib.Core.Bool.{Bool, true, false, not}
use mathlib.Core.List.{List, [], ◌∷◌}
use Prim.Native.Nat.{ℕ}
use lib.Dec.{T, leb}
use lib.ListN.{length, take, drop}
use lib.Seq.{take_at}
use Rattle.std.specs.Prelude.{if◌then◌else◌}
use Rattle.words.proofs.Tests.{both_left, both_right, both_hold, chosen}
use Rattle.board.specs.Usd.{protection_on}
use Rattle.board.specs.View.{view_of}
use Rattle.memories.specs.Memories.{Memories, proper}
use Rattle.memories.specs.Effects.{effect, erased_all, wiped}
use Rattle.memories.specs.declared.Change.{Change}
use Rattle.memories.specs.declared.Change.TheVariants.{Nothing, Write, EraseAll, EraseSectors, ProtectOnly, Release, Lock, Unlock}
use Rattle.command.specs.Decision.{if◌gives◌else◌}
use Rattle.command.specs.Progress.{staged_with}
use Rattle.command.specs.Says.{says, fixed}
use Rattle.command.specs.Why.{reason_of}
use Rattle.command.specs.declared.Decision.{Decision}
use Rattle.command.specs.declared.Reply.{Reply}
use Rattle.command.specs.declared.Reply.TheVariants.{Fixed, Data, Crc}
use Rattle.frames.specs.Frames.{classic, is_frame}
use Rattle.uart.specs.Conversation.{uart_room}
use Rattle.can.specs.Conversation.{can_room}
use Rattle.boot.specs.Session.{after, progress, gathered, falls_at, placed}
use Rattle.boot.specs.Causes.{cause_no, cause_of, accepts}
use Rattle.boot.specs.Calls.{done, State, powered, Input, Power, Byte, Framed, Outcome, carrier_of, brings, commands_of, view_in, cause_for, decide, sent}
use Rattle.boot.specs.Calls.{perform, refused, call, run}
use Rattle.boot.specs.Causes.{Judged}
use Rattle.boot.specs.Causes.{accepted}
use Rattle.boot.specs.declared.Session.{Session}
use Rattle.theorems.specs.Failures.{reads}
use Rattle.theorems.specs.Secrecy.{unlocks, opens, shut, Call, input, inputs, lent, filled, left_by, leaves, leaves_of, sums, answered, veiled}
use Rattle.theorems.specs.Secrecy.{Seen, seen, seen_of, Alike, Demand3}
use Rattle.theorems.proofs.InStep.{done_by}
use Rattle.theorems.proofs.Wire.{struck_exactly}
use Rattle.theorems.proofs.Locked.{calm, harmless, Discreet, decide_discreet, after_calm, gathered_calm}

-- ---- what a discreet act shows of the memories, and does to them

-- two replies are alike, but for a CRC value: by themselves, in their length, and in a buffer that they are left in
pub record Hides (i : Input) (r : Reply) (x y : List ℕ) : Type 0 where
  pub shown : veiled i (sums r) x ≡ veiled i (sums r) y
  pub long : length x ≡ length y
  pub left : (before : List ℕ) → veiled i (sums r) (filled before x) ≡ veiled i (sums r) (filled before y)

itself : {i : Input} {r : Reply} {x : List ℕ} → Hides i r x x
itself = record { shown = refl; long = refl; left = λ before. refl }

-- so is a reply that does not read, whatever the memories hold
pub shows_nothing : (i : Input) (s : Session) (r : Reply) → T (not (reads r)) → (m n : Memories)
    → Hides i r (sent i s (says (commands_of i) r m)) (sent i s (says (commands_of i) r n))
unfolding says sent
shows_nothing i s (Fixed t) h m n = itself
shows_nothing i s (Data r at x) h m n = absurd h
shows_nothing Power s (Crc at x) h m n = itself
shows_nothing (Byte room b) s (Crc at x) h m n = record { shown = refl; long = refl; left = λ before. refl }
shows_nothing (Framed room f) s (Crc at x) h m n = record { shown = refl; long = refl; left = λ before. refl }

-- a fixed reply is the same whatever the memories hold
says_alike : (k : List ℕ) (r : Reply) → T (fixed r) → (m n : Memories) → says k r m ≡ says k r n
unfolding says
says_alike k (Fixed t) h m n = refl
says_alike k (Data r at x) h m n = absurd h
says_alike k (Crc at x) h m n = absurd h

-- a harmless change that is no Access Unprotect is none
changes_nothing : (c : Change) → T (harmless c) → T (not (unlocks c)) → (staged : List ℕ) (m : Memories) → effect c staged m ≡ m
unfolding effect
changes_nothing Nothing h k staged m = refl
changes_nothing (Write r at x) h k staged m = absurd h
changes_nothing EraseAll h k staged m = absurd h
changes_nothing (EraseSectors x) h k staged m = absurd h
changes_nothing (ProtectOnly x) h k staged m = absurd h
changes_nothing Release h k staged m = absurd h
changes_nothing Lock h k staged m = absurd h
changes_nothing Unlock h k staged m = absurd k

-- Access Unprotect leaves two locked boards that are alike in user system data with the same memories
wipes_alike : (c : Change) → T (unlocks c) → (staged : List ℕ) (m n : Memories) → T (protection_on m.usd) → m.usd ≡ n.usd
    → effect c staged m ≡ effect c staged n
unfolding effect wiped erased_all
wipes_alike Nothing w staged m n l e = absurd w
wipes_alike (Write r at x) w staged m n l e = absurd w
wipes_alike EraseAll w staged m n l e = absurd w
wipes_alike (EraseSectors x) w staged m n l e = absurd w
wipes_alike (ProtectOnly x) w staged m n l e = absurd w
wipes_alike Release w staged m n l e = absurd w
wipes_alike Lock w staged m n l e = absurd w
wipes_alike Unlock w staged m n l e =
    chosen (protection_on m.usd) (wiped m) m l
    ∙ ap (λ (u : List ℕ). wiped (record { flash = []; sram = []; usd = u })) e
    ∙ sym (chosen (protection_on n.usd) (wiped n) n (subst (λ (u : List ℕ). T (protection_on u)) e l))

-- ---- two boards

-- alike in session and user system data, locked and calm, with memories of their proper sizes
pub record Twins (p q : State) : Type 0 where
  session : p.session ≡ q.session
  usd : p.memories.usd ≡ q.memories.usd
  locked : T (protection_on p.memories.usd)
  calm : T (calm p.session)
  proper_p : T (proper p.memories)
  proper_q : T (proper q.memories)

module _ (i : Input) (p q : State) (t : Twins p q) where
  causes_alike : cause_for i p ≡ cause_for i q
  unfolding cause_for
  causes_alike = by_input i
    where
      memories_alike : proper p.memories ≡ proper q.memories
      memories_alike = both_hold (proper p.memories) (proper q.memories) t.proper_p t.proper_q

      by_input : (j : Input) → cause_for j p ≡ cause_for j q
      by_input Power = refl
      by_input (Byte room b) = ap₂ (λ (k : Bool) (s : Session). cause_of k (leb uart_room room) true s) memories_alike t.session
      by_input (Framed room f) = ap₂ (λ (k : Bool) (s : Session). cause_of k (leb can_room room) (is_frame classic f) s) memories_alike t.session

  decisions_alike : decide i p.session (view_in p) ≡ decide i q.session (view_in q)
  decisions_alike = ap₂ (decide i) t.session (ap view_of t.usd)

-- a call and what is seen of it, by whether it is accepted, its cause and its decision
abbrev call_by : Input → State → Bool → Judged → Decision → Outcome
call_by i p t c d = if t then perform i p d else refused c p

abbrev seen_by : Input → List ℕ → Outcome → Decision → Seen
seen_by i before o e = record {
  number = cause_no o.cause;
  length = length o.reply;
  reason = o.reason;
  place = o.place;
  session = o.state.session;
  usd = o.state.memories.usd;
  buffer = veiled i (sums e.reply) (filled before o.reply);
}

-- ---- one call

module _ (i : Input) (c : Judged) (d : Decision) (f : Discreet (carrier_of i) d) where
  -- the memories stay, unless it opens
  keeps : (p : State) (t : Bool) → T (not (unlocks (done_by t d).change)) → (call_by i p t c d).state.memories ≡ p.memories
  unfolding perform if◌gives◌else◌
  keeps p true k = changes_nothing d.change f.harmless k (staged_with (progress p.session) (brings i)) p.memories
  keeps p false k = refl

  -- the session stays calm
  stays_calm : (p : State) (t : Bool) → T (calm p.session) → T (calm (call_by i p t c d).state.session)
  unfolding perform
  stays_calm p true h = after_calm (carrier_of i) (gathered (brings i) p.session) (gathered_calm (brings i) p.session h) d.next p.session f.calm h
  stays_calm p false h = h

  module _ (p q : State) (w : Twins p q) where
    -- the reply is as long, and the buffer alike, but for a CRC value
    lengths_alike : (t : Bool) → length (call_by i p t c d).reply ≡ length (call_by i q t c d).reply
    unfolding perform
    lengths_alike true =
        (shows_nothing i p.session d.reply f.quiet p.memories q.memories).long
        ∙ ap (λ (s : Session). length (sent i s (says (commands_of i) d.reply q.memories))) w.session
    lengths_alike false = refl

    buffers_alike : (t : Bool) (before : List ℕ) → veiled i (sums (done_by t d).reply) (filled before (call_by i p t c d).reply)
        ≡ veiled i (sums (done_by t d).reply) (filled before (call_by i q t c d).reply)
    unfolding perform if◌gives◌else◌
    buffers_alike true before =
        (shows_nothing i p.session d.reply f.quiet p.memories q.memories).left before
        ∙ ap (λ (s : Session). veiled i (sums d.reply) (filled before (sent i s (says (commands_of i) d.reply q.memories)))) w.session
    buffers_alike false before = refl

    causes_of_alike : (t : Bool) → (call_by i p t c d).cause ≡ (call_by i q t c d).cause
    unfolding perform
    causes_of_alike true = refl
    causes_of_alike false = refl

    -- of an accepted call the decision tells the reason, and the session the place
    reasons_alike : (t : Bool) → (call_by i p t c d).reason ≡ (call_by i q t c d).reason
    unfolding perform
    reasons_alike true = refl
    reasons_alike false = refl

    places_alike : (t : Bool) → (call_by i p t c d).place ≡ (call_by i q t c d).place
    unfolding perform
    places_alike true = ap (λ (s : Session). placed (reason_of d.reply) (falls_at (carrier_of i) s)) w.session
    places_alike false = refl

    sessions_alike : (t : Bool) → (call_by i p t c d).state.session ≡ (call_by i q t c d).state.session
    unfolding perform
    sessions_alike true = ap (λ (s : Session). after (carrier_of i) (gathered (brings i) s) d.next s) w.session
    sessions_alike false = w.session

    -- all that is seen is alike, unless it opens
    seen_alike : (t : Bool) (before : List ℕ) → T (not (unlocks (done_by t d).change))
        → seen_by i before (call_by i p t c d) (done_by t d) ≡ seen_by i before (call_by i q t c d) (done_by t d)
    seen_alike t before k = λ j. record {
      number = cause_no (causes_of_alike t j);
      length = lengths_alike t j;
      reason = reasons_alike t j;
      place = places_alike t j;
      session = sessions_alike t j;
      usd = (ap (λ (m : Memories). m.usd) (keeps p t k) ∙ w.usd ∙ sym (ap (λ (m : Memories). m.usd) (keeps q t k))) j;
      buffer = buffers_alike t before j;
    }

    -- where it opens, everything is alike
    opens_alike : (t : Bool) → T (unlocks (done_by t d).change) → call_by i p t c d ≡ call_by i q t c d
    unfolding perform if◌gives◌else◌
    opens_alike true o = λ j. record {
      cause = accepted;
      reply = (ap (λ (s : Session). sent i s (says (commands_of i) d.reply p.memories)) w.session
          ∙ ap (sent i q.session) (says_alike (commands_of i) d.reply (f.fixed o) p.memories q.memories)) j;
      reason = reason_of d.reply;
      place = placed (reason_of d.reply) (falls_at (carrier_of i) (w.session j));
      state = record {
        session = after (carrier_of i) (gathered (brings i) (w.session j)) d.next (w.session j);
        memories = (ap (λ (s : Session). effect d.change (staged_with (progress s) (brings i)) p.memories) w.session
            ∙ wipes_alike d.change o (staged_with (progress q.session) (brings i)) p.memories q.memories w.locked w.usd) j;
      };
    }
    opens_alike false o = absurd o

-- what one input that does not open leaves of two boards
record One (i : Input) (p q : State) : Type 0 where
  seen : (before : List ℕ) → seen_by i before (call i p) (done i p) ≡ seen_by i before (call i q) (done i q)
  first : (call i p).state.memories ≡ p.memories
  second : (call i q).state.memories ≡ q.memories
  twins : Twins (call i p).state (call i q).state

module _ (i : Input) (p q : State) (w : Twins p q) where
  t : Bool
  t = accepts (cause_for i p)

  d : Decision
  d = decide i p.session (view_in p)

  f : Discreet (carrier_of i) (decide i p.session (view_in p))
  unfolding view_of
  f = (decide_discreet i p.session (view_in p) w.locked w.calm).holds

  -- the second board's cause and decision are the first one's
  second_call : call i q ≡ call_by i q (accepts (cause_for i p)) (cause_for i p) (decide i p.session (view_in p))
  unfolding call
  second_call =
      ap₂ (λ (c : Judged) (e : Decision). call_by i q (accepts c) c e) (sym (causes_alike i p q w)) (sym (decisions_alike i p q w))

  second_done : done i q ≡ done i p
  unfolding done
  second_done = ap₂ (λ (c : Judged) (e : Decision). done_by (accepts c) e) (sym (causes_alike i p q w)) (sym (decisions_alike i p q w))

  -- the first board does not read
  pub quiet_done : T (not (reads (done i p).reply))
  unfolding done if◌gives◌else◌
  quiet_done = by_test (accepts (cause_for i p))
    where
      by_test : (t : Bool) → T (not (reads (done_by t (decide i p.session (view_in p))).reply))
      by_test true = f.quiet
      by_test false = tt

  one : T (not (opens i p)) → One i p q
  unfolding opens done call t d
  one k = record {
    seen = λ before.
        seen_alike i (cause_for i p) d f p q w t before k ∙ ap₂ (seen_by i before) (sym second_call) (sym second_done);
    first = first;
    second = second;
    twins = record {
      session = sessions_alike i (cause_for i p) d f p q w t ∙ ap (λ (o : Outcome). o.state.session) (sym second_call);
      usd = ap (λ (m : Memories). m.usd) first ∙ w.usd ∙ sym (ap (λ (m : Memories). m.usd) second);
      locked = subst (λ (m : Memories). T (protection_on m.usd)) (sym first) w.locked;
      calm = stays_calm i (cause_for i p) d f p t w.calm;
      proper_p = subst (λ (m : Memories). T (proper m)) (sym first) w.proper_p;
      proper_q = subst (λ (m : Memories). T (proper m)) (sym second) w.proper_q;
    };
  }
    where
      first : (call i p).state.memories ≡ p.memories
      first = keeps i (cause_for i p) d f p t k

      second : (call i q).state.memories ≡ q.memories
      second = ap (λ (o : Outcome). o.state.memories) second_call ∙ keeps i (cause_for i p) d f q t k

  opened : T (opens i p) → call i p ≡ call i q
  unfolding opens done call t d
  opened o = opens_alike i (cause_for i p) d f p q w t o ∙ sym second_call

-- ---- a run of inputs

-- what is seen by the reply is what is seen by the decision
seen_decided : (c : Call) (p : State) → seen c p.session (leaves c p) ≡ seen_by (input c) (lent c) (call (input c) p) (done (input c) p)
seen_decided c p = λ j. record {
  number = cause_no (call (input c) p).cause;
  length = length (call (input c) p).reply;
  reason = (call (input c) p).reason;
  place = (call (input c) p).place;
  session = (call (input c) p).state.session;
  usd = (call (input c) p).state.memories.usd;
  buffer = veiled (input c) (same j) (filled (lent c) (call (input c) p).reply);
}
  where
    l : List ℕ
    l = (call (input c) p).reply

    same : answered (input c) p.session (cause_no (call (input c) p).cause) (take (length l) (filled (lent c) l)) ≡ sums (done (input c) p).reply
    same =
        ap (answered (input c) p.session (cause_no (call (input c) p).cause)) (take_at l (drop (length l) (lent c)) (length l) refl)
        ∙ struck_exactly (input c) p

before : (cs : List Call) (p q : State) → Twins p q → T (shut (inputs cs) p) → Alike cs p q
unfolding shut seen_of run
before [] p q w k = record { seen = refl; first = refl; second = refl }
before (c ∷ cs) p q w k =
    let o : One (input c) p q = one (input c) p q w (both_left (not (opens (input c) p)) (shut (inputs cs) (call (input c) p).state) k) in
    let r : Alike cs (call (input c) p).state (call (input c) q).state =
    before cs (call (input c) p).state (call (input c) q).state o.twins
    (both_right (not (opens (input c) p)) (shut (inputs cs) (call (input c) p).state) k) in
    record {
      seen = ap₂ {C = List Seen} (λ (x : Seen) (xs : List Seen). x ∷ xs) (seen_decided c p ∙ o.seen (lent c) ∙ sym (seen_decided c q)) r.seen;
      first = r.first ∙ o.first;
      second = r.second ∙ o.second;
    }

pub twins_after : (is : List Input) (p q : State) → Twins p q → T (shut is p) → Twins (run is p) (run is q)
unfolding shut run
twins_after [] p q w k = w
twins_after (i ∷ is) p q w k =
    twins_after is (call i p).state (call i q).state (one i p q w (both_left (not (opens i p)) (shut is (call i p).state) k)).twins
    (both_right (not (opens i p)) (shut is (call i p).state) k)

-- what begins with the same outcome of a call is left the same
leaves_alike : (c : Call) (cs : List Call) (p q : State) → call (input c) p ≡ call (input c) q → leaves_of (c ∷ cs) p ≡ leaves_of (c ∷ cs) q
unfolding leaves_of
leaves_alike c cs p q e = ap (λ (o : Outcome). left_by o (lent c) ∷ leaves_of cs o.state) e

-- two boards freshly powered are alike
pub twins_fresh : (m n : Memories) → T (proper m) → T (proper n) → m.usd ≡ n.usd → T (protection_on m.usd)
    → Twins (powered m) (powered n)
unfolding calm
twins_fresh m n pm pn e l = record { session = refl; usd = e; locked = l; calm = tt; proper_p = pm; proper_q = pn }

-- demand 3
pub secret : Demand3
secret m n pm pn e l = record {
  before = λ cs k. before cs (powered m) (powered n) twins k;
  decided = λ is i k. sym (second_done i (run is (powered m)) (run is (powered n)) (twins_after is (powered m) (powered n) twins k));
  after = λ cs c ds k o. leaves_alike c ds (run (inputs cs) (powered m)) (run (inputs cs) (powered n))
      (opened (input c) (run (inputs cs) (powered m)) (run (inputs cs) (powered n)) (twins_after (inputs cs) (powered m) (powered n) twins k) o);
}
  where
    twins : Twins (powered m) (powered n)
    twins = twins_fresh m n pm pn e l
