-- An input that was decided, said and carried out leaves what the outcome says.
use mathlib.Core.Path.{◌≡◌, ap, subst, ◌∙◌}
use mathlib.Core.List.{List, ◌++◌}
use Prim.Native.Nat.{ℕ}
use lib.Dec.{T, eqb}
use lib.ListN.{length, drop}
use lib.Seq.{take-length}
use Rattle.board.specs.declared.View.{View}
use Rattle.memories.specs.Memories.{Memories}
use Rattle.memories.specs.Effects.{effect}
use Rattle.command.specs.Progress.{progress_at, staged_with}
use Rattle.command.specs.Says.{says, Said}
use Rattle.command.specs.Why.{reason_of}
use Rattle.command.specs.declared.Decision.{Decision}
use Rattle.can.specs.Steps as C
use Rattle.can.specs.Conversation as CC
use Rattle.frames.specs.Frames.{classic, frame_in, frame_of, is_frame, carried, framed}
use Rattle.frames.proofs.Frames.{carried_length}
use Rattle.boot.specs.Session.{progress, gathered, after, falls_at, placed}
use Rattle.boot.specs.Decide.{connected, decide_frame}
use Rattle.boot.specs.Calls.{State, Input, carrier_of, brings, view_in, commands_of, decide, sent, perform}
use Rattle.boot.specs.Promise.{left, accepted_taken, Leaves}
use Rattle.carriers.specs.declared.Carrier.TheVariants.{Can}
use Rattle.boot.specs.declared.Session.{Session}
use Rattle.boot.specs.declared.Taken.{Taken}

module _ (i : Input) (p : State) (view : View) (ev : view ≡ view_in p) (t : Session) (et : t ≡ gathered (brings i) p.session)
    (d : Decision) (ed : d ≡ decide i p.session view) (buffer : List ℕ) where
  -- the view is that of the state
  decided : d ≡ decide i p.session (view_in p)
  decided = ed ∙ ap (decide i p.session) ev

  -- the bytes that a decision has said
  abbrev pub said : Decision → List ℕ
  said e = sent i p.session (says (commands_of i) e.reply p.memories)

  pub input_leaves : {count : ℕ} {r : Taken} {m : Memories} {buffer' : List ℕ}
      → Said (said d) count buffer buffer'
      → m ≡ effect d.change t.staged p.memories
      → r ≡ accepted_taken (carrier_of i) p.session t d count
      → Leaves (perform i p (decide i p.session (view_in p))) buffer (left r m buffer')
  unfolding perform
  input_leaves {m = m} es em er = record {
    number = ap (λ (z : Taken). z.number) er;
    count = ap (λ (z : Taken). z.length) er ∙ es.count ∙ ap (λ (e : Decision). length (said e)) decided;
    reason = ap (λ (z : Taken). z.reason) er ∙ ap (λ (e : Decision). reason_of e.reply) decided;
    place = ap (λ (z : Taken). z.place) er
        ∙ ap (λ (e : Decision). placed (reason_of e.reply) (falls_at (carrier_of i) p.session)) decided;
    session =
        ap (λ (z : Taken). z.session) er ∙ ap (λ (z : Session). after (carrier_of i) z d.next p.session) et
        ∙ ap (λ (e : Decision). after (carrier_of i) (gathered (brings i) p.session) e.next p.session) decided;
    flash = ap (λ (z : Memories). z.flash) carried;
    sram = ap (λ (z : Memories). z.sram) carried;
    usd = ap (λ (z : Memories). z.usd) carried;
    buffer = es.buffer ∙ ap (λ (e : Decision). said e ++ drop (length (said e)) buffer) decided;
  }
    where
      carried : m ≡ effect (decide i p.session (view_in p)).change (gathered (brings i) p.session).staged p.memories
      carried =
          em ∙ ap (λ (z : Session). effect d.change z.staged p.memories) et
          ∙ ap (λ (e : Decision). effect e.change (gathered (brings i) p.session).staged p.memories) decided

-- a frame decides what its ID and the data bytes that count do
pub frame_decided : (s : Session) (view : View) (l : List ℕ) → T (is_frame classic l)
    → {id : ℕ} {c : List ℕ} {d : Decision} → id ≡ (frame_in l).id → c ≡ carried (frame_in l) → d ≡ decide_frame s view (frame_of id c)
    → d ≡ decide_frame s view (frame_in l)
unfolding decide_frame CC.heard
frame_decided s view l t {c = c} ei ec ed =
    ed ∙ ap (λ (n : ℕ). decide_frame s view (frame_of n c)) ei
    ∙ ap (λ (b : List ℕ). decide_frame s view (frame_of (frame_in l).id b)) ec
    ∙ ap (λ (b : List ℕ). hears b (length (carried (frame_in l))) b) (take-length (carried (frame_in l)))
    ∙ ap (λ (n : ℕ). hears (carried (frame_in l)) n (carried (frame_in l))) (carried_length l t)
  where
    hears : List ℕ → ℕ → List ℕ → Decision
    hears c n b =
        connected Can s (eqb (frame_in l).id CC.connect_id)
        (CC.decided (C.step_of s.step)
        (progress_at s.taken s.expected s.address (staged_with (progress s) c)) view
        (record { id = (frame_in l).id; dlc = n; bytes = b }))

-- messages under an ID are the same under the ID that it is
pub said_under : {n : ℕ} {before after : List ℕ} (ms : List (List ℕ)) (id id' : ℕ) → id ≡ id'
    → Said (framed classic id ms) n before after → Said (framed classic id' ms) n before after
said_under {n = n} {before = before} {after = after} ms id id' e h =
    subst (λ (x : ℕ). Said (framed classic x ms) n before after) e h
