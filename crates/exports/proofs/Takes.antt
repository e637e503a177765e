-- What the board's own call leaves is what the exported one does, once its session is handed on.
use mathlib.Core.Path.{◌≡◌, refl, sym, ap, subst, ◌∙◌}
use mathlib.Core.Bool.{Bool, true, false}
use mathlib.Core.List.{List}
use Prim.Native.Nat.{ℕ}
use lib.Dec.{T, eqb, leb, eqb→eq}
use lib.ListN.{length}
use Rattle.std.specs.Prelude.{if◌then◌else◌}
use Rattle.memories.specs.Memories.{Memories, proper}
use Rattle.uart.specs.Conversation as UC
use Rattle.can.specs.Conversation as CC
use Rattle.frames.specs.Frames.{classic, is_frame}
use Rattle.boot.specs.Session.{sound}
use Rattle.boot.specs.Causes.{accepts}
use Rattle.boot.specs.Calls.{Input, Power, Byte, Framed, State, Outcome, cause_for, call}
use Rattle.boot.specs.Promise.{left, Leaves}
use Rattle.boot.specs.Slices.{as_one, taking, slice_cause, none_taken, call_bytes, GivenBytes, slice_outcome}
use Rattle.boot.specs.declared.Session.{Session}
use Rattle.boot.specs.declared.Taken.{Taken}
use Rattle.boot.proofs.Causes.{accepts_number, call_cause, refused_call, accepted_clear}
use Rattle.boot.proofs.Slices.{slice_sound}
use Rattle.session_bytes.specs.Sessions.{session_length, session_bytes, session_in}
use Rattle.session_bytes.specs.Promise.{HandsOn}
use Rattle.exports.specs.Promise.{Takes}
use Rattle.exports.proofs.Sessions.{sound_length}

-- an input is taken: it is no power on
abbrev pub takes : Input → Bool
takes Power = false
takes (Byte room b) = true
takes (Framed room l) = true

-- an accepted call has a sound session
accepted_sound : (i : Input) (p : State) → T (takes i) → accepts (cause_for i p) ≡ true → T (sound p.session)
unfolding cause_for
accepted_sound Power p t h = absurd t
accepted_sound (Byte room b) p t h =
    (accepted_clear (proper p.memories) (leb UC.uart_room room) true p.session h).firm
accepted_sound (Framed room l) p t h =
    (accepted_clear (proper p.memories) (leb CC.can_room room) (is_frame classic l) p.session h).firm

-- what an outcome says of the session that a call was given: that is sound where the call is accepted, and stays where it is not
pub record Of (o : Outcome) (s : Session) : Type 0 where
  pub firm : accepts o.cause ≡ true → T (sound s)
  pub stays : accepts o.cause ≡ false → o.state.session ≡ s

pub of_input : (i : Input) (p : State) → T (takes i) → Of (call i p) p.session
of_input i p k = record {
  firm = λ a. accepted_sound i p k (sym (call_cause i p) ∙ a);
  stays = λ a. ap (λ (o : Outcome). o.state.session) (refused_call i p a);
}

pub of_slice : (g : GivenBytes) → Of (slice_outcome g).outcome g.state.session
unfolding slice_outcome call_bytes as_one
of_slice g = by_test (accepts (slice_cause g.state)) refl
  where
    by_test : (b : Bool) → accepts (slice_cause g.state) ≡ b
        → Of (if b then taking (length g.buffer) g.bytes g.state else none_taken g.state).outcome g.state.session
    by_test true e = record { firm = λ a. slice_sound g.state e; stays = λ a. absurd (subst T a tt) }
    by_test false e = record { firm = λ a. absurd (subst T (sym (sym e ∙ a)) tt); stays = λ a. refl }

module _ (o : Outcome) (room lent : List ℕ) (of : Of o (session_in lent)) {r : Taken} {m : Memories} {buffer : List ℕ}
    (t : Leaves o room (left r m buffer)) where
  -- an outcome is of an accepted call where the number is 0
  numbered : accepts o.cause ≡ eqb r.number 0
  numbered = accepts_number o.cause ∙ ap (λ (n : ℕ). eqb n 0) (sym t.number)

  -- where a call is accepted, the slice has the length of a session
  pub accepted_length : r.number ≡ 0 → length lent ≡ session_length
  accepted_length z = sound_length lent (of.firm (numbered ∙ ap (λ (n : ℕ). eqb n 0) z))

  -- with the session handed on and the memories back in their slices, that is what the exported call promises
  pub handed_on_lem : {after : List ℕ} {back : Memories} → HandsOn r lent after
      → back.flash ≡ m.flash → back.sram ≡ m.sram → back.usd ≡ m.usd
      → Takes o room lent r.number r.length r.reason r.place after back buffer
  handed_on_lem {after} h flash sram usd = record {
    leaves = record {
      number = t.number;
      count = t.count;
      reason = t.reason;
      place = t.place;
      session = refl;
      flash = flash ∙ t.flash;
      sram = sram ∙ t.sram;
      usd = usd ∙ t.usd;
      buffer = t.buffer;
    };
    session =
        h.session ∙ ap (λ (b : Bool). if b then session_bytes r.session else lent) (sym numbered)
        ∙ ap (λ (s : Session). if accepts o.cause then session_bytes s else lent) t.session;
    held = by_number (eqb r.number 0) refl;
  }
    where
      by_number : (b : Bool) → eqb r.number 0 ≡ b → session_in after ≡ o.state.session
      by_number true e = h.held (eqb→eq r.number 0 (subst T (sym e) tt)) ∙ t.session
      by_number false e =
          ap session_in (h.session ∙ ap (λ (b : Bool). if b then session_bytes r.session else lent) e) ∙ sym (of.stays (numbered ∙ e))
