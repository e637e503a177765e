-- The front of some bytes was taken, and its reply turned: this is what is said to it.
use mathlib.Core.Path.{◌≡◌, refl, sym, ap, ap₂, subst, ◌∙◌}
use mathlib.Core.Bool.{Bool, true, false, ◌&&◌}
use mathlib.Core.List.{List, ◌++◌, append-nil}
use Prim.Native.Nat.{ℕ, suc, ◌+◌, ◌≤◌, ◌<◌}
use native.Mathlib.Omega.{arith}
use lib.Dec.{leb}
use lib.ListN.{length, take, drop, get_or, length-append, length-drop, drop_of_length-le}
use lib.Seq.{length-take-le, take-take, get_or-take, take_at, drop_at}
use Rattle.words.specs.Over.{put}
use Rattle.words.proofs.Over.{put_front}
use Rattle.uart.specs.Conversation.{uart_room}
use Rattle.memories.specs.Memories.{Memories, proper}
use Rattle.boot.specs.Session.{gathered}
use Rattle.boot.specs.Calls.{State, Byte, Outcome, call, run}
use Rattle.boot.specs.Gathering.{Gathers}
use Rattle.boot.specs.Promise.{left, state_of, outcome, Leaves}
use Rattle.boot.specs.Slices.{given_bytes, TookFront}
use Rattle.boot.specs.declared.Session.{Session}
use Rattle.boot.specs.declared.Taken.{Taken}
use Rattle.boot.proofs.Silent.{none_gathered}
use Rattle.port_loop.specs.Port.{spoken, said, said_all, Hears}
use Rattle.port_loop.proofs.Speaking.{Spoken, speaks, behind, front_said, spoken_long}

-- what is so of the front that was taken: it is there, its reply is one, and once that is turned, the front was heard
pub record FrontSays (st : Bool) (s : Session) (bytes : List ℕ) (m : Memories) (lent : List ℕ) (silent : ℕ) (taken : Taken) (n : Memories)
    (new : List ℕ) : Type 0 where
  pub within : silent < length bytes
  pub short : taken.length ≤ uart_room
  pub heard : {turned : List ℕ} → turned ≡ spoken st s (take taken.length new)
      → Hears st (take (silent + 1) bytes) (state_of s m) lent taken.length (turned ++ drop taken.length new) (state_of taken.session n)

module _ (st : Bool) (s : Session) (bytes : List ℕ) (m : Memories) (lent : List ℕ) (silent : ℕ) (taken : Taken) (n : Memories) (new : List ℕ)
    (room : length lent ≡ uart_room) (single : st ≡ true → length bytes ≡ 1) (same : length new ≡ length lent)
    (front : TookFront (given_bytes s bytes m lent) silent (left taken n new)) where
  -- the byte behind those that are only gathered, the state before it, and what comes of it
  abbrev b : ℕ
  b = get_or bytes silent 0

  abbrev mid : State
  mid = state_of (gathered (take silent bytes) s) m

  abbrev o : Outcome
  o = call (Byte uart_room b) mid

  leaves : Leaves o lent (left taken n new)
  unfolding outcome
  leaves = subst (λ (r : ℕ). Leaves (call (Byte r b) mid) lent (left taken n new)) room front.took

  fits : length o.reply ≤ uart_room
  fits =
      let e = ap length leaves.buffer in
      let a = length-append o.reply (drop (length o.reply) lent) in
      let d = length-drop (length o.reply) lent in
      omega (arith, e, a, d, same, room)

  short : taken.length ≤ uart_room
  short = omega (arith, fits, leaves.count)

  within : silent < length bytes
  within = front.within

  -- in ST's dialect no byte was only gathered, so the session that was given is the one before the byte
  same_spoken : spoken st s o.reply ≡ said st b mid
  unfolding spoken
  same_spoken = by_test st refl
    where
      by_test : (t : Bool) → st ≡ t → spoken st s o.reply ≡ spoken st (gathered (take silent bytes) s) o.reply
      by_test false e = rw e refl
      by_test true e =
          let k : silent ≡ 0 = omega (arith, within, single e) in
          ap (λ (x : Session). spoken st x o.reply) (sym (none_gathered s) ∙ ap (λ (j : ℕ). gathered (take j bytes) s) (sym k))

  silent_front : 0 < silent → Gathers s (proper m && leb uart_room uart_room) silent
  silent_front = subst (λ (r : ℕ). 0 < silent → Gathers s (proper m && leb uart_room r) silent) room front.silent

  -- the front is what the byte says
  abbrev heard : List ℕ
  heard = take (silent + 1) bytes

  front_speaks : speaks st heard (state_of s m) ≡ record { text = said st b mid; state = o.state }
  unfolding said_all run
  front_speaks =
      let l : length heard ≡ silent + 1 = length-take-le (silent + 1) bytes (omega (arith, within)) in
      let t = take-take silent (silent + 1) bytes (omega arith) in
      let g = get_or-take (silent + 1) bytes silent 0 (omega arith) in
      let d = drop_of_length-le heard {i = suc silent} (omega (arith, l)) in
      front_said st heard silent (state_of s m) (omega (arith, l)) silent_front
      ∙ (λ i.
      let q = state_of (gathered (t i) s) m in
      behind (said st (g i) q) (speaks st (d i) (call (Byte uart_room (g i)) q).state))
      ∙ ap (λ (r : List ℕ). record { text = r; state = o.state }) (append-nil (said st b mid))

  left_state : state_of taken.session n ≡ o.state
  left_state = λ k. record {
    session = leaves.session k;
    memories = record { flash = leaves.flash k; sram = leaves.sram k; usd = leaves.usd k };
  }

  -- the reply was turned in its place
  front_heard : {turned : List ℕ} → turned ≡ spoken st s (take taken.length new)
      → Hears st heard (state_of s m) lent taken.length (turned ++ drop taken.length new) (state_of taken.session n)
  front_heard {turned} e =
      let w = sym (ap (λ (x : Spoken). x.text) front_speaks) in
      let r = take_at o.reply (drop (length o.reply) lent) taken.length (sym leaves.count) in
      let d = drop_at o.reply (drop (length o.reply) lent) taken.length (sym leaves.count) in
      let k = spoken_long st mid.session o.reply in
      let u = e ∙ ap (λ (x : List ℕ). spoken st s (take taken.length x)) leaves.buffer ∙ ap (spoken st s) r ∙ same_spoken in
      let v = ap (drop taken.length) leaves.buffer ∙ d ∙ ap (λ (j : ℕ). drop j lent) (sym k) in
      record {
        end = leaves.count ∙ sym k ∙ ap length w;
        text = ap₂ (λ (x y : List ℕ). x ++ y) u v ∙ sym (put_front lent (said st b mid) (omega (arith, k, fits, room))) ∙ ap (put lent 0) w;
        state = left_state ∙ sym (ap (λ (x : Spoken). x.state) front_speaks);
      }

  pub front_says : FrontSays st s bytes m lent silent taken n new
  front_says = record { within = within; short = short; heard = front_heard }
