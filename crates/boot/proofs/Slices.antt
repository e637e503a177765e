-- Bytes of a slice that are taken one by one: what is left to take ends as the whole does.
use mathlib.Core.Path.{◌≡◌, refl, sym, ap, ap₂, subst, ◌∙◌}
use mathlib.Core.Bool.{Bool, true, false, ◌&&◌}
use mathlib.Core.List.{List, [], ◌∷◌, ◌++◌, map, foldl, append-nil}
use Prim.Native.Nat.{ℕ, zero, suc, ◌+◌, ◌-◌, ◌≤◌, ◌<◌}
use native.Mathlib.Omega.{arith}
use lib.Dec.{T, eqb, leb}
use lib.ListN.{length, take, drop, get_or, length-append, length-drop}
use lib.Seq.{drop-length, drop-drop}
use borrow.Author.Tests.{eq-eqb, ne_eqb}
use Rattle.std.specs.Prelude.{Ok, Err}
use Rattle.words.specs.Lists.{join}
use Rattle.words.specs.Over.{put, newer}
use Rattle.words.proofs.Over.{over_none, put_then, put_front, length_over}
use Rattle.words.proofs.Slices.{to_the_end}
use Rattle.words.proofs.Tests.{holds_true}
use Rattle.memories.specs.Memories.{Memories, proper}
use Rattle.uart.specs.Conversation.{uart_room}
use Rattle.boot.specs.Session.{sound, gathered}
use Rattle.boot.specs.Causes.{accepts}
use Rattle.boot.specs.Calls.{State, Byte, Outcome, cause_for, decide, sent, perform, call, outcomes, run}
use Rattle.boot.specs.Gathering.{Gathers}
use Rattle.boot.specs.Promise.{Left, left, state_of, unanswered_taken, outcome, Leaves}
use Rattle.boot.specs.Slices.{one_by_one, after_bytes, how_many, Nack, no_nack, later, as_one, taking, slice_cause, call_bytes, GivenBytes, given_bytes}
use Rattle.boot.specs.Slices.{slice_outcome, LeavesBytes, TookBytes, nack_of, joined, TookFront}
use Rattle.boot.specs.Causes.{Judged}
use Rattle.boot.specs.Causes.{accepted}
use Rattle.boot.specs.declared.Cause.{Cause}
use Rattle.boot.specs.declared.Session.{Session}
use Rattle.boot.specs.declared.Taken.{Taken}
use Rattle.boot.proofs.Causes.{accepts_number, call_cause, refused_call, accepted_clear, refused_leaves}
use Rattle.boot.proofs.Silent.{only_gathered, front_passed}

-- what taking ends in: how many bytes were taken, where the replies end in a buffer, what that holds, the last NACK, and the state
pub record Ending : Type 0 where
  pub count : ℕ
  pub end : ℕ
  pub buffer : List ℕ
  pub nack : Nack
  pub state : State

-- what calls tell of a NACK, after others
abbrev pub told : Nack → Outcome → Nack
told n o = later n o.reason o.place

-- the replies of calls, joined
abbrev pub replies : List Outcome → List ℕ
replies os = join (map (λ (o : Outcome). o.reply) os)

-- n of some bytes are taken, behind i that were
abbrev pub ended : ℕ → ℕ → ℕ → List ℕ → Nack → List ℕ → State → Ending
ended n i at buffer nack bs p = record {
  count = i + n;
  end = at + length (replies (take n (one_by_one bs p)));
  buffer = put buffer at (replies (take n (one_by_one bs p)));
  nack = foldl told nack (take n (one_by_one bs p));
  state = after_bytes (take n bs) p;
}

-- as many as there is room for
abbrev pub ends : ℕ → ℕ → List ℕ → Nack → ℕ → List ℕ → State → Ending
ends i at buffer nack room bs p = ended (how_many room (one_by_one bs p)) i at buffer nack bs p

-- nothing more is taken
abbrev pub here : ℕ → ℕ → List ℕ → Nack → State → Ending
here i at buffer nack p = record { count = i; end = at; buffer = buffer; nack = nack; state = p }

-- what is left to take behind some bytes of a slice, after what their calls have handed back
abbrev pub left_over : List ℕ → Memories → List ℕ → Taken → ℕ → Ending
left_over bytes m buffer done count =
    ends count done.length buffer (nack_of done) (length buffer - done.length) (drop count bytes) (state_of done.session m)

-- nothing is
abbrev pub nothing_left : Memories → List ℕ → Taken → ℕ → Ending
nothing_left m buffer done count = here count done.length buffer (nack_of done) (state_of done.session m)

-- where there are no bytes
pub none_left : (i at : ℕ) (buffer : List ℕ) (nack : Nack) (room : ℕ) (p : State) → ends i at buffer nack room [] p ≡ here i at buffer nack p
unfolding how_many outcomes run
none_left i at buffer nack room p =
    let c : i + 0 ≡ i = omega arith in
    let e : at + 0 ≡ at = omega arith in
    λ k. record { count = c k; end = e k; buffer = over_none newer buffer at k; nack = nack; state = p }

-- nothing is left behind the last of them
pub all_taken : (bytes : List ℕ) (m : Memories) (buffer : List ℕ) (done : Taken) (count : ℕ) → count ≡ length bytes
    → left_over bytes m buffer done count ≡ nothing_left m buffer done count
all_taken bytes m buffer done count e =
    ap (λ (bs : List ℕ). ends count done.length buffer (nack_of done) (length buffer - done.length) bs (state_of done.session m))
    (ap (λ (n : ℕ). drop n bytes) e ∙ drop-length bytes)
    ∙ none_left count done.length buffer (nack_of done) (length buffer - done.length) (state_of done.session m)

module _ (room b : ℕ) (p : State) where
  -- one byte's call
  abbrev pub one : Outcome
  one = call (Byte room b) p

  -- one that is accepted has enough room
  accepted_room : accepts one.cause ≡ true → T (leb uart_room room)
  unfolding cause_for
  accepted_room a =
      (accepted_clear (proper p.memories) (leb uart_room room) true p.session (sym (call_cause (Byte room b) p) ∙ a)).enough

  -- with enough room it is the same whatever the room
  pub same_call : T (leb uart_room room) → one ≡ call (Byte uart_room b) p
  unfolding call cause_for decide perform sent
  same_call t = rw (holds_true (leb uart_room room) t) refl

  -- it is made exactly where the byte is one that is taken
  taken_where : leb uart_room room && accepts (call (Byte uart_room b) p).cause ≡ accepts one.cause
  taken_where = by_test (accepts one.cause) refl (leb uart_room room) refl
    where
      by_test : (a : Bool) → accepts one.cause ≡ a → (t : Bool) → leb uart_room room ≡ t → t && accepts (call (Byte uart_room b) p).cause ≡ a
      by_test a e true h = ap (λ (o : Outcome). accepts o.cause) (sym (same_call (subst T (sym h) tt))) ∙ e
      by_test true e false h = absurd (subst T h (accepted_room e))
      by_test false e false h = refl

  module _ (i at : ℕ) (buffer : List ℕ) (nack : Nack) (bs : List ℕ) where
    -- a byte is taken, and more may follow
    pub one_taken : accepts one.cause ≡ true
        → ends i at buffer nack room (b ∷ bs) p
        ≡ ends (i + 1) (at + length one.reply) (put buffer at one.reply) (told nack one) (room - length one.reply) bs one.state
    unfolding how_many outcomes run
    one_taken a =
        let o = call (Byte uart_room b) p in
        let n = how_many (room - length o.reply) (one_by_one bs o.state) in
        let rs = replies (take n (one_by_one bs o.state)) in
        let c : i + suc n ≡ i + 1 + n = omega arith in
        let l = length-append o.reply rs in
        let e : at + length (o.reply ++ rs) ≡ at + length o.reply + length rs = omega arith in
        rw (taken_where, a, same_call (accepted_room a))
        (λ k. record {
          count = c k;
          end = e k;
          buffer = sym (put_then buffer at (at + length o.reply) o.reply rs refl) k;
          nack = foldl told (told nack o) (take n (one_by_one bs o.state));
          state = after_bytes (take n bs) o.state;
        })

    -- one that is refused is where taking ends
    pub one_refused : accepts one.cause ≡ false
        → ends i at buffer nack room (b ∷ bs) p ≡ here i (at + length one.reply) (put buffer at one.reply) (told nack one) one.state
    unfolding how_many outcomes run
    one_refused a =
        let c : i + 0 ≡ i = omega arith in
        rw (taken_where, a, refused_call (Byte room b) p a)
        (λ k. record { count = c k; end = at + 0; buffer = put buffer at []; nack = nack; state = p })

-- the bytes at the front of a slice that are only gathered are taken
pub front_taken : (room i at : ℕ) (buffer : List ℕ) (nack : Nack) (bs : List ℕ) (n : ℕ) (p : State) → n < length bs
    → (0 < n → Gathers p.session (proper p.memories && leb uart_room room) n)
    → ends i at buffer nack room bs p ≡ ends (i + n) at buffer nack room (get_or bs n 0 ∷ drop (suc n) bs) (only_gathered (take n bs) p).state
front_taken room i at buffer nack bs n p =
    front_passed (λ (j : ℕ) (cs : List ℕ) (q : State). ends j at buffer nack room cs q) room
    (λ j b cs q e.
    one_taken room b q j at buffer nack cs (ap (λ (o : Outcome). accepts o.cause) e)
    ∙ ap (λ (o : Outcome). ends (j + 1) (at + length o.reply) (put buffer at o.reply) (told nack o) (room - length o.reply) cs o.state) e
    ∙ quiet j cs (only_gathered (b ∷ []) q).state)
    bs i n p
  where
    quiet : (j : ℕ) (cs : List ℕ) (q : State)
        → ends (j + 1) (at + 0) (put buffer at []) nack (room - 0) cs q ≡ ends (j + 1) at buffer nack room cs q
    quiet j cs q =
        let e : at + 0 ≡ at = omega arith in
        let r : room - 0 ≡ room = omega arith in
        rw (over_none newer buffer at, e, r) refl

-- ---- a reply behind others

-- bytes put into the part of a room from a place on are put into the room there
put_part : (m : List ℕ) (at : ℕ) (new : List ℕ) → take at m ++ put (drop at m) 0 new ≡ put m at new
put_part [] zero new = refl
put_part [] (suc at) new = refl
put_part (x ∷ m) zero new = refl
put_part (x ∷ m) (suc at) new = ap (λ (r : List ℕ). x ∷ r) (put_part m at new)

-- a buffer whose part from a place on was lent, and came back with a reply at its front
pub reply_behind : (buffer : List ℕ) (at : ℕ) (new reply : List ℕ) → at + length reply ≤ length buffer
    → new ≡ reply ++ drop (length reply) (take (length buffer - at) (drop at buffer))
    → take at buffer ++ (new ++ drop (length buffer - at) (drop at buffer)) ≡ put buffer at reply
reply_behind buffer at new reply h e =
    let l = length-drop at buffer in
    ap (λ (r : List ℕ). take at buffer ++ r)
    (ap₂ (λ (r s : List ℕ). r ++ s) (e ∙ ap (λ (r : List ℕ). reply ++ drop (length reply) r) (to_the_end at buffer))
    (ap (λ (n : ℕ). drop n (drop at buffer)) (sym l) ∙ drop-length (drop at buffer))
    ∙ append-nil (reply ++ drop (length reply) (drop at buffer)) ∙ sym (put_front (drop at buffer) reply (omega arith)))
    ∙ put_part buffer at reply

-- ---- a turn

-- what calls have handed back, and the front of what is left was taken
module _ (bytes buffer : List ℕ) (count : ℕ) (done : Taken) (m : Memories) (silent : ℕ) (taken : Taken) (n : Memories) (new : List ℕ)
    (fits : done.length ≤ length buffer) (same : length new ≡ length (take (length buffer - done.length) (drop done.length buffer)))
    (front : TookFront (given_bytes done.session (take (length bytes - count) (drop count bytes)) m
    (take (length buffer - done.length) (drop done.length buffer))) silent (left taken n new)) where
  -- where the replies end, the bytes that are left, and the room
  abbrev at : ℕ
  at = done.length

  abbrev rest : List ℕ
  rest = drop count bytes

  abbrev part : List ℕ
  part = drop at buffer

  tidy : TookFront (given_bytes done.session rest m part) silent (left taken n new)
  tidy = rw (to_the_end count bytes, to_the_end at buffer) at front

  -- the state with the silent bytes gathered, and the outcome of the byte behind them
  abbrev mid : State
  mid = state_of (gathered (take silent rest) done.session) m

  abbrev o : Outcome
  o = call (Byte (length part) (get_or rest silent 0)) mid

  leaves : Leaves o part (left taken n new)
  unfolding outcome
  leaves = tidy.took

  -- it is accepted where its number is 0
  numbered : accepts o.cause ≡ eqb taken.number 0
  numbered = accepts_number o.cause ∙ ap (λ (k : ℕ). eqb k 0) (sym leaves.number)

  -- the buffer with the reply in it
  abbrev pub buffer' : List ℕ
  buffer' = take at buffer ++ (new ++ drop (length buffer - at) part)

  pub stays_within : count + silent < length bytes
  stays_within = omega (arith, tidy.within, length-drop count bytes)

  fits_o : at + length o.reply ≤ length buffer
  fits_o =
      let l = length-drop at buffer in
      let k = same ∙ ap length (to_the_end at buffer) in
      let e = sym (ap length leaves.buffer) ∙ k in
      let a = length-append o.reply (drop (length o.reply) part) in
      let d = length-drop (length o.reply) part in
      omega arith

  pub still_fits : at + taken.length ≤ length buffer
  still_fits = omega (arith, fits_o, leaves.count)

  replied : buffer' ≡ put buffer at o.reply
  replied =
      reply_behind buffer at new o.reply fits_o
      (leaves.buffer ∙ ap (λ (r : List ℕ). o.reply ++ drop (length o.reply) r) (sym (to_the_end at buffer)))

  pub back_length : length buffer' ≡ length buffer
  back_length = ap length replied ∙ length_over newer buffer at o.reply

  nacked : nack_of (joined done taken) ≡ told (nack_of done) o
  nacked = λ k. later (nack_of done) (leaves.reason k) (leaves.place k)

  left_state : state_of taken.session n ≡ o.state
  left_state = λ k. record {
    session = leaves.session k;
    memories = record { flash = leaves.flash k; sram = leaves.sram k; usd = leaves.usd k };
  }

  before : ends count at buffer (nack_of done) (length buffer - at) rest (state_of done.session m)
      ≡ ends (count + silent) at buffer (nack_of done) (length part) (get_or rest silent 0 ∷ drop (suc silent) rest) mid
  before =
      ap (λ (r : ℕ). ends count at buffer (nack_of done) r rest (state_of done.session m)) (sym (length-drop at buffer))
      ∙ front_taken (length part) count at buffer (nack_of done) rest silent (state_of done.session m) tidy.within tidy.silent

  -- where the byte behind the front was refused, taking ends there
  pub turn_ends : (taken.number ≡ 0 → ⊥)
      → ends count at buffer (nack_of done) (length buffer - at) rest (state_of done.session m)
      ≡ here (count + silent) (at + taken.length) buffer' (nack_of (joined done taken)) (state_of taken.session n)
  turn_ends a =
      before
      ∙ one_refused (length part) (get_or rest silent 0) mid (count + silent) at buffer (nack_of done) (drop (suc silent) rest)
      (numbered ∙ ne_eqb taken.number 0 a)
      ∙ sym (λ k. here (count + silent) (at + leaves.count k) (replied k) (nacked k) (left_state k))

  -- where it was accepted, it goes on behind it
  pub turn_goes_on : taken.number ≡ 0
      → ends count at buffer (nack_of done) (length buffer - at) rest (state_of done.session m)
      ≡ ends (count + silent + 1) (at + taken.length) buffer' (nack_of (joined done taken)) (length buffer' - (at + taken.length))
      (drop (count + silent + 1) bytes) (state_of taken.session n)
  turn_goes_on a =
      let l = back_length in
      let c = leaves.count in
      let r : length part - length o.reply ≡ length buffer' - (at + taken.length) = omega (arith, length-drop at buffer) in
      let e : count + suc silent ≡ count + silent + 1 = omega arith in
      let d = drop-drop (suc silent) count bytes ∙ ap (λ (z : ℕ). drop z bytes) e in
      before
      ∙ one_taken (length part) (get_or rest silent 0) mid (count + silent) at buffer (nack_of done) (drop (suc silent) rest)
      (numbered ∙ eq-eqb taken.number 0 a)
      ∙ (λ k. ends (count + silent + 1) (at + sym c k) (sym replied k) (sym nacked k) (r k) (d k) (sym left_state k))

-- ---- the end

-- the first calls of some bytes are the calls of the first bytes
first_calls : (n : ℕ) (bs : List ℕ) (p : State) → take n (one_by_one bs p) ≡ one_by_one (take n bs) p
unfolding outcomes
first_calls zero bs p = refl
first_calls (suc n) [] p = refl
first_calls (suc n) (b ∷ bs) p = ap (λ (os : List Outcome). call (Byte uart_room b) p ∷ os) (first_calls n bs (call (Byte uart_room b) p).state)

-- what taking ends in is what the call of a slice leaves
pub ends_leaves : (s : Session) (m : Memories) (lent bs : List ℕ) {r : Taken} {n : ℕ} {m' : Memories} {buffer : List ℕ}
    → r.number ≡ 0 → r.length ≤ length lent
    → here n r.length buffer (nack_of r) (state_of r.session m') ≡ ends 0 0 lent no_nack (length lent) bs (state_of s m)
    → LeavesBytes (taking (length lent) bs (state_of s m)) lent n (left r m' buffer)
unfolding as_one
ends_leaves s m lent bs {r} e h whole =
    let n = how_many (length lent) (one_by_one bs (state_of s m)) in
    let k = rw (first_calls n bs (state_of s m)) at whole in
    let c : r.length ≡ 0 + length (replies (one_by_one (take n bs) (state_of s m))) = ap (λ (z : Ending). z.end) k in
    record {
      count = let i = ap (λ (z : Ending). z.count) k in omega arith;
      leaves = record {
        number = e;
        count = omega arith;
        reason = ap (λ (z : Ending). z.nack.reason) k;
        place = ap (λ (z : Ending). z.nack.place) k;
        session = ap (λ (z : Ending). z.state.session) k;
        flash = ap (λ (z : Ending). z.state.memories.flash) k;
        sram = ap (λ (z : Ending). z.state.memories.sram) k;
        usd = ap (λ (z : Ending). z.state.memories.usd) k;
        buffer = ap (λ (z : Ending). z.buffer) k ∙ put_front lent _ (omega arith);
      };
    }

-- the same of what is left when no call has handed back anything
pub left_leaves : (s : Session) (m : Memories) (lent bs : List ℕ) (first : Taken) {r : Taken} {n : ℕ} {m' : Memories} {buffer : List ℕ}
    → first ≡ unanswered_taken accepted s → r.number ≡ first.number → r.length ≤ length lent
    → left_over bs m lent first 0 ≡ nothing_left m' buffer r n
    → LeavesBytes (taking (length lent) bs (state_of s m)) lent n (left r m' buffer)
left_leaves s m lent bs first e number fits whole =
    let room : length lent ≡ length lent - 0 = omega arith in
    ends_leaves s m lent bs (number ∙ ap (λ (t : Taken). t.number) e) fits
    (sym (ap (λ (k : ℕ). ends 0 0 lent no_nack k bs (state_of s m)) room
    ∙ ap (λ (t : Taken). left_over bs m lent t 0) (sym e) ∙ whole))

module _ (g : GivenBytes) (c : Judged) (ec : c ≡ slice_cause g.state) where
  -- a slice that is not refused is taken
  pub slice_taken : {n : ℕ} {l : Left} {u : Unit {0}} → c ≡ Ok u → LeavesBytes (taking (length g.buffer) g.bytes g.state) g.buffer n l
      → TookBytes g n l
  unfolding slice_outcome call_bytes
  slice_taken e k = rw (← ec, e) k

  -- one that is leaves everything as it was
  pub slice_refused : {r : Taken} {k : Cause} → c ≡ Err k → r ≡ unanswered_taken (Err k) g.state.session
      → TookBytes g 0 (left r g.state.memories g.buffer)
  unfolding slice_outcome call_bytes
  slice_refused e er = rw (← ec, e) (record { count = refl; leaves = refused_leaves g.state g.buffer er })

-- a slice that is not refused finds a sound session
pub slice_sound : (p : State) → accepts (slice_cause p) ≡ true → T (sound p.session)
unfolding slice_cause
slice_sound p a = (accepted_clear (proper p.memories) true true p.session a).firm
