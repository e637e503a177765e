-- Calls of bytes one by one leave what the definitions say of them, and so does the call of a slice.
use mathlib.Core.Path.{◌≡◌, refl, sym, ap, ap₂, subst, ◌∙◌}
use mathlib.Core.Bool.{Bool, true, false, ◌&&◌}
use mathlib.Core.List.{List, [], ◌∷◌, ◌++◌, map, foldl}
use Prim.Native.Nat.{ℕ, zero, suc, ◌-◌, ◌≤◌}
use lib.Dec.{T, eqb, leb}
use lib.ListN.{length, take, drop}
use lib.Seq.{take-append_seam}
use borrow.Author.Tests.{le-leb}
use Rattle.std.specs.Prelude.{if◌then◌else◌}
use Rattle.words.specs.Lists.{all, join}
use Rattle.words.proofs.Tests.{both_right, holds_true}
use Rattle.uart.specs.Conversation.{uart_room}
use Rattle.boot.specs.Causes.{accepts}
use Rattle.boot.specs.Calls.{State, Byte, Outcome, call, outcomes, run}
use Rattle.boot.specs.Promise.{Left, outcome, Leaves}
use Rattle.boot.specs.Slices.{one_by_one, after_bytes, how_many, Nack, no_nack, later, nack_of}
use Rattle.boot.specs.Slices.{as_one, taking, slice_cause, none_taken, call_bytes, GivenBytes, slice_outcome, LeavesBytes}
use Rattle.boot.proofs.Causes.{accepts_number}
use Rattle.boot.proofs.Slices.{told, same_call}
use Rattle.theorems.specs.Runs.{board_in, Ran, end_of}
use Rattle.theorems.specs.Slices.{reply_in, singly, later_in, SameAsSingly, SlicesAreRuns}

-- what keeps an outcome has its state, its reply, its NACK and its number
module _ (o : Outcome) (room : List ℕ) (l : Left) (k : Leaves o room l) where
  board_of : board_in l ≡ o.state
  board_of = λ i. record {
    session = k.session i;
    memories = record { flash = k.flash i; sram = k.sram i; usd = k.usd i };
  }

  reply_of_lem : reply_in l ≡ o.reply
  reply_of_lem = rw (k.count, k.buffer) (take-append_seam o.reply (drop (length o.reply) room))

  nack_of_lem : nack_of l.result ≡ record { reason = o.reason; place = o.place }
  nack_of_lem = λ i. record { reason = k.reason i; place = k.place i }

  accepted_of : accepts o.cause ≡ eqb l.result.number 0
  accepted_of = accepts_number o.cause ∙ ap (λ (n : ℕ). eqb n 0) (sym k.number)

-- all calls were accepted
abbrev clear : List Outcome → Bool
clear os = all (λ (o : Outcome). accepts o.cause) os

-- calls one by one have left what the definitions say of them
record Left-singly (bs : List ℕ) (p : State) (ls : List Left) : Type 0 where
  numbers : all (λ (l : Left). eqb l.result.number 0) ls ≡ clear (one_by_one bs p)
  board : end_of p ls ≡ after_bytes bs p
  reply : join (map reply_in ls) ≡ join (map (λ (o : Outcome). o.reply) (one_by_one bs p))
  nack : (n : Nack) → foldl later_in n ls ≡ foldl told n (one_by_one bs p)

singly_left : (room : List ℕ) → uart_room ≤ length room → (bs : List ℕ) (p : State) (ls : List Left) → Ran (singly room bs) p ls
    → Left-singly bs p ls
unfolding end_of run outcomes outcome
singly_left room e [] p [] k = record { numbers = refl; board = refl; reply = refl; nack = λ n. refl }
singly_left room e [] p (l ∷ ls) k = absurd k
singly_left room e (b ∷ bs) p [] k = absurd k
singly_left room e (b ∷ bs) p (l ∷ ls) (k, w) =
    let o = call (Byte uart_room b) p in
    let enough = subst T (sym (le-leb uart_room (length room) e)) tt in
    let t = subst (λ (o : Outcome). Leaves o room l) (same_call (length room) b p enough) k in
    let s = board_of o room l t in
    let rest = singly_left room e bs o.state ls (subst (λ (q : State). Ran (singly room bs) q ls) s w) in
    record {
      numbers = ap₂ (λ (a c : Bool). a && c) (sym (accepted_of o room l t)) rest.numbers;
      board = ap (λ (q : State). end_of q ls) s ∙ rest.board;
      reply = ap₂ (λ (a c : List ℕ). a ++ c) (reply_of_lem o room l t) rest.reply;
      nack = λ n. ap (λ (x : Nack). foldl later_in (later n x.reason x.place) ls) (nack_of_lem o room l t) ∙ rest.nack _;
    }

-- the bytes that are taken are those whose calls are accepted
taken_clear : (room : ℕ) (bs : List ℕ) (p : State) → T (clear (one_by_one (take (how_many room (one_by_one bs p)) bs) p))
unfolding how_many outcomes
taken_clear room [] p = tt
taken_clear room (b ∷ bs) p =
    let o = call (Byte uart_room b) p in
    let n = how_many (room - length o.reply) (one_by_one bs o.state) in
    by_test (leb uart_room room && accepts o.cause) refl n (taken_clear (room - length o.reply) bs o.state)
  where
    by_test : (t : Bool) → leb uart_room room && accepts (call (Byte uart_room b) p).cause ≡ t → (n : ℕ)
        → T (clear (one_by_one (take n bs) (call (Byte uart_room b) p).state)) → T (clear (one_by_one (take (if t then suc n else zero) (b ∷ bs)) p))
    by_test true e n r =
        let a = accepts (call (Byte uart_room b) p).cause in
        rw (holds_true a (both_right (leb uart_room room) a (subst T (sym e) tt))) r
    by_test false e n r = tt

-- the slice
pub slices_are_runs : SlicesAreRuns
unfolding slice_outcome call_bytes as_one
slices_are_runs g n l t z room e ls w = by_test (accepts (slice_cause g.state)) refl t
  where
    by_test : (b : Bool) → accepts (slice_cause g.state) ≡ b
        → LeavesBytes (if b then taking (length g.buffer) g.bytes g.state else none_taken g.state) g.buffer n l
        → SameAsSingly l g ls
    by_test true h t =
        let bs = take n g.bytes in
        let k = subst (λ (i : ℕ). Leaves (as_one (take i g.bytes) g.state) g.buffer l) (sym t.count) t.leaves in
        let one = singly_left room e bs g.state ls w in
        let c = taken_clear (length g.buffer) g.bytes g.state in
        record {
          accepted =
              subst T (sym one.numbers)
              (subst (λ (i : ℕ). T (clear (one_by_one (take i g.bytes) g.state))) (sym t.count) c);
          board = board_of (as_one bs g.state) g.buffer l k ∙ sym one.board;
          reply = reply_of_lem (as_one bs g.state) g.buffer l k ∙ sym one.reply;
          nack = nack_of_lem (as_one bs g.state) g.buffer l k ∙ sym (one.nack no_nack);
        }
    by_test false h t =
        let c = slice_cause g.state in
        absurd (subst T (sym (accepts_number c ∙ ap (λ (i : ℕ). eqb i 0) (sym t.leaves.number ∙ z)) ∙ h) tt)
