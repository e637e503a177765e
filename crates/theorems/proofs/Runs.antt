-- What calls leave that keep their promises is what the definitions say, so demand 3 of these is demand 3 of the code.
use mathlib.Core.Path.{◌≡◌, refl, sym, ap, ap₂, ◌∙◌, subst}
use mathlib.Core.Bool.{Bool, true, false, not, ◌&&◌}
use Prim.Native.Nat.{ℕ}
use mathlib.Core.List.{List, [], ◌∷◌, ◌++◌}
use lib.Dec.{T}
use lib.ListN.{length, take, drop}
use Rattle.words.proofs.Tests.{both_left, both_right}
use Rattle.memories.specs.Effects.{effect}
use Rattle.boot.specs.Session.{fresh, after}
use Rattle.boot.specs.Calls.{State, powered, Outcome, cause_for, decide, sent, perform, call, run}
use Rattle.boot.specs.Promise.{Left, Leaves, outcome}
use Rattle.boot.specs.declared.Session.{Session}
use Rattle.command.specs.Says.{says}
use Rattle.theorems.specs.Secrecy.{opens, is_unprotect, shut, Call, PowerOn, TakeByte, TakeFrame, input, inputs, left_by, leaves, leaves_of, Seen}
use Rattle.theorems.specs.Secrecy.{seen, seen_of, Alike}
use Rattle.theorems.specs.Runs.{left_on, Kept, board_in, Ran, seen_in, end_of, RunsOnce, obeyed, shut_in, Demand3OfCode}
use Rattle.theorems.proofs.Opening.{call_staged, opens_exactly}
use Rattle.theorems.proofs.Secrecy.{secret}
use Rattle.theorems.proofs.Wire.{number_accepts}

-- ---- one call

-- what an outcome leaves is fixed part by part
left_once : (o : Outcome) (before : List ℕ) (l : Left) → Leaves o before l → l ≡ left_by o before
left_once o before l k = λ i. record {
  result = record { number = k.number i; length = k.count i; reason = k.reason i; place = k.place i; session = k.session i };
  flash = k.flash i;
  sram = k.sram i;
  usd = k.usd i;
  buffer = k.buffer i;
}

leaves_itself : {o : Outcome} {before : List ℕ} → Leaves o before (left_by o before)
leaves_itself = record { number = refl; count = refl; reason = refl; place = refl; session = refl; flash = refl; sram = refl; usd = refl; buffer = refl }

-- what power on leaves
on_once : (p : State) → left_on fresh p ≡ leaves PowerOn p
unfolding call cause_for decide perform sent says after effect
on_once p = refl

kept_once : (c : Call) (p : State) (l : Left) → Kept c p l → l ≡ leaves c p
unfolding outcome
kept_once PowerOn p l (s, on, e) = e ∙ ap (λ (t : Session). left_on t p) on.session ∙ on_once p
kept_once (TakeByte buffer b) p l k = left_once _ buffer l k
kept_once (TakeFrame buffer frame) p l k = left_once _ buffer l k

-- and the definitions' own keeps every promise
own_kept : (c : Call) (p : State) → Kept c p (leaves c p)
unfolding outcome
own_kept PowerOn p = (fresh, record { session = refl }, sym (on_once p))
own_kept (TakeByte buffer b) p = leaves_itself
own_kept (TakeFrame buffer frame) p = leaves_itself

-- ---- a run of calls

some_run : (cs : List Call) (p : State) → Ran cs p (leaves_of cs p)
unfolding leaves_of
some_run [] p = tt
some_run (c ∷ cs) p = (own_kept c p, some_run cs (call (input c) p).state)

one_run : (cs : List Call) (p : State) (ls : List Left) → Ran cs p ls → ls ≡ leaves_of cs p
unfolding leaves_of
one_run [] p [] k = refl
one_run [] p (l ∷ ls) k = absurd k
one_run (c ∷ cs) p [] k = absurd k
one_run (c ∷ cs) p (l ∷ ls) (k, w) =
    let e : l ≡ leaves c p = kept_once c p l k in
    ap₂ {C = List Left} (λ (x : Left) (xs : List Left). x ∷ xs) e (one_run cs (board_in l) ls w ∙ ap (λ (x : Left). leaves_of cs (board_in x)) e)

pub runs_once : RunsOnce
runs_once = record { some = some_run; one = one_run }

-- what is seen of its first calls, the board behind them, and what the later ones leave, are the definitions' own
seen_in_lem : (cs ds : List Call) (p : State) → seen_in cs p (leaves_of (cs ++ ds) p) ≡ seen_of cs p
unfolding leaves_of seen_in seen_of
seen_in_lem [] ds p = refl
seen_in_lem (c ∷ cs) ds p = ap (λ (xs : List Seen). seen c p.session (leaves c p) ∷ xs) (seen_in_lem cs ds (call (input c) p).state)

end_of_lem : (cs ds : List Call) (p : State) → end_of p (take (length cs) (leaves_of (cs ++ ds) p)) ≡ run (inputs cs) p
unfolding leaves_of end_of run
end_of_lem [] ds p = refl
end_of_lem (c ∷ cs) ds p = end_of_lem cs ds (call (input c) p).state

behind : (cs ds : List Call) (p : State) → drop (length cs) (leaves_of (cs ++ ds) p) ≡ leaves_of ds (run (inputs cs) p)
unfolding leaves_of run
behind [] ds p = refl
behind (c ∷ cs) ds p = behind cs ds (call (input c) p).state

-- ---- an obeyed Access Unprotect

obeyed_opens : (c : Call) (p : State) → length p.session.staged ≡ 257 → obeyed c p (leaves c p) ≡ opens (input c) p
obeyed_opens c p l =
    ap (λ (t : Bool). t && is_unprotect (input c) p.session) (number_accepts (input c) p) ∙ sym (opens_exactly.anywhere (input c) p l)

shut_in_lem : (cs ds : List Call) (p : State) → length p.session.staged ≡ 257 → shut_in cs p (leaves_of (cs ++ ds) p) ≡ shut (inputs cs) p
unfolding leaves_of shut_in shut
shut_in_lem [] ds p l = refl
shut_in_lem (c ∷ cs) ds p l =
    ap₂ (λ (s t : Bool). not s && t) (obeyed_opens c p l) (shut_in_lem cs ds (call (input c) p).state (call_staged (input c) p l))

-- where there is none among some calls and one with the next, the next is it
next_opens : (cs : List Call) (c : Call) (ds : List Call) (p : State) → length p.session.staged ≡ 257
    → T (shut_in cs p (leaves_of (cs ++ c ∷ ds) p)) → T (not (shut_in (cs ++ c ∷ []) p (leaves_of (cs ++ c ∷ ds) p)))
    → T (opens (input c) (run (inputs cs) p))
unfolding leaves_of shut_in run
next_opens [] c ds p l h k = subst T (obeyed_opens c p l) (alone (obeyed c p (leaves c p)) k)
  where
    alone : (t : Bool) → T (not (not t && true)) → T t
    alone true k = tt
    alone false k = k
next_opens (x ∷ cs) c ds p l h k =
    next_opens cs c ds (call (input x) p).state (call_staged (input x) p l)
    (both_right (not (obeyed x p (leaves x p))) _ h) (later (not (obeyed x p (leaves x p))) _ (both_left (not (obeyed x p (leaves x p))) _ h) k)
  where
    later : (s t : Bool) → T s → T (not (s && t)) → T (not t)
    later true t h k = k
    later false t h k = absurd h

-- demand 3 of the code
pub secret_runs : Demand3OfCode
secret_runs m n pm pn e l = record {
  before = λ cs ds ls ks v w k.
      let x : ls ≡ leaves_of (cs ++ ds) (powered m) = one_run (cs ++ ds) (powered m) ls v in
      let y : ks ≡ leaves_of (cs ++ ds) (powered n) = one_run (cs ++ ds) (powered n) ks w in
      let a : Alike cs (powered m) (powered n) = (secret m n pm pn e l).before cs (rw (x, shut_in_lem cs ds (powered m) refl) at k) in
      record {
        seen = rw (x, y) (seen_in_lem cs ds (powered m) ∙ a.seen ∙ sym (seen_in_lem cs ds (powered n)));
        first = rw (x, end_of_lem) a.first;
        second = rw (y, end_of_lem) a.second;
      };
  after = λ cs c ds ls ks v w k o.
      let x : ls ≡ leaves_of (cs ++ c ∷ ds) (powered m) = one_run (cs ++ c ∷ ds) (powered m) ls v in
      let y : ks ≡ leaves_of (cs ++ c ∷ ds) (powered n) = one_run (cs ++ c ∷ ds) (powered n) ks w in
      let h : T (shut (inputs cs) (powered m)) = rw (x, shut_in_lem cs (c ∷ ds) (powered m) refl) at k in
      let u : T (opens (input c) (run (inputs cs) (powered m))) = next_opens cs c ds (powered m) refl (rw x at k) (rw x at o) in
      rw (x, y) (behind cs (c ∷ ds) (powered m) ∙ (secret m n pm pn e l).after cs c ds h u ∙ sym (behind cs (c ∷ ds) (powered n)));
}
