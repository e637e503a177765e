-- Whatever bytes come, the memories keep their lengths.
use mathlib.Core.Path.{sym, subst}
use mathlib.Core.Bool.{Bool, true, false}
use mathlib.Core.List.{List, [], ◌∷◌, map}
use Prim.Native.Nat.{ℕ}
use lib.Dec.{T}
use Rattle.std.specs.Prelude.{if◌then◌else◌}
use Rattle.memories.specs.Memories.{proper}
use Rattle.memories.proofs.Lengths.{effect_proper}
use Rattle.command.specs.Progress.{staged_with}
use Rattle.uart.specs.Conversation.{uart_room}
use Rattle.boot.specs.Session.{progress}
use Rattle.boot.specs.Causes.{accepts}
use Rattle.boot.specs.Calls.{State, Input, Byte, view_in, cause_for, decide, perform, refused, call, brings, run}
use Rattle.port_loop.specs.Port.{Hears}

call_proper : (i : Input) (p : State) → T (proper p.memories) → T (proper (call i p).state.memories)
unfolding call perform
call_proper i p t = by_test (accepts (cause_for i p))
  where
    by_test : (b : Bool) → T (proper (if b then perform i p (decide i p.session (view_in p)) else refused (cause_for i p) p).state.memories)
    by_test true = effect_proper (staged_with (progress p.session) (brings i)) p.memories t (decide i p.session (view_in p)).change
    by_test false = t

run_proper : (is : List Input) (p : State) → T (proper p.memories) → T (proper (run is p).memories)
unfolding run
run_proper [] p t = t
run_proper (i ∷ is) p t = run_proper is (call i p).state (call_proper i p t)

pub heard_proper : {st : Bool} {bs : List ℕ} {p q : State} {lent left : List ℕ} {end : ℕ} → Hears st bs p lent end left q
    → T (proper p.memories) → T (proper q.memories)
heard_proper {bs = bs} {p = p} h t = subst (λ (s : State). T (proper s.memories)) (sym h.state) (run_proper (map (Byte uart_room) bs) p t)
