-- Whatever a host types, the memories keep their lengths.
use mathlib.Core.Path.{sym, subst}
use mathlib.Core.Bool.{Bool, true, false}
use mathlib.Core.List.{List, [], ◌∷◌}
use Prim.Native.Nat.{ℕ, suc}
use lib.Dec.{T, eqb, ltb}
use lib.ListN.{length}
use Rattle.std.specs.Prelude.{if◌then◌else◌}
use Rattle.memories.specs.Memories.{proper}
use Rattle.memories.proofs.Lengths.{effect_proper}
use Rattle.command.specs.Progress.{staged_with}
use Rattle.boot.specs.Session.{progress}
use Rattle.boot.specs.Causes.{accepts}
use Rattle.boot.specs.Calls.{State, Input, view_in, cause_for, decide, perform, refused, call, brings}
use Rattle.desk_lines.specs.Lines.{line_feed, kind_of}
use Rattle.desk_lines.specs.declared.Kind.{Kind}
use Rattle.desk_lines.specs.declared.Kind.TheVariants.{Bytes, Frame, PowerOn, Other}
use Rattle.desk_answers.specs.Told.{Told, quiet, ◌then◌}
use Rattle.desk_answers.specs.Answers.{Teller, made, makes, reply_of, calls_of, answer_by, answer}
use Rattle.desk_answers.specs.Desk.{Desk, line_ends, kept, hears, input_ends}
use Rattle.desk_answers.specs.Promise.{Tells}

call_proper : (i : Input) (p : State) → T (proper p.memories) → T (proper (call i p).state.memories)
unfolding call perform
call_proper i p t = by_test (accepts (cause_for i p))
  where
    by_test : (b : Bool) → T (proper (if b then perform i p (decide i p.session (view_in p)) else refused (cause_for i p) p).state.memories)
    by_test true = effect_proper (staged_with (progress p.session) (brings i)) p.memories t (decide i p.session (view_in p)).change
    by_test false = t

makes_proper : (f : Teller) (is : List Input) (p : State) → T (proper p.memories) → T (proper (makes f is p).state.memories)
unfolding makes made
makes_proper f [] p t = t
makes_proper f (i ∷ is) p t = makes_proper f is (call i p).state (call_proper i p t)

answer_by_proper : (why : Bool) (k : Kind) (n : ℕ) (line : List ℕ) (p : State) → T (proper p.memories)
    → T (proper (answer_by why k n line p).state.memories)
unfolding answer_by
answer_by_proper why Bytes n line p t = makes_proper reply_of (calls_of Bytes line) p t
answer_by_proper why Frame n line p t = makes_proper reply_of (calls_of Frame line) p t
answer_by_proper why PowerOn n line p t = makes_proper reply_of (calls_of PowerOn line) p t
answer_by_proper why Other n line p t = t

line_proper : (d : Desk) → T (proper d.state.memories) → T (proper (line_ends d).state.state.memories)
unfolding answer
line_proper d t = answer_by_proper d.why (kind_of d.line) (suc d.lines) d.line d.state t

hears_proper : (text : List ℕ) (d : Desk) → T (proper d.state.memories) → T (proper (hears text d).state.state.memories)
unfolding hears
hears_proper [] d t = t
hears_proper (c ∷ cs) d t = by_test (eqb c line_feed) (hears_proper cs)
  where
    by_test : (b : Bool) → ((e : Desk) → T (proper e.state.memories) → T (proper (hears cs e).state.state.memories))
        → T (proper (if b then line_ends d then hears cs else hears cs (kept d c)).state.state.memories)
    by_test true f = f (line_ends d).state (line_proper d t)
    by_test false f = f (kept d c) t

ends_proper : (d : Desk) → T (proper d.state.memories) → T (proper (input_ends d).state.state.memories)
unfolding input_ends
ends_proper d t = by_test (ltb 0 (length d.line))
  where
    by_test : (b : Bool) → T (proper (if b then line_ends d else quiet d).state.state.memories)
    by_test true = line_proper d t
    by_test false = t

-- what was told has left a desk whose memories have their lengths
left_proper : {told : Told Desk} {d : Desk} {lent left : List ℕ} {at end : ℕ} → Tells told at lent end left d
    → T (proper told.state.state.memories) → T (proper d.state.memories)
left_proper h t = subst (λ (s : Desk). T (proper s.state.memories)) (sym h.state) t

pub heard_proper : (text : List ℕ) (b : Desk) {d : Desk} {lent left : List ℕ} {at end : ℕ} → Tells (hears text b) at lent end left d
    → T (proper b.state.memories) → T (proper d.state.memories)
heard_proper text b h t = left_proper h (hears_proper text b t)

pub ended_proper : (b : Desk) {d : Desk} {lent left : List ℕ} {at end : ℕ} → Tells (input_ends b) at lent end left d
    → T (proper b.state.memories) → T (proper d.state.memories)
ended_proper b h t = left_proper h (ends_proper b t)
