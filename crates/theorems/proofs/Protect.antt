-- The club's failure (d): an accepted list of 0x63 holds only sectors of the board, and protecting those alone is all that is done.
use mathlib.Core.Path.{refl, sym, subst}
use mathlib.Core.Bool.{Bool, true, false, or-true}
use mathlib.Core.List.{List}
use Prim.Native.Nat.{ℕ}
use lib.Dec.{T, ltb→lt}
use Rattle.std.specs.Prelude.{if◌then◌else◌}
use Rattle.words.specs.Lists.{all}
use Rattle.words.proofs.Tests.{holds_true}
use Rattle.board.specs.Quantities.{is_sector, first_indexed}
use Rattle.board.specs.declared.Region.TheVariants.{Usd}
use Rattle.memories.specs.Memories.{Memories, proper}
use Rattle.memories.specs.Effects.{effect}
use Rattle.memories.specs.declared.Change.{Change}
use Rattle.memories.specs.declared.Change.TheVariants.{ProtectOnly}
use Rattle.memories.proofs.Memories.{proper_length}
use Rattle.memories.proofs.Protected.{only_named, only_beside}
use Rattle.command.specs.Decision.{if◌gives◌else◌, answer}
use Rattle.command.specs.declared.Next.TheVariants.{Stay}
use Rattle.command.specs.declared.FixedReply.TheVariants.{Silence}
use Rattle.boot.specs.Causes.{accepts}
use Rattle.boot.specs.Calls.{done, State, Input, Power, Byte, Framed, view_in, cause_for, decide, perform, refused, call}
use Rattle.theorems.specs.Failures.{acks, staged_after, count_of_bytes, in_protect, to_protect, Protects, ExactlyNamed}
use Rattle.theorems.proofs.InStep.{accepted_proper}
use Rattle.theorems.proofs.Wire.{on_the_wire}
use Rattle.theorems.proofs.Listed.{decide_protect}

-- the change, on memories of their proper sizes
protects : (staged : List ℕ) (x : ℕ) (m : Memories) → T (proper m) → T (all is_sector (first_indexed x staged))
    → Protects (first_indexed x staged) m (effect (ProtectOnly x) staged m)
unfolding effect
protects staged x m p t = record {
  exactly = λ k n. only_named m.usd (first_indexed x staged) k (proper_length m p Usd) t (ltb→lt k.0 32 n);
  sectors = t;
  others = λ i h b. only_beside m.usd (first_indexed x staged) i h t b;
  flash = refl;
  sram = refl;
}

module _ (p : State) (h : T (in_protect p.session)) where
  -- an input, by whether it is accepted
  protects_if : (i : Input) (t : Bool) → (T t → T (proper p.memories))
      → T (acks (if t gives decide i p.session (view_in p) else answer Silence Stay).reply)
      → Protects (to_protect i p.session) p.memories
      (if t then perform i p (decide i p.session (view_in p)) else refused (cause_for i p) p).state.memories
  unfolding perform if◌gives◌else◌
  protects_if i false f a = absurd a
  protects_if i true f a =
      let e = (decide_protect i p.session (view_in p) h).holds a in
      subst (λ (c : Change). Protects (to_protect i p.session) p.memories (effect c (staged_after i p.session) p.memories))
      (sym e.0) (protects (staged_after i p.session) (count_of_bytes p.session) p.memories (f tt) e.1)

  protects_call : (i : Input) → T (acks (done i p).reply) → Protects (to_protect i p.session) p.memories (call i p).state.memories
  unfolding call done cause_for decide if◌gives◌else◌
  protects_call Power a = absurd a
  protects_call (Byte room b) a =
      protects_if (Byte room b) (accepts (cause_for (Byte room b) p)) (accepted_proper (Byte room b) p tt) a
  protects_call (Framed room l) a =
      protects_if (Framed room l) (accepts (cause_for (Framed room l) p)) (accepted_proper (Framed room l) p tt) a

pub exactly_named : ExactlyNamed
exactly_named i p h a =
    protects_call p h i (subst T (on_the_wire.acceptance i p (rw (holds_true (in_protect p.session) h, or-true) tt)) a)
