-- The club's failure (a): the data step of a write decides on nothing but a write of its own X bytes at its own address,
-- and such a write changes no byte outside them.
use mathlib.Core.Path.{◌≡◌, refl, sym, ◌∙◌, subst}
use mathlib.Core.Bool.{Bool, true, false, not}
use mathlib.Core.List.{List}
use Prim.Native.Nat.{ℕ, ◌+◌, ◌-◌, ◌≤◌, ◌<◌}
use native.Mathlib.Omega.{arith}
use lib.Dec.{T, T_not, not_T, leb, ltb, leb→le, ltb→lt}
use lib.ListN.{length, get_or, take, length-take}
use borrow.Author.Tests.{le-leb, lt-ltb}
use Rattle.std.specs.Prelude.{if◌then◌else◌, Option, Some, None}
use Rattle.words.specs.Over.{within}
use Rattle.words.proofs.Tests.{both_left, both_right, holds_true, fails_false}
use Rattle.board.specs.Board as B
use Rattle.board.specs.Regions.{inside, place_of}
use Rattle.board.specs.declared.Address.{Address}
use Rattle.board.specs.declared.Place.{Place}
use Rattle.board.specs.declared.Region.{Region}
use Rattle.board.specs.declared.Region.TheVariants.{Flash, Sram, Usd}
use Rattle.board.specs.declared.View.{View}
use Rattle.board.proofs.Regions.{Lies, lies}
use Rattle.memories.specs.Memories.{Memories, bytes_of, proper}
use Rattle.memories.specs.Effects.{written, effect}
use Rattle.memories.specs.declared.Change.{Change}
use Rattle.memories.specs.declared.Change.TheVariants.{Nothing, Write, EraseAll, EraseSectors, ProtectOnly, Release, Lock, Unlock}
use Rattle.memories.proofs.Memories.{proper_length}
use Rattle.memories.proofs.Written.{written_at}
use Rattle.command.specs.Progress.{Progress, staged_with}
use Rattle.command.specs.declared.Decision.{Decision}
use Rattle.rules.specs.Rules.{write_at, writing}
use Rattle.uart.specs.Steps as U
use Rattle.uart.specs.Conversation as UC
use Rattle.uart.specs.declared.Step as US
use Rattle.can.specs.Conversation as CC
use Rattle.frames.specs.Frames.{Frame, frame_in}
use Rattle.can.specs.declared.Step as CS
use Rattle.boot.specs.Session.{on, progress}
use Rattle.boot.specs.Causes.{accepts}
use Rattle.boot.specs.Calls.{State, Input, Power, Byte, Framed, brings, view_in, cause_for, decide, perform, refused, call}
use Rattle.carriers.specs.declared.Carrier.TheVariants.{Uart}
use Rattle.boot.specs.declared.Session.{Session}
use Rattle.theorems.specs.Failures.{in_write, count_of_bytes, is_named, byte_in, byte_at, OnlyNamedBytes}
use Rattle.command.proofs.Holds.{Holds, either, judged_either}
use Rattle.theorems.proofs.InStep.{byte_in_lem, frame_in_lem, accepted_proper}

-- ---- a write, byte by byte

-- a place outside the named addresses is outside the bytes laid
outside : (first from count at here a n : ℕ) → first ≤ from → first ≤ a → at ≡ from - first → here ≡ a - first → n ≤ count
    → T (not (within from count a)) → within at n here ≡ false
outside first from count at here a n hf ha ef eh l t = fails_false (within at n here) (not_T (within at n here) inside)
  where
    inside : T (within at n here) → ⊥
    inside w =
        let p : at ≤ here = leb→le at here (both_left (leb at here) (ltb here (at + n)) w) in
        let q : here < at + n = ltb→lt here (at + n) (both_right (leb at here) (ltb here (at + n)) w) in
        let x : leb from a ≡ true = le-leb from a (omega arith) in
        let y : ltb a (from + count) ≡ true = lt-ltb a (from + count) (omega arith) in
        T_not (within from count a) t (rw (x, y) tt)

-- a byte that is in another region, or not among those laid, stays
beyond : (r : Region) (at : ℕ) (new : List ℕ) (m : Memories) (q : Region) (i : ℕ) → i < length (bytes_of q m)
    → (r ≡ q → within at (length new) i ≡ false) → get_or (bytes_of q (written r at new m)) i 0 ≡ get_or (bytes_of q m) i 0
unfolding written
beyond Flash at new m Flash i h f = written_at Flash at new m i h ∙ rw (f refl)
beyond Flash at new m Sram i h f = refl
beyond Flash at new m Usd i h f = refl
beyond Sram at new m Flash i h f = refl
beyond Sram at new m Sram i h f = written_at Sram at new m i h ∙ rw (f refl)
beyond Sram at new m Usd i h f = refl
beyond Usd at new m Flash i h f = refl
beyond Usd at new m Sram i h f = refl
beyond Usd at new m Usd i h f = written_at Usd at new m i h ∙ rw (f refl)

-- a write at an address changes no byte but those it names
write_keeps : (m : Memories) → T (proper m) → (from count : ℕ) (r : Region) (at : ℕ) → place_of (B.address from) count ≡ inside r at
    → (staged : List ℕ) (a : Address) → T (not (within from count a.0))
    → byte_at a (written r at (take count staged) m) ≡ byte_at a m
write_keeps m t from count r at e staged a n = by_place (place_of a 1) refl
  where
    by_region : (q : Region) (i : ℕ) → place_of a 1 ≡ inside q i
        → byte_in (inside q i) (written r at (take count staged) m) ≡ byte_in (inside q i) m
    by_region q i g = beyond r at (take count staged) m q i short apart
      where
        here : Lies a 1 q i
        here = lies a 1 q i g

        there : Lies (B.address from) count r at
        there = lies (B.address from) count r at e

        short : i < length (bytes_of q m)
        short = omega (arith, proper_length m t q, here.to, here.from, here.offset)

        apart : r ≡ q → within at (length (take count staged)) i ≡ false
        apart same =
            let near : Lies a 1 r i = subst (λ (z : Region). Lies a 1 z i) (sym same) here in
            outside (B.extent_of r).first.0 from count at i a.0 (length (take count staged)) there.from near.from there.offset
            near.offset (rw length-take (omega arith)) n

    by_place : (q : Option Place) → place_of a 1 ≡ q → byte_in q (written r at (take count staged) m) ≡ byte_in q m
    by_place None g = refl
    by_place (Some p) g = by_region p.region p.at g

-- ---- what the data step decides

-- a change is none, or a write of x bytes at a place
abbrev WritesAt : Option Place → ℕ → Change → Type 0
WritesAt q x Nothing = Unit {0}
WritesAt q x (Write r at n) = (n ≡ x) × (q ≡ inside r at)
WritesAt q x EraseAll = ⊥
WritesAt q x (EraseSectors n) = ⊥
WritesAt q x (ProtectOnly n) = ⊥
WritesAt q x Release = ⊥
WritesAt q x Lock = ⊥
WritesAt q x Unlock = ⊥

-- a decision does so, for x bytes from an address on
abbrev Only : ℕ → ℕ → Decision → Type 0
Only a x d = WritesAt (place_of (B.address a) x) x d.change

write_only : (q : Option Place) (x : ℕ) → Holds (λ d. WritesAt q x d.change) (write_at q x)
unfolding write_at
write_only (Some p) x = record { holds = (refl, refl) }
write_only None x = record { holds = tt }

writing_only : (view : View) (a x : ℕ) → Holds (Only a x) (writing view (B.address a) x)
unfolding writing
writing_only view a x = judged_either (Only a x) _ (λ w. record { holds = tt }) (write_only _ x)

uart_only : (p : Progress) (view : View) (b : ℕ) → Holds (Only p.address (U.count_in p.expected)) (UC.heard US.Step.WriteData p view b)
unfolding UC.heard UC.complete
uart_only p view b =
    either (Only p.address (U.count_in p.expected)) _ (record { holds = tt })
    (either (Only p.address (U.count_in p.expected)) _ (writing_only view _ _) (record { holds = tt }))

can_only : (p : Progress) (view : View) (f : Frame) → Holds (Only p.address p.expected) (CC.heard CS.Step.WriteData p view f)
unfolding CC.heard CC.decided CC.gathering
can_only p view f =
    either (Only p.address p.expected) _ (record { holds = tt })
    (either (Only p.address p.expected) _ (record { holds = tt }) (writing_only view _ _))

decide_only : (i : Input) (s : Session) (view : View) → T (in_write s) → Holds (Only s.address (count_of_bytes s)) (decide i s view)
unfolding decide
decide_only Power s view h = record { holds = tt }
decide_only (Byte room b) s view h =
    byte_in_lem s view 7 1 h (Only s.address (count_of_bytes s)) room b (record { holds = tt })
    (λ o. rw (holds_true (on Uart s) o) (uart_only (progress s) view b))
decide_only (Framed room l) s view h =
    frame_in_lem s view 7 1 h (Only s.address (count_of_bytes s)) room l (record { holds = tt })
    (λ o. rw (fails_false (on Uart s) o) (can_only (progress s) view (frame_in l)))

-- ---- any call

-- a change that writes only named bytes keeps the others
only_keeps : (c : Change) (from count : ℕ) → WritesAt (place_of (B.address from) count) count c → (staged : List ℕ) (m : Memories) → T (proper m)
    → (a : Address) → T (not (within from count a.0)) → byte_at a (effect c staged m) ≡ byte_at a m
unfolding effect
only_keeps Nothing from count w staged m t a n = refl
only_keeps (Write r at x) from count w staged m t a n = rw w.0 (write_keeps m t from count r at w.1 staged a n)
only_keeps EraseAll from count w staged m t a n = absurd w
only_keeps (EraseSectors x) from count w staged m t a n = absurd w
only_keeps (ProtectOnly x) from count w staged m t a n = absurd w
only_keeps Release from count w staged m t a n = absurd w
only_keeps Lock from count w staged m t a n = absurd w
only_keeps Unlock from count w staged m t a n = absurd w

module _ (p : State) (h : T (in_write p.session)) (a : Address) (n : T (not (is_named p.session a))) where
  -- an input, by whether it is accepted
  kept_if : (i : Input) (t : Bool) → (T t → T (proper p.memories))
      → byte_at a (if t then perform i p (decide i p.session (view_in p)) else refused (cause_for i p) p).state.memories
      ≡ byte_at a p.memories
  unfolding perform
  kept_if i true f =
      only_keeps (decide i p.session (view_in p)).change p.session.address (count_of_bytes p.session)
      (decide_only i p.session (view_in p) h).holds (staged_with (progress p.session) (brings i)) p.memories (f tt) a n
  kept_if i false f = refl

  kept : (i : Input) → byte_at a (call i p).state.memories ≡ byte_at a p.memories
  unfolding call cause_for perform decide effect
  kept Power = refl
  kept (Byte room b) = kept_if (Byte room b) (accepts (cause_for (Byte room b) p)) (accepted_proper (Byte room b) p tt)
  kept (Framed room l) = kept_if (Framed room l) (accepts (cause_for (Framed room l) p)) (accepted_proper (Framed room l) p tt)

pub only_named_bytes : OnlyNamedBytes
only_named_bytes i p h a n = kept p h a n i
