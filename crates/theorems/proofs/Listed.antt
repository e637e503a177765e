-- What the end of a list of sectors decides: an ACK comes only with the change, and only where the whole list passes its test.
use mathlib.Core.Path.{◌≡◌, refl}
use mathlib.Core.Bool.{Bool, true, false, not, ◌&&◌}
use mathlib.Core.List.{List, [], ◌∷◌}
use Prim.Native.Nat.{ℕ}
use native.Mathlib.Omega.{arith}
use lib.Dec.{T, T_not}
use Rattle.std.specs.Prelude.{if◌then◌else◌, Ok, Err}
use Rattle.words.specs.Lists.{any, all}
use Rattle.words.proofs.Tests.{holds_true, fails_false}
use Rattle.board.specs.Quantities.{is_sector, first_indexed, first_numbered}
use Rattle.board.specs.View.{write_protected}
use Rattle.board.specs.declared.Sector.{Sector}
use Rattle.board.specs.declared.View.{View}
use Rattle.memories.specs.declared.Change.{Change}
use Rattle.memories.specs.declared.Change.TheVariants.{EraseSectors, ProtectOnly}
use Rattle.command.specs.Decision.{Verdict, fine, alter, judged}
use Rattle.command.specs.Progress.{Progress, staged_with}
use Rattle.command.specs.declared.Decision.{Decision}
use Rattle.command.specs.declared.Next.{Next}
use Rattle.command.specs.declared.FixedReply.TheVariants.{Ack}
use Rattle.command.specs.declared.Why.{Why}
use Rattle.command.specs.declared.Why.TheVariants.{BadSector, WriteProtected}
use Rattle.rules.specs.Rules.{erase_verdict, erasing, protect_verdict, protecting}
use Rattle.uart.specs.Steps as U
use Rattle.uart.specs.Conversation as UC
use Rattle.uart.specs.declared.Step as US
use Rattle.can.specs.Conversation as CC
use Rattle.frames.specs.Frames.{Frame, frame_in, carried}
use Rattle.can.specs.Steps as C
use Rattle.can.specs.declared.Step as CS
use Rattle.boot.specs.Session.{on, progress}
use Rattle.boot.specs.Calls.{Input, Power, Byte, Framed, decide}
use Rattle.carriers.specs.declared.Carrier.TheVariants.{Uart}
use Rattle.boot.specs.declared.Session.{Session}
use Rattle.theorems.specs.Failures.{acks, staged_after, count_of_bytes, in_protect, in_erase_list, to_erase}
use Rattle.command.proofs.Holds.{Holds, either}
use Rattle.theorems.proofs.InStep.{byte_in_lem, frame_in_lem}

-- a decision that accepts makes a change, and a test holds
abbrev pub Accepts : Change → Bool → Decision → Type 0
Accepts c good d = T (acks d.reply) → (d.change ≡ c) × T good

module _ (c : Change) (good : Bool) where
  -- a decision that does not accept
  silent : {d : Decision} → T (not (acks d.reply)) → Holds (Accepts c good) d
  silent {d} n = record { holds = λ h. absurd (T_not (acks d.reply) n h) }

  -- a change that a rule may forbid, where the rule lets only the good pass
  judged_accepts : (n : Next) (v : Verdict) → (v ≡ fine → T good) → Holds (Accepts c good) (judged v (alter Ack c n))
  unfolding judged
  judged_accepts n (Ok u) f = record { holds = λ h. (refl, f refl) }
  judged_accepts n (Err w) f = record { holds = λ h. absurd h }

-- a verdict that refuses is not fine
no_fine : (w : Why) → Err w ≡ fine → ⊥
no_fine w e = let z : ◌≡◌ {A = ℕ} 0 1 = cc in omega arith

-- ---- indexes of 0x63

abbrev Protecting : List ℕ → ℕ → Decision → Type 0
Protecting staged x = Accepts (ProtectOnly x) (all is_sector (first_indexed x staged))

unprotecting : (staged : List ℕ) (x : ℕ) {d : Decision} → T (not (acks d.reply)) → Holds (Protecting staged x) d
unprotecting staged x n = silent (ProtectOnly x) (all is_sector (first_indexed x staged)) n

protecting_accepts : (staged : List ℕ) (x : ℕ) → Holds (Protecting staged x) (protecting staged x)
unfolding protecting protect_verdict
protecting_accepts staged x = judged_accepts (ProtectOnly x) good _ _ (by_test good)
  where
    good : Bool
    good = all is_sector (first_indexed x staged)

    by_test : (t : Bool) → (if t then fine else Err BadSector) ≡ fine → T t
    by_test true e = tt
    by_test false e = absurd (no_fine BadSector e)

module _ (p : Progress) (view : View) where
  uart_protect : (b : ℕ) → Holds (Protecting (staged_with p (b ∷ [])) (U.count_in p.expected)) (UC.heard US.Step.ProtectList p view b)
  unfolding UC.heard UC.complete
  uart_protect b =
      let s = staged_with p (b ∷ []) in
      let x = U.count_in p.expected in
      let P = Protecting s x in
      either P _ (unprotecting s x tt) (either P _ (protecting_accepts s x) (unprotecting s x tt))

  can_protect : (f : Frame) → Holds (Protecting (staged_with p (carried f)) p.expected) (CC.heard CS.Step.ProtectList p view f)
  unfolding CC.heard CC.decided CC.gathering CC.unless_extra
  can_protect f =
      let s = staged_with p (carried f) in
      let x = p.expected in
      let P = Protecting s x in
      either P _ (unprotecting s x tt) (either P _ (unprotecting s x tt) (either P _ (unprotecting s x tt) (protecting_accepts s x)))

pub decide_protect : (i : Input) (s : Session) (view : View) → T (in_protect s)
    → Holds (Protecting (staged_after i s) (count_of_bytes s)) (decide i s view)
unfolding decide
decide_protect Power s view h = unprotecting (staged_after Power s) (count_of_bytes s) tt
decide_protect (Byte room b) s view h =
    byte_in_lem s view 12 3 h (Protecting (staged_after (Byte room b) s) (count_of_bytes s)) room b (unprotecting (staged_after (Byte room b) s) (count_of_bytes s) tt)
    (λ o. rw (holds_true (on Uart s) o) (uart_protect (progress s) view b))
decide_protect (Framed room l) s view h =
    frame_in_lem s view 12 3 h (Protecting (staged_after (Framed room l) s) (count_of_bytes s)) room l (unprotecting (staged_after (Framed room l) s) (count_of_bytes s) tt)
    (λ o. rw (fails_false (on Uart s) o) (can_protect (progress s) view (frame_in l)))

-- ---- numbers of an erase

-- the sectors named are the board's, and none is write-protected
abbrev pub erasable : View → List Sector → Bool
erasable view ks = all is_sector ks && not (any (write_protected view) ks)

abbrev Erasing : View → List ℕ → ℕ → Decision → Type 0
Erasing view staged x = Accepts (EraseSectors x) (erasable view (first_numbered x staged))

unerasing : (view : View) (staged : List ℕ) (x : ℕ) {d : Decision} → T (not (acks d.reply)) → Holds (Erasing view staged x) d
unerasing view staged x n = silent (EraseSectors x) (erasable view (first_numbered x staged)) n

erasing_accepts : (view : View) (staged : List ℕ) (x : ℕ) → Holds (Erasing view staged x) (erasing view staged x)
unfolding erasing erase_verdict
erasing_accepts view staged x = judged_accepts (EraseSectors x) (erasable view ks) _ _ (by_tests (all is_sector ks) (any (write_protected view) ks))
  where
    ks : List Sector
    ks = first_numbered x staged

    by_tests : (t u : Bool) → (if not t then Err BadSector else if u then Err WriteProtected else fine) ≡ fine → T (t && not u)
    by_tests true true e = absurd (no_fine WriteProtected e)
    by_tests true false e = tt
    by_tests false u e = absurd (no_fine BadSector e)

module _ (p : Progress) (view : View) where
  uart_erase : (b : ℕ) → Holds (Erasing view (staged_with p (b ∷ [])) (U.numbers_in p.expected)) (UC.heard US.Step.EraseList p view b)
  unfolding UC.heard UC.complete
  uart_erase b =
      let s = staged_with p (b ∷ []) in
      let x = U.numbers_in p.expected in
      let P = Erasing view s x in
      either P _ (unerasing view s x tt) (either P _ (erasing_accepts view s x) (unerasing view s x tt))

  can_erase : (f : Frame) → Holds (Erasing view (staged_with p (carried f)) (C.numbers_in p.expected)) (CC.heard CS.Step.EraseList p view f)
  unfolding CC.heard CC.decided CC.gathering CC.unless_extra
  can_erase f =
      let s = staged_with p (carried f) in
      let x = C.numbers_in p.expected in
      let P = Erasing view s x in
      either P _ (unerasing view s x tt) (either P _ (unerasing view s x tt) (either P _ (unerasing view s x tt) (erasing_accepts view s x)))

pub decide_erase : (i : Input) (s : Session) (view : View) → T (in_erase_list s) → T (acks (decide i s view).reply) → T (erasable view (to_erase i s))
unfolding decide
decide_erase Power s view h a = absurd a
decide_erase (Byte room b) s view h a =
    (byte_in_lem s view 10 2 h (λ d. T (acks d.reply) → T (erasable view (to_erase (Byte room b) s))) room b (record { holds = λ n. absurd n })
    (λ o. rw (holds_true (on Uart s) o) (record { holds = λ n. ((uart_erase (progress s) view b).holds n).1 }))).holds a
decide_erase (Framed room l) s view h a =
    (frame_in_lem s view 10 2 h (λ d. T (acks d.reply) → T (erasable view (to_erase (Framed room l) s))) room l (record { holds = λ n. absurd n })
    (λ o. rw (fails_false (on Uart s) o) (record { holds = λ n. ((can_erase (progress s) view (frame_in l)).holds n).1 }))).holds a
