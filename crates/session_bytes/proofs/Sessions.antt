-- A session written byte by byte is the bytes of the session, which are read as that session.
use mathlib.Core.Path.{◌≡◌, refl, ap, ◌∙◌}
use mathlib.Core.Bool.{Bool}
use mathlib.Core.List.{List, [], ◌∷◌, ◌++◌}
use Prim.Native.Nat.{ℕ}
use native.Mathlib.Omega.{arith}
use lib.ListN.{length, set}
use lib.Seq.{take_all}
use borrow.Author.Tests.{eq-eqb}
use Rattle.std.specs.Prelude.{if◌then◌else◌}
use Rattle.words.specs.Bytes.{number, four_bytes}
use Rattle.words.specs.Over.{put}
use Rattle.words.proofs.Over.{put_one, put_then, put_all}
use Rattle.boot.specs.declared.Session.{Session}
use Rattle.numbers.specs.Numbers.{eight_bytes}
use Rattle.session_bytes.specs.Sessions.{session_length, session_bytes, held_in, no_session, session_in}

-- the stores of a session's parts, one behind the other, make its bytes
pub all_stored : (l : List ℕ) (s : Session) → length l ≡ session_length → length s.staged ≡ 257
    → put (set (put (put (put (set (set l 0 s.carrier) 1 s.step) 2 (eight_bytes s.taken)) 10 (eight_bytes s.expected)) 18 (four_bytes s.address)) 22 s.speed) 23 s.staged
    ≡ session_bytes s
unfolding session_bytes
all_stored l s h k =
    rw (← put_one l 0 s.carrier, ← put_one (put l 0 (s.carrier ∷ [])) 1 s.step, put_then l 0 1 (s.carrier ∷ []) (s.step ∷ []) refl)
    (rw (put_then l 0 2 (s.carrier ∷ s.step ∷ []) (eight_bytes s.taken) refl)
    (rw (put_then l 0 10 (s.carrier ∷ s.step ∷ eight_bytes s.taken) (eight_bytes s.expected) refl)
    (rw (put_then l 0 18 ((s.carrier ∷ s.step ∷ []) ++ eight_bytes s.taken ++ eight_bytes s.expected) (four_bytes s.address) refl)
    (rw (← put_one (put l 0 ((s.carrier ∷ s.step ∷ []) ++ eight_bytes s.taken ++ eight_bytes s.expected ++ four_bytes s.address)) 22 s.speed)
    (rw (put_then l 0 22 ((s.carrier ∷ s.step ∷ []) ++ eight_bytes s.taken ++ eight_bytes s.expected ++ four_bytes s.address) (s.speed ∷ []) refl)
    (rw (put_then l 0 23 ((s.carrier ∷ s.step ∷ []) ++ eight_bytes s.taken ++ eight_bytes s.expected ++ four_bytes s.address ++ (s.speed ∷ [])) s.staged refl)
    (put_all l _ (omega arith))))))))

-- the bytes of a session whose numbers are written by theirs are read as that session
pub read_back : (s : Session) → number (eight_bytes s.taken) ≡ s.taken → number (eight_bytes s.expected) ≡ s.expected
    → number (four_bytes s.address) ≡ s.address → length s.staged ≡ 257 → session_in (session_bytes s) ≡ s
unfolding session_in session_bytes held_in
read_back s t e a k =
    ap (λ (b : Bool). if b then held_in (session_bytes s) else no_session) (eq-eqb (length (session_bytes s)) 280 (omega (arith, k)))
    ∙ rw (t, e, a, take_all 257 s.staged (omega arith))
