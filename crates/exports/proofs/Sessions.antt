-- Which slices hold a sound session.
use mathlib.Core.Path.{◌≡◌, refl, sym, subst}
use mathlib.Core.Bool.{Bool, true, false}
use mathlib.Core.List.{List}
use Prim.Native.Nat.{ℕ}
use lib.Dec.{T, eqb→eq}
use lib.ListN.{length}
use Rattle.std.specs.Prelude.{if◌then◌else◌}
use Rattle.boot.specs.Session.{sound}
use Rattle.session_bytes.specs.Sessions.{session_length, holds_session, held_in, no_session, session_in}

-- a sound session is held by a slice of its length
pub sound_length : (l : List ℕ) → T (sound (session_in l)) → length l ≡ session_length
unfolding session_in sound
sound_length l t = by_test (holds_session l) refl t
  where
    by_test : (b : Bool) → holds_session l ≡ b → T (sound (if b then held_in l else no_session)) → length l ≡ session_length
    by_test true e t = eqb→eq (length l) 280 (subst T (sym e) tt)
    by_test false e t = absurd t
