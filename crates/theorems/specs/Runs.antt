-- Demand 3 of the code: the same of what its calls hand back and leave, whatever that is, where each keeps its promise.
use Rattle.std.specs.Prelude.{◌≡◌, Bool, true, not, ◌&&◌, List, [], ◌∷◌, ◌++◌, T, eqb, length, take, drop}
use Rattle.board.specs.Usd.{protection_on}
use Rattle.memories.specs.Memories.{Memories, memories, proper}
use Rattle.command.specs.Why.{no_reason}
use Rattle.boot.specs.Calls.{State, powered}
use Rattle.boot.specs.Promise.{PoweredOn, Left, left, state_of, given_byte, given_frame, Took}
use Rattle.boot.specs.declared.Session.{Session}
use Rattle.theorems.specs.Secrecy.{is_unprotect, Call, PowerOn, TakeByte, TakeFrame, input, leaves_of, Seen, seen}

-- ---- runs of the code

-- what is left where power on has handed back a session: it gives no number (written as 0), no reply, no reason and no place, and is lent nothing, so
-- the memories are as they were
abbrev pub left_on : Session → State → Left
left_on s p = left (record { number = 0; length = 0; reason = no_reason; place = 0; session = s }) p.memories []

-- a call on a board has left this, and has kept its promise
abbrev pub Kept : Call → State → Left → Type 0
Kept PowerOn p l = (s : Session) × PoweredOn s × (l ≡ left_on s p)
Kept (TakeByte buffer b) p l = Took (given_byte p.session b p.memories buffer) l
Kept (TakeFrame buffer frame) p l = Took (given_frame p.session frame p.memories buffer) l

-- the board as a call has left it
abbrev pub board_in : Left → State
board_in l = state_of l.result.session (memories l.flash l.sram l.usd)

-- calls on a board have left this, one by one, each on the board as the one before it left it
abbrev pub Ran : List Call → State → List Left → Type 0
Ran [] p [] = Unit {0}
Ran [] p (l ∷ ls) = ⊥
Ran (c ∷ cs) p [] = ⊥
Ran (c ∷ cs) p (l ∷ ls) = Kept c p l × Ran cs (board_in l) ls

-- what is seen of these calls
unfoldable pub seen_in : List Call → State → List Left → List Seen
seen_in [] p ls = []
seen_in (c ∷ cs) p [] = []
seen_in (c ∷ cs) p (l ∷ ls) = seen c p.session l ∷ seen_in cs (board_in l) ls

-- the board at the end
unfoldable pub end_of : State → List Left → State
end_of p [] = p
end_of p (l ∷ ls) = end_of (board_in l) ls

-- for any calls on any board there is such a run, and what it leaves is what the definitions say
pub record RunsOnce : Type 0 where
  pub some : (cs : List Call) (p : State) → Ran cs p (leaves_of cs p)
  pub one : (cs : List Call) (p : State) (ls : List Left) → Ran cs p ls → ls ≡ leaves_of cs p

-- ---- what demand 3 says of two runs

-- an obeyed Access Unprotect: the number is 0, and the input is one to the session that was given
abbrev pub obeyed : Call → State → Left → Bool
obeyed c p l = eqb l.result.number 0 && is_unprotect (input c) p.session

-- none of these calls is one
unfoldable pub shut_in : List Call → State → List Left → Bool
shut_in [] p ls = true
shut_in (c ∷ cs) p [] = true
shut_in (c ∷ cs) p (l ∷ ls) = not (obeyed c p l) && shut_in cs (board_in l) ls

-- over the first calls of two runs nothing that is seen differs, and behind these no memory has changed
pub record AlikeRuns (cs : List Call) (p q : State) (ls ks : List Left) : Type 0 where
  pub seen : seen_in cs p ls ≡ seen_in cs q ks
  pub first : (end_of p (take (length cs) ls)).memories ≡ p.memories
  pub second : (end_of q (take (length cs) ks)).memories ≡ q.memories

pub record SecretRuns (p q : State) : Type 0 where
  -- up to the first obeyed Access Unprotect
  pub before : (cs ds : List Call) (ls ks : List Left) → Ran (cs ++ ds) p ls → Ran (cs ++ ds) q ks → T (shut_in cs p ls)
      → AlikeRuns cs p q ls ks
  -- and from it on everything that is left is the same
  pub after : (cs : List Call) (c : Call) (ds : List Call) (ls ks : List Left) → Ran (cs ++ c ∷ ds) p ls → Ran (cs ++ c ∷ ds) q ks
      → T (shut_in cs p ls) → T (not (shut_in (cs ++ c ∷ []) p ls)) → drop (length cs) ls ≡ drop (length cs) ks

-- demand 3 of the code, of any two boards freshly powered, locked, with memories of their proper sizes and alike in user system data
abbrev pub Demand3OfCode : Type 0
Demand3OfCode =
    (m n : Memories) → T (proper m) → T (proper n) → m.usd ≡ n.usd → T (protection_on m.usd) → SecretRuns (powered m) (powered n)
