-- What is said to bytes front by front is what is said to all of them.
use mathlib.Core.Path.{◌≡◌, refl, sym, ap, ap₂, ◌∙◌}
use mathlib.Core.Bool.{Bool, true, false, ◌&&◌}
use mathlib.Core.List.{List, [], ◌∷◌, ◌++◌, append_assoc}
use Prim.Native.Nat.{ℕ, suc, ◌<◌}
use lib.Dec.{leb}
use lib.ListN.{length, take, drop, get_or}
use Rattle.std.specs.Prelude.{if◌then◌else◌}
use Rattle.uart.specs.Conversation.{uart_room}
use Rattle.memories.specs.Memories.{proper}
use Rattle.boot.specs.Calls.{State, Byte, Outcome, call, run}
use Rattle.boot.specs.Gathering.{Gathers}
use Rattle.boot.specs.Slices.{after_bytes}
use Rattle.boot.specs.declared.Session.{Session}
use Rattle.boot.proofs.Silent.{only_gathered, front_passed}
use Rattle.port_loop.specs.St.{in_st}
use Rattle.port_loop.specs.Port.{waits, spoken, said, said_all}
use Rattle.port_loop.proofs.Dialect.{same_long, none_said}

-- what is said to bytes, and the state after them
pub record Spoken : Type 0 where
  pub text : List ℕ
  pub state : State

abbrev pub speaks : Bool → List ℕ → State → Spoken
speaks st bs p = record { text = said_all st bs p; state = after_bytes bs p }

-- one thing behind another
abbrev pub behind : List ℕ → Spoken → Spoken
behind text s = record { text = text ++ s.text; state = s.state }

-- a byte, and those behind it
pub first_byte : (st : Bool) (b : ℕ) (bs : List ℕ) (p : State)
    → speaks st (b ∷ bs) p ≡ behind (said st b p) (speaks st bs (call (Byte uart_room b) p).state)
unfolding said_all run
first_byte st b bs p = refl

-- bytes in two parts
pub parts : (st : Bool) (a b : List ℕ) (p : State) → speaks st (a ++ b) p ≡ behind (said_all st a p) (speaks st b (after_bytes a p))
unfolding said_all run
parts st [] b p = refl
parts st (x ∷ a) b p =
    ap (behind (said st x p)) (parts st a b (call (Byte uart_room x) p).state)
    ∙ ap (λ (t : List ℕ). record { text = t; state = after_bytes b (after_bytes a (call (Byte uart_room x) p).state) })
    (sym (append_assoc (said st x p) (said_all st a (call (Byte uart_room x) p).state) (said_all st b (after_bytes a (call (Byte uart_room x) p).state))))

-- to a byte without a reply nothing is said
quiet : (st : Bool) (b : ℕ) (p : State) → (call (Byte uart_room b) p).reply ≡ [] → said st b p ≡ []
unfolding spoken
quiet st b p e = ap (spoken st p.session) e ∙ by_test (st && waits p.session)
  where
    by_test : (t : Bool) → (if t then in_st (get_or p.session.staged 0 0) [] else []) ≡ []
    by_test true = none_said (get_or p.session.staged 0 0)
    by_test false = refl

-- what is said is as long as the reply
pub spoken_long : (st : Bool) (s : Session) (reply : List ℕ) → length (spoken st s reply) ≡ length reply
unfolding spoken
spoken_long st s reply = by_test (st && waits s)
  where
    by_test : (t : Bool) → length (if t then in_st (get_or s.staged 0 0) reply else reply) ≡ length reply
    by_test true = same_long (get_or s.staged 0 0) reply
    by_test false = refl

-- bytes that are only gathered say nothing, and the one behind them what it says
pub front_said : (st : Bool) (bs : List ℕ) (n : ℕ) (p : State) → n < length bs
    → (0 < n → Gathers p.session (proper p.memories && leb uart_room uart_room) n)
    → let mid = (only_gathered (take n bs) p).state in let b = get_or bs n 0 in
    speaks st bs p ≡ behind (said st b mid) (speaks st (drop (suc n) bs) (call (Byte uart_room b) mid).state)
front_said st bs n p w g =
    front_passed (λ (i : ℕ) (cs : List ℕ) (q : State). speaks st cs q) uart_room
    (λ i b cs q e.
    first_byte st b cs q
    ∙ ap₂ (λ (t : List ℕ) (o : Outcome). behind t (speaks st cs o.state)) (quiet st b q (ap (λ (o : Outcome). o.reply) e)) e)
    bs 0 n p w g
    ∙ first_byte st (get_or bs n 0) (drop (suc n) bs) (only_gathered (take n bs) p).state
