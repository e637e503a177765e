-- A UART step tests the complement or the checksum before what its command's rule tests, and no rule has a reason before bad checksum.
use Prim.Native.Nat.{ℕ}
use mathlib.Core.Path.{◌≡◌, refl, subst}
use mathlib.Core.Bool.{Bool, true, false, not, ◌&&◌}
use mathlib.Core.List.{List, [], ◌∷◌}
use lib.Dec.{T, eqb, leb, eqb→eq}
use lib.ListN.{get_or, take}
use Rattle.std.specs.Prelude.{if◌then◌else◌, Option, Some, None}
use Rattle.words.specs.Bytes.{number}
use Rattle.words.specs.Lists.{all}
use Rattle.words.proofs.Tests.{both_left, both_right}
use Rattle.board.specs.Board.{sectors}
use Rattle.board.specs.Quantities.{count_of, less_one, address_in, selector_bytes}
use Rattle.board.specs.Regions.{known, jumpable, sector_start}
use Rattle.board.specs.declared.Address.{Address}
use Rattle.board.specs.declared.View.{View}
use Rattle.command.specs.Commands.{code, uart_commands, look_up}
use Rattle.command.specs.Decision.{answer}
use Rattle.command.specs.Progress.{Progress, staged_with, short}
use Rattle.command.specs.Tests.{◌when◌, first_reason, GivesFirst, in_order, one_of, reasons_of}
use Rattle.command.specs.Why.{no_reason, reason_of}
use Rattle.command.specs.declared.Command.{Command}
use Rattle.command.specs.declared.Decision.{Decision}
use Rattle.command.specs.declared.Next.TheVariants.{Gather}
use Rattle.command.specs.declared.FixedReply.TheVariants.{Silence}
use Rattle.command.specs.declared.Why.{Why}
use Rattle.command.specs.declared.Why.TheVariants.{BadComplement, UnknownCommand, BadChecksum, BadAddress, BadRange}
use Rattle.command.proofs.First.{unrefused, refused_first, passed, forbidden, awaited, judged_first, gives_one, gives_the_first}
use Rattle.rules.specs.Rules.{selector_of}
use Rattle.rules.specs.Tests.{command_tests, special, selector_tests}
use Rattle.rules.specs.declared.Selector.TheVariants.{Listed, Special, Impossible}
use Rattle.rules.proofs.First.{unless_first, reading_first, jumping_first, summing_first, writing_first, erasing_first, erase_all_first, protecting_first}
use Rattle.uart.specs.Conversation.{obeyed, commanded, addressed, kept_if, selected, complete, heard}
use Rattle.uart.specs.Steps.{count_in, numbers_in}
use Rattle.uart.specs.Tests.{possible, address_tests, complete_tests, tests, FirstReasons}
use Rattle.uart.specs.declared.Step.{Step}
use Rattle.uart.specs.declared.Step.TheVariants.{Idle, ReadAddress, JumpAddress, WriteAddress, CrcAddress, ReadLength, WriteLength, WriteData}
use Rattle.uart.specs.declared.Step.TheVariants.{EraseSelector, SpecialCheck, EraseList, ProtectLength, ProtectList, CrcCount}

-- ---- commands: those of the list are obeyed without a reason

abbrev obeys : Command → Bool
obeys c = eqb (reason_of (obeyed c).reply) no_reason

abbrev Obeys : Option Command → Type 0
Obeys (Some c) = T (obeys c)
Obeys None = Unit {0}

-- so is what is found in a list of which all are
found_obeys : (cs : List Command) (n : ℕ) → T (all obeys cs) → Obeys (look_up cs n)
found_obeys [] n h = tt
found_obeys (c ∷ cs) n h =
    by_test (eqb n (code c)) (both_left (obeys c) (all obeys cs) h) (found_obeys cs n (both_right (obeys c) (all obeys cs) h))
  where
    by_test : (t : Bool) → Obeys (Some c) → Obeys (look_up cs n) → Obeys (if t then Some c else look_up cs n)
    by_test true h k = h
    by_test false h k = k

all_obey : T (all obeys uart_commands)
unfolding obeyed
all_obey = tt

commanded_first : (view : View) (l : Option Command) → Obeys l → GivesFirst (commanded view l) (command_tests view l)
unfolding commanded
commanded_first view (Some c) h = passed UnknownCommand (unless_first view c [] tt (unrefused (eqb→eq _ _ h)))
commanded_first view None h = refused_first UnknownCommand _ tt

-- ---- addresses and selectors

kept_first : (good : Address → Bool) (s : Step) (e : ℕ) (a : Address) → GivesFirst (kept_if good s e a) ((BadAddress when not (good a)) ∷ [])
unfolding kept_if
kept_first good s e a = forbidden (good a) BadAddress [] tt (unrefused refl)

addressed_first : (good : Address → Bool) (go : Address → Decision) → ((a : Address) → GivesFirst (go a) ((BadAddress when not (good a)) ∷ []))
    → (bytes : List ℕ) → GivesFirst (addressed go bytes) (address_tests good bytes)
unfolding addressed
addressed_first good go f bytes = forbidden _ BadChecksum _ tt (f (address_in bytes))

selected_first : (n : ℕ) → GivesFirst (selected (selector_of n)) (selector_tests n)
unfolding selected selector_of first_reason
selected_first n = by_tests (special n) (leb (count_of (less_one n)) sectors.count)
  where
    by_tests : (t u : Bool)
        → GivesFirst (selected (if t then Special n else if u then Listed (less_one n) else Impossible)) ((BadRange when not t && not u) ∷ [])
    by_tests true u = record { first = refl }
    by_tests false true = record { first = refl }
    by_tests false false = record { first = refl }

-- ---- steps

complete_first : (s : Step) (e a : ℕ) (bytes : List ℕ) (view : View) → GivesFirst (complete s e a bytes view) (complete_tests s e a bytes view)
unfolding complete
complete_first Idle e a bytes view =
    forbidden _ BadComplement _ tt
    (commanded_first view (look_up uart_commands (get_or bytes 0 0)) (found_obeys uart_commands (get_or bytes 0 0) all_obey))
complete_first ReadAddress e a bytes view = addressed_first known _ (kept_first known _ _) bytes
complete_first JumpAddress e a bytes view = addressed_first jumpable _ jumping_first bytes
complete_first WriteAddress e a bytes view = addressed_first known _ (kept_first known _ _) bytes
complete_first CrcAddress e a bytes view = addressed_first sector_start _ (kept_first sector_start _ _) bytes
complete_first ReadLength e a bytes view = forbidden _ BadChecksum _ tt (reading_first _ _)
complete_first WriteLength e a bytes view = unrefused refl
complete_first WriteData e a bytes view = forbidden _ BadChecksum _ tt (writing_first view _ _)
complete_first EraseSelector e a bytes view = selected_first (number (take selector_bytes bytes))
complete_first SpecialCheck e a bytes view = forbidden _ BadChecksum _ tt (judged_first _ _ refl (erase_all_first view a))
complete_first EraseList e a bytes view = forbidden _ BadChecksum _ tt (erasing_first view bytes (numbers_in e))
complete_first ProtectLength e a bytes view = unrefused refl
complete_first ProtectList e a bytes view = forbidden _ BadChecksum _ tt (protecting_first bytes (count_in e))
complete_first CrcCount e a bytes view = forbidden _ BadChecksum _ tt (summing_first _ _)

heard_first : (s : Step) (p : Progress) (view : View) (b : ℕ) → GivesFirst (heard s p view b) (tests s p view b)
unfolding heard
heard_first s p view b =
    awaited (short p (b ∷ [])) _ (answer Silence Gather) refl (complete_first s p.expected p.address (staged_with p (b ∷ [])) view)

-- ---- the table

ordered : (s : Step) → T (in_order (possible s))
ordered Idle = tt
ordered ReadAddress = tt
ordered JumpAddress = tt
ordered WriteAddress = tt
ordered CrcAddress = tt
ordered ReadLength = tt
ordered WriteLength = tt
ordered WriteData = tt
ordered EraseSelector = tt
ordered SpecialCheck = tt
ordered EraseList = tt
ordered ProtectLength = tt
ordered ProtectList = tt
ordered CrcCount = tt

tested : (s : Step) (p : Progress) (view : View) (b : ℕ) → reasons_of (tests s p view b) ≡ possible s
tested Idle p view b = refl
tested ReadAddress p view b = refl
tested JumpAddress p view b = refl
tested WriteAddress p view b = refl
tested CrcAddress p view b = refl
tested ReadLength p view b = refl
tested WriteLength p view b = refl
tested WriteData p view b = refl
tested EraseSelector p view b = refl
tested SpecialCheck p view b = refl
tested EraseList p view b = refl
tested ProtectLength p view b = refl
tested ProtectList p view b = refl
tested CrcCount p view b = refl

pub first_reasons : FirstReasons
first_reasons = record {
  ordered = ordered;
  tested = tested;
  first = heard_first;
  foremost = λ s p view b. gives_the_first (heard_first s p view b);
  only = λ s p view b.
      subst (λ (ws : List Why). T (one_of ws (reason_of (heard s p view b).reply))) (tested s p view b) (gives_one (heard_first s p view b));
}
