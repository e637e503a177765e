-- A CAN frame is tested for its DLC, its command and protection before its data, or for its ID before what is gathered, and no rule has a reason before.
use Prim.Native.Nat.{ℕ}
use mathlib.Core.Path.{◌≡◌, refl, subst}
use mathlib.Core.Bool.{Bool, true, false, not, ◌&&◌, ◌||◌}
use mathlib.Core.List.{List, [], ◌∷◌, ◌++◌}
use lib.Dec.{T, eqb, leb}
use lib.ListN.{length, get_or}
use Rattle.std.specs.Prelude.{if◌then◌else◌, Option, Some, None, Ok, Err}
use Rattle.words.specs.Bytes.{number}
use Rattle.board.specs.Board.{sectors}
use Rattle.board.specs.Quantities.{count_of, less_one}
use Rattle.board.specs.declared.View.{View}
use Rattle.command.specs.Commands.{code, can_commands, look_up}
use Rattle.command.specs.Decision.{Verdict, answer}
use Rattle.command.specs.Progress.{Progress, progress_at, staged_with, short, overfull}
use Rattle.command.specs.Tests.{Test, ◌when◌, only_if, first_reason, GivesFirst, in_order, one_of, reasons_of}
use Rattle.command.specs.Why.{reason, reason_of}
use Rattle.command.specs.declared.Command.{Command}
use Rattle.command.specs.declared.Command.TheVariants.{GetCommands, GetVersion, GetDeviceId, ReadMemory, Jump, WriteMemory, Erase, ProgramProtect}
use Rattle.command.specs.declared.Command.TheVariants.{ProgramUnprotect, AccessProtect, AccessUnprotect, FirmwareCrc, ResetDevice, Speed}
use Rattle.command.specs.declared.Decision.{Decision}
use Rattle.command.specs.declared.Next.TheVariants.{Gather}
use Rattle.command.specs.declared.FixedReply.TheVariants.{Silence}
use Rattle.command.specs.declared.Why.{Why}
use Rattle.command.specs.declared.Why.TheVariants.{BadComplement, UnknownCommand, AccessProtected, OtherFrame, BadRange, BadSpeed}
use Rattle.command.proofs.First.{precedes_all, unrefused, refused_first, passed, forbidden, guarded, awaited, RefusesFirst, judged_first}
use Rattle.command.proofs.First.{gives_one, gives_the_first}
use Rattle.rules.specs.Rules.{selector_of, erase_all_verdict}
use Rattle.rules.specs.Tests.{special, selector_tests, erase_all_tests}
use Rattle.rules.specs.declared.Selector.TheVariants.{Listed, Special, Impossible}
use Rattle.rules.proofs.First.{unless_first, reading_first, jumping_first, summing_first, write_verdict_first, writing_first, erasing_first}
use Rattle.rules.proofs.First.{erase_all_first, protecting_first}
use Rattle.frames.specs.Frames.{Frame, carried, counted}
use Rattle.can.specs.Conversation.{largest_speed, dlc_fits, erased_or_not, selected, obeyed, commanded, gathering, unless_extra, decided, heard}
use Rattle.can.specs.Tests.{possible, data_tests, frame_tests, gathering_tests, decided_tests, tests, FirstReasons}
use Rattle.can.specs.declared.Step.{Step}
use Rattle.can.specs.declared.Step.TheVariants.{Idle, WriteData, EraseList, ProtectList}

-- ---- erases

erased_first : (v : Verdict) {ts : List Test} → RefusesFirst v ts → GivesFirst (erased_or_not v) ts
unfolding erased_or_not
erased_first (Ok u) h = record { first = h.first }
erased_first (Err w) h = record { first = h.first }

selected_first : (view : View) (n : ℕ)
    → GivesFirst (selected view (selector_of n)) (selector_tests n ++ only_if (special n) (erase_all_tests view n))
unfolding selected selector_of first_reason
selected_first view n = by_tests (special n) (leb (count_of (less_one n)) sectors.count)
  where
    by_tests : (t u : Bool)
        → GivesFirst (selected view (if t then Special n else if u then Listed (less_one n) else Impossible))
        ((BadRange when not t && not u) ∷ only_if t (erase_all_tests view n))
    by_tests true u = passed BadRange (erased_first (erase_all_verdict view n) (erase_all_first view n))
    by_tests false true = passed BadRange (record { first = refl })
    by_tests false false = refused_first BadRange _ tt

-- ---- command frames

obeyed_first : (view : View) (d : List ℕ) (c : Command) → GivesFirst (obeyed view d c) (data_tests view d c)
unfolding obeyed
obeyed_first view d GetCommands = unrefused refl
obeyed_first view d GetVersion = unrefused refl
obeyed_first view d GetDeviceId = unrefused refl
obeyed_first view d ReadMemory = reading_first _ _
obeyed_first view d Jump = jumping_first _
obeyed_first view d WriteMemory = judged_first _ _ refl (write_verdict_first view _ _)
obeyed_first view d Erase = selected_first view (number d)
obeyed_first view d ProgramProtect = unrefused refl
obeyed_first view d ProgramUnprotect = unrefused refl
obeyed_first view d AccessProtect = unrefused refl
obeyed_first view d AccessUnprotect = unrefused refl
obeyed_first view d FirmwareCrc = summing_first _ _
obeyed_first view d ResetDevice = unrefused refl
obeyed_first view d Speed = forbidden (leb (get_or d 0 0) largest_speed) BadSpeed [] tt (unrefused refl)

-- what data are tested for comes after the DLC and after protection
abbrev After : List Test → Type 0
After ts = T (precedes_all (reason BadComplement) ts) × T (precedes_all (reason AccessProtected) ts)

after : (view : View) (d : List ℕ) (c : Command) → After (data_tests view d c)
after view d GetCommands = (tt, tt)
after view d GetVersion = (tt, tt)
after view d GetDeviceId = (tt, tt)
after view d ReadMemory = (tt, tt)
after view d Jump = (tt, tt)
after view d WriteMemory = (tt, tt)
after view d Erase = (tt, tt)
after view d ProgramProtect = (tt, tt)
after view d ProgramUnprotect = (tt, tt)
after view d AccessProtect = (tt, tt)
after view d AccessUnprotect = (tt, tt)
after view d FirmwareCrc = (tt, tt)
after view d ResetDevice = (tt, tt)
after view d Speed = (tt, tt)

commanded_first : (view : View) (d : List ℕ) (l : Option Command) → GivesFirst (commanded view d l) (frame_tests view d l)
unfolding commanded
commanded_first view d (Some c) =
    forbidden (dlc_fits c (length d)) BadComplement _ (after view d c).0
    (passed UnknownCommand (unless_first view c (data_tests view d c) (after view d c).1 (obeyed_first view d c)))
commanded_first view d None = passed BadComplement (refused_first UnknownCommand _ tt)

-- ---- frames that are gathered

gathering_first : (c : Command) (p : Progress) (f : Frame) (ts : List Test) {d : Decision}
    → T (precedes_all (reason OtherFrame) (only_if (not (short p f.bytes)) ts)) → GivesFirst d ts
    → GivesFirst (gathering c p f d) (gathering_tests c p f ts)
unfolding gathering
gathering_first c p f ts h g =
    guarded (not (eqb f.id (code c)) || eqb f.dlc 0) OtherFrame _ h (awaited (short p f.bytes) ts (answer Silence Gather) refl g)

extra_first : (p : Progress) (f : Frame) (ts : List Test) {d : Decision} → T (precedes_all (reason BadRange) ts) → GivesFirst d ts
    → GivesFirst (unless_extra p f d) ((BadRange when overfull p f.bytes) ∷ ts)
unfolding unless_extra
extra_first p f ts h g = guarded (overfull p f.bytes) BadRange ts h g

decided_first : (s : Step) (p : Progress) (view : View) (f : Frame) → GivesFirst (decided s p view f) (decided_tests s p view f)
unfolding decided
decided_first Idle p view f = commanded_first view f.bytes (look_up can_commands f.id)
decided_first WriteData p view f = gathering_first WriteMemory p f _ tt (writing_first view _ _)
decided_first EraseList p view f = gathering_first Erase p f _ tt (extra_first p f _ tt (erasing_first view _ _))
decided_first ProtectList p view f = gathering_first ProgramProtect p f _ tt (extra_first p f _ tt (protecting_first _ _))

heard_first : (s : Step) (p : Progress) (view : View) (f : Frame) → GivesFirst (heard s p view f) (tests s p view f)
unfolding heard
heard_first s p view f =
    decided_first s (progress_at p.taken p.expected p.address (staged_with p (carried f))) view (counted f)

-- ---- the table

ordered : (s : Step) (l : Option Command) → T (in_order (possible s l))
ordered Idle (Some c) = by_command c
  where
    by_command : (c : Command) → T (in_order (possible Idle (Some c)))
    by_command GetCommands = tt
    by_command GetVersion = tt
    by_command GetDeviceId = tt
    by_command ReadMemory = tt
    by_command Jump = tt
    by_command WriteMemory = tt
    by_command Erase = tt
    by_command ProgramProtect = tt
    by_command ProgramUnprotect = tt
    by_command AccessProtect = tt
    by_command AccessUnprotect = tt
    by_command FirmwareCrc = tt
    by_command ResetDevice = tt
    by_command Speed = tt
ordered Idle None = tt
ordered WriteData l = tt
ordered EraseList l = tt
ordered ProtectList l = tt

frame_tested : (view : View) (d : List ℕ) (l : Option Command) → reasons_of (frame_tests view d l) ≡ possible Idle l
frame_tested view d (Some c) = by_command c
  where
    by_command : (c : Command) → reasons_of (frame_tests view d (Some c)) ≡ possible Idle (Some c)
    by_command GetCommands = refl
    by_command GetVersion = refl
    by_command GetDeviceId = refl
    by_command ReadMemory = refl
    by_command Jump = refl
    by_command WriteMemory = refl
    by_command Erase = refl
    by_command ProgramProtect = refl
    by_command ProgramUnprotect = refl
    by_command AccessProtect = refl
    by_command AccessUnprotect = refl
    by_command FirmwareCrc = refl
    by_command ResetDevice = refl
    by_command Speed = refl
frame_tested view d None = refl

tested : (s : Step) (p : Progress) (view : View) (f : Frame) → reasons_of (tests s p view f) ≡ possible s (look_up can_commands f.id)
tested Idle p view f = frame_tested view (carried f) (look_up can_commands f.id)
tested WriteData p view f = refl
tested EraseList p view f = refl
tested ProtectList p view f = refl

pub first_reasons : FirstReasons
first_reasons = record {
  ordered = ordered;
  tested = tested;
  first = heard_first;
  foremost = λ s p view f. gives_the_first (heard_first s p view f);
  only = λ s p view f.
      subst (λ (ws : List Why). T (one_of ws (reason_of (heard s p view f).reply))) (tested s p view f) (gives_one (heard_first s p view f));
}
