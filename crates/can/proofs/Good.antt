-- What a CAN frame decides can be carried out and said, and enters only steps that may expect what they do.
use mathlib.Core.Path.{◌≡◌}
use mathlib.Core.Bool.{Bool, ◌&&◌}
use mathlib.Core.List.{List}
use Prim.Native.Nat.{ℕ, ◌+◌, ◌*◌, ◌%◌, ◌≤◌, ◌<◌}
use native.Mathlib.Omega.{arith}
use lib.Dec.{T, leb, ltb, eqb→eq}
use lib.ListN.{length, get_or, drop}
use borrow.Author.Tests.{le-leb, lt-ltb, eq-eqb}
use Rattle.std.specs.Prelude.{Option, Some, None, Ok, Err}
use Rattle.words.specs.Bytes.{number}
use Rattle.board.specs.Quantities.{address_bytes, count_sent}
use Rattle.board.specs.declared.View.{View}
use Rattle.command.specs.Progress.{Progress, progress_at, staged_with, short}
use Rattle.command.specs.Decision.{Verdict, answer, nack}
use Rattle.command.specs.declared.Command.{Command}
use Rattle.command.specs.declared.Command.TheVariants.{GetCommands, GetVersion, GetDeviceId, ReadMemory, Jump, WriteMemory, Erase, ProgramProtect}
use Rattle.command.specs.declared.Command.TheVariants.{ProgramUnprotect, AccessProtect, AccessUnprotect, FirmwareCrc, ResetDevice, Speed}
use Rattle.command.specs.declared.Decision.{Decision}
use Rattle.command.specs.declared.Next.{Next}
use Rattle.command.specs.declared.FixedReply.{FixedReply}
use Rattle.command.specs.declared.Why.{Why}
use Rattle.command.proofs.Holds.{Holds, either, split, judged_either}
use Rattle.rules.specs.Rules.{selector_of}
use Rattle.rules.proofs.Made.{selector_made}
use Rattle.rules.proofs.Unless.{unless_either}
use Rattle.rules.proofs.Good.{FirmNext, Good, told, made, refusal, reading_good, writing_good, erasing_good, protecting_good, jumping_good, summing_good}
use Rattle.can.specs.Conversation.{dlc_fits, erased_or_not, selected, obeyed, commanded, gathering, unless_extra, decided, heard}
use Rattle.frames.specs.Frames.{Frame, carried, counted}
use Rattle.can.specs.Steps.{step_no, steps, step_of, expects, numbers_in}
use Rattle.can.specs.declared.Step.{Step}
use Rattle.can.specs.declared.Step.TheVariants.{Idle, WriteData, EraseList, ProtectList}
use Rattle.can.proofs.Carried.{last_number}
use Rattle.can.proofs.Steps as S

-- a step of this number may be entered, and expect so many, where the first data byte is a byte
abbrev pub enters : List ℕ → ℕ → ℕ → Type 0
enters d step e = get_or d 0 0 < 256 → T (ltb step (length steps) && expects (step_of step) e && ltb 0 e)

module _ (d : List ℕ) (more : Bool) (bytes : List ℕ) where
  -- with these data and these bytes staged
  abbrev pub GoodOnCan : Decision → Type 0
  GoodOnCan k = Good (Unit {0}) (enters d) more bytes k

  -- a refusal, and what is told where the session stays sound
  refused : (w : Why) → Holds GoodOnCan (nack w)
  refused = refusal (Unit {0}) (enters d) more bytes

  goes : {t : FixedReply} {n : Next} → FirmNext (enters d) more n → Holds GoodOnCan (answer t n)
  goes = told (Unit {0}) (enters d) more bytes

  erased_good : (v : Verdict) → Holds GoodOnCan (erased_or_not v)
  unfolding erased_or_not
  erased_good (Ok u) = made _ _ _ _ tt tt
  erased_good (Err w) = goes tt

  -- a selector announces at most 32 numbers
  selected_good : (view : View) (m : ℕ) → Holds GoodOnCan (selected view (selector_of m))
  unfolding selected
  selected_good view m = selector_made (λ k. Holds GoodOnCan (selected view k)) m (erased_good _) (λ h. goes (listed h)) (goes tt)
    where
      listed : m + 1 ≤ 32 → enters d (step_no EraseList) (2 * (m + 1))
      listed h b =
          let e = 2 * (m + 1) in
          rw (le-leb 2 e (omega arith), le-leb e 64 (omega arith), eq-eqb (e % 2) 0 (omega arith), lt-ltb 0 e (omega arith)) tt

  -- a byte X - 1 announces at most 256 bytes
  awaited : (x : ℕ) → x < 256 → T (leb 1 (x + 1) && leb (x + 1) 256 && ltb 0 (x + 1))
  awaited x h = rw (le-leb 1 (x + 1) (omega arith), le-leb (x + 1) 256 (omega arith)) tt

  -- the byte behind the address is a byte, so that no read is longer than 256
  obeyed_good : (view : View) → get_or d address_bytes 0 < 256 → (k : Command) → T (dlc_fits k (length d)) → Holds GoodOnCan (obeyed view d k)
  unfolding obeyed
  obeyed_good view b GetCommands t = goes tt
  obeyed_good view b GetVersion t = goes tt
  obeyed_good view b GetDeviceId t = goes tt
  obeyed_good view b ReadMemory t =
      let e = last_number address_bytes d (eqb→eq (length d) 5 t) in
      reading_good _ _ _ _ _ (count_sent (drop address_bytes d)) (λ h. omega arith)
  obeyed_good view b Jump t = jumping_good _ _ _ _ _
  obeyed_good view b WriteMemory t =
      let e = last_number address_bytes d (eqb→eq (length d) 5 t) in
      judged_either GoodOnCan _ refused (goes λ h. awaited (number (drop address_bytes d)) (omega arith))
  obeyed_good view b Erase t = selected_good view _
  obeyed_good view b ProgramProtect t =
      let e : number d ≡ get_or d 0 0 = last_number 0 d (eqb→eq (length d) 1 t) in
      goes λ h. awaited (number d) (omega arith)
  obeyed_good view b ProgramUnprotect t = made _ _ _ _ tt tt
  obeyed_good view b AccessProtect t = made _ _ _ _ tt tt
  obeyed_good view b AccessUnprotect t = made _ _ _ _ tt tt
  obeyed_good view b FirmwareCrc t = summing_good _ _ _ _ _ _
  obeyed_good view b ResetDevice t = goes tt
  obeyed_good view b Speed t = split GoodOnCan _ (λ h. goes h) (λ h. goes tt)

  commanded_good : (view : View) → get_or d address_bytes 0 < 256 → (k : Option Command) → Holds GoodOnCan (commanded view d k)
  unfolding commanded
  commanded_good view b (Some k) =
      split GoodOnCan (dlc_fits k (length d)) (λ t. unless_either GoodOnCan view k refused (obeyed_good view b k t)) (λ n. goes tt)
  commanded_good view b None = goes tt

  -- a step that gathers
  gathering_good : (c : Command) (p : Progress) (f : Frame) {k : Decision} → (T (short p f.bytes) → T more) → Holds GoodOnCan k
      → Holds GoodOnCan (gathering c p f k)
  unfolding gathering
  gathering_good c p f m h = either GoodOnCan _ (goes tt) (split GoodOnCan _ (λ t. goes (m t)) (λ t. h))

  unless_good : (p : Progress) (f : Frame) {k : Decision} → Holds GoodOnCan k → Holds GoodOnCan (unless_extra p f k)
  unfolding unless_extra
  unless_good p f h = either GoodOnCan _ (goes tt) h

module _ (p : Progress) (view : View) (f : Frame) (b : get_or f.bytes address_bytes 0 < 256) where
  -- the same of a frame
  abbrev GoodFrame : Decision → Type 0
  GoodFrame k = GoodOnCan f.bytes (short p f.bytes) p.staged k

  -- it may gather where more is expected
  gathers_good : (c : Command) {k : Decision} → Holds GoodFrame k → Holds GoodFrame (gathering c p f k)
  gathers_good c h = gathering_good f.bytes (short p f.bytes) p.staged c p f (λ t. t) h

  -- each step
  decided_good : (s : Step) → T (expects s p.expected) → Holds GoodFrame (decided s p view f)
  unfolding decided
  decided_good Idle t = commanded_good _ _ _ view b _
  decided_good WriteData t = gathers_good _ (writing_good _ _ _ _ view _ _ (omega (arith, (S.counted p.expected t).1)))
  decided_good EraseList t =
      let h = S.numbered p.expected t in
      gathers_good _ (unless_good f.bytes _ _ p f (erasing_good _ _ _ _ view (numbers_in p.expected) (omega arith)))
  decided_good ProtectList t =
      gathers_good _ (unless_good f.bytes _ _ p f (protecting_good _ _ _ _ p.expected (S.counted p.expected t).1))

-- one frame, with its bytes staged
pub heard_good : (s : Step) (p : Progress) → T (expects s p.expected) → (view : View) (f : Frame) → get_or (carried f) address_bytes 0 < 256
    → Holds (GoodOnCan (carried f) (short p (carried f)) (staged_with p (carried f))) (heard s p view f)
unfolding heard
heard_good s p t view f b =
    decided_good (progress_at p.taken p.expected p.address (staged_with p (carried f))) view (counted f) b s t
