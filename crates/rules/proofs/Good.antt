-- What the rules decide can be carried out and said, and leaves a sound session: bytes lie in the region in which their place was found, and listed sectors
-- passed their test.
use mathlib.Core.Bool.{Bool}
use mathlib.Core.List.{List}
use Prim.Native.Nat.{ℕ, ◌+◌, ◌≤◌}
use lib.Dec.{T, leb}
use borrow.Author.Tests.{le-leb}
use Rattle.words.specs.Lists.{all}
use Rattle.words.proofs.Tests.{holds_true}
use Rattle.board.specs.Board as B
use Rattle.board.specs.Quantities.{is_sector, bytes_in, first_indexed, first_numbered}
use Rattle.board.specs.declared.Address.{Address}
use Rattle.board.specs.declared.Region.{Region}
use Rattle.board.specs.declared.Region.TheVariants.{Flash, Sram, Usd}
use Rattle.board.specs.declared.View.{View}
use Rattle.board.proofs.Regions.{room}
use Rattle.memories.specs.Effects.{fits}
use Rattle.memories.specs.declared.Change.{Change}
use Rattle.command.specs.Decision.{answer, alter, show, nack}
use Rattle.command.specs.Says.{sayable}
use Rattle.command.specs.declared.Decision.{Decision}
use Rattle.command.specs.declared.Next.{Next}
use Rattle.command.specs.declared.Next.TheVariants.{Stay, Reset, Gather, GoIdle, SetSpeed, Enter, EnterAt, Run}
use Rattle.command.specs.declared.Reply.{Reply}
use Rattle.command.specs.declared.FixedReply.{FixedReply}
use Rattle.command.specs.declared.Why.{Why}
use Rattle.command.proofs.Holds.{Holds}
use Rattle.rules.specs.Rules.{reading, after_write, writing, erasing, protecting, jumping, summing}
use Rattle.rules.proofs.Made.{reading_made, writing_made, erasing_made, protecting_made, jumping_made, summing_made}

-- what becomes of a session is sound: a step may be entered so, bytes are gathered where more are expected, and a speed is one of the four
abbrev pub FirmNext : (ℕ → ℕ → Type 0) → Bool → Next → Type 0
FirmNext enters more Stay = Unit {0}
FirmNext enters more Reset = Unit {0}
FirmNext enters more Gather = T more
FirmNext enters more GoIdle = Unit {0}
FirmNext enters more (SetSpeed v) = T (leb v 3)
FirmNext enters more (Enter step e) = enters step e
FirmNext enters more (EnterAt step e a) = enters step e
FirmNext enters more (Run a) = Unit {0}

-- a decision, with these staged bytes; it can be said where the bytes are small
pub record Good (small : Type 0) (enters : ℕ → ℕ → Type 0) (more : Bool) (staged : List ℕ) (d : Decision) : Type 0 where
  pub sayable : small → T (sayable d.reply)
  pub fits : T (fits d.change staged)
  pub firm : FirmNext enters more d.next

module _ (small : Type 0) (enters : ℕ → ℕ → Type 0) (more : Bool) (staged : List ℕ) where
  -- the same of what is known here
  abbrev GoodHere : Decision → Type 0
  GoodHere d = Good small enters more staged d

  -- what is told can always be given, and what is read where it is there; no change
  pub told : {t : FixedReply} {n : Next} → FirmNext enters more n → Holds GoodHere (answer t n)
  told k = record { holds = record { sayable = λ b. tt; fits = tt; firm = k } }

  shown : {r : Reply} → (small → T (sayable r)) → Holds GoodHere (show r GoIdle)
  shown h = record { holds = record { sayable = h; fits = tt; firm = tt } }

  -- a change that fits
  pub made : {t : FixedReply} {c : Change} {n : Next} → T (fits c staged) → FirmNext enters more n → Holds GoodHere (alter t c n)
  made h k = record { holds = record { sayable = λ b. tt; fits = h; firm = k } }

  -- a refusal
  pub refusal : (w : Why) → Holds GoodHere (nack w)
  refusal w = told tt

  -- where x bytes lie there is room for them
  pub reading_good : (a : Address) (x : ℕ) → (small → x ≤ 256) → Holds GoodHere (reading a x)
  reading_good a x h =
      reading_made GoodHere refusal a x
      λ r at e. shown λ b. rw (le-leb x 256 (h b), le-leb (at + x) (B.extent_of r).bytes (room a x r at e)) tt

  -- after a write the session is idle or fresh
  written_firm : (r : Region) → FirmNext enters more (after_write r)
  written_firm Flash = tt
  written_firm Sram = tt
  written_firm Usd = tt

  pub writing_good : (view : View) (a : Address) (x : ℕ) → x ≤ 256 → Holds GoodHere (writing view a x)
  writing_good view a x h =
      writing_made GoodHere refusal view a x
      λ r at e. made (rw (le-leb x 256 h, le-leb (at + x) (B.extent_of r).bytes (room a x r at e)) tt) (written_firm r)

  pub erasing_good : (view : View) (x : ℕ) → x ≤ 32 → Holds GoodHere (erasing view staged x)
  erasing_good view x h =
      erasing_made GoodHere refusal view staged x
      λ t. made (rw (le-leb x 32 h, holds_true (all is_sector (first_numbered x staged)) t) tt) tt

  pub protecting_good : (x : ℕ) → x ≤ 256 → Holds GoodHere (protecting staged x)
  protecting_good x h =
      protecting_made GoodHere refusal staged x
      λ t. made (rw (le-leb x 256 h, holds_true (all is_sector (first_indexed x staged)) t) tt) tt

  pub jumping_good : (a : Address) → Holds GoodHere (jumping a)
  jumping_good a = jumping_made GoodHere refusal a (told tt)

  pub summing_good : (a : Address) (x : ℕ) → Holds GoodHere (summing a x)
  summing_good a x =
      summing_made GoodHere refusal a x
      λ at e. shown λ b. rw (le-leb (at + bytes_in x) 32768 (room a (bytes_in x) Flash at e)) tt
