-- One walk over the rules: what holds of every refusal, and of what a rule answers and does where it accepts, holds of whatever it decides.
use mathlib.Core.Path.{◌≡◌, refl}
use mathlib.Core.Bool.{Bool, true, false, not}
use mathlib.Core.List.{List}
use Prim.Native.Nat.{ℕ, ◌+◌, ◌≤◌}
use lib.Dec.{T, leb}
use borrow.Author.Tests.{leb-true}
use Rattle.std.specs.Prelude.{if◌then◌else◌, Option, Some, None, Err}
use Rattle.words.specs.Lists.{any, all}
use Rattle.board.specs.Quantities.{less_one, is_sector, bytes_in, first_indexed, first_numbered}
use Rattle.board.specs.Regions.{inside, place_of}
use Rattle.board.specs.View.{write_protected}
use Rattle.board.specs.declared.Address.{Address}
use Rattle.board.specs.declared.Place.{Place}
use Rattle.board.specs.declared.Region.{Region}
use Rattle.board.specs.declared.Region.TheVariants.{Flash, Sram, Usd}
use Rattle.board.specs.declared.View.{View}
use Rattle.memories.specs.declared.Change.TheVariants.{Write, EraseSectors, ProtectOnly}
use Rattle.command.specs.Decision.{answer, alter, show, nack, fine, judged}
use Rattle.command.specs.declared.Decision.{Decision}
use Rattle.command.specs.declared.Next.TheVariants.{GoIdle, Reset, Run}
use Rattle.command.specs.declared.Reply.TheVariants.{Data, Crc}
use Rattle.command.specs.declared.FixedReply.TheVariants.{Ack}
use Rattle.command.specs.declared.Why.{Why}
use Rattle.command.specs.declared.Why.TheVariants.{BadSector, WriteProtected}
use Rattle.command.proofs.Holds.{Holds, either, judged_either}
use Rattle.rules.specs.Rules.{read_at, reading, after_write, write_at, writing, selector_of, erase_verdict, erasing}
use Rattle.rules.specs.Rules.{protect_verdict, protecting, jumping, sum_at, summing}
use Rattle.rules.specs.declared.Selector.{Selector}
use Rattle.rules.specs.declared.Selector.TheVariants.{Listed, Special, Impossible}

module _ (P : Decision → Type 0) (refusal : (w : Why) → Holds P (nack w)) where
  -- bytes are read or written at the place that they have
  pub reading_made : (a : Address) (x : ℕ) → ((r : Region) (at : ℕ) → place_of a x ≡ inside r at → Holds P (show (Data r at x) GoIdle))
      → Holds P (reading a x)
  unfolding reading read_at
  reading_made a x f = either P _ (by_place (place_of a x) refl) (refusal _)
    where
      by_place : (q : Option Place) → place_of a x ≡ q → Holds P (read_at q x)
      by_place (Some p) e = f p.region p.at e
      by_place None e = refusal _

  pub writing_made : (view : View) (a : Address) (x : ℕ)
      → ((r : Region) (at : ℕ) → place_of a x ≡ inside r at → Holds P (alter Ack (Write r at x) (after_write r))) → Holds P (writing view a x)
  unfolding writing write_at
  writing_made view a x f = judged_either P _ refusal (by_place (place_of a x) refl)
    where
      by_place : (q : Option Place) → place_of a x ≡ q → Holds P (write_at q x)
      by_place (Some p) e = f p.region p.at e
      by_place None e = refusal _

  -- listed numbers are those of sectors
  pub erasing_made : (view : View) (staged : List ℕ) (x : ℕ)
      → (T (all is_sector (first_numbered x staged)) → Holds P (alter Ack (EraseSectors x) GoIdle)) → Holds P (erasing view staged x)
  unfolding erasing erase_verdict judged
  erasing_made view staged x f = by_tests (all is_sector (first_numbered x staged)) f (any (write_protected view) (first_numbered x staged))
    where
      by_tests : (t : Bool) → (T t → Holds P (alter Ack (EraseSectors x) GoIdle)) → (u : Bool)
          → Holds P (judged (if not t then Err BadSector else if u then Err WriteProtected else fine) (alter Ack (EraseSectors x) GoIdle))
      by_tests true f true = refusal _
      by_tests true f false = f tt
      by_tests false f u = refusal _

  pub protecting_made : (staged : List ℕ) (x : ℕ)
      → (T (all is_sector (first_indexed x staged)) → Holds P (alter Ack (ProtectOnly x) Reset)) → Holds P (protecting staged x)
  unfolding protecting protect_verdict judged
  protecting_made staged x f = by_test (all is_sector (first_indexed x staged)) f
    where
      by_test : (t : Bool) → (T t → Holds P (alter Ack (ProtectOnly x) Reset))
          → Holds P (judged (if t then fine else Err BadSector) (alter Ack (ProtectOnly x) Reset))
      by_test true f = f tt
      by_test false f = refusal _

  pub jumping_made : (a : Address) → Holds P (answer Ack (Run a.0)) → Holds P (jumping a)
  unfolding jumping
  jumping_made a h = either P _ h (refusal _)

  -- a checksum is over flash
  pub summing_made : (a : Address) (x : ℕ) → ((at : ℕ) → place_of a (bytes_in x) ≡ inside Flash at → Holds P (show (Crc at (bytes_in x)) GoIdle))
      → Holds P (summing a x)
  unfolding summing sum_at
  summing_made a x f = either P _ (by_place (place_of a (bytes_in x)) refl) (refusal _)
    where
      by_region : (r : Region) (at : ℕ) → place_of a (bytes_in x) ≡ inside r at → Holds P (sum_at (inside r at) (bytes_in x))
      by_region Flash at e = f at e
      by_region Sram at e = refusal _
      by_region Usd at e = refusal _

      by_place : (q : Option Place) → place_of a (bytes_in x) ≡ q → Holds P (sum_at q (bytes_in x))
      by_place (Some p) e = by_region p.region p.at e
      by_place None e = refusal _

-- a selector is special, announces at most 32 sectors, or is impossible
pub selector_made : (P : Selector → Type 0) (n : ℕ) → P (Special n) → (n + 1 ≤ 32 → P (Listed (less_one n))) → P Impossible → P (selector_of n)
unfolding selector_of
selector_made P n special listed impossible = by_tests (leb 0xFFFB n) (leb (n + 1) 32) refl
  where
    by_tests : (t u : Bool) → leb (n + 1) 32 ≡ u → P (if t then Special n else if u then Listed (less_one n) else Impossible)
    by_tests true u e = special
    by_tests false true e = listed (leb-true (n + 1) 32 e)
    by_tests false false e = impossible
