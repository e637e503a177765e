-- Each rule gives the first reason of what it tests, by cases over its tests; a write's range lies in the region of its first byte, or in none.
use Prim.Native.Nat.{ℕ, zero, suc, ◌+◌, ◌-◌, ◌/◌, ◌≤◌}
use mathlib.Core.Path.{◌≡◌, refl, sym, subst, ◌∙◌}
use mathlib.Core.Bool.{Bool, true, false, not, ◌&&◌, ◌||◌}
use mathlib.Core.List.{List, [], ◌∷◌}
use native.Mathlib.Omega.{arith}
use lib.Dec.{T, eqb, ltb, le→leb}
use Rattle.std.specs.Prelude.{if◌then◌else◌, Option, Some, None, Err}
use Rattle.words.specs.Lists.{any, all}
use Rattle.board.specs.Board as B
use Rattle.board.specs.Quantities.{bytes_in, is_sector, sector, sectors_from, every_sector, first_indexed, first_numbered}
use Rattle.board.specs.Regions.{inside, place_of, found, known, jumpable, sector_start, touched}
use Rattle.board.specs.View.{write_protected}
use Rattle.board.specs.declared.Address.{Address}
use Rattle.board.specs.declared.Place.{Place}
use Rattle.board.specs.declared.Region.{Region}
use Rattle.board.specs.declared.Region.TheVariants.{Flash, Sram, Usd}
use Rattle.board.specs.declared.Sector.{Sector}
use Rattle.board.specs.declared.View.{View}
use Rattle.board.proofs.Regions.{Lies, lies}
use Rattle.command.specs.Commands.{protected}
use Rattle.command.specs.Decision.{fine, judged}
use Rattle.command.specs.Tests.{Test, ◌when◌, first_reason, GivesFirst}
use Rattle.command.specs.Why.{reason}
use Rattle.command.specs.declared.Command.{Command}
use Rattle.command.specs.declared.Decision.{Decision}
use Rattle.command.specs.declared.Why.TheVariants.{AccessProtected, BadAddress, BadRange, BadSector, WriteProtected, UnsupportedErase}
use Rattle.command.proofs.First.{precedes_all, forbidden, guarded, unrefused, RefusesFirst, judged_first}
use Rattle.rules.specs.Rules.{unless_protected, read_at, reading, write_verdict_at, write_verdict, write_at, writing, erase_verdict, erasing}
use Rattle.rules.specs.Rules.{erase_all_verdict, protect_verdict, protecting, jumping, sum_at, summing}
use Rattle.rules.specs.Tests.{read_tests, part_of_usd, protected_sector, touches_protected, write_tests, erase_tests, means_all, erase_all_tests}
use Rattle.rules.specs.Tests.{protect_tests, jump_tests, in_flash, sum_tests}

-- a command that is protected, before what it decides
pub unless_first : (view : View) (c : Command) (ts : List Test) {d : Decision} → T (precedes_all (reason AccessProtected) ts) → GivesFirst d ts
    → GivesFirst (unless_protected view c d) ((AccessProtected when view.locked && protected c) ∷ ts)
unfolding unless_protected
unless_first view c ts h g = guarded (view.locked && protected c) AccessProtected ts h g

-- ---- reads, jumps and checksums

read_at_first : (q : Option Place) (x : ℕ) → GivesFirst (read_at q x) ((BadRange when not (found q)) ∷ [])
unfolding read_at first_reason
read_at_first (Some p) x = record { first = refl }
read_at_first None x = record { first = refl }

pub reading_first : (a : Address) (x : ℕ) → GivesFirst (reading a x) (read_tests a x)
unfolding reading
reading_first a x = forbidden (known a) BadAddress _ tt (read_at_first (place_of a x) x)

pub jumping_first : (a : Address) → GivesFirst (jumping a) (jump_tests a)
unfolding jumping
jumping_first a = forbidden (jumpable a) BadAddress [] tt (unrefused refl)

sum_at_first : (q : Option Place) (n : ℕ) → GivesFirst (sum_at q n) ((BadRange when not (in_flash q)) ∷ [])
unfolding sum_at first_reason
sum_at_first (Some p) n = by_region p.region p.at
  where
    by_region : (r : Region) (at : ℕ) → GivesFirst (sum_at (inside r at) n) ((BadRange when not (in_flash (inside r at))) ∷ [])
    by_region Flash at = record { first = refl }
    by_region Sram at = record { first = refl }
    by_region Usd at = record { first = refl }
sum_at_first None n = record { first = refl }

pub summing_first : (a : Address) (x : ℕ) → GivesFirst (summing a x) (sum_tests a x)
unfolding summing
summing_first a x = forbidden (sector_start a) BadAddress _ tt (sum_at_first (place_of a (bytes_in x)) (bytes_in x))

-- ---- sectors that exist

-- where all numbers are those of sectors, a sector among them is write-protected exactly where its bit says so
all_exist : (view : View) (ks : List Sector) → T (all is_sector ks) → any (protected_sector view) ks ≡ any (write_protected view) ks
all_exist view [] h = refl
all_exist view (k ∷ ks) h = by_test (is_sector k) (write_protected view k) h (all_exist view ks)
  where
    by_test : (t u : Bool) → T (t && all is_sector ks) → (T (all is_sector ks) → any (protected_sector view) ks ≡ any (write_protected view) ks)
        → (t && u || any (protected_sector view) ks) ≡ (u || any (write_protected view) ks)
    by_test true true h rest = refl
    by_test true false h rest = rest h
    by_test false u h rest = absurd h

-- n sectors from k on, none over 31
none_over : (k n : ℕ) → k + n ≤ 32 → T (all is_sector (sectors_from (sector k) n))
none_over k zero h = tt
none_over k (suc n) h = and_rest (ltb k 32) (le→leb (suc k) 32 (omega arith)) (none_over (suc k) n (omega arith))
  where
    and_rest : (t : Bool) → T t → T (all is_sector (sectors_from (sector (suc k)) n)) → T (t && all is_sector (sectors_from (sector (suc k)) n))
    and_rest true t r = r
    and_rest false t r = absurd t

-- the sectors that bytes of flash touch exist
touched_exist : (at x : ℕ) → at + 1 ≤ 32768 → at + x ≤ 32768 → T (all is_sector (touched at x))
touched_exist at x h k = none_over (at / 1024) ((at + x - 1) / 1024 - at / 1024 + 1) (omega arith)

-- ---- writes

-- the reason that a write's places give: that of its first byte, and that of the whole
abbrev Judges : View → Option Place → Option Place → ℕ → Type 0
Judges view p q x =
    RefusesFirst (if found p then write_verdict_at view q x else Err BadAddress)
    ((BadAddress when not (found p)) ∷ (BadRange when not (found q) || part_of_usd p x) ∷ (WriteProtected when touches_protected view p x) ∷ [])

-- the first byte is in no region
nowhere_first : (view : View) (q : Option Place) (x : ℕ) → Judges view None q x
unfolding first_reason
nowhere_first view (Some p) x = record { first = refl }
nowhere_first view None x = record { first = refl }

-- the range leaves its region
leaving_first : (view : View) (r : Region) (at x : ℕ) → Judges view (inside r at) None x
unfolding write_verdict_at first_reason
leaving_first view Flash at x = by_test (any (protected_sector view) (touched at x))
  where
    by_test : (t : Bool) → RefusesFirst (Err BadRange) ((BadAddress when false) ∷ (BadRange when true) ∷ (WriteProtected when t) ∷ [])
    by_test true = record { first = refl }
    by_test false = record { first = refl }
leaving_first view Sram at x = record { first = refl }
leaving_first view Usd at x = record { first = refl }

-- the range lies where its first byte does, in flash, in SRAM or in user system data
in_flash_first : (view : View) (at x : ℕ) → T (all is_sector (touched at x)) → Judges view (inside Flash at) (inside Flash at) x
unfolding write_verdict_at first_reason
in_flash_first view at x h = by_test (any (write_protected view) (touched at x)) (any (protected_sector view) (touched at x)) (all_exist view (touched at x) h)
  where
    by_test : (t u : Bool) → u ≡ t
        → RefusesFirst (if t then Err WriteProtected else fine) ((BadAddress when false) ∷ (BadRange when false) ∷ (WriteProtected when u) ∷ [])
    by_test true true e = record { first = refl }
    by_test true false e = absurd (subst T (sym e) tt)
    by_test false true e = absurd (subst T e tt)
    by_test false false e = record { first = refl }

in_sram_first : (view : View) (at x : ℕ) → Judges view (inside Sram at) (inside Sram at) x
unfolding write_verdict_at first_reason
in_sram_first view at x = record { first = refl }

in_usd_first : (view : View) (at x : ℕ) → Judges view (inside Usd at) (inside Usd at) x
unfolding write_verdict_at first_reason
in_usd_first view at x = by_test (eqb at 0 && eqb x (B.usd).bytes)
  where
    by_test : (t : Bool)
        → RefusesFirst (if t then fine else Err BadRange) ((BadAddress when false) ∷ (BadRange when not t) ∷ (WriteProtected when false) ∷ [])
    by_test true = record { first = refl }
    by_test false = record { first = refl }

-- regions lie apart, so that a range is in the region of its first byte
same_region : (view : View) (a : Address) (x : ℕ) (r s : Region) (at to : ℕ) → place_of a 1 ≡ inside r at → place_of a x ≡ inside s to
    → Judges view (inside r at) (inside s to) x
same_region view a x r s at to e f = by_regions r s (lies a 1 r at e) (lies a x s to f)
  where
    by_regions : (r s : Region) → Lies a 1 r at → Lies a x s to → Judges view (inside r at) (inside s to) x
    by_regions Flash Flash l m =
        subst (λ (n : ℕ). Judges view (inside Flash at) (inside Flash n) x) (l.offset ∙ sym m.offset)
        (in_flash_first view at x
        (touched_exist at x (omega (arith, l.from, l.to, l.offset)) (omega (arith, m.from, m.to, l.offset))))
    by_regions Flash Sram l m = absurd (omega (arith, l.to, m.from))
    by_regions Flash Usd l m = absurd (omega (arith, l.to, m.from))
    by_regions Sram Flash l m = absurd (omega (arith, l.from, m.to))
    by_regions Sram Sram l m = subst (λ (n : ℕ). Judges view (inside Sram at) (inside Sram n) x) (l.offset ∙ sym m.offset) (in_sram_first view at x)
    by_regions Sram Usd l m = absurd (omega (arith, l.from, m.to))
    by_regions Usd Flash l m = absurd (omega (arith, l.from, m.to))
    by_regions Usd Sram l m = absurd (omega (arith, l.to, m.from))
    by_regions Usd Usd l m = subst (λ (n : ℕ). Judges view (inside Usd at) (inside Usd n) x) (l.offset ∙ sym m.offset) (in_usd_first view at x)

pub write_verdict_first : (view : View) (a : Address) (x : ℕ) → RefusesFirst (write_verdict view a x) (write_tests view a x)
unfolding write_verdict
write_verdict_first view a x = by_places (place_of a 1) (place_of a x) refl refl
  where
    by_places : (p q : Option Place) → place_of a 1 ≡ p → place_of a x ≡ q → Judges view p q x
    by_places None q e f = nowhere_first view q x
    by_places (Some p) None e f = leaving_first view p.region p.at x
    by_places (Some p) (Some q) e f = same_region view a x p.region q.region p.at q.at e f

-- a write that is not forbidden has a place
written_first : (view : View) (t : Bool) (q : Option Place) (x : ℕ) {ts : List Test}
    → RefusesFirst (if t then write_verdict_at view q x else Err BadAddress) ts
    → GivesFirst (judged (if t then write_verdict_at view q x else Err BadAddress) (write_at q x)) ts
unfolding write_verdict_at write_at judged
written_first view t (Some p) x h = judged_first (if t then write_verdict_at view (Some p) x else Err BadAddress) (write_at (Some p) x) refl h
written_first view true None x h = record { first = h.first }
written_first view false None x h = record { first = h.first }

pub writing_first : (view : View) (a : Address) (x : ℕ) → GivesFirst (writing view a x) (write_tests view a x)
unfolding writing write_verdict
writing_first view a x = written_first view (known a) (place_of a x) x (write_verdict_first view a x)

-- ---- lists of sectors, and all of them

erase_verdict_first : (view : View) (ks : List Sector) → RefusesFirst (erase_verdict view ks) (erase_tests view ks)
unfolding erase_verdict first_reason
erase_verdict_first view ks = by_tests (all is_sector ks) (any (write_protected view) ks) (any (protected_sector view) ks) (all_exist view ks)
  where
    by_tests : (t u v : Bool) → (T t → v ≡ u)
        → RefusesFirst (if not t then Err BadSector else if u then Err WriteProtected else fine) ((BadSector when not t) ∷ (WriteProtected when v) ∷ [])
    by_tests true true true e = record { first = refl }
    by_tests true true false e = absurd (subst T (sym (e tt)) tt)
    by_tests true false true e = absurd (subst T (e tt) tt)
    by_tests true false false e = record { first = refl }
    by_tests false u true e = record { first = refl }
    by_tests false u false e = record { first = refl }

pub erasing_first : (view : View) (staged : List ℕ) (x : ℕ) → GivesFirst (erasing view staged x) (erase_tests view (first_numbered x staged))
unfolding erasing
erasing_first view staged x = judged_first _ _ refl (erase_verdict_first view (first_numbered x staged))

pub erase_all_first : (view : View) (n : ℕ) → RefusesFirst (erase_all_verdict view n) (erase_all_tests view n)
unfolding erase_all_verdict first_reason
erase_all_first view n = by_tests (means_all n) (any (write_protected view) every_sector)
  where
    by_tests : (t u : Bool)
        → RefusesFirst (if not t then Err UnsupportedErase else if u then Err WriteProtected else fine)
        ((WriteProtected when t && u) ∷ (UnsupportedErase when not t) ∷ [])
    by_tests true true = record { first = refl }
    by_tests true false = record { first = refl }
    by_tests false u = record { first = refl }

protect_verdict_first : (ks : List Sector) → RefusesFirst (protect_verdict ks) (protect_tests ks)
unfolding protect_verdict first_reason
protect_verdict_first ks = by_test (all is_sector ks)
  where
    by_test : (t : Bool) → RefusesFirst (if t then fine else Err BadSector) ((BadSector when not t) ∷ [])
    by_test true = record { first = refl }
    by_test false = record { first = refl }

pub protecting_first : (staged : List ℕ) (x : ℕ) → GivesFirst (protecting staged x) (protect_tests (first_indexed x staged))
unfolding protecting
protecting_first staged x = judged_first _ _ refl (protect_verdict_first (first_indexed x staged))
