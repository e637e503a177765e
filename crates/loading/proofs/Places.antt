-- Laws of places: a place in flash has room for the data, and marks that are read one by one.
use mathlib.Core.Path.{◌≡◌, refl}
use mathlib.Core.Bool.{Bool, true, false, ◌&&◌}
use mathlib.Core.List.{List}
use Prim.Native.Nat.{ℕ, ◌+◌, ◌-◌, ◌≤◌}
use native.Mathlib.Omega.{arith}
use lib.Dec.{T, leb, ltb}
use lib.IntN.{ℤ, pos, negsuc, ◌+ℤ◌}
use borrow.Author.Tests.{leb-true}
use Rattle.std.specs.Prelude.{if◌then◌else◌}
use Rattle.records.specs.Records.{is_good, line_of}
use Rattle.records.specs.declared.Line.{Line}
use Rattle.std.specs.Prelude.{Option, Some, None, Ok, Err}
use Rattle.loading.specs.Places.{bytes, is_data, place_at, in_flash, place_of}
use Rattle.loading.specs.declared.Cause.{Cause}
use Rattle.loading.specs.declared.Cause.TheVariants.{OutsideFlash}

-- a bad line has no place
pub nowhere : (shift : ℤ) → Ok None ≡ place_of shift None
unfolding place_of
nowhere shift = refl

-- a line's place, by the test that the code makes
module _ (shift : ℤ) (x : Line) where
  pub placed : (is_data x.kind && ltb 0 x.bytes) ≡ true → in_flash (place_at (pos x.address +ℤ shift) x.bytes) ≡ place_of shift (Some x)
  unfolding place_of
  placed t = rw t refl

  pub unplaced : (is_data x.kind && ltb 0 x.bytes) ≡ false → Ok None ≡ place_of shift (Some x)
  unfolding place_of
  unplaced t = rw t refl

-- a place in flash has room for the bytes
room_at : (z : ℤ) (n at : ℕ) → place_at z n ≡ Some at → at + n ≤ 32768
room_at (negsuc a) n at e = absurd (let z : ◌≡◌ {A = ℕ} 0 1 = cc in omega arith)
room_at (pos a) n at e = by_tests (leb 134217728 a) refl (leb (a + n) 134250496) refl e
  where
    by_tests : (s : Bool) → leb 134217728 a ≡ s → (t : Bool) → leb (a + n) 134250496 ≡ t
        → (if s && t then Some (a - 134217728) else None) ≡ Some at → at + n ≤ 32768
    by_tests true p true q r =
        let h : a - 134217728 ≡ at = cc in
        let j = leb-true 134217728 a p in
        let k = leb-true (a + n) 134250496 q in
        omega arith
    by_tests true p false q r = absurd (let z : ◌≡◌ {A = ℕ} 0 1 = cc in omega arith)
    by_tests false p t q r = absurd (let z : ◌≡◌ {A = ℕ} 0 1 = cc in omega arith)

pub room : (shift : ℤ) (o : Option Line) (at : ℕ) → place_of shift o ≡ Ok (Some at) → at + bytes o ≤ 32768
unfolding place_of
room shift None at e = absurd (let z : ◌≡◌ {A = ℕ} 0 1 = cc in omega arith)
room shift (Some x) at e = by_test (is_data x.kind && ltb 0 x.bytes) e
  where
    by_place : (p : Option ℕ) → place_at (pos x.address +ℤ shift) x.bytes ≡ p → in_flash p ≡ Ok (Some at) → at + x.bytes ≤ 32768
    by_place None q r = absurd (let z : ◌≡◌ {A = ℕ} 0 1 = cc in omega arith)
    by_place (Some i) q r = let k : i ≡ at = cc in room_at (pos x.address +ℤ shift) x.bytes at (rw k at q)

    by_test : (t : Bool) → (if t then in_flash (place_at (pos x.address +ℤ shift) x.bytes) else Ok None) ≡ Ok (Some at) → at + x.bytes ≤ 32768
    by_test true r = by_place (place_at (pos x.address +ℤ shift) x.bytes) refl r
    by_test false r = absurd (let z : ◌≡◌ {A = ℕ} 0 1 = cc in omega arith)

-- a line that has no place in flash is outside of it, for no other cause
pub only_outside : (shift : ℤ) (o : Option Line) (c : Cause) → place_of shift o ≡ Err c → c ≡ OutsideFlash
unfolding place_of
only_outside shift None c e = absurd (let z : ◌≡◌ {A = ℕ} 0 1 = cc in omega arith)
only_outside shift (Some x) c e = by_test (is_data x.kind && ltb 0 x.bytes) e
  where
    by_place : (p : Option ℕ) → in_flash p ≡ Err c → c ≡ OutsideFlash
    by_place None r = cc
    by_place (Some i) r = absurd (let z : ◌≡◌ {A = ℕ} 0 1 = cc in omega arith)

    by_test : (t : Bool) → (if t then in_flash (place_at (pos x.address +ℤ shift) x.bytes) else Ok None) ≡ Err c → c ≡ OutsideFlash
    by_test true r = by_place (place_at (pos x.address +ℤ shift) x.bytes) r
    by_test false r = absurd (let z : ◌≡◌ {A = ℕ} 0 1 = cc in omega arith)

-- a line that says something is good
pub good_line : (l : List ℕ) (x : Line) → line_of l ≡ Some x → T (is_good l)
good_line l x e = by_test (is_good l) refl e
  where
    by_test : (t : Bool) → is_good l ≡ t → line_of l ≡ Some x → T t
    by_test true g r = tt
    by_test false g r = absurd (let z : ◌≡◌ {A = ℕ} 0 1 = (let q = rw g at r in cc) in omega arith)

-- and so is one that has a place in flash
pub good_placed : (shift : ℤ) (l : List ℕ) (at : ℕ) → place_of shift (line_of l) ≡ Ok (Some at) → T (is_good l)
unfolding place_of
good_placed shift l at e = by_line (line_of l) refl e
  where
    by_line : (o : Option Line) → line_of l ≡ o → place_of shift o ≡ Ok (Some at) → T (is_good l)
    by_line (Some x) p q = good_line l x p
    by_line None p q = absurd (let z : ◌≡◌ {A = ℕ} 0 1 = cc in omega arith)
