-- The UART steps are numbered from 0 in their order, and each is read back from its number.
use mathlib.Core.Path.{◌≡◌, refl}
use mathlib.Core.Bool.{◌&&◌}
use mathlib.Core.List.{map}
use Prim.Native.Nat.{ℕ, ◌%◌, ◌≤◌}
use native.Mathlib.Omega.{arith}
use lib.Dec.{T, eqb, leb, leb→le, eqb→eq}
use lib.ListN.{length}
use Rattle.words.specs.Lists.{count_from}
use Rattle.words.proofs.Tests.{both_left, both_right}
use Rattle.uart.specs.Steps.{step_no, steps, step_of, expects, before}
use Rattle.uart.specs.declared.Step.{Step}
use Rattle.uart.specs.declared.Step.TheVariants.{Idle, ReadAddress, JumpAddress, WriteAddress, CrcAddress, ReadLength, WriteLength, WriteData}
use Rattle.uart.specs.declared.Step.TheVariants.{EraseSelector, SpecialCheck, EraseList, ProtectLength, ProtectList, CrcCount}

pub in_order : map step_no steps ≡ count_from 0 (length steps)
in_order = refl

pub read_back : (s : Step) → step_of (step_no s) ≡ s
read_back Idle = refl
read_back ReadAddress = refl
read_back JumpAddress = refl
read_back WriteAddress = refl
read_back CrcAddress = refl
read_back ReadLength = refl
read_back WriteLength = refl
read_back WriteData = refl
read_back EraseSelector = refl
read_back SpecialCheck = refl
read_back EraseList = refl
read_back ProtectLength = refl
read_back ProtectList = refl
read_back CrcCount = refl

-- ---- what a step of some length may expect

-- X bytes and their checksum
pub counted : (e : ℕ) → T (leb 2 e && leb e 257) → (2 ≤ e) × (e ≤ 257)
counted e t = (leb→le 2 e (both_left (leb 2 e) (leb e 257) t), leb→le e 257 (both_right (leb 2 e) (leb e 257) t))

-- X two-byte numbers and their checksum
pub numbered : (e : ℕ) → T (leb 3 e && leb e 65 && eqb (e % 2) 1) → (3 ≤ e) × (e ≤ 65)
numbered e t =
    let u : T (leb 3 e && leb e 65) = both_left (leb 3 e && leb e 65) (eqb (e % 2) 1) t in
    (leb→le 3 e (both_left (leb 3 e) (leb e 65) u), leb→le e 65 (both_right (leb 3 e) (leb e 65) u))

-- no step expects more than there are staged bytes
pub at_most : (s : Step) (e : ℕ) → T (expects s e) → e ≤ 257
at_most Idle e t = omega (arith, eqb→eq e 2 t)
at_most ReadAddress e t = omega (arith, eqb→eq e 5 t)
at_most JumpAddress e t = omega (arith, eqb→eq e 5 t)
at_most WriteAddress e t = omega (arith, eqb→eq e 5 t)
at_most CrcAddress e t = omega (arith, eqb→eq e 5 t)
at_most ReadLength e t = omega (arith, eqb→eq e 2 t)
at_most WriteLength e t = omega (arith, eqb→eq e 1 t)
at_most WriteData e t = (counted e t).1
at_most EraseSelector e t = omega (arith, eqb→eq e 2 t)
at_most SpecialCheck e t = omega (arith, eqb→eq e 1 t)
at_most EraseList e t = omega (arith, (numbered e t).1)
at_most ProtectLength e t = omega (arith, eqb→eq e 1 t)
at_most ProtectList e t = (counted e t).1
at_most CrcCount e t = omega (arith, eqb→eq e 3 t)

-- no step comes behind more than eight bytes of its command
pub before_few : (s : Step) → before s ≤ 8
before_few Idle = omega arith
before_few ReadAddress = omega arith
before_few JumpAddress = omega arith
before_few WriteAddress = omega arith
before_few CrcAddress = omega arith
before_few ReadLength = omega arith
before_few WriteLength = omega arith
before_few WriteData = omega arith
before_few EraseSelector = omega arith
before_few SpecialCheck = omega arith
before_few EraseList = omega arith
before_few ProtectLength = omega arith
before_few ProtectList = omega arith
before_few CrcCount = omega arith
