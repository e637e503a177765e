-- The CAN steps are numbered from 0 in their order, and each is read back from its number.
use mathlib.Core.Path.{◌≡◌, refl}
use mathlib.Core.Bool.{◌&&◌}
use mathlib.Core.List.{map}
use Prim.Native.Nat.{ℕ, ◌%◌, ◌≤◌}
use native.Mathlib.Omega.{arith}
use lib.Dec.{T, eqb, leb, leb→le, eqb→eq}
use lib.ListN.{length}
use Rattle.words.specs.Lists.{count_from}
use Rattle.words.proofs.Tests.{both_left, both_right}
use Rattle.can.specs.Steps.{step_no, steps, step_of, expects}
use Rattle.can.specs.declared.Step.{Step}
use Rattle.can.specs.declared.Step.TheVariants.{Idle, WriteData, EraseList, ProtectList}

pub in_order : map step_no steps ≡ count_from 0 (length steps)
in_order = refl

pub read_back : (s : Step) → step_of (step_no s) ≡ s
read_back Idle = refl
read_back WriteData = refl
read_back EraseList = refl
read_back ProtectList = refl

-- what a step that gathers expects of bytes, and of the bytes of numbers, lies between one and the most
pub counted : (e : ℕ) → T (leb 1 e && leb e 256) → (1 ≤ e) × (e ≤ 256)
counted e t = (leb→le 1 e (both_left (leb 1 e) (leb e 256) t), leb→le e 256 (both_right (leb 1 e) (leb e 256) t))

pub numbered : (e : ℕ) → T (leb 2 e && leb e 64 && eqb (e % 2) 0) → (2 ≤ e) × (e ≤ 64)
numbered e t =
    let u : T (leb 2 e && leb e 64) = both_left (leb 2 e && leb e 64) (eqb (e % 2) 0) t in
    (leb→le 2 e (both_left (leb 2 e) (leb e 64) u), leb→le e 64 (both_right (leb 2 e) (leb e 64) u))

-- no step expects more than there are staged bytes
pub at_most : (s : Step) (e : ℕ) → T (expects s e) → e ≤ 257
at_most Idle e t = omega (arith, eqb→eq e 1 t)
at_most WriteData e t = omega (arith, (counted e t).1)
at_most EraseList e t = omega (arith, (numbered e t).1)
at_most ProtectList e t = omega (arith, (counted e t).1)
