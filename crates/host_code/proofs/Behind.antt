-- The parts of a command are put one behind the other.
use mathlib.Core.Path.{◌≡◌, refl, ap, ◌∙◌}
use mathlib.Core.List.{List, [], ◌∷◌, ◌++◌, append-nil}
use Prim.Native.Nat.{ℕ, zero, suc, ◌+◌, ◌-◌, ◌*◌, ◌≤◌}
use native.Mathlib.Omega.{arith}
use lib.Bits.{xor_zero_l}
use lib.ListN.{length, take, drop, length-append}
use Rattle.words.specs.Bytes.{complement, xor_from, xor_all, two_bytes}
use Rattle.words.specs.Over.{put}
use Rattle.words.proofs.Over.{put_then, at_front}
use Rattle.board.specs.Quantities.{sector, sectors_from}
use Rattle.host.specs.Commands.{command_part, address_part, write_command, read_command, numbers_of, erase_command}
use Rattle.command.specs.declared.Command.TheVariants.{ReadMemory, WriteMemory, Erase}

-- a write is 9 bytes and the data
pub length-write : (a : ℕ) (bytes : List ℕ) → length (write_command a bytes) ≡ 8 + length bytes + 1
length-write a bytes = simp length-append (omega arith)

-- its head, its data and its checksum
pub write_in_parts : (m : List ℕ) (a n : ℕ) (bytes : List ℕ) → length bytes ≡ n
    → put (put (put m 0 (command_part WriteMemory ++ address_part a ++ (n - 1) ∷ [])) 8 bytes) (8 + n) (xor_from (n - 1) bytes ∷ []) ≡ put m 0 (write_command a bytes)
write_in_parts m a n bytes e =
    ap (λ (l : List ℕ). put l (8 + n) (xor_from (n - 1) bytes ∷ [])) (put_then m 0 8 (command_part WriteMemory ++ address_part a ++ (n - 1) ∷ []) bytes refl)
    ∙ put_then m 0 (8 + n) ((command_part WriteMemory ++ address_part a ++ (n - 1) ∷ []) ++ bytes) (xor_from (n - 1) bytes ∷ []) (simp length-append (omega arith))
    ∙ rw (e, xor_zero_l (n - 1), append-nil (bytes ++ xor_from (n - 1) bytes ∷ [])) refl

-- a read's head, and the complement behind it
pub read_in_parts : (m : List ℕ) (a n : ℕ)
    → put (put m 0 (command_part ReadMemory ++ address_part a ++ (n - 1) ∷ [])) 8 (complement (n - 1) ∷ []) ≡ put m 0 (read_command a n)
read_in_parts m a n = put_then m 0 8 (command_part ReadMemory ++ address_part a ++ (n - 1) ∷ []) (complement (n - 1) ∷ []) refl

-- ---- the numbers of sectors in order

-- two bytes each
pub length-numbers : (k n : ℕ) → length (numbers_of (sectors_from (sector k) n)) ≡ 2 * n
length-numbers k zero = refl
length-numbers k (suc n) = let h = length-numbers (suc k) n in omega arith

-- one more stands behind the others
pub numbers_then : (k n : ℕ) → numbers_of (sectors_from (sector k) (suc n)) ≡ numbers_of (sectors_from (sector k) n) ++ two_bytes (k + n)
numbers_then k zero = let e : k + 0 ≡ k = omega arith in rw e refl
numbers_then k (suc n) =
    let e : k + suc n ≡ suc k + n = omega arith in
    rw e (ap (λ (l : List ℕ). two_bytes k ++ l) (numbers_then (suc k) n))

-- so many sectors are so many
pub length-sectors : (k n : ℕ) → length (sectors_from (sector k) n) ≡ n
length-sectors k zero = refl
length-sectors k (suc n) = let h = length-sectors (suc k) n in omega arith

-- an erase is 5 bytes and the numbers
pub length_erase : (k x : ℕ) → length (erase_command (sectors_from (sector k) x)) ≡ 4 + 2 * x + 1
length_erase k x = let l = length-numbers k x in simp length-append (omega arith)

-- its command with how many numbers there are, the numbers, and the checksum
pub erase_in_parts : (m : List ℕ) (k x : ℕ)
    → put (put (put m 0 (command_part Erase ++ two_bytes (x - 1))) 4 (numbers_of (sectors_from (sector k) x))) (4 + 2 * x)
    (xor_all (two_bytes (x - 1) ++ numbers_of (sectors_from (sector k) x)) ∷ [])
    ≡ put m 0 (erase_command (sectors_from (sector k) x))
erase_in_parts m k x =
    let ns = numbers_of (sectors_from (sector k) x) in
    let c = xor_all (two_bytes (x - 1) ++ ns) in
    let l = length-numbers k x in
    ap (λ (l : List ℕ). put l (4 + 2 * x) (c ∷ [])) (put_then m 0 4 (command_part Erase ++ two_bytes (x - 1)) ns refl)
    ∙ put_then m 0 (4 + 2 * x) ((command_part Erase ++ two_bytes (x - 1)) ++ ns) (c ∷ []) (omega arith)
    ∙ rw (length-sectors k x, append-nil (ns ++ c ∷ [])) refl

-- what stands behind the first two bytes that were put
behind_two : (m : List ℕ) (a b : ℕ) (l : List ℕ) (n : ℕ) → length l ≡ n → 2 + n ≤ length m → take n (drop 2 (put m 0 (a ∷ b ∷ l))) ≡ l
behind_two [] a b l n e h = absurd (omega arith)
behind_two (x ∷ []) a b l n e h = absurd (omega arith)
behind_two (x ∷ y ∷ m) a b l n e h = at_front l m n e (omega arith)

-- the same, where the checksum is taken of what stands behind the two command bytes
pub erase_in_room : (m : List ℕ) (k d n : ℕ) → n ≡ 2 + 2 * (d + 1) → 4 + 2 * (d + 1) ≤ length m
    → (r : List ℕ) → r ≡ put (put m 0 (command_part Erase ++ two_bytes d)) 4 (numbers_of (sectors_from (sector k) (d + 1)))
    → put r (4 + 2 * (d + 1)) (xor_from 0 (take n (drop 2 r)) ∷ []) ≡ put m 0 (erase_command (sectors_from (sector k) (d + 1)))
erase_in_room m k d n e h r f =
    let ns = numbers_of (sectors_from (sector k) (d + 1)) in
    let l = length-numbers k (d + 1) in
    let g : r ≡ put m 0 ((command_part Erase ++ two_bytes d) ++ ns) = f ∙ put_then m 0 4 (command_part Erase ++ two_bytes d) ns refl in
    let t : take n (drop 2 r) ≡ two_bytes d ++ ns = rw g (behind_two m 68 187 (two_bytes d ++ ns) n (omega arith) (omega arith)) in
    let o : d + 1 - 1 ≡ d = omega arith in
    rw (t, f) (rw o at (erase_in_parts m k (d + 1)))
