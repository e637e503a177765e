-- The tables: what shifts make of a register is the XOR of what they make of its four bytes, and an entry is the XOR of those of its bits.
use mathlib.Core.Path.{◌≡◌, refl, sym, ap, ap₂, ◌∙◌}
use mathlib.Core.Bool.{Bool, true, false}
use mathlib.Core.List.{List}
use Prim.Native.Nat.{ℕ, suc, ◌+◌, ◌*◌, ◌-◌, ◌/◌, ◌%◌, ◌^◌, ◌≤◌, ◌<◌}
use native.Mathlib.Nat.{add_comm, mul_comm, pow-suc}
use native.Mathlib.Omega.{arith}
use lib.Bits.{bit_xor, xor_comm, xor_shifted, xor_block}
use lib.Dec.{ltb}
use lib.ListN.{length, get_or, set, length-set}
use lib.Seq.{get_or-set_same, get_or-set_other}
use lib.Pow.{pow_mono}
use borrow.Author.Tests.{ltb-true, ltb-false}
use Rattle.crc.specs.Crc.{shifted, shifted_by}
use Rattle.word_crc.proofs.Linear.{linear_by, only_up, shifted_then, peeled}
use Rattle.word_crc.specs.Words.{word_fed}
use Rattle.word_crc.specs.Tables.{table_size, table_count, Entries, Tables, Doubled, Filled}
use Rattle.word_crc.proofs.Words.{word_fed_lt}

-- ---- a register by its bytes

-- two words: the shifts of the second are also the first's
pub two_in : (r v w : ℕ) → r < 2 ^ 32 → v < 2 ^ 32 → w < 2 ^ 32
    → word_fed (word_fed r v) w ≡ bit_xor (shifted_by 64 (bit_xor r v)) (shifted_by 32 w)
unfolding word_fed
two_in r v w h k l =
    linear_by 32 (shifted_by 32 (bit_xor r v)) w (word_fed_lt r v h k) l
    ∙ ap (λ (x : ℕ). bit_xor x (shifted_by 32 w)) (shifted_then 32 32 (bit_xor r v))

-- what shifts make of a register's four bytes
in_four : (m x : ℕ) → x < 2 ^ 32
    → shifted_by (m + 32) x ≡ bit_xor (shifted_by (m + 32) (x / 2 ^ 24 * 2 ^ 24)) (bit_xor (shifted_by (m + 24) (x / 2 ^ 16 % 256 * 2 ^ 24))
    (bit_xor (shifted_by (m + 16) (x / 2 ^ 8 % 256 * 2 ^ 24)) (shifted_by (m + 8) (x % 256 * 2 ^ 24))))
in_four m x h =
    let y = x * 2 ^ 8 % 2 ^ 32 in
    let z = y * 2 ^ 8 % 2 ^ 32 in
    let a : y / 2 ^ 24 * 2 ^ 24 ≡ x / 2 ^ 16 % 256 * 2 ^ 24 = omega arith in
    let b : z / 2 ^ 24 * 2 ^ 24 ≡ x / 2 ^ 8 % 256 * 2 ^ 24 = omega arith in
    let c : z * 2 ^ 8 % 2 ^ 32 ≡ x % 256 * 2 ^ 24 = omega arith in
    peeled (m + 32) (m + 24) x (omega arith) h
    ∙ ap (λ (r : ℕ). bit_xor (shifted_by (m + 32) (x / 2 ^ 24 * 2 ^ 24)) r) (peeled (m + 24) (m + 16) y (omega arith) (omega arith)
    ∙ ap₂ (λ (r s : ℕ). bit_xor (shifted_by (m + 24) r) s) a (peeled (m + 16) (m + 8) z (omega arith) (omega arith)
    ∙ ap₂ (λ (r s : ℕ). bit_xor (shifted_by (m + 16) r) (shifted_by (m + 8) s)) b c))

-- each of them has an entry
pub by_entries : (t : List ℕ) → Tables t → (m x : ℕ) → m + 4 ≤ 8 → x < 2 ^ 32
    → bit_xor (get_or t ((m + 3) * 256 + x / 2 ^ 24) 0) (bit_xor (get_or t ((m + 2) * 256 + x / 2 ^ 16 % 256) 0)
    (bit_xor (get_or t ((m + 1) * 256 + x / 2 ^ 8 % 256) 0) (get_or t (m * 256 + x % 256) 0))) ≡ shifted_by (m * 8 + 32) x
by_entries t ts m x h l =
    ap₂ bit_xor (entry (m + 3) (m * 8 + 32) (x / 2 ^ 24) (omega arith) (omega arith) (omega arith))
    (ap₂ bit_xor (entry (m + 2) (m * 8 + 24) (x / 2 ^ 16 % 256) (omega arith) (omega arith) (omega arith))
    (ap₂ bit_xor (entry (m + 1) (m * 8 + 16) (x / 2 ^ 8 % 256) (omega arith) (omega arith) (omega arith))
    (entry m (m * 8 + 8) (x % 256) (omega arith) (omega arith) (omega arith)))) ∙ sym (in_four (m * 8) x l)
  where
    entry : (k n b : ℕ) → k < 8 → k * 8 + 8 ≡ n → b < 256 → get_or t (k * 256 + b) 0 ≡ shifted_by n (b * 2 ^ 24)
    entry k n b s e f = ts.entries k s b f ∙ ap (λ (q : ℕ). shifted_by q (b * 2 ^ 24)) e

-- ---- a table by its bytes' bits

-- a byte's bit is a power of two that fits
pub bit_fits : (k : ℕ) → k < 8 → 2 ^ k ≤ 2 ^ 7
bit_fits k h = pow_mono {i = k} {j = 7} (omega arith)

-- what shifts make of a byte's bit k, where they make first of the byte 1
pub of_bit : (k n : ℕ) → k < 8 → (first : ℕ) → first ≡ shifted_by n (2 ^ 24) → shifted_by k first ≡ shifted_by n (2 ^ k * 2 ^ 24)
of_bit k n h first e =
    let f = bit_fits k h in
    let u : shifted_by k (2 ^ 24) ≡ 2 ^ k * 2 ^ 24 = only_up k (2 ^ 24) (omega arith) ∙ mul_comm (2 ^ 24) (2 ^ k) in
    ap (λ (x : ℕ). shifted_by k x) e ∙ shifted_then k n (2 ^ 24) ∙ ap (λ (x : ℕ). shifted_by x (2 ^ 24)) (add_comm k n)
    ∙ sym (shifted_then n k (2 ^ 24)) ∙ ap (λ (x : ℕ). shifted_by n x) u

-- an entry with a bit more is that of its byte with the bit more
with_bit : (k n j : ℕ) → k < 8 → j < 2 ^ k → bit_xor (shifted_by n (j * 2 ^ 24)) (shifted_by n (2 ^ k * 2 ^ 24)) ≡ shifted_by n ((2 ^ k + j) * 2 ^ 24)
with_bit k n j h l =
    let f = bit_fits k h in
    let one : 1 * 2 ^ k ≡ 2 ^ k = omega arith in
    let x : bit_xor j (2 ^ k) ≡ 2 ^ k + j = xor_comm j (2 ^ k) ∙ rw one at (xor_shifted 1 k j l) in
    let a : j * 2 ^ 24 + 0 ≡ j * 2 ^ 24 = omega arith in
    let b : 2 ^ k * 2 ^ 24 + 0 ≡ 2 ^ k * 2 ^ 24 = omega arith in
    let y = rw (a, b) at (xor_block 24 j (2 ^ k) 0 0 (omega arith) (omega arith)) in
    sym (linear_by n (j * 2 ^ 24) (2 ^ k * 2 ^ 24) (omega arith) (omega arith)) ∙ ap (λ (r : ℕ). shifted_by n r) (omega (arith, x, y))

-- so doubling goes from the bytes of k bits to those of one more
pub more_entries : (at k n bit : ℕ) (t u : List ℕ) → k < 8 → bit ≡ shifted_by n (2 ^ k * 2 ^ 24)
    → Doubled at (2 ^ k) (2 ^ k) bit t u → Entries n at (2 ^ k) t → Entries n at (2 ^ k + 2 ^ k) u
more_entries at k n bit t u h e d s b l = by_test (ltb b (2 ^ k)) refl
  where
    by_test : (c : Bool) → ltb b (2 ^ k) ≡ c → get_or u (at + b) 0 ≡ shifted_by n (b * 2 ^ 24)
    by_test true q =
        let m = ltb-true b (2 ^ k) q in
        d.before (at + b) (omega arith) ∙ s b m
    by_test false q =
        let m = ltb-false b (2 ^ k) q in
        let j = b - 2 ^ k in
        let p : at + 2 ^ k + j ≡ at + b = omega arith in
        let r : 2 ^ k + j ≡ b = omega arith in
        ap (λ (i : ℕ). get_or u i 0) (sym p) ∙ d.behind j (omega arith) ∙ ap₂ bit_xor (s j (omega arith)) e
        ∙ with_bit k n j h (omega arith) ∙ ap (λ (i : ℕ). shifted_by n (i * 2 ^ 24)) r

-- a turn lays one entry more
pub one_more : (at n i bit : ℕ) (t u : List ℕ) → i < n → at + n + i < length u → Doubled at n i bit t u
    → Doubled at n (i + 1) bit t (set u (at + n + i) (bit_xor (get_or u (at + i) 0) bit))
one_more at n i bit t u h l d = record {
  size = length-set u (at + n + i) v ∙ d.size;
  before = λ j k. get_or-set_other u (at + n + i) j v 0 (λ e. omega arith) ∙ d.before j k;
  behind = λ j k. by_test j k (ltb j i) refl;
}
  where
    v : ℕ
    v = bit_xor (get_or u (at + i) 0) bit

    by_test : (j : ℕ) → j < i + 1 → (b : Bool) → ltb j i ≡ b → get_or (set u (at + n + i) v) (at + n + j) 0 ≡ bit_xor (get_or t (at + j) 0) bit
    by_test j k true q =
        let m = ltb-true j i q in
        get_or-set_other u (at + n + i) (at + n + j) v 0 (λ e. omega arith) ∙ d.behind j m
    by_test j k false q =
        let e : j ≡ i = omega (arith, ltb-false j i q) in
        rw e (get_or-set_same u (at + n + i) v 0 l ∙ ap (λ (x : ℕ). bit_xor x bit) (d.before (at + i) (omega arith)))

-- ---- a table that grows bit by bit

-- the table at a place with the bytes of k bits in it, the place behind them, and what the shifts make of the next bit
pub record Growing (at first k : ℕ) (t u : List ℕ) (bit n : ℕ) : Type 0 where
  pub size : length u ≡ length t
  pub before : (i : ℕ) → i < at → get_or u i 0 ≡ get_or t i 0
  pub power : n ≡ 2 ^ k
  pub next : bit ≡ shifted_by k first
  pub entries : (m : ℕ) → first ≡ shifted_by m (2 ^ 24) → Entries m at (2 ^ k) u

-- before its bits a table has the entry of the byte 0
pub no_bit : (at first : ℕ) (t : List ℕ) → at < length t → Growing at first 0 (set t at 0) (set t at 0) first 1
no_bit at first t h = record {
  size = refl;
  before = λ i l. refl;
  power = refl;
  next = refl;
  entries = λ m e b l. zero_entry m b (omega arith);
}
  where
    zero_entry : (m b : ℕ) → b ≡ 0 → get_or (set t at 0) (at + b) 0 ≡ shifted_by m (b * 2 ^ 24)
    zero_entry m b e =
        let a : at + 0 ≡ at = omega arith in
        let z : 0 * 2 ^ m ≡ 0 = omega arith in
        rw (e, a, get_or-set_same t at 0 0 h) (sym (only_up m 0 (omega arith) ∙ z))

-- a turn doubles the entries
pub bit_more : (at first k : ℕ) (t u v : List ℕ) (bit n : ℕ) → k < 8 → Growing at first k t u bit n → Doubled at n n bit u v
    → Growing at first (k + 1) t v (shifted bit) (n + n)
bit_more at first k t u v bit n h g d =
    let one : 1 + k ≡ k + 1 = omega arith in
    let up : suc k ≡ k + 1 = omega arith in
    let e : 2 ^ (k + 1) ≡ 2 ^ k + 2 ^ k = ap (λ (j : ℕ). 2 ^ j) (sym up) ∙ omega (arith, pow-suc 2 k) in record {
      size = d.size ∙ g.size;
      before = λ i l. d.before i (omega arith) ∙ g.before i l;
      power = omega (arith, g.power, e);
      next = ap shifted g.next ∙ shifted_then 1 k first ∙ ap (λ (j : ℕ). shifted_by j first) one;
      entries = λ m f. rw e (more_entries at k m bit u v h (g.next ∙ of_bit k m h first f) (rw g.power at d) (g.entries m f));
    }

-- with its eight bits a table is full
pub all_bits : (at first : ℕ) (t u : List ℕ) (bit n : ℕ) → Growing at first 8 (set t at 0) u bit n → Filled at first t u
all_bits at first t u bit n g = record {
  size = g.size ∙ length-set t at 0;
  before = λ i l. g.before i l ∙ get_or-set_other t at i 0 0 (λ e. omega arith);
  entries = g.entries;
}

-- ---- table behind table

-- the first m tables, and the next one's entry for the byte 1
pub record Begun (m : ℕ) (t : List ℕ) (first : ℕ) : Type 0 where
  pub size : length t ≡ table_count * table_size
  pub next : first ≡ shifted_by (m * 8 + 8) (2 ^ 24)
  pub entries : (k : ℕ) → k < m → Entries (k * 8 + 8) (k * table_size) table_size t

-- a turn fills one table more
pub table_more : (m : ℕ) (t u : List ℕ) (first : ℕ) → Begun m t first → Filled (m * 256) first t u → Begun (m + 1) u (shifted_by 8 first)
table_more m t u first g f =
    let e : 8 + (m * 8 + 8) ≡ (m + 1) * 8 + 8 = omega arith in record {
      size = f.size ∙ g.size;
      next = ap (λ (x : ℕ). shifted_by 8 x) g.next ∙ shifted_then 8 (m * 8 + 8) (2 ^ 24) ∙ ap (λ (n : ℕ). shifted_by n (2 ^ 24)) e;
      entries = λ k l. by_test k l (ltb k m) refl;
    }
  where
    by_test : (k : ℕ) → k < m + 1 → (b : Bool) → ltb k m ≡ b → Entries (k * 8 + 8) (k * 256) 256 u
    by_test k l true q =
        let h = ltb-true k m q in
        λ b s. f.before (k * 256 + b) (omega arith) ∙ g.entries k h b s
    by_test k l false q =
        let e : k ≡ m = omega (arith, ltb-false k m q) in
        rw e (f.entries (m * 8 + 8) g.next)
