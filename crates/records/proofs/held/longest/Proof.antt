-- A good line's length is given by its count, and a count is a byte: two digits below 16.
use mathlib.Core.Path.{sym, subst}
use mathlib.Core.Bool.{◌&&◌}
use mathlib.Core.List.{List, [], ◌∷◌}
use Prim.Native.Nat.{ℕ, ◌≤◌}
use native.Mathlib.Omega.{arith}
use lib.Dec.{T}
use lib.ListN.{get_or, drop}
use Rattle.words.proofs.Tests.{both_left, both_right}
use Rattle.records.specs.Digits.{is_digit, are_pairs, bytes_in}
use Rattle.records.specs.Rulings.{Longest}
use Rattle.records.proofs.Pairs.{value_bits}
use Rattle.records.proofs.Good.{good}
use Rattle.records.proofs.held.longest.Statement.{statement}
use Rattle.records.proofs.held.longest.Tie as tie

first_byte : (l : List ℕ) → T (are_pairs l) → get_or (bytes_in l) 0 0 ≤ 255
first_byte [] t = omega arith
first_byte (a ∷ []) t = absurd t
first_byte (a ∷ b ∷ l) t =
    let f = both_left (is_digit a && is_digit b) (are_pairs l) t in
    let h = value_bits a (both_left (is_digit a) (is_digit b) f) in
    let k = value_bits b (both_right (is_digit a) (is_digit b) f) in
    omega arith

longest : Longest
longest l e =
    let g = good l (subst T (sym e) tt) in
    let b = first_byte (drop 2 l) g.pairs in
    let n = g.long in
    omega arith

pub longest_spec : {M : Type 1} → statement M
longest_spec = tie.close (tie.spec (λ c. longest))
