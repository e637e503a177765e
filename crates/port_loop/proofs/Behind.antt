-- What front after front has heard is the bytes up to a place, and what was said to them stands one behind the other.
use mathlib.Core.Path.{◌≡◌, refl, sym, ap, subst, ◌∙◌}
use mathlib.Core.Bool.{Bool}
use mathlib.Core.List.{List, [], ◌++◌}
use Prim.Native.Nat.{ℕ, ◌+◌, ◌≤◌}
use native.Mathlib.Omega.{arith}
use lib.ListN.{length, take, drop, length-append}
use lib.Seq.{take-take, take-add, take-length}
use Rattle.words.specs.Over.{put, newer}
use Rattle.words.proofs.Over.{over_none, put_then}
use Rattle.boot.specs.Calls.{State, run}
use Rattle.port_loop.specs.Port.{said_all, Hears}
use Rattle.port_loop.proofs.Speaking.{Spoken, speaks, behind, parts}
use Rattle.port_loop.proofs.Windows.{window}

-- before the first byte
pub nothing_heard : (st : Bool) (p : State) (out : List ℕ) → Hears st [] p out 0 out p
unfolding said_all run
nothing_heard st p out = record { end = refl; text = sym (over_none newer out 0); state = refl }

-- some bytes behind others, which are said what is to be said to them in a part of the room
module _ {st : Bool} {p q r : State} {lent out new : List ℕ} {end : ℕ} (a b : List ℕ) (size : ℕ) {count : ℕ}
    (first : Hears st a p lent end out q) (next : Hears st b q (take size (drop end out)) count new r) (fits : count ≤ size) where
  both : speaks st (a ++ b) p ≡ record { text = said_all st a p ++ said_all st b q; state = r }
  both =
      parts st a b p
      ∙ ap (λ (x : State). behind (said_all st a p) (speaks st b x)) (sym first.state)
      ∙ ap (λ (x : State). record { text = said_all st a p ++ said_all st b q; state = x }) (sym next.state)

  abbrev text : said_all st (a ++ b) p ≡ said_all st a p ++ said_all st b q
  text = ap (λ (x : Spoken). x.text) both

  both_heard : Hears st (a ++ b) p lent (end + count) (take end out ++ (new ++ drop size (drop end out))) r
  both_heard =
      let l = length-append (said_all st a p) (said_all st b q) in
      let t : end + count ≡ length (said_all st a p ++ said_all st b q) = omega (arith, l, first.end, next.end) in
      record {
        end = t ∙ ap length (sym text);
        text =
            ap (λ (x : List ℕ). take end out ++ (x ++ drop size (drop end out))) next.text
            ∙ window out end size (said_all st b q) (omega (arith, fits, next.end))
            ∙ ap (λ (x : List ℕ). put x end (said_all st b q)) first.text
            ∙ put_then lent 0 end (said_all st a p) (said_all st b q) (omega (arith, first.end))
            ∙ ap (put lent 0) (sym text);
        state = sym (ap (λ (x : Spoken). x.state) both);
      }

-- the bytes up to a place, and some behind them
pub more_heard : {st : Bool} {p q r : State} {lent out new : List ℕ} {end count : ℕ} (bytes : List ℕ) (i k j size : ℕ) → k ≤ j → count ≤ size
    → Hears st (take i bytes) p lent end out q → Hears st (take k (take j (drop i bytes))) q (take size (drop end out)) count new r
    → Hears st (take (i + k) bytes) p lent (end + count) (take end out ++ (new ++ drop size (drop end out))) r
more_heard {st} {p} {r = r} {lent} {out} {new} {end} {count} bytes i k j size h fits first next =
    let e = ap (λ (x : List ℕ). take i bytes ++ x) (take-take k j (drop i bytes) h) ∙ sym (take-add i k bytes) in
    subst (λ (l : List ℕ). Hears st l p lent (end + count) (take end out ++ (new ++ drop size (drop end out))) r) e
    (both_heard (take i bytes) (take k (take j (drop i bytes))) size first next fits)

-- all bytes
pub all_heard : {st : Bool} {p q : State} {lent out : List ℕ} {end : ℕ} (bytes : List ℕ) (i : ℕ) → i ≡ length bytes
    → Hears st (take i bytes) p lent end out q → Hears st bytes p lent end out q
all_heard {st} {p} {q} {lent} {out} {end} bytes i e h =
    subst (λ (l : List ℕ). Hears st l p lent end out q) (ap (λ (k : ℕ). take k bytes) e ∙ take-length bytes) h
