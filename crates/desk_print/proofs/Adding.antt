-- Texts that are added one behind the other.
use mathlib.Core.Path.{sym, ◌∙◌}
use mathlib.Core.List.{List, [], ◌++◌}
use Prim.Native.Nat.{ℕ}
use native.Mathlib.Omega.{arith}
use lib.ListN.{length-append}
use Rattle.words.specs.Over.{newer}
use Rattle.words.proofs.Over.{over_none, put_then}
use Rattle.desk_print.specs.Adds.{Adds}

-- one text and another behind it
pub then : {m m' m'' : List ℕ} {at e f : ℕ} {a b : List ℕ} → Adds m at e m' a → Adds m' e f m'' b → Adds m at f m'' (a ++ b)
then {m} {m'} {m''} {at} {e} {f} {a} {b} p q =
    let h = length-append a b in
    record {
      ends = omega (arith, p.ends, q.ends);
      written = q.written ∙ rw p.written (put_then m at e a b p.ends);
    }

-- no text
pub nothing : (m : List ℕ) (at : ℕ) → Adds m at at m []
nothing m at = record { ends = omega arith; written = sym (over_none newer m at) }
