-- What is said, in the words of the definition: a file that is refused does not ask for a tally.
use mathlib.Core.Path.{◌≡◌, refl, ◌∙◌}
use mathlib.Core.Bool.{Bool}
use mathlib.Core.List.{List}
use Prim.Native.Nat.{ℕ}
use lib.IntN.{ℤ}
use Rattle.std.specs.Prelude.{Option, Result, Ok, Err, IfOk}
use Rattle.records.specs.Ends.{lines_of}
use Rattle.loading.specs.Loads.{untouched, all_touched, answer_to}
use Rattle.loading.specs.declared.Refused.{Refused}
use Rattle.image_says.specs.Tally.{tally_of}
use Rattle.image_says.specs.Messages.{message, line_in, is_short_at, message_to}
use Rattle.image_says.specs.declared.Tally.{Tally}

same_message : (name : List ℕ) (answer : Result (Unit {0}) Refused) (touched marks : List ℕ) (short : Bool) → IfOk answer (λ _. touched ≡ marks)
    → message name answer (tally_of touched) short ≡ message name answer (tally_of marks) short
unfolding message
same_message name (Ok u) touched marks short e = rw e refl
same_message name (Err r) touched marks short e = refl

pub whole_message : (name text touched : List ℕ) (shift : ℤ) (n : ℕ) (answer : Result (Unit {0}) Refused) (tally : Tally) (line : Option ℕ) (short : Bool)
    → answer ≡ answer_to shift text n → IfOk answer (λ _. touched ≡ all_touched shift (lines_of text) untouched) → tally ≡ tally_of touched
    → line ≡ line_in answer → short ≡ is_short_at line text → message name answer tally short ≡ message_to name shift text n
unfolding message_to
whole_message name text touched shift n answer tally line short a m t l s =
    let marks = all_touched shift (lines_of text) untouched in
    let e : message name answer (tally_of marks) short ≡ message_to name shift text n = rw (s, l, a) refl in
    let f : message name answer tally short ≡ message name answer (tally_of marks) short = rw t (same_message name answer touched marks short m) in
    f ∙ e
