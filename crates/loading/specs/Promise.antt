-- What a call of `load` promises, and that the promise leaves nothing open: document 02, Wish 1.
use Rattle.std.specs.Prelude.{◌≡◌, List, ℕ, ℤ, length, Result}
use Rattle.loading.specs.Loads.{answer_to, image_after}
use Rattle.loading.specs.declared.Refused.{Refused}

-- a call, given a shift, a text and an image, hands back an answer and leaves the image as these bytes
pub record Loads (shift : ℤ) (text image : List ℕ) (r : Result (Unit {0}) Refused) (after : List ℕ) : Type 0 where
  pub answer : r ≡ answer_to shift text (length image)
  pub left : after ≡ image_after shift text image

-- two outcomes that both keep the promise are equal: cause, line, and every byte of the image
abbrev pub Determined : Type 0
Determined = (shift : ℤ) (text image : List ℕ) (r s : Result (Unit {0}) Refused) (a b : List ℕ)
    → Loads shift text image r a → Loads shift text image s b → (r ≡ s) × (a ≡ b)
