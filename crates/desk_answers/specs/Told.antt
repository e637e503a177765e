-- What is printed, and what is then so. Assumes nothing.
use Rattle.std.specs.Prelude.{ℕ, List, [], ◌++◌}

-- a text that is printed, or notes that are taken, and what is so after it
pub record Told (A : Type 0) : Type 0 where
  pub text : List ℕ
  pub state : A

-- nothing is printed
abbrev pub quiet : {A : Type 0} → A → Told A
quiet a = record { text = []; state = a }

infixr 5 ◌then◌
-- one thing is told after another
abbrev pub ◌then◌ : {A B : Type 0} → Told A → (A → Told B) → Told B
t then f = record { text = t.text ++ (f t.state).text; state = (f t.state).state }
