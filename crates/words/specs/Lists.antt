-- Tests on lists, and lists taken apart and joined. Assumes nothing.
use Rattle.std.specs.Prelude.{ℕ, zero, suc, Bool, true, false, ◌&&◌, ◌||◌, List, [], ◌∷◌, ◌++◌, length, take, drop}
use Rattle.words.specs.Bytes.{number}

-- some element passes the test
abbrev pub any {ℓ} : {A : Type ℓ} → (A → Bool) → List A → Bool
any f [] = false
any f (x ∷ xs) = f x || any f xs

-- every element passes the test
abbrev pub all {ℓ} : {A : Type ℓ} → (A → Bool) → List A → Bool
all f [] = true
all f (x ∷ xs) = f x && all f xs

-- n numbers in order, from a on
abbrev pub count_from : ℕ → ℕ → List ℕ
count_from a zero = []
count_from a (suc n) = a ∷ count_from (suc a) n

-- n bytes from a place on
abbrev pub part : ℕ → ℕ → List ℕ → List ℕ
part at n l = take n (drop at l)

-- the two-byte numbers that a list writes, high byte first
abbrev pub pairs : List ℕ → List ℕ
pairs [] = []
pairs (h ∷ []) = []
pairs (h ∷ l ∷ bs) = number (h ∷ l ∷ []) ∷ pairs bs

-- each byte by itself
abbrev pub singly : List ℕ → List (List ℕ)
singly [] = []
singly (b ∷ bs) = (b ∷ []) ∷ singly bs

-- lists one behind the other
abbrev pub join : List (List ℕ) → List ℕ
join [] = []
join (l ∷ ls) = l ++ join ls

-- a list cut into pieces of n and a last with what remains, if any; at most f pieces
abbrev pub cut_up_to : ℕ → ℕ → List ℕ → List (List ℕ)
cut_up_to zero n l = []
cut_up_to (suc f) n [] = []
cut_up_to (suc f) n (x ∷ xs) = take n (x ∷ xs) ∷ cut_up_to f n (drop n (x ∷ xs))

-- a list cut into pieces of n and a last with what remains, if any
abbrev pub cut : ℕ → List ℕ → List (List ℕ)
cut n l = cut_up_to (length l) n l
