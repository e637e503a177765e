-- Laws of lines and their fields: the kind by the length, the first field, and characters that are too few for one.
use mathlib.Core.Path.{◌≡◌, refl, sym, ap, subst, ◌∙◌}
use mathlib.Core.Bool.{Bool, true, false, ◌&&◌}
use mathlib.Core.List.{List, [], ◌∷◌, ◌++◌}
use Prim.Native.Nat.{ℕ, zero, suc, ◌*◌, ◌≤◌, ◌<◌}
use native.Mathlib.Nat.{not-suc-le-zero, le_of_suc-le-suc}
use native.Mathlib.Omega.{arith}
use lib.Dec.{T, eqb, leb, ltb, leb→le, eqb→eq}
use lib.ListN.{length, get_or, take, drop, length-drop}
use lib.Seq.{take-append_seam}
use borrow.Author.Tests.{eq-eqb, ne_eqb, lt-ltb, le-ltb}
use Rattle.std.specs.Prelude.{if◌then◌else◌}
use Rattle.words.specs.Over.{put}
use Rattle.words.proofs.Over.{put_front, put_all}
use Rattle.words.proofs.Tests.{both_left, both_right, holds_true}
use Rattle.frames.specs.Frames.{classic, frame_bytes, frame}
use Rattle.frames.proofs.Cutting.{length-frame}
use Rattle.words.specs.Hex.{space}
use Rattle.desk_lines.specs.Digits.{is_digit, byte_in}
use Rattle.desk_lines.specs.Lines.{letter_u, letter_p, letter_c, most_characters, is_field, are_fields, fields, are_frame, id_in, frame_written, kind_by, kind_of}
use Rattle.desk_lines.specs.declared.Kind.{Kind}
use Rattle.desk_lines.specs.declared.Kind.TheVariants.{Bytes, Frame, PowerOn, Other}

-- characters that are too few for a field are fields where there are none
pub short_fields : (l : List ℕ) (n : ℕ) → n ≡ length l → length l < 3 → eqb n 0 ≡ are_fields l
short_fields [] n e h = eq-eqb n 0 e
short_fields (a ∷ []) n e h = ne_eqb n 0 λ k. absurd (omega arith)
short_fields (a ∷ b ∷ []) n e h = ne_eqb n 0 λ k. absurd (omega arith)
short_fields (a ∷ b ∷ c ∷ l) n e h = absurd (not-suc-le-zero (le_of_suc-le-suc (le_of_suc-le-suc (le_of_suc-le-suc h))))

-- a field and what stands behind it
pub field_then : (f l : List ℕ) → length f ≡ 3 → are_fields (f ++ l) ≡ (are_fields f && are_fields l)
field_then (a ∷ b ∷ c ∷ []) l e = by_test (is_field a b c)
  where
    by_test : (t : Bool) → (t && are_fields l) ≡ (t && true && are_fields l)
    by_test true = refl
    by_test false = refl
field_then [] l e = absurd (omega arith)
field_then (a ∷ []) l e = absurd (omega arith)
field_then (a ∷ b ∷ []) l e = absurd (omega arith)
field_then (a ∷ b ∷ c ∷ d ∷ f) l e = absurd (omega arith)

-- a piece that is a field or none, and what stands behind it, are fields exactly where the whole is
pub field_told : (s f t whole : List ℕ) (good : Bool) → s ≡ f ++ t → length f ≡ 3 → good ≡ (eqb (length f) 3 && are_fields f)
    → are_fields s ≡ are_fields whole → (good && are_fields t) ≡ are_fields whole
field_told s f t whole good e n g h =
    ap (λ (b : Bool). b && are_fields t) (g ∙ rw (eq-eqb (length f) 3 n) refl)
    ∙ sym (ap are_fields e ∙ field_then f t n) ∙ h

-- fields that begin with a piece of a field's length: its two digits, the fields behind it, and the bytes that they write
pub record FieldFirst (s f t : List ℕ) : Type 0 where
  pub high : T (is_digit (get_or f 1 0))
  pub low : T (is_digit (get_or f 2 0))
  pub behind : T (are_fields t)
  pub byte : fields s ≡ byte_in (get_or f 1 0) (get_or f 2 0) ∷ fields t

pub field_first : (s f t : List ℕ) → s ≡ f ++ t → length f ≡ 3 → T (are_fields s) → FieldFirst s f t
field_first s (a ∷ b ∷ d ∷ []) t e n h =
    let u : T (is_field a b d && are_fields t) = rw e at h in
    let g = both_left (is_field a b d) (are_fields t) u in
    record {
      high = both_right (eqb a space) (is_digit b) (both_left (eqb a space && is_digit b) (is_digit d) g);
      low = both_right (eqb a space && is_digit b) (is_digit d) g;
      behind = both_right (is_field a b d) (are_fields t) u;
      byte = ap fields e;
    }
field_first s [] t e n h = absurd (omega arith)
field_first s (a ∷ []) t e n h = absurd (omega arith)
field_first s (a ∷ b ∷ []) t e n h = absurd (omega arith)
field_first s (a ∷ b ∷ d ∷ x ∷ f) t e n h = absurd (omega arith)

-- where too few characters for a field are left, no byte is
pub no_fields : (l : List ℕ) → T (are_fields l) → length l < 3 → fields l ≡ []
no_fields [] t h = refl
no_fields (a ∷ []) t h = refl
no_fields (a ∷ b ∷ []) t h = refl
no_fields (a ∷ b ∷ c ∷ l) t h = absurd (omega arith)

-- a byte takes a field's characters
pub length_fields : (l : List ℕ) → T (are_fields l) → length l ≡ 3 * length (fields l)
length_fields [] t = refl
length_fields (a ∷ []) t = absurd t
length_fields (a ∷ b ∷ []) t = absurd t
length_fields (a ∷ b ∷ c ∷ l) t = let e = length_fields l (both_right (is_field a b c) (are_fields l) t) in omega arith

-- an ID and data: their digits, and no more data than a frame carries
pub record FrameGood (l : List ℕ) : Type 0 where
  pub long : 4 ≤ length l
  pub first : get_or l 0 0 ≡ space
  pub high : T (is_digit (get_or l 1 0))
  pub middle : T (is_digit (get_or l 2 0))
  pub low : T (is_digit (get_or l 3 0))
  pub behind : T (are_fields (drop 4 l))
  pub fits : length l ≤ 28

pub frame_good : (l : List ℕ) → T (are_frame l) → FrameGood l
frame_good l t = record {
  long = leb→le 4 (length l) (both_left a b (both_left (a && b) c v));
  first = eqb→eq (get_or l 0 0) space (both_right a b (both_left (a && b) c v));
  high = both_right (a && b) c v;
  middle = both_right (a && b && c) d (both_left (a && b && c && d) e u);
  low = both_right (a && b && c && d) e u;
  behind = both_right (a && b && c && d && e) f w;
  fits = leb→le (length l) 28 (both_right (a && b && c && d && e && f) g t);
}
  where
    a : Bool
    a = leb 4 (length l)

    b : Bool
    b = eqb (get_or l 0 0) space

    c : Bool
    c = is_digit (get_or l 1 0)

    d : Bool
    d = is_digit (get_or l 2 0)

    e : Bool
    e = is_digit (get_or l 3 0)

    f : Bool
    f = are_fields (drop 4 l)

    g : Bool
    g = leb (length l) 28

    w : T (a && b && c && d && e && f)
    w = both_left (a && b && c && d && e && f) g t

    u : T (a && b && c && d && e)
    u = both_left (a && b && c && d && e) f w

    v : T (a && b && c)
    v = both_left (a && b && c) d (both_left (a && b && c && d) e u)

pub data_fits : (l : List ℕ) → FrameGood l → length (fields (drop 4 l)) ≤ 8
data_fits l g =
    let s = length_fields (drop 4 l) g.behind in
    let o = g.fits in
    let d = length-drop 4 l in
    omega arith

-- the bytes of the data and the ID make the frame that is written
pub frame_made : (l m lent : List ℕ) (n id : ℕ) → FrameGood l → length m ≡ frame_bytes classic → length lent ≡ 8
    → n ≡ length (fields (drop 4 l)) → id ≡ id_in l
    → put m 0 (frame classic id (take n (put lent 0 (fields (drop 4 l))))) ≡ frame_written l
frame_made l m lent n id h e k c i =
    let o = data_fits l h in
    let x = fields (drop 4 l) in
    let y = length-frame classic (id_in l) x (omega arith) in
    rw (c, put_front lent x (omega arith), take-append_seam x (drop (length x) lent), i) (put_all m (frame classic (id_in l) x) (omega arith))

-- a line of no character, of no more than the most, and of more
pub kind_empty : (line : List ℕ) → length line ≡ 0 → Other ≡ kind_of line
unfolding kind_of
kind_empty [] h = refl
kind_empty (c ∷ rest) h = absurd (omega arith)

pub kind_within : (line : List ℕ) → 0 < length line → length line ≤ 800 → kind_by (get_or line 0 0) (drop 1 line) ≡ kind_of line
unfolding kind_of
kind_within [] h k = absurd (not-suc-le-zero h)
kind_within (c ∷ rest) h k = rw (lt-ltb (length rest) 800 (omega arith)) refl

pub kind_beyond : (line : List ℕ) → 800 < length line → Other ≡ kind_of line
unfolding kind_of
kind_beyond [] h = refl
kind_beyond (c ∷ rest) h = rw (le-ltb (length rest) 800 (omega arith)) refl

-- what a line of a kind has behind its letter: hex bytes, a frame, or whatever else
asked : Kind → Bool → Bool → Bool
asked Bytes fields frame = fields
asked Frame fields frame = frame
asked PowerOn fields frame = true
asked Other fields frame = true

-- the kind by its tests: that of the length, of the letter and what follows it, for each kind
abbrev kind_where : Bool → Bool → Bool → Bool → Bool → Bool → Kind
kind_where short letter fields power other frame =
    if short then (if letter && fields then Bytes else if power then PowerOn else if other && frame then Frame else Other) else Other

asked_where : (short letter fields power other frame : Bool) → T (asked (kind_where short letter fields power other frame) fields frame)
unfolding asked
asked_where true true true power other frame = tt
asked_where true true false true other frame = tt
asked_where true true false false true true = tt
asked_where true true false false true false = tt
asked_where true true false false false frame = tt
asked_where true false fields true other frame = tt
asked_where true false fields false true true = tt
asked_where true false fields false true false = tt
asked_where true false fields false false frame = tt
asked_where false letter fields power other frame = tt

-- a line of bytes or of a frame has a letter, and these behind it
line_asked : (k : Kind) (line : List ℕ) → kind_of line ≡ k → (T (asked k false false) → ⊥)
    → (0 < length line) × T (asked k (are_fields (drop 1 line)) (are_frame (drop 1 line)))
unfolding kind_of asked
line_asked k [] e n = absurd (n (subst (λ (l : Kind). T (asked l false false)) e tt))
line_asked k (c ∷ rest) e n = (
  omega arith,
  subst (λ (l : Kind). T (asked l (are_fields rest) (are_frame rest))) e
      (asked_where (ltb (length rest) most_characters) (eqb c letter_u && ltb 0 (length rest)) (are_fields rest) (eqb c letter_p && eqb (length rest) 0) (eqb c letter_c) (are_frame rest)),
)

pub bytes_line : (line : List ℕ) → kind_of line ≡ Bytes → (0 < length line) × T (are_fields (drop 1 line))
unfolding asked
bytes_line line e = line_asked Bytes line e (λ t. t)

pub frame_line : (line : List ℕ) → kind_of line ≡ Frame → (0 < length line) × T (are_frame (drop 1 line))
unfolding asked
frame_line line e = line_asked Frame line e (λ t. t)

-- ---- hex bytes in two parts

-- the first k of them, and the others
pub record Parted (s : List ℕ) (k : ℕ) : Type 0 where
  pub front : T (are_fields (take (3 * k) s))
  pub back : T (are_fields (drop (3 * k) s))
  pub joined : fields s ≡ fields (take (3 * k) s) ++ fields (drop (3 * k) s)
  pub count : length (fields (take (3 * k) s)) ≡ k

pub parted : (k : ℕ) (s : List ℕ) → T (are_fields s) → 3 * k ≤ length s → Parted s k
parted zero s t h = record { front = tt; back = t; joined = refl; count = refl }
parted (suc k) [] t h = absurd (omega arith)
parted (suc k) (a ∷ []) t h = absurd t
parted (suc k) (a ∷ b ∷ []) t h = absurd t
parted (suc k) (a ∷ b ∷ d ∷ s) t h =
    let e : 3 * suc k ≡ suc (suc (suc (3 * k))) = omega arith in
    let f = is_field a b d in
    let p = parted k s (both_right f (are_fields s) t) (omega arith) in
    let g = both_left f (are_fields s) t in
    record {
      front = rw (e, holds_true f g) p.front;
      back = rw e p.back;
      joined = rw e (ap (λ (l : List ℕ). byte_in b d ∷ l) p.joined);
      count = rw e (ap suc p.count);
    }
