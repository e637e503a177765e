-- Hex bytes at the front of a text, one more at a time, and the line that they and an ID make.
use mathlib.Core.Path.{◌≡◌, refl, sym, ap, subst, ◌∙◌}
use mathlib.Core.Bool.{true, ◌&&◌}
use mathlib.Core.List.{List, [], ◌∷◌, ◌++◌}
use Prim.Native.Nat.{ℕ, zero, suc, ◌+◌, ◌-◌, ◌≤◌, ◌<◌}
use native.Mathlib.Omega.{arith}
use lib.Dec.{T, eqb, leb, eqb→eq, leb→le}
use lib.ListN.{length, get_or, take, drop, length-take, length-drop, length-append}
use lib.Seq.{length-take-le, split_at, take-add, take-append_seam, drop-append_seam, drop-drop}
use borrow.Author.Tests.{eq-eqb, ne_eqb, le-leb, lt-ltb}
use Rattle.words.proofs.Tests.{both_left, both_right, holds_true}
use Rattle.words.specs.Hex.{space}
use Rattle.desk_lines.specs.Digits.{is_digit}
use Rattle.desk_lines.specs.Lines.{line_feed, letter_c, is_field, are_fields, are_frame, kind_of}
use Rattle.desk_lines.specs.declared.Kind.TheVariants.{Frame}
use Rattle.desk_lines.proofs.Lines.{frame_good}
use Rattle.desk_written.specs.First.{endless, behind_letter, FrameFirst}

-- fields, one behind the other, are fields
fields_then : (a b : List ℕ) → T (are_fields a) → T (are_fields b) → T (are_fields (a ++ b))
fields_then [] b t u = u
fields_then (x ∷ []) b t u = absurd t
fields_then (x ∷ y ∷ []) b t u = absurd t
fields_then (x ∷ y ∷ z ∷ a) b t u =
    rw (holds_true (is_field x y z) (both_left (is_field x y z) (are_fields a) t)) (fields_then a b (both_right (is_field x y z) (are_fields a) t) u)

-- a piece behind fields that is a field makes fields
pub one_field_more : (s : List ℕ) (k : ℕ) (f t : List ℕ) → drop k s ≡ f ++ t → length f ≡ 3 → k ≤ length s → T (are_fields (take k s))
    → true ≡ (eqb (length f) 3 && are_fields f) → (k + 3 ≤ length s) × (t ≡ drop (k + 3) s) × T (are_fields (take (k + 3) s))
one_field_more s k f t e n h u g =
    let l : length (drop k s) ≡ length f + length t = ap length e ∙ length-append f t in
    let d = length-drop k s in
    let good : T (are_fields f) = subst T (g ∙ rw (eq-eqb (length f) 3 n) refl) tt in
    let front : take 3 (drop k s) ≡ f = ap (λ (m : ℕ). take m (drop k s)) (sym n) ∙ ap (λ (x : List ℕ). take (length f) x) e ∙ take-append_seam f t in
    let others : drop 3 (drop k s) ≡ t = ap (λ (m : ℕ). drop m (drop k s)) (sym n) ∙ ap (λ (x : List ℕ). drop (length f) x) e ∙ drop-append_seam f t in (
      omega arith,
      sym others ∙ drop-drop 3 k s,
      rw (take-add k 3 s, front) (fields_then (take k s) f u good),
    )

-- a letter, an ID, hex bytes and LF that pass their tests are the line of a frame
pub frame_at : (text : List ℕ) (r end : ℕ) → end ≡ 5 + r → end < length text → T (are_fields (take r (drop 5 text)))
    → T (eqb (get_or text 0 0) letter_c && eqb (get_or text 1 0) space && (is_digit (get_or text 2 0) && is_digit (get_or text 3 0) && is_digit (get_or text 4 0)) && eqb (get_or text end 0) line_feed && leb end 29)
    → FrameFirst text end
frame_at (a ∷ b ∷ c ∷ d ∷ e ∷ s) r end h k t g =
    let head = eqb a letter_c && eqb b space in
    let id = is_digit c && is_digit d && is_digit e in
    let feed = eqb (get_or (a ∷ b ∷ c ∷ d ∷ e ∷ s) end 0) line_feed in
    let long = both_right (head && id && feed) (leb end 29) g in
    let f = both_left (head && id && feed) (leb end 29) g in
    let hi = both_left (head && id) feed f in
    let q = both_left head id hi in
    let one : end - 1 ≡ suc (suc (suc (suc r))) = omega arith in
    let l = length-take-le r s (omega arith) in
    let p = leb→le end 29 long in
    record {
      within = k;
      ends = eqb→eq (get_or (a ∷ b ∷ c ∷ d ∷ e ∷ s) end 0) line_feed (both_right (head && id) feed f);
      letter = eqb→eq a letter_c (both_left (eqb a letter_c) (eqb b space) q);
      frame = rw (
        one,
        le-leb 4 (suc (suc (suc (suc (length (take r s)))))) (omega arith),
        holds_true (eqb b space) (both_right (eqb a letter_c) (eqb b space) q),
        holds_true (is_digit c) (both_left (is_digit c) (is_digit d) (both_left (is_digit c && is_digit d) (is_digit e) (both_right head id hi))),
        holds_true (is_digit d) (both_right (is_digit c) (is_digit d) (both_left (is_digit c && is_digit d) (is_digit e) (both_right head id hi))),
        holds_true (is_digit e) (both_right (is_digit c && is_digit d) (is_digit e) (both_right head id hi)),
        holds_true (are_fields (take r s)) t,
        le-leb (suc (suc (suc (suc (length (take r s)))))) 28 (omega arith),
      ) tt;
    }
frame_at (a ∷ b ∷ c ∷ d ∷ []) r end h k t g = absurd (omega arith)
frame_at (a ∷ b ∷ c ∷ []) r end h k t g = absurd (omega arith)
frame_at (a ∷ b ∷ []) r end h k t g = absurd (omega arith)
frame_at (a ∷ []) r end h k t g = absurd (omega arith)
frame_at [] r end h k t g = absurd (omega arith)

-- ---- what the first line of a text is, where it writes a frame

digit_endless : (c : ℕ) (l : List ℕ) → T (is_digit c) → T (endless l) → T (endless (c ∷ l))
digit_endless c l d t = rw (ne_eqb c line_feed (λ e. subst (λ (x : ℕ). T (is_digit x)) e d)) t

fields_endless : (l : List ℕ) → T (are_fields l) → T (endless l)
fields_endless [] t = tt
fields_endless (a ∷ []) t = absurd t
fields_endless (a ∷ b ∷ []) t = absurd t
fields_endless (a ∷ b ∷ d ∷ l) t =
    let f = both_left (is_field a b d) (are_fields l) t in
    let s = eqb→eq a space (both_left (eqb a space) (is_digit b) (both_left (eqb a space && is_digit b) (is_digit d) f)) in
    rw s (digit_endless b (d ∷ l) (both_right (eqb a space) (is_digit b) (both_left (eqb a space && is_digit b) (is_digit d) f))
    (digit_endless d l (both_right (eqb a space && is_digit b) (is_digit d) f) (fields_endless l (both_right (is_field a b d) (are_fields l) t))))

frame_endless : (l : List ℕ) → T (are_frame l) → T (endless l)
frame_endless (a ∷ b ∷ c ∷ d ∷ l) t =
    let g = frame_good (a ∷ b ∷ c ∷ d ∷ l) t in
    rw g.first (digit_endless b (c ∷ d ∷ l) g.high (digit_endless c (d ∷ l) g.middle (digit_endless d l g.low (fields_endless l g.behind))))
frame_endless (a ∷ b ∷ c ∷ []) t = absurd (let h = (frame_good (a ∷ b ∷ c ∷ []) t).long in omega arith)
frame_endless (a ∷ b ∷ []) t = absurd (let h = (frame_good (a ∷ b ∷ []) t).long in omega arith)
frame_endless (a ∷ []) t = absurd (let h = (frame_good (a ∷ []) t).long in omega arith)
frame_endless [] t = absurd (let h = (frame_good [] t).long in omega arith)

-- the line, what it is and what it has behind its letter
pub record FirstLine (text : List ℕ) (n : ℕ) : Type 0 where
  pub kind : kind_of (take n text) ≡ Frame
  pub behind : drop 1 (take n text) ≡ behind_letter n text
  pub plain : T (endless (take n text))
  pub short : n ≤ 29
  pub parts : text ≡ take n text ++ line_feed ∷ drop (n + 1) text

pub first_line : (text : List ℕ) (n : ℕ) → FrameFirst text n → FirstLine text n
unfolding kind_of
first_line [] n f = absurd (let w = f.within in omega arith)
first_line (c ∷ s) zero f = absurd (let h = (frame_good (behind_letter zero (c ∷ s)) f.frame).long in omega arith)
first_line (c ∷ s) (suc m) f =
    let e : suc m - 1 ≡ m = omega arith in
    let t : T (are_frame (take m s)) = rw e at f.frame in
    let g = frame_good (take m s) t in
    let l = length-take-le m s (let w = f.within in omega arith) in
    let p = g.fits in
    let w = f.within in
    let next : suc (suc m) ≡ suc m + 1 = omega arith in
    record {
      kind = rw (lt-ltb (length (take m s)) 800 (omega arith), f.letter, holds_true (are_frame (take m s)) t) refl;
      behind = rw e refl;
      plain = rw f.letter (frame_endless (take m s) t);
      short = omega arith;
      parts = split_at (c ∷ s) (suc m) 0 w
          ∙ ap (λ (x : ℕ). take (suc m) (c ∷ s) ++ x ∷ drop (suc (suc m)) (c ∷ s)) f.ends
          ∙ ap (λ (k : ℕ). take (suc m) (c ∷ s) ++ line_feed ∷ drop k (c ∷ s)) next;
    }

-- the characters of its data
front_dropped : (t : List ℕ) (k : ℕ) → 5 ≤ length t → drop 4 (take (suc (suc (suc (suc k)))) (drop 1 t)) ≡ take k (drop 5 t)
front_dropped (a ∷ b ∷ c ∷ d ∷ e ∷ s) k h = refl
front_dropped (a ∷ b ∷ c ∷ d ∷ []) k h = absurd (omega arith)
front_dropped (a ∷ b ∷ c ∷ []) k h = absurd (omega arith)
front_dropped (a ∷ b ∷ []) k h = absurd (omega arith)
front_dropped (a ∷ []) k h = absurd (omega arith)
front_dropped [] k h = absurd (omega arith)

pub first_long : (text : List ℕ) (n : ℕ) → FrameFirst text n → 5 ≤ n
first_long text n f =
    let h = (frame_good (behind_letter n text) f.frame).long in
    let t = length-take (n - 1) (drop 1 text) in
    omega arith

pub data_part_lem : (text : List ℕ) (n : ℕ) → FrameFirst text n → drop 4 (behind_letter n text) ≡ take (n - 5) (drop 5 text)
data_part_lem text n f =
    let h = first_long text n f in
    let w = f.within in
    let e : n - 1 ≡ suc (suc (suc (suc (n - 5)))) = omega arith in
    rw e (front_dropped text (n - 5) (omega arith))
