-- A line of a frame that is only gathered is answered by `>`, and what comes after it is heard by the session that has taken its bytes.
use mathlib.Core.Path.{◌≡◌, refl, sym, ap, ap₂, subst, ◌∙◌}
use mathlib.Core.Bool.{Bool, true, false, not}
use mathlib.Core.List.{List, [], ◌∷◌, ◌++◌, append-nil, append_assoc}
use Prim.Native.Nat.{ℕ, zero, suc, ◌+◌, ◌-◌, ◌≤◌, ◌<◌}
use native.Mathlib.Omega.{arith}
use lib.Dec.{T, eqb}
use lib.ListN.{length, take, drop, length-append, length-drop, length-take}
use lib.Seq.{drop-drop, length-take-le}
use borrow.Author.Tests.{lt-ltb}
use Rattle.words.specs.Over.{put}
use Rattle.words.proofs.Tests.{both_left, both_right, fails_false}
use Rattle.memories.specs.Memories.{Memories, proper}
use Rattle.frames.specs.Frames.{largest_id}
use Rattle.boot.specs.Session.{with_taken, gathered}
use Rattle.boot.specs.Calls.{State, Framed, call}
use Rattle.boot.specs.Promise.{state_of}
use Rattle.boot.specs.declared.Session.{Session}
use Rattle.boot.specs.Gathering.{HearsFrames}
use Rattle.boot.proofs.Silent.{only_gathered, all_fit, silent_id, still_hears, gathers_frame}
use Rattle.desk_lines.specs.Lines.{line_feed, id_characters, fields, id_in, frame_written}
use Rattle.desk_lines.proofs.Lines.{FrameGood, frame_good, data_fits}
use Rattle.desk_written.specs.First.{endless, behind_letter}
use Rattle.desk_written.proofs.FrameFirst.{first_line}
use Rattle.desk_written.proofs.ReadBack.{carried_back, id_back, formed_back}
use Rattle.desk_answers.specs.Answers.{answered, desk_room, made, makes, answer_by, answer}
use Rattle.desk_answers.specs.Promise.{Tells, Continues}
use Rattle.desk_answers.specs.Told.{Told, quiet, ◌then◌}
use Rattle.desk_answers.proofs.Telling.{all_left, left_of_left, text_told, one_told}
use Rattle.desk_answers.specs.Desk.{Desk, kept_characters, line_ends, hears}
use Rattle.desk_passing.specs.Passing.{SilentLine, at_line, nods, behind, PassesLines}

-- the desk with a line that has begun
abbrev begun : Desk → List ℕ → Desk
begun d l = record { why = d.why; state = d.state; lines = d.lines; line = l }

-- characters that end no line, and are not too many, are kept
hears_endless : (l rest : List ℕ) (d : Desk) → T (endless l) → length d.line + length l ≤ kept_characters
    → hears (l ++ rest) d ≡ hears rest (begun d (d.line ++ l))
unfolding hears
hears_endless [] rest d t h = ap (λ (x : List ℕ). hears rest (begun d x)) (sym (append-nil d.line))
hears_endless (c ∷ l) rest d t h =
    let e = fails_false (eqb c line_feed) (both_left (not (eqb c line_feed)) (endless l) t) in
    let k = length-append d.line (c ∷ []) in
    rw (e, lt-ltb (length d.line) kept_characters (omega arith))
    (hears_endless l rest (begun d (d.line ++ c ∷ [])) (both_right (not (eqb c line_feed)) (endless l) t) (omega arith)
    ∙ ap (λ (x : List ℕ). hears rest (begun d x)) (append_assoc d.line (c ∷ []) l))

-- ---- a line of a frame that is only gathered
module _ (s : Session) (text : List ℕ) (end count : ℕ) (new : List ℕ) (l : SilentLine s.step s.taken s.expected text end count new) where
  abbrev rest : List ℕ
  rest = behind_letter end text

  -- the data bytes of the frame
  abbrev pub brought : List ℕ
  brought = fields (drop id_characters rest)

  good : FrameGood rest
  good = frame_good rest l.first.frame

  pub still_short : s.taken + length brought < s.expected
  still_short = omega (arith, l.silent.short, l.counted)

  -- the session that has taken them
  pub session_brought : with_taken (s.taken + count) (put s.staged s.taken (take count new)) s ≡ gathered brought s
  session_brought =
      ap₂ (λ (n : ℕ) (b : List ℕ). with_taken (s.taken + n) (put s.staged s.taken b) s) l.counted l.bytes
      ∙ sym (all_fit brought s (omega (arith, still_short)))

  module _ (m : Memories) (g : HearsFrames s (proper m)) where
    small : id_in rest ≤ largest_id
    small = silent_id s (proper m) g (id_in rest) count l.silent

    only_gathered_lem : call (Framed desk_room (frame_written rest)) (state_of s m) ≡ only_gathered brought (state_of s m)
    only_gathered_lem =
        gathers_frame desk_room (frame_written rest) (state_of s m) (omega arith) g (formed_back rest good small) (record {
          own = rw (id_back rest good small) l.silent.own;
          some = omega (arith, l.silent.some, l.counted);
          short = still_short;
        })
        ∙ ap (λ (b : List ℕ). only_gathered b (state_of s m)) (carried_back rest good)

    line_answered : (why : Bool) (k : ℕ)
        → answer why k (take end text) (state_of s m) ≡ record { text = answered ∷ line_feed ∷ []; state = state_of (gathered brought s) m }
    unfolding answer answer_by makes made
    line_answered true k = let p = first_line text end l.first in rw (p.kind, p.behind, only_gathered_lem) refl
    line_answered false k = let p = first_line text end l.first in rw (p.kind, p.behind, only_gathered_lem) refl

    pub line_passed : (why : Bool) (k : ℕ) → hears text (at_line why s m k)
        ≡ behind (answered ∷ line_feed ∷ []) (hears (drop (end + 1) text) (at_line why (gathered brought s) m (suc k)))
    unfolding hears
    line_passed why k =
        let p = first_line text end l.first in
        let w = l.first.within in
        let n = length-take-le end text (omega arith) in
        let o = p.short in
        ap (λ (t : List ℕ). hears t (at_line why s m k)) p.parts
        ∙ hears_endless (take end text) (line_feed ∷ drop (end + 1) text) (at_line why s m k) p.plain (omega arith)
        ∙ ap (λ (a : Told State). (a then λ q. quiet (record { why = why; state = q; lines = suc k; line = [] })) then hears (drop (end + 1) text)) (line_answered why (suc k))

-- ---- lines one after another

-- one more answer behind others
pub nods_more : (n : ℕ) → nods n ++ answered ∷ line_feed ∷ [] ≡ nods (n + 1)
nods_more zero = refl
nods_more (suc n) =
    let e : suc (n + 1) ≡ suc n + 1 = omega arith in
    ap (λ (l : List ℕ). answered ∷ line_feed ∷ l) (nods_more n) ∙ ap nods e

pub length-nods : (n : ℕ) → length (nods n) ≡ n + n
length-nods zero = refl
length-nods (suc n) = let e = length-nods n in omega arith

-- before the first line
pub none_passed : (s : Session) (right : Bool) (text : List ℕ) → PassesLines s right text s 0 0
none_passed s right text = record {
  within = omega arith;
  few = omega arith;
  told = λ why m e k. ap (λ (n : ℕ). hears text (at_line why s m n)) (omega arith);
}

-- after one line more
module _ (first s : Session) (right : Bool) (text : List ℕ) (lines i : ℕ) (p : PassesLines first right text s lines i) (g : HearsFrames s right)
    (end count : ℕ) (new : List ℕ) (l : SilentLine s.step s.taken s.expected (drop i text) end count new) where
  abbrev next : Session
  next = gathered (brought s (drop i text) end count new l) s

  pub one_more : PassesLines first right text next (lines + 1) (i + (end + 1))
  one_more =
      let d = length-drop i text in
      let w = l.first.within in
      let v = (frame_good (behind_letter end (drop i text)) l.first.frame).long in
      let t = length-take (end - 1) (drop 1 (drop i text)) in
      let q = p.few in
      record {
        within = omega arith;
        few = omega arith;
        told = λ why m e k.
            let a = line_passed s (drop i text) end count new l m (rw e g) why (k + lines) in
            let j : suc (k + lines) ≡ k + (lines + 1) = omega arith in
            p.told why m e k
            ∙ ap (λ (x : Told Desk). behind (nods lines) x)
            (a ∙ ap₂ (λ (n : ℕ) (b : List ℕ). behind (answered ∷ line_feed ∷ []) (hears b (at_line why next m n))) j (drop-drop (end + 1) i text))
            ∙ ap (λ (b : List ℕ). record { text = b; state = (hears (drop (i + (end + 1)) text) (at_line why next m (k + (lines + 1)))).state })
            (sym (append_assoc (nods lines) (answered ∷ line_feed ∷ []) (hears (drop (i + (end + 1)) text) (at_line why next m (k + (lines + 1)))).text)
            ∙ ap (λ (b : List ℕ). b ++ (hears (drop (i + (end + 1)) text) (at_line why next m (k + (lines + 1)))).text) (nods_more lines));
      }

  one_more_hears : HearsFrames next right
  one_more_hears = still_hears s right g (brought s (drop i text) end count new l) (still_short s (drop i text) end count new l)

  -- the session with its new bytes staged in place
  abbrev staging : List ℕ → Session
  staging b = with_taken (s.taken + count) b s

  pub went_on : (b : List ℕ) → b ≡ put s.staged s.taken (take count new)
      → HearsFrames (staging b) right × PassesLines first right text (staging b) (lines + 1) (i + (end + 1))
  went_on b e =
      subst (λ (x : Session). HearsFrames x right × PassesLines first right text x (lines + 1) (i + (end + 1)))
      (sym (ap staging e ∙ session_brought s (drop i text) end count new l)) (one_more_hears, one_more)

  -- the bytes are no more than a frame carries, and than are expected
  pub few_brought : (count ≤ 8) × (s.taken + count < s.expected) × (i + (end + 1) ≤ length text)
  few_brought =
      let w = behind_letter end (drop i text) in
      (omega (arith, l.counted, data_fits w (frame_good w l.first.frame)), l.silent.short, one_more.within)

-- a line was answered, and the lines that were then passed stand answered behind it
pub gone_on : (d : Desk) (rest : List ℕ) (why : Bool) (s next : Session) (m : Memories) (right : Bool) (k lines n at mid end : ℕ) (out between : List ℕ)
    → Tells (line_ends d) at out mid between (at_line why s m k) → proper m ≡ right → PassesLines s right rest next lines n → end ≡ mid + lines + lines
    → Continues (hears (drop n rest) (at_line why next m (k + lines))) end (put between mid (nods lines)) (line_ends d then hears rest) at out
gone_on d rest why s next m right k lines n at mid end out between h w p e =
    left_of_left (text_told (hears (drop n rest) (at_line why next m (k + lines))) (nods lines) mid end between (omega (arith, e, length-nods lines)))
    (subst (λ (x : Told Desk). Continues x mid between (line_ends d then hears rest) at out) (p.told why m w k)
    (one_told (line_ends d) (hears rest) (all_left (line_ends d then hears rest) at out) h))
