-- The numbers and the staged bytes stand one behind the other in place of all that was there.
use native.Mathlib.Omega.{arith}
use Rattle.std.proofs.Common.{rules}
use mathlib.Core.Path.{◌≡◌, ap, ◌∙◌}
use mathlib.Core.List.{List}
use Prim.Native.Nat.{ℕ}
use lib.ListN.{length, get_or, take, length-replicate, replicate}
use lib.Seq.{length-take-le}
use Rattle.words.specs.Lists.{part}
use Rattle.words.specs.Over.{put, newer}
use Rattle.words.proofs.Over.{length_over}
use Rattle.session_bytes.specs.Sessions.{session_in}
use Rattle.vector_lines.specs.Vectors.{filled, staged_in}
use Rattle.vector_lines.proofs.Vectors.{put_both, length_filled}
use Rattle.vector_lines.proofs.vector.Vector.session.Goals as goal

pub returns : goal.returns
returns c =
    let b = c.args.self.now.bytes in
    let room : length c.none_staged-staged.result ≡ 257 = ap length c.none_staged-staged.ensures ∙ length-replicate {A = ℕ} 257 0 in
    let staged : c.lay.new.memory ≡ staged_in b =
    c.lay.ensures ∙ ap (λ (l : List ℕ). put l 0 (part 25 16 b)) (c.fill.ensures ∙ ap (λ (n : ℕ). filled (get_or b 23 0) (get_or b 24 0) n) room) in
    let all : length b ≡ 83 = search rules in
    let front : length (take 23 b) ≡ 23 = length-take-le 23 b (omega (arith, all)) in
    let long : length (staged_in b) ≡ 257 =
    length_over newer (filled (get_or b 23 0) (get_or b 24 0) 257) 0 (part 25 16 b) ∙ length_filled (get_or b 23 0) (get_or b 24 0) 257 in
    c.read.ensures
    ∙ ap session_in (c.lay-3.ensures ∙ ap (λ (l : List ℕ). put c.lay-2.new.memory 23 l) staged ∙ ap (λ (l : List ℕ). put l 23 (staged_in b)) c.lay-2.ensures
    ∙ put_both (replicate 280 0) (take 23 b) (staged_in b) 23 front (omega (arith, long)))
