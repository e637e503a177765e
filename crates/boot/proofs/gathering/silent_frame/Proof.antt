-- Each test that it makes is a field of what it promises.
use borrow.Author.Rules.{rules}
use native.Mathlib.Omega.{arith}
use mathlib.Core.Path.{sym, ◌∙◌}
use Prim.Native.Nat.{◌-◌}
use lib.Dec.{eqb, ltb, eqb→eq, ltb→lt}
use Rattle.words.proofs.Tests.{holds_true}
use mathlib.Core.Bool.{◌&&◌}
use Rattle.boot.proofs.Silent.{all_three}
use Rattle.boot.proofs.gathering.silent_frame.Statement.{statement}
use Rattle.boot.proofs.gathering.silent_frame.Tie as tie

returns : tie.Need-returns
returns c =
    let start = c.before in
    λ h. let a = eqb start.args.id c.bears.result in let b = ltb 0 start.args.dlc in let d = ltb start.args.dlc
    (start.args.expected - start.args.taken) in let t = all_three a b d (holds_true (a && b && d) h) in record {
      own = sym (eqb→eq start.args.id c.bears.result t.0 ∙ c.bears.ensures);
      some = ltb→lt 0 start.args.dlc t.1;
      short = omega (arith, ltb→lt start.args.dlc (start.args.expected - start.args.taken) t.2);
    }

pub silent_frame_spec : {M : Type 1} → statement M
silent_frame_spec =
    tie.close
    (tie.spec
    (λ c κs. search rules)
    (λ c. search rules)
    returns)
