-- A connected session hears the byte, with the staged bytes of the session with the byte taken; another hears only the call to connect.
use native.Mathlib.Omega.{arith}
use Rattle.command.specs.Decision.{if◌gives◌else◌, answer}
use mathlib.Core.Path.{◌≡◌, ap, subst, sym, ◌∙◌}
use Prim.Native.Nat.{◌+◌, ◌<◌}
use lib.Dec.{T, ltb}
use lib.ListN.{length}
use Rattle.command.specs.Progress.{Progress}
use Rattle.command.specs.declared.Decision.{Decision}
use Rattle.command.specs.declared.Next.TheVariants.{Gather}
use Rattle.command.specs.declared.FixedReply.TheVariants.{Silence}
use Rattle.uart.specs.Steps as U
use Rattle.uart.specs.Conversation as UC
use Rattle.boot.specs.Decide.{connected, decide_byte}
use Rattle.boot.specs.declared.Session.{Session}
use Rattle.boot.proofs.Sound.{sound_taken, uart_expects}
use Rattle.boot.proofs.Good.{byte_can}
use Rattle.boot.proofs.Session.decide_byte.Goals as goal

pub heard-requires : goal.heard-requires
heard-requires c =
    subst (λ (p : Progress). (p.taken < p.expected) × T (U.expects (U.step_of c.args.self.step) p.expected) × (length p.staged ≡ 257))
    (sym c.so_far.ensures) (
      sound_taken c.args.self c.requires.0,
      uart_expects c.args.self c.requires.0 (rw (← c.on-here.ensures, c.if-here.true) tt),
      omega arith,
    )

pub returns-then-here : goal.returns-then-here
unfolding decide_byte connected UC.heard if◌gives◌else◌
returns-then-here c =
    let hears : Progress → Decision = λ p. if ltb (p.taken + 1) p.expected gives answer Silence Gather
    else UC.complete (U.step_of c.args.self.step) p.expected p.address p.staged c.args.view in
    let h : c.heard.result ≡ hears _ = c.heard.ensures ∙ ap hears c.so_far.ensures in
    let e : c.heard.result ≡ decide_byte c.args.self c.args.view c.args.byte =
    rw (← c.on-here.ensures, c.if-here.true, ← ap (λ (s : Session). s.staged) c.requires.1) h in
    let g = byte_can c.args.byte c.args.self c.args.view c.requires.1 e c.requires.0 c.requires.2 in
    (e, g.0, g.1)

pub returns-else-here : goal.returns-else-here
unfolding decide_byte connected UC.heard if◌gives◌else◌
returns-else-here c =
    let e : c.unconnected.result ≡ decide_byte c.args.self c.args.view c.args.byte =
    rw (← c.on-here.ensures, c.if-here.false) c.unconnected.ensures in
    let g = byte_can c.args.byte c.args.self c.args.view c.requires.1 e c.requires.0 c.requires.2 in
    (e, g.0, g.1)
