-- A connected session hears the frame, with the staged bytes of the session with its bytes taken; another hears only the call to connect.
use native.Mathlib.Omega.{arith}
use Rattle.command.specs.Decision.{if◌gives◌else◌}
use mathlib.Core.Path.{◌≡◌, ap, subst, sym, ◌∙◌}
use Prim.Native.Nat.{◌<◌, ◌≤◌}
use lib.Dec.{T}
use lib.ListN.{length}
use lib.Seq.{take-length}
use Rattle.command.specs.Progress.{Progress}
use Rattle.can.specs.Steps as C
use Rattle.can.specs.Conversation as CC
use Rattle.frames.specs.Frames.{counted_of}
use Rattle.boot.specs.Decide.{connected, decide_frame}
use Rattle.boot.specs.declared.Session.{Session}
use Rattle.boot.proofs.Sound.{sound_taken, can_expects}
use Rattle.boot.proofs.Good.{frame_can}
use Rattle.boot.proofs.Session.decide_frame.Goals as goal

pub heard-requires : goal.heard-requires
heard-requires c =
    subst
    (λ (p : Progress). (p.taken < p.expected) × T (C.expects (C.step_of c.args.self.step) p.expected)
    × (length p.staged ≡ 257) × (length c.args.frame.carried.now ≤ 8))
    (sym c.so_far.ensures) (
      sound_taken c.args.self c.requires.0,
      can_expects c.args.self c.requires.0 (rw (← c.on-here.ensures, c.if-here.true) tt),
      omega arith,
      c.requires.2,
    )

pub returns-then-here : goal.returns-then-here
unfolding decide_frame connected CC.heard if◌gives◌else◌
returns-then-here c =
    let h =
    c.heard.ensures ∙ ap (λ (p : Progress). CC.decided (C.step_of c.args.self.step) p c.args.view (counted_of c.args.frame)) c.so_far.ensures in
    let e : c.heard.result ≡ decide_frame c.args.self c.args.view (counted_of c.args.frame) =
    rw (
      ← c.on-here.ensures,
      c.if-here.true,
      take-length c.args.frame.carried.now,
      ← ap (λ (s : Session). s.staged) c.requires.1,
    ) h in
    let g =
    frame_can c.args.frame.id c.args.frame.carried.now c.args.self c.args.view c.requires.1 e
    c.requires.0 c.requires.3 in
    (e, g.0, g.1)

pub returns-else-here : goal.returns-else-here
unfolding decide_frame connected CC.heard if◌gives◌else◌
returns-else-here c =
    let e : c.unconnected.result ≡ decide_frame c.args.self c.args.view (counted_of c.args.frame) =
    rw (← c.on-here.ensures, c.if-here.false) c.unconnected.ensures in
    let g =
    frame_can c.args.frame.id c.args.frame.carried.now c.args.self c.args.view c.requires.1 e
    c.requires.0 c.requires.3 in
    (e, g.0, g.1)
