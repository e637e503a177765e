-- What an input decides in a sound session can be carried out and said, and leaves a sound one.
use mathlib.Core.Path.{◌≡◌, sym, subst}
use mathlib.Core.Bool.{Bool}
use mathlib.Core.List.{List, [], ◌∷◌}
use Prim.Native.Nat.{ℕ, ◌<◌}
use lib.Dec.{T, eqb}
use lib.ListN.{get_or}
use lib.Seq.{take-length}
use Rattle.board.specs.Quantities.{address_bytes}
use Rattle.board.specs.declared.View.{View}
use Rattle.memories.specs.Effects.{fits}
use Rattle.command.specs.Progress.{staged_with, short}
use Rattle.command.specs.Says.{sayable}
use Rattle.command.specs.declared.Decision.{Decision}
use Rattle.command.proofs.Holds.{Holds, either, split}
use Rattle.rules.proofs.Good.{Good, told}
use Rattle.uart.specs.Steps as U
use Rattle.uart.specs.Conversation as UC
use Rattle.uart.proofs.Good.{GoodOnUart, complete_good}
use Rattle.can.specs.Steps as C
use Rattle.frames.specs.Frames.{Frame, frame_of, carried}
use Rattle.can.proofs.Good as CG
use Rattle.boot.specs.Session.{on, progress, sound, gathered}
use Rattle.boot.specs.Decide.{connected, decide_byte, decide_frame}
use Rattle.carriers.specs.declared.Carrier.{Carrier}
use Rattle.carriers.specs.declared.Carrier.TheVariants.{Uart, Can}
use Rattle.boot.specs.declared.Session.{Session}
use Rattle.boot.proofs.Sound.{uart_expects, can_expects}

-- where what a connected session hears can be, so can what any session does
connected_good : (small : Type 0) (enters : ℕ → ℕ → Type 0) (more : Bool) (staged : List ℕ) (c : Carrier) (s : Session) (calls : Bool) {d : Decision}
    → (T (on c s) → Holds (Good small enters more staged) d) → Holds (Good small enters more staged) (connected c s calls d)
unfolding connected
connected_good small enters more staged c s calls f =
    split (Good small enters more staged) (on c s) f
    (λ o. either (Good small enters more staged) _ (told small enters more staged tt) (told small enters more staged tt))

-- one UART byte; where the step is that byte, the first one staged is below 256
abbrev pub GoodByte : Session → ℕ → Decision → Type 0
GoodByte s b d = GoodOnUart (short (progress s) (b ∷ [])) (staged_with (progress s) (b ∷ [])) d

pub byte_good : (s : Session) (view : View) (b : ℕ) → T (sound s) → (T (eqb s.expected 1) → get_or (staged_with (progress s) (b ∷ [])) 0 0 < 256)
    → Holds (GoodByte s b) (decide_byte s view b)
unfolding decide_byte UC.heard
byte_good s view b t h =
    connected_good _ _ _ _ Uart s _
    (λ o. split (GoodByte s b) _ (λ m. told _ _ _ _ m)
    (λ n. complete_good _ _ (U.step_of s.step) s.expected (uart_expects s t o) h s.address view))

-- one CAN frame
abbrev pub GoodFrame : Session → List ℕ → Decision → Type 0
GoodFrame s c d = CG.GoodOnCan c (short (progress s) c) (staged_with (progress s) c) d

pub frame_good : (s : Session) (view : View) (f : Frame) → T (sound s) → get_or (carried f) address_bytes 0 < 256
    → Holds (GoodFrame s (carried f)) (decide_frame s view f)
unfolding decide_frame
frame_good s view f t h =
    connected_good _ (CG.enters (carried f)) _ _ Can s _ (λ o. CG.heard_good (C.step_of s.step) (progress s) (can_expects s t o) view f h)

-- ---- and so it can with the session as it was gathered and the decision as it was made

-- a decision can be said, and carried out with what a session has staged
abbrev CanBe : Session → Decision → Type 0
CanBe t d = T (sayable d.reply) × T (fits d.change t.staged)

same_good : {g t : Session} {e d : Decision} → t ≡ g → d ≡ e → CanBe g e → CanBe t d
same_good {t = t} {e = e} et ed h = subst (λ (x : Decision). CanBe t x) (sym ed) (subst (λ (z : Session). CanBe z e) (sym et) h)

-- a byte's, where the first staged byte is below 256
pub byte_can : (b : ℕ) (s : Session) (view : View) {t : Session} {d : Decision} → t ≡ gathered (b ∷ []) s → d ≡ decide_byte s view b
    → T (sound s) → get_or t.staged 0 0 < 256 → CanBe t d
byte_can b s view et ed k h =
    let small = subst (λ (z : Session). get_or z.staged 0 0 < 256) et h in
    let g = (byte_good s view b k (λ e. small)).holds in
    same_good et ed (g.sayable small, g.fits)

-- a frame's, where the data byte behind an address is below 256
pub frame_can : (id : ℕ) (c : List ℕ) (s : Session) (view : View) {t : Session} {d : Decision} → t ≡ gathered c s
    → d ≡ decide_frame s view (frame_of id c) → T (sound s) → get_or c address_bytes 0 < 256 → CanBe t d
frame_can id c s view et ed k h =
    let whole = take-length c in
    let g = (frame_good s view (frame_of id c) k (subst (λ (b : List ℕ). get_or b address_bytes 0 < 256) (sym whole) h)).holds in
    same_good et ed
    (subst (λ (b : List ℕ). CanBe (gathered b s) (decide_frame s view (frame_of id c))) whole (g.sayable tt, g.fits))
