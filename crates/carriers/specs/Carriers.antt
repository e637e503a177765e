-- The carriers, and what a session may expect on each: document 01, "Calls and the five causes".
use Rattle.std.specs.Prelude.{ℕ, ◌≡◌, Bool, ◌&&◌, [], ◌∷◌, map, length, eqb, ltb}
use Rattle.std.specs.Prelude.{if◌then◌else◌}
use Rattle.uart.specs.Steps as U
use Rattle.can.specs.Steps as C
use Rattle.carriers.specs.declared.Carrier.{Carrier}
use Rattle.carriers.specs.declared.Carrier.TheVariants.{None, Uart, Can, Running}

-- the number of each carrier
abbrev pub carrier_no : Carrier → ℕ
carrier_no None = 0
carrier_no Uart = 1
carrier_no Can = 2
carrier_no Running = 3

-- carrier: 0 none, 1 UART, 2 CAN, 3 running
abbrev pub CarrierNumbers : Type 0
CarrierNumbers = map carrier_no (None ∷ Uart ∷ Can ∷ Running ∷ []) ≡ 0 ∷ 1 ∷ 2 ∷ 3 ∷ []

-- none and running have only step 0, and expect 1
abbrev pub resting : ℕ
resting = 1

-- what an idle session expects on a carrier (on none and running nothing goes idle)
abbrev pub idle_expects : Carrier → ℕ
idle_expects None = resting
idle_expects Uart = U.complemented_byte
idle_expects Can = C.one_frame
idle_expects Running = resting

-- a step is one of the carrier's, and may expect this
abbrev pub step_sound : ℕ → ℕ → ℕ → Bool
step_sound c step e =
    if eqb c (carrier_no Uart) then ltb step (length U.steps) && U.expects (U.step_of step) e
    else if eqb c (carrier_no Can) then ltb step (length C.steps) && C.expects (C.step_of step) e
    else eqb step 0 && eqb e resting
