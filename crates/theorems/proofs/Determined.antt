-- Each part that a promise names is fixed by it, and the parts are all that a call gives back and leaves.
use mathlib.Core.Path.{◌≡◌, sym, ◌∙◌}
use mathlib.Core.List.{List}
use Prim.Native.Nat.{ℕ}
use Rattle.boot.specs.Calls.{Outcome}
use Rattle.boot.specs.Promise.{Left, given_byte, given_frame, outcome, Leaves}
use Rattle.boot.specs.Slices.{given_bytes, slice_outcome}
use Rattle.session_bytes.specs.Sessions.{session_in}
use Rattle.theorems.specs.Determined.{Powered, Handed, Powers, Hands, Determined}

left_once : (o : Outcome) (room : List ℕ) (l k : Left) → Leaves o room l → Leaves o room k → l ≡ k
left_once o room l k p q = λ i. record {
  result = record {
    number = (p.number ∙ sym q.number) i;
    length = (p.count ∙ sym q.count) i;
    reason = (p.reason ∙ sym q.reason) i;
    place = (p.place ∙ sym q.place) i;
    session = (p.session ∙ sym q.session) i;
  };
  flash = (p.flash ∙ sym q.flash) i;
  sram = (p.sram ∙ sym q.sram) i;
  usd = (p.usd ∙ sym q.usd) i;
  buffer = (p.buffer ∙ sym q.buffer) i;
}

-- the board's own call fixes all of an exported one but the session's slice
handed_once : (o : Outcome) (room lent : List ℕ) (l k : Handed) → Hands o room lent l → Hands o room lent k → l ≡ k
handed_once o room lent l k p q =
    let e = left_once o room _ _ p.leaves q.leaves in
    λ i. record {
      number = (e i).result.number;
      length = (e i).result.length;
      reason = (e i).result.reason;
      place = (e i).result.place;
      session = (p.session ∙ sym q.session) i;
      memories = record { flash = (e i).flash; sram = (e i).sram; usd = (e i).usd };
      buffer = (e i).buffer;
    }

powers_once : (lent : List ℕ) (l k : Powered) → Powers lent l → Powers lent k → l ≡ k
powers_once lent l k p q = λ i. record {
  number = (p.number ∙ sym q.number) i;
  session = (p.session ∙ sym q.session) i;
}

pub determined : Determined
determined = record {
  power_on = λ s t p q. p.session ∙ sym q.session;
  take_byte = λ s b m buffer l k p q. left_once (outcome (given_byte s b m buffer)) buffer l k p q;
  take_frame = λ s frame m buffer l k p q. left_once (outcome (given_frame s frame m buffer)) buffer l k p q;
  take_bytes = λ s bs m buffer i j l k p q.
      (p.count ∙ sym q.count, left_once (slice_outcome (given_bytes s bs m buffer)).outcome buffer l k p.leaves q.leaves);
  exported_power_on = powers_once;
  exported_take_byte = λ lent b m buffer l k p q. handed_once (outcome (given_byte (session_in lent) b m buffer)) buffer lent l k p q;
  exported_take_frame = λ lent frame m buffer l k p q. handed_once (outcome (given_frame (session_in lent) frame m buffer)) buffer lent l k p q;
  exported_take_bytes = λ lent bs m buffer i j l k p q. (
    p.count ∙ sym q.count,
    handed_once (slice_outcome (given_bytes (session_in lent) bs m buffer)).outcome buffer lent l k p.takes q.takes,
  );
}
