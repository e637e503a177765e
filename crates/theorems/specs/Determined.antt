-- Two outcomes that keep a call's promise are equal: the promise fixes every part of what is given back and every byte lent. No public call is exempt.
use Rattle.std.specs.Prelude.{ℕ, ◌≡◌, List}
use Rattle.memories.specs.Memories.{Memories}
use Rattle.boot.specs.Calls.{Outcome}
use Rattle.boot.specs.Promise.{PoweredOn, Left, given_byte, given_frame, outcome, Took}
use Rattle.boot.specs.Slices.{GivenBytes, given_bytes, TookBytes}
use Rattle.boot.specs.declared.Session.{Session}
use Rattle.session_bytes.specs.Sessions.{session_in}
use Rattle.exports.specs.Promise.{PowersOn, Takes, TakesBytes}

-- what the exported power on leaves: its number, and the session's slice
pub record Powered : Type 0 where
  pub number : ℕ
  pub session : List ℕ

-- what an exported taking call leaves: its number, the length of the reply, the reason of a NACK and its place, and what was lent
pub record Handed : Type 0 where
  pub number : ℕ
  pub length : ℕ
  pub reason : ℕ
  pub place : ℕ
  pub session : List ℕ
  pub memories : Memories
  pub buffer : List ℕ

-- they keep the calls' promises, with a session's slice as it was lent
abbrev pub Powers : List ℕ → Powered → Type 0
Powers lent l = PowersOn lent l.number l.session

abbrev pub Hands : Outcome → List ℕ → List ℕ → Handed → Type 0
Hands o room lent l = Takes o room lent l.number l.length l.reason l.place l.session l.memories l.buffer

-- the call of a slice leaves besides how many bytes it took
abbrev pub HandsBytes : GivenBytes → List ℕ → ℕ → Handed → Type 0
HandsBytes g lent n l = TakesBytes g lent l.number n l.length l.reason l.place l.session l.memories l.buffer

pub record Determined : Type 0 where
  pub power_on : (s t : Session) → PoweredOn s → PoweredOn t → s ≡ t
  pub take_byte : (s : Session) (b : ℕ) (m : Memories) (buffer : List ℕ) (l k : Left)
      → Took (given_byte s b m buffer) l → Took (given_byte s b m buffer) k → l ≡ k
  pub take_frame : (s : Session) (frame : List ℕ) (m : Memories) (buffer : List ℕ) (l k : Left)
      → Took (given_frame s frame m buffer) l → Took (given_frame s frame m buffer) k → l ≡ k
  pub take_bytes : (s : Session) (bs : List ℕ) (m : Memories) (buffer : List ℕ) (i j : ℕ) (l k : Left)
      → TookBytes (given_bytes s bs m buffer) i l → TookBytes (given_bytes s bs m buffer) j k → (i ≡ j) × (l ≡ k)
  -- and the four as they are exported
  pub exported_power_on : (lent : List ℕ) (l k : Powered) → Powers lent l → Powers lent k → l ≡ k
  pub exported_take_byte : (lent : List ℕ) (b : ℕ) (m : Memories) (buffer : List ℕ) (l k : Handed)
      → Hands (outcome (given_byte (session_in lent) b m buffer)) buffer lent l → Hands (outcome (given_byte (session_in lent) b m buffer)) buffer lent k
      → l ≡ k
  pub exported_take_frame : (lent frame : List ℕ) (m : Memories) (buffer : List ℕ) (l k : Handed)
      → Hands (outcome (given_frame (session_in lent) frame m buffer)) buffer lent l
      → Hands (outcome (given_frame (session_in lent) frame m buffer)) buffer lent k → l ≡ k
  pub exported_take_bytes : (lent bs : List ℕ) (m : Memories) (buffer : List ℕ) (i j : ℕ) (l k : Handed)
      → HandsBytes (given_bytes (session_in lent) bs m buffer) lent i l → HandsBytes (given_bytes (session_in lent) bs m buffer) lent j k
      → (i ≡ j) × (l ≡ k)
