-- What a carrier tells of its commands, byte by byte, and that a fixed reply is said.
use mathlib.Core.Path.{◌≡◌, refl, ap, ◌∙◌}
use mathlib.Core.List.{List, [], ◌∷◌, ◌++◌}
use Prim.Native.Nat.{ℕ, ◌≤◌}
use lib.ListN.{length}
use Rattle.words.specs.Lists.{join, singly}
use Rattle.words.specs.Over.{put}
use Rattle.words.proofs.Over.{put_front}
use Rattle.command.specs.Says.{ack_byte, tells, Said}
use Rattle.command.specs.declared.FixedReply.TheVariants.{Commands}

-- what a carrier tells of its commands is its reply to 0x00, byte by byte
pub commands_joined : (list : List ℕ) → ack_byte ∷ list ++ ack_byte ∷ [] ≡ join (tells list Commands)
commands_joined list = ap (λ (r : List ℕ). ack_byte ∷ r) (joined list)
  where
    joined : (l : List ℕ) → l ++ ack_byte ∷ [] ≡ join (singly l ++ (ack_byte ∷ []) ∷ [])
    joined [] = refl
    joined (b ∷ l) = ap (λ (r : List ℕ). b ∷ r) (joined l)

-- bytes that were copied to the front of a buffer are said
pub fixed_said : (bytes before after : List ℕ) → length bytes ≤ length before → after ≡ put before 0 bytes
    → Said bytes (length bytes) before after
fixed_said bytes before after h p = record {
  count = refl;
  buffer = p ∙ put_front before bytes h;
}
