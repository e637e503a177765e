-- Laws of a reply in frames: its messages are its bytes, the first by itself and the rest cut, and there is room for them.
use mathlib.Core.Path.{◌≡◌, refl, sym, ap, ◌∙◌}
use mathlib.Core.Bool.{Bool, true, false}
use mathlib.Core.List.{List, [], ◌∷◌, ◌++◌, append-nil}
use Prim.Native.Nat.{ℕ, ◌+◌, ◌≤◌, ◌<◌}
use native.Mathlib.Nat.{not-suc-le-zero}
use native.Mathlib.Omega.{arith}
use lib.Dec.{T}
use lib.ListN.{length, take, drop, length-append}
use lib.Seq.{take-append_seam, length-take-le}
use Rattle.words.specs.Lists.{cut, singly, join, part}
use Rattle.words.specs.Over.{put}
use Rattle.words.proofs.Over.{put_then, put_front}
use Rattle.words.specs.Bytes.{four_bytes}
use Rattle.std.specs.Prelude.{if◌then◌else◌}
use Rattle.word_crc.specs.Words.{word_crc}
use Rattle.memories.specs.Memories.{Memories, bytes_of}
use Rattle.command.specs.Says.{reply_room, ack_message, told, version_bytes, device_bytes, says, fixed, Said}
use Rattle.command.specs.declared.Reply.{Reply}
use Rattle.command.specs.declared.Reply.TheVariants.{Fixed, Data, Crc}
use Rattle.command.specs.declared.FixedReply.TheVariants.{Silence, Ack, AckAck, Nack, AckNack, Commands, Version, DeviceId}
use Rattle.reply.specs.Fixed.{fixed_room}
use Rattle.can.specs.Conversation.{can_room}
use Rattle.reply.specs.Pieces.{piece_of}
use Rattle.frames.specs.Frames.{Kind, classic, head_bytes, frame, frames, framed, first_alone}
use Rattle.frames.proofs.Cutting.{length-frame, length-frames, few_eights, ones, length-singly}

-- ---- a reply's bytes, the first by itself

-- no byte, and some
pub none_alone : (k : Kind) (id n : ℕ) (l buffer : List ℕ) → length l ≡ 0 → Said (first_alone k id n l) 0 buffer buffer
none_alone k id n [] buffer e = record { count = refl; buffer = refl }
none_alone k id n (b ∷ l) buffer e = absurd (omega arith)

module _ (k : Kind) (id n : ℕ) (l : List ℕ) (some : 0 < length l) (one : 1 ≤ k.largest) where
  some_alone : (l : List ℕ) → 0 < length l → first_alone k id n l ≡ frame k id (take 1 l) ++ frames k id (cut n (drop 1 l))
  some_alone [] h = absurd (not-suc-le-zero h)
  some_alone (b ∷ l) h = refl

  pub first_fits : length (take 1 l) ≤ k.largest
  first_fits = rw (length-take-le 1 l some) one

  pub length-alone : length (first_alone k id n l) ≡ head_bytes + k.largest + length (frames k id (cut n (drop 1 l)))
  length-alone =
      ap length (some_alone l some) ∙ length-append (frame k id (take 1 l)) (frames k id (cut n (drop 1 l)))
      ∙ ap (λ (x : ℕ). x + length (frames k id (cut n (drop 1 l)))) (length-frame k id (take 1 l) first_fits)

  pub alone_said : (buffer buffer' : List ℕ) (r : ℕ) → length (first_alone k id n l) ≤ length buffer
      → r ≡ head_bytes + k.largest + length (frames k id (cut n (drop 1 l)))
      → buffer' ≡ put (put buffer 0 (frame k id (take 1 l))) (head_bytes + k.largest) (frames k id (cut n (drop 1 l)))
      → Said (first_alone k id n l) r buffer buffer'
  alone_said buffer buffer' r room e w =
      let f = length-frame k id (take 1 l) first_fits in
      record {
        count = e ∙ sym length-alone;
        buffer = w ∙ put_then buffer 0 (head_bytes + k.largest) (frame k id (take 1 l)) (frames k id (cut n (drop 1 l))) (omega arith)
            ∙ ap (λ (t : List ℕ). put buffer 0 t) (sym (some_alone l some)) ∙ put_front buffer (first_alone k id n l) room;
      }

-- ---- a reply's messages are its bytes, the first by itself and the rest piece by piece

module _ (id : ℕ) where
  framed_ones : (l : List ℕ) → framed classic id (singly l) ≡ frames classic id (singly l)
  framed_ones [] = refl
  framed_ones (b ∷ l) =
      ap (λ (t : List ℕ). t ++ framed classic id (singly l)) (append-nil (frame classic id (b ∷ [])))
      ∙ ap (λ (t : List ℕ). frame classic id (b ∷ []) ++ t) (framed_ones l)

  ones_alone : (l : List ℕ) → framed classic id (singly l) ≡ first_alone classic id 1 l
  ones_alone [] = refl
  ones_alone (b ∷ l) = framed_ones (b ∷ l) ∙ ap (λ (ls : List (List ℕ)). frame classic id (b ∷ []) ++ frames classic id ls) (sym (ones l))

  told_alone : (list : List ℕ) → framed classic id (told list) ≡ first_alone classic id 1 (join (told list))
  told_alone list =
      ap (λ (ls : List (List ℕ)). framed classic id (ack_message ∷ ls)) (as_ones list)
      ∙ ones_alone (121 ∷ list ++ 121 ∷ []) ∙ ap (λ (l : List ℕ). first_alone classic id 1 (121 ∷ l)) (as_joined list)
    where
      as_ones : (l : List ℕ) → singly l ++ ack_message ∷ [] ≡ singly (l ++ 121 ∷ [])
      as_ones [] = refl
      as_ones (b ∷ l) = ap (λ (ls : List (List ℕ)). (b ∷ []) ∷ ls) (as_ones l)

      as_joined : (l : List ℕ) → l ++ 121 ∷ [] ≡ join (singly l ++ ack_message ∷ [])
      as_joined [] = refl
      as_joined (b ∷ l) = ap (λ (r : List ℕ). b ∷ r) (as_joined l)

  eights_alone : (l : List ℕ) → framed classic id (ack_message ∷ l ∷ []) ≡ first_alone classic id 8 (join (ack_message ∷ l ∷ []))
  eights_alone l =
      ap (λ (t : List ℕ). t ++ (frames classic id (cut 8 l) ++ [])) (append-nil (frame classic id ack_message))
      ∙ ap (λ (t : List ℕ). frame classic id ack_message ++ t) (append-nil (frames classic id (cut 8 l)))
      ∙ ap (λ (t : List ℕ). frame classic id ack_message ++ frames classic id (cut 8 t)) (sym (append-nil l))

  pub reply_alone : (list : List ℕ) (r : Reply) (m : Memories)
      → framed classic id (says list r m) ≡ first_alone classic id (piece_of r) (join (says list r m))
  unfolding says
  reply_alone list (Fixed Silence) m = refl
  reply_alone list (Fixed Ack) m = ones_alone (121 ∷ [])
  reply_alone list (Fixed AckAck) m = ones_alone (121 ∷ 121 ∷ [])
  reply_alone list (Fixed (Nack w)) m = ones_alone (31 ∷ [])
  reply_alone list (Fixed (AckNack w)) m = ones_alone (121 ∷ 31 ∷ [])
  reply_alone list (Fixed Commands) m = told_alone list
  reply_alone list (Fixed Version) m = told_alone version_bytes
  reply_alone list (Fixed DeviceId) m = told_alone device_bytes
  reply_alone list (Data g at x) m = eights_alone (part at x (bytes_of g m))
  reply_alone list (Crc at n) m = eights_alone (four_bytes (word_crc (part at n m.flash)))

  -- there is room for them
  pub alone_room : (r : Reply) (l : List ℕ) → length l ≤ reply_room → (T (fixed r) → length l ≤ fixed_room)
      → (0 < piece_of r) × (piece_of r ≤ 8) × (length (first_alone classic id (piece_of r) l) ≤ can_room)
  alone_room r l h k = by_fixed (fixed r) l h k
    where
      by_fixed : (t : Bool) (l : List ℕ) → length l ≤ reply_room → (T t → length l ≤ fixed_room)
          → (0 < (if t then 1 else 8)) × ((if t then 1 else 8) ≤ 8) × (length (first_alone classic id (if t then 1 else 8) l) ≤ can_room)
      by_fixed true [] h k = (omega arith, omega arith, omega arith)
      by_fixed false [] h k = (omega arith, omega arith, omega arith)
      by_fixed true (b ∷ l) h k =
          let a = length-alone classic id 1 (b ∷ l) (omega arith) (omega arith) in
          let f = length-frames classic id (length l) 1 l (omega arith) in
          let e = ap length (ones l) ∙ length-singly l in
          (omega arith, omega arith, omega (arith, a, f, e, k tt))
      by_fixed false (b ∷ l) h k =
          let a = length-alone classic id 8 (b ∷ l) (omega arith) (omega arith) in
          let f = length-frames classic id (length l) 8 l (omega arith) in
          let e = few_eights (length l) l in
          (omega arith, omega arith, omega (arith, a, f, e, h))

-- the bytes of a reply that was said
pub said_taken : (reply : List ℕ) (n : ℕ) (before after : List ℕ) → Said reply n before after → take n after ≡ reply
said_taken reply n before after s = rw (s.count, s.buffer) (take-append_seam reply (drop (length reply) before))
