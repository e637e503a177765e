use native.Mathlib.Omega.{arith}
use Rattle.std.proofs.Math.Nat.{add-sub_cancel_left}
use mathlib.Core.Path.{◌≡◌, subst, ◌∙◌}
use lib.Dec.{T}
use Rattle.command.specs.declared.Reply.{Reply}
use mathlib.Core.List.{List, ◌∷◌, append-nil}
use Prim.Native.Nat.{ℕ}
use native.Mathlib.Numerals.{add-one}
use lib.ListN.{length}
use Rattle.words.specs.Lists.{part}
use Rattle.words.proofs.Over.{put_front}
use Rattle.words.proofs.Slices.{length_part}
use Rattle.memories.specs.Lent.{shows}
use Rattle.memories.specs.Memories.{bytes_of}
use Rattle.memories.proofs.Memories.{proper_length}
use Rattle.command.specs.Says.{says, fixed, Said}
use Rattle.command.proofs.Says.{data_there}
use Rattle.reply.proofs.Told.{fixed_said}
use Rattle.reply.proofs.say.Goals as goal

pub say_data-requires : goal.say_data-requires
say_data-requires c =
    let h = data_there c.args.reply c.requires.2 _ _ _ c.in-Data.is in
    (c.requires.1, h.0, h.1, omega arith)

pub returns-in-Data : goal.returns-in-Data
unfolding says
returns-in-Data c =
    let g = c.in-Data.region in
    let at = c.in-Data.at in
    let x = c.in-Data.x in
    let m = shows c.args.shown in
    let h = data_there c.args.reply c.requires.2 g at x c.in-Data.is in
    let l : length (part at x (bytes_of g m)) ≡ x = length_part (bytes_of g m) at x (rw (proper_length m c.requires.1 g) h.1) in (
      λ list t. rw (c.in-Data.is, append-nil (part at x (bytes_of g m))) (record {
        count = c.say_data.ensures.0 ∙ rw (l, add-one);
        buffer = c.say_data.ensures.1 ∙
            put_front c.args.buffer.now (121 ∷ part at x (bytes_of g m)) (omega (arith, l, h.0));
      }),
      omega (arith, h.0, c.say_data.ensures.0),
      λ t. absurd (subst (λ (z : Reply). T (fixed z)) c.in-Data.is t),
    )

pub returns-in-Crc : goal.returns-in-Crc
unfolding says
returns-in-Crc c = (
  λ list t. rw c.in-Crc.is (record {
    count = c.say_sum.ensures.0;
    buffer = (rw (add-sub_cancel_left c.in-Crc.at c.in-Crc.n) at c.say_sum.ensures.1) ∙ put_front c.args.buffer.now _ (omega arith);
  }),
  omega (arith, c.say_sum.ensures.0),
  λ t. absurd (subst (λ (z : Reply). T (fixed z)) c.in-Crc.is t),
)

pub returns-in-Fixed : goal.returns-in-Fixed
unfolding says
returns-in-Fixed c =
    let r = c.fixed_bytes-bytes.result.now in
    let e = c.fixed_bytes-bytes.ensures in
    let said = fixed_said r c.args.buffer.now c.lay.new.memory (omega (arith, e.few)) c.lay.ensures in (
      λ list t. rw c.in-Fixed.is (subst (λ (b : List ℕ). Said b (length r) c.args.buffer.now c.lay.new.memory) (e.told list t) said),
      omega (arith, e.few),
      λ t. e.few,
    )
