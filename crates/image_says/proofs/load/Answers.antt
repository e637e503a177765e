-- What loading answers, marks and leaves is told in the words of the definition.
use Rattle.std.proofs.Common.{ℕ, List, length, ap, ◌∙◌, zero-add, refl, w16}
use Rattle.std.proofs.lemmas.Int.{to_z-of_z}
use Rattle.words.specs.Over.{put}
use Rattle.image_says.proofs.Refused.{whole_message}
use Rattle.image_says.proofs.load.Goals as goal

pub returns-clause-told : goal.returns-clause-told
returns-clause-told c =
    let a = c.args in
    let r = c.load_marked-answer.result in
    let l = rw (to_z-of_z w16 a.shift c.ranges.shift) at c.load_marked-answer.ensures in
    let w = whole_message a.name.now a.text.now c.load_marked-answer.new.touched a.shift (length a.image.now) r c.tally-tally.result c.line_in.result
    c.is_short_at-short.result l.loads.answer l.marks c.tally-tally.ensures c.line_in.ensures c.is_short_at-short.ensures in
    let n = c.message-length.ensures.added.ends ∙ (zero-add _ ∙ ap length w) in
    c.told.ensures ∙ rw (n, l.loads.answer) refl

pub returns-clause-said : goal.returns-clause-said
returns-clause-said c =
    let a = c.args in
    let r = c.load_marked-answer.result in
    let l = rw (to_z-of_z w16 a.shift c.ranges.shift) at c.load_marked-answer.ensures in
    let w = whole_message a.name.now a.text.now c.load_marked-answer.new.touched a.shift (length a.image.now) r c.tally-tally.result c.line_in.result
    c.is_short_at-short.result l.loads.answer l.marks c.tally-tally.ensures c.line_in.ensures c.is_short_at-short.ensures in
    c.message-length.ensures.added.written ∙ ap (λ (x : List ℕ). put a.out.now 0 x) w

pub returns-clause-short : goal.returns-clause-short
returns-clause-short c =
    let a = c.args in
    let r = c.load_marked-answer.result in
    let l = rw (to_z-of_z w16 a.shift c.ranges.shift) at c.load_marked-answer.ensures in
    let w = whole_message a.name.now a.text.now c.load_marked-answer.new.touched a.shift (length a.image.now) r c.tally-tally.result c.line_in.result
    c.is_short_at-short.result l.loads.answer l.marks c.tally-tally.ensures c.line_in.ensures c.is_short_at-short.ensures in
    let n = c.message-length.ensures.added.ends ∙ (zero-add _ ∙ ap length w) in
    rw n at c.message-length.ensures.short
