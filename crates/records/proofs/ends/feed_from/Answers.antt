-- The first LF behind a place, and what is known of it.
use Rattle.std.proofs.Common.{arith, length-drop}
use Rattle.words.proofs.Slices.{to_the_end}
use Rattle.records.proofs.Feeds.{fed_from}
use Rattle.records.proofs.ends.feed_from.Goals as goal

pub overflow_add-result : goal.overflow_add-result
overflow_add-result c =
    let h = rw (to_the_end c.args.at c.args.text.now) at c.feed_in.ensures.1 in
    let d = length-drop c.args.at c.args.text.now in
    omega arith

pub returns : goal.returns
returns c =
    rw (c.feed_in.ensures.0, to_the_end c.args.at c.args.text.now) (fed_from c.args.text.now c.args.at c.requires)
