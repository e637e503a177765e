-- The first LF is where the search finds it.
use Rattle.records.proofs.Feeds.{feed_or_end}
use Rattle.records.proofs.ends.feed_in.Goals as goal

pub returns : goal.returns
returns c = rw c.unwrap_or.ensures (feed_or_end c.args.text.now c.first_feed.result c.first_feed.ensures)
