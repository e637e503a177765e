-- By where the LF stands: nowhere, at the line's start, behind a CR or behind another character.
use borrow.Author.Rules.{rules}
use native.Mathlib.Omega.{arith}
use Prim.Native.Nat.{◌-◌}
use Rattle.records.proofs.Feeds.{ends_the_text, ends_at, stops_empty, stops_return, stops_full}
use Rattle.records.proofs.ends.line_at.Statement.{statement}
use Rattle.records.proofs.ends.line_at.Tie as tie

returns : tie.Need-returns-then-text-feed
returns c =
    let after-feed-from = c.before in
    let start = after-feed-from.before.before in
    ends_the_text start.args.text.now start.args.at after-feed-from.feed_from-feed.result after-feed-from.feed_from-feed.ensures
    start.requires c.if-text-feed.true

returns_2 : tie.Need-returns-then-feed-at
returns_2 c =
    let else1 = c.before in
    let after-feed-from = else1.before in
    let start = after-feed-from.before.before in
    let text = start.args.text.now in
    let at = start.args.at in
    let feed = after-feed-from.feed_from-feed.result in
    let f = after-feed-from.feed_from-feed.ensures in
    ends_at text at feed f feed (omega arith) f.from (omega arith) (stops_empty text at feed f c.if-feed-at.true)

returns_3 : tie.Need-returns-then-returned
returns_3 c =
    let else2 = c.before.before in
    let else1 = else2.before in
    let after-feed-from = else1.before in
    let start = after-feed-from.before.before in
    let text = start.args.text.now in
    let at = start.args.at in
    let feed = after-feed-from.feed_from-feed.result in
    let f = after-feed-from.feed_from-feed.ensures in
    ends_at text at feed f (feed - 1) (omega arith) (omega arith) (omega arith)
    (stops_return text at feed f else2.if-feed-at.false c.if-returned.true)

returns_4 : tie.Need-returns-else-returned
returns_4 c =
    let else2 = c.before.before in
    let else1 = else2.before in
    let after-feed-from = else1.before in
    let start = after-feed-from.before.before in
    let text = start.args.text.now in
    let at = start.args.at in
    let feed = after-feed-from.feed_from-feed.result in
    let f = after-feed-from.feed_from-feed.ensures in
    ends_at text at feed f feed (omega arith) f.from (omega arith) (stops_full text at feed f else2.if-feed-at.false c.if-returned.false)

pub line_at_spec : {M : Type 1} → statement M
line_at_spec =
    tie.close
    (tie.spec
    (λ c κs. search rules)
    returns
    (λ c. search rules)
    returns_2
    (λ c. search rules)
    (λ c. search rules)
    (λ c. search rules)
    returns_3
    returns_4)
