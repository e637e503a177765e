-- The chain counts the sectors of which some byte is marked.
use Rattle.std.proofs.Common.{refl, ◌∙◌, rules, tests}
use Rattle.std.proofs.lemmas.Iterator.{YieldsList-from_range}
use Rattle.std.proofs.lemmas.Iterator.Consumers.{YieldsList-from_filter, count_from_yields_List}
use Rattle.std.proofs.lemmas.List.Sums.{length-filter}
use Rattle.words.specs.Lists.{count_from}
use Rattle.image_says.specs.Tally.{in_sector}
use Rattle.image_says.proofs.counting.sectors.Goals as goal

pub returns : goal.returns
returns c =
    let f = in_sector c.args.touched.now in
    let sectors = YieldsList-from_range 0 32 32 c.filter.ensures.source refl in
    count_from_yields_List c.filter.result c.count.result c.count.ensures.ran
    (YieldsList-from_filter _ f sectors c.filter.ensures.closure (λ x b q k. search (rules, tests)))
    ∙ length-filter f (count_from 0 32)
