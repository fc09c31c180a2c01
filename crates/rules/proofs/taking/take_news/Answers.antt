-- `take_news` meets its contract: a news has no products, so that there is room.
use Rattle.rules.proofs.TakeLaws.{news_arrived}
use Rattle.rules.proofs.taking.take_news.Goals as goal

pub returns : goal.returns
returns c = search news_arrived
