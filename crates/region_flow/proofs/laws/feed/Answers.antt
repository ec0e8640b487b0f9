use Rattle.region_flow.proofs.Least.{fed_least}
use Rattle.region_flow.proofs.laws.feed.Goals as goal

pub returns : goal.returns
returns c = λ g f t ok flow one to_n. fed_least g f.labels f.feed f.toward t flow to_n
