use Rattle.region_flow.proofs.Least.{closed_around}
use Rattle.region_flow.proofs.laws.closed.Goals as goal

pub returns : goal.returns
returns c = λ g f t ok flow one to_n. closed_around g ok f t flow to_n
