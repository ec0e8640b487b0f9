use Rattle.cut_definitions.proofs.Results.{if_ok_more}
use Rattle.component_cuts.specs.Parts.{AreComponents}
use Rattle.job_replies.specs.Apart.{IsApartGraph}
use Rattle.job_replies.proofs.Unions.{apart_graph}
use Rattle.job_replies.proofs.components.components_of.Goals as goal

pub returns : goal.returns
returns c =
    if_ok_more (AreComponents c.args.graph.now) (IsApartGraph c.args.graph.now) c.of_list.result
    (λ p are. apart_graph c.args.graph.now p c.args.count c.components.ensures c.one_number.ensures c.n-n.ensures.edge_list c.requires.enough c.requires.components c.requires.several are) c.of_list.ensures
