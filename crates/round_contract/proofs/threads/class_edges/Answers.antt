use Rattle.std.proofs.Common.{◌≡◌, ◌∙◌}
use Rattle.std.specs.Option.{option_to_list}
use Rattle.weighted_graph.specs.Merging.{between_classes}
use Rattle.rayon.proofs.ToStd.{slice-AllZip}
use Rattle.round_contract.proofs.Mapped.{mapped_are}
use Rattle.round_contract.proofs.threads.class_edges.Goals as goal

pub returns : goal.returns
returns g c =
    let labels = c.args.labels.now in
    let edges = c.args.edges.now in
    let h = c.in_ok-between.ensures in
    let chain = rw (c.filter_map.ensures.base, c.filter_map.ensures.f) at h.1 in
    h.2 ∙ (chain.4 ∙ mapped_are labels edges chain.1 (slice-AllZip chain.0 edges (chain.2 ∙ c.par_iter.ensures) (λ e o. option_to_list o ≡ between_classes labels e) chain.1 chain.3))
