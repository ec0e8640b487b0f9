-- Which neighbouring parts are minimum cuts, by their weights.
use Rattle.std.proofs.Common.{◌+◌, arith}
use Rattle.cut_definitions.specs.Chain.{one_part, parts_between}
use Rattle.cut_definitions.proofs.Bridge.{weight-agree}
use Rattle.cut_definitions.proofs.Numbers.{one_between}
use Rattle.node_tree.specs.Kinds.{LawOfKinds}
use Rattle.node_tree.proofs.Listing.{light_intervals, pairs}

pub kinds : LawOfKinds
kinds g region t count amount part ok ch some hs weighs i two lt =
    let light = light_intervals g region t count amount part ch some hs weighs in
    let same = weight-agree g ok (parts_between part i i) (one_part part i) (λ v a b. one_between i (part v)) in
    let alone = light i i two (omega arith) lt in
    let pair = pairs g part i ok in (
      (λ h. let e = alone.0 h in omega (arith, e, same), λ e. alone.1 (omega (arith, e, same))),
      λ next.
          let both = light i (i + 1) two (omega arith) next in
          (λ h. let e = both.0 h in omega (arith, e, pair), λ e. both.1 (omega (arith, e, pair))),
    )
