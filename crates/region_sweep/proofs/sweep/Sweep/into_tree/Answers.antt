-- The tree has all minimum cuts.
use Rattle.std.proofs.Common.{ℕ, List, get_or, length, ap, sym, ◌∙◌, subst}
use Rattle.node_tree.specs.Finished.{IsTreeOfAll}
use Rattle.node_tree.specs.Flat.{AreNodes, sets_of}
use Rattle.node_tree.specs.TreeSets.{IsTreeOfCuts}
use Rattle.region_sweep.proofs.Members.{settled, tree_of_all}
use Rattle.region_sweep.proofs.Regrouping.{home_entered}
use Rattle.region_sweep.proofs.sweep.Sweep.into_tree.Goals as goal

pub returns : goal.returns
returns c = λ way all.
    let g = c.args.graph.now in
    let s = c.args.self in
    let labels = s.flow.labels in
    let same = settled s.homes labels all in
    let is = c.into_entered-homes.ensures in
    record {
      long = ap length is ∙ way.room.entered;
      all = subst (λ (l : List ℕ). IsTreeOfAll g (record { homes = λ v. get_or l v 0; links = s.tree })) (sym is)
          (tree_of_all g labels (record { homes = λ v. get_or s.homes.entered v 0; links = s.tree })
          (subst (λ (k : ℕ → ℕ). AreNodes (record { homes = k; links = s.tree })) same way.sweeping.nodes)
          (subst (λ (k : ℕ → ℕ). IsTreeOfCuts g labels (sets_of (record { homes = k; links = s.tree }))) same way.sweeping.cuts)
          (sym (home_entered s.homes labels 1 (all 1)) ∙ way.first)
          all);
    }
