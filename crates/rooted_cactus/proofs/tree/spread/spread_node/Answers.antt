use Rattle.std.proofs.Common.{ℕ, List, ap, sym, subst, false}
use Rattle.cut_definitions.specs.Weight.{VertexSet}
use Rattle.cut_definitions.specs.Contraction.{lift}
use Rattle.rooted_cactus.specs.Spread.{AreGathered}
use Rattle.rooted_cactus.specs.Entries.{Read}
use Rattle.rooted_cactus.proofs.Entries.{names_are}
use Rattle.rooted_cactus.proofs.tree.spread.spread_node.Goals as goal

pub put_together-requires-clause-ready : goal.put_together-requires-clause-ready
put_together-requires-clause-ready c =
    let gathered = subst (AreGathered c.args.classes.now) (sym c.deref.ensures.value) c.in_ok-groups.ensures in
    (c.in_ok-entries.ensures c.args.classes.now gathered).ready

pub put_together-requires-clause-one : goal.put_together-requires-clause-one
put_together-requires-clause-one c =
    let gathered = subst (AreGathered c.args.classes.now) (sym c.deref.ensures.value) c.in_ok-groups.ensures in
    (c.in_ok-entries.ensures c.args.classes.now gathered).one

pub returns-clause-lists : goal.returns-clause-lists
returns-clause-lists c =
    let gathered = subst (AreGathered c.args.classes.now) (sym c.deref.ensures.value) c.in_ok-groups.ensures in
    names_are (lift c.args.classes.now) c.args.node c.in_ok-tree.tree
    (λ sets. c.in_ok-tree.ensures sets _ tt ((c.in_ok-entries.ensures c.args.classes.now gathered).reads sets))

pub returns-clause-sides : goal.returns-clause-sides
returns-clause-sides c =
    let gathered = subst (AreGathered c.args.classes.now) (sym c.deref.ensures.value) c.in_ok-groups.ensures in
    λ sets. ap (λ (r : Read). r.part) (c.in_ok-tree.ensures sets _ tt ((c.in_ok-entries.ensures c.args.classes.now gathered).reads sets))

pub returns-clause-widths : goal.returns-clause-widths
returns-clause-widths c =
    let gathered = subst (AreGathered c.args.classes.now) (sym c.deref.ensures.value) c.in_ok-groups.ensures in
    let sets : List ℕ → VertexSet = λ l v. false in
    ap (λ (r : Read). r.counts) (c.in_ok-tree.ensures sets _ tt ((c.in_ok-entries.ensures c.args.classes.now gathered).reads sets))
