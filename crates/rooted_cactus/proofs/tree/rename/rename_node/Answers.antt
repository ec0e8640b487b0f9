use Rattle.std.proofs.Common.{ℕ, List, ap, false}
use Rattle.cut_definitions.specs.Weight.{VertexSet}
use Rattle.rooted_cactus.specs.Entered.{renamed}
use Rattle.rooted_cactus.specs.Entries.{Read}
use Rattle.rooted_cactus.proofs.Entries.{names_are}
use Rattle.rooted_cactus.proofs.tree.rename.rename_node.Goals as goal

pub put_together-requires-clause-ready : goal.put_together-requires-clause-ready
put_together-requires-clause-ready c = c.in_ok-entries.ensures.ready

pub put_together-requires-clause-one : goal.put_together-requires-clause-one
put_together-requires-clause-one c = c.in_ok-entries.ensures.one

pub returns-clause-names : goal.returns-clause-names
returns-clause-names c = names_are (renamed c.args.names.now) c.args.node c.in_ok-tree.tree
    (λ sets. c.in_ok-tree.ensures sets _ tt (c.in_ok-entries.ensures.reads sets))

pub returns-clause-sides : goal.returns-clause-sides
returns-clause-sides c = λ sets. ap (λ (r : Read). r.part) (c.in_ok-tree.ensures sets _ tt (c.in_ok-entries.ensures.reads sets))

pub returns-clause-widths : goal.returns-clause-widths
returns-clause-widths c =
    let sets : List ℕ → VertexSet = λ l v. false in
    ap (λ (r : Read). r.counts) (c.in_ok-tree.ensures sets _ tt (c.in_ok-entries.ensures.reads sets))
