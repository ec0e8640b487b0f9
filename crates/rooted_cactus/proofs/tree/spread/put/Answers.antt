use Rattle.std.proofs.Common.{ℕ, [], ◌∷◌, ◌++◌, ◌∙◌, ap, sym}
use Rattle.std.specs.Global.{Vec}
use Rattle.rooted_cactus.proofs.Groups.{grown_at, other_at}
use Rattle.rooted_cactus.proofs.tree.spread.put.Goals as goal

pub returns-clause-grown : goal.returns-clause-grown
returns-clause-grown c = grown_at c.args.groups.now c.args.class c.index-groups-class.result c.push.new.self c.args.vertex c.requires c.index-groups-class.is (c.in_ok-push.ensures.items ∙ ap (λ (g : Vec ℕ). g.items ++ c.args.vertex ∷ []) (sym c.index-groups-class.is))

pub returns-clause-others : goal.returns-clause-others
returns-clause-others c = λ k ne. other_at c.args.groups.now c.args.class c.push.new.self k ne
