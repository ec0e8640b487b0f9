use Rattle.std.proofs.Common.{◌∙◌, ap, refl, sym, subst}
use Rattle.cut_definitions.specs.Cuts.{has}
use Rattle.rooted_cactus.specs.Normal.{is_normal}
use Rattle.rooted_cactus.specs.Rooted.{Rooted}
use Rattle.rooted_cactus.specs.Different.{HaveSameSides}
use Rattle.rooted_cactus.proofs.Normals.{finished}
use Rattle.rooted_cactus.proofs.cactus.Cactus.normal.Goals as goal

pub from_root-requires : goal.from_root-requires
from_root-requires c =
    (finished c.args.self c.n-n.result c.into_root.result c.in_ok-root.root c.n-n.ensures.cactus c.requires c.into_root.ensures.value c.n-n.ensures.value
    (c.in_ok-root.ensures has _ refl (c.in_ok-entries.ensures.reads has))).is_cactus

pub returns-clause-normal : goal.returns-clause-normal
returns-clause-normal c =
    ap (λ (r : Rooted). is_normal r.root) c.from_root.ensures
    ∙ (finished c.args.self c.n-n.result c.into_root.result c.in_ok-root.root c.n-n.ensures.cactus c.requires c.into_root.ensures.value c.n-n.ensures.value
    (c.in_ok-root.ensures has _ refl (c.in_ok-entries.ensures.reads has))).normal

pub returns-clause-sides : goal.returns-clause-sides
returns-clause-sides c =
    subst (λ (r : Rooted). HaveSameSides r c.args.self) (sym c.from_root.ensures)
    (finished c.args.self c.n-n.result c.into_root.result c.in_ok-root.root c.n-n.ensures.cactus c.requires c.into_root.ensures.value c.n-n.ensures.value
    (c.in_ok-root.ensures has _ refl (c.in_ok-entries.ensures.reads has))).sides
