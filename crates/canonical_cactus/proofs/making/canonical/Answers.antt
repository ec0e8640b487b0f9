use Rattle.std.proofs.Common.{◌∙◌, ap, refl, sym, subst}
use Rattle.cut_definitions.specs.Cuts.{has}
use Rattle.rooted_cactus.specs.Rooted.{Rooted}
use Rattle.rooted_cactus.specs.Different.{HaveSameSides}
use Rattle.canonical_cactus.specs.Canonical.{is_canonical}
use Rattle.canonical_cactus.proofs.Canonicals.{finished}
use Rattle.canonical_cactus.proofs.making.canonical.Goals as goal

pub from_root-requires : goal.from_root-requires
from_root-requires c =
    (finished c.args.cactus c.n-n.result c.into_root.result c.in_ok-placed.placed c.n-n.ensures.cactus c.requires c.into_root.ensures.value c.n-n.ensures.value
    (c.in_ok-placed.ensures has _ refl (c.in_ok-entries.ensures.reads has))).is_cactus

pub returns-clause-canonical : goal.returns-clause-canonical
returns-clause-canonical c =
    ap (λ (r : Rooted). is_canonical r.root) c.from_root.ensures
    ∙ (finished c.args.cactus c.n-n.result c.into_root.result c.in_ok-placed.placed c.n-n.ensures.cactus c.requires c.into_root.ensures.value c.n-n.ensures.value
    (c.in_ok-placed.ensures has _ refl (c.in_ok-entries.ensures.reads has))).canonical

pub returns-clause-sides : goal.returns-clause-sides
returns-clause-sides c =
    subst (λ (r : Rooted). HaveSameSides r c.args.cactus) (sym c.from_root.ensures)
    (finished c.args.cactus c.n-n.result c.into_root.result c.in_ok-placed.placed c.n-n.ensures.cactus c.requires c.into_root.ensures.value c.n-n.ensures.value
    (c.in_ok-placed.ensures has _ refl (c.in_ok-entries.ensures.reads has))).sides
