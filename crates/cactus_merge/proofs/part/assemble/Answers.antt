use Rattle.std.proofs.Common.{◌≡◌, ℕ, sym, subst}
use Rattle.residual_chain.specs.declared.run.Run.{Run}
use Rattle.std.proofs.Common.{List, map}
use Rattle.rooted_cactus.specs.Trees.{nodes_in}
use Rattle.rooted_cactus.specs.Sides.{cuts, part}
use Rattle.rooted_cactus.specs.Rooted.{IsCactus, Rooted, sides_of}
use Rattle.cactus_merge.specs.Joined.{SameSets, joined_cuts}
use Rattle.cut_definitions.specs.Members.{SameMembers}
use Rattle.cactus_merge.specs.Assembled.{assembled_sides}
use Rattle.cactus_merge.proofs.Finals.{cactus_is, sides_are, all_wide}
use Rattle.cactus_merge.proofs.part.assemble.Goals as goal

pub from_root-requires : goal.from_root-requires
from_root-requires c =
    let chain = c.args.chain.now in
    let nodes = nodes_in c.in_ok-nodes.nodes in
    let root = c.in_ok-root.root in
    subst (λ (n : ℕ). IsCactus n root) (sym c.n-n.ensures.value)
    (cactus_is chain c.args.parts.items nodes root c.n-n.ensures.shape c.requires c.in_ok-nodes.ensures root c.in_ok-root.ensures.held c.in_ok-root.ensures.root
    (c.in_ok-root.ensures.wide (all_wide chain c.args.parts.items nodes root c.n-n.ensures.shape c.requires c.in_ok-nodes.ensures)))

pub returns-clause-sides : goal.returns-clause-sides
returns-clause-sides c =
    let chain = c.args.chain.now in
    let nodes = nodes_in c.in_ok-nodes.nodes in
    let root = c.in_ok-root.root in
    let same : SameSets (cuts root) (joined_cuts (map part nodes) chain.runs) = subst (λ (rs : List Run). SameSets (cuts root) (joined_cuts (map part nodes) rs)) c.runs.ensures.value c.in_ok-root.ensures.cuts in
    let whole : c.from_root.result ≡ record { vertices = c.n-n.result; root = root } = c.from_root.ensures in
    let sized : SameMembers (sides_of (record { vertices = c.n-n.result; root = root })) (assembled_sides chain c.args.parts.items) =
    subst (λ (n : ℕ). SameMembers (sides_of (record { vertices = n; root = root })) (assembled_sides chain c.args.parts.items)) (sym c.n-n.ensures.value)
    (sides_are chain c.args.parts.items nodes root c.n-n.ensures.shape c.requires c.in_ok-nodes.ensures root same) in
    subst (λ (r : Rooted). SameMembers (sides_of r) (assembled_sides chain c.args.parts.items)) (sym whole) sized
