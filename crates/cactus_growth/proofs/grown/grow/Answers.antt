use Rattle.std.proofs.Common.{◌≡◌, refl, ap, ◌∙◌, sym, subst, arith}
use Rattle.std.proofs.Common.{ℕ}
use Rattle.rooted_cactus.specs.Rooted.{Rooted, IsCactus}
use Rattle.rooted_cactus.specs.Trees.{blocks}
use Rattle.rooted_cactus.specs.declared.tree.Node.{Node}
use Rattle.std.proofs.lemmas.Bool.{false≢true}
use Rattle.cactus_growth.specs.Growth.{IsGrown}
use Rattle.cactus_growth.proofs.Pulled.{none_left}
use Rattle.cactus_growth.proofs.Kept.{cactus_once, cactus_below, grown_cactus, all_part, none_empty, kept_after}
use Rattle.cactus_growth.proofs.grown.grow.Goals as goal

pub grow_node-requires-clause-u_inside : goal.grow_node-requires-clause-u_inside
grow_node-requires-clause-u_inside c = cactus_below c.args.cactus.vertices c.into_root.result c.into_root.ensures.cactus c.args.u c.requires.u_from_one c.requires.u_to_n

pub grow_node-requires-clause-v_inside : goal.grow_node-requires-clause-v_inside
grow_node-requires-clause-v_inside c = cactus_below c.args.cactus.vertices c.into_root.result c.into_root.ensures.cactus c.args.v c.requires.v_from_one c.requires.v_to_n

pub grow_node-requires-clause-once : goal.grow_node-requires-clause-once
grow_node-requires-clause-once c = cactus_once c.args.cactus.vertices c.into_root.result c.into_root.ensures.cactus

-- the tree that was taken out is the cactus's
grown_root : (u v : ℕ) (old : Rooted) (taken x : Node) → taken ≡ old.root → IsGrown u v taken x → IsGrown u v old.root x
grown_root u v old taken x e g = subst (λ r. IsGrown u v r x) e g

pub returns-then-not-has_block : goal.returns-then-not-has_block
returns-then-not-has_block c =
    let x = c.in_ok-root.root in
    all_part c.args.u c.args.v c.args.cactus c.requires.u_from_one c.requires.u_to_n c.requires.v_from_one c.requires.v_to_n x
    (grown_root c.args.u c.args.v c.args.cactus c.into_root.result x c.into_root.ensures.value c.in_ok-root.ensures) (none_left (blocks x) (λ lt. grind (arith, lt, c.if-not-has_block.true, c.has_block.ensures)))

pub from_root-kept-requires : goal.from_root-kept-requires
from_root-kept-requires c =
    subst (λ n. IsCactus n c.in_ok-root.root) (sym c.n-n.ensures.value)
    (grown_cactus c.args.cactus.vertices c.args.u c.args.v c.into_root.result c.in_ok-root.root c.into_root.ensures.cactus c.in_ok-root.ensures)

pub trimmed-requires : goal.trimmed-requires
trimmed-requires c =
    let x = c.in_ok-root.root in
    let is : c.from_root-kept.result ≡ record { vertices = c.args.cactus.vertices; root = x } = c.from_root-kept.ensures ∙ ap (λ n. let r : Rooted = record { vertices = n; root = x } in r) c.n-n.ensures.value in
    let cactus = subst (IsCactus c.args.cactus.vertices) c.into_root.ensures.value c.into_root.ensures.cactus in
    let grown = grown_root c.args.u c.args.v c.args.cactus c.into_root.result x c.into_root.ensures.value c.in_ok-root.ensures in
    none_empty c.args.u c.args.v c.args.cactus c.requires.u_from_one c.requires.u_to_n c.requires.v_from_one c.requires.v_to_n x c.from_root-kept.result is cactus grown (sym c.in_ok-was_normal.ensures ∙ c.if-was_normal.true)

pub returns-then-was_normal : goal.returns-then-was_normal
returns-then-was_normal c =
    let x = c.in_ok-root.root in
    let is : c.from_root-kept.result ≡ record { vertices = c.args.cactus.vertices; root = x } = c.from_root-kept.ensures ∙ ap (λ n. let r : Rooted = record { vertices = n; root = x } in r) c.n-n.ensures.value in
    let cactus = subst (IsCactus c.args.cactus.vertices) c.into_root.ensures.value c.into_root.ensures.cactus in
    let grown = grown_root c.args.u c.args.v c.args.cactus c.into_root.result x c.into_root.ensures.value c.in_ok-root.ensures in
    kept_after c.args.u c.args.v c.args.cactus c.requires.u_from_one c.requires.u_to_n c.requires.v_from_one c.requires.v_to_n x c.from_root-kept.result c.in_ok-kept.kept is cactus grown (grind (arith, c.if-not-has_block.false, c.has_block.ensures))
    c.in_ok-kept.ensures.n c.in_ok-kept.ensures.sides (λ e. c.in_ok-kept.ensures.normal)

pub returns : goal.returns
returns c =
    let x = c.in_ok-root.root in
    let is : c.from_root-kept.result ≡ record { vertices = c.args.cactus.vertices; root = x } = c.from_root-kept.ensures ∙ ap (λ n. let r : Rooted = record { vertices = n; root = x } in r) c.n-n.ensures.value in
    let cactus = subst (IsCactus c.args.cactus.vertices) c.into_root.ensures.value c.into_root.ensures.cactus in
    let grown = grown_root c.args.u c.args.v c.args.cactus c.into_root.result x c.into_root.ensures.value c.in_ok-root.ensures in
    kept_after c.args.u c.args.v c.args.cactus c.requires.u_from_one c.requires.u_to_n c.requires.v_from_one c.requires.v_to_n x c.from_root-kept.result c.from_root-kept.result is cactus grown (grind (arith, c.if-not-has_block.false, c.has_block.ensures))
    refl (λ side. ((λ m. m), (λ m. m))) (λ e. absurd (false≢true (sym c.if-was_normal.false ∙ c.in_ok-was_normal.ensures ∙ e)))
