-- A tree that shows what was read off a cactus without an empty side is a canonical cactus with the same sides.
use Rattle.std.proofs.Common.{◌≡◌, ℕ, true, ◌∷◌, sym, subst}
use Rattle.std.proofs.lemmas.Bool.{and_from}
use Rattle.std.proofs.lemmas.List.{map-id}
use Rattle.cut_definitions.specs.Cuts.{has}
use Rattle.rooted_cactus.specs.Entered.{entered}
use Rattle.rooted_cactus.specs.Entries.{read_node, kept}
use Rattle.rooted_cactus.specs.Rooted.{Rooted, IsCactus, over}
use Rattle.rooted_cactus.specs.Normal.{is_normal}
use Rattle.rooted_cactus.specs.Different.{HaveSameSides, HasNoEmptySide}
use Rattle.rooted_cactus.specs.declared.tree.Node.{Node}
use Rattle.rooted_cactus.proofs.Clean.{root_clean}
use Rattle.rooted_cactus.proofs.Normals as Normals
use Rattle.rooted_cactus.proofs.Normals.{same_sides, shown_cactus, shown_cuts, shown_normal}
use Rattle.canonical_cactus.specs.Canonical.{arranged, is_canonical}
use Rattle.canonical_cactus.specs.Making.{AreApart, IsGood, IsNodeOf}
use Rattle.canonical_cactus.specs.declared.parts.Placed.{Placed}

good_root : (n : ℕ) (root : Node) → IsCactus n root → HasNoEmptySide (over n root) → IsGood ((read_node has kept root).part.below ∷ (read_node has kept root).part.cuts) (read_node has kept root)
good_root n root h some = record { normal = Normals.good_root n root h some; apart = subst AreApart (sym (map-id (entered root))) (root_clean n root h).once }

-- what is known of a tree that was put together from the entries of a cactus
pub record IsFinished (k : ℕ) (x : Node) (cactus : Rooted) : Type 0 where
  pub is_cactus : IsCactus k x
  pub canonical : is_canonical x ≡ true
  pub sides : HaveSameSides (over k x) cactus

pub finished : (cactus : Rooted) (k : ℕ) (root : Node) (p : Placed) → IsCactus cactus.vertices cactus.root → HasNoEmptySide cactus → root ≡ cactus.root → k ≡ cactus.vertices → IsNodeOf (read_node has kept root) p → IsFinished k p.node cactus
finished cactus k root p h some e n f =
    let s = (subst (λ (y : Node). IsNodeOf (read_node has kept y) p) e f).shows (good_root cactus.vertices cactus.root h some) in
    let x = p.node in
    record {
      is_cactus = subst (λ m. IsCactus m x) (sym n) (shown_cactus cactus.vertices cactus.root x h s.normal);
      canonical = and_from (is_normal x) (arranged x).in_order (shown_normal cactus.vertices cactus.root x h s.normal) s.in_order;
      sides = subst (λ m. HaveSameSides (over m x) cactus) (sym n) (same_sides cactus.vertices x cactus.root (shown_cuts cactus.root x s.normal));
    }
