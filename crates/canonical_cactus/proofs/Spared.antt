-- What can be spared of a node, a bridge or a child of a cycle is left out, and the rest shows the same.
use Rattle.std.proofs.Common.{◌≡◌, inl, inr, true, false, ◌==◌, [], ◌∷◌, ◌++◌, length, map, ap, ◌∙◌, sym, subst, append-nil}
use Rattle.std.specs.List.{list_all}
use Rattle.std.specs.declared.boxed.Box.{Box}
use Rattle.std.specs.declared.alloc.Global.{Global}
use Rattle.std.proofs.lemmas.Bool.{cases_Bool, and_parts}
use Rattle.rooted_cactus.specs.Trees.{vertices, blocks}
use Rattle.rooted_cactus.specs.Entries.{Read, bridge_read}
use Rattle.rooted_cactus.specs.Trims as Trims
use Rattle.rooted_cactus.specs.Trims.{IsBridgeTo, is_spare, is_above_bridge, trimmed_node}
use Rattle.rooted_cactus.specs.declared.tree.Node.{Node}
use Rattle.rooted_cactus.specs.declared.tree.Block.{Block}
use Rattle.rooted_cactus.specs.declared.tree.Block.TheVariants.{Bridge}
use Rattle.rooted_cactus.proofs.Trims.{none_of, kept_shows, one_shows, trimming, trimmed_child, untrimmed}
use Rattle.rooted_cactus.proofs.Stands.{is_bridge}
use Rattle.canonical_cactus.specs.Canonical.{Arranged, arranged, arranged_block, all_vertices, ascend, leasts}
use Rattle.canonical_cactus.specs.Standing.{least_in}
use Rattle.canonical_cactus.specs.Making.{IsNodeOf, IsChildOf, IsBlockOf}
use Rattle.canonical_cactus.specs.declared.parts.Placed.{Placed}
use Rattle.canonical_cactus.specs.declared.parts.Hung.{Hung}
use Rattle.canonical_cactus.proofs.Arrangement.{arranged_out, arranged_bridge}

-- ---- a bridge to a node that stays
pub hung_kept : (r : Read) (p : Placed) (child : Box Node Global) (h : Hung) → child.value ≡ p.node → h.block ≡ Bridge child → h.least ≡ p.least →
    is_spare (vertices p.node) (blocks p.node) ≡ false → IsNodeOf r p → IsBlockOf (bridge_read r) h
hung_kept r p child h e b l stays n =
    let a : arranged_block h.block ≡ arranged p.node = ap arranged_block b ∙ arranged_bridge child ∙ ap arranged e in
    record {
      least = l ∙ n.least ∙ ap (λ (k : Arranged). least_in k.vertices) (sym a);
      shows = λ g.
          let s = n.shows record { normal = g.normal; apart = g.apart } in
          let stays_there = ap (λ (y : Node). is_spare (vertices y) (blocks y)) e ∙ stays in
          record {
            normal = subst (Trims.ShowsBlock (bridge_read r)) (sym b) (kept_shows r child stays_there g.normal.cuts (subst (Trims.ShowsNode r) (sym e) s.normal));
            in_order = ap (λ (k : Arranged). k.in_order) a ∙ s.in_order;
          };
    }

-- ---- a node that has nothing but one block
one_arranged : (x : Node) (b : Block) → is_spare (vertices x) (blocks x) ≡ true → blocks x ≡ b ∷ [] → (arranged x).vertices ≡ (arranged_block b).vertices
one_arranged x b spare bs =
    ap (λ (k : Arranged). k.vertices) (arranged_out x)
    ∙ ap (λ l. l ++ all_vertices (map arranged_block (blocks x))) (none_of (vertices x) (and_parts (length (vertices x) == 0) (length (blocks x) == 1) spare).0)
    ∙ ap (λ cs. all_vertices (map arranged_block cs)) bs
    ∙ append-nil (arranged_block b).vertices

one_in_order : (x : Node) (b : Block) → blocks x ≡ b ∷ [] → (arranged x).in_order ≡ true → (arranged_block b).in_order ≡ true
one_in_order x b bs s =
    let all_in : list_all (λ (k : Arranged). k.in_order) (map arranged_block (blocks x)) ≡ true =
    (and_parts (ascend (leasts (map arranged_block (blocks x)))) _ (sym (ap (λ (k : Arranged). k.in_order) (arranged_out x)) ∙ s)).1 in
    (and_parts (arranged_block b).in_order true (sym (ap (λ cs. list_all (λ (k : Arranged). k.in_order) (map arranged_block cs)) bs) ∙ all_in)).0

-- ---- what is hung or trimmed, whichever way it goes
pub hung_shows : (r : Read) (p : Placed) (h : Hung) → h.least ≡ p.least → (is_spare (vertices p.node) (blocks p.node) ≡ true → blocks p.node ≡ h.block ∷ []) → (is_spare (vertices p.node) (blocks p.node) ≡ false → IsBridgeTo h.block p.node) →
    IsNodeOf r p → IsBlockOf (bridge_read r) h
hung_shows r p h l spare stays n = elim (cases_Bool (is_spare (vertices p.node) (blocks p.node))) [
  | inl t ↦ record {
    least = l ∙ n.least ∙ ap least_in (one_arranged p.node h.block t (spare t));
    shows = λ g.
        let s = n.shows record { normal = g.normal; apart = g.apart } in
        record { normal = one_shows r p.node h.block t (spare t) s.normal; in_order = one_in_order p.node h.block (spare t) s.in_order };
  }
  | inr f ↦
      let y = is_bridge h.block p.node (stays f) in
      hung_kept r p y.0 h y.2 y.1 l f n
]

-- a node as it may be in a cycle
abbrev pub in_cycle : Placed → Placed
in_cycle p = record { node = trimmed_node p.node; least = p.least }

trimmed_arranged : (x : Node) → ((arranged (trimmed_node x)).vertices ≡ (arranged x).vertices) × ((arranged x).in_order ≡ true → (arranged (trimmed_node x)).in_order ≡ true)
trimmed_arranged x = elim (trimming x) [
  | inl t ↦ (ap (λ y. (arranged y).vertices) t.1, λ o. ap (λ y. (arranged y).in_order) t.1 ∙ o)
  | inr t ↦ (
      let a : arranged_block (Bridge t.0) ≡ arranged (trimmed_node x) = arranged_bridge t.0 ∙ ap arranged t.3 in (
        sym (one_arranged x (Bridge t.0) t.1 t.2 ∙ ap (λ (k : Arranged). k.vertices) a),
        λ o. sym (ap (λ (k : Arranged). k.in_order) a) ∙ one_in_order x (Bridge t.0) t.2 o,
      ))
]

pub trimmed_shows : (r : Read) (p : Placed) → IsNodeOf r p → IsChildOf r (in_cycle p)
trimmed_shows r p n = record {
  least = n.least ∙ ap least_in (sym (trimmed_arranged p.node).0);
  shows = λ g.
      let s = n.shows g in
      record { normal = trimmed_child r p.node g.normal.cuts s.normal; in_order = (trimmed_arranged p.node).1 s.in_order };
}

pub trimmed_kept : (r : Read) (p : Placed) → is_above_bridge (vertices p.node) (blocks p.node) ≡ false → IsNodeOf r p → IsChildOf r p
trimmed_kept r p stays n = subst (λ (x : Node). IsChildOf r record { node = x; least = p.least }) (untrimmed p.node stays) (trimmed_shows r p n)
