-- A tree that shows what was read off a cactus without an empty side is a normal cactus with the same sides.
use Rattle.std.proofs.Common.{◌≡◌, ℕ, ◌≤◌, ◌<◌, inl, inr, true, List, [], ◌∷◌, length, map, ap, ◌∙◌, sym, refl, subst, arith}
use Rattle.std.specs.Prelude.{slice_index_or}
use Rattle.std.specs.List.{Contains, filter, range_with_len}
use Rattle.std.proofs.lemmas.Bool.{false≢true, or_left}
use Rattle.std.proofs.lemmas.List.{map-id}
use Rattle.std.proofs.lemmas.List.Elements.{All-contains}
use Rattle.cut_definitions.specs.Weight.{VertexSet}
use Rattle.cut_definitions.specs.Cuts.{has, IsAscendingWithin}
use Rattle.cut_definitions.proofs.Lists.{Contains-cons_cases, Contains-map, Contains-from_map}
use Rattle.cut_definitions.proofs.Ascending.{contains_has}
use Rattle.cut_definitions.proofs.ListLaws.{All-from_each}
use Rattle.rooted_cactus.specs.Sides.{Part, part, block_part, nothing, all_of, belows}
use Rattle.rooted_cactus.specs.Trees.{vertices, blocks}
use Rattle.rooted_cactus.specs.Entered.{entered}
use Rattle.rooted_cactus.specs.Entries.{read_node, kept}
use Rattle.rooted_cactus.specs.Rooted.{Rooted, IsCactus, sides_of}
use Rattle.rooted_cactus.specs.Normal.{is_normal}
use Rattle.rooted_cactus.specs.Widths.{widths}
use Rattle.rooted_cactus.specs.declared.tree.Node.{Node}
use Rattle.rooted_cactus.proofs.Lifts.{own_lists}
use Rattle.rooted_cactus.proofs.Orders.{entered_out}
use Rattle.rooted_cactus.proofs.Shapes.{root_normal}
use Rattle.rooted_cactus.specs.Different.{HaveSameSides, HasNoEmptySide}
use Rattle.rooted_cactus.specs.Trims.{SameSets, NoneEmpty, ShowsNode, IsGood, IsNodeOf}
use Rattle.rooted_cactus.proofs.Trims.{below_out}

-- ---- no cut is empty
filter_nothing : (xs : List ℕ) → filter nothing xs ≡ []
filter_nothing [] = refl
filter_nothing (x ∷ xs) = filter_nothing xs

abbrev over : ℕ → Node → Rooted
over n x = record { vertices = n; root = x }

pub none_empty : (n : ℕ) (root : Node) → IsCactus n root → HasNoEmptySide (over n root) → NoneEmpty ((part root).below ∷ (part root).cuts)
none_empty n root h some c = elim (Contains-cons_cases (part root).below (part root).cuts nothing c) [
  | inl k ↦ (
      let later : VertexSet = all_of (belows (map block_part (blocks root))) in
      let one : (part root).below 1 ≡ true = ap (λ (s : VertexSet). s 1) (below_out root) ∙ or_left (has (vertices root) 1) (later 1) (contains_has (vertices root) 1 h.root_has_one) in
      false≢true (sym (ap (λ (s : VertexSet). s 1) k) ∙ one))
  | inr k ↦ (
      let list : VertexSet → List ℕ = λ s. filter s (range_with_len 1 n) in
      let long : 0 < length (list nothing) = All-contains (λ side. 0 < length side) (map list (part root).cuts) (list nothing) some (Contains-map list (part root).cuts nothing k) in
      let none : length (list nothing) ≡ 0 = ap length (filter_nothing (range_with_len 1 n)) in
      omega (arith, long, none))
]

pub good_root : (n : ℕ) (root : Node) → IsCactus n root → HasNoEmptySide (over n root) → IsGood ((read_node has kept root).part.below ∷ (read_node has kept root).part.cuts) (read_node has kept root).counts
good_root n root h some = record {
  cuts = subst (λ (p : Part). NoneEmpty (p.below ∷ p.cuts)) (own_lists root) (none_empty n root h some);
  wide = h.wide;
}

-- ---- the tree
same_vertices : (root x : Node) → ShowsNode (read_node has kept root) x → vertices x ≡ vertices root
same_vertices root x s = s.own ∙ ap (λ ls. slice_index_or (map kept ls) 0 []) (entered_out root)

pub shown_cactus : (n : ℕ) (root x : Node) → IsCactus n root → ShowsNode (read_node has kept root) x → IsCactus n x
shown_cactus n root x h s = record {
  ascending = All-from_each (IsAscendingWithin 1 n) (entered x) (λ l k. elim (s.lists.members l k) [
    | inl e ↦ subst (IsAscendingWithin 1 n) (sym e) tt
    | inr t ↦ All-contains (IsAscendingWithin 1 n) (entered root) l h.ascending (subst (λ ls. Contains ls l) (map-id (entered root)) t)
  ]);
  in_one_node = λ v l k. s.lists.often v ∙ ap (λ ls. length (filter (λ m. has m v) ls)) (map-id (entered root)) ∙ h.in_one_node v l k;
  root_has_one = subst (λ l. Contains l 1) (sym (same_vertices root x s)) h.root_has_one;
  wide = All-from_each (λ k. 2 ≤ k) (widths x) s.wide;
}

pub shown_normal : (n : ℕ) (root x : Node) → IsCactus n root → ShowsNode (read_node has kept root) x → is_normal x ≡ true
shown_normal n root x h s = root_normal x 1 (subst (λ l. Contains l 1) (sym (same_vertices root x s)) h.root_has_one) ∙ s.fine

pub shown_cuts : (root x : Node) → ShowsNode (read_node has kept root) x → SameSets (part x).cuts (part root).cuts
shown_cuts root x s = subst (λ (p : Part). SameSets (part x).cuts p.cuts) (sym (own_lists root)) s.cuts

sides_way : (n : ℕ) (x y : Node) → ((s : VertexSet) → Contains (part x).cuts s → Contains (part y).cuts s) → (side : List ℕ) → Contains (sides_of (over n x)) side → Contains (sides_of (over n y)) side
sides_way n x y f side h =
    let list : VertexSet → List ℕ = λ s. filter s (range_with_len 1 n) in
    let r = Contains-from_map list (part x).cuts side h in
    subst (λ l. Contains (map list (part y).cuts) l) r.2 (Contains-map list (part y).cuts r.0 (f r.0 r.1))

pub same_sides : (n : ℕ) (x y : Node) → SameSets (part x).cuts (part y).cuts → HaveSameSides (over n x) (over n y)
same_sides n x y f = λ side. (sides_way n x y (λ t. (f t).0) side, sides_way n y x (λ t. (f t).1) side)

-- what is known of a tree that was put together from the entries of a cactus
pub record IsFinished (k : ℕ) (x : Node) (cactus : Rooted) : Type 0 where
  pub is_cactus : IsCactus k x
  pub normal : is_normal x ≡ true
  pub sides : HaveSameSides (over k x) cactus

pub finished : (cactus : Rooted) (k : ℕ) (root x : Node) → IsCactus cactus.vertices cactus.root → HasNoEmptySide cactus → root ≡ cactus.root → k ≡ cactus.vertices → IsNodeOf (read_node has kept root) x → IsFinished k x cactus
finished cactus k root x h some e n f =
    let s = subst (λ (y : Node). IsNodeOf (read_node has kept y) x) e f (good_root cactus.vertices cactus.root h some) in
    record {
      is_cactus = subst (λ m. IsCactus m x) (sym n) (shown_cactus cactus.vertices cactus.root x h s);
      normal = shown_normal cactus.vertices cactus.root x h s;
      sides = subst (λ m. HaveSameSides (over m x) cactus) (sym n) (same_sides cactus.vertices x cactus.root (shown_cuts cactus.root x s));
    }
