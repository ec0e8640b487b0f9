-- The node of a part: the renamed root of its cactus, with other vertices at its top.
use Rattle.std.proofs.Common.{◌≡◌, ℕ, Bool, true, false, ◌+◌, ◌-◌, ◌≤◌, ◌<◌, ◌==◌, ◌||◌, suc, List, [], ◌∷◌, length, map, drop, get_or, sym, ◌∙◌, ap, subst, arith, ⊎_elim, ne_eqb}
use Rattle.std.specs.Prelude.{if◌then◌else◌}
use Rattle.std.specs.List.{All, flat_map}
use Rattle.std.proofs.lemmas.Bool.{cases_Bool}
use Rattle.std.proofs.lemmas.List.Elements.{All-cons, All-map}
use Rattle.cut_definitions.specs.Cuts.{has, IsAscendingWithin}
use Rattle.cut_definitions.proofs.Bools.{never_both}
use Rattle.cut_definitions.proofs.Ascending.{contains_has, has_contains}
use Rattle.residual_chain.specs.Chain.{ChainView}
use Rattle.arc_search.specs.Marks.{mark_of}
use Rattle.rooted_cactus.specs.Entered.{entered, entered_block, name_of, renamed}
use Rattle.rooted_cactus.specs.Sides.{cuts}
use Rattle.rooted_cactus.specs.Rooted.{IsCactus}
use Rattle.rooted_cactus.specs.Widths.{widths, block_widths, joined}
use Rattle.rooted_cactus.specs.Trees.{vertices, blocks}
use Rattle.rooted_cactus.specs.declared.tree.Node.{Node}
use Rattle.rooted_cactus.proofs.Orders.{entered_out}
use Rattle.rooted_cactus.proofs.Widths.{widths_out}
use Rattle.cactus_merge.specs.declared.part.PartCactus.{PartCactus}
use Rattle.cactus_merge.specs.Assembled.{IsPartOf, IsNodeOf, names_by}
use Rattle.cactus_merge.proofs.Images.{image}
use Rattle.cactus_merge.proofs.Lifted.{lifted_sides, name_at}
use Rattle.cactus_merge.proofs.Within.{Lacks, under, same_cuts, under_ascend, under_lack_one}
use Rattle.cactus_merge.proofs.Names.{from_two, begins_with_one, has_name, lacks_name, names_ascend, name_within, place_of, has_at, count_of, count_yes, count_no, count_head, count_none, count_renamed}

-- a node is the root of a part's cactus under the names of the part's list
pub record IsRenamed (p : PartCactus) (y : Node) : Type 0 where
  pub names : entered y ≡ map (renamed (names_by p.own)) (entered p.cactus.root)
  pub cuts : cuts y ≡ map (image (names_by p.own)) (cuts p.cactus.root)
  pub cactus : IsCactus p.cactus.vertices p.cactus.root
  pub widths : widths y ≡ widths p.cactus.root

-- the renamed vertices of the root, without its vertex 1
abbrev pub top_of : PartCactus → List ℕ
top_of p = renamed (names_by p.own) (drop 1 (vertices p.cactus.root))

-- the vertices at the top are these and a few more, and with the list they are those of the part
pub record IsTop (c : ChainView) (number : ℕ) (p : PartCactus) (extra top : List ℕ) : Type 0 where
  pub members : (v : ℕ) → has top v ≡ (has extra v || has (top_of p) v)
  pub ascends : IsAscendingWithin 1 (length c.numbers) top
  pub apart : (v : ℕ) → has extra v ≡ true → has p.own v ≡ false
  pub exact : (v : ℕ) → 1 ≤ v → v ≤ length c.numbers → (mark_of c.numbers v == number) ≡ (has extra v || has p.own v)
  pub first : number ≡ 1 → has top 1 ≡ true

pub renamed_vertices : (p : PartCactus) (y : Node) → IsRenamed p y → vertices y ≡ renamed (names_by p.own) (vertices p.cactus.root)
renamed_vertices p y r =
    let e : vertices y ∷ under y ≡ map (renamed (names_by p.own)) (vertices p.cactus.root ∷ under p.cactus.root) = sym (entered_out y) ∙ r.names ∙ ap (map (renamed (names_by p.own))) (entered_out p.cactus.root) in
    ap (λ ls. get_or ls 0 []) e

renamed_under : (p : PartCactus) (y : Node) → IsRenamed p y → under y ≡ map (renamed (names_by p.own)) (under p.cactus.root)
renamed_under p y r =
    let e : vertices y ∷ under y ≡ map (renamed (names_by p.own)) (vertices p.cactus.root ∷ under p.cactus.root) = sym (entered_out y) ∙ r.names ∙ ap (map (renamed (names_by p.own))) (entered_out p.cactus.root) in
    ap (drop 1) e

module _ (c : ChainView) (number : ℕ) (p : PartCactus) (y : Node) (part : IsPartOf c number p) (r : IsRenamed p y) where
  some : 1 ≤ p.cactus.vertices
  some = omega (arith, part.one_more)

  pub root_list : (vertices p.cactus.root ≡ 1 ∷ drop 1 (vertices p.cactus.root)) × IsAscendingWithin 2 p.cactus.vertices (drop 1 (vertices p.cactus.root))
  root_list =
      let a : All (IsAscendingWithin 1 p.cactus.vertices) (vertices p.cactus.root ∷ under p.cactus.root) = subst (All (IsAscendingWithin 1 p.cactus.vertices)) (entered_out p.cactus.root) r.cactus.ascending in
      begins_with_one p.cactus.vertices (vertices p.cactus.root) (a 0 [] (omega arith)) (contains_has (vertices p.cactus.root) 1 r.cactus.root_has_one)

  under_two : All (IsAscendingWithin 2 p.cactus.vertices) (under p.cactus.root)
  under_two = λ i d h. from_two p.cactus.vertices _ (under_ascend p.cactus.vertices p.cactus.root r.cactus some i d h) (under_lack_one p.cactus.vertices p.cactus.root r.cactus some i d h)

  pub top_ascends : (b : ℕ) → ((u : ℕ) → 2 ≤ u → u ≤ p.cactus.vertices → b ≤ name_of (names_by p.own) u) → IsAscendingWithin b (length c.numbers) (top_of p)
  top_ascends b h = names_ascend (length c.numbers) p.own p.cactus.vertices part.ascending part.one_more (drop 1 (vertices p.cactus.root)) 2 b (omega arith) root_list.1 h

  one_named : (u : ℕ) → 2 ≤ u → u ≤ p.cactus.vertices → 1 ≤ name_of (names_by p.own) u
  one_named u l h = (name_within (length c.numbers) p.own p.cactus.vertices part.ascending part.one_more u l h).0

  under_ascends : All (IsAscendingWithin 1 (length c.numbers)) (map (renamed (names_by p.own)) (under p.cactus.root))
  under_ascends = All-map (IsAscendingWithin 1 (length c.numbers)) (renamed (names_by p.own)) (under p.cactus.root)
      (λ i d h. names_ascend (length c.numbers) p.own p.cactus.vertices part.ascending part.one_more _ 2 1 (omega arith) (under_two i d h) one_named)

  -- a vertex that is not in the list has no name
  no_name : (v : ℕ) → has p.own v ≡ false → (u : ℕ) → 2 ≤ u → u ≤ p.cactus.vertices → name_of (names_by p.own) u ≡ v → ⊥
  no_name v lacks_it u l h e =
      let inside : u - 2 < length p.own = omega (arith, part.one_more, l, h) in
      never_both (has p.own v) (has_at p.own (u - 2) v inside (sym (name_at p.own u l (omega (arith, part.one_more, h))) ∙ e)) lacks_it

  pub top_lacks : (v : ℕ) → has p.own v ≡ false → Lacks v (top_of p)
  top_lacks v lacks_it = lacks_name (length c.numbers) p.own p.cactus.vertices part.ascending part.one_more (drop 1 (vertices p.cactus.root)) 2 v (omega arith) root_list.1 (no_name v lacks_it)

  under_lacks : (v : ℕ) → has p.own v ≡ false → All (Lacks v) (map (renamed (names_by p.own)) (under p.cactus.root))
  under_lacks v lacks_it = All-map (Lacks v) (renamed (names_by p.own)) (under p.cactus.root)
      (λ i d h. lacks_name (length c.numbers) p.own p.cactus.vertices part.ascending part.one_more _ 2 v (omega arith) (under_two i d h) (no_name v lacks_it))

  module _ (extra top : List ℕ) (is : IsTop c number p extra top) where
    count_extra : (v : ℕ) → has extra v ≡ true → count_of (top ∷ map (renamed (names_by p.own)) (under p.cactus.root)) v ≡ 1
    count_extra v has_it =
        count_yes top (map (renamed (names_by p.own)) (under p.cactus.root)) v (is.members v ∙ ap (λ (b : Bool). b || has (top_of p) v) has_it)
        ∙ ap suc (count_none (map (renamed (names_by p.own)) (under p.cactus.root)) v (under_lacks v (is.apart v has_it)))

    count_own : (v : ℕ) → has extra v ≡ false → has p.own v ≡ true → count_of (top ∷ map (renamed (names_by p.own)) (under p.cactus.root)) v ≡ 1
    count_own v lacks_it has_it =
        let at = place_of p.own v has_it in
        let u = at.place + 2 in
        let low : 2 ≤ u = omega arith in
        let high : u ≤ p.cactus.vertices = omega (arith, part.one_more, at.inside) in
        let back : u - 2 ≡ at.place = omega arith in
        let name : name_of (names_by p.own) u ≡ v = name_at p.own u low (omega (arith, at.inside)) ∙ ap (λ (j : ℕ). get_or p.own j 0) back ∙ at.there in
        let same : has top v ≡ has (vertices p.cactus.root) u =
        is.members v ∙ ap (λ (b : Bool). b || has (top_of p) v) lacks_it
        ∙ has_name (length c.numbers) p.own p.cactus.vertices part.ascending part.one_more (drop 1 (vertices p.cactus.root)) 2 u v (omega arith) root_list.1 low high name
        ∙ sym (ap (λ l. has l u) root_list.0 ∙ ap (λ (b : Bool). b || has (drop 1 (vertices p.cactus.root)) u) (ne_eqb 1 u (λ e. omega (arith, e)))) in
        let rest : count_of (map (renamed (names_by p.own)) (under p.cactus.root)) v ≡ count_of (under p.cactus.root) u =
        count_renamed (renamed (names_by p.own)) (under p.cactus.root) v u
        (λ i d h. has_name (length c.numbers) p.own p.cactus.vertices part.ascending part.one_more _ 2 u v (omega arith) (under_two i d h) low high name) in
        count_head top (vertices p.cactus.root) (map (renamed (names_by p.own)) (under p.cactus.root)) (under p.cactus.root) v u same rest
        ∙ ap (λ ls. count_of ls u) (sym (entered_out p.cactus.root))
        ∙ r.cactus.in_one_node u (omega arith) high

    count_other : (v : ℕ) → has extra v ≡ false → has p.own v ≡ false → count_of (top ∷ map (renamed (names_by p.own)) (under p.cactus.root)) v ≡ 0
    count_other v lacks_it none =
        count_no top (map (renamed (names_by p.own)) (under p.cactus.root)) v (is.members v ∙ ap (λ (b : Bool). b || has (top_of p) v) lacks_it ∙ top_lacks v none)
        ∙ count_none (map (renamed (names_by p.own)) (under p.cactus.root)) v (under_lacks v none)

    counted : (v : ℕ) → 1 ≤ v → v ≤ length c.numbers → count_of (top ∷ map (renamed (names_by p.own)) (under p.cactus.root)) v ≡ (if mark_of c.numbers v == number then 1 else 0)
    counted v l h = ⊎_elim
        (λ has_it. count_extra v has_it ∙ sym (ap (λ (b : Bool). if b then 1 else 0) (is.exact v l h ∙ ap (λ (b : Bool). b || has p.own v) has_it)))
        (λ lacks_it. ⊎_elim
        (λ has_it. count_own v lacks_it has_it ∙ sym (ap (λ (b : Bool). if b then 1 else 0) (is.exact v l h ∙ ap (λ (b : Bool). b || has p.own v) lacks_it ∙ has_it)))
        (λ none. count_other v lacks_it none ∙ sym (ap (λ (b : Bool). if b then 1 else 0) (is.exact v l h ∙ ap (λ (b : Bool). b || has p.own v) lacks_it ∙ none)))
        (cases_Bool (has p.own v)))
        (cases_Bool (has extra v))

    pub node_of : (x : Node) → vertices x ≡ top → blocks x ≡ blocks y → IsNodeOf c number p x
    node_of x t b =
        let below : under x ≡ map (renamed (names_by p.own)) (under p.cactus.root) = ap (flat_map entered_block) b ∙ renamed_under p y r in
        let whole : entered x ≡ top ∷ map (renamed (names_by p.own)) (under p.cactus.root) = entered_out x ∙ ap (λ l. l ∷ under x) t ∙ ap (λ ls. top ∷ ls) below in
        record {
          sides = lifted_sides (length c.numbers) p.own p.cactus.vertices p.cactus.root r.cactus part.one_more x (same_cuts x y b ∙ r.cuts);
          ascending = subst (All (IsAscendingWithin 1 (length c.numbers))) (sym whole) (All-cons (IsAscendingWithin 1 (length c.numbers)) top _ is.ascends under_ascends);
          placed = λ v l h. ap (λ ls. count_of ls v) whole ∙ counted v l h;
          wide = subst (All (λ k. 2 ≤ k)) (sym (widths_out x ∙ ap (λ bs. joined (map block_widths bs)) b ∙ sym (widths_out y) ∙ r.widths)) r.cactus.wide;
          first = λ e. has_contains (vertices x) 1 (ap (λ l. has l 1) t ∙ is.first e);
        }
