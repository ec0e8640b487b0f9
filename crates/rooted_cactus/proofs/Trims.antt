-- What can be spared of a node, a bridge or a cycle is left out, and the rest shows the same.
use Rattle.std.proofs.Common.{ne_eqb, ◌≡◌, ℕ, ◌≤◌, ◌⊎◌, inl, inr, Bool, true, false, cond, not, ◌&&◌, ◌||◌, ◌==◌, List, [], ◌∷◌, ◌++◌, length, map, ap, ◌∙◌, sym, refl, subst, arith, append-nil}
use Rattle.std.specs.Prelude.{nat_le, slice_index_or}
use Rattle.std.specs.List.{All, Contains, list_all, flat_map}
use Rattle.std.specs.declared.boxed.Box.{Box}
use Rattle.std.specs.declared.alloc.Global.{Global}
use Rattle.std.proofs.lemmas.Bool.{cases_Bool, and_parts, false≢true, not-true, and_from, le-leb}
use Rattle.std.proofs.lemmas.List.{length-map}
use Rattle.std.proofs.lemmas.List.Elements.{All-nil, All-cons, All-head, All-tail, Contains-append_left, Contains-append_right, Contains-append_cases}
use Rattle.std.specs.List.Sorted.{IsPermutation}
use Rattle.std.proofs.lemmas.List.Sorted.{IsPermutation-map, IsPermutation-sym, length_permutation}
use Rattle.cut_definitions.specs.Weight.{VertexSet, either}
use Rattle.cut_definitions.specs.Cuts.{has}
use Rattle.cut_definitions.proofs.Lists.{Contains-here, Contains-there, Contains-cons_cases}
use Rattle.cut_definitions.proofs.Bools.{not_or_true, from_not_and}
use Rattle.rooted_cactus.specs.Sides.{Part, part, block_part, nothing, all_of, belows, all_cuts, from_here}
use Rattle.rooted_cactus.specs.Trees.{vertices, blocks, nodes_in}
use Rattle.rooted_cactus.specs.Entered.{entered, entered_block}
use Rattle.rooted_cactus.specs.Widths.{widths, block_widths, joined}
use Rattle.rooted_cactus.specs.Normal.{BlockShape, shape, block_shape, child_fine, well_placed}
use Rattle.rooted_cactus.specs.Entries.{Read, parts_read, lists_read, counts_read, bridge_read, cycle_read, node_read, nodes_of}
use Rattle.rooted_cactus.specs.declared.tree.Node.{Node}
use Rattle.rooted_cactus.specs.declared.tree.Block.{Block}
use Rattle.rooted_cactus.specs.declared.tree.Children.{Children}
use Rattle.rooted_cactus.specs.declared.tree.Block.TheVariants.{Bridge, Cycle}
use Rattle.rooted_cactus.proofs.Parts.{part_out, bridge_part, cycle_part, either_nothing}
use Rattle.rooted_cactus.proofs.Orders.{entered_out, entered_bridge, entered_cycle}
use Rattle.rooted_cactus.proofs.Widths.{widths_out, widths_bridge, widths_cycle}
use Rattle.rooted_cactus.proofs.Shapes.{bridge_shape, cycle_shape, cycle_fine, wide_fine, child_parts}
use Rattle.rooted_cactus.proofs.Entries.{nodes_bridge}
use Rattle.rooted_cactus.specs.Trims.{SameSets, NoneEmpty, SameLists, AreWide, ShowsNode, ShowsChild, ShowsBlock, IsGood, Each, is_spare, is_above_bridge, trimmed_node}
use Rattle.rooted_cactus.proofs.Fits.{cycles_of}
use Rattle.rooted_cactus.proofs.Makes.{each_length}
use Rattle.rooted_cactus.proofs.Moved.{all_moved, flat_moved, passes_moved, same_both, same_itself, same_moved, same_without}
use Rattle.rooted_cactus.proofs.Views.{view}
use Rattle.rooted_cactus.proofs.Cycles.{here_first, cycle_cuts, cycle_cases, cycle_here, cycle_own, cycle_rest, cycle_whole}

-- ---- a node as a part
pub below_out : (x : Node) → (part x).below ≡ either (has (vertices x)) (all_of (belows (map block_part (blocks x))))
below_out x = ap (λ (p : Part). p.below) (part_out x)

pub cuts_out : (x : Node) → (part x).cuts ≡ all_cuts (map block_part (blocks x))
cuts_out x = ap (λ (p : Part). p.cuts) (part_out x)

-- ---- tests
pub well_many : (e above : Bool) (cs : List Bool) → 2 ≤ length cs → well_placed e (above ∷ cs) ≡ true
well_many e above cs h =
    ap (λ b. not e || (b && (not (length (above ∷ cs) == 2) || list_all (λ c. c) (above ∷ cs)))) (le-leb 2 (length (above ∷ cs)) (omega (arith, h)))
    ∙ ap (λ b. not e || (true && (not b || list_all (λ c. c) (above ∷ cs)))) (ne_eqb (length (above ∷ cs)) 2 (λ k. omega (arith, h, k)))
    ∙ not_or_true e

pub well_own : (v : ℕ) (vs : List ℕ) (around : List Bool) → well_placed (length (v ∷ vs) == 0) around ≡ true
well_own v vs around = ap (λ b. not b || (nat_le 2 (length around) && (not (length around == 2) || list_all (λ c. c) around))) (ne_eqb (length (v ∷ vs)) 0 (λ k. omega (arith, k)))

pub none_of : (vs : List ℕ) → (length vs == 0) ≡ true → vs ≡ []
none_of [] h = refl
none_of (v ∷ vs) h = absurd (false≢true (sym (ne_eqb (length (v ∷ vs)) 0 (λ k. omega (arith, k))) ∙ h))

pub placed_of : (above : Bool) (vs : List ℕ) (bs : List Block) → is_spare vs bs ≡ false → (vs ≡ [] → bs ≡ [] → ⊥) → well_placed (length vs == 0) (above ∷ cycles_of bs) ≡ true
placed_of above (v ∷ vs) bs stays some = well_own v vs (above ∷ cycles_of bs)
placed_of above [] [] stays some = absurd (some refl refl)
placed_of above [] (b ∷ []) stays some = absurd (false≢true (sym stays))
placed_of above [] (b ∷ (d ∷ bs)) stays some = well_many true above (cycles_of (b ∷ (d ∷ bs))) (omega arith)

pub cycle_placed : (vs : List ℕ) (bs : List Block) → is_above_bridge vs bs ≡ false → (vs ≡ [] → bs ≡ [] → ⊥) → well_placed (length vs == 0) (true ∷ cycles_of bs) ≡ true
cycle_placed (v ∷ vs) bs stays some = well_own v vs (true ∷ cycles_of bs)
cycle_placed [] [] stays some = absurd (some refl refl)
cycle_placed [] (b ∷ []) stays some = ap (λ c. c && true) (from_not_and (block_shape b).is_cycle stays)
cycle_placed [] (b ∷ (d ∷ bs)) stays some = well_many true true (cycles_of (b ∷ (d ∷ bs))) (omega arith)

pub bridge_to_cycle : (e : Bool) (cs : List Bool) → well_placed e (false ∷ cs) ≡ true → well_placed e (true ∷ cs) ≡ true
bridge_to_cycle false cs h = refl
bridge_to_cycle true [] h = absurd (false≢true h)
bridge_to_cycle true (c ∷ []) h = absurd (false≢true h)
bridge_to_cycle true (c ∷ (d ∷ cs)) h = well_many true true (c ∷ (d ∷ cs)) (omega arith)

-- ---- lists of sets
pub with_whole : (b c : VertexSet) (ks ls : List VertexSet) → b ≡ c → ((s : VertexSet) → Contains ks s → Contains ls s) → (s : VertexSet) → Contains (b ∷ ks) s → Contains (c ∷ ls) s
with_whole b c ks ls e f s h = elim (Contains-cons_cases b ks s h) [
  | inl k ↦ subst (λ t. Contains (c ∷ ls) t) (sym e ∙ k) (Contains-here c ls)
  | inr k ↦ Contains-there c ls s (f s k)
]

pub same_cons : (b c : VertexSet) (ks ls : List VertexSet) → b ≡ c → SameSets ks ls → SameSets (b ∷ ks) (c ∷ ls)
same_cons b c ks ls e f = λ s. (with_whole b c ks ls e (λ t. (f t).0) s, with_whole c b ls ks (sym e) (λ t. (f t).1) s)

-- the set is there already
pub same_own : (b c : VertexSet) (ks ls : List VertexSet) → b ≡ c → Contains ks b → SameSets ks ls → SameSets ks (c ∷ ls)
same_own b c ks ls e own f = λ s. (
  (λ h. Contains-there c ls s ((f s).0 h)),
  (λ h. elim (Contains-cons_cases c ls s h) [
    | inl k ↦ subst (λ t. Contains ks t) (e ∙ k) own
    | inr k ↦ (f s).1 k
  ]),
)

-- ---- a node without a vertex and without a block
pub no_node : (x : Node) (below : VertexSet) (cuts : List VertexSet) → (part x).below ≡ below → NoneEmpty (below ∷ cuts) → vertices x ≡ [] → blocks x ≡ [] → ⊥
no_node x below cuts same e v b =
    let at : (part x).below ≡ nothing =
    below_out x ∙ ap (λ l. either (has l) (all_of (belows (map block_part (blocks x))))) v ∙ ap (λ bs. either (has []) (all_of (belows (map block_part bs)))) b in
    e (subst (λ t. Contains (t ∷ cuts) nothing) (sym at ∙ same) (Contains-here nothing cuts))

-- ---- a bridge to a node that stays
pub kept_shows : (r : Read) (child : Box Node Global) → is_spare (vertices child.value) (blocks child.value) ≡ false → NoneEmpty (r.part.below ∷ r.part.cuts) → ShowsNode r child.value → ShowsBlock (bridge_read r) (Bridge child)
kept_shows r child stays some s =
    let x = child.value in
    let placed = placed_of false (vertices x) (blocks x) stays (no_node x r.part.below r.part.cuts s.below some) in
    record {
      below = ap (λ (p : Part). p.below) (bridge_part child) ∙ s.below;
      cuts = subst (λ (p : Part). SameSets p.cuts (r.part.below ∷ r.part.cuts)) (sym (bridge_part child)) (same_cons (part x).below r.part.below (part x).cuts r.part.cuts s.below s.cuts);
      lists = subst (λ ls. SameLists ls r.lists) (sym (entered_bridge child)) s.lists;
      wide = subst AreWide (sym (widths_bridge child)) s.wide;
      fine = ap (λ (b : BlockShape). b.fine) (bridge_shape child) ∙ child_parts false x ∙ and_from _ _ placed s.fine;
    }

-- ---- a bridge to a node that is left out
pub own_cut : (b : Block) → (block_shape b).fine ≡ true → Contains (block_part b).cuts (block_part b).below
own_cut b h = elim (view b) [
  | inl y ↦ subst (λ (p : Part). Contains p.cuts p.below) (sym (ap block_part y.1 ∙ bridge_part y.0)) (Contains-here (part y.0.value).below (part y.0.value).cuts)
  | inr y ↦ subst (λ (p : Part). Contains p.cuts p.below) (sym (ap block_part y.1 ∙ cycle_part y.0))
      (whole_of (nodes_in y.0) (and_parts _ _ (sym (ap (λ c. (block_shape c).fine) y.1 ∙ cycle_fine y.0) ∙ h)).0)
] where
  whole_of : (xs : List Node) → nat_le 2 (length (map shape xs)) ≡ true → Contains (cycle_cuts (map part xs)) (all_of (belows (map part xs)))
  whole_of [] k = absurd (false≢true k)
  whole_of (x ∷ xs) k = cycle_whole (part x) (map part xs)

pub one_shows : (r : Read) (x : Node) (b : Block) → is_spare (vertices x) (blocks x) ≡ true → blocks x ≡ b ∷ [] → ShowsNode r x → ShowsBlock (bridge_read r) b
one_shows r x b spare bs s =
    let v : vertices x ≡ [] = none_of (vertices x) (and_parts _ _ spare).0 in
    let below : (part x).below ≡ (block_part b).below =
    below_out x ∙ ap (λ l. either (has l) (all_of (belows (map block_part (blocks x))))) v ∙ ap (λ cs. all_of (belows (map block_part cs))) bs ∙ either_nothing (block_part b).below in
    let cuts : (part x).cuts ≡ (block_part b).cuts = cuts_out x ∙ ap (λ cs. all_cuts (map block_part cs)) bs ∙ append-nil (block_part b).cuts in
    let fine : (block_shape b).fine ≡ true = (and_parts (block_shape b).fine true (sym (ap (list_all (λ c. (block_shape c).fine)) bs) ∙ s.fine)).0 in
    let lists : entered x ≡ [] ∷ entered_block b =
    entered_out x ∙ ap (λ l. l ∷ flat_map entered_block (blocks x)) v ∙ ap (λ cs. [] ∷ flat_map entered_block cs) bs ∙ ap (λ ls. [] ∷ ls) (append-nil (entered_block b)) in
    let counts : widths x ≡ block_widths b = widths_out x ∙ ap (λ cs. joined (map block_widths cs)) bs ∙ append-nil (block_widths b) in
    record {
      below = sym below ∙ s.below;
      cuts = same_own (block_part b).below r.part.below (block_part b).cuts r.part.cuts (sym below ∙ s.below) (own_cut b fine) (subst (λ ks. SameSets ks r.part.cuts) cuts s.cuts);
      lists = same_without (entered_block b) r.lists (subst (λ ls. SameLists ls r.lists) lists s.lists);
      wide = subst AreWide counts s.wide;
      fine = fine;
    }

-- ---- a node of a cycle that stays
pub child_shows : (r : Read) (x : Node) → is_above_bridge (vertices x) (blocks x) ≡ false → NoneEmpty (r.part.below ∷ r.part.cuts) → ShowsNode r x → ShowsChild r x
child_shows r x stays some s =
    let placed = cycle_placed (vertices x) (blocks x) stays (no_node x r.part.below r.part.cuts s.below some) in
    record {
      below = s.below;
      cuts = same_cons (part x).below r.part.below (part x).cuts r.part.cuts s.below s.cuts;
      lists = s.lists;
      wide = s.wide;
      fine = child_parts true x ∙ and_from _ _ placed s.fine;
    }

-- ---- a node of a cycle that is replaced by the node below its bridge
over_bridge : (r : Read) (child : Box Node Global) → ShowsBlock (bridge_read r) (Bridge child) → ShowsChild r child.value
over_bridge r child s =
    let x = child.value in
    let fine = and_parts (well_placed (length (vertices x) == 0) (false ∷ cycles_of (blocks x))) (list_all (λ b. (block_shape b).fine) (blocks x)) (sym (ap (λ (b : BlockShape). b.fine) (bridge_shape child) ∙ child_parts false x) ∙ s.fine) in
    record {
      below = sym (ap (λ (p : Part). p.below) (bridge_part child)) ∙ s.below;
      cuts = subst (λ (p : Part). SameSets p.cuts (r.part.below ∷ r.part.cuts)) (bridge_part child) s.cuts;
      lists = subst (λ ls. SameLists ls r.lists) (entered_bridge child) s.lists;
      wide = subst AreWide (widths_bridge child) s.wide;
      fine = child_parts true x ∙ and_from _ _ (bridge_to_cycle (length (vertices x) == 0) (cycles_of (blocks x)) fine.0) fine.1;
    }

-- a node of a cycle stays, or is replaced by the node below its bridge
spare_block : (vs : List ℕ) (bs : List Block) → is_spare vs bs ≡ true → (b : Block) × (bs ≡ b ∷ [])
spare_block vs bs h = one bs (and_parts (length vs == 0) (length bs == 1) h).1 where
  one : (cs : List Block) → (length cs == 1) ≡ true → (b : Block) × (cs ≡ b ∷ [])
  one [] k = absurd (false≢true k)
  one (c ∷ []) k = (c, refl)
  one (c ∷ (d ∷ cs)) k = absurd (false≢true (sym (ne_eqb (length (c ∷ (d ∷ cs))) 1 (λ e. omega (arith, e))) ∙ k))

pub untrimmed : (x : Node) → is_above_bridge (vertices x) (blocks x) ≡ false → trimmed_node x ≡ x
untrimmed x stays = ap (λ t. cond t (slice_index_or (flat_map nodes_of (blocks x)) 0 x) x) stays

pub trimmed_is : (x y : Node) (b : Block) → is_above_bridge (vertices x) (blocks x) ≡ true → blocks x ≡ b ∷ [] → nodes_of b ≡ y ∷ [] → trimmed_node x ≡ y
trimmed_is x y b above bs nodes =
    ap (λ t. cond t (slice_index_or (flat_map nodes_of (blocks x)) 0 x) x) above
    ∙ ap (λ cs. slice_index_or (flat_map nodes_of cs) 0 x) bs
    ∙ ap (λ ys. slice_index_or (ys ++ []) 0 x) nodes

abbrev pub Stays : Node → Type 0
Stays x = (is_above_bridge (vertices x) (blocks x) ≡ false) × (trimmed_node x ≡ x)

abbrev pub GivesWay : Node → Type 0
GivesWay x = (child : Box Node Global) × (is_spare (vertices x) (blocks x) ≡ true) × (blocks x ≡ Bridge child ∷ []) × (child.value ≡ trimmed_node x)

pub trimming : (x : Node) → Stays x ⊎ GivesWay x
trimming x = elim (cases_Bool (is_above_bridge (vertices x) (blocks x))) [
  | inl above ↦ inr (
      let parts = and_parts (is_spare (vertices x) (blocks x)) (list_all (λ c. not (block_shape c).is_cycle) (blocks x)) above in
      let one = spare_block (vertices x) (blocks x) parts.0 in
      let straight : (block_shape one.0).is_cycle ≡ false = not-true (block_shape one.0).is_cycle (and_parts (not (block_shape one.0).is_cycle) true (sym (ap (list_all (λ c. not (block_shape c).is_cycle)) one.1) ∙ parts.1)).0 in
      elim (view one.0) [
        | inl y ↦ (
            let bs : blocks x ≡ Bridge y.0 ∷ [] = one.1 ∙ ap (λ (c : Block). c ∷ []) y.1 in
            (y.0, parts.0, bs, sym (trimmed_is x y.0.value (Bridge y.0) above bs (nodes_bridge y.0))))
        | inr y ↦ absurd (false≢true (sym straight ∙ ap (λ c. (block_shape c).is_cycle) y.1 ∙ ap (λ (c : BlockShape). c.is_cycle) (cycle_shape y.0)))
      ])
  | inr f ↦ inl (f, untrimmed x f)
]

pub trimmed_child : (r : Read) (x : Node) → NoneEmpty (r.part.below ∷ r.part.cuts) → ShowsNode r x → ShowsChild r (trimmed_node x)
trimmed_child r x some s = elim (trimming x) [
  | inl t ↦ subst (ShowsChild r) (sym t.1) (child_shows r x t.0 some s)
  | inr t ↦ subst (ShowsChild r) t.3 (over_bridge r t.0 (one_shows r x (Bridge t.0) t.1 t.2 s))
]

-- ---- what is good falls into what is good
abbrev Wide : List ℕ → Type 0
Wide = All (λ k. 2 ≤ k)

wide_left : (xs ys : List ℕ) → Wide (xs ++ ys) → Wide xs
wide_left [] ys a = All-nil (λ k. 2 ≤ k)
wide_left (x ∷ xs) ys a = All-cons (λ k. 2 ≤ k) x xs (All-head (λ k. 2 ≤ k) x (xs ++ ys) a) (wide_left xs ys (All-tail (λ k. 2 ≤ k) x (xs ++ ys) a))

wide_right : (xs ys : List ℕ) → Wide (xs ++ ys) → Wide ys
wide_right [] ys a = a
wide_right (x ∷ xs) ys a = wide_right xs ys (All-tail (λ k. 2 ≤ k) x (xs ++ ys) a)

abbrev pub GoodChildren : List Read → Type 0
GoodChildren rs = IsGood (cycle_cuts (parts_read rs)) (counts_read rs)

abbrev pub GoodBlocks : List Read → Type 0
GoodBlocks rs = IsGood (all_cuts (parts_read rs)) (counts_read rs)

pub children_head : (r : Read) (rs : List Read) → GoodChildren (r ∷ rs) → IsGood (r.part.below ∷ r.part.cuts) r.counts
children_head r rs g =
    let ps = parts_read rs in
    record {
      cuts = λ c. elim (Contains-cons_cases r.part.below r.part.cuts nothing c) [
        | inl k ↦ g.cuts (cycle_here r.part ps nothing (subst (λ t. Contains (from_here r.part.below (belows ps)) t) k (here_first r.part.below (belows ps))))
        | inr k ↦ g.cuts (cycle_own r.part ps nothing k)
      ];
      wide = wide_left r.counts (counts_read rs) g.wide;
    }

pub children_tail : (r : Read) (rs : List Read) → GoodChildren (r ∷ rs) → GoodChildren rs
children_tail r rs g = record { cuts = λ c. g.cuts (cycle_rest r.part (parts_read rs) nothing c); wide = wide_right r.counts (counts_read rs) g.wide }

pub blocks_head : (r : Read) (rs : List Read) → GoodBlocks (r ∷ rs) → IsGood r.part.cuts r.counts
blocks_head r rs g = record { cuts = λ c. g.cuts (Contains-append_left r.part.cuts (all_cuts (parts_read rs)) nothing c); wide = wide_left r.counts (counts_read rs) g.wide }

pub blocks_tail : (r : Read) (rs : List Read) → GoodBlocks (r ∷ rs) → GoodBlocks rs
blocks_tail r rs g = record { cuts = λ c. g.cuts (Contains-append_right r.part.cuts (all_cuts (parts_read rs)) nothing c); wide = wide_right r.counts (counts_read rs) g.wide }

-- each of several is good, and shows what it stands for
module _ {X Y : Type 0} (good : Read → Type 0) (is_of : Read → X → Type 0) (shows : Read → Y → Type 0) (value : X → Y) (all_good : List Read → Type 0)
    (head : (r : Read) (rs : List Read) → all_good (r ∷ rs) → good r) (tail : (r : Read) (rs : List Read) → all_good (r ∷ rs) → all_good rs)
    (gives : (r : Read) (x : X) → is_of r x → good r → shows r (value x)) where
  pub each_shows : (rs : List Read) (xs : List X) → Each is_of rs xs → all_good rs → Each shows rs (map value xs)
  each_shows [] [] h g = tt
  each_shows [] (x ∷ xs) h g = h
  each_shows (r ∷ rs) [] h g = h
  each_shows (r ∷ rs) (x ∷ xs) h g = (gives r x h.0 (head r rs g), each_shows rs xs h.1 (tail r rs g))

-- ---- what several show together
no_wide : AreWide []
no_wide k h = absurd (omega (arith, h.1))

wide_both : (ks ls : List ℕ) → AreWide ks → AreWide ls → AreWide (ks ++ ls)
wide_both ks ls a b k h = elim (Contains-append_cases ks ls k h) [ inl i ↦ a k i | inr i ↦ b k i ]

module _ {Y : Type 0} (shows : Read → Y → Type 0) where
  pub lists_together : (f : Y → List (List ℕ)) → ((r : Read) (y : Y) → shows r y → SameLists (f y) r.lists) → (rs : List Read) (ys : List Y) → Each shows rs ys → SameLists (flat_map f ys) (lists_read rs)
  lists_together f g [] [] h = same_itself []
  lists_together f g [] (y ∷ ys) h = absurd h
  lists_together f g (r ∷ rs) [] h = absurd h
  lists_together f g (r ∷ rs) (y ∷ ys) h = same_both (f y) r.lists (flat_map f ys) (lists_read rs) (g r y h.0) (lists_together f g rs ys h.1)

  wide_together : (f : Y → List ℕ) → ((r : Read) (y : Y) → shows r y → AreWide (f y)) → (rs : List Read) (ys : List Y) → Each shows rs ys → AreWide (joined (map f ys))
  wide_together f g [] [] h = no_wide
  wide_together f g [] (y ∷ ys) h = absurd h
  wide_together f g (r ∷ rs) [] h = absurd h
  wide_together f g (r ∷ rs) (y ∷ ys) h = wide_both (f y) (joined (map f ys)) (g r y h.0) (wide_together f g rs ys h.1)

  pub all_pass : (f : Y → Bool) → ((r : Read) (y : Y) → shows r y → f y ≡ true) → (rs : List Read) (ys : List Y) → Each shows rs ys → list_all f ys ≡ true
  all_pass f g [] [] h = refl
  all_pass f g [] (y ∷ ys) h = absurd h
  all_pass f g (r ∷ rs) [] h = absurd h
  all_pass f g (r ∷ rs) (y ∷ ys) h = and_from (f y) (list_all f ys) (g r y h.0) (all_pass f g rs ys h.1)

  parts_there : (f : Y → Part) (W : Part → Part → Type 0) → ((r : Read) (y : Y) → shows r y → W (f y) r.part) → (rs : List Read) (ys : List Y) → Each shows rs ys → Each W (map f ys) (parts_read rs)
  parts_there f W g [] [] h = tt
  parts_there f W g [] (y ∷ ys) h = h
  parts_there f W g (r ∷ rs) [] h = h
  parts_there f W g (r ∷ rs) (y ∷ ys) h = (g r y h.0, parts_there f W g rs ys h.1)

  parts_back : (f : Y → Part) (W : Part → Part → Type 0) → ((r : Read) (y : Y) → shows r y → W r.part (f y)) → (rs : List Read) (ys : List Y) → Each shows rs ys → Each W (parts_read rs) (map f ys)
  parts_back f W g [] [] h = tt
  parts_back f W g [] (y ∷ ys) h = h
  parts_back f W g (r ∷ rs) [] h = h
  parts_back f W g (r ∷ rs) (y ∷ ys) h = (g r y h.0, parts_back f W g rs ys h.1)

same_belows : (W : Part → Part → Type 0) → ((p q : Part) → W p q → p.below ≡ q.below) → (ps qs : List Part) → Each W ps qs → belows ps ≡ belows qs
same_belows W g [] [] h = refl
same_belows W g [] (q ∷ qs) h = absurd h
same_belows W g (p ∷ ps) [] h = absurd h
same_belows W g (p ∷ ps) (q ∷ qs) h = ap (λ b. b ∷ belows ps) (g p q h.0) ∙ ap (λ bs. q.below ∷ bs) (same_belows W g ps qs h.1)

-- parts with the same vertices below them, and with these the same cuts
abbrev Way : Part → Part → Type 0
Way p q = (p.below ≡ q.below) × ((t : VertexSet) → Contains (p.below ∷ p.cuts) t → Contains (q.below ∷ q.cuts) t)

cycle_way : (ps qs : List Part) → Each Way ps qs → (t : VertexSet) → Contains (cycle_cuts ps) t → Contains (cycle_cuts qs) t
cycle_way [] [] h t c = c
cycle_way [] (q ∷ qs) h t c = absurd h
cycle_way (p ∷ ps) [] h t c = absurd h
cycle_way (p ∷ ps) (q ∷ qs) h t c = elim (cycle_cases p ps t c) [
  | inl k ↦ cycle_here q qs t (subst (λ bs. Contains (from_here q.below bs) t) (same_belows Way (λ _ _ w. w.0) ps qs h.1) (subst (λ b. Contains (from_here b (belows ps)) t) h.0.0 k))
  | inr m ↦ elim m [
    | inl k ↦ elim (Contains-cons_cases q.below q.cuts t (h.0.1 t (Contains-there p.below p.cuts t k))) [
      | inl i ↦ cycle_here q qs t (subst (λ u. Contains (from_here q.below (belows qs)) u) i (here_first q.below (belows qs)))
      | inr i ↦ cycle_own q qs t i
    ]
    | inr k ↦ cycle_rest q qs t (cycle_way ps qs h.1 t k)
  ]
]

-- parts with the same vertices below them, and the same cuts
abbrev CutsWay : Part → Part → Type 0
CutsWay p q = (p.below ≡ q.below) × ((t : VertexSet) → Contains p.cuts t → Contains q.cuts t)

cuts_way : (ps qs : List Part) → Each CutsWay ps qs → (t : VertexSet) → Contains (all_cuts ps) t → Contains (all_cuts qs) t
cuts_way [] [] h t c = c
cuts_way [] (q ∷ qs) h t c = absurd h
cuts_way (p ∷ ps) [] h t c = absurd h
cuts_way (p ∷ ps) (q ∷ qs) h t c = elim (Contains-append_cases p.cuts (all_cuts ps) t c) [
  | inl k ↦ Contains-append_left q.cuts (all_cuts qs) t (h.0.1 t k)
  | inr k ↦ Contains-append_right q.cuts (all_cuts qs) t (cuts_way ps qs h.1 t k)
]

-- ---- a cycle through the children in some order, if that has the same cuts
pub cycle_made : (rs : List Read) (xs : List Node) (nodes : Children) → Each ShowsChild rs xs → 2 ≤ length rs → IsPermutation xs (nodes_in nodes) → SameSets (cycle_cuts (map part (nodes_in nodes))) (cycle_cuts (map part xs)) →
    ShowsBlock (cycle_read rs) (Cycle nodes)
cycle_made rs xs nodes s long p turn =
    let ys = nodes_in nodes in
    let there = parts_there ShowsChild part Way (λ r x h. (h.below, (λ t. (h.cuts t).0))) rs xs s in
    let back = parts_back ShowsChild part Way (λ r x h. (sym h.below, (λ t. (h.cuts t).1))) rs xs s in
    let many : length ys ≡ length rs = length_permutation xs ys p ∙ sym (each_length ShowsChild rs xs s) in
    let wide = wide_together ShowsChild widths (λ r x h. h.wide) rs xs s in
    let joins : AreWide (joined (map widths ys)) = λ k h. wide k (flat_moved (λ (l : List ℕ). l) (map widths ys) (map widths xs) (IsPermutation-sym _ _ (IsPermutation-map widths xs ys p)) k h) in
    let counts : AreWide (length (map widths ys) ∷ joined (map widths ys)) = λ k h. elim (Contains-cons_cases (length (map widths ys)) (joined (map widths ys)) k h) [
      | inl e ↦ omega (arith, e, length-map ys widths, many, long)
      | inr i ↦ joins k i
    ] in
    record {
      below = ap (λ (q : Part). q.below) (cycle_part nodes) ∙ sym (all_moved (map part xs) (map part ys) (IsPermutation-map part xs ys p)) ∙ ap all_of (same_belows Way (λ _ _ w. w.0) (map part xs) (parts_read rs) there);
      cuts = subst (λ (q : Part). SameSets q.cuts (cycle_cuts (parts_read rs))) (sym (cycle_part nodes))
          (λ t. ((λ h. cycle_way (map part xs) (parts_read rs) there t ((turn t).0 h)), (λ h. (turn t).1 (cycle_way (parts_read rs) (map part xs) back t h))));
      lists = subst (λ ls. SameLists ls (lists_read rs)) (sym (entered_cycle nodes)) (same_moved entered xs ys (lists_read rs) p (lists_together ShowsChild entered (λ r x h. h.lists) rs xs s));
      wide = subst AreWide (sym (widths_cycle nodes)) counts;
      fine = wide_fine nodes (omega (arith, long, many)) ∙ passes_moved (λ x. child_fine true (shape x)) xs ys p (all_pass ShowsChild (λ x. child_fine true (shape x)) (λ r x h. h.fine) rs xs s);
    }

-- ---- a node with the blocks in some order
pub node_made : (own : List ℕ) (rs : List Read) (bs : List Block) (x : Node) → vertices x ≡ own → Each ShowsBlock rs bs → IsPermutation bs (blocks x) → ShowsNode (node_read has own rs) x
node_made own rs bs x v s p =
    let ds = blocks x in
    let moved = IsPermutation-map block_part bs ds p in
    let there = parts_there ShowsBlock block_part CutsWay (λ r b h. (h.below, (λ t. (h.cuts t).0))) rs bs s in
    let back = parts_back ShowsBlock block_part CutsWay (λ r b h. (sym h.below, (λ t. (h.cuts t).1))) rs bs s in
    let wide = wide_together ShowsBlock block_widths (λ r b h. h.wide) rs bs s in
    let lists : SameLists (flat_map entered_block ds) (lists_read rs) = same_moved entered_block bs ds (lists_read rs) p (lists_together ShowsBlock entered_block (λ r b h. h.lists) rs bs s) in
    let joins : AreWide (joined (map block_widths ds)) = λ k h. wide k (flat_moved (λ (l : List ℕ). l) (map block_widths ds) (map block_widths bs) (IsPermutation-sym _ _ (IsPermutation-map block_widths bs ds p)) k h) in
    record {
      own = v;
      below = below_out x ∙ ap (λ l. either (has l) (all_of (belows (map block_part ds)))) v
          ∙ ap (either (has own)) (sym (all_moved (map block_part bs) (map block_part ds) moved) ∙ ap all_of (same_belows CutsWay (λ _ _ w. w.0) (map block_part bs) (parts_read rs) there));
      cuts = subst (λ ks. SameSets ks (all_cuts (parts_read rs))) (sym (cuts_out x))
          (λ t. (
            (λ h. cuts_way (map block_part bs) (parts_read rs) there t (flat_moved (λ (q : Part). q.cuts) (map block_part ds) (map block_part bs) (IsPermutation-sym (map block_part bs) (map block_part ds) moved) t h)),
            (λ h. flat_moved (λ (q : Part). q.cuts) (map block_part bs) (map block_part ds) moved t (cuts_way (parts_read rs) (map block_part bs) back t h)),
          ));
      lists = subst (λ ls. SameLists ls (own ∷ lists_read rs)) (sym (entered_out x ∙ ap (λ l. l ∷ flat_map entered_block ds) v))
          (same_both (own ∷ []) (own ∷ []) (flat_map entered_block ds) (lists_read rs) (same_itself (own ∷ [])) lists);
      wide = subst AreWide (sym (widths_out x)) joins;
      fine = passes_moved (λ b. (block_shape b).fine) bs ds p (all_pass ShowsBlock (λ b. (block_shape b).fine) (λ r b h. h.fine) rs bs s);
    }
