-- A node taken apart into what stays of it and the closed walk through a node right below it.
use Rattle.std.proofs.Common.{◌≡◌, ℕ, ◌≤◌, ◌⊎◌, ◌↔◌, inl, inr, Bool, true, false, cond, ◌||◌, List, [], ◌∷◌, ◌++◌, map, refl, ap, ◌∙◌, sym, subst, arith}
use Rattle.std.specs.List.{Contains, flat_map}
use Rattle.std.proofs.lemmas.Bool.{false≢true, false_from_ne_true}
use Rattle.std.proofs.lemmas.List.{map-append}
use Rattle.std.proofs.lemmas.List.Concat.{flat_map-append}
use Rattle.std.proofs.lemmas.List.Elements.{All-nil, All-append, All-cons, All-head, All-tail, Contains-append_left, Contains-append_right, Contains-append_cases}
use Rattle.std.proofs.Math.Bool.{or-false}
use Rattle.cut_definitions.specs.Weight.{VertexSet}
use Rattle.cut_definitions.specs.Cuts.{has, IsAscendingWithin}
use Rattle.cut_definitions.proofs.Lists.{Contains-nil}
use Rattle.cut_definitions.proofs.Bools.{or_assoc, no_left, no_right}
use Rattle.cut_definitions.proofs.ListLaws.{All-front, All-back}
use Rattle.rooted_cactus.specs.Sides.{Part, part, block_part, all_of, belows, all_cuts, cycle_of}
use Rattle.rooted_cactus.specs.Entered.{entered, entered_block}
use Rattle.rooted_cactus.specs.Entries.{nodes_of}
use Rattle.rooted_cactus.specs.Trees.{vertices, blocks, nodes_in}
use Rattle.rooted_cactus.specs.Widths.{widths, block_widths}
use Rattle.rooted_cactus.specs.declared.tree.Node.{Node}
use Rattle.rooted_cactus.specs.declared.tree.Block.{Block}
use Rattle.rooted_cactus.proofs.Built.{ring_widths}
use Rattle.rooted_cactus.proofs.Entries.{nodes_bridge, nodes_cycle}
use Rattle.rooted_cactus.proofs.Layouts.{laid_out}
use Rattle.rooted_cactus.proofs.Orders.{entered_out, in_order_map}
use Rattle.rooted_cactus.proofs.Parts.{all_cuts_append, cycle_part}
use Rattle.rooted_cactus.proofs.Segments.{cycle_laid}
use Rattle.rooted_cactus.proofs.Views.{view}
use Rattle.rooted_cactus.proofs.Walks.{by_nodes, entered_nodes}
use Rattle.rooted_cactus.proofs.Widths.{widths_bridge}
use Rattle.rooted_cactus.proofs.BlockLaws.{widths_flat, nodes_laid, block_laid}
use Rattle.rooted_cactus.proofs.Trims.{cuts_out}
use Rattle.cactus_growth.specs.Growth.{times, AreOnce, AreAscending, AreWide, AreHung, IsOpened}
use Rattle.cactus_growth.proofs.Counts.{count_both, count_some}
use Rattle.cactus_growth.proofs.Hung.{one_part}
use Rattle.cactus_growth.proofs.Pulled.{times_more}
use Rattle.rooted_cactus.proofs.Within.{block_within, of_lists, of_append}
use Rattle.cactus_growth.proofs.WaysDown.{below_at}

-- ---- lists with one element among others
pub mid_flat : {X Y : Type 0} (f : X → List Y) (xs ys all : List X) (x : X) → all ≡ xs ++ x ∷ ys → flat_map f all ≡ flat_map f xs ++ (f x ++ flat_map f ys)
mid_flat f xs ys all x e = ap (flat_map f) e ∙ flat_map-append f xs (x ∷ ys)

pub below_both : (xs ys : List Node) (u : ℕ) → all_of (belows (map part (xs ++ ys))) u ≡ (all_of (belows (map part xs)) u || all_of (belows (map part ys)) u)
below_both [] ys u = refl
below_both (x ∷ xs) ys u = ap (λ k. (part x).below u || k) (below_both xs ys u) ∙ or_assoc ((part x).below u) (all_of (belows (map part xs)) u) (all_of (belows (map part ys)) u)

-- what is below some nodes, as the vertices of their lists
pub below_listed : (xs : List Node) (u : ℕ) → all_of (belows (map part xs)) u ≡ of_lists (flat_map entered xs) u
below_listed xs u = ap (λ (t : VertexSet). t u) (cycle_laid (map part xs) (map entered xs) (nodes_laid xs)).below ∙ ap (λ ls. of_lists ls u) (in_order_map entered xs)

pub node_listed : (x : Node) (u : ℕ) → (part x).below u ≡ of_lists (entered x) u
node_listed x u = ap (λ (t : VertexSet). t u) (laid_out x).below

-- if no vertex is in two nodes, one below a node is below none of the others
pub other_nodes : (xs ys all : List Node) (x : Node) → all ≡ xs ++ x ∷ ys → AreOnce (flat_map entered all) → (v : ℕ) → (part x).below v ≡ true →
    (all_of (belows (map part xs)) v ≡ false) × (all_of (belows (map part ys)) v ≡ false)
other_nodes xs ys all x e once v h =
    let here = count_some v (entered x) (sym (node_listed x v) ∙ h) in
    let lists = ap (times v) (mid_flat entered xs ys all x e) in
    let one = count_both v (flat_map entered xs) (entered x ++ flat_map entered ys) in
    let two = count_both v (entered x) (flat_map entered ys) in (
      false_from_ne_true (all_of (belows (map part xs)) v) (λ k. omega (arith, once v, lists, one, two, here, count_some v (flat_map entered xs) (sym (below_listed xs v) ∙ k))),
      false_from_ne_true (all_of (belows (map part ys)) v) (λ k. omega (arith, once v, lists, one, two, here, count_some v (flat_map entered ys) (sym (below_listed ys v) ∙ k))),
    )

-- ---- what some blocks lack
block_lacks : (b : Block) (v : ℕ) → (block_part b).below v ≡ false → (s : VertexSet) → Contains (block_part b).cuts s → s v ≡ false
block_lacks b v none s c = false_from_ne_true (s v) (λ h. false≢true (sym none ∙ ap (λ (t : VertexSet). t v) (block_laid b).below ∙ block_within b s c v h))

pub blocks_lack : (bs : List Block) (v : ℕ) → all_of (belows (map block_part bs)) v ≡ false → (s : VertexSet) → Contains (all_cuts (map block_part bs)) s → s v ≡ false
blocks_lack [] v h s c = absurd (Contains-nil s c)
blocks_lack (b ∷ bs) v h s c = elim (Contains-append_cases (block_part b).cuts (all_cuts (map block_part bs)) s c) [
  | inl k ↦ block_lacks b v (no_left ((block_part b).below v) (all_of (belows (map block_part bs)) v) h) s k
  | inr k ↦ blocks_lack bs v (no_right ((block_part b).below v) (all_of (belows (map block_part bs)) v) h) s k
]

pub blocks_listed : (bs : List Block) (v : ℕ) → all_of (belows (map block_part bs)) v ≡ of_lists (flat_map entered_block bs) v
blocks_listed [] v = refl
blocks_listed (b ∷ bs) v =
    ap (λ k. k || all_of (belows (map block_part bs)) v) (ap (λ (t : VertexSet). t v) (block_laid b).below)
    ∙ ap (λ k. of_lists (entered_block b) v || k) (blocks_listed bs v) ∙ sym (of_append (entered_block b) (flat_map entered_block bs) v)

-- if a vertex is in one node alone, the cuts below that node lack it
pub own_lacks : (x : Node) (v : ℕ) → has (vertices x) v ≡ true → times v (entered x) ≤ 1 → (s : VertexSet) → Contains (part x).cuts s → s v ≡ false
own_lacks x v inside once s c =
    let none : all_of (belows (map block_part (blocks x))) v ≡ false = false_from_ne_true (all_of (belows (map block_part (blocks x))) v) (λ z. omega (
      arith,
      once,
      ap (times v) (entered_out x),
      times_more v (vertices x) (flat_map entered_block (blocks x)),
      ap {B = ℕ} (λ b. cond b 1 0) inside,
      count_some v (flat_map entered_block (blocks x)) (sym (blocks_listed (blocks x) v) ∙ z),
    )) in
    blocks_lack (blocks x) v none s (subst (λ l. Contains l s) (cuts_out x) c)

-- ---- a block as the closed walk through its nodes
pub walk_part : (b : Block) → block_part b ≡ cycle_of (map part (nodes_of b))
walk_part = by_nodes block_part (λ xs. cycle_of (map part xs)) (λ child. one_part (child.value ∷ []) child.value child refl refl) cycle_part

pub walk_wide : (b : Block) → AreWide (block_widths b) → AreWide (flat_map widths (nodes_of b))
walk_wide b a = elim (view b) [
  | inl h ↦ subst (λ c. AreWide (flat_map widths (nodes_of c))) (sym h.1)
      (subst (λ l. AreWide (flat_map widths l)) (sym (nodes_bridge h.0)) (All-append (λ k. 2 ≤ k) (widths h.0.value) [] (subst AreWide (ap block_widths h.1 ∙ widths_bridge h.0) a) (All-nil (λ k. 2 ≤ k))))
  | inr h ↦ subst (λ c. AreWide (flat_map widths (nodes_of c))) (sym h.1)
      (subst (λ l. AreWide (flat_map widths l)) (sym (nodes_cycle h.0)) (All-tail (λ k. 2 ≤ k) _ (flat_map widths (nodes_in h.0)) (subst AreWide (ap block_widths h.1 ∙ ring_widths h.0) a)))
]

-- ---- the blocks around one
abbrev Among : List Block → Block → List Block → VertexSet → Type 0
Among xs b ys s = Contains (all_cuts (map block_part xs)) s ⊎ (Contains (block_part b).cuts s ⊎ Contains (all_cuts (map block_part ys)) s)

cuts_around : (xs : List Block) (b : Block) (ys : List Block) → all_cuts (map block_part (xs ++ b ∷ ys)) ≡ all_cuts (map block_part xs) ++ ((block_part b).cuts ++ all_cuts (map block_part ys))
cuts_around xs b ys = ap all_cuts (map-append block_part xs (b ∷ ys)) ∙ all_cuts_append (map block_part xs) (map block_part (b ∷ ys))

among : (node : Node) (xs : List Block) (b : Block) (ys : List Block) → blocks node ≡ xs ++ b ∷ ys → (s : VertexSet) → Contains (part node).cuts s ↔ Among xs b ys s
among node xs b ys e s =
    let left = all_cuts (map block_part xs) in
    let mid = (block_part b).cuts in
    let right = all_cuts (map block_part ys) in
    let is : (part node).cuts ≡ left ++ (mid ++ right) = cuts_out node ∙ ap (λ bs. all_cuts (map block_part bs)) e ∙ cuts_around xs b ys in (
      (λ c. elim (Contains-append_cases left (mid ++ right) s (subst (λ l. Contains l s) is c)) [ inl k ↦ inl k | inr k ↦ inr (Contains-append_cases mid right s k) ]),
      (λ m. subst (λ l. Contains l s) (sym is) (elim m [
        | inl k ↦ Contains-append_left left (mid ++ right) s k
        | inr n ↦ Contains-append_right left (mid ++ right) s (elim n [ inl k ↦ Contains-append_left mid right s k | inr k ↦ Contains-append_right mid right s k ])
      ])),
    )

all_around : (xs : List Block) (b : Block) (ys : List Block) (w : ℕ) →
    all_of (belows (map block_part (xs ++ b ∷ ys))) w ≡ (all_of (belows (map block_part xs)) w || ((block_part b).below w || all_of (belows (map block_part ys)) w))
all_around [] b ys w = refl
all_around (x ∷ xs) b ys w = ap (λ k. (block_part x).below w || k) (all_around xs b ys w)
    ∙ or_assoc ((block_part x).below w) (all_of (belows (map block_part xs)) w) ((block_part b).below w || all_of (belows (map block_part ys)) w)

-- ---- a node without blocks
pub bare_lists : (node bare : Node) → vertices bare ≡ vertices node → blocks bare ≡ [] → entered bare ≡ vertices node ∷ []
bare_lists node bare e f = entered_out bare ∙ ap (λ bs. vertices bare ∷ flat_map entered_block bs) f ∙ ap (λ l. l ∷ []) e

pub bare_below : (node bare : Node) (w : ℕ) → vertices bare ≡ vertices node → blocks bare ≡ [] → (part bare).below w ≡ has (vertices node) w
bare_below node bare w e f =
    below_at bare w ∙ ap (λ bs. has (vertices bare) w || all_of (belows (map block_part bs)) w) f ∙ or-false (has (vertices bare) w) ∙ ap (λ l. has l w) e

pub bare_cuts : (bare : Node) → blocks bare ≡ [] → (s : VertexSet) → Contains (part bare).cuts s → ⊥
bare_cuts bare f s c = Contains-nil s (subst (λ l. Contains l s) (cuts_out bare ∙ ap (λ bs. all_cuts (map block_part bs)) f) c)

pub bare_wide : (bare : Node) → blocks bare ≡ [] → AreWide (widths bare)
bare_wide bare f = subst AreWide (sym (widths_flat bare ∙ ap (flat_map block_widths) f)) (All-nil (λ k. 2 ≤ k))

four_or : (a x b y : Bool) → (a || (x || (b || y))) ≡ (((a || x) || y) || b)
four_or true x b y = refl
four_or false true b y = refl
four_or false false true true = refl
four_or false false true false = refl
four_or false false false true = refl
four_or false false false false = refl

-- ---- a node with one block taken out, at a node of that block
module _ (old bare mid top : Node) (xs ys : List Block) (b : Block) (before after : List Node) (child : Node) (same : vertices bare ≡ vertices old) (none : blocks bare ≡ []) (is : blocks old ≡ xs ++ b ∷ ys)
    (first : AreHung bare xs mid) (rest : AreHung mid ys top) (nodes : nodes_of b ≡ before ++ child ∷ after) where
  abbrev walk : List Node
  walk = before ++ child ∷ after

  part_is : block_part b ≡ cycle_of (map part walk)
  part_is = walk_part b ∙ ap (λ l. cycle_of (map part l)) nodes

  lists_are : entered_block b ≡ flat_map entered walk
  lists_are = entered_nodes b ∙ ap (flat_map entered) nodes

  pub opened : IsOpened old top before child after
  opened = record {
    below = λ w.
        below_at old w ∙ ap (λ bs. has (vertices old) w || all_of (belows (map block_part bs)) w) is ∙ ap (λ k. has (vertices old) w || k) (all_around xs b ys w)
        ∙ four_or (has (vertices old) w) (all_of (belows (map block_part xs)) w) ((block_part b).below w) (all_of (belows (map block_part ys)) w)
        ∙ ap (λ k. ((k || all_of (belows (map block_part xs)) w) || all_of (belows (map block_part ys)) w) || (block_part b).below w) (sym (bare_below old bare w same none))
        ∙ ap (λ k. (k || all_of (belows (map block_part ys)) w) || (block_part b).below w) (sym (first.below w))
        ∙ ap (λ k. k || (block_part b).below w) (sym (rest.below w))
        ∙ ap (λ (q : Part). (part top).below w || q.below w) part_is;
    cuts = λ s. (
      (λ c. elim ((among old xs b ys is s).0 c) [
        | inl k ↦ inl ((rest.cuts s).1 (inl ((first.cuts s).1 (inr k))))
        | inr m ↦ elim m [
          | inl k ↦ inr (subst (λ (q : Part). Contains q.cuts s) part_is k)
          | inr k ↦ inl ((rest.cuts s).1 (inr k))
        ]
      ]),
      (λ m. elim m [
        | inl c ↦ elim ((rest.cuts s).0 c) [
          | inl k ↦ elim ((first.cuts s).0 k) [
            | inl z ↦ absurd (bare_cuts bare none s z)
            | inr z ↦ (among old xs b ys is s).1 (inl z)
          ]
          | inr k ↦ (among old xs b ys is s).1 (inr (inr k))
        ]
        | inr c ↦ (among old xs b ys is s).1 (inr (inl (subst (λ (q : Part). Contains q.cuts s) (sym part_is) c)))
      ]),
    );
    counts = λ w. omega (
      arith,
      rest.counts w,
      first.counts w,
      ap (times w) (bare_lists old bare same none),
      ap (times w) (entered_out old),
      times_more w (vertices old) (flat_map entered_block (blocks old)),
      times_more w (vertices old) [],
      ap (times w) (mid_flat entered_block xs ys (blocks old) b is),
      count_both w (flat_map entered_block xs) (entered_block b ++ flat_map entered_block ys),
      count_both w (entered_block b) (flat_map entered_block ys),
      ap (times w) lists_are,
    );
    ascending = λ n a.
        let P = IsAscendingWithin 1 n in
        let all : AreAscending n (vertices old ∷ flat_map entered_block (blocks old)) = subst (AreAscending n) (entered_out old) a in
        let pieces : AreAscending n (flat_map entered_block xs ++ (entered_block b ++ flat_map entered_block ys)) =
        subst (AreAscending n) (mid_flat entered_block xs ys (blocks old) b is) (All-tail P (vertices old) (flat_map entered_block (blocks old)) all) in
        let behind = All-back P (flat_map entered_block xs) (entered_block b ++ flat_map entered_block ys) pieces in
        let alone : AreAscending n (flat_map entered_block (blocks bare)) = subst (λ bs. AreAscending n (flat_map entered_block bs)) (sym none) (All-nil P) in (
          subst (AreAscending n) (sym (entered_out top))
              (All-cons P (vertices top) (flat_map entered_block (blocks top)) (subst P (sym (rest.own ∙ first.own ∙ same)) (All-head P (vertices old) (flat_map entered_block (blocks old)) all))
              (rest.ascending n (first.ascending n alone (All-front P (flat_map entered_block xs) (entered_block b ++ flat_map entered_block ys) pieces)) (All-back P (entered_block b) (flat_map entered_block ys) behind))),
          subst (AreAscending n) lists_are (All-front P (entered_block b) (flat_map entered_block ys) behind),
        );
    wide = λ a.
        let P : ℕ → Type 0 = λ z. 2 ≤ z in
        let pieces : AreWide (flat_map block_widths xs ++ (block_widths b ++ flat_map block_widths ys)) = subst AreWide (widths_flat old ∙ mid_flat block_widths xs ys (blocks old) b is) a in
        let behind = All-back P (flat_map block_widths xs) (block_widths b ++ flat_map block_widths ys) pieces in (
          rest.wide (first.wide (bare_wide bare none) (All-front P (flat_map block_widths xs) (block_widths b ++ flat_map block_widths ys) pieces)) (All-back P (block_widths b) (flat_map block_widths ys) behind),
          subst (λ l. AreWide (flat_map widths l)) nodes (walk_wide b (All-front P (block_widths b) (flat_map block_widths ys) behind)),
        );
    own = sym (rest.own ∙ first.own ∙ same);
  }
