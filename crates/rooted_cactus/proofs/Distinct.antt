-- Of the cuts of a normal cactus each set once: lists of different sets, and how many these are.
use Rattle.std.proofs.Common.{ne_eqb, ◌≡◌, ℕ, suc, ◌+◌, ◌-◌, ◌≤◌, ◌⊎◌, inl, inr, Bool, true, false, ◌||◌, ◌&&◌, ◌==◌, List, [], ◌∷◌, ◌++◌, length, map, ap, ◌∙◌, sym, refl, subst, arith, append-nil}
use Rattle.std.specs.Prelude.{if◌then◌else◌}
use Rattle.std.specs.List.{Contains, AllByRecursion, filter, flat_map, concat, list_all, range_with_len}
use Rattle.std.specs.declared.boxed.Box.{Box}
use Rattle.std.specs.declared.alloc.Global.{Global}
use Rattle.std.proofs.lemmas.Bool.{or_cases, or_left, or_right, false≢true}
use Rattle.std.proofs.lemmas.List.{length-map, length-append}
use Rattle.std.proofs.lemmas.List.Elements.{All-contains, Contains-append_left, Contains-append_right, Contains-append_cases}
use Rattle.std.proofs.Math.Bool.{and-false}
use Rattle.cut_definitions.specs.Weight.{VertexSet, either}
use Rattle.cut_definitions.specs.Cuts.{has}
use Rattle.cut_definitions.proofs.Bridge.{has_within}
use Rattle.cut_definitions.proofs.Lists.{Contains-here, Contains-there, Contains-cons_cases, Contains-nil, Contains-map, Contains-from_map}
use Rattle.cut_definitions.proofs.Ascending.{has_contains, length-has}
use Rattle.rooted_cactus.specs.Sides.{Part, part, block_part, nothing, all_of, belows, all_cuts, from_here}
use Rattle.rooted_cactus.specs.Trees.{vertices, blocks, nodes_in}
use Rattle.rooted_cactus.specs.Entered.{entered, entered_block}
use Rattle.cut_definitions.specs.Graph.{IsVertex}
use Rattle.rooted_cactus.specs.Rooted.{IsCactus}
use Rattle.rooted_cactus.specs.declared.tree.Node.{Node}
use Rattle.rooted_cactus.specs.declared.tree.Block.{Block}
use Rattle.rooted_cactus.specs.declared.tree.Children.{Children}
use Rattle.rooted_cactus.specs.declared.tree.Block.TheVariants.{Bridge, Cycle}
use Rattle.rooted_cactus.proofs.Once.{all_vertices_within}
use Rattle.rooted_cactus.proofs.Parts.{bridge_part, cycle_part, either_nothing}
use Rattle.cut_definitions.specs.Members.{AreDifferent}
use Rattle.rooted_cactus.specs.NormalLaws.{LawOfCount}
use Rattle.rooted_cactus.specs.Numbers.{Tally, number, tally, triangle, between, all_own, all_under, own_of}
use Rattle.rooted_cactus.proofs.Sets.{IsIn, HasOne, Apart, same_set}
use Rattle.rooted_cactus.proofs.Rows.{IsSound, IsRow, one_left_out}
use Rattle.rooted_cactus.proofs.Cycles.{here_first, here_above, here_within, cycle_cuts, cycle_cases, cycle_here, cycle_own, cycle_rest, cycle_whole}
use Rattle.rooted_cactus.proofs.Views.{block_induction, each}
use Rattle.rooted_cactus.proofs.Clean.{clean_apart}
use Rattle.rooted_cactus.proofs.Covered.{node_listed, block_listed, blocks_listed, nodes_listed}
use Rattle.rooted_cactus.proofs.Fits.{IsFit, IsFitBlock, AreFitBlocks, AreFitNodes, IsSolid, IsPlaced, blocks_head, blocks_tail, nodes_head, nodes_placed, nodes_tail, node_blocks, own_apart, bridge_child, cycle_children, root_fit, root_solid}
use Rattle.rooted_cactus.proofs.Tallies.{number_out, tally_bridge, tally_cycle, cycle_own_is, all_numbers, triangle_some}
use Rattle.rooted_cactus.proofs.Trims.{below_out, cuts_out}

-- ---- lists of different sets
abbrev Sets : Type 0
Sets = List VertexSet

different_append : (xs ys : Sets) → AreDifferent xs → AreDifferent ys → ((s : VertexSet) → Contains xs s → Contains ys s → ⊥) → AreDifferent (xs ++ ys)
different_append [] ys a b f = b
different_append (x ∷ xs) ys a b f = (
  (λ c. elim (Contains-append_cases xs ys x c) [ inl h ↦ a.0 h | inr h ↦ f x (Contains-here x xs) h ]),
  different_append xs ys a.1 b (λ y h k. f y (Contains-there x xs y h) k),
)

record TakenOut (xs : Sets) (s : VertexSet) : Type 0 where
  rest : Sets
  different : AreDifferent rest
  others : Contains rest s → ⊥
  there : (t : VertexSet) → Contains xs t → (s ≡ t) ⊎ Contains rest t
  back : (t : VertexSet) → Contains rest t → Contains xs t
  many : length xs ≡ length rest + 1

take_out : (xs : Sets) (s : VertexSet) → AreDifferent xs → Contains xs s → TakenOut xs s
take_out [] s d c = absurd (Contains-nil s c)
take_out (x ∷ xs) s d c = elim (Contains-cons_cases x xs s c) [
  | inl e ↦ record {
    rest = xs;
    different = d.1;
    others = λ k. d.0 (subst (λ t. Contains xs t) (sym e) k);
    there = λ t k. elim (Contains-cons_cases x xs t k) [ inl f ↦ inl (sym e ∙ f) | inr h ↦ inr h ];
    back = λ t h. Contains-there x xs t h;
    many = omega arith;
  }
  | inr h ↦ (
      let r = take_out xs s d.1 h in
      record {
        rest = x ∷ r.rest;
        different = ((λ k. d.0 (r.back x k)), r.different);
        others = λ k. elim (Contains-cons_cases x r.rest s k) [ inl e ↦ d.0 (subst (λ t. Contains xs t) (sym e) h) | inr i ↦ r.others i ];
        there = λ t k. elim (Contains-cons_cases x xs t k) [
          | inl f ↦ inr (subst (λ u. Contains (x ∷ r.rest) u) f (Contains-here x r.rest))
          | inr i ↦ elim (r.there t i) [ inl e ↦ inl e | inr j ↦ inr (Contains-there x r.rest t j) ]
        ];
        back = λ t k. elim (Contains-cons_cases x r.rest t k) [
          | inl f ↦ subst (λ u. Contains (x ∷ xs) u) f (Contains-here x xs)
          | inr j ↦ Contains-there x xs t (r.back t j)
        ];
        many = omega (arith, r.many);
      })
]

-- ---- the cuts of several parts, each set once
record IsOnce (below : VertexSet) (cuts : Sets) (k : ℕ) : Type 0 where
  members : Sets
  different : AreDifferent members
  within : (s : VertexSet) → Contains members s → IsIn s below
  some : (s : VertexSet) → Contains members s → HasOne s
  there : (s : VertexSet) → Contains cuts s → Contains members s
  back : (s : VertexSet) → Contains members s → Contains cuts s
  many : length members ≡ k

-- of a node the same, but for the set of all that is below it
record IsOnceBut (below : VertexSet) (cuts : Sets) (k : ℕ) : Type 0 where
  members : Sets
  different : AreDifferent members
  within : (s : VertexSet) → Contains members s → IsIn s below
  some : (s : VertexSet) → Contains members s → HasOne s
  less : Contains members below → ⊥
  there : (s : VertexSet) → Contains (below ∷ cuts) s → Contains (below ∷ members) s
  back : (s : VertexSet) → Contains (below ∷ members) s → Contains (below ∷ cuts) s
  many : length members ≡ k

once_sound : (p : Part) (k : ℕ) → IsOnce p.below p.cuts k → IsSound p
once_sound p k o = record { within = λ s c. o.within s (o.there s c); nonempty = λ s c. o.some s (o.there s c) }

but_cases : (p : Part) (k : ℕ) (o : IsOnceBut p.below p.cuts k) (s : VertexSet) → Contains p.cuts s → (p.below ≡ s) ⊎ Contains o.members s
but_cases p k o s c = Contains-cons_cases p.below o.members s (o.there s (Contains-there p.below p.cuts s c))

but_sound : (p : Part) (k : ℕ) → IsOnceBut p.below p.cuts k → HasOne p.below → IsSound p
but_sound p k o one = record {
  within = λ s c. elim (but_cases p k o s c) [ inl e ↦ subst (λ t. IsIn t p.below) e (λ v h. h) | inr h ↦ o.within s h ];
  nonempty = λ s c. elim (but_cases p k o s c) [ inl e ↦ subst HasOne e one | inr h ↦ o.some s h ];
}

-- two parts side by side
once_both : (p : Part) (b : VertexSet) (cs : Sets) (k m : ℕ) → IsOnce p.below p.cuts k → IsOnce b cs m → Apart p.below b → IsOnce (either p.below b) (p.cuts ++ cs) (k + m)
once_both p b cs k m o q apart = record {
  members = o.members ++ q.members;
  different = different_append o.members q.members o.different q.different (λ s h i. (let w = o.some s h in apart w.0 (o.within s h w.0 w.1) (q.within s i w.0 w.1)));
  within = λ s c. elim (Contains-append_cases o.members q.members s c) [
    | inl h ↦ λ v e. or_left (p.below v) (b v) (o.within s h v e)
    | inr h ↦ λ v e. or_right (p.below v) (b v) (q.within s h v e)
  ];
  some = λ s c. elim (Contains-append_cases o.members q.members s c) [ inl h ↦ o.some s h | inr h ↦ q.some s h ];
  there = λ s c. elim (Contains-append_cases p.cuts cs s c) [
    | inl h ↦ Contains-append_left o.members q.members s (o.there s h)
    | inr h ↦ Contains-append_right o.members q.members s (q.there s h)
  ];
  back = λ s c. elim (Contains-append_cases o.members q.members s c) [
    | inl h ↦ Contains-append_left p.cuts cs s (o.back s h)
    | inr h ↦ Contains-append_right p.cuts cs s (q.back s h)
  ];
  many = omega (arith, length-append o.members q.members, o.many, q.many);
}

once_none : IsOnce nothing [] 0
once_none = record {
  members = [];
  different = tt;
  within = λ s c. absurd (Contains-nil s c);
  some = λ s c. absurd (Contains-nil s c);
  there = λ s c. c;
  back = λ s c. c;
  many = refl;
}

-- ---- the intervals that begin at one place
pub grown_apart : (s : VertexSet) (p : Part) (ps : List Part) → IsRow (p ∷ ps) → Apart s (all_of (belows (p ∷ ps))) → Apart (either s p.below) (all_of (belows ps))
grown_apart s p ps r a v h k = elim (or_cases (s v) (p.below v) h) [
  | inl e ↦ a v e (or_right (p.below v) (all_of (belows ps) v) k)
  | inr e ↦ r.2 v e k
]

here_different : (s : VertexSet) (ps : List Part) → IsRow ps → Apart s (all_of (belows ps)) → AreDifferent (from_here s (belows ps))
here_different s [] r a = ((λ c. Contains-nil s c), tt)
here_different s (p ∷ ps) r a = (
  (λ c. a r.1.0 (here_above (either s p.below) (belows ps) s c r.1.0 (or_right (s r.1.0) (p.below r.1.0) r.1.1)) (or_left (p.below r.1.0) (all_of (belows ps) r.1.0) r.1.1)),
  here_different (either s p.below) ps r.3 (grown_apart s p ps r a),
)

here_many : (s : VertexSet) (ts : Sets) → length (from_here s ts) ≡ suc (length ts)
here_many s [] = refl
here_many s (t ∷ ts) = omega (arith, here_many (either s t) ts)

-- ---- one more child of a cycle
once_child : (p : Part) (ps : List Part) (k m : ℕ) → IsOnceBut p.below p.cuts k → HasOne p.below → Apart p.below (all_of (belows ps)) → IsRow ps → IsOnce (all_of (belows ps)) (cycle_cuts ps) m →
    IsOnce (all_of (belows (p ∷ ps))) (cycle_cuts (p ∷ ps)) (suc (length ps) + (k + m))
once_child p ps k m o one apart row q =
    let begun = from_here p.below (belows ps) in
    let later = o.members ++ q.members in
    let first : Contains begun p.below = here_first p.below (belows ps) in
    let inner : AreDifferent later = different_append o.members q.members o.different q.different
    (λ s h i. (let w = o.some s h in apart w.0 (o.within s h w.0 w.1) (q.within s i w.0 w.1))) in
    record {
      members = begun ++ later;
      different = different_append begun later (here_different p.below ps row apart) inner
          (λ s h i. elim (Contains-append_cases o.members q.members s i) [
            | inl j ↦ o.less (subst (λ t. Contains o.members t) (same_set s p.below (o.within s j) (here_above p.below (belows ps) s h)) j)
            | inr j ↦ apart one.0 one.1 (q.within s j one.0 (here_above p.below (belows ps) s h one.0 one.1))
          ]);
      within = λ s c. elim (Contains-append_cases begun later s c) [
        | inl h ↦ here_within p.below (belows ps) s h
        | inr h ↦ elim (Contains-append_cases o.members q.members s h) [
          | inl j ↦ λ v e. or_left (p.below v) (all_of (belows ps) v) (o.within s j v e)
          | inr j ↦ λ v e. or_right (p.below v) (all_of (belows ps) v) (q.within s j v e)
        ]
      ];
      some = λ s c. elim (Contains-append_cases begun later s c) [
        | inl h ↦ (one.0, here_above p.below (belows ps) s h one.0 one.1)
        | inr h ↦ elim (Contains-append_cases o.members q.members s h) [ inl j ↦ o.some s j | inr j ↦ q.some s j ]
      ];
      there = λ s c. elim (cycle_cases p ps s c) [
        | inl h ↦ Contains-append_left begun later s h
        | inr n ↦ elim n [
          | inl h ↦ elim (but_cases p k o s h) [
            | inl e ↦ Contains-append_left begun later s (subst (λ t. Contains begun t) e first)
            | inr j ↦ Contains-append_right begun later s (Contains-append_left o.members q.members s j)
          ]
          | inr h ↦ Contains-append_right begun later s (Contains-append_right o.members q.members s (q.there s h))
        ]
      ];
      back = λ s c. elim (Contains-append_cases begun later s c) [
        | inl h ↦ cycle_here p ps s h
        | inr h ↦ elim (Contains-append_cases o.members q.members s h) [
          | inl j ↦ elim (Contains-cons_cases p.below p.cuts s (o.back s (Contains-there p.below o.members s j))) [
            | inl e ↦ cycle_here p ps s (subst (λ t. Contains begun t) e first)
            | inr i ↦ cycle_own p ps s i
          ]
          | inr j ↦ cycle_rest p ps s (q.back s j)
        ]
      ];
      many = omega (arith, length-append begun later, length-append o.members q.members, here_many p.below (belows ps), length-map ps (λ (r : Part). r.below), o.many, q.many);
    }

-- ---- a node as a part
row_one : (bs : List Block) → 1 ≤ length bs → IsRow (map block_part bs) → HasOne (all_of (belows (map block_part bs)))
row_one [] k r = absurd (omega (arith, k))
row_one (b ∷ bs) k r = (r.1.0, or_left ((block_part b).below r.1.0) (all_of (belows (map block_part bs)) r.1.0) r.1.1)

below_at : (x : Node) (v : ℕ) → (part x).below v ≡ has (vertices x) v || all_of (belows (map block_part (blocks x))) v
below_at x v = ap (λ (s : VertexSet). s v) (below_out x)

pub placed_one : (x : Node) → IsPlaced x → IsRow (map block_part (blocks x)) → HasOne (part x).below
placed_one x p r =
    let later : VertexSet = all_of (belows (map block_part (blocks x))) in
    let from_blocks : 1 ≤ length (blocks x) → HasOne (part x).below = λ k. (let w = row_one (blocks x) k r in (w.0, below_at x w.0 ∙ or_right (has (vertices x) w.0) (later w.0) w.1)) in
    elim p [
      | inl s ↦ elim s [
        | inl w ↦ (w.0, below_at x w.0 ∙ or_left (has (vertices x) w.0) (later w.0) w.1)
        | inr k ↦ from_blocks (omega (arith, k))
      ]
      | inr c ↦ (let one : length (blocks x) ≡ 1 = ap length c.1 in from_blocks (omega (arith, one)))
    ]

-- ---- the induction
module _ (n : ℕ) where
  abbrev NodeOnce : Node → Type 0
  NodeOnce x = IsFit n x → IsPlaced x → IsOnceBut (part x).below (part x).cuts (number x) × HasOne (part x).below

  abbrev WholeOnce : Part → ℕ → Type 0
  WholeOnce p k = IsOnce p.below p.cuts k × HasOne p.below × Contains p.cuts p.below

  abbrev BlockOnce : Block → Type 0
  BlockOnce b = IsFitBlock n b → WholeOnce (block_part b) ((tally b).own + (tally b).under)

  once_blocks : (bs : List Block) → AllByRecursion BlockOnce bs → AreFitBlocks n bs →
      IsOnce (all_of (belows (map block_part bs))) (all_cuts (map block_part bs)) (all_own (map tally bs) + all_under (map tally bs)) × IsRow (map block_part bs)
  once_blocks [] h f = (once_none, tt)
  once_blocks (b ∷ bs) h f =
      let p = block_part b in
      let ps = map block_part bs in
      let o = h.0 (blocks_head n b bs f) in
      let r = once_blocks bs h.1 (blocks_tail n b bs f) in
      let apart : Apart p.below (all_of (belows ps)) = λ v here there.
      clean_apart n (entered_block b) (flat_map entered_block bs) f.clean v
      (ap (λ (t : VertexSet). t v) (block_listed b) ∙ here) (ap (λ (t : VertexSet). t v) (blocks_listed bs) ∙ there) in
      let sum : ((tally b).own + (tally b).under) + (all_own (map tally bs) + all_under (map tally bs)) ≡ all_own (map tally (b ∷ bs)) + all_under (map tally (b ∷ bs)) = omega arith in (
        subst (IsOnce (all_of (belows (map block_part (b ∷ bs)))) (all_cuts (map block_part (b ∷ bs)))) sum (once_both p (all_of (belows ps)) (all_cuts ps) _ _ o.0 r.0 apart),
        (once_sound p _ o.0, o.1, apart, r.1),
      )

  once_nodes : (xs : List Node) → AllByRecursion NodeOnce xs → AreFitNodes n xs →
      IsOnce (all_of (belows (map part xs))) (cycle_cuts (map part xs)) (triangle (length xs) + all_numbers xs) × IsRow (map part xs)
  once_nodes [] h f = (once_none, tt)
  once_nodes (x ∷ xs) h f =
      let p = part x in
      let ps = map part xs in
      let o = h.0 (nodes_head n x xs f) (nodes_placed n x xs f) in
      let r = once_nodes xs h.1 (nodes_tail n x xs f) in
      let apart : Apart p.below (all_of (belows ps)) = λ v here there.
      clean_apart n (entered x) (flat_map entered xs) f.clean v
      (ap (λ (t : VertexSet). t v) (node_listed x) ∙ here) (ap (λ (t : VertexSet). t v) (nodes_listed xs) ∙ there) in
      let sum : suc (length ps) + (number x + (triangle (length xs) + all_numbers xs)) ≡ triangle (length (x ∷ xs)) + all_numbers (x ∷ xs) = omega (arith, length-map xs part) in (
        subst (IsOnce (all_of (belows (map part (x ∷ xs)))) (cycle_cuts (map part (x ∷ xs)))) sum (once_child p ps (number x) _ o.0 o.1 apart r.1 r.0),
        (but_sound p (number x) o.0 o.1, o.1, apart, r.1),
      )

  -- ---- a node
  solid_number : (x : Node) → IsSolid x → number x ≡ all_own (map tally (blocks x)) + all_under (map tally (blocks x))
  solid_number x s =
      let ts = map tally (blocks x) in
      let vs = vertices x in
      let inner : Bool = list_all (λ (b : Tally). b.is_cycle) ts in
      let free : between vs ts ≡ false = elim s [
        | inl w ↦ ap (λ b. b && ((length ts == 1) && inner)) (ne_eqb (length vs) 0 (λ e. omega (arith, e, length-has vs w.0 w.1)))
        | inr k ↦ ap (λ b. (length vs == 0) && (b && inner)) (ne_eqb (length ts) 1 (λ e. omega (arith, e, k, length-map (blocks x) tally))) ∙ and-false (length vs == 0)
      ] in
      let all : number x ≡ (all_own ts - 0) + all_under ts = number_out x ∙ ap (λ b. (all_own ts - (if b then 1 else 0)) + all_under ts) free in
      omega (arith, all)

  solid_once : (x : Node) → IsFit n x → IsSolid x → HasOne (part x).below →
      IsOnce (all_of (belows (map block_part (blocks x)))) (all_cuts (map block_part (blocks x))) (all_own (map tally (blocks x)) + all_under (map tally (blocks x))) → IsRow (map block_part (blocks x)) →
      IsOnceBut (part x).below (part x).cuts (number x)
  solid_once x f s one o row =
      let ps = map block_part (blocks x) in
      let b : VertexSet = (part x).below in
      let cs = (part x).cuts in
      let later : VertexSet = all_of (belows ps) in
      record {
        members = o.members;
        different = o.different;
        within = λ t c v e. below_at x v ∙ or_right (has (vertices x) v) (later v) (o.within t c v e);
        some = o.some;
        less = λ c. elim s [
          | inl w ↦ own_apart n x f w.0 w.1 (o.within b c w.0 (below_at x w.0 ∙ or_left (has (vertices x) w.0) (later w.0) w.1))
          | inr k ↦ (
              let u = one_left_out ps row (omega (arith, k, length-map (blocks x) block_part)) b b (o.back b c) (o.back b c) one.0 one.1 one.1 in
              false≢true (sym u.2 ∙ below_at x u.0 ∙ or_right (has (vertices x) u.0) (later u.0) u.1))
        ];
        there = λ t c. elim (Contains-cons_cases b cs t c) [
          | inl e ↦ subst (λ y. Contains (b ∷ o.members) y) e (Contains-here b o.members)
          | inr h ↦ Contains-there b o.members t (o.there t (subst (λ l. Contains l t) (cuts_out x) h))
        ];
        back = λ t c. elim (Contains-cons_cases b o.members t c) [
          | inl e ↦ subst (λ y. Contains (b ∷ cs) y) e (Contains-here b cs)
          | inr h ↦ Contains-there b cs t (subst (λ l. Contains l t) (sym (cuts_out x)) (o.back t h))
        ];
        many = o.many ∙ sym (solid_number x s);
      }

  alone_number : (x : Node) (nodes : Children) → blocks x ≡ Cycle nodes ∷ [] → vertices x ≡ [] → number x ≡ ((tally (Cycle nodes)).own - 1) + (tally (Cycle nodes)).under
  alone_number x nodes bs v =
      let t = tally (Cycle nodes) in
      let ring : t.is_cycle ≡ true = ap (λ (u : Tally). u.is_cycle) (tally_cycle nodes) in
      let all : number x ≡ ((t.own + 0) - 1) + (t.under + 0) =
      number_out x ∙ ap (λ vs. own_of vs (map tally (blocks x)) + all_under (map tally (blocks x))) v
      ∙ ap (λ cs. own_of [] (map tally cs) + all_under (map tally cs)) bs
      ∙ ap (λ b. ((t.own + 0) - (if b && true then 1 else 0)) + (t.under + 0)) ring in
      omega (arith, all)

  alone_once : (x : Node) (nodes : Children) → blocks x ≡ Cycle nodes ∷ [] → vertices x ≡ [] → IsFitBlock n (Cycle nodes) → WholeOnce (block_part (Cycle nodes)) ((tally (Cycle nodes)).own + (tally (Cycle nodes)).under) →
      IsOnceBut (part x).below (part x).cuts (number x)
  alone_once x nodes bs v f q =
      let p = block_part (Cycle nodes) in
      let b : VertexSet = p.below in
      let t = take_out q.0.members b q.0.different (q.0.there b q.2) in
      let below : (part x).below ≡ b =
      below_out x ∙ ap (λ l. either (has l) (all_of (belows (map block_part (blocks x))))) v ∙ ap (λ cs. all_of (belows (map block_part cs))) bs ∙ either_nothing b in
      let cuts : (part x).cuts ≡ p.cuts = cuts_out x ∙ ap (λ cs. all_cuts (map block_part cs)) bs ∙ append-nil p.cuts in
      let some : 1 ≤ (tally (Cycle nodes)).own = omega (arith, cycle_own_is nodes, triangle_some (length (nodes_in nodes)) (omega (arith, (cycle_children n nodes f).1))) in
      let but : IsOnceBut b p.cuts (number x) = record {
        members = t.rest;
        different = t.different;
        within = λ s c. q.0.within s (t.back s c);
        some = λ s c. q.0.some s (t.back s c);
        less = t.others;
        there = λ s c. elim (Contains-cons_cases b p.cuts s c) [
          | inl e ↦ subst (λ y. Contains (b ∷ t.rest) y) e (Contains-here b t.rest)
          | inr h ↦ elim (t.there s (q.0.there s h)) [
            | inl e ↦ subst (λ y. Contains (b ∷ t.rest) y) e (Contains-here b t.rest)
            | inr j ↦ Contains-there b t.rest s j
          ]
        ];
        back = λ s c. elim (Contains-cons_cases b t.rest s c) [
          | inl e ↦ subst (λ y. Contains (b ∷ p.cuts) y) e (Contains-here b p.cuts)
          | inr j ↦ Contains-there b p.cuts s (q.0.back s (t.back s j))
        ];
        many = omega (arith, t.many, q.0.many, some, alone_number x nodes bs v);
      } in
      subst (λ y. IsOnceBut y (part x).cuts (number x)) (sym below) (subst (λ l. IsOnceBut b l (number x)) (sym cuts) but)

  node_case : (x : Node) → AllByRecursion BlockOnce (blocks x) → NodeOnce x
  node_case x h f placed =
      let r = once_blocks (blocks x) h (node_blocks n x f) in
      let one = placed_one x placed r.1 in (
        elim placed [
          | inl s ↦ solid_once x f s one r.0 r.1
          | inr c ↦ (
              let fit : IsFitBlock n (Cycle c.0) = blocks_head n (Cycle c.0) [] (subst (AreFitBlocks n) c.1 (node_blocks n x f)) in
              alone_once x c.0 c.1 c.2 fit ((subst (AllByRecursion BlockOnce) c.1 h).0 fit))
        ],
        one,
      )

  bridge_case : (child : Box Node Global) → NodeOnce child.value → BlockOnce (Bridge child)
  bridge_case child h f =
      let x = child.value in
      let p = part x in
      let g = bridge_child n child f in
      let s = h g.0 (inl g.1) in
      let o = s.0 in
      let many : suc (number x) ≡ (tally (Bridge child)).own + (tally (Bridge child)).under = omega (arith, ap (λ (t : Tally). t.own) (tally_bridge child), ap (λ (t : Tally). t.under) (tally_bridge child)) in
      let once : IsOnce p.below (p.below ∷ p.cuts) ((tally (Bridge child)).own + (tally (Bridge child)).under) = record {
        members = p.below ∷ o.members;
        different = (o.less, o.different);
        within = λ t c. elim (Contains-cons_cases p.below o.members t c) [ inl e ↦ subst (λ y. IsIn y p.below) e (λ v k. k) | inr k ↦ o.within t k ];
        some = λ t c. elim (Contains-cons_cases p.below o.members t c) [ inl e ↦ subst HasOne e s.1 | inr k ↦ o.some t k ];
        there = o.there;
        back = o.back;
        many = omega (arith, o.many, many);
      } in
      subst (λ q. WholeOnce q ((tally (Bridge child)).own + (tally (Bridge child)).under)) (sym (bridge_part child)) (once, s.1, Contains-here p.below p.cuts)

  whole_of : (xs : List Node) → 2 ≤ length xs → IsRow (map part xs) → HasOne (all_of (belows (map part xs))) × Contains (cycle_cuts (map part xs)) (all_of (belows (map part xs)))
  whole_of [] k r = absurd (omega (arith, k))
  whole_of (x ∷ xs) k r = ((r.1.0, or_left ((part x).below r.1.0) (all_of (belows (map part xs)) r.1.0) r.1.1), cycle_whole (part x) (map part xs))

  cycle_case : (nodes : Children) → AllByRecursion NodeOnce (nodes_in nodes) → BlockOnce (Cycle nodes)
  cycle_case nodes h f =
      let xs = nodes_in nodes in
      let ps = map part xs in
      let g = cycle_children n nodes f in
      let r = once_nodes xs h g.0 in
      let w = whole_of xs g.1 r.1 in
      let many : triangle (length xs) + all_numbers xs ≡ (tally (Cycle nodes)).own + (tally (Cycle nodes)).under = omega (arith, cycle_own_is nodes, ap (λ (t : Tally). t.under) (tally_cycle nodes)) in
      subst (λ q. WholeOnce q ((tally (Cycle nodes)).own + (tally (Cycle nodes)).under)) (sym (cycle_part nodes))
      (subst (IsOnce (all_of (belows ps)) (cycle_cuts ps)) many r.0, w.0, w.1)

  block_once : (b : Block) → BlockOnce b
  block_once = block_induction NodeOnce BlockOnce node_case bridge_case cycle_case

-- ---- from sets to lists
abbrev pub AreVertices : ℕ → VertexSet → Type 0
AreVertices n s = (v : ℕ) → s v ≡ true → IsVertex n v

pub listed_in : (n : ℕ) (s t : VertexSet) → AreVertices n s → filter s (range_with_len 1 n) ≡ filter t (range_with_len 1 n) → IsIn s t
listed_in n s t a e v h =
    let w : IsVertex n v = a v h in
    sym (has_within n 1 v t w.0 (omega (arith, w.1))) ∙ sym (ap (λ l. has l v) e) ∙ has_within n 1 v s w.0 (omega (arith, w.1)) ∙ h

pub listed_same : (n : ℕ) (s t : VertexSet) → AreVertices n s → AreVertices n t → filter s (range_with_len 1 n) ≡ filter t (range_with_len 1 n) → s ≡ t
listed_same n s t a b e = same_set s t (listed_in n s t a e) (listed_in n t s b (sym e))

pub root_vertices : (n : ℕ) (root : Node) → IsCactus n root → AreVertices n (part root).below
root_vertices n root h v e =
    All-contains (IsVertex n) (concat (entered root)) v (all_vertices_within n root h)
    (has_contains (concat (entered root)) v (ap (λ (s : VertexSet). s v) (node_listed root) ∙ e))

listed_different : (n : ℕ) (xs : Sets) → ((s : VertexSet) → Contains xs s → AreVertices n s) → AreDifferent xs → AreDifferent (map (λ (s : VertexSet). filter s (range_with_len 1 n)) xs)
listed_different n [] a d = tt
listed_different n (x ∷ xs) a d = (
  (λ c. (
      let r = Contains-from_map (λ (s : VertexSet). filter s (range_with_len 1 n)) xs (filter x (range_with_len 1 n)) c in
      d.0 (subst (λ s. Contains xs s) (listed_same n r.0 x (a r.0 (Contains-there x xs r.0 r.1)) (a x (Contains-here x xs)) r.2) r.1))),
  listed_different n xs (λ s c. a s (Contains-there x xs s c)) d.1,
)

pub number_of_sides : LawOfCount
number_of_sides n root h normal =
    let bs = blocks root in
    let ps = map block_part bs in
    let list : VertexSet → List ℕ = λ s. filter s (range_with_len 1 n) in
    let f : IsFit n root = root_fit n root h normal in
    let o = (once_blocks n bs (each (BlockOnce n) (block_once n) bs) (node_blocks n root f)).0 in
    let vertices_in : (s : VertexSet) → Contains o.members s → AreVertices n s =
    λ s c v e. root_vertices n root h v (below_at root v ∙ or_right (has (vertices root) v) (all_of (belows ps) v) (o.within s c v e)) in
    record {
      members = map list o.members;
      different = listed_different n o.members vertices_in o.different;
      same = λ l. (
        (λ c. (
            let r = Contains-from_map list o.members l c in
            subst (λ m. Contains (map list (part root).cuts) m) r.2 (Contains-map list (part root).cuts r.0 (subst (λ cs. Contains cs r.0) (sym (cuts_out root)) (o.back r.0 r.1))))),
        (λ c. (
            let r = Contains-from_map list (part root).cuts l c in
            subst (λ m. Contains (map list o.members) m) r.2 (Contains-map list o.members r.0 (o.there r.0 (subst (λ cs. Contains cs r.0) (cuts_out root) r.1))))),
      );
      many = length-map o.members list ∙ o.many ∙ sym (solid_number n root (root_solid n root h));
    }
