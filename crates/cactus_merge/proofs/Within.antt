-- What the cuts of a cactus can have.
use Rattle.std.proofs.Common.{◌≡◌, ℕ, Bool, true, false, cond, ◌+◌, ◌≤◌, ◌<◌, ◌==◌, List, [], ◌∷◌, ◌++◌, length, map, refl, sym, ◌∙◌, ap, subst, arith, ⊎_elim}
use Rattle.std.specs.List.{All, Contains, concat, filter, flat_map}
use Rattle.std.proofs.lemmas.Bool.{cases_Bool, or_from}
use Rattle.std.proofs.lemmas.List.Elements.{All-cons, All-nil, All-weaker, All-head}
use Rattle.cut_definitions.specs.Weight.{VertexSet}
use Rattle.cut_definitions.specs.Cuts.{has, IsAscendingWithin}
use Rattle.cut_definitions.proofs.Bridge.{has_low}
use Rattle.cut_definitions.proofs.Ascending.{has_high, contains_has}
use Rattle.cut_definitions.proofs.ListLaws.{All-front, All-back}
use Rattle.cut_definitions.proofs.Bools.{no_left, no_right}
use Rattle.rooted_cactus.specs.Sides.{Part, cuts, together, block_part}
use Rattle.rooted_cactus.specs.Trees.{vertices, blocks}
use Rattle.rooted_cactus.specs.Entered.{entered, entered_block}
use Rattle.rooted_cactus.specs.Rooted.{IsCactus}
use Rattle.rooted_cactus.specs.declared.tree.Node.{Node, roll-Node, out-Node}
use Rattle.rooted_cactus.proofs.Parts.{part_out}
use Rattle.rooted_cactus.proofs.Orders.{entered_out}
use Rattle.rooted_cactus.proofs.Segments.{IsSegment}
use Rattle.rooted_cactus.proofs.Layouts.{cut_is_segment}

-- the vertices of the nodes below a node
abbrev pub under : Node → List (List ℕ)
under x = flat_map entered_block (blocks x)

abbrev pub Lacks : ℕ → List ℕ → Type 0
Lacks v l = has l v ≡ false

pub lacks_append : (v : ℕ) (xs ys : List ℕ) → Lacks v xs → Lacks v ys → Lacks v (xs ++ ys)
lacks_append v [] ys h k = k
lacks_append v (x ∷ xs) ys h k =
    or_from (x == v) (has (xs ++ ys) v) (no_left (x == v) (has xs v) h) (lacks_append v xs ys (no_right (x == v) (has xs v) h) k)

pub all_lack : (v : ℕ) (ls : List (List ℕ)) → All (Lacks v) ls → Lacks v (concat ls)
all_lack v [] h = refl
all_lack v (l ∷ ls) h = lacks_append v l (concat ls) (All-head (Lacks v) l ls h) (all_lack v ls (All-back (Lacks v) (l ∷ []) ls h))

pub same_cuts : (x y : Node) → blocks x ≡ blocks y → cuts x ≡ cuts y
same_cuts x y e = ap (λ (p : Part). p.cuts) (part_out x) ∙ ap (λ bs. (together (map block_part bs)).cuts) e ∙ ap (λ (p : Part). p.cuts) (sym (part_out y))

-- a cut lacks what all nodes below the root lack
pub cut_lacks : (x : Node) (s : VertexSet) (v : ℕ) → Contains (cuts x) s → All (Lacks v) (under x) → s v ≡ false
cut_lacks x s v m h =
    let y : Node = roll-Node record { vertices = []; blocks = (out-Node x).blocks } in
    let g : IsSegment (entered y) s = cut_is_segment y s (subst (λ l. Contains l s) (same_cuts x y refl) m) in
    let whole : All (Lacks v) (g.before ++ (g.inside ++ g.behind)) = subst (All (Lacks v)) (sym (entered_out y) ∙ g.whole) (All-cons (Lacks v) [] (under x) refl h) in
    let inside : All (Lacks v) g.inside = All-front (Lacks v) g.inside g.behind (All-back (Lacks v) g.before (g.inside ++ g.behind) whole) in
    ap (λ (t : VertexSet). t v) g.set ∙ all_lack v g.inside inside

pub none_counted : (v : ℕ) (ls : List (List ℕ)) → length (filter (λ l. has l v) ls) ≡ 0 → All (Lacks v) ls
none_counted v [] e = All-nil (Lacks v)
none_counted v (l ∷ ls) e = ⊎_elim
    (λ yes. absurd (omega (arith, sym (ap (λ (b : Bool). length (cond b (l ∷ filter (λ l. has l v) ls) (filter (λ l. has l v) ls))) yes) ∙ e)))
    (λ no. All-cons (Lacks v) l ls no (none_counted v ls (sym (ap (λ (b : Bool). length (cond b (l ∷ filter (λ l. has l v) ls) (filter (λ l. has l v) ls))) no) ∙ e)))
    (cases_Bool (has l v))

module _ (k : ℕ) (root : Node) (is : IsCactus k root) (some : 1 ≤ k) where
  pub under_ascend : All (IsAscendingWithin 1 k) (under root)
  under_ascend = All-back (IsAscendingWithin 1 k) (vertices root ∷ []) (under root) (subst (All (IsAscendingWithin 1 k)) (entered_out root) is.ascending)

  -- vertex 1 is in the root alone
  pub under_lack_one : All (Lacks 1) (under root)
  under_lack_one =
      let here : has (vertices root) 1 ≡ true = contains_has (vertices root) 1 is.root_has_one in
      let count : length (filter (λ l. has l 1) (vertices root ∷ under root)) ≡ 1 = ap (λ ls. length (filter (λ l. has l 1) ls)) (sym (entered_out root)) ∙ is.in_one_node 1 (omega arith) some in
      let split : length (filter (λ l. has l 1) (vertices root ∷ under root)) ≡ length (filter (λ l. has l 1) (under root)) + 1 =
      ap (λ (b : Bool). length (cond b (vertices root ∷ filter (λ l. has l 1) (under root)) (filter (λ l. has l 1) (under root)))) here ∙ omega arith in
      none_counted 1 (under root) (omega (arith, count, split))

  pub cut_lacks_one : (s : VertexSet) → Contains (cuts root) s → s 1 ≡ false
  cut_lacks_one s m = cut_lacks root s 1 m under_lack_one

  pub cut_lacks_zero : (s : VertexSet) → Contains (cuts root) s → s 0 ≡ false
  cut_lacks_zero s m = cut_lacks root s 0 m (All-weaker (IsAscendingWithin 1 k) (Lacks 0) (λ l a. has_low 1 k 0 l a (omega arith)) (under root) under_ascend)

  pub cut_lacks_high : (s : VertexSet) (v : ℕ) → Contains (cuts root) s → k < v → s v ≡ false
  cut_lacks_high s v m h = cut_lacks root s v m (All-weaker (IsAscendingWithin 1 k) (Lacks v) (λ l a. has_high 1 k v l a h) (under root) under_ascend)
