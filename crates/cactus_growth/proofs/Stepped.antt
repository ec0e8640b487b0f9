-- One step further on a way.
use Rattle.std.proofs.Common.{◌≡◌, ℕ, zero, suc, ◌+◌, ◌-◌, ◌<◌, ◌≤◌, true, ◌||◌, List, [], ◌∷◌, ◌++◌, Some, length, map, take, drop, get_or, ap, ◌∙◌, sym, subst, arith}
use Rattle.std.specs.Prelude.{slice_get}
use Rattle.std.proofs.lemmas.List.{drop_more, drop_all, take-append-drop, length-take, take_rest}
use Rattle.std.proofs.lemmas.Option.{get_or_from_slice_get, slice_get_within}
use Rattle.cut_definitions.specs.Cuts.{has}
use Rattle.rooted_cactus.specs.Entered.{entered}
use Rattle.rooted_cactus.specs.Entries.{nodes_of, top_first}
use Rattle.rooted_cactus.specs.Sides.{part, block_part, all_of, belows}
use Rattle.rooted_cactus.specs.Trees.{vertices, blocks, nodes_in}
use Rattle.rooted_cactus.specs.declared.tree.Node.{Node}
use Rattle.rooted_cactus.specs.declared.tree.Block.{Block}
use Rattle.rooted_cactus.proofs.Entries.{top_push}
use Rattle.cactus_growth.specs.declared.growing.Opened.{Opened}
use Rattle.cactus_growth.specs.declared.ways.Step.{Step}
use Rattle.cactus_growth.specs.Growth.{AreOnce, IsArcHung, IsGrown, IsOpened}
use Rattle.cactus_growth.specs.Levels.{AreAbove}
use Rattle.cactus_growth.specs.Ways.{HasChild, IsWay, LeadsTo}
use Rattle.cactus_growth.proofs.GrownUp.{grown_up, opened_inside}
use Rattle.cactus_growth.proofs.WaysDown.{same_child, same_end, way_parts, way_inside, below_at}

pub stepped : (x z : Node) (way : List Step) (i : ℕ) (d : Step) → i < length way → IsWay x (drop i way) z → (y : Node) × HasChild x (get_or way i d) y × IsWay y (drop (i + 1) way) z
stepped x z way i d lt h = subst (λ l. IsWay x l z) (drop_more way i d lt) h

pub step_on : (x z c : Node) (way : List Step) (i : ℕ) (d : Step) → i < length way → HasChild x (get_or way i d) c → IsWay x (drop i way) z → IsWay c (drop (i + 1) way) z
step_on x z c way i d lt k h =
    let r = stepped x z way i d lt h in
    subst (λ y. IsWay y (drop (i + 1) way) z) (same_child x (get_or way i d) r.0 c r.1 k) r.2

pub leads_on : (v : ℕ) (x c : Node) (way : List Step) (i : ℕ) (d : Step) → i < length way → HasChild x (get_or way i d) c → LeadsTo v x (drop i way) → LeadsTo v c (drop (i + 1) way)
leads_on v x c way i d lt k h = (h.0, step_on x h.0 c way i d lt k h.1, h.2)

pub leads_inside : (v : ℕ) (x : Node) (way : List Step) → LeadsTo v x way → (part x).below v ≡ true
leads_inside v x way h = way_inside x way h.0 v h.1 (below_at h.0 v ∙ ap (λ k. k || all_of (belows (map block_part (blocks h.0))) v) h.2)

pub leads_end : (v : ℕ) (x : Node) (way : List Step) (i : ℕ) → length way ≤ i → LeadsTo v x (drop i way) → has (vertices x) v ≡ true
leads_end v x way i le h = ap (λ y. has (vertices y) v) (subst (λ l. IsWay x l h.0) (drop_all i way le) h.1) ∙ h.2

pub way_ended : (x z : Node) (way : List Step) (i : ℕ) → length way ≤ i → IsWay x (drop i way) z → x ≡ z
way_ended x z way i le h = subst (λ l. IsWay x l z) (drop_all i way le) h

-- ---- two ways with the same beginning
pub leads_split : (v : ℕ) (x : Node) (way : List Step) (k : ℕ) → LeadsTo v x way → (z : Node) × IsWay x (take k way) z × LeadsTo v z (drop k way)
leads_split v x way k h =
    let r = way_parts x (take k way) (drop k way) h.0 (subst (λ l. IsWay x l h.0) (sym (take-append-drop k way)) h.1) in
    (r.0, r.1, (h.0, r.2, h.2))

pub leads_rest : (v : ℕ) (x z : Node) (way first : List Step) (k : ℕ) → first ≡ take k way → IsWay x first z → LeadsTo v x way → LeadsTo v z (drop k way)
leads_rest v x z way first k e w h =
    let r = leads_split v x way k h in
    subst (λ y. LeadsTo v y (drop k way)) (same_end x (take k way) r.0 z r.1 (subst (λ l. IsWay x l z) e w)) r.2

-- ---- one level up
pub level_up : (u v : ℕ) (root o node x : Node) (left all : List Opened) (l : Opened) → all ≡ left ++ l ∷ [] → AreAbove root (top_first all) o → (part o).below u ≡ true → (part o).below v ≡ true → IsGrown u v o node →
    IsArcHung l.top (nodes_in l.before ++ node ∷ nodes_in l.after) x →
    (y : Node) × AreAbove root (top_first left) y × ((part y).below u ≡ true) × ((part y).below v ≡ true) × IsGrown u v y x
level_up u v root o node x left all l e a has_u has_v g k =
    let r : AreAbove root (l ∷ top_first left) o = subst (λ ls. AreAbove root ls o) (ap top_first e ∙ top_push left l) a in (
      r.0,
      r.3,
      opened_inside r.0 l.top o (nodes_in l.before) (nodes_in l.after) u r.1 has_u,
      opened_inside r.0 l.top o (nodes_in l.before) (nodes_in l.after) v r.1 has_v,
      grown_up u v r.0 l.top o node x (nodes_in l.before) (nodes_in l.after) r.1 r.2 has_u has_v g k,
    )

pub level_down : (root node child : Node) (left all : List Opened) (l : Opened) → all ≡ left ++ l ∷ [] → AreAbove root (top_first left) node → IsOpened node l.top (nodes_in l.before) child (nodes_in l.after) → AreOnce (entered node) →
    AreAbove root (top_first all) child
level_down root node child left all l e a o once = subst (λ ls. AreAbove root ls child) (sym (ap top_first e ∙ top_push left l)) (node, o, once, a)

-- ---- slices to the end of a list
pub slice_drop : {X : Type 0} (xs : List X) (k : ℕ) (x : X) → slice_get (drop k xs) 0 ≡ Some x → slice_get xs k ≡ Some x
slice_drop [] zero x e = e
slice_drop [] (suc k) x e = cc
slice_drop (y ∷ ys) zero x e = e
slice_drop (y ∷ ys) (suc k) x e = slice_drop ys k x e

slice_take : {X : Type 0} (xs : List X) (k i : ℕ) (x : X) → slice_get (take k xs) i ≡ Some x → slice_get xs i ≡ Some x
slice_take xs k i x e = ap (λ l. slice_get l i) (sym (take-append-drop k xs)) ∙ go (take k xs) i e
  where
    go : (zs : List _) (j : ℕ) → slice_get zs j ≡ Some x → slice_get (zs ++ drop k xs) j ≡ Some x
    go [] j f = cc
    go (z ∷ zs) zero f = f
    go (z ∷ zs) (suc j) f = go zs j f

pub leads_slice : (v : ℕ) (x : Node) (items now : List Step) (k : ℕ) → now ≡ items → LeadsTo v x (drop k items) → LeadsTo v x (take (length now - k) (drop k now))
leads_slice v x items now k e h = subst (λ l. LeadsTo v x l) (sym (take_rest now k ∙ ap (drop k) e)) h

-- ---- the first steps of two ways into one block
module _ (node : Node) (u v : ℕ) (us vs : List Step) (d : Step) (lu : LeadsTo u node us) (lv : LeadsTo v node vs)
    (ordered : (s t : Step) × (slice_get us 0 ≡ Some s) × (slice_get vs 0 ≡ Some t) × (s.block ≡ t.block) × (s.child < t.child)) where
  abbrev first : Step
  first = get_or us 0 d

  abbrev second : Step
  second = get_or vs 0 d

  u_long : 0 < length us
  u_long = slice_get_within us 0 ordered.0 ordered.2

  v_long : 0 < length vs
  v_long = slice_get_within vs 0 ordered.1 ordered.3

  first_is : first ≡ ordered.0
  first_is = get_or_from_slice_get us 0 ordered.0 d ordered.2

  second_is : second ≡ ordered.1
  second_is = get_or_from_slice_get vs 0 ordered.1 d ordered.3

  pub far_child : (y : Node) × HasChild node second y
  far_child = (let r = stepped node lv.0 vs 0 d v_long lv.1 in (r.0, r.1))

  pub far_leads : (far : Node) → HasChild node second far → LeadsTo v far (drop 1 vs)
  far_leads far h = leads_on v node far vs 0 d v_long h lv

  module _ (far : Node) (h : HasChild node second far) (before : List Node) (is : (b : Block) → slice_get (blocks node) second.block ≡ Some b → before ≡ take second.child (nodes_of b)) where
    before_is : before ≡ take second.child (nodes_of h.block)
    before_is = is h.block h.here

    pub near_within : first.child < length before
    near_within = omega (
      arith,
      ordered.5,
      ap (λ (s : Step). s.child) first_is,
      ap (λ (s : Step). s.child) second_is,
      ap length before_is,
      length-take second.child (nodes_of h.block),
      slice_get_within (nodes_of h.block) second.child far h.there,
    )

    pub near_child : (near : Node) → slice_get before first.child ≡ Some near → HasChild node first near
    near_child near e = record {
      block = h.block;
      here = ap (λ k. slice_get (blocks node) k) (ap (λ (s : Step). s.block) first_is ∙ ordered.4 ∙ ap (λ (s : Step). s.block) (sym second_is)) ∙ h.here;
      there = slice_take (nodes_of h.block) second.child first.child near (ap (λ l. slice_get l first.child) (sym before_is) ∙ e);
    }

    pub near_leads : (near : Node) → slice_get before first.child ≡ Some near → LeadsTo u near (drop 1 us)
    near_leads near e = leads_on u node near us 0 d u_long (near_child near e) lu
