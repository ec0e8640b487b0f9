-- The start and the steps of the sweep, for labels, homes, tree and fronts.
use Rattle.std.proofs.Common.{◌≡◌, ℕ, ◌+◌, ◌<◌, ◌≤◌, ⊎_elim, Bool, true, false, not, eqb, List, [], ◌∷◌, length, replicate, get_or, set, refl, sym, ◌∙◌, ap, subst, arith}
use Rattle.std.specs.Prelude.{◌≢◌, if◌then◌else◌}
use Rattle.std.proofs.Math.Path.{fun_ext}
use Rattle.std.proofs.lemmas.Bool.{cases_eq, cases_lt, eq-eqb, ne_eqb}
use Rattle.std.proofs.lemmas.List.{get_or-set_same, get_or-set_other, get_or_past, get_or-replicate, length-replicate}
use Rattle.cut_definitions.specs.Graph.{Graph, IsGraph}
use Rattle.cut_definitions.specs.Weight.{IsCut}
use Rattle.cut_definitions.proofs.ListLaws.{labelled_to_n}
use Rattle.region_flow.specs.Inflow.{IsStopReached}
use Rattle.node_tree.specs.Flat.{TreeLinks, AreNodes, AreLinked}
use Rattle.region_fronts.specs.Fronts.{FrontsState, IsCovered, KeepsAll, HasEnds}
use Rattle.node_tree.specs.Homes.{HomesState, home_of}
use Rattle.node_tree.specs.Hung.{IsRegrouped}
use Rattle.region_fronts.specs.Listed.{PartsState, part_in}
use Rattle.region_flow.specs.Parted.{AreLightParts}
use Rattle.node_tree.specs.Sweeping.{IsSweeping, IsFiner}
use Rattle.region_sweep.specs.UnderWay.{IsLeastWeight, nodes_of}
use Rattle.region_parts.proofs.Covering.{covering}
use Rattle.region_fronts.proofs.FrontLists.{ends_kept}
use Rattle.region_sweep.proofs.Regrouping.{home_entered, home_outside, home_same}
use Rattle.region_sweep.proofs.Sweeps.{sweep_start, sweep_entering, sweep_splitting}

-- ---- sets around a vertex

not_there : (b : Bool) → (b ≡ true → ⊥) → not b ≡ true
not_there true never = absurd (never refl)
not_there false never = refl

-- no set around a vertex weighs less than the minimum cuts
pub least_reached : (g : Graph) (labels : List ℕ) (t amount : ℕ) → IsLeastWeight g amount → get_or labels 1 0 ≡ 0 → 1 ≤ t → t ≤ g.vertices → 1 ≤ get_or labels t 0 →
    IsStopReached g labels t amount
least_reached g labels t amount least root one to_n outside s around =
    let never = λ (e : s 1 ≡ true). (let l = around.inside.labelled 1 e in let r : ⊥ = omega (arith, l, root, outside) in r) in
    let cut : IsCut g.vertices s = record {
      some_in = record { vertex = t; from_one = one; to_n = to_n; is_in = around.there };
      some_out = record { vertex = 1; from_one = omega arith; to_n = omega (arith, one, to_n); is_in = not_there (s 1) never };
    } in
    omega (arith, least.minimum.least s cut, least.weighs)

-- ---- the start

abbrev zeros : ℕ → List ℕ
zeros k = replicate k 0

zero_in : (k v : ℕ) → get_or (zeros k) v 0 ≡ 0
zero_in k v = ⊎_elim
    (λ (l : v < k). get_or-replicate k v 0 0 l)
    (λ (l : k ≤ v). get_or_past (zeros k) v 0 (omega (arith, l, length-replicate {A = ℕ} k 0)))
    (cases_lt v k)

zero_either : (b : Bool) (x y : ℕ) → x ≡ 0 → y ≡ 0 → (if b then x else y) ≡ 0
zero_either true x y ex ey = ex
zero_either false x y ex ey = ey

pub all_in_root : (n : ℕ) (labels : List ℕ) (h : HomesState) → h.entered ≡ replicate (n + 1) 0 → h.regions ≡ replicate (n + 2) 0 → (v : ℕ) → home_of h labels v ≡ 0
all_in_root n labels h entered regions v =
    let e : get_or h.entered v 0 ≡ 0 = subst (λ (l : List ℕ). get_or l v 0 ≡ 0) (sym entered) (zero_in (n + 1) v) in
    let r : get_or h.regions (get_or labels v 0) 0 ≡ 0 = subst (λ (l : List ℕ). get_or l (get_or labels v 0) 0 ≡ 0) (sym regions) (zero_in (n + 2) (get_or labels v 0)) in
    zero_either (eqb (get_or labels v 0) 0) (get_or h.entered v 0) (get_or h.regions (get_or labels v 0) 0) e r

-- all are in the root, and vertex 1 has entered
pub started_sweeping : (g : Graph) (labels : List ℕ) (h : HomesState) (links : TreeLinks) → h.entered ≡ replicate (g.vertices + 1) 0 → h.regions ≡ replicate (g.vertices + 2) 0 →
    links ≡ record { uppers = 0 ∷ []; follows = false ∷ [] } → get_or labels 1 0 ≡ 0 → ((v : ℕ) → 2 ≤ v → v ≤ g.vertices → get_or labels v 0 ≡ 1) →
    IsSweeping g labels (nodes_of h labels links)
started_sweeping g labels h links entered regions is root others =
    let tree : TreeLinks = record { uppers = 0 ∷ []; follows = false ∷ [] } in
    let zero_at = λ (v : ℕ). (let r : home_of h labels v ≡ 0 = all_in_root g.vertices labels h entered regions v in r) in
    let nodes : AreNodes (nodes_of h labels tree) = record {
      root = omega arith;
      homes = λ v. omega (arith, zero_at v);
      upper = λ i one l. absurd (omega (arith, one, l));
      steady = λ i one l. absurd (omega (arith, one, l));
    } in
    subst (λ (l : TreeLinks). IsSweeping g labels (nodes_of h labels l)) (sym is) (sweep_start g labels (nodes_of h labels tree) nodes refl zero_at root others)

-- ---- a vertex that enters alone

-- the homes with t in the node of its region for itself
abbrev pub entered_at : HomesState → List ℕ → ℕ → HomesState
entered_at h labels t = record { entered = set h.entered t (get_or h.regions (get_or labels t 0) 0); regions = h.regions }

pub home_kept : (h : HomesState) (labels : List ℕ) (t v : ℕ) → 1 ≤ get_or labels t 0 → t < length h.entered → t < length labels →
    home_of (entered_at h labels t) (set labels t 0) v ≡ home_of h labels v
home_kept h labels t v one room long =
    let h' = entered_at h labels t in
    let labels' : List ℕ = set labels t 0 in
    let node = get_or h.regions (get_or labels t 0) 0 in
    let at : home_of h' labels' t ≡ home_of h labels t =
    home_entered h' labels' t (get_or-set_same labels t 0 0 long) ∙ get_or-set_same h.entered t node 0 room ∙ sym (home_outside h labels t (get_or labels t 0) refl one) in
    ⊎_elim
    (λ (e : v ≡ t). subst (λ (x : ℕ). home_of h' labels' x ≡ home_of h labels x) (sym e) at)
    (λ (ne : v ≢ t). home_same h h' labels labels' v (get_or-set_other labels t v 0 0 ne) (get_or-set_other h.entered t v node 0 ne) refl)
    (cases_eq v t)

-- a vertex of a region is not vertex 1
pub from_two : (labels : List ℕ) (t : ℕ) → get_or labels 0 0 ≡ 0 → get_or labels 1 0 ≡ 0 → 1 ≤ get_or labels t 0 → 2 ≤ t
from_two labels t nobody root outside =
    let at = λ (u : ℕ) (z : get_or labels u 0 ≡ 0) (e : t ≡ u). (let w : get_or labels t 0 ≡ get_or labels u 0 = ap (λ (k : ℕ). get_or labels k 0) e in let r : ⊥ = omega (arith, w, z, outside) in r) in
    ⊎_elim
    (λ (e : t ≡ 0). absurd (at 0 nobody e))
    (λ (n0 : t ≢ 0). ⊎_elim (λ (e : t ≡ 1). absurd (at 1 root e)) (λ (n1 : t ≢ 1). omega (arith, n0, n1)) (cases_eq t 1))
    (cases_eq t 0)

pub entered_sweeping : (g : Graph) (labels : List ℕ) (h : HomesState) (links : TreeLinks) (t amount : ℕ) → IsGraph g → IsSweeping g labels (nodes_of h labels links) →
    IsLeastWeight g amount → IsStopReached g labels t (amount + 1) → 2 ≤ t → t ≤ g.vertices → 1 ≤ get_or labels t 0 → t < length h.entered → t < length labels →
    IsSweeping g (set labels t 0) (nodes_of (entered_at h labels t) (set labels t 0) links)
entered_sweeping g labels h links t amount ok sw least stop two to_n outside room long =
    let same = sweep_entering g labels (nodes_of h labels links) t amount ok sw two to_n outside least.some least.minimum least.weighs stop in
    subst (λ (k : ℕ → ℕ). IsSweeping g (set labels t 0) (record { homes = k; links = links })) (fun_ext (λ v. sym (home_kept h labels t v outside room long))) same

pub covered_entering : (g : Graph) (labels : List ℕ) (t : ℕ) (f f' : FrontsState) → IsGraph g → IsCovered g labels f → KeepsAll f f' → HasEnds g (set labels t 0) f' t →
    IsCovered g (set labels t 0) f'
covered_entering g labels t f f' ok covered keeps ends = covering g labels (set labels t 0) f f' ok covered keeps
    (λ v one to_n moved. ⊎_elim
    (λ (e : v ≡ t). subst (λ (x : ℕ). HasEnds g (set labels t 0) f' x) (sym e) ends)
    (λ (ne : v ≢ t). absurd (moved (sym (get_or-set_other labels t v 0 0 ne))))
    (cases_eq v t))

-- ---- a region that is split

-- what was done to the labels, homes and nodes of a region
pub record IsSplit (g : Graph) (labels labels' : List ℕ) (h h' : HomesState) (links links' : TreeLinks) (p : PartsState) (nodes : List ℕ) (t amount : ℕ) : Type 0 where
  pub light : AreLightParts g labels t p.count amount (part_in p labels (get_or labels t 0))
  pub linked : AreLinked g p.count (part_in p labels (get_or labels t 0)) (λ i. get_or nodes i 0) (get_or h.regions (get_or labels t 0) 0) links links'
  pub first : get_or nodes 1 0 ≡ get_or h.regions (get_or labels t 0) 0
  pub within : (i : ℕ) → 1 ≤ i → i ≤ p.count → get_or nodes i 0 < length links'.uppers
  pub homes : (v : ℕ) → home_of h' labels' v ≡ (if eqb (get_or labels v 0) (get_or labels t 0) then get_or nodes (part_in p labels (get_or labels t 0) v) 0 else home_of h labels v)
  pub regrouped : IsRegrouped g.vertices labels labels' (get_or labels t 0) t p.count (part_in p labels (get_or labels t 0))
  pub finer : IsFiner g.vertices labels labels' (part_in p labels (get_or labels t 0))
  pub root : get_or labels' 1 0 ≡ 0

pub split_sweeping : (g : Graph) (labels labels' : List ℕ) (h h' : HomesState) (links links' : TreeLinks) (p : PartsState) (nodes : List ℕ) (t amount : ℕ) → IsGraph g →
    IsSweeping g labels (nodes_of h labels links) → IsLeastWeight g amount → length labels ≡ g.vertices + 1 → get_or labels 0 0 ≡ 0 → 2 ≤ t → t ≤ g.vertices → 1 ≤ get_or labels t 0 →
    IsSplit g labels labels' h h' links links' p nodes t amount → IsSweeping g labels' (nodes_of h' labels' links')
split_sweeping g labels labels' h h' links links' p nodes t amount ok sw least long nobody two to_n outside s =
    let region = get_or labels t 0 in
    let part = part_in p labels region in
    let at = λ (i : ℕ). get_or nodes i 0 in
    let own : home_of h labels t ≡ get_or h.regions region 0 = home_outside h labels t region refl outside in
    let total = λ (v : ℕ). (let r : home_of h' labels' v < length links'.uppers = ⊎_elim
    (λ (e : get_or labels v 0 ≡ region).
    let one : 1 ≤ get_or labels v 0 = omega (arith, e, outside) in
    let v_to_n = labelled_to_n labels g.vertices v long one in
    let some : 1 ≤ v = ⊎_elim
    (λ (z : v ≡ 0). let w : get_or labels v 0 ≡ get_or labels 0 0 = ap (λ (k : ℕ). get_or labels k 0) z in absurd (omega (arith, w, nobody, one)))
    (λ (ne : v ≢ 0). omega (arith, ne))
    (cases_eq v 0) in
    let is : home_of h' labels' v ≡ at (part v) = s.homes v ∙ ap (λ (b : Bool). if b then at (part v) else home_of h labels v) (eq-eqb (get_or labels v 0) region e) in
    omega (arith, is, s.within (part v) (s.light.numbered.from_one v some v_to_n) (s.light.numbered.to_count v some v_to_n)))
    (λ (ne : get_or labels v 0 ≢ region).
    let is : home_of h' labels' v ≡ home_of h labels v = s.homes v ∙ ap (λ (b : Bool). if b then at (part v) else home_of h labels v) (ne_eqb (get_or labels v 0) region ne) in
    omega (arith, is, sw.nodes.homes v, s.linked.more))
    (cases_eq (get_or labels v 0) region) in r) in
    sweep_splitting g labels labels' (nodes_of h labels links) (nodes_of h' labels' links') t amount p.count part at ok sw (omega (arith, two)) to_n outside least.some least.minimum least.weighs
    s.light (subst (λ (k : ℕ). AreLinked g p.count part at k links links') (sym own) s.linked) (s.first ∙ sym own) (λ v one v_to_n. s.homes v) total s.regrouped s.finer s.root

-- vertex 1 stays in its node
pub split_first : (g : Graph) (labels labels' : List ℕ) (h h' : HomesState) (links links' : TreeLinks) (p : PartsState) (nodes : List ℕ) (t amount : ℕ) →
    get_or labels 1 0 ≡ 0 → 1 ≤ get_or labels t 0 → IsSplit g labels labels' h h' links links' p nodes t amount → home_of h' labels' 1 ≡ home_of h labels 1
split_first g labels labels' h h' links links' p nodes t amount root outside s =
    let region = get_or labels t 0 in
    let ne : get_or labels 1 0 ≢ region = λ e. absurd (omega (arith, e, root, outside)) in
    s.homes 1 ∙ ap (λ (b : Bool). if b then get_or nodes (part_in p labels region 1) 0 else home_of h labels 1) (ne_eqb (get_or labels 1 0) region ne)

pub covered_splitting : (g : Graph) (labels labels' numbers : List ℕ) (count t : ℕ) (f f' f'' : FrontsState) → IsGraph g → IsCovered g labels f → KeepsAll f f' → KeepsAll f' f'' →
    ((v : ℕ) → get_or numbers v 0 ≤ count) → ((v : ℕ) → get_or numbers v 0 ≡ 0 → v ≢ t → get_or labels' v 0 ≡ get_or labels v 0) →
    ((v : ℕ) → 1 ≤ get_or numbers v 0 → get_or numbers v 0 ≤ count → HasEnds g labels' f' v) → HasEnds g labels' f'' t → IsCovered g labels' f''
covered_splitting g labels labels' numbers count t f f' f'' ok covered keeps more to_count unlisted listed entered =
    covering g labels labels' f f'' ok covered (λ region v h. more region v (keeps region v h))
    (λ v one to_n moved. ⊎_elim
    (λ (e : v ≡ t). subst (λ (x : ℕ). HasEnds g labels' f'' x) (sym e) entered)
    (λ (ne : v ≢ t). ⊎_elim
    (λ (z : get_or numbers v 0 ≡ 0). absurd (moved (sym (unlisted v z ne))))
    (λ (some : get_or numbers v 0 ≢ 0). ends_kept g labels' f' f'' v more (listed v (omega (arith, some)) (to_count v)))
    (cases_eq (get_or numbers v 0) 0))
    (cases_eq v t))
