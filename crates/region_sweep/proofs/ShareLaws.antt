-- The vertices and classes of a region, and what a share is while others enter.
use Rattle.std.proofs.Common.{◌≡◌, ℕ, ◌+◌, ◌-◌, ◌<◌, ◌≤◌, ◌⊎◌, inl, inr, ⊎_elim, Bool, true, false, ◌||◌, eqb, List, [], ◌∷◌, ◌++◌, append_assoc, length, map, get_or, refl, sym, ◌∙◌, ap, subst, arith}
use Rattle.std.specs.Prelude.{◌≢◌, if◌then◌else◌}
use Rattle.std.specs.List.{All, AllPairs}
use Rattle.std.proofs.lemmas.Bool.{cases_eq, cases_lt, cases_Bool, eq-eqb, eqb-true, ne_eqb}
use Rattle.std.proofs.lemmas.List.Elements.{All-push}
use Rattle.std.proofs.lemmas.List.Quantifiers.{all_pairs_push}
use Rattle.std.proofs.lemmas.List.{append-nil, get_or-map, get_or_append_left, get_or_push, get_or_default, length-append, length-map, length_push, map-append}
use Rattle.std.proofs.Math.Bool.{or-true}
use Rattle.cut_definitions.specs.Graph.{Graph}
use Rattle.cut_definitions.specs.Contraction.{label, classes, relabel, IsLabels}
use Rattle.cut_definitions.specs.Cuts.{has}
use Rattle.cut_definitions.proofs.ListLaws.{All-back, All-front, label_at, fold_max-bound}
use Rattle.region_sweep.specs.declared.shares.Share.{Share}
use Rattle.node_tree.specs.Grafted.{IsRegionGraph}
use Rattle.region_sweep.specs.Shares.{AddsClass, AreClasses, HasLeft, HaveLeft, IsShare, IsSolvedShare, regions_of}

-- ---- the classes, one after another

pub classes_start : (labels : List ℕ) (region : ℕ) → AreClasses labels region 0 [] []
classes_start labels region = record {
  long = refl;
  few = omega arith;
  inside = λ v from to e. absurd (omega (arith, from, to));
  outside = λ v from to e. absurd (omega (arith, from, to));
  each = λ place l. absurd (omega (arith, l));
}

-- the class of a vertex that had one, and that of the next one
class_kept : (classes : List ℕ) (c v : ℕ) → 1 ≤ v → v ≤ length classes → label (classes ++ c ∷ []) v ≡ label classes v
class_kept classes c v from to = get_or_append_left classes (c ∷ []) 0 (v - 1) (omega (arith, from, to))

class_next : (classes : List ℕ) (c v : ℕ) → length classes ≡ v → label (classes ++ c ∷ []) (v + 1) ≡ c
class_next classes c v long = label_at (classes ++ c ∷ []) v ∙ get_or_push classes c 0 v long

module _ (labels : List ℕ) (region upto : ℕ) (own classes : List ℕ) (h : AreClasses labels region upto own classes) where
  -- the next vertex is outside the region
  without : ¬ (get_or labels (upto + 1) 0 ≡ region) → AreClasses labels region (upto + 1) own (classes ++ 1 ∷ [])
  without out =
      let kept = λ (v : ℕ) (from : 1 ≤ v) (to : v ≤ upto). class_kept classes 1 v from (omega (arith, to, h.long)) in
      let next = class_next classes 1 upto h.long in
      record {
        long = omega (arith, length_push classes 1, h.long);
        few = omega (arith, h.few);
        inside = λ v from to e. ⊎_elim
            (λ (is : v ≡ upto + 1). absurd (out (sym (ap (λ (k : ℕ). get_or labels k 0) is) ∙ e)))
            (λ (ne : v ≢ upto + 1).
            let low : v ≤ upto = omega (arith, to, ne) in
            let b = h.inside v from low e in
            let k = kept v from low in
            (omega (arith, b.0, k), omega (arith, b.1, k), ap (λ (c : ℕ). get_or own (c - 2) 0) k ∙ b.2))
            (cases_eq v (upto + 1));
        outside = λ v from to e. ⊎_elim
            (λ (is : v ≡ upto + 1). ap (λ (k : ℕ). label (classes ++ 1 ∷ []) k) is ∙ next)
            (λ (ne : v ≢ upto + 1). let low : v ≤ upto = omega (arith, to, ne) in kept v from low ∙ h.outside v from low e)
            (cases_eq v (upto + 1));
        each = λ place l.
            let b = h.each place l in
            record { from_one = b.from_one; to_upto = omega (arith, b.to_upto); in_region = b.in_region; class = kept (get_or own place 0) b.from_one b.to_upto ∙ b.class };
      }

  -- the next vertex is in the region
  within : get_or labels (upto + 1) 0 ≡ region → AreClasses labels region (upto + 1) (own ++ (upto + 1) ∷ []) (classes ++ (length own + 2) ∷ [])
  within is_in =
      let c = length own + 2 in
      let own' = own ++ (upto + 1) ∷ [] in
      let classes' = classes ++ c ∷ [] in
      let kept = λ (v : ℕ) (from : 1 ≤ v) (to : v ≤ upto). class_kept classes c v from (omega (arith, to, h.long)) in
      let next : label classes' (upto + 1) ≡ c = class_next classes c upto h.long in
      let longer = length_push own (upto + 1) in
      let at_end : get_or own' (length own) 0 ≡ upto + 1 = get_or_push own (upto + 1) 0 (length own) refl in
      record {
        long = omega (arith, length_push classes c, h.long);
        few = omega (arith, h.few, longer);
        inside = λ v from to e. ⊎_elim
            (λ (is : v ≡ upto + 1).
            let k : label classes' v ≡ c = ap (λ (w : ℕ). label classes' w) is ∙ next in
            let place : label classes' v - 2 ≡ length own = omega (arith, k) in
            (omega (arith, k), omega (arith, k, longer), ap (λ (w : ℕ). get_or own' w 0) place ∙ (at_end ∙ sym is)))
            (λ (ne : v ≢ upto + 1).
            let low : v ≤ upto = omega (arith, to, ne) in
            let b = h.inside v from low e in
            let k = kept v from low in
            let inner : label classes v - 2 < length own = omega (arith, b.0, b.1) in
            (omega (arith, b.0, k), omega (arith, b.1, k, longer), ap (λ (w : ℕ). get_or own' (w - 2) 0) k ∙ (get_or_append_left own ((upto + 1) ∷ []) 0 (label classes v - 2) inner ∙ b.2)))
            (cases_eq v (upto + 1));
        outside = λ v from to e. ⊎_elim
            (λ (is : v ≡ upto + 1). absurd (e (ap (λ (k : ℕ). get_or labels k 0) is ∙ is_in)))
            (λ (ne : v ≢ upto + 1). let low : v ≤ upto = omega (arith, to, ne) in kept v from low ∙ h.outside v from low e)
            (cases_eq v (upto + 1));
        each = λ place l. ⊎_elim
            (λ (inner : place < length own).
            let b = h.each place inner in
            let same : get_or own' place 0 ≡ get_or own place 0 = get_or_append_left own ((upto + 1) ∷ []) 0 place inner in
            record {
              from_one = omega (arith, b.from_one, same);
              to_upto = omega (arith, b.to_upto, same);
              in_region = ap (λ (w : ℕ). get_or labels w 0) same ∙ b.in_region;
              class = ap (λ (w : ℕ). label classes' w) same ∙ (kept (get_or own place 0) b.from_one b.to_upto ∙ b.class);
            })
            (λ (last : length own ≤ place).
            let is : place ≡ length own = omega (arith, l, last, longer) in
            let at : get_or own' place 0 ≡ upto + 1 = ap (λ (k : ℕ). get_or own' k 0) is ∙ at_end in
            record {
              from_one = omega (arith, at);
              to_upto = omega (arith, at);
              in_region = ap (λ (w : ℕ). get_or labels w 0) at ∙ is_in;
              class = ap (λ (w : ℕ). label classes' w) at ∙ (next ∙ ap (λ (k : ℕ). k + 2) (sym is));
            })
            (cases_lt place (length own));
      }

-- one vertex more
pub classes_step : (labels : List ℕ) (region upto : ℕ) (own own' classes classes' : List ℕ) (is_own : Bool) → AreClasses labels region upto own classes →
    is_own ≡ eqb (get_or labels (upto + 1) 0) region → AddsClass (upto + 1) is_own own own' classes classes' → AreClasses labels region (upto + 1) own' classes'
classes_step labels region upto own own' classes classes' is_own h test adds = ⊎_elim
    (λ (e : is_own ≡ true).
    let a = adds.inside e in
    subst (λ (o : List ℕ). AreClasses labels region (upto + 1) o classes') (sym a.0)
    (subst (AreClasses labels region (upto + 1) (own ++ (upto + 1) ∷ [])) (sym a.1) (within labels region upto own classes h (eqb-true (get_or labels (upto + 1) 0) region (sym test ∙ e)))))
    (λ (e : is_own ≡ false).
    let a = adds.outside e in
    subst (λ (o : List ℕ). AreClasses labels region (upto + 1) o classes') (sym a.0)
    (subst (AreClasses labels region (upto + 1) own) (sym a.1)
    (without labels region upto own classes h (λ is. let t : true ≡ false = sym (eq-eqb (get_or labels (upto + 1) 0) region is) ∙ (sym test ∙ e) in cc))))
    (cases_Bool is_own)

-- ---- the labels

module _ (labels : List ℕ) (region n : ℕ) (own list : List ℕ) (h : AreClasses labels region n own list) where
  -- a class is one of 1 to one more than there are vertices in the region
  class_between : (v : ℕ) → 1 ≤ v → v ≤ n → (1 ≤ label list v) × (label list v ≤ length own + 1)
  class_between v from to = ⊎_elim
      (λ (e : get_or labels v 0 ≡ region). let b = h.inside v from to e in (omega (arith, b.0), omega (arith, b.1)))
      (λ (ne : get_or labels v 0 ≢ region). let b = h.outside v from to ne in (omega (arith, b), omega (arith, b)))
      (cases_eq (get_or labels v 0) region)

  pub are_labels : 1 ≤ n → ¬ (get_or labels 1 0 ≡ region) → IsLabels list
  are_labels one root =
      let first : label list 1 ≡ 1 = h.outside 1 (omega arith) one root in
      let entry = λ (i : ℕ) (l : i < length list). class_between (i + 1) (omega arith) (omega (arith, l, h.long)) in
      record {
        from_one = λ i d l. omega (arith, (entry i l).0, label_at list i, get_or_default list i d 0 l);
        used = λ c from to.
            let most : classes list ≤ length own + 1 = fold_max-bound list 0 (length own + 1) (omega arith) (λ i l. omega (arith, (entry i l).1, label_at list i)) in
            ⊎_elim
            (λ (e : c ≡ 1).
            let l : 0 < length list = omega (arith, one, h.long) in
            (0, l, get_or_default list 0 c 0 l ∙ (first ∙ sym e)))
            (λ (ne : c ≢ 1).
            let inner : c - 2 < length own = omega (arith, from, ne, to, most) in
            let b = h.each (c - 2) inner in
            let v = get_or own (c - 2) 0 in
            let l : v - 1 < length list = omega (arith, b.from_one, b.to_upto, h.long) in
            let e : c - 2 + 2 ≡ c = omega (arith, from, ne) in
            (v - 1, l, get_or_default list (v - 1) c 0 l ∙ (b.class ∙ e)))
            (cases_eq c 1);
        first = λ l. first;
      }

-- the graph of a share is that of its region
pub region_graph : (g : Graph) (labels : List ℕ) (s : Share) → IsShare g labels s → IsRegionGraph g labels s.region s.classes (relabel g s.classes)
region_graph g labels s h = record {
  labelled = h.labelled;
  is = refl;
  inside = λ v from to e. (h.classes.inside v from to e).0;
  outside = h.classes.outside;
  apart = λ u v u1 un v1 vn eu ev same. sym (h.classes.inside u u1 un eu).2 ∙ (ap (λ (c : ℕ). get_or s.own.items (c - 2) 0) same ∙ (h.classes.inside v v1 vn ev).2);
}

-- ---- shares while others enter

-- a vertex of the region has entered, and one of another keeps its label
pub left_cases : (labels labels' : List ℕ) (region v : ℕ) → HasLeft labels region labels' →
    ((get_or labels v 0 ≢ region) × (get_or labels' v 0 ≡ get_or labels v 0)) ⊎ ((get_or labels v 0 ≡ region) × (get_or labels' v 0 ≡ 0))
left_cases labels labels' region v left = ⊎_elim
    (λ (e : get_or labels v 0 ≡ region). inr (e, left v ∙ ap (λ (b : Bool). if b then 0 else get_or labels v 0) (eq-eqb (get_or labels v 0) region e)))
    (λ (ne : get_or labels v 0 ≢ region). inl (ne, left v ∙ ap (λ (b : Bool). if b then 0 else get_or labels v 0) (ne_eqb (get_or labels v 0) region ne)))
    (cases_eq (get_or labels v 0) region)

-- a vertex has the label of a region that did not enter just where it had it
label_left : (labels labels' : List ℕ) (region other v : ℕ) → HasLeft labels region labels' → other ≢ region → 1 ≤ other →
    ((get_or labels' v 0 ≡ other → get_or labels v 0 ≡ other) × (get_or labels v 0 ≡ other → get_or labels' v 0 ≡ other))
label_left labels labels' region other v left ne one = ⊎_elim
    (λ kept. (λ e. sym kept.1 ∙ e, λ e. kept.1 ∙ e))
    (λ moved. (λ e. absurd (omega (arith, moved.1, e, one)), λ e. absurd (ne (sym e ∙ moved.0))))
    (left_cases labels labels' region v left)

pub still_share : (g : Graph) (labels labels' : List ℕ) (region : ℕ) (s : Share) → HasLeft labels region labels' → s.region ≢ region → IsSolvedShare g labels s → IsSolvedShare g labels' s
still_share g labels labels' region s left ne h =
    let c = h.share.classes in
    let at = λ (v : ℕ). label_left labels labels' region s.region v left ne h.share.outside in
    record {
      share = record {
        outside = h.share.outside;
        labelled = h.share.labelled;
        classes = record {
          long = c.long;
          few = c.few;
          inside = λ v from to e. c.inside v from to ((at v).0 e);
          outside = λ v from to e. c.outside v from to (λ is. e ((at v).1 is));
          each = λ place l.
              let b = c.each place l in
              record { from_one = b.from_one; to_upto = b.to_upto; in_region = (at (get_or s.own.items place 0)).1 b.in_region; class = b.class };
        };
      };
      looked_for = h.looked_for;
      tree = h.tree;
    }

-- ---- shares of several regions

-- shares of regions that ascend are of different ones
pub shares_apart : (shares : List Share) (regions : List ℕ) → map (λ (s : Share). s.region) shares ≡ regions → AllPairs (λ p q. p < q) regions → AllPairs (λ (p q : Share). p.region ≢ q.region) shares
shares_apart shares regions is up i j d l u e =
    let f = λ (s : Share). s.region in
    let long : length regions ≡ length shares = sym (ap length is) ∙ length-map shares f in
    let at = λ (k : ℕ) (b : k < length shares). (let r : get_or regions k 0 ≡ f (get_or shares k d) = sym (ap (λ (xs : List ℕ). get_or xs k 0) is) ∙ get_or-map f shares k d 0 b in r) in
    let less = up i j 0 l (omega (arith, u, long)) in
    omega (arith, less, at i (omega (arith, l, u)), at j u, e)

-- a share, where its labels are those of a list
pub share_is : (g : Graph) (labels list : List ℕ) (s : Share) (upto : ℕ) → s.classes ≡ list → upto ≡ g.vertices → 1 ≤ g.vertices → get_or labels 1 0 ≡ 0 → 1 ≤ s.region →
    AreClasses labels s.region upto s.own.items list → IsShare g labels s
share_is g labels list s upto is all one root outside h =
    let h' : AreClasses labels s.region g.vertices s.own.items s.classes =
    subst (λ (l : List ℕ). AreClasses labels s.region g.vertices s.own.items l) (sym is) (subst (λ (k : ℕ). AreClasses labels s.region k s.own.items list) all h) in
    record {
      outside = outside;
      labelled = record { are_labels = are_labels labels s.region g.vertices s.own.items s.classes h' one (λ e. omega (arith, e, root, outside)); long = h'.long };
      classes = h';
    }

-- ---- shares one after another, from the last one on

pub last_share : (g : Graph) (labels : List ℕ) (xs rest : List Share) (share : Share) → xs ≡ rest ++ share ∷ [] → All (IsSolvedShare g labels) xs → IsSolvedShare g labels share
last_share g labels xs rest share is all = All-back (IsSolvedShare g labels) rest (share ∷ []) (subst (All (IsSolvedShare g labels)) is all) 0 share (omega arith)

-- the shares that are left are of other regions than the one that entered
pub shares_left : (g : Graph) (labels labels' : List ℕ) (xs rest : List Share) (share : Share) → xs ≡ rest ++ share ∷ [] → All (IsSolvedShare g labels) xs →
    AllPairs (λ (p q : Share). p.region ≢ q.region) xs → HasLeft labels share.region labels' →
    All (IsSolvedShare g labels') rest × AllPairs (λ (p q : Share). p.region ≢ q.region) rest
shares_left g labels labels' xs rest share is all apart left =
    let last = share ∷ [] in
    let front = All-front (IsSolvedShare g labels) rest last (subst (All (IsSolvedShare g labels)) is all) in
    let pairs = subst (AllPairs (λ (p q : Share). p.region ≢ q.region)) is apart in
    let long : length (rest ++ last) ≡ length rest + 1 = length-append rest last in
    let at = λ (i : ℕ) (d : Share) (l : i < length rest). get_or_append_left rest last d i l in (
      λ k d l. still_share g labels labels' share.region (get_or rest k d) left
          (λ e. pairs k (length rest) d l (omega (arith, long)) (ap (λ (s : Share). s.region) (at k d l) ∙ (e ∙ sym (ap (λ (s : Share). s.region) (get_or_push rest share d (length rest) refl)))))
          (front k d l),
      λ i j d l u e. pairs i j d l (omega (arith, u, long)) (ap (λ (s : Share). s.region) (at i d (omega (arith, l, u))) ∙ (e ∙ sym (ap (λ (s : Share). s.region) (at j d u)))),
    )

-- ---- regions that are left one after another, from the last one on

-- no region has been left
left_none : (labels : List ℕ) → HaveLeft labels [] labels
left_none labels v = refl

-- one more
left_more : (labels labels' labels'' regions : List ℕ) (region : ℕ) → HaveLeft labels regions labels' → HasLeft labels' region labels'' → HaveLeft labels (region ∷ regions) labels''
left_more labels labels' labels'' regions region before left v =
    let x = get_or labels v 0 in
    ⊎_elim
    (λ (there : has regions x ≡ true).
    let z : get_or labels' v 0 ≡ 0 = before v ∙ ap (λ (b : Bool). if b then 0 else x) there in
    let stays : get_or labels'' v 0 ≡ 0 = ⊎_elim (λ kept. kept.1 ∙ z) (λ moved. moved.1) (left_cases labels' labels'' region v left) in
    stays ∙ sym (ap (λ (b : Bool). if b then 0 else x) (ap (λ (b : Bool). eqb region x || b) there ∙ or-true (eqb region x))))
    (λ (not_there : has regions x ≡ false).
    let same : get_or labels' v 0 ≡ x = before v ∙ ap (λ (b : Bool). if b then 0 else x) not_there in
    ⊎_elim
    (λ kept.
    let other : eqb region x ≡ false = ne_eqb region x (λ e. kept.0 (same ∙ sym e)) in
    kept.1 ∙ (same ∙ sym (ap (λ (b : Bool). if b then 0 else x) (ap (λ (b : Bool). b || has regions x) other ∙ not_there))))
    (λ moved.
    let own : eqb region x ≡ true = eq-eqb region x (sym moved.0 ∙ same) in
    moved.1 ∙ sym (ap (λ (b : Bool). if b then 0 else x) (ap (λ (b : Bool). b || has regions x) own)))
    (left_cases labels' labels'' region v left))
    (cases_Bool (has regions x))

-- the regions of some shares have been left, all but the first ones
pub record HaveLeftBehind (labels : List ℕ) (shares first : List Share) (labels' : List ℕ) : Type 0 where
  pub behind : List ℕ
  pub all : regions_of shares ≡ regions_of first ++ behind
  pub left : HaveLeft labels behind labels'

pub behind_none : (labels : List ℕ) (shares : List Share) → HaveLeftBehind labels shares shares labels
behind_none labels shares = record { behind = []; all = sym (append-nil (regions_of shares)); left = left_none labels }

pub behind_more : (labels labels' labels'' : List ℕ) (shares xs rest : List Share) (share : Share) → xs ≡ rest ++ share ∷ [] → HaveLeftBehind labels shares xs labels' →
    HasLeft labels' share.region labels'' → HaveLeftBehind labels shares rest labels''
behind_more labels labels' labels'' shares xs rest share is h left = record {
  behind = share.region ∷ h.behind;
  all = h.all
      ∙ (ap (λ (k : List Share). regions_of k ++ h.behind) is
      ∙ (ap (λ (k : List ℕ). k ++ h.behind) (map-append (λ (s : Share). s.region) rest (share ∷ []))
      ∙ append_assoc (regions_of rest) (share.region ∷ []) h.behind));
  left = left_more labels labels' labels'' h.behind share.region h.left left;
}

-- ---- regions that ascend

abbrev pub AscendTo : ℕ → List ℕ → Type 0
AscendTo last xs = All (λ r. 1 ≤ r) xs × (All (λ r. r ≤ last) xs × AllPairs (λ p q. p < q) xs)

pub ascends_more : (xs : List ℕ) (last r : ℕ) → last < r → AscendTo last xs → AscendTo r (xs ++ r ∷ [])
ascends_more xs last r more h = (
  All-push (λ k. 1 ≤ k) xs r h.0 (omega (arith, more)),
  (
    All-push (λ k. k ≤ r) xs r (λ k d l. omega (arith, more, h.1.0 k d l)) (omega arith),
    all_pairs_push (λ p q. p < q) xs r h.1.1 (λ k d l. omega (arith, more, h.1.0 k d l)),
  ),
)
