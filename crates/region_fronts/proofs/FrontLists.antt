-- Lists of open vertices, as entries are put and taken out.
use Rattle.std.proofs.Common.{◌≡◌, ◌≢◌, ℕ, ◌+◌, ◌-◌, ◌<◌, ◌≤◌, ◌⊎◌, inl, inr, ⊎_elim, List, [], ◌∷◌, ◌++◌, length, get_or, set, take, swap_remove, IsPermutation, refl, sym, ◌∙◌, subst, ap, arith}
use Rattle.std.specs.List.{All, Contains}
use Rattle.std.specs.Global.{Vec}
use Rattle.std.proofs.lemmas.Bool.{cases_eq, cases_lt}
use Rattle.std.proofs.lemmas.List.{get_or-set_same, get_or-set_other, get_or_past, get_or_default, length-map, get_or-map, map-set, set-get_or, length-set, length-take-le, take-take, take-set}
use Rattle.std.proofs.lemmas.List.Elements.{All-contains, Contains-push, Contains-append_left, Contains-push_cases, Contains-get_or}
use Rattle.std.proofs.lemmas.List.Sorted.{IsPermutation-swap_remove, IsPermutation-sym, Contains-permutation}
use Rattle.cut_definitions.proofs.Lists.{Contains-cons_cases, Contains-there}
use Rattle.cut_definitions.specs.Graph.{Graph, IsGraph}
use Rattle.weighted_graph.specs.declared.graph.Arc.{Arc}
use Rattle.weighted_graph.specs.Rows.{row_of}
use Rattle.cut_definitions.specs.Regions.{IsOpenAt}
use Rattle.region_fronts.specs.Fronts.{FrontsState, IsLaidOut, KeepsAll, KeepsFronts, HasEnds, AreApart, IsCovered, list_at, lists_of, taken_out}
use Rattle.region_fronts.specs.Open.{IsShutAt}
use Rattle.region_fronts.proofs.Joined.{joined_arc, open_not_shut}

-- ---- the lists as contracts see them

abbrev items : Vec ℕ → List ℕ
items l = l.items

pub entries_at : (lists : List (Vec ℕ)) (region : ℕ) (l : Vec ℕ) → region < length lists → l ≡ get_or lists region l → l.items ≡ list_at (lists_of lists) region
entries_at lists region l h is = ap items is ∙ sym (get_or-map items lists region l [] h)

-- ---- one more entry

abbrev pub grown : List (List ℕ) → ℕ → ℕ → List (List ℕ)
grown lists region v = set lists region (list_at lists region ++ v ∷ [])

pub appended : (lists : List (Vec ℕ)) (region : ℕ) (old new : Vec ℕ) (v : ℕ) → region < length lists → old ≡ get_or lists region old → new.items ≡ old.items ++ v ∷ [] →
    lists_of (set lists region new) ≡ grown (lists_of lists) region v
appended lists region old new v h is e =
    map-set items lists region new ∙ ap (λ (l : List ℕ). set (lists_of lists) region l) (e ∙ ap (λ (l : List ℕ). l ++ v ∷ []) (entries_at lists region old h is))

pub unchanged : (lists : List (Vec ℕ)) (region : ℕ) (old new : Vec ℕ) → region < length lists → old ≡ get_or lists region old → new.items ≡ old.items →
    lists_of (set lists region new) ≡ lists_of lists
unchanged lists region old new h is e =
    map-set items lists region new ∙ ap (λ (l : List ℕ). set (lists_of lists) region l) (e ∙ entries_at lists region old h is) ∙ set-get_or (lists_of lists) region []

pub grown_here : (lists : List (List ℕ)) (region v : ℕ) → region < length lists → list_at (grown lists region v) region ≡ list_at lists region ++ v ∷ []
grown_here lists region v l = get_or-set_same lists region (list_at lists region ++ v ∷ []) [] l

pub grown_other : (lists : List (List ℕ)) (region v other : ℕ) → other ≢ region → list_at (grown lists region v) other ≡ list_at lists other
grown_other lists region v other ne = get_or-set_other lists region other (list_at lists region ++ v ∷ []) [] ne

pub grown_has : (lists : List (List ℕ)) (region v : ℕ) → region < length lists → Contains (list_at (grown lists region v) region) v
grown_has lists region v l = subst (λ (xs : List ℕ). Contains xs v) (sym (grown_here lists region v l)) (Contains-push (list_at lists region) v)

pub grown_keeps : (lists : List (List ℕ)) (region v : ℕ) → region < length lists → (r u : ℕ) → Contains (list_at lists r) u → Contains (list_at (grown lists region v) r) u
grown_keeps lists region v l r u h =
    ⊎_elim
    (λ (e : r ≡ region).
    let here : Contains (list_at lists region) u = subst (λ (k : ℕ). Contains (list_at lists k) u) e h in
    subst (λ (k : ℕ). Contains (list_at (grown lists region v) k) u) (sym e)
    (subst (λ (xs : List ℕ). Contains xs u) (sym (grown_here lists region v l)) (Contains-append_left (list_at lists region) (v ∷ []) u here)))
    (λ (ne : r ≢ region). subst (λ (xs : List ℕ). Contains xs u) (sym (grown_other lists region v r ne)) h)
    (cases_eq r region)

pub grown_cases : (lists : List (List ℕ)) (region v : ℕ) → region < length lists → (r u : ℕ) → Contains (list_at (grown lists region v) r) u → Contains (list_at lists r) u ⊎ (v ≡ u)
grown_cases lists region v l r u h =
    ⊎_elim
    (λ (e : r ≡ region).
    let here : Contains (list_at (grown lists region v) region) u = subst (λ (k : ℕ). Contains (list_at (grown lists region v) k) u) e h in
    ⊎_elim
    (λ (old : Contains (list_at lists region) u). inl (subst (λ (k : ℕ). Contains (list_at lists k) u) (sym e) old))
    (λ (new : v ≡ u). inr new)
    (Contains-push_cases (list_at lists region) v u (subst (λ (xs : List ℕ). Contains xs u) (grown_here lists region v l) here)))
    (λ (ne : r ≢ region). inl (subst (λ (xs : List ℕ). Contains xs u) (grown_other lists region v r ne) h))
    (cases_eq r region)

-- a label that was put on top
pub topped : (n : ℕ) (lists : List (List ℕ)) (standing stack stack' : List ℕ) (region : ℕ) → IsLaidOut n lists standing stack → region ≤ n + 1 →
    ((label : ℕ) → Contains stack label → Contains stack' label) → ((label : ℕ) → Contains stack' label → label ≢ region → Contains stack label) → IsLaidOut n lists standing stack'
topped n lists standing stack stack' region h within kept no_other = record {
  lists_length = h.lists_length;
  standing_length = h.standing_length;
  to_n = h.to_n;
  stands = h.stands;
  stacked = λ r one. kept r (h.stacked r one);
  labels = λ r c. ⊎_elim (λ (e : r ≡ region). omega arith) (λ (ne : r ≢ region). h.labels r (no_other r c ne)) (cases_eq r region);
}

-- the label of a list that grows is in the stack
pub on_stack : (n : ℕ) (lists : List (List ℕ)) (standing stack stack' : List ℕ) (region : ℕ) → IsLaidOut n lists standing stack →
    ((label : ℕ) → Contains stack label → Contains stack' label) → (length (list_at lists region) ≡ 0 → Contains stack' region) → Contains stack' region
on_stack n lists standing stack stack' region h kept there =
    ⊎_elim (λ (l : length (list_at lists region) < 1). there (omega arith)) (λ (l : 1 ≤ length (list_at lists region)). kept region (h.stacked region l)) (cases_lt (length (list_at lists region)) 1)

pub grown_laid_out : (n : ℕ) (lists : List (List ℕ)) (standing stack : List ℕ) (region v : ℕ) → IsLaidOut n lists standing stack → region ≤ n + 1 → v ≤ n → Contains stack region →
    IsLaidOut n (grown lists region v) (set standing v region) stack
grown_laid_out n lists standing stack region v h within to_n there =
    let l : region < length lists = omega (arith, h.lists_length) in
    record {
      lists_length = length-set lists region (list_at lists region ++ v ∷ []) ∙ h.lists_length;
      standing_length = length-set standing v region ∙ h.standing_length;
      to_n = λ r u c. ⊎_elim (h.to_n r u) (λ (e : v ≡ u). omega arith) (grown_cases lists region v l r u c);
      stands = λ u one.
          ⊎_elim
          (λ (e : u ≡ v).
          let is : get_or (set standing v region) u 0 ≡ region = ap (λ (k : ℕ). get_or (set standing v region) k 0) e ∙ get_or-set_same standing v region 0 (omega (arith, h.standing_length)) in
          subst (λ (k : ℕ). Contains (list_at (grown lists region v) k) u) (sym is) (subst (λ (k : ℕ). Contains (list_at (grown lists region v) region) k) (sym e) (grown_has lists region v l)))
          (λ (ne : u ≢ v).
          let is : get_or (set standing v region) u 0 ≡ get_or standing u 0 = get_or-set_other standing v u region 0 ne in
          subst (λ (k : ℕ). Contains (list_at (grown lists region v) k) u) (sym is) (grown_keeps lists region v l (get_or standing u 0) u (h.stands u (omega (arith, is, one)))))
          (cases_eq u v);
      stacked = λ r one.
          ⊎_elim
          (λ (e : r ≡ region). subst (λ (k : ℕ). Contains stack k) (sym e) there)
          (λ (ne : r ≢ region). h.stacked r (omega (arith, ap length (grown_other lists region v r ne), one)))
          (cases_eq r region);
      labels = h.labels;
    }

-- ---- one entry less

-- there is a list where there is an entry
pub listed_region : (lists : List (List ℕ)) (region place : ℕ) → place < length (list_at lists region) → region < length lists
listed_region lists region place l =
    ⊎_elim
    (λ (h : region < length lists). h)
    (λ (past : length lists ≤ region). absurd (omega (arith, ap length (get_or_past lists region [] past), l)))
    (cases_lt region (length lists))

pub removed_length : (xs : List ℕ) (place : ℕ) → place < length xs → length (swap_remove xs place 0) + 1 ≡ length xs
removed_length xs place l =
    let y = get_or xs (length xs - 1) 0 in
    omega (arith, length-take-le (length xs - 1) (set xs place y) (omega (arith, length-set xs place y)), l)

pub removed_before : (xs : List ℕ) (place : ℕ) → place < length xs → take place (swap_remove xs place 0) ≡ take place xs
removed_before xs place l =
    let y = get_or xs (length xs - 1) 0 in
    take-take place (length xs - 1) (set xs place y) (omega arith) ∙ take-set xs place y

removed_mix : (xs : List ℕ) (place : ℕ) → place < length xs → IsPermutation xs (get_or xs place 0 ∷ swap_remove xs place 0)
removed_mix xs place l =
    let v = get_or xs place 0 in
    let same : swap_remove xs place v ≡ swap_remove xs place 0 = ap (λ (y : ℕ). take (length xs - 1) (set xs place y)) (get_or_default xs (length xs - 1) v 0 (omega arith)) in
    subst (λ (ys : List ℕ). IsPermutation xs (v ∷ ys)) same (IsPermutation-swap_remove xs place v l (get_or_default xs place 0 v l))

pub removed_keeps : (xs : List ℕ) (place u : ℕ) → place < length xs → Contains xs u → u ≢ get_or xs place 0 → Contains (swap_remove xs place 0) u
removed_keeps xs place u l c ne =
    ⊎_elim
    (λ (e : get_or xs place 0 ≡ u). absurd (ne (sym e)))
    (λ (h : Contains (swap_remove xs place 0) u). h)
    (Contains-cons_cases (get_or xs place 0) (swap_remove xs place 0) u (Contains-permutation xs (get_or xs place 0 ∷ swap_remove xs place 0) u (removed_mix xs place l) c))

pub removed_within : (xs : List ℕ) (place u : ℕ) → place < length xs → Contains (swap_remove xs place 0) u → Contains xs u
removed_within xs place u l c =
    let ys = get_or xs place 0 ∷ swap_remove xs place 0 in
    Contains-permutation ys xs u (IsPermutation-sym xs ys (removed_mix xs place l)) (Contains-there (get_or xs place 0) (swap_remove xs place 0) u c)

abbrev pub shrunk : List (List ℕ) → ℕ → ℕ → List (List ℕ)
shrunk lists region place = set lists region (swap_remove (list_at lists region) place 0)

pub shrunk_is : (lists : List (Vec ℕ)) (region place : ℕ) (old new : Vec ℕ) (v : ℕ) → region < length lists → old ≡ get_or lists region old →
    place < length (list_at (lists_of lists) region) → new.items ≡ swap_remove old.items place v → lists_of (set lists region new) ≡ shrunk (lists_of lists) region place
shrunk_is lists region place old new v h is l e =
    let xs = list_at (lists_of lists) region in
    let same : swap_remove xs place v ≡ swap_remove xs place 0 = ap (λ (y : ℕ). take (length xs - 1) (set xs place y)) (get_or_default xs (length xs - 1) v 0 (omega arith)) in
    map-set items lists region new ∙ ap (λ (ys : List ℕ). set (lists_of lists) region ys) (e ∙ ap (λ (ys : List ℕ). swap_remove ys place v) (entries_at lists region old h is) ∙ same)

pub shrunk_here : (lists : List (List ℕ)) (region place : ℕ) → place < length (list_at lists region) → list_at (shrunk lists region place) region ≡ swap_remove (list_at lists region) place 0
shrunk_here lists region place l = get_or-set_same lists region (swap_remove (list_at lists region) place 0) [] (listed_region lists region place l)

pub shrunk_other : (lists : List (List ℕ)) (region place other : ℕ) → other ≢ region → list_at (shrunk lists region place) other ≡ list_at lists other
shrunk_other lists region place other ne = get_or-set_other lists region other (swap_remove (list_at lists region) place 0) [] ne

-- what is elsewhere than where an entry is removed stays
pub shrunk_keeps : (lists : List (List ℕ)) (region place : ℕ) → place < length (list_at lists region) → (r u : ℕ) → Contains (list_at lists r) u →
    (r ≡ region → u ≢ get_or (list_at lists region) place 0) → Contains (list_at (shrunk lists region place) r) u
shrunk_keeps lists region place l r u h apart =
    ⊎_elim
    (λ (e : r ≡ region).
    let here : Contains (list_at lists region) u = subst (λ (k : ℕ). Contains (list_at lists k) u) e h in
    subst (λ (k : ℕ). Contains (list_at (shrunk lists region place) k) u) (sym e)
    (subst (λ (xs : List ℕ). Contains xs u) (sym (shrunk_here lists region place l)) (removed_keeps (list_at lists region) place u l here (apart e))))
    (λ (ne : r ≢ region). subst (λ (xs : List ℕ). Contains xs u) (sym (shrunk_other lists region place r ne)) h)
    (cases_eq r region)

pub shrunk_within : (lists : List (List ℕ)) (region place : ℕ) → place < length (list_at lists region) → (r u : ℕ) → Contains (list_at (shrunk lists region place) r) u → Contains (list_at lists r) u
shrunk_within lists region place l r u h =
    ⊎_elim
    (λ (e : r ≡ region).
    let here : Contains (list_at (shrunk lists region place) region) u = subst (λ (k : ℕ). Contains (list_at (shrunk lists region place) k) u) e h in
    subst (λ (k : ℕ). Contains (list_at lists k) u) (sym e)
    (removed_within (list_at lists region) place u l (subst (λ (xs : List ℕ). Contains xs u) (shrunk_here lists region place l) here)))
    (λ (ne : r ≢ region). subst (λ (xs : List ℕ). Contains xs u) (shrunk_other lists region place r ne) h)
    (cases_eq r region)

-- of each vertex the label whose list has it is kept, except for the one that was removed there
pub shrunk_laid_out : (n : ℕ) (lists : List (List ℕ)) (standing standing' stack : List ℕ) (region place : ℕ) → IsLaidOut n lists standing stack → place < length (list_at lists region) →
    length standing' ≡ length standing →
    ((u : ℕ) → 1 ≤ get_or standing' u 0 → (get_or standing' u 0 ≡ get_or standing u 0) × (get_or standing' u 0 ≡ region → u ≢ get_or (list_at lists region) place 0)) →
    IsLaidOut n (shrunk lists region place) standing' stack
shrunk_laid_out n lists standing standing' stack region place h l long kept = record {
  lists_length = length-set lists region (swap_remove (list_at lists region) place 0) ∙ h.lists_length;
  standing_length = long ∙ h.standing_length;
  to_n = λ r u c. h.to_n r u (shrunk_within lists region place l r u c);
  stands = λ u one.
      let k = kept u one in
      let here : Contains (list_at lists (get_or standing' u 0)) u = subst (λ (r : ℕ). Contains (list_at lists r) u) (sym k.0) (h.stands u (omega (arith, k.0, one))) in
      shrunk_keeps lists region place l (get_or standing' u 0) u here k.1;
  stacked = λ r one.
      ⊎_elim
      (λ (e : r ≡ region). h.stacked r (omega (arith, ap (λ (k : ℕ). length (list_at lists k)) e, l)))
      (λ (ne : r ≢ region). h.stacked r (omega (arith, ap length (shrunk_other lists region place r ne), one)))
      (cases_eq r region);
  labels = h.labels;
}

-- the entry that a read gives
pub entry_is : (lists : List (Vec ℕ)) (region place : ℕ) (l : Vec ℕ) (v : ℕ) → place < length (list_at (lists_of lists) region) → l ≡ get_or lists region l → v ≡ get_or l.items place v →
    v ≡ get_or (list_at (lists_of lists) region) place 0
entry_is lists region place l v h is e =
    let within : region < length lists = omega (arith, listed_region (lists_of lists) region place h, length-map lists items) in
    e ∙ ap (λ (xs : List ℕ). get_or xs place v) (entries_at lists region l within is) ∙ get_or_default (list_at (lists_of lists) region) place v 0 h

pub entry_within : (n : ℕ) (lists : List (List ℕ)) (standing stack : List ℕ) (region place : ℕ) → IsLaidOut n lists standing stack → place < length (list_at lists region) →
    get_or (list_at lists region) place 0 ≤ n
entry_within n lists standing stack region place h l = h.to_n region (get_or (list_at lists region) place 0) (Contains-get_or (list_at lists region) place 0 l)

-- the entry that was removed was the last of its list
pub unset_laid_out : (n : ℕ) (lists : List (List ℕ)) (standing stack : List ℕ) (region place v : ℕ) → IsLaidOut n lists standing stack → place < length (list_at lists region) →
    v ≡ get_or (list_at lists region) place 0 → IsLaidOut n (shrunk lists region place) (set standing v 0) stack
unset_laid_out n lists standing stack region place v h l is =
    let to_n : v ≤ n = omega (arith, entry_within n lists standing stack region place h l, is) in
    shrunk_laid_out n lists standing (set standing v 0) stack region place h l (length-set standing v 0)
    (λ u one.
    let ne : u ≢ v = λ e.
    let zero : get_or (set standing v 0) u 0 ≡ 0 = ap (λ (k : ℕ). get_or (set standing v 0) k 0) e ∙ get_or-set_same standing v 0 0 (omega (arith, h.standing_length)) in
    omega (arith, zero, one) in
    (get_or-set_other standing v u 0 0 ne, λ _ e. ne (e ∙ sym is)))

-- the entry that was taken out has its place in another list by now
pub kept_laid_out : (n : ℕ) (lists : List (List ℕ)) (standing stack : List ℕ) (region place v : ℕ) → IsLaidOut n lists standing stack → place < length (list_at lists region) →
    v ≡ get_or (list_at lists region) place 0 → get_or standing v 0 ≢ region → IsLaidOut n (shrunk lists region place) standing stack
kept_laid_out n lists standing stack region place v h l is ne =
    shrunk_laid_out n lists standing standing stack region place h l refl
    (λ u one. (refl, λ at e. ne (ap (λ (k : ℕ). get_or standing k 0) (is ∙ sym e) ∙ at)))

-- an entry that has another label may be taken out
pub stale_kept : (labels : List ℕ) (f : FrontsState) (region place : ℕ) → place < length (list_at f.lists region) →
    get_or labels (get_or (list_at f.lists region) place 0) 0 ≢ region → KeepsFronts labels f (taken_out f region place)
stale_kept labels f region place l ne u h =
    shrunk_keeps f.lists region place l (get_or labels u 0) u h (λ at e. ne (ap (λ (k : ℕ). get_or labels k 0) (sym e) ∙ at))

-- an entry that is not open may be taken out
pub shut_covered : (g : Graph) → IsGraph g → (labels : List ℕ) (f : FrontsState) (region place : ℕ) → place < length (list_at f.lists region) → IsCovered g labels f →
    (get_or labels (get_or (list_at f.lists region) place 0) 0 ≡ region → IsShutAt g labels (get_or (list_at f.lists region) place 0)) → IsCovered g labels (taken_out f region place)
shut_covered g ok labels f region place l covered shut u h =
    shrunk_keeps f.lists region place l (get_or labels u 0) u (covered u h)
    (λ at e. open_not_shut g ok labels u h (subst (IsShutAt g labels) (sym e) (shut (ap (λ (k : ℕ). get_or labels k 0) (sym e) ∙ at))))

-- if the lists are empty no vertex is open
pub none_open : (g : Graph) (labels : List ℕ) (f : FrontsState) → IsCovered g labels f → ((region : ℕ) → length (list_at f.lists region) ≡ 0) → (v : ℕ) → IsOpenAt g labels v → ⊥
none_open g labels f covered empty v h = let c = covered v h in omega (arith, c.1, empty (get_or labels v 0))

-- ---- the ends of the row of a vertex

pub apart_kept : (labels : List ℕ) (f f' : FrontsState) (v u : ℕ) → KeepsAll f f' → AreApart labels f v u → AreApart labels f' v u
apart_kept labels f f' v u keeps h = λ ne. (λ one. keeps (get_or labels v 0) v ((h ne).0 one), λ one. keeps (get_or labels u 0) u ((h ne).1 one))

pub ends_of_row : (g : Graph) → IsGraph g → (labels : List ℕ) (f : FrontsState) (v : ℕ) → All (λ (a : Arc). AreApart labels f v a.to) (row_of g v) → HasEnds g labels f v
ends_of_row g ok labels f v each = record {
  itself = λ h.
      let arc = joined_arc g ok h.other v h.joined in
      let k : AreApart labels f v arc.0.to = All-contains (λ (a : Arc). AreApart labels f v a.to) (row_of g v) arc.0 each arc.1 in
      (k (λ e. h.apart (ap (λ (x : ℕ). get_or labels x 0) (sym arc.2) ∙ sym e))).0 h.outside;
  neighbours = λ u joined ne one.
      let arc = joined_arc g ok u v joined in
      let k : AreApart labels f v arc.0.to = All-contains (λ (a : Arc). AreApart labels f v a.to) (row_of g v) arc.0 each arc.1 in
      let k' : AreApart labels f v u = subst (λ (x : ℕ). AreApart labels f v x) arc.2 k in
      (k' (λ e. ne (sym e))).1 one;
}

-- what is in the lists stays there
pub ends_kept : (g : Graph) (labels : List ℕ) (f f' : FrontsState) (v : ℕ) → KeepsAll f f' → HasEnds g labels f v → HasEnds g labels f' v
ends_kept g labels f f' v keeps h = record {
  itself = λ opened. keeps (get_or labels v 0) v (h.itself opened);
  neighbours = λ u joined ne one. keeps (get_or labels u 0) u (h.neighbours u joined ne one);
}
