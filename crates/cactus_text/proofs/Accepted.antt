-- What a text states is well formed.
use Rattle.std.proofs.Common.{◌≡◌, ◌≢◌, inl, inr, ◌≤◌, ◌<◌, ◌+◌, ◌-◌, ◌&&◌, ◌||◌, ◌==◌, ◌++◌, ◌∷◌, [], ℕ, zero, suc, Bool, true, false, List, length, ap, subst, sym, ◌∙◌, refl, arith, length-append}
use Rattle.std.specs.Prelude.{nat_le, nat_lt, not, cond, codes, slice_index, slice_index_or, Option, Some, None, Result, Ok, Err, if◌then◌else◌}
use Rattle.std.specs.List.{All, AllPairs, filter, fold, list_all, list_any, range_with_len, sum_by}
use Rattle.std.proofs.lemmas.Bool.{cases_Bool, cases_eq, and_parts, eq-eqb, eqb-true, leb-true, ltb-true, not-true}
use Rattle.std.proofs.lemmas.List.{length-map}
use Rattle.std.proofs.lemmas.List.Sums.{AllPass-from_list_all}
use Rattle.std.proofs.lemmas.List.Kept.{AllPairs-cons}
use Rattle.std.proofs.lemmas.List.Elements.{filter-append, All-push}
use Rattle.std.proofs.lemmas.List.FromFn.{get_or-range_with_len, length-range_with_len}
use Rattle.cut_definitions.specs.Cuts.{has, IsAscendingWithin}
use Rattle.cut_definitions.proofs.Ascending.{all_at, has_contains}
use Rattle.flat_cactus.specs.Flat.{Flat}
use Rattle.flat_cactus.specs.FlatCuts.{IsWellFormed, IsBridgeBelow, IsCycleBelow, IsClosed, IsReached, all_edges, node_at}
use Rattle.cactus_text.specs.declared.reading.Counts.{Counts}
use Rattle.cactus_text.specs.Reading.{ascends, distinct, is_cycle, is_node, is_placed, is_complete, is_joined, is_tree, is_whole, no_node, relabelled, with_node, with_bridge, with_cycle, with_line, numbers_of, plus_node, plus_bridge, plus_cycle, stated}
use Rattle.cactus_text.proofs.Forms.{EndsBelow, ends_all, fold_size}
use Rattle.cactus_text.proofs.Labelling.{at_changed, at_kept}

-- the rules that each line keeps
pub record Holds (flat : Flat) : Type 0 where
  pub ascending : All (IsAscendingWithin 1 flat.vertices) flat.nodes
  pub once : (v : ℕ) → length (filter (λ l. has l v) flat.nodes) ≤ 1
  pub first : 0 < length flat.nodes → has (node_at flat 0) 1 ≡ true
  pub bridges : All (IsBridgeBelow (length flat.nodes)) flat.bridges
  pub cycles : All (IsCycleBelow (length flat.nodes)) flat.cycles

pub if_some : (b : Bool) (x next : Flat) → (if b then Some x else None) ≡ Some next → (b ≡ true) × (x ≡ next)
if_some true x next e = let p : x ≡ next = cc e in (refl, p)
if_some false x next e = absurd (cc e)

ascends_is : (low high : ℕ) (vs : List ℕ) → ascends low high vs ≡ true → IsAscendingWithin low high vs
ascends_is low high [] e = tt
ascends_is low high (v ∷ vs) e =
    let parts = and_parts (nat_le low v && nat_le v high) (ascends (v + 1) high vs) e in
    let both = and_parts (nat_le low v) (nat_le v high) parts.0 in
    (leb-true low v both.0, leb-true v high both.1, ascends_is (v + 1) high vs parts.1)

filter_none : (p : List ℕ → Bool) (xs : List (List ℕ)) → list_any p xs ≡ false → length (filter p xs) ≡ 0
filter_none p [] h = refl
filter_none p (x ∷ xs) h = elim (cases_Bool (p x)) [
  | inl e ↦ absurd (let k : true ≡ false = sym (ap (λ (b : Bool). b || list_any p xs) e) ∙ h in cc k)
  | inr e ↦ ap (λ (b : Bool). length (cond b (x ∷ filter p xs) (filter p xs))) e ∙ filter_none p xs (sym (ap (λ (b : Bool). b || list_any p xs) e) ∙ h)
]

once_grown : (nodes : List (List ℕ)) (vs : List ℕ) (v : ℕ) → length (filter (λ l. has l v) nodes) ≤ 1
    → (has vs v ≡ true → list_any (λ l. has l v) nodes ≡ false) → length (filter (λ l. has l v) (nodes ++ vs ∷ [])) ≤ 1
once_grown nodes vs v h fresh =
    let p : List ℕ → Bool = λ l. has l v in
    let parts = ap (length {A = List ℕ}) (filter-append p nodes (vs ∷ [])) ∙ length-append (filter p nodes) (filter p (vs ∷ [])) in
    elim (cases_Bool (has vs v)) [
      | inl e ↦
          let one = ap (λ (b : Bool). length (cond b (vs ∷ []) [])) e in
          omega (arith, parts, one, filter_none p nodes (fresh e))
      | inr e ↦
          let none = ap (λ (b : Bool). length (cond b (vs ∷ []) [])) e in
          omega (arith, parts, none, h)
    ]

first_grown : (nodes : List (List ℕ)) (vs : List ℕ) (i : ℕ) → (0 < length nodes → has (slice_index_or nodes 0 []) 1 ≡ true) → i ≡ length nodes
    → (nat_lt 0 i || has vs 1) ≡ true → has (slice_index_or (nodes ++ vs ∷ []) 0 []) 1 ≡ true
first_grown [] vs i h e g = ap (λ k. nat_lt 0 k || has vs 1) (sym e) ∙ g
first_grown (x ∷ nodes) vs i h e g = h (omega arith)

cycle_later : (count more : ℕ) (c : List ℕ) → count ≤ more → IsCycleBelow count c → IsCycleBelow more c
cycle_later count more c le h = record {
  long = h.long;
  below = λ k d g. omega (arith, le, h.below k d g);
  different = h.different;
  first_least = h.first_least;
}

node_holds : (flat : Flat) (i : ℕ) (vs : List ℕ) → Holds flat → is_node flat i vs ≡ true → Holds (plus_node flat vs)
node_holds flat i vs h is =
    let fresh = list_all (λ v. not (is_placed flat v)) vs in
    let last = nat_lt 0 i || has vs 1 in
    let two = and_parts (i == length flat.nodes && ascends 1 flat.vertices vs && fresh) last is in
    let three = and_parts (i == length flat.nodes && ascends 1 flat.vertices vs) fresh two.0 in
    let four = and_parts (i == length flat.nodes) (ascends 1 flat.vertices vs) three.0 in
    let longer : length flat.nodes ≤ length (flat.nodes ++ vs ∷ []) = omega (arith, length-append flat.nodes (vs ∷ [])) in
    record {
      ascending = All-push (IsAscendingWithin 1 flat.vertices) flat.nodes vs h.ascending (ascends_is 1 flat.vertices vs four.1);
      once = λ v. once_grown flat.nodes vs v (h.once v) (λ e. not-true (is_placed flat v) (all_at (λ u. not (is_placed flat u)) vs v three.1 e));
      first = λ some. first_grown flat.nodes vs i h.first (eqb-true i (length flat.nodes) four.0) two.1;
      bridges = λ k d g. let b = h.bridges k d g in (b.0, omega (arith, b.1, longer));
      cycles = λ k d g. cycle_later (length flat.nodes) (length (flat.nodes ++ vs ∷ [])) (slice_index_or flat.cycles k d) longer (h.cycles k d g);
    }

node_grown : (flat next : Flat) (o : Option (List ℕ)) → Holds flat → with_node flat o ≡ Some next → Holds next × (next.vertices ≡ flat.vertices)
node_grown flat next None h e = absurd (cc e)
node_grown flat next (Some []) h e = absurd (cc e)
node_grown flat next (Some (i ∷ vs)) h e =
    let (is, same) = if_some (is_node flat i vs) (plus_node flat vs) next e in
    (subst Holds same (node_holds flat i vs h is), ap (λ (f : Flat). f.vertices) (sym same))

bridge_grown : (flat next : Flat) (o : Option (List ℕ)) → Holds flat → with_bridge flat o ≡ Some next → Holds next × (next.vertices ≡ flat.vertices)
bridge_grown flat next None h e = absurd (cc e)
bridge_grown flat next (Some []) h e = absurd (cc e)
bridge_grown flat next (Some (i ∷ [])) h e = absurd (cc e)
bridge_grown flat next (Some (i ∷ j ∷ [])) h e =
    let (is, same) = if_some (nat_lt i j && nat_lt j (length flat.nodes)) (plus_bridge flat (i, j)) next e in
    let parts = and_parts (nat_lt i j) (nat_lt j (length flat.nodes)) is in
    let grown : Holds (plus_bridge flat (i, j)) = record {
      ascending = h.ascending;
      once = h.once;
      first = h.first;
      bridges = All-push (IsBridgeBelow (length flat.nodes)) flat.bridges (i, j) h.bridges (ltb-true i j parts.0, ltb-true j (length flat.nodes) parts.1);
      cycles = h.cycles;
    } in
    (subst Holds same grown, ap (λ (f : Flat). f.vertices) (sym same))
bridge_grown flat next (Some (i ∷ j ∷ k ∷ ks)) h e = absurd (cc e)

apart_cons : (x y : ℕ) (ys : List ℕ) → x ≢ y → All (λ z. x ≢ z) ys → All (λ z. x ≢ z) (y ∷ ys)
apart_cons x y ys h g zero d k = h
apart_cons x y ys h g (suc i) d k = g i d (omega (arith, k))

apart_from : (x : ℕ) (xs : List ℕ) → has xs x ≡ false → All (λ y. x ≢ y) xs
apart_from x [] h k d g = absurd (omega (arith, g))
apart_from x (y ∷ ys) h k d g = elim (cases_Bool (y == x)) [
  | inl e ↦ absurd (let c : true ≡ false = sym (ap (λ (b : Bool). b || has ys x) e) ∙ h in cc c)
  | inr e ↦ apart_cons x y ys (λ same. let c : true ≡ false = sym (eq-eqb y x (sym same)) ∙ e in cc c)
      (apart_from x ys (sym (ap (λ (b : Bool). b || has ys x) e) ∙ h)) k d g
]

distinct_is : (xs : List ℕ) → distinct xs ≡ true → AllPairs (λ i j. i ≢ j) xs
distinct_is [] e = λ i j d g k. absurd (omega (arith, k))
distinct_is (x ∷ xs) e =
    let parts = and_parts (not (has xs x)) (distinct xs) e in
    AllPairs-cons (λ i j. i ≢ j) x xs (apart_from x xs (not-true (has xs x) parts.0)) (distinct_is xs parts.1)

cycle_is : (count : ℕ) (c : List ℕ) → is_cycle count c ≡ true → IsCycleBelow count c
cycle_is count c e =
    let least = slice_index c 0 in
    let p : ℕ → Bool = λ i. nat_le least i && nat_lt i count in
    let two = and_parts (nat_le 3 (length c) && list_all p c) (distinct c) e in
    let three = and_parts (nat_le 3 (length c)) (list_all p c) two.0 in
    let each = AllPass-from_list_all p c three.1 in
    record {
      long = leb-true 3 (length c) three.0;
      below = λ k d g. let x = slice_index_or c k d in ltb-true x count (and_parts (nat_le least x) (nat_lt x count) (each k d g)).1;
      different = distinct_is c two.1;
      first_least = λ k d g. let x = slice_index_or c k d in leb-true least x (and_parts (nat_le least x) (nat_lt x count) (each k d g)).0;
    }

cycle_grown : (flat next : Flat) (o : Option (List ℕ)) → Holds flat → with_cycle flat o ≡ Some next → Holds next × (next.vertices ≡ flat.vertices)
cycle_grown flat next None h e = absurd (cc e)
cycle_grown flat next (Some c) h e =
    let (is, same) = if_some (is_cycle (length flat.nodes) c) (plus_cycle flat c) next e in
    let grown : Holds (plus_cycle flat c) = record {
      ascending = h.ascending;
      once = h.once;
      first = h.first;
      bridges = h.bridges;
      cycles = All-push (IsCycleBelow (length flat.nodes)) flat.cycles c h.cycles (cycle_is (length flat.nodes) c is);
    } in
    (subst Holds same grown, ap (λ (f : Flat). f.vertices) (sym same))

-- a line that is taken keeps the rules, whatever it is due to be
either : (b : Bool) (x y : Option Flat) (next : Flat) (P : Type 0) → (x ≡ Some next → P) → (y ≡ Some next → P) → (if b then x else y) ≡ Some next → P
either true x y next P f g e = f e
either false x y next P f g e = g e

line_grown : (counts : Counts) (flat next : Flat) (bytes : List ℕ) → Holds flat → with_line counts flat bytes ≡ Some next → Holds next × (next.vertices ≡ flat.vertices)
line_grown counts flat next bytes h e =
    let Goal : Type 0 = Holds next × (next.vertices ≡ flat.vertices) in
    let nodes = with_node flat (numbers_of (codes "node") bytes) in
    let bridges = with_bridge flat (numbers_of (codes "bridge") bytes) in
    let cycles = with_cycle flat (numbers_of (codes "cycle") bytes) in
    let third : Option Flat = if nat_lt (length flat.cycles) counts.cycles then cycles else None in
    let second : Option Flat = if nat_lt (length flat.bridges) counts.bridges then bridges else third in
    either (nat_lt (length flat.nodes) counts.nodes) nodes second next Goal (node_grown flat next (numbers_of (codes "node") bytes) h)
    (either (nat_lt (length flat.bridges) counts.bridges) bridges third next Goal (bridge_grown flat next (numbers_of (codes "bridge") bytes) h)
    (either (nat_lt (length flat.cycles) counts.cycles) cycles None next Goal (cycle_grown flat next (numbers_of (codes "cycle") bytes) h) (λ n. absurd (cc n)))) e

-- what lines state keeps the rules of each line and those of the whole
pub whole_or : (b : Bool) (flat final : Flat) (number : ℕ) → (if b then Ok flat else Err number) ≡ Ok final → (b ≡ true) × (flat ≡ final)
whole_or true flat final number e = let p : flat ≡ final = cc e in (refl, p)
whole_or false flat final number e = absurd (cc e)

pub stated_next : (number : ℕ) (counts : Counts) (o : Option Flat) (ls : List (List ℕ)) (final : Flat)
    → (elim o as (λ _. Result Flat ℕ) [ None ↦ Err number | Some next ↦ stated (suc number) counts next ls ]) ≡ Ok final
    → (next : Flat) × (o ≡ Some next) × (stated (suc number) counts next ls ≡ Ok final)
stated_next number counts None ls final e = absurd (cc e)
stated_next number counts (Some next) ls final e = (next, refl, e)

pub stated_holds : (number : ℕ) (counts : Counts) (flat final : Flat) (ls : List (List ℕ)) → Holds flat → stated number counts flat ls ≡ Ok final
    → Holds final × (is_whole counts final ≡ true) × (final.vertices ≡ flat.vertices)
stated_holds number counts flat final [] h e =
    let (is, same) = whole_or (is_whole counts flat) flat final number e in
    (subst Holds same h, subst (λ f. is_whole counts f ≡ true) same is, ap (λ (f : Flat). f.vertices) (sym same))
stated_holds number counts flat final (bytes ∷ ls) h e =
    let (next, taken, later) = stated_next number counts (with_line counts flat bytes) ls final e in
    let grown = line_grown counts flat next bytes h taken in
    let rest = stated_holds (suc number) counts next final ls grown.0 later in
    (rest.0, rest.1, rest.2 ∙ grown.1)

-- nodes of one label are in one closed set
abbrev Together : List ℕ → (ℕ → Bool) → Type 0
Together labels set = (k m : ℕ) → k < length labels → m < length labels → slice_index labels k ≡ slice_index labels m → set k ≡ set m

together_more : (labels : List ℕ) (i j : ℕ) (set : ℕ → Bool) → i < length labels → j < length labels → set i ≡ set j → Together labels set → Together (relabelled labels (i, j)) set
together_more labels i j set iw jw joined h k m kr mr same =
    let size : length (relabelled labels (i, j)) ≡ length labels = length-map labels _ in
    let kw : k < length labels = omega (arith, kr, size) in
    let mw : m < length labels = omega (arith, mr, size) in
    elim (cases_eq (slice_index labels k) (slice_index labels j)) [
      | inl kj ↦ elim (cases_eq (slice_index labels m) (slice_index labels j)) [
        | inl mj ↦ h k m kw mw (kj ∙ sym mj)
        | inr mj ↦ h k j kw jw kj ∙ sym joined ∙ h i m iw mw (sym (at_changed labels i j k kw kj) ∙ same ∙ at_kept labels i j m mw mj)
      ]
      | inr kj ↦ elim (cases_eq (slice_index labels m) (slice_index labels j)) [
        | inl mj ↦ h k i kw iw (sym (at_kept labels i j k kw kj) ∙ same ∙ at_changed labels i j m mw mj) ∙ joined ∙ sym (h m j mw jw mj)
        | inr mj ↦ h k m kw mw (sym (at_kept labels i j k kw kj) ∙ same ∙ at_kept labels i j m mw mj)
      ]
    ]

together_all : (labels : List ℕ) (es : List (ℕ × ℕ)) (count : ℕ) (set : ℕ → Bool) → length labels ≡ count → EndsBelow count es → IsClosed es set → Together labels set
    → Together (fold relabelled labels es) set
together_all labels [] count set size ends closed h = h
together_all labels ((i, j) ∷ es) count set size ends closed h =
    together_all (relabelled labels (i, j)) es count set (length-map labels _ ∙ size) ends.2 closed.1
    (together_more labels i j set (omega (arith, ends.0, size)) (omega (arith, ends.1, size)) closed.0 h)

together_first : (count : ℕ) (set : ℕ → Bool) → Together (range_with_len 0 count) set
together_first count set k m kr mr same =
    let size = length-range_with_len 0 count in
    let one : 0 + k ≡ k = omega arith in
    let two : 0 + m ≡ m = omega arith in
    let number : k ≡ m =
    sym (get_or-range_with_len 0 count k 0 (omega (arith, kr, size)) ∙ one) ∙ same ∙ get_or-range_with_len 0 count m 0 (omega (arith, mr, size)) ∙ two in
    ap set number

all_reached : (flat : Flat) → Holds flat → is_joined flat ≡ true → 0 < length flat.nodes → (i : ℕ) → i < length flat.nodes → IsReached (all_edges flat) i
all_reached flat h joined some i within set closed first =
    let count = length flat.nodes in
    let start = range_with_len 0 count in
    let labels = fold relabelled start (all_edges flat) in
    let size : length labels ≡ count = fold_size start (all_edges flat) ∙ length-range_with_len 0 count in
    let together = together_all start (all_edges flat) count set (length-range_with_len 0 count) (ends_all flat h.bridges h.cycles) closed (together_first count set) in
    let each = AllPass-from_list_all (λ l. l == slice_index labels 0) labels joined in
    let same : slice_index labels i ≡ slice_index labels 0 = eqb-true (slice_index labels i) (slice_index labels 0) (each i 0 (omega (arith, within, size))) in
    together i 0 (omega (arith, within, size)) (omega (arith, some, size)) same ∙ first

range_at : (p : ℕ → Bool) (a n : ℕ) → list_all p (range_with_len a n) ≡ true → (v : ℕ) → a ≤ v → v < a + n → p v ≡ true
range_at p a n h v low high =
    let k = v - a in
    let place : a + k ≡ v = omega (arith, low) in
    let each = AllPass-from_list_all p (range_with_len a n) h k 0 (omega (arith, length-range_with_len a n, low, high)) in
    ap p (sym (get_or-range_with_len a n k 0 (omega (arith, low, high)) ∙ place)) ∙ each

some_of_any : (p : List ℕ → Bool) (xs : List (List ℕ)) → list_any p xs ≡ true → 1 ≤ length (filter p xs)
some_of_any p [] h = absurd (cc h)
some_of_any p (x ∷ xs) h = elim (cases_Bool (p x)) [
  | inl e ↦ let k = ap (λ (b : Bool). length (cond b (x ∷ filter p xs) (filter p xs))) e in omega (arith, k)
  | inr e ↦
      let k = ap (λ (b : Bool). length (cond b (x ∷ filter p xs) (filter p xs))) e in
      omega (arith, k, some_of_any p xs (sym (ap (λ (b : Bool). b || list_any p xs) e) ∙ h))
]

whole_formed : (counts : Counts) (flat : Flat) → Holds flat → is_whole counts flat ≡ true → IsWellFormed flat
whole_formed counts flat h whole =
    let parts = and_parts (is_complete counts flat) (is_tree flat) whole in
    let counted = length flat.nodes == 1 + length flat.bridges + sum_by (λ c. length c - 1) flat.cycles in
    let tree = and_parts counted (is_joined flat) parts.1 in
    let count = eqb-true (length flat.nodes) (1 + length flat.bridges + sum_by (λ c. length c - 1) flat.cycles) tree.0 in
    let some : 0 < length flat.nodes = omega (arith, count) in
    let lists = length flat.nodes == counts.nodes && length flat.bridges == counts.bridges && length flat.cycles == counts.cycles in
    let placed = (and_parts lists (list_all (is_placed flat) (range_with_len 1 flat.vertices)) parts.0).1 in
    record {
      ascending = h.ascending;
      in_one_node = λ v low high.
          let one = some_of_any (λ l. has l v) flat.nodes (range_at (is_placed flat) 1 flat.vertices placed v low (omega (arith, high))) in
          let most = h.once v in
          omega (arith, one, most);
      first_has_one = has_contains (node_at flat 0) 1 (h.first some);
      bridges = h.bridges;
      cycles = h.cycles;
      count = count;
      joined = all_reached flat h tree.1 some;
    }

pub no_node_holds : (n : ℕ) → Holds (no_node n)
no_node_holds n = record {
  ascending = λ k d g. absurd (omega (arith, g));
  once = λ v. omega arith;
  first = λ some. absurd (omega (arith, some));
  bridges = λ k d g. absurd (omega (arith, g));
  cycles = λ k d g. absurd (omega (arith, g));
}

pub stated_formed : (number : ℕ) (counts : Counts) (n : ℕ) (final : Flat) (ls : List (List ℕ)) → stated number counts (no_node n) ls ≡ Ok final → IsWellFormed final
stated_formed number counts n final ls e =
    let h = stated_holds number counts (no_node n) final ls (no_node_holds n) e in
    whole_formed counts final h.0 h.1
