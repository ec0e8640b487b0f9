-- What a scan keeps, over its changes.
use Rattle.std.proofs.Common.{◌≡◌, ℕ, zero, suc, ◌+◌, ◌-◌, ◌*◌, ◌<◌, ◌≤◌, inl, inr, ⊎_elim, Bool, true, false, not, eqb, ltb, List, [], ◌∷◌, length, get_or, set, drop, replicate, refl, sym, ◌∙◌, ap, arith, get_or-set_same, get_or-set_other, length-set}
use Rattle.std.specs.Prelude.{◌≢◌, ◌⊎◌, ◌↔◌, if◌then◌else◌}
use Rattle.std.specs.List.{count_by}
use Rattle.std.proofs.lemmas.Bool.{cases_eq, cases_lt, cases_Bool, eq-eqb, ne_eqb, eqb-true, false≢true}
use Rattle.std.proofs.Math.ListN.{drop_of_length-le}
use Rattle.std.proofs.lemmas.List.{length-replicate, get_or_past, length-drop, drop-set}
use Rattle.std.proofs.lemmas.List.Sums.{count_by-le-length, sum_by-cons}
use Rattle.cut_definitions.specs.Cuts.{has}
use Rattle.cut_definitions.proofs.Numbers.{positive_yes, positive}
use Rattle.cut_definitions.proofs.ListLaws.{at_drop}
use Rattle.weighted_graph.specs.declared.graph.Arc.{Arc}
use Rattle.weighted_graph.specs.Rows.{weight_in}
use Rattle.weighted_graph.proofs.RowSearch.{none_counts}
use Rattle.weighted_graph.proofs.Searched.{unseen_fewer}
use Rattle.capped_scan.specs.Maxima.{IsMaxTree, IsWritten}
use Rattle.capped_scan.specs.Scan.{ScanState, waits, link_of, IsAtRoot, IsChoice, IsStarted, NoneWaits, IsWithout, is_marked, IsLaidOut, raised, IsAbsorbed, LawOfChoice}

-- what contracts see of a scan
abbrev pub state : ℕ → ℕ → ℕ → ℕ → ℕ → ℕ → List ℕ → List ℕ → ScanState
state n root cap prefix size free tree order = record { vertices = n; root = root; cap = cap; order = drop free order; prefix = prefix; keys = drop size tree }

-- ---- tests of keys

pub waits_no : (k : ℕ) → k ≡ 0 → ltb 0 k ≡ false
waits_no k h = rw h refl

-- ---- dropping

pub lowered_layout : (n root size height free : ℕ) (tree new order : List ℕ) (marks : List Bool) (y : ℕ) → IsLaidOut n root size height free tree order marks →
    IsWritten size (size + y) 0 tree new → IsLaidOut n root size height free new order marks
lowered_layout n root size height free tree new order marks y h w =
    let before : (v : ℕ) → 0 < get_or new (size + v) 0 → 0 < get_or tree (size + v) 0 = λ v some. ⊎_elim
    (λ (e : v ≡ y). let zero_is : get_or new (size + v) 0 ≡ 0 = rw e w.written in absurd (omega arith))
    (λ (ne : v ≢ y). let same : get_or new (size + v) 0 ≡ get_or tree (size + v) 0 = w.others (size + v) (omega arith) (λ q. ne (omega arith)) in let r : 0 < get_or tree (size + v) 0 = omega arith in r)
    (cases_eq v y) in
    record {
      few = h.few;
      root_in = h.root_in;
      power = h.power;
      room = h.room;
      small = h.small;
      is_tree = w.tree;
      marks_long = h.marks_long;
      order_long = h.order_long;
      free_is = h.free_is;
      same = h.same;
      none_at_zero = h.none_at_zero;
      waiting = λ v some. h.waiting v (before v some);
      waiting_apart = λ v some. h.waiting_apart v (before v some);
    }

pub lowered_state : (n root cap prefix size free : ℕ) (tree new order : List ℕ) (y : ℕ) → IsWritten size (size + y) 0 tree new →
    IsWithout (state n root cap prefix size free tree order) (state n root cap prefix size free new order) y
lowered_state n root cap prefix size free tree new order y w = record {
  vertices = refl;
  root = refl;
  cap = refl;
  order = refl;
  prefix = refl;
  dropped = waits_no (get_or (drop size new) y 0) (at_drop size y new ∙ w.written);
  others = λ v ne. at_drop size v new ∙ (w.others (size + v) (omega arith) (λ q. ne (omega arith)) ∙ sym (at_drop size v tree));
}

-- a limit of all links is one of the keys, also if one is lowered
pub lowered_few : (size limit : ℕ) (tree new : List ℕ) (x : ℕ) → IsWritten size (size + x) 0 tree new → ((v : ℕ) → get_or (drop size tree) v 0 - 1 ≤ limit) → (v : ℕ) → get_or new (size + v) 0 ≤ limit + 1
lowered_few size limit tree new x w few v = ⊎_elim
    (λ (e : v ≡ x). let zero_is : get_or new (size + v) 0 ≡ 0 = rw e w.written in let r : get_or new (size + v) 0 ≤ limit + 1 = omega arith in r)
    (λ (ne : v ≢ x). omega (arith, few v, at_drop size v tree, w.others (size + v) (omega arith) (λ q. ne (omega arith))))
    (cases_eq v x)

-- ---- choosing

not_empty : (free : ℕ) (order : List ℕ) → free < length order → drop free order ≡ [] → ⊥
not_empty free order less e = let long : length (drop free order) ≡ length order - free = length-drop free order in
    let nothing : length (drop free order) ≡ 0 = ap length e in omega arith

nothing_left : (free : ℕ) (order : List ℕ) → length order ≤ free → drop free order ≡ []
nothing_left free order le = drop_of_length-le order le

module _ (n root cap prefix size height free : ℕ) (tree order : List ℕ) (marks : List Bool) (h : IsLaidOut n root size height free tree order marks) where
  pub free_within : free ≤ n + 1
  free_within = omega (arith, h.free_is, h.marks_long, count_by-le-length not marks)

  -- if the root is not scanned first
  pub not_at_root : (get_or tree (size + root) 0 ≡ 0) ⊎ (free ≢ n + 1) → IsAtRoot (state n root cap prefix size free tree order) → ⊥
  not_at_root c at =
      ⊎_elim
      (λ (zero_is : get_or tree (size + root) 0 ≡ 0). let some : 0 < get_or (drop size tree) root 0 = positive _ at.1 in omega (arith, at_drop size root tree))
      (λ (ne : free ≢ n + 1). not_empty free order (omega (arith, free_within, h.order_long, ne)) at.0)
      c

  pub choice_at_root : free ≡ n + 1 → 0 < get_or tree (size + root) 0 → IsChoice (state n root cap prefix size free tree order) root
  choice_at_root all some =
      let waiting : ltb 0 (get_or (drop size tree) root 0) ≡ true = positive_yes _ (rw (at_drop size root tree) some) in
      let empty : drop free order ≡ [] = nothing_left free order (omega (arith, h.order_long)) in
      record {
        waiting = waiting;
        at_root = λ at. refl;
        greatest = λ no y w. absurd (no (empty, waiting));
        least = λ no y w e. absurd (no (empty, waiting));
      }

  pub choice_of_leaf : (leaf : ℕ) → size ≤ leaf → leaf < 2 * size → 0 < get_or tree leaf 0 →
      ((j : ℕ) → size ≤ j → j < 2 * size → get_or tree j 0 ≤ get_or tree leaf 0) → ((j : ℕ) → size ≤ j → j < leaf → get_or tree j 0 < get_or tree leaf 0) →
      (IsAtRoot (state n root cap prefix size free tree order) → ⊥) → IsChoice (state n root cap prefix size free tree order) (leaf - size)
  choice_of_leaf leaf low high some greatest first not_root =
      let place : size + (leaf - size) ≡ leaf = omega arith in
      let here : get_or (drop size tree) (leaf - size) 0 ≡ get_or tree leaf 0 = at_drop size (leaf - size) tree ∙ ap (λ (j : ℕ). get_or tree j 0) place in
      record {
        waiting = positive_yes _ (omega arith);
        at_root = λ at. absurd (not_root at);
        greatest = λ no y w.
            let k : get_or (drop size tree) y 0 ≡ get_or tree (size + y) 0 = at_drop size y tree in
            let p : 0 < get_or (drop size tree) y 0 = positive _ w in
            let within = h.waiting y (omega arith) in
            omega (arith, greatest (size + y) (omega arith) (omega (arith, within.1, h.room)));
        least = λ no y w e.
            let k : get_or (drop size tree) y 0 ≡ get_or tree (size + y) 0 = at_drop size y tree in
            let p : 0 < get_or (drop size tree) y 0 = positive _ w in
            let same : get_or (drop size tree) y 0 - 1 ≡ get_or (drop size tree) (leaf - size) 0 - 1 = e in
            ⊎_elim
            (λ (l : size + y < leaf). let less : get_or tree (size + y) 0 < get_or tree leaf 0 = first (size + y) (omega arith) l in absurd (omega arith))
            (λ (le : leaf ≤ size + y). let r : leaf - size ≤ y = omega arith in r)
            (cases_lt (size + y) leaf);
      }

  -- if the greatest key is 0 none waits
  pub none_waits : (leaf : ℕ) → get_or tree leaf 0 ≡ 0 → ((j : ℕ) → size ≤ j → j < 2 * size → get_or tree j 0 ≤ get_or tree leaf 0) →
      NoneWaits (state n root cap prefix size free tree order)
  none_waits leaf zero_is greatest v =
      ⊎_elim
      (λ (held : ltb 0 (get_or (drop size tree) v 0) ≡ true).
      let p : 0 < get_or (drop size tree) v 0 = positive _ held in
      let k : get_or (drop size tree) v 0 ≡ get_or tree (size + v) 0 = at_drop size v tree in
      let within = h.waiting v (omega arith) in
      absurd (omega (arith, greatest (size + v) (omega arith) (omega (arith, within.1, h.room)))))
      (λ no. no)
      (cases_Bool (ltb 0 (get_or (drop size tree) v 0)))

  -- ---- scanning

  -- a vertex that waits has a key, is one of the tree, and has a place in the order
  pub waiting_key : (s : ScanState) → state n root cap prefix size free tree order ≡ s → (x : ℕ) → waits s x ≡ true → 0 < get_or tree (size + x) 0
  waiting_key s e x w =
      let p : 0 < get_or s.keys x 0 = positive _ w in
      omega (arith, p, at_drop size x tree, ap (λ (t : ScanState). get_or t.keys x 0) e)

  pub waiting_in : (x : ℕ) → 0 < get_or tree (size + x) 0 → x ≤ n
  waiting_in x some = (h.waiting x some).1

  pub waiting_free : (x : ℕ) → 0 < get_or tree (size + x) 0 → 1 ≤ free
  waiting_free x some = omega (arith, unseen_fewer marks x (omega (arith, waiting_in x some, h.marks_long)) (h.waiting_apart x some), h.free_is)

  module _ (tree1 tree2 : List ℕ) (x : ℕ) (row : List Arc) (some : 0 < get_or tree (size + x) 0) (w : IsWritten size (size + x) 0 tree tree1) (t : IsMaxTree size tree2)
      (keys : (v : ℕ) → v < size → get_or tree2 (size + v) 0 ≡ raised cap (get_or tree1 (size + v) 0) (weight_in row v)) where
    here_zero : get_or tree2 (size + x) 0 ≡ 0
    here_zero = let within = h.waiting x some in keys x (omega (arith, within.1, h.room)) ∙ ap (λ (k : ℕ). raised cap k (weight_in row x)) w.written

    other_key : (v : ℕ) → v ≢ x → get_or tree2 (size + v) 0 ≡ raised cap (get_or tree (size + v) 0) (weight_in row v)
    other_key v ne =
        ⊎_elim
        (λ (l : v < size). keys v l ∙ ap (λ (k : ℕ). raised cap k (weight_in row v)) (w.others (size + v) (omega arith) (λ q. ne (omega arith))))
        (λ (past : size ≤ v).
        let new : get_or tree2 (size + v) 0 ≡ 0 = get_or_past tree2 (size + v) 0 (omega (arith, t.long)) in
        let old : get_or tree (size + v) 0 ≡ 0 = get_or_past tree (size + v) 0 (omega (arith, h.is_tree.long)) in
        new ∙ sym (ap (λ (k : ℕ). raised cap k (weight_in row v)) old))
        (cases_lt v size)

    -- what waits still waited before
    before : (v : ℕ) → 0 < get_or tree2 (size + v) 0 → (v ≢ x) × (0 < get_or tree (size + v) 0)
    before v held =
        ⊎_elim
        (λ (e : v ≡ x). let z : get_or tree2 (size + v) 0 ≡ 0 = rw e here_zero in absurd (omega arith))
        (λ (ne : v ≢ x). (
          ne,
          ⊎_elim
              (λ (no : get_or tree (size + v) 0 < 1).
              let z : get_or tree (size + v) 0 ≡ 0 = omega arith in
              let r : get_or tree2 (size + v) 0 ≡ 0 = other_key v ne ∙ ap (λ (k : ℕ). raised cap k (weight_in row v)) z in absurd (omega arith))
              (λ (p : 1 ≤ get_or tree (size + v) 0). let r : 0 < get_or tree (size + v) 0 = omega arith in r)
              (cases_lt (get_or tree (size + v) 0) 1),
        ))
        (cases_eq v x)

    x_in : x < length marks
    x_in = let within = h.waiting x some in omega (arith, within.1, h.marks_long)

    fewer : count_by not (set marks x true) + 1 ≡ count_by not marks
    fewer = unseen_fewer marks x x_in (h.waiting_apart x some)

    order_new : drop (free - 1) (set order (free - 1) x) ≡ x ∷ drop free order
    order_new =
        let last : (free - 1) + 1 ≡ free = omega (arith, fewer, h.free_is) in
        drop-set order (free - 1) x (omega (arith, fewer, h.free_is, free_within, h.order_long)) ∙ ap (λ (k : ℕ). x ∷ drop k order) last

    same_new : (v : ℕ) → is_marked (set marks x true) v ≡ has (drop (free - 1) (set order (free - 1) x)) v
    same_new v =
        rw order_new (⊎_elim
        (λ (e : v ≡ x). rw (e, get_or-set_same marks x true false x_in, eq-eqb x x refl) refl)
        (λ (ne : v ≢ x). rw (get_or-set_other marks x v true false ne, ne_eqb x v (λ q. ne (sym q))) (h.same v))
        (cases_eq v x))

    pub absorbed_layout : IsLaidOut n root size height (free - 1) tree2 (set order (free - 1) x) (set marks x true)
    absorbed_layout = record {
      few = h.few;
      root_in = h.root_in;
      power = h.power;
      room = h.room;
      small = h.small;
      is_tree = t;
      marks_long = length-set marks x true ∙ h.marks_long;
      order_long = length-set order (free - 1) x ∙ h.order_long;
      free_is = omega (arith, fewer, h.free_is);
      same = same_new;
      none_at_zero = let within = h.waiting x some in get_or-set_other marks x 0 true false (λ q. omega (arith, within.0)) ∙ h.none_at_zero;
      waiting = λ v held. h.waiting v (before v held).1;
      waiting_apart = λ v held. get_or-set_other marks x v true false (before v held).0 ∙ h.waiting_apart v (before v held).1;
    }

    pub absorbed_state : IsAbsorbed (state n root cap prefix size free tree order) (state n root cap prefix size (free - 1) tree2 (set order (free - 1) x)) x row
    absorbed_state = record {
      vertices = refl;
      root = refl;
      cap = refl;
      prefix = refl;
      order = order_new;
      here = at_drop size x tree2 ∙ here_zero;
      others = λ v ne. at_drop size v tree2 ∙ (other_key v ne ∙ ap (λ (k : ℕ). raised cap k (weight_in row v)) (sym (at_drop size v tree)));
    }

-- ---- starting

count_unmarked : (k : ℕ) → count_by not (replicate k false) ≡ k
count_unmarked zero = refl
count_unmarked (suc k) = omega (arith, sum_by-cons (λ (b : Bool). if not b then 1 else 0) false (replicate k false), count_unmarked k)

pub unmarked : (k v : ℕ) → is_marked (replicate k false) v ≡ false
unmarked zero v = refl
unmarked (suc k) zero = refl
unmarked (suc k) (suc v) = unmarked k v

pub record IsFresh (n size : ℕ) (old new : List ℕ) : Type 0 where
  pub tree : IsMaxTree size new
  pub ones : (v : ℕ) → 1 ≤ v → v ≤ n → get_or new (size + v) 0 ≡ 1
  pub first : get_or new size 0 ≡ get_or old size 0
  pub rest : (v : ℕ) → n < v → get_or new (size + v) 0 ≡ get_or old (size + v) 0

module _ (n root size height free : ℕ) (tree order : List ℕ) (marks : List Bool) (h : IsLaidOut n root size height free tree order marks) (new : List ℕ) (f : IsFresh n size tree new) where
  -- all but the vertices do not wait
  pub fresh_waiting : (v : ℕ) → 0 < get_or new (size + v) 0 → (1 ≤ v) × (v ≤ n)
  fresh_waiting v held =
      ⊎_elim
      (λ (low : v < 1).
      let z : v ≡ 0 = omega arith in
      let place : size + v ≡ size = omega arith in
      let here : get_or new (size + v) 0 ≡ get_or tree (size + v) 0 = ap (λ (j : ℕ). get_or new j 0) place ∙ (f.first ∙ sym (ap (λ (j : ℕ). get_or tree j 0) place)) in
      absurd (omega (arith, (h.waiting v (omega arith)).0)))
      (λ (some : 1 ≤ v). ⊎_elim
      (λ (past : n < v). absurd (omega (arith, f.rest v past, (h.waiting v (omega (arith, f.rest v past))).1)))
      (λ (within : v ≤ n). let r : (1 ≤ v) × (v ≤ n) = (some, within) in r)
      (cases_lt n v))
      (cases_lt v 1)

  pub fresh_layout : (begin : ℕ) → begin ≤ n → IsLaidOut n begin size height (n + 1) new order (replicate (n + 1) false)
  fresh_layout begin within = record {
    few = h.few;
    root_in = within;
    power = h.power;
    room = h.room;
    small = h.small;
    is_tree = f.tree;
    marks_long = length-replicate (n + 1) false;
    order_long = h.order_long;
    free_is = sym (count_unmarked (n + 1));
    same = λ v. unmarked (n + 1) v ∙ sym (ap (λ (o : List ℕ). has o v) (nothing_left (n + 1) order (omega (arith, h.order_long))));
    none_at_zero = unmarked (n + 1) 0;
    waiting = fresh_waiting;
    waiting_apart = λ v held. unmarked (n + 1) v;
  }

  pub fresh_state : (begin cap prefix : ℕ) → IsStarted (state n begin cap prefix size (n + 1) new order) n begin cap
  fresh_state begin cap prefix = record {
    vertices = refl;
    root_is = refl;
    cap_is = refl;
    order = nothing_left (n + 1) order (omega (arith, h.order_long));
    waiting = λ v low high. positive_yes _ (omega (arith, at_drop size v new, f.ones v low high));
    links = λ v. ⊎_elim
        (λ (past : n < v). ⊎_elim
        (λ (no : get_or new (size + v) 0 < 1). let r : get_or (drop size new) v 0 - 1 ≡ 0 = omega (arith, at_drop size v new) in r)
        (λ (some : 1 ≤ get_or new (size + v) 0). absurd (omega (arith, (fresh_waiting v some).1)))
        (cases_lt (get_or new (size + v) 0) 1))
        (λ (within : v ≤ n). ⊎_elim
        (λ (no : get_or new (size + v) 0 < 1). let r : get_or (drop size new) v 0 - 1 ≡ 0 = omega (arith, at_drop size v new) in r)
        (λ (some : 1 ≤ get_or new (size + v) 0). let r : get_or (drop size new) v 0 - 1 ≡ 0 = omega (arith, at_drop size v new, f.ones v (fresh_waiting v some).0 within) in r)
        (cases_lt (get_or new (size + v) 0) 1))
        (cases_lt n v);
  }

  pub fresh_within : (begin cap prefix : ℕ) → (v : ℕ) → waits (state n begin cap prefix size (n + 1) new order) v ≡ true → (1 ≤ v) × (v ≤ n)
  fresh_within begin cap prefix v held = fresh_waiting v (let p : 0 < get_or (drop size new) v 0 = positive _ held in omega (arith, at_drop size v new))

-- ---- all vertices scanned

none_missing : (marks : List Bool) → ((v : ℕ) → v < length marks → is_marked marks v ≡ true) → count_by not marks ≡ 0
none_missing marks all = none_counts (λ (b : Bool). if not b then 1 else 0) marks false (λ v l. rw (all v l) refl)

pub all_scanned : (n root size height free : ℕ) (tree order : List ℕ) (marks : List Bool) → IsLaidOut n root size height free tree order marks →
    (eqb free 1 ≡ true) ↔ ((v : ℕ) → 1 ≤ v → v ≤ n → has (drop free order) v ≡ true)
all_scanned n root size height free tree order marks h =
    let first = unseen_fewer marks 0 (omega (arith, h.marks_long)) h.none_at_zero in (
      λ is v low high.
          let one : free ≡ 1 = eqb-true free 1 is in
          ⊎_elim
          (λ (there : is_marked marks v ≡ true). sym (h.same v) ∙ there)
          (λ (missing : is_marked marks v ≡ false).
          let still : is_marked (set marks 0 true) v ≡ false = get_or-set_other marks 0 v true false (λ q. omega arith) ∙ missing in
          let second = unseen_fewer (set marks 0 true) v (omega (arith, length-set marks 0 true, h.marks_long)) still in
          absurd (omega (arith, first, second, h.free_is)))
          (cases_Bool (is_marked marks v)),
      λ all.
          let rest : count_by not (set marks 0 true) ≡ 0 = none_missing (set marks 0 true) (λ v l. ⊎_elim
          (λ (e : v ≡ 0). rw e (get_or-set_same marks 0 true false (omega (arith, h.marks_long))))
          (λ (ne : v ≢ 0). get_or-set_other marks 0 v true false ne ∙ (h.same v ∙ all v (omega arith) (omega (arith, l, length-set marks 0 true, h.marks_long))))
          (cases_eq v 0)) in
          eq-eqb free 1 (omega (arith, first, rest, h.free_is)),
    )

-- ---- the next vertex is determined

at_root_or : (s : ScanState) (order : List ℕ) (b : Bool) → s.order ≡ order → waits s s.root ≡ b → IsAtRoot s ⊎ (IsAtRoot s → ⊥)
at_root_or s [] true e f = inl (e, f)
at_root_or s [] false e f = inr (λ at. false≢true (sym f ∙ at.1))
at_root_or s (v ∷ vs) b e f = inr (λ at. not_both (sym e ∙ at.0))
  where
    not_both : (v ∷ vs) ≡ [] → ⊥
    not_both q = cc

pub law_of_choice : LawOfChoice
law_of_choice s x y a b =
    ⊎_elim
    (λ at. a.at_root at ∙ sym (b.at_root at))
    (λ no.
    let up : link_of s y ≤ link_of s x = a.greatest no y b.waiting in
    let down : link_of s x ≤ link_of s y = b.greatest no x a.waiting in
    let low : x ≤ y = a.least no y b.waiting (omega arith) in
    let high : y ≤ x = b.least no x a.waiting (omega arith) in
    omega arith)
    (at_root_or s s.order (waits s s.root) refl refl)
