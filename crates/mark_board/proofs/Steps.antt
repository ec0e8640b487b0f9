-- Each step of a board's table keeps the rule.
use Rattle.std.proofs.Common.{◌≡◌, ◌≢◌, ◌⊎◌, ℕ, suc, ◌+◌, ◌<◌, ◌≤◌, min, Bool, true, false, List, [], ◌∷◌, ◌++◌, map, length, set, refl, sym, ap, ◌∙◌, subst, inl, inr, ⊎_elim, length-set, get_or-set_same, get_or-set_other, if◌then◌else◌, arith}
use Rattle.std.specs.Prelude.{slice_index, bit_or, Contains, ◌==◌}
use Rattle.std.proofs.lemmas.List.{map-set, set-get_or}
use mathlib.Core.Option.{none, some}
use lib.ListN.{get_elem?}
use mathlib.Core.List.{map-append}
use Rattle.atomic_table.specs.Table.{State, Me, step, keeps, stepped, Allows, Splits, Joins}
use Rattle.atomic_table.proofs.Lists.{at_set, at_map, set_here, set_again, at_snoc}
use Rattle.cut_definitions.specs.Safe.{IsFair}
use Rattle.cut_definitions.proofs.SafeLaws.{IsFair-min}
use Rattle.scan_core.specs.Machine.{IsSafeEdge, forked, merged, Knows, Machine, ended, fresh, both as joined, Move, loads, lowers, looks, marks, splits, joins, takes, seat_at, sees, gains, learns, times, IsLive, IsAllowed, after, FitsSeat, IsKept}
use Rattle.scan_core.proofs.Keeps.{or_at, kept_after, kept_forked, kept_merged, won_once}
use Rattle.mark_board.specs.declared.rule.View.{View}
use Rattle.mark_board.specs.declared.rule.Opened.{Opened}
use Rattle.mark_board.specs.Words.{word_of, mask_of, base_of, bit_of, is_flagged, marked_at, taken_at}
use Rattle.mark_board.specs.Rule.{edge_count, knows, machine_of, Agrees, IsBoard, seeing, gaining, fresh_view, joined_view, ended_view, IsStep, loaded, lowered, looked, marked, took, learning}
use Rattle.mark_board.proofs.Bits.{is_flagged_bound, edge_is, marked_in, marked_by, marked_same, with_flag, flag_other, bound_marked, bound_taken, mark_marks, mark_takes, take_marks, take_takes, taken_flag}

abbrev St : Type 0
St = State (Unit {0}) View

abbrev Sat : Type 0
Sat = Me (Unit {0}) View

not_free : (edges count u f : ℕ) → f ≡ base_of edges + u → u < count → ((edges ≤ f) × (f < base_of edges)) ⊎ (base_of edges + count ≤ f) → ⊥
not_free edges count u f is lt free = ⊎_elim (λ (h : (edges ≤ f) × (f < base_of edges)). let below = h.1 in absurd (omega arith)) (λ (h : base_of edges + count ≤ f). absurd (omega arith)) free

le_one : (n : ℕ) (b : Bool) → n ≤ (if b then 1 else 0) → n ≤ 1
le_one n true h = h
le_one n false h = omega arith

module _ (key : Opened) where
  abbrev M : St → Machine
  M s = machine_of key s

  seat_is : (s : St) (id : ℕ) (v : View) → get_elem? s.views id ≡ some v → (id < length (map knows s.views)) × (seat_at (M s) id ≡ knows v)
  seat_is s id v at = or_at (map knows s.views) id (knows v) ended (at_map knows s.views id v at)

  is_live : (s : St) (id : ℕ) (v : View) → get_elem? s.views id ≡ some v → v.live ≡ true → IsLive (M s) id
  is_live s id v at live = let h = seat_is s id v at in (h.0, ap (λ (x : Knows). x.live) h.1 ∙ live)

  pub fits : (s : St) (id : ℕ) (v : View) → IsBoard key s → get_elem? s.views id ≡ some v → v.live ≡ true → FitsSeat (M s) (knows v)
  fits s id v board at live = board.kept.seats id (knows v) (at_map knows s.views id v at) live

  agree_set : (views : List View) (id : ℕ) (w : View) → ((k : ℕ) (v : View) → get_elem? views k ≡ some v → v.live ≡ true → Agrees key v) → (w.live ≡ true → Agrees key w)
      → (k : ℕ) (v : View) → get_elem? (set views id w) k ≡ some v → v.live ≡ true → Agrees key v
  agree_set views id w all mine k v at live = ⊎_elim
      (λ (t : (k ≡ id) × (w ≡ v)). subst (λ (x : View). x.live ≡ true → Agrees key x) t.1 mine live)
      (λ (t : (k ≢ id) × (get_elem? views k ≡ some v)). all k v t.1 live)
      (at_set views id k w v at)

  abbrev IsFree : Opened → ℕ → Type 0
  IsFree k f = ((edge_count k.graph.value ≤ f) × (f < base_of (edge_count k.graph.value))) ⊎ (base_of (edge_count k.graph.value) + k.graph.value.vertices ≤ f)

  is_free : (s : St) → IsBoard key s → (f : ℕ) → IsFree key f → is_flagged s.words f ≡ false
  is_free s board f free = ⊎_elim (λ h. board.spare f h.0 h.1) (board.past f) free

  -- a step on a word that is one step of the machine
  goes : (s : St) (id i n : ℕ) (me : Sat) (w : View) (move : Move) → IsBoard key s → (w.live ≡ true → Agrees key w) → IsAllowed (M s) move
      → M (stepped s i n id me.1 w keeps) ≡ after (M s) move
      → ((f : ℕ) → (f < edge_count key.graph.value → ⊥) → IsFree key f → is_flagged (set s.words i n) f ≡ false)
      → IsBoard key (stepped s i n id me.1 w keeps)
  goes s id i n me w move board agrees allowed same spare = record {
    kept = subst IsKept (sym same) (kept_after (M s) move board.kept allowed);
    agree = agree_set s.views id w board.agree agrees;
    sized = length-set s.words i n ∙ board.sized;
    spare = λ f h lt. spare f (λ l. omega arith) (inl (h, lt));
    past = λ f h. spare f (λ l. omega arith) (inr h);
  }

  abbrev told : (s : St) (id : ℕ) (v w : View) (move : ℕ → Move) → IsBoard key s → get_elem? s.views id ≡ some v → v.live ≡ true → IsAllowed (M s) (move id)
      → (after (M s) (move id)).seats ≡ set (map knows s.views) id (knows w) → IsStep move v w
  told s id v w move board at live allowed seats =
      let a = board.agree id v at live in
      let inside = (seat_is s id v at).0 in record {
        machine = M s;
        seat = id;
        graph = sym a.graph;
        slack = sym a.slack;
        opening = sym a.opening;
        kept = board.kept;
        allowed = allowed;
        before = at_map knows s.views id v at;
        next = subst (λ (l : List Knows). get_elem? l id ≡ some (knows w)) (sym seats) (set_here (map knows s.views) id (knows w) inside);
      }

  -- the machine if the bound's word and one view change
  bound_machine : (s : St) (id n : ℕ) (me : Sat) (w : View) → 0 < length s.words
      → M (stepped s 0 n id me.1 w keeps) ≡ record (M s) { bound = n; seats = set (map knows s.views) id (knows w) }
  bound_machine s id n me w some_word =
      let b : slice_index (set s.words 0 n) 0 ≡ n = get_or-set_same s.words 0 n 0 some_word in
      let l : map knows (set s.views id w) ≡ set (map knows s.views) id (knows w) = map-set knows s.views id w in
      λ i. record {
        graph = key.graph.value;
        slack = key.slack;
        opening = key.bound;
        bound = b i;
        is_marked = λ e. bound_marked s.words n (edge_count key.graph.value) e i;
        is_taken = λ v. bound_taken s.words n (edge_count key.graph.value) key.graph.value.vertices v i;
        seats = l i;
      }

  at_most_one : (s : St) (id : ℕ) (v : View) → IsBoard key s → get_elem? s.views id ≡ some v → (x : ℕ) → times x v.won ≤ 1
  at_most_one s id v board at x = le_one (times x v.won) ((M s).is_taken x) (won_once (M s) id (knows v) board.kept (at_map knows s.views id v at) x)

  seen_again : (s : St) (id n : ℕ) (v : View) → get_elem? s.views id ≡ some v → knows (seeing v n) ≡ sees (seat_at (M s) id) n
  seen_again s id n v at = ap (λ (x : Knows). sees x n) (sym (seat_is s id v at).1)

  pub loads_allowed : (slots id : ℕ) (me : Sat) → me.0.live ≡ true → Allows (IsBoard key) slots id me 0 (λ n. n) (loaded (step slots 0 0 0 none) me)
  loads_allowed slots id me live s board _ at small =
      let n : ℕ = slice_index s.words 0 in
      let v : View = me.0 in
      let w : View = seeing v n in
      let a = board.agree id v at live in
      let f = fits s id v board at live in
      let allowed : IsAllowed (M s) (loads id) = is_live s id v at live in
      let sized = board.sized in
      let some_word : 0 < length s.words = omega arith in
      let is = seen_again s id n v at in
      let same : M (stepped s 0 n id me.1 w keeps) ≡ after (M s) (loads id) =
      bound_machine s id n me w some_word ∙ ap (λ (x : Knows). record (M s) { bound = n; seats = set (map knows s.views) id x }) is in (
        w,
        keeps,
        tt,
        goes s id 0 n me w (loads id) board (λ _. record { graph = a.graph; slack = a.slack; opening = a.opening }) allowed same (λ f _ free. is_flagged_bound s.words n f ∙ is_free s board f free),
        (
          refl,
          subst (λ g. IsFair g n) (sym a.graph) board.kept.fair,
          f.above,
          (λ x. at_most_one s id v board at x),
          told s id v w loads board at live allowed (ap (λ (x : Knows). set (map knows s.views) id x) (sym is)),
        ),
      )

  pub lowers_allowed : (slots id : ℕ) (me : Sat) (x : ℕ) → me.0.live ≡ true → IsFair me.0.graph x → Allows (IsBoard key) slots id me 0 (λ n. min n x) (lowered (step slots 0 x 0 none) me)
  lowers_allowed slots id me x live fair s board _ at small =
      let n : ℕ = slice_index s.words 0 in
      let v : View = me.0 in
      let b : ℕ = min n x in
      let w : View = seeing v b in
      let a = board.agree id v at live in
      let f = fits s id v board at live in
      let fair' : IsFair key.graph.value x = subst (λ g. IsFair g x) a.graph fair in
      let allowed : IsAllowed (M s) (lowers id x) = (is_live s id v at live, fair') in
      let sized = board.sized in
      let some_word : 0 < length s.words = omega arith in
      let is = seen_again s id b v at in
      let same : M (stepped s 0 b id me.1 w keeps) ≡ after (M s) (lowers id x) =
      bound_machine s id b me w some_word ∙ ap (λ (y : Knows). record (M s) { bound = b; seats = set (map knows s.views) id y }) is in (
        w,
        keeps,
        tt,
        goes s id 0 b me w (lowers id x) board (λ _. record { graph = a.graph; slack = a.slack; opening = a.opening }) allowed same (λ f _ free. is_flagged_bound s.words b f ∙ is_free s board f free),
        (
          refl,
          subst (λ g. IsFair g b) (sym a.graph) (IsFair-min key.graph.value n x board.kept.fair fair'),
          f.above,
          told s id v w (λ k. lowers k x) board at live allowed (ap (λ (y : Knows). set (map knows s.views) id y) (sym is)),
        ),
      )

  pub safe_here : (v : View) → Agrees key v → (b e : ℕ) → IsSafeEdge key.graph.value b key.slack e → IsSafeEdge v.graph b v.slack e
  safe_here v a b e h = subst (λ g. IsSafeEdge g b v.slack e) (sym a.graph) (subst (λ d. IsSafeEdge key.graph.value b d e) (sym a.slack) h)

  safe_there : (v : View) → Agrees key v → (b e : ℕ) → IsSafeEdge v.graph b v.slack e → IsSafeEdge key.graph.value b key.slack e
  safe_there v a b e h = subst (λ d. IsSafeEdge key.graph.value b d e) a.slack (subst (λ g. IsSafeEdge g b v.slack e) a.graph h)

  pub looks_allowed : (slots id : ℕ) (me : Sat) (word : ℕ) → me.0.live ≡ true → Allows (IsBoard key) slots id me word (λ n. n) (looked (step slots word 0 0 none) me)
  looks_allowed slots id me word live s board _ at small =
      let n : ℕ = slice_index s.words word in
      let v : View = me.0 in
      let a = board.agree id v at live in
      let f = fits s id v board at live in
      let here = seat_is s id v at in
      let l = is_live s id v at live in
      let unchanged : s ≡ stepped s word n id me.1 v keeps = λ i. record { words = sym (set-get_or s.words word 0) i; homes = s.homes; views = sym (set_again s.views id v at) i } in (
        v,
        keeps,
        tt,
        subst (IsBoard key) unchanged board,
        (
          refl,
          (λ e is lt set_there.
              let there : marked_at s.words (edge_count key.graph.value) e ≡ true = marked_by s.words (edge_count key.graph.value) e (subst (λ g. e < edge_count g) a.graph lt) (subst (λ (j : ℕ). bit_of (slice_index s.words j) e ≡ true) (sym is) set_there) in
              (slice_index s.words 0, subst (λ g. IsFair g (slice_index s.words 0)) (sym a.graph) board.kept.fair, f.above, safe_here v a (slice_index s.words 0) e (board.kept.safe e there))),
          (λ e is has. subst (λ (j : ℕ). bit_of (slice_index s.words j) e ≡ true) is (marked_in s.words (edge_count key.graph.value) e (f.marked e has)).1),
          (λ e is lt. record {
            step = told s id v v (λ k. looks k e) board at live (l, subst (λ g. e < edge_count g) a.graph lt) (sym (set_again (map knows s.views) id (knows v) (at_map knows s.views id v at)));
            answered = ap (λ (j : ℕ). bit_of (slice_index s.words j) e) (sym is) ∙ sym (marked_same s.words (edge_count key.graph.value) e (subst (λ g. e < edge_count g) a.graph lt));
            fair = subst (λ g. IsFair g (slice_index s.words 0)) (sym a.graph) board.kept.fair;
            at_most = f.above;
            safe = λ set_there.
                let there : marked_at s.words (edge_count key.graph.value) e ≡ true = marked_by s.words (edge_count key.graph.value) e (subst (λ g. e < edge_count g) a.graph lt) (subst (λ (j : ℕ). bit_of (slice_index s.words j) e ≡ true) (sym is) set_there) in
                safe_here v a (slice_index s.words 0) e (board.kept.safe e there);
          }),
        ),
      )

  pub marks_allowed : (slots id : ℕ) (me : Sat) (e : ℕ) → me.0.live ≡ true → e < edge_count me.0.graph → IsSafeEdge me.0.graph me.0.seen me.0.slack e
      → Allows (IsBoard key) slots id me (word_of e) (λ n. bit_or n (mask_of e)) (marked (step slots (word_of e) (mask_of e) 0 none) me)
  marks_allowed slots id me e live lt safe s board _ at small =
      let n : ℕ = slice_index s.words (word_of e) in
      let x : ℕ = bit_or n (mask_of e) in
      let v : View = me.0 in
      let w : View = gaining v e in
      let a = board.agree id v at live in
      let here = seat_is s id v at in
      let seen_is : v.seen ≡ (seat_at (M s) id).seen = sym (ap (λ (y : Knows). y.seen) here.1) in
      let lt' : e < edge_count key.graph.value = subst (λ g. e < edge_count g) a.graph lt in
      let allowed : IsAllowed (M s) (marks id e) = (is_live s id v at live, lt', subst (λ b. IsSafeEdge key.graph.value b key.slack e) seen_is (safe_there v a v.seen e safe)) in
      let sized = board.sized in
      let in_words : word_of e < length s.words = omega arith in
      let is : knows w ≡ gains (seat_at (M s) id) e = ap (λ (y : Knows). gains y e) (sym here.1) in
      let b : slice_index (set s.words (word_of e) x) 0 ≡ slice_index s.words 0 = get_or-set_other s.words (word_of e) 0 x 0 (λ h. omega arith) in
      let l : map knows (set s.views id w) ≡ set (map knows s.views) id (gains (seat_at (M s) id) e) = map-set knows s.views id w ∙ ap (λ (y : Knows). set (map knows s.views) id y) is in
      let same : M (stepped s (word_of e) x id me.1 w keeps) ≡ after (M s) (marks id e) = λ i. record {
        graph = key.graph.value;
        slack = key.slack;
        opening = key.bound;
        bound = b i;
        is_marked = λ j. mark_marks s.words (edge_count key.graph.value) e lt' in_words j i;
        is_taken = λ u. mark_takes s.words (edge_count key.graph.value) key.graph.value.vertices e lt' in_words u i;
        seats = l i;
      } in
      let step_of : IsStep (λ k. marks k e) v w = told s id v w (λ k. marks k e) board at live allowed (ap (λ (y : Knows). set (map knows s.views) id y) (sym is)) in (
        w,
        keeps,
        tt,
        goes s id (word_of e) x me w (marks id e) board (λ _. record { graph = a.graph; slack = a.slack; opening = a.opening }) allowed same
            (λ f out free. let apart : f ≢ e = λ t. out (omega arith) in flag_other s.words e f in_words apart ∙ is_free s board f free),
        (λ j one_word one_mask. let one : j ≡ e = edge_is e j one_word one_mask in
            let now : Sat = (w, me.1) in let gained : ℕ → Sat = λ y. (gaining v y, me.1) in
            subst (λ (y : ℕ). (now ≡ gained y) × IsStep (λ k. marks k y) v w) (sym one) (refl, step_of)),
      )

  pub takes_allowed : (slots id : ℕ) (me : Sat) (u f : ℕ) → me.0.live ≡ true → u < me.0.graph.vertices → f ≡ base_of (edge_count me.0.graph) + u
      → Allows (IsBoard key) slots id me (word_of f) (λ n. bit_or n (mask_of f)) (took (step slots (word_of f) (mask_of f) 0 none) me)
  takes_allowed slots id me u f live lt flag s board _ at small =
      let n : ℕ = slice_index s.words (word_of f) in
      let x : ℕ = bit_or n (mask_of f) in
      let edges : ℕ = edge_count key.graph.value in
      let count : ℕ = key.graph.value.vertices in
      let v : View = me.0 in
      let w : View = learning v (suc u) (bit_of n f) in
      let a = board.agree id v at live in
      let fit = fits s id v board at live in
      let here = seat_is s id v at in
      let lt' : u < count = subst (λ g. u < g.vertices) a.graph lt in
      let flag' : f ≡ base_of edges + u = flag ∙ ap (λ g. base_of (edge_count g) + u) a.graph in
      let allowed : IsAllowed (M s) (takes id (suc u)) = (is_live s id v at live, omega arith, omega arith) in
      let sized = board.sized in
      let in_words : word_of f < length s.words = omega arith in
      let in_words' : word_of (base_of edges + u) < length s.words = subst (λ (y : ℕ). word_of y < length s.words) flag' in_words in
      let was : bit_of n f ≡ (M s).is_taken (suc u) = ap (λ (y : ℕ). is_flagged s.words y) flag' ∙ sym (taken_flag s.words edges count u lt') in
      let is : knows w ≡ learns (seat_at (M s) id) (suc u) ((M s).is_taken (suc u)) = λ i. learns (sym here.1 i) (suc u) (was i) in
      let b : slice_index (set s.words (word_of f) x) 0 ≡ slice_index s.words 0 = get_or-set_other s.words (word_of f) 0 x 0 (λ h. omega arith) in
      let l : map knows (set s.views id w) ≡ set (map knows s.views) id (learns (seat_at (M s) id) (suc u) ((M s).is_taken (suc u))) = map-set knows s.views id w ∙ ap (λ (y : Knows). set (map knows s.views) id y) is in
      let new : set s.words (word_of f) x ≡ with_flag s.words (base_of edges + u) = ap (with_flag s.words) flag' in
      let m : (j : ℕ) → marked_at (set s.words (word_of f) x) edges j ≡ marked_at s.words edges j = λ j. ap (λ (y : List ℕ). marked_at y edges j) new ∙ take_marks s.words edges u in_words' j in
      let t : (j : ℕ) → taken_at (set s.words (word_of f) x) edges count j ≡ (if j == suc u then true else taken_at s.words edges count j) = λ j. ap (λ (y : List ℕ). taken_at y edges count j) new ∙ take_takes s.words edges count u lt' in_words' j in
      let same : M (stepped s (word_of f) x id me.1 w keeps) ≡ after (M s) (takes id (suc u)) = λ i. record {
        graph = key.graph.value;
        slack = key.slack;
        opening = key.bound;
        bound = b i;
        is_marked = λ j. m j i;
        is_taken = λ j. t j i;
        seats = l i;
      } in
      let step_of : IsStep (λ k. takes k (suc u)) v w = told s id v w (λ k. takes k (suc u)) board at live allowed (ap (λ (y : Knows). set (map knows s.views) id y) (sym is)) in (
        w,
        keeps,
        tt,
        goes s id (word_of f) x me w (takes id (suc u)) board (λ _. record { graph = a.graph; slack = a.slack; opening = a.opening }) allowed same
            (λ g out free. let apart : g ≢ f = λ h. not_free edges count u g (h ∙ flag') lt' free in flag_other s.words f g in_words apart ∙ is_free s board g free),
        (λ i g lt_i is_flag one_word one_mask.
            let one : g ≡ f = edge_is f g one_word one_mask in
            let one' : i ≡ u = omega arith in
            let now : Sat = (w, me.1) in
            let made : ℕ → ℕ → Sat = λ y z. (learning v (suc y) (bit_of n z), me.1) in
            let known : Contains v.known (suc u) → bit_of n f ≡ true = λ has. was ∙ fit.taken (suc u) has in
            subst (λ (y : ℕ × ℕ). (now ≡ made y.0 y.1) × (Contains v.known (suc y.0) → bit_of n y.1 ≡ true) × IsStep (λ k. takes k (suc y.0)) v w) (λ j. (sym one' j, sym one j)) (refl, known, step_of)),
      )

  pub splits_allowed : (id : ℕ) (v : View) → v.live ≡ true → Splits (IsBoard key) id v v (fresh_view v)
  splits_allowed id v live s board at =
      let a = board.agree id v at live in
      let views : List View = set s.views id v ++ fresh_view v ∷ [] in
      let n : St = record { words = s.words; homes = s.homes; views = views } in
      let here = seat_is s id v at in
      let allowed : IsAllowed (M s) (splits id) = is_live s id v at live in
      let again : views ≡ s.views ++ fresh_view v ∷ [] = ap (λ (l : List View). l ++ fresh_view v ∷ []) (set_again s.views id v at) in
      let new_one : knows (fresh_view v) ≡ fresh (seat_at (M s) id).seen = λ i. record { live = live i; seen = sym (ap (λ (y : Knows). y.seen) here.1) i; own = []; won = []; known = [] } in
      let l : map knows views ≡ map knows s.views ++ fresh (seat_at (M s) id).seen ∷ [] =
      ap (map knows) again ∙ (map-append knows s.views (fresh_view v ∷ []) ∙ ap (λ (y : Knows). map knows s.views ++ y ∷ []) new_one) in
      let same : M n ≡ forked (M s) id = λ i. record { graph = key.graph.value; slack = key.slack; opening = key.bound; bound = slice_index s.words 0; is_marked = marked_at s.words (edge_count key.graph.value); is_taken = taken_at s.words (edge_count key.graph.value) key.graph.value.vertices; seats = l i } in
      record {
        kept = subst IsKept (sym same) (kept_forked (M s) id board.kept allowed);
        agree = λ k u there is. ⊎_elim
            (λ (old : get_elem? s.views k ≡ some u). board.agree k u old is)
            (λ (new : fresh_view v ≡ u). subst (Agrees key) new (record { graph = a.graph; slack = a.slack; opening = a.opening }))
            (at_snoc s.views (fresh_view v) u k (subst (λ (y : List View). get_elem? y k ≡ some u) again there));
        sized = board.sized;
        spare = board.spare;
        past = board.past;
      }

  pub joins_allowed : (id : ℕ) (v : View) (other : ℕ) (w : View) → v.live ≡ true → w.live ≡ true → Joins (IsBoard key) id v other w (joined_view v w) ended_view
  joins_allowed id v other w live live' s board at apart at' =
      let both : View = joined_view v w in
      let views : List View = set (set s.views id both) other ended_view in
      let n : St = record { words = s.words; homes = s.homes; views = views } in
      let there : get_elem? s.views other ≡ some w = ⊎_elim
      (λ (t : (other ≡ id) × (both ≡ w)). absurd (apart t.0))
      (λ (t : (other ≢ id) × (get_elem? s.views other ≡ some w)). t.1)
      (at_set s.views id other both w at') in
      let a = board.agree id v at live in
      let one = seat_is s id v at in
      let two = seat_is s other w there in
      let allowed : IsAllowed (M s) (joins id other) = (is_live s id v at live, is_live s other w there live', apart) in
      let is : knows both ≡ joined (seat_at (M s) id) (seat_at (M s) other) = λ i. joined (sym one.1 i) (sym two.1 i) in
      let l : map knows views ≡ set (set (map knows s.views) id (joined (seat_at (M s) id) (seat_at (M s) other))) other ended =
      map-set knows (set s.views id both) other ended_view
      ∙ ap (λ (y : List Knows). set y other ended) (map-set knows s.views id both ∙ ap (λ (y : Knows). set (map knows s.views) id y) is) in
      let same : M n ≡ merged (M s) id other = λ i. record { graph = key.graph.value; slack = key.slack; opening = key.bound; bound = slice_index s.words 0; is_marked = marked_at s.words (edge_count key.graph.value); is_taken = taken_at s.words (edge_count key.graph.value) key.graph.value.vertices; seats = l i } in
      record {
        kept = subst IsKept (sym same) (kept_merged (M s) id other board.kept allowed);
        agree = agree_set (set s.views id both) other ended_view (agree_set s.views id both board.agree (λ _. record { graph = a.graph; slack = a.slack; opening = a.opening })) (λ (h : false ≡ true). absurd (cc));
        sized = board.sized;
        spare = board.spare;
        past = board.past;
      }
