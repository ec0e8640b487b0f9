-- Each step keeps the facts. It rests on two laws alone: a pair that is safe for a bound is safe for every lower one, and the
-- lesser of two fair bounds is fair.
use Rattle.std.proofs.Common.{◌≡◌, ◌≢◌, ◌⊎◌, ℕ, zero, suc, ◌<◌, ◌≤◌, min, Bool, true, false, true≢false, if◌then◌else◌, List, [], ◌∷◌, ◌++◌, length, set, get_or, refl, sym, ap, ◌∙◌, subst, inl, inr, ⊎_elim, eq-eqb, ne_eqb, length-set, get_or-set_other, get_or-set_same, add-zero, zero-add, ◌+◌, cond, arith}
use Rattle.std.specs.Prelude.{Contains, ◌==◌}
use mathlib.Core.Logic.{dite}
use mathlib.Core.Option.{some, some-injective, some-ne-none}
use native.Mathlib.Decide.{ℕ_discrete}
use lib.ListN.{get_elem?}
use Rattle.std.proofs.lemmas.List.Sums.{sum_by-set, sum_by-cons, sum_by-append, get_or-le-sum_by}
use Rattle.std.proofs.lemmas.List.Elements.{Contains-append_cases, Contains-append_left, Contains-append_right}
use Rattle.cut_definitions.specs.Graph.{Graph}
use Rattle.cut_definitions.proofs.SafeLaws.{IsSafe-lower, IsFair-min}
use Rattle.weighted_graph.specs.RowLaws.{edge_at}
use Rattle.scan_core.specs.Machine.{IsSafeEdge, Knows, Machine, ended, fresh, forked, merged, loaded, Move, loads, lowers, looks, marks, splits, joins, takes, seat_at, sees, gains, both, learns, times, wins, IsLive, IsAllowed, after, FitsSeat, IsOwned, IsKept}

safe_below : (g : Graph) (low high slack e : ℕ) → low ≤ high → IsSafeEdge g high slack e → IsSafeEdge g low slack e
safe_below g low high slack e le h = IsSafe-lower g high low slack (edge_at g e).u (edge_at g e).v le h

module _ {A : Type 0} where
  pub at_or : (l : List A) (i : ℕ) (d : A) → i < length l → get_elem? l i ≡ some (get_or l i d)
  at_or [] i d h = absurd (omega arith)
  at_or (x ∷ xs) zero d h = refl
  at_or (x ∷ xs) (suc i) d h = at_or xs i d (omega arith)

  pub or_at : (l : List A) (i : ℕ) (a d : A) → get_elem? l i ≡ some a → (i < length l) × (get_or l i d ≡ a)
  or_at [] i a d e = absurd (some-ne-none a (sym e))
  or_at (x ∷ xs) zero a d e = (omega arith, some-injective x a e)
  or_at (x ∷ xs) (suc i) a d e = let r = or_at xs i a d e in let lt : i < length xs = r.0 in (omega arith, r.1)

  pub at_set : (l : List A) (i j : ℕ) (a b : A) → get_elem? (set l i a) j ≡ some b → ((j ≡ i) × (a ≡ b)) ⊎ ((j ≢ i) × (get_elem? l j ≡ some b))
  at_set [] i j a b e = absurd (some-ne-none b (sym e))
  at_set (x ∷ xs) zero zero a b e = inl (refl, some-injective a b e)
  at_set (x ∷ xs) zero (suc j) a b e = inr ((λ h. omega arith), e)
  at_set (x ∷ xs) (suc i) zero a b e = inr ((λ h. omega arith), e)
  at_set (x ∷ xs) (suc i) (suc j) a b e = ⊎_elim (λ t. inl (ap suc t.0, t.1)) (λ t. let n = t.0 in inr ((λ h. n (omega arith)), t.1)) (at_set xs i j a b e)

  pub at_here : (l : List A) (i : ℕ) (a : A) → i < length l → get_elem? (set l i a) i ≡ some a
  at_here [] i a h = absurd (omega arith)
  at_here (x ∷ xs) zero a h = refl
  at_here (x ∷ xs) (suc i) a h = at_here xs i a (omega arith)

  pub at_else : (l : List A) (i j : ℕ) (a : A) → j ≢ i → get_elem? (set l i a) j ≡ get_elem? l j
  at_else [] i j a h = refl
  at_else (x ∷ xs) zero zero a h = absurd (h refl)
  at_else (x ∷ xs) zero (suc j) a h = refl
  at_else (x ∷ xs) (suc i) zero a h = refl
  at_else (x ∷ xs) (suc i) (suc j) a h = at_else xs i j a (λ e. h (ap suc e))

  pub at_left : (l r : List A) (j : ℕ) (a : A) → get_elem? l j ≡ some a → get_elem? (l ++ r) j ≡ some a
  at_left [] r j a e = absurd (some-ne-none a (sym e))
  at_left (x ∷ xs) r zero a e = e
  at_left (x ∷ xs) r (suc j) a e = at_left xs r j a e

  pub at_snoc : (l : List A) (a b : A) (j : ℕ) → get_elem? (l ++ a ∷ []) j ≡ some b → (get_elem? l j ≡ some b) ⊎ (a ≡ b)
  at_snoc [] a b zero e = inr (some-injective a b e)
  at_snoc [] a b (suc j) e = absurd (some-ne-none b (sym e))
  at_snoc (x ∷ xs) a b zero e = inl e
  at_snoc (x ∷ xs) a b (suc j) e = at_snoc xs a b j e

pub seat_fits : (m : Machine) (k : ℕ) → IsKept m → IsLive m k → FitsSeat m (seat_at m k)
seat_fits m k kept live = kept.seats k (seat_at m k) (at_or m.seats k ended live.0) live.1

-- the facts after a change of one seat
one_seat : (m n : Machine) (k : ℕ) (w : Knows) → n.seats ≡ set m.seats k w → (w.live ≡ true → FitsSeat n w) → ((s : Knows) → FitsSeat m s → FitsSeat n s) → IsKept m
    → (j : ℕ) (s : Knows) → get_elem? n.seats j ≡ some s → s.live ≡ true → FitsSeat n s
one_seat m n k w e mine others kept j s at live = ⊎_elim
    (λ (t : (j ≡ k) × (w ≡ s)). subst (λ (x : Knows). x.live ≡ true → FitsSeat n x) t.1 mine live)
    (λ (t : (j ≢ k) × (get_elem? m.seats j ≡ some s)). others s (kept.seats j s t.1 live))
    (at_set m.seats k j w s (subst (λ l. get_elem? l j ≡ some s) e at))

-- seats that ended are as they were after a change of one seat that stays live
one_gone : (m : Machine) (k : ℕ) (w : Knows) → w.live ≡ true → IsKept m → (j : ℕ) (s : Knows) → get_elem? (set m.seats k w) j ≡ some s → s.live ≡ false → s ≡ ended
one_gone m k w live kept j s at dead = ⊎_elim
    (λ (t : (j ≡ k) × (w ≡ s)). absurd (true≢false (sym live ∙ ap (λ (x : Knows). x.live) t.1 ∙ dead)))
    (λ (t : (j ≢ k) × (get_elem? m.seats j ≡ some s)). kept.gone j s t.1 dead)
    (at_set m.seats k j w s at)

-- an edge that a seat has is still some seat's after a change of one seat that gives up none
pub owned_set : (l : List Knows) (k : ℕ) (w : Knows) (e : ℕ) → k < length l → (Contains (get_or l k ended).own e → Contains w.own e) → IsOwned l e → IsOwned (set l k w) e
owned_set l k w e lt grows (j, s, at, has) = dite (ℕ_discrete j k)
    (λ (same : j ≡ k). (k, w, at_here l k w lt, grows (subst (λ (x : Knows). Contains x.own e) (sym (or_at l k s ended (subst (λ (i : ℕ). get_elem? l i ≡ some s) same at)).1) has)))
    (λ (apart : j ≢ k). (j, s, at_else l k j w apart ∙ at, has))

pub wins_set : (m : Machine) (k : ℕ) (w : Knows) (v : ℕ) → k < length m.seats → wins v (set m.seats k w) + times v (seat_at m k).won ≡ wins v m.seats + times v w.won
wins_set m k w v lt = sum_by-set (λ (s : Knows). times v s.won) m.seats k w ended lt

wins_same : (m : Machine) (k : ℕ) (w : Knows) (v : ℕ) → k < length m.seats → w.won ≡ (seat_at m k).won → wins v (set m.seats k w) ≡ wins v m.seats
wins_same m k w v lt same = let sum = wins_set m k w v lt in let t : times v w.won ≡ times v (seat_at m k).won = ap (times v) same in omega arith

wins_joined : (m : Machine) (k j v : ℕ) → k < length m.seats → j < length m.seats → j ≢ k → wins v (set (set m.seats k (both (seat_at m k) (seat_at m j))) j ended) ≡ wins v m.seats
wins_joined m k j v lt lt' apart =
    let w : Knows = both (seat_at m k) (seat_at m j) in
    let f : Knows → ℕ = λ s. times v s.won in
    let len : length (set m.seats k w) ≡ length m.seats = length-set m.seats k w in
    let one = wins_set m k w v lt in
    let two : wins v (set (set m.seats k w) j ended) + f (get_or (set m.seats k w) j ended) ≡ wins v (set m.seats k w) + 0 = sum_by-set f (set m.seats k w) j ended ended (omega arith) in
    let other : f (get_or (set m.seats k w) j ended) ≡ f (seat_at m j) = ap f (get_or-set_other m.seats k j w ended apart) in
    let sum : times v w.won ≡ times v (seat_at m k).won + times v (seat_at m j).won = sum_by-append (λ (x : ℕ). cond (x == v) 1 0) (seat_at m k).won (seat_at m j).won in
    omega arith

pub kept_loads : (m : Machine) (k : ℕ) → IsKept m → IsAllowed m (loads k) → IsKept (after m (loads k))
kept_loads m k kept live = let n = after m (loads k) in let mine = seat_fits m k kept live in record {
  fair = kept.fair;
  lowered = kept.lowered;
  safe = kept.safe;
  seats = one_seat m n k (sees (seat_at m k) m.bound) refl
      (λ _. record { above = omega arith; fair = kept.fair; marked = mine.marked; taken = mine.taken })
      (λ s f. record { above = f.above; fair = f.fair; marked = f.marked; taken = f.taken }) kept;
  once = λ v. wins_same m k (sees (seat_at m k) m.bound) v live.0 refl ∙ kept.once v;
  gone = one_gone m k (sees (seat_at m k) m.bound) live.1 kept;
  marker = λ e is. owned_set m.seats k (sees (seat_at m k) m.bound) e live.0 (λ h. h) (kept.marker e is);
}

pub kept_lowers : (m : Machine) (k x : ℕ) → IsKept m → IsAllowed m (lowers k x) → IsKept (after m (lowers k x))
kept_lowers m k x kept allowed =
    let n = after m (lowers k x) in
    let mine = seat_fits m k kept allowed.0 in
    let lowered = kept.lowered in
    let now = IsFair-min m.graph m.bound x kept.fair allowed.1 in
    let less : min m.bound x ≤ m.bound = omega arith in record {
      fair = now;
      lowered = omega arith;
      safe = λ e is. safe_below m.graph (min m.bound x) m.bound m.slack e less (kept.safe e is);
      seats = one_seat m n k (sees (seat_at m k) (min m.bound x)) refl
          (λ _. record { above = omega arith; fair = now; marked = mine.marked; taken = mine.taken })
          (λ s f. let above = f.above in record { above = omega arith; fair = f.fair; marked = f.marked; taken = f.taken }) kept;
      once = λ v. wins_same m k (sees (seat_at m k) (min m.bound x)) v allowed.0.0 refl ∙ kept.once v;
      gone = one_gone m k (sees (seat_at m k) (min m.bound x)) allowed.0.1 kept;
      marker = λ e is. owned_set m.seats k (sees (seat_at m k) (min m.bound x)) e allowed.0.0 (λ h. h) (kept.marker e is);
    }

pub kept_looks : (m : Machine) (k e : ℕ) → IsKept m → IsAllowed m (looks k e) → IsKept (after m (looks k e))
kept_looks m k e kept allowed = kept

-- an edge is marked after a mark if it was before, or is the one
marked_after : (m : Machine) (k e i : ℕ) → ((after m (marks k e)).is_marked i ≡ true) → (i ≡ e) ⊎ (m.is_marked i ≡ true)
marked_after m k e i is = dite (ℕ_discrete i e) (λ same. inl same) (λ apart. inr (subst (λ b. (if b then true else m.is_marked i) ≡ true) (ne_eqb i e apart) is))

marked_new : (m : Machine) (k e : ℕ) → (after m (marks k e)).is_marked e ≡ true
marked_new m k e = subst (λ b. (if b then true else m.is_marked e) ≡ true) (sym (eq-eqb e e refl)) refl

marked_still : (m : Machine) (k e i : ℕ) → m.is_marked i ≡ true → (after m (marks k e)).is_marked i ≡ true
marked_still m k e i is = dite (ℕ_discrete i e)
    (λ same. subst (λ b. (if b then true else m.is_marked i) ≡ true) (sym (eq-eqb i e same)) refl)
    (λ apart. subst (λ b. (if b then true else m.is_marked i) ≡ true) (sym (ne_eqb i e apart)) is)

pub kept_marks : (m : Machine) (k e : ℕ) → IsKept m → IsAllowed m (marks k e) → IsKept (after m (marks k e))
kept_marks m k e kept allowed =
    let n = after m (marks k e) in
    let mine = seat_fits m k kept allowed.0 in record {
      fair = kept.fair;
      lowered = kept.lowered;
      safe = λ i is. ⊎_elim
          (λ (same : i ≡ e). subst (IsSafeEdge m.graph m.bound m.slack) (sym same) (safe_below m.graph m.bound (seat_at m k).seen m.slack e mine.above allowed.2))
          (λ (was : m.is_marked i ≡ true). kept.safe i was)
          (marked_after m k e i is);
      seats = one_seat m n k (gains (seat_at m k) e) refl
          (λ _. record { above = mine.above; fair = mine.fair; marked = own_marked m k e mine; taken = mine.taken })
          (λ s f. record { above = f.above; fair = f.fair; marked = λ i has. marked_still m k e i (f.marked i has); taken = f.taken }) kept;
      once = λ v. wins_same m k (gains (seat_at m k) e) v allowed.0.0 refl ∙ kept.once v;
      gone = one_gone m k (gains (seat_at m k) e) allowed.0.1 kept;
      marker = λ i is. ⊎_elim
          (λ (same : i ≡ e). (k, gains (seat_at m k) e, at_here m.seats k (gains (seat_at m k) e) allowed.0.0, (0, omega arith, sym same)))
          (λ (was : m.is_marked i ≡ true). owned_set m.seats k (gains (seat_at m k) e) i allowed.0.0 (further e i (seat_at m k).own) (kept.marker i was))
          (marked_after m k e i is);
    }
  where
    further : (e i : ℕ) (own : List ℕ) → Contains own i → Contains (e ∷ own) i
    further e i own (p, lt, is) = (suc p, omega arith, is)

    own_marked : (m : Machine) (k e : ℕ) → FitsSeat m (seat_at m k) → (i : ℕ) → Contains (e ∷ (seat_at m k).own) i → (after m (marks k e)).is_marked i ≡ true
    own_marked m k e mine i (zero, lt, is) = subst (λ (x : ℕ). (after m (marks k e)).is_marked x ≡ true) is (marked_new m k e)
    own_marked m k e mine i (suc p, lt, is) = marked_still m k e i (mine.marked i (p, omega arith, is))

pub kept_forked : (m : Machine) (k : ℕ) → IsKept m → IsLive m k → IsKept (forked m k)
kept_forked m k kept live =
    let n = forked m k in
    let mine = seat_fits m k kept live in record {
      fair = kept.fair;
      lowered = kept.lowered;
      safe = kept.safe;
      seats = λ j s at is. ⊎_elim
          (λ (old : get_elem? m.seats j ≡ some s). let f = kept.seats j s old is in record { above = f.above; fair = f.fair; marked = f.marked; taken = f.taken })
          (λ (new : fresh (seat_at m k).seen ≡ s). subst (FitsSeat n) new (record { above = mine.above; fair = mine.fair; marked = λ i has. let none = has.1 in absurd (omega arith); taken = λ i has. let none = has.1 in absurd (omega arith) }))
          (at_snoc m.seats (fresh (seat_at m k).seen) s j at);
      once = λ v. let sum = sum_by-append (λ (s : Knows). times v s.won) m.seats (fresh (seat_at m k).seen ∷ []) in let was = kept.once v in sum ∙ (add-zero _ ∙ was);
      gone = λ j s at dead. ⊎_elim
          (λ (old : get_elem? m.seats j ≡ some s). kept.gone j s old dead)
          (λ (new : fresh (seat_at m k).seen ≡ s). absurd (true≢false (ap (λ (x : Knows). x.live) new ∙ dead)))
          (at_snoc m.seats (fresh (seat_at m k).seen) s j at);
      marker = λ e is. let h = kept.marker e is in (h.0, h.1, at_left m.seats (fresh (seat_at m k).seen ∷ []) h.0 h.1 h.2, h.3);
    }

-- what the two seats had the first one has after a join
module _ (m : Machine) (k j e : ℕ) (allowed : IsAllowed m (joins k j)) where
  abbrev taker : Knows
  taker = both (seat_at m k) (seat_at m j)

  its : (i : ℕ) (s : Knows) → get_elem? m.seats i ≡ some s → Contains s.own e → (n : ℕ) → i ≡ n → Contains (seat_at m n).own e
  its i s at has n same = subst (λ (x : Knows). Contains x.own e) (sym (or_at m.seats n s ended (subst (λ (y : ℕ). get_elem? m.seats y ≡ some s) same at)).1) has

  of_taker : Contains taker.own e → IsOwned (merged m k j).seats e
  of_taker h = (k, taker, at_else (set m.seats k taker) j k ended (λ t. allowed.2 (sym t)) ∙ at_here m.seats k taker allowed.0.0, h)

  owned_joined : IsOwned m.seats e → IsOwned (merged m k j).seats e
  owned_joined (i, s, at, has) = dite (ℕ_discrete i k)
      (λ (same : i ≡ k). of_taker (Contains-append_left (seat_at m k).own (seat_at m j).own e (its i s at has k same)))
      (λ (out : i ≢ k). dite (ℕ_discrete i j)
      (λ (same : i ≡ j). of_taker (Contains-append_right (seat_at m k).own (seat_at m j).own e (its i s at has j same)))
      (λ (away : i ≢ j). (i, s, at_else (set m.seats k taker) j i ended away ∙ (at_else m.seats k i taker out ∙ at), has)))

pub kept_merged : (m : Machine) (k j : ℕ) → IsKept m → IsAllowed m (joins k j) → IsKept (merged m k j)
kept_merged m k j kept allowed =
    let n = merged m k j in
    let one = seat_fits m k kept allowed.0 in
    let two = seat_fits m j kept allowed.1 in
    let a = one.above in let b = two.above in
    let w : Knows = both (seat_at m k) (seat_at m j) in
    let joined : FitsSeat n w = record { above = omega arith; fair = IsFair-min m.graph _ _ one.fair two.fair; marked = λ i has. ⊎_elim (one.marked i) (two.marked i) (Contains-append_cases (seat_at m k).own (seat_at m j).own i has); taken = λ i has. ⊎_elim (one.taken i) (two.taken i) (Contains-append_cases (seat_at m k).known (seat_at m j).known i has) } in record {
      fair = kept.fair;
      lowered = kept.lowered;
      safe = kept.safe;
      seats = λ i s at is. ⊎_elim
          (λ (t : (i ≡ j) × (ended ≡ s)). absurd (true≢false (sym (ap (λ (x : Knows). x.live) t.1 ∙ is))))
          (λ (t : (i ≢ j) × (get_elem? (set m.seats k w) i ≡ some s)). ⊎_elim
          (λ (u : (i ≡ k) × (w ≡ s)). subst (FitsSeat n) u.1 joined)
          (λ (u : (i ≢ k) × (get_elem? m.seats i ≡ some s)). let f = kept.seats i s u.1 is in record { above = f.above; fair = f.fair; marked = f.marked; taken = f.taken })
          (at_set m.seats k i w s t.1))
          (at_set (set m.seats k w) j i ended s at);
      once = λ v. wins_joined m k j v allowed.0.0 allowed.1.0 allowed.2 ∙ kept.once v;
      gone = λ i s at dead. ⊎_elim
          (λ (t : (i ≡ j) × (ended ≡ s)). sym t.1)
          (λ (t : (i ≢ j) × (get_elem? (set m.seats k w) i ≡ some s)). one_gone m k w allowed.0.1 kept i s t.1 dead)
          (at_set (set m.seats k w) j i ended s at);
      marker = λ e is. owned_joined m k j e allowed (kept.marker e is);
    }

-- the seat is live after a load, and after it took over another
pub live_loaded : (m : Machine) (k : ℕ) → IsLive m k → IsLive (loaded m k) k
live_loaded m k live =
    let w : Knows = sees (seat_at m k) m.bound in
    let len : length (set m.seats k w) ≡ length m.seats = length-set m.seats k w in
    let lt = live.0 in
    (omega arith, ap (λ (s : Knows). s.live) (get_or-set_same m.seats k w ended lt) ∙ live.1)

pub live_merged : (m : Machine) (k j : ℕ) → IsAllowed m (joins k j) → IsLive (merged m k j) k
live_merged m k j allowed =
    let w : Knows = both (seat_at m k) (seat_at m j) in
    let one : length (set m.seats k w) ≡ length m.seats = length-set m.seats k w in
    let two : length (set (set m.seats k w) j ended) ≡ length (set m.seats k w) = length-set (set m.seats k w) j ended in
    let lt = allowed.0.0 in
    let apart : k ≢ j = λ h. allowed.2 (sym h) in
    (omega arith, ap (λ (s : Knows). s.live) (get_or-set_other (set m.seats k w) j k ended ended apart ∙ get_or-set_same m.seats k w ended lt) ∙ allowed.0.1)

pub kept_splits : (m : Machine) (k : ℕ) → IsKept m → IsAllowed m (splits k) → IsKept (after m (splits k))
kept_splits m k kept live = kept_forked (loaded m k) k (kept_loads m k kept live) (live_loaded m k live)

pub kept_joins : (m : Machine) (k j : ℕ) → IsKept m → IsAllowed m (joins k j) → IsKept (after m (joins k j))
kept_joins m k j kept allowed = kept_loads (merged m k j) k (kept_merged m k j kept allowed) (live_merged m k j allowed)

taken_new : (m : Machine) (k v : ℕ) → (after m (takes k v)).is_taken v ≡ true
taken_new m k v = subst (λ b. (if b then true else m.is_taken v) ≡ true) (sym (eq-eqb v v refl)) refl

taken_still : (m : Machine) (k v u : ℕ) → m.is_taken u ≡ true → (after m (takes k v)).is_taken u ≡ true
taken_still m k v u is = dite (ℕ_discrete u v)
    (λ same. subst (λ b. (if b then true else m.is_taken u) ≡ true) (sym (eq-eqb u v same)) refl)
    (λ apart. subst (λ b. (if b then true else m.is_taken u) ≡ true) (sym (ne_eqb u v apart)) is)

known_taken : (m : Machine) (k v : ℕ) → FitsSeat m (seat_at m k) → (u : ℕ) → Contains (v ∷ (seat_at m k).known) u → (after m (takes k v)).is_taken u ≡ true
known_taken m k v mine u (zero, lt, is) = subst (λ (x : ℕ). (after m (takes k v)).is_taken x ≡ true) is (taken_new m k v)
known_taken m k v mine u (suc p, lt, is) = taken_still m k v u (mine.taken u (p, omega arith, is))

times_cons : (v u : ℕ) (xs : List ℕ) → times u (v ∷ xs) ≡ cond (v == u) 1 0 + times u xs
times_cons v u xs = sum_by-cons (λ (x : ℕ). cond (x == u) 1 0) v xs

times_other : (xs : List ℕ) (b : Bool) (v u : ℕ) → u ≢ v → times u (if b then xs else (v ∷ xs)) ≡ times u xs
times_other xs true v u apart = refl
times_other xs false v u apart = times_cons v u xs ∙ (ap (λ (c : Bool). cond c 1 0 + times u xs) (ne_eqb v u (λ h. apart (sym h))) ∙ zero-add _)

times_own : (xs : List ℕ) (b : Bool) (v : ℕ) → times v (if b then xs else (v ∷ xs)) + (if b then 1 else 0) ≡ times v xs + 1
times_own xs true v = refl
times_own xs false v =
    let n : ℕ = times v xs in
    let turned : 1 + n ≡ n + 1 = omega arith in
    add-zero _ ∙ (times_cons v v xs ∙ (ap (λ (c : Bool). cond c 1 0 + n) (eq-eqb v v refl) ∙ turned))

once_takes : (m : Machine) (k v : ℕ) → IsKept m → k < length m.seats → (u : ℕ) → wins u (after m (takes k v)).seats ≡ (if (after m (takes k v)).is_taken u then 1 else 0)
once_takes m k v kept lt u =
    let s = seat_at m k in
    let w : Knows = learns s v (m.is_taken v) in
    let sum = wins_set m k w u lt in
    let was = kept.once u in
    dite (ℕ_discrete u v)
    (λ same.
    let own : times u w.won + (if m.is_taken u then 1 else 0) ≡ times u s.won + 1 =
    subst (λ (x : ℕ). times x w.won + (if m.is_taken x then 1 else 0) ≡ times x s.won + 1) (sym same) (times_own s.won (m.is_taken v) v) in
    let n : ℕ = if m.is_taken u then 1 else 0 in
    let own' : times u w.won + n ≡ times u s.won + 1 = own in
    let was' : wins u m.seats ≡ n = was in
    let one : wins u (set m.seats k w) ≡ 1 = omega arith in
    one ∙ sym (ap (λ (b : Bool). if b then 1 else 0) (subst (λ (x : ℕ). (after m (takes k v)).is_taken x ≡ true) (sym same) (taken_new m k v))))
    (λ apart.
    let other : times u w.won ≡ times u s.won = times_other s.won (m.is_taken v) v u apart in
    let stays : wins u (set m.seats k w) ≡ wins u m.seats = omega arith in
    stays ∙ (was ∙ ap (λ (b : Bool). if b then 1 else 0) (sym (ap (λ (b : Bool). if b then true else m.is_taken u) (ne_eqb u v apart)))))

pub kept_takes : (m : Machine) (k v : ℕ) → IsKept m → IsAllowed m (takes k v) → IsKept (after m (takes k v))
kept_takes m k v kept allowed =
    let n = after m (takes k v) in
    let mine = seat_fits m k kept allowed.0 in record {
      fair = kept.fair;
      lowered = kept.lowered;
      safe = kept.safe;
      seats = one_seat m n k (learns (seat_at m k) v (m.is_taken v)) refl
          (λ _. record { above = mine.above; fair = mine.fair; marked = mine.marked; taken = known_taken m k v mine })
          (λ s f. record { above = f.above; fair = f.fair; marked = f.marked; taken = λ u has. taken_still m k v u (f.taken u has) }) kept;
      once = once_takes m k v kept allowed.0.0;
      gone = one_gone m k (learns (seat_at m k) v (m.is_taken v)) allowed.0.1 kept;
      marker = λ e is. owned_set m.seats k (learns (seat_at m k) v (m.is_taken v)) e allowed.0.0 (λ h. h) (kept.marker e is);
    }

-- no vertex was won by a seat twice
pub won_once : (m : Machine) (k : ℕ) (s : Knows) → IsKept m → get_elem? m.seats k ≡ some s → (v : ℕ) → times v s.won ≤ (if m.is_taken v then 1 else 0)
won_once m k s kept at v =
    let r = or_at m.seats k s ended at in
    let lt = r.0 in
    let le : times v (seat_at m k).won ≤ wins v m.seats = get_or-le-sum_by (λ (x : Knows). times v x.won) m.seats k ended lt in
    subst (λ (n : ℕ). times v s.won ≤ n) (kept.once v) (subst (λ (x : Knows). times v x.won ≤ wins v m.seats) r.1 le)

pub kept_after : (m : Machine) (move : Move) → IsKept m → IsAllowed m move → IsKept (after m move)
kept_after m (loads k) kept allowed = kept_loads m k kept allowed
kept_after m (lowers k x) kept allowed = kept_lowers m k x kept allowed
kept_after m (looks k e) kept allowed = kept_looks m k e kept allowed
kept_after m (marks k e) kept allowed = kept_marks m k e kept allowed
kept_after m (splits k) kept allowed = kept_splits m k kept allowed
kept_after m (joins k j) kept allowed = kept_joins m k j kept allowed
kept_after m (takes k v) kept allowed = kept_takes m k v kept allowed
