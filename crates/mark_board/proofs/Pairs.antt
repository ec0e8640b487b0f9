-- A load followed by the splitting of a seat is a split, and the joining of two seats followed by a load is a join.
use Rattle.std.proofs.Common.{◌≡◌, ◌≢◌, ℕ, ◌+◌, ◌<◌, ◌≤◌, min, true, true≢false, List, [], ◌∷◌, ◌++◌, length, set, get_or, refl, sym, ap, ◌∙◌, subst, ⊎_elim, length-set, get_or-set_same, cond, arith}
use Rattle.std.specs.Prelude.{◌==◌, Contains}
use mathlib.Core.Logic.{dite}
use native.Mathlib.Decide.{ℕ_discrete}
use Rattle.std.proofs.lemmas.List.{set-set, set-append_left}
use Rattle.std.proofs.lemmas.List.Sums.{sum_by-append}
use Rattle.std.proofs.lemmas.List.Elements.{Contains-append_cases, Contains-append_left, Contains-append_right}
use mathlib.Core.Option.{some, some-injective}
use lib.ListN.{get_elem?}
use Rattle.atomic_table.proofs.Lists.{set_here, set_else, set_again, at_longer, at_last}
use Rattle.cut_definitions.specs.Safe.{IsFair}
use Rattle.scan_core.specs.Machine.{Knows, Machine, ended, fresh, both, merged, loaded, loads, seat_at, sees, times, wins, FitsSeat, IsOwned, IsKept}
use Rattle.scan_core.proofs.Keeps.{at_set, at_snoc, or_at, wins_set}
use Rattle.mark_board.specs.declared.rule.View.{View}
use Rattle.mark_board.specs.Rule.{knows, fresh_view, joined_view, IsStep, IsSplit, IsJoin}

set_last : (l : List Knows) (a b : Knows) → set (l ++ a ∷ []) (length l) b ≡ l ++ b ∷ []
set_last [] a b = refl
set_last (x ∷ xs) a b = ap (λ (l : List Knows). x ∷ l) (set_last xs a b)

-- the seat after a load
loads_to : (v w : View) (h : IsStep loads v w) → sees (seat_at h.machine h.seat) h.machine.bound ≡ knows w
loads_to v w h =
    let m = h.machine in
    let x : Knows = sees (seat_at m h.seat) m.bound in
    some-injective x (knows w) (sym (set_here m.seats h.seat x h.allowed.0) ∙ h.next)

pub split_of : (v w : View) → IsStep loads v w → IsSplit v w (fresh_view w)
split_of v w h =
    let m = h.machine in
    let k : ℕ = h.seat in
    let x : Knows = sees (seat_at m k) m.bound in
    let one : List Knows = set m.seats k x in
    let to : x ≡ knows w = loads_to v w h in
    let here : get_or one k ended ≡ x = get_or-set_same m.seats k x ended h.allowed.0 in
    let new : fresh (get_or one k ended).seen ≡ knows (fresh_view w) =
    λ i. record { live = (sym h.allowed.1 ∙ ap (λ (s : Knows). s.live) to) i; seen = (ap (λ (s : Knows). s.seen) here ∙ ap (λ (s : Knows). s.seen) to) i; own = []; won = []; known = [] } in
    record {
      machine = m;
      seat = k;
      graph = h.graph;
      slack = h.slack;
      opening = h.opening;
      kept = h.kept;
      allowed = h.allowed;
      before = h.before;
      next = at_longer one (fresh (get_or one k ended).seen ∷ []) k (knows w) h.next;
      made = at_last one (fresh (get_or one k ended).seen) (length m.seats) (length-set m.seats k x) ∙ ap some new;
    }

module _ (m : Machine) (k : ℕ) (v x : View) where
  -- the seats before the other one was joined
  abbrev apart_seats : List Knows
  apart_seats = set m.seats k (knows v) ++ knows x ∷ []

  abbrev apart : Machine
  apart = record m { seats = apart_seats }

  abbrev other : ℕ
  other = length m.seats

  apart_first : k < length m.seats → get_elem? apart_seats k ≡ some (knows v)
  apart_first lt = at_longer (set m.seats k (knows v)) (knows x ∷ []) k (knows v) (set_here m.seats k (knows v) lt)

  apart_other : get_elem? apart_seats other ≡ some (knows x)
  apart_other = at_last (set m.seats k (knows v)) (knows x) other (length-set m.seats k (knows v))

  apart_merges : get_elem? m.seats k ≡ some (knows (joined_view v x)) → merged apart k other ≡ record m { seats = m.seats ++ ended ∷ [] }
  apart_merges before =
      let u : Knows = knows (joined_view v x) in
      let at = or_at m.seats k u ended before in
      let lt = at.0 in
      let len : length (set m.seats k (knows v)) ≡ length m.seats = length-set m.seats k (knows v) in
      let first = or_at apart_seats k (knows v) ended (apart_first lt) in
      let second = or_at apart_seats other (knows x) ended apart_other in
      let joined : both (seat_at apart k) (seat_at apart other) ≡ u = λ i. both (first.1 i) (second.1 i) in
      let longer : k < length (set m.seats k (knows v)) = omega arith in
      let lists : set apart_seats k u ≡ m.seats ++ knows x ∷ [] =
      set-append_left (set m.seats k (knows v)) (knows x ∷ []) k u longer
      ∙ ap (λ (l : List Knows). l ++ knows x ∷ []) (set-set m.seats k (knows v) u ∙ set_again m.seats k u before) in
      let gone : set (m.seats ++ knows x ∷ []) other ended ≡ m.seats ++ ended ∷ [] = set_last m.seats (knows x) ended in
      let all : set (set apart_seats k (both (seat_at apart k) (seat_at apart other))) other ended ≡ m.seats ++ ended ∷ [] =
      ap (λ (s : Knows). set (set apart_seats k s) other ended) joined ∙ (ap (λ (l : List Knows). set l other ended) lists ∙ gone) in
      ap (λ (l : List Knows). record m { seats = l }) all

  -- what the one seat has after the join one of the two had before
  apart_owned : get_elem? m.seats k ≡ some (knows (joined_view v x)) → (e : ℕ) → IsOwned m.seats e → IsOwned apart_seats e
  apart_owned before e (i, s, at, has) =
      let lt = (or_at m.seats k (knows (joined_view v x)) ended before).0 in
      dite (ℕ_discrete i k)
      (λ (same : i ≡ k).
      let is : s ≡ knows (joined_view v x) = some-injective s (knows (joined_view v x)) (sym at ∙ (ap (λ (j : ℕ). get_elem? m.seats j) same ∙ before)) in
      ⊎_elim
      (λ (own : Contains v.own e). (k, knows v, apart_first lt, own))
      (λ (own : Contains x.own e). (other, knows x, apart_other, own))
      (Contains-append_cases v.own x.own e (subst (λ (y : Knows). Contains y.own e) is has)))
      (λ (apart_from : i ≢ k). (i, s, at_longer (set m.seats k (knows v)) (knows x ∷ []) i s (set_else m.seats k i (knows v) apart_from ∙ at), has))

  apart_kept : IsKept m → get_elem? m.seats k ≡ some (knows (joined_view v x)) → v.live ≡ true → x.live ≡ true → IsFair m.graph v.seen → IsFair m.graph x.seen → IsKept apart
  apart_kept kept before live live' fair fair' =
      let u : Knows = knows (joined_view v x) in
      let at = or_at m.seats k u ended before in
      let lt = at.0 in
      let mine : FitsSeat m u = kept.seats k u before live in
      let above : m.bound ≤ min v.seen x.seen = mine.above in
      let one : FitsSeat apart (knows v) = record { above = omega arith; fair = fair; marked = λ e has. mine.marked e (Contains-append_left v.own x.own e has); taken = λ e has. mine.taken e (Contains-append_left v.known x.known e has) } in
      let two : FitsSeat apart (knows x) = record { above = omega arith; fair = fair'; marked = λ e has. mine.marked e (Contains-append_right v.own x.own e has); taken = λ e has. mine.taken e (Contains-append_right v.known x.known e has) } in
      record {
        fair = kept.fair;
        lowered = kept.lowered;
        safe = kept.safe;
        seats = λ j s there is. ⊎_elim
            (λ (old : get_elem? (set m.seats k (knows v)) j ≡ some s). ⊎_elim
            (λ (t : (j ≡ k) × (knows v ≡ s)). subst (FitsSeat apart) t.1 one)
            (λ (t : (j ≢ k) × (get_elem? m.seats j ≡ some s)). let f = kept.seats j s t.1 is in record { above = f.above; fair = f.fair; marked = f.marked; taken = f.taken })
            (at_set m.seats k j (knows v) s old))
            (λ (new : knows x ≡ s). subst (FitsSeat apart) new two)
            (at_snoc (set m.seats k (knows v)) (knows x) s j there);
        once = λ e.
            let sum = wins_set m k (knows v) e lt in
            let won : times e (seat_at m k).won ≡ times e v.won + times e x.won = ap (λ (s : Knows). times e s.won) at.1 ∙ sum_by-append (λ (y : ℕ). cond (y == e) 1 0) v.won x.won in
            let all : wins e apart_seats ≡ wins e (set m.seats k (knows v)) + (0 + times e x.won) = sum_by-append (λ (s : Knows). times e s.won) (set m.seats k (knows v)) (knows x ∷ []) in
            let stays : wins e apart_seats ≡ wins e m.seats = omega arith in
            stays ∙ kept.once e;
        gone = λ j s there dead. ⊎_elim
            (λ (old : get_elem? (set m.seats k (knows v)) j ≡ some s). ⊎_elim
            (λ (t : (j ≡ k) × (knows v ≡ s)). absurd (true≢false (sym live ∙ ap (λ (y : Knows). y.live) t.1 ∙ dead)))
            (λ (t : (j ≢ k) × (get_elem? m.seats j ≡ some s)). kept.gone j s t.1 dead)
            (at_set m.seats k j (knows v) s old))
            (λ (new : knows x ≡ s). absurd (true≢false (sym live' ∙ ap (λ (y : Knows). y.live) new ∙ dead)))
            (at_snoc (set m.seats k (knows v)) (knows x) s j there);
        marker = λ e is. apart_owned before e (kept.marker e is);
      }

pub join_of : (v x w : View) → IsStep loads (joined_view v x) w → v.live ≡ true → x.live ≡ true → IsFair v.graph v.seen → IsFair v.graph x.seen → IsJoin v x w
join_of v x w h live live' fair fair' =
    let m = h.machine in
    let k : ℕ = h.seat in
    let j : ℕ = length m.seats in
    let seats : List Knows = m.seats ++ ended ∷ [] in
    let lt = h.allowed.0 in
    let first = apart_first m k v x lt in
    let second = apart_other m k v x in
    let f = or_at (apart_seats m k v x) k (knows v) ended first in
    let s = or_at (apart_seats m k v x) j (knows x) ended second in
    let same : merged (apart m k v x) k j ≡ record m { seats = seats } = apart_merges m k v x h.before in
    let there : get_elem? seats k ≡ some (knows (joined_view v x)) = at_longer m.seats (ended ∷ []) k (knows (joined_view v x)) h.before in
    let r = or_at seats k (knows (joined_view v x)) ended there in
    let q = or_at m.seats k (knows (joined_view v x)) ended h.before in
    let to : sees (get_or seats k ended) m.bound ≡ knows w = ap (λ (y : Knows). sees y m.bound) (r.1 ∙ sym q.1) ∙ loads_to (joined_view v x) w h in
    let here : get_elem? (set seats k (sees (get_or seats k ended) m.bound)) k ≡ some (knows w) = set_here seats k (sees (get_or seats k ended) m.bound) r.0 ∙ ap some to in
    let gone : get_elem? (set seats k (sees (get_or seats k ended) m.bound)) j ≡ some ended =
    set_else seats k j (sees (get_or seats k ended) m.bound) (λ e. omega arith) ∙ at_last m.seats ended j refl in
    record {
      machine = apart m k v x;
      seat = k;
      other = j;
      graph = h.graph;
      slack = h.slack;
      opening = h.opening;
      kept = apart_kept m k v x h.kept h.before live live' (subst (λ g. IsFair g v.seen) (sym h.graph) fair) (subst (λ g. IsFair g x.seen) (sym h.graph) fair');
      allowed = ((f.0, ap (λ (y : Knows). y.live) f.1 ∙ live), (s.0, ap (λ (y : Knows). y.live) s.1 ∙ live'), λ e. omega arith);
      before = first;
      other_before = second;
      next = subst (λ (n : Machine). get_elem? (loaded n k).seats k ≡ some (knows w)) (sym same) here;
      other_ended = subst (λ (n : Machine). get_elem? (loaded n k).seats j ≡ some ended) (sym same) gone;
    }
