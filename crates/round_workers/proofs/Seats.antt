-- Seats, their marks, and the shares that workers test.
use Rattle.std.proofs.Common.{◌≡◌, ℕ, Bool, true, false, suc, ◌+◌, ◌%◌, ◌<◌, ◌≤◌, ⊎_elim, List, [], ◌∷◌, ◌++◌, eqb, length, take, refl, sym, ◌∙◌, ap, subst, arith}
use Rattle.std.specs.Prelude.{◌≢◌, slice_index_or, Contains, if◌then◌else◌}
use Rattle.std.proofs.lemmas.Bool.{cases_eq, ne_eqb, false≢true}
use Rattle.std.proofs.lemmas.List.Elements.{Contains-append_left, Contains-append_right}
use Rattle.std.proofs.lemmas.List.{get_or-take, length-take-le}
use Rattle.std.proofs.Math.Seq.{take-append_seam}
use Rattle.std.proofs.lemmas.Nat.{mod_below}
use Rattle.cut_definitions.specs.Graph.{Graph, IsGraph}
use Rattle.cut_definitions.specs.Safe.{IsFair}
use Rattle.cut_definitions.specs.Cuts.{has}
use Rattle.capped_scan.specs.Scan.{ScanState}
use Rattle.cut_definitions.proofs.Bools.{nothing_or}
use Rattle.weighted_graph.specs.RowLaws.{edge_at}
use Rattle.scan_core.specs.Machine.{IsSafeEdge}
use Rattle.mark_board.specs.Seen.{BoardView, SeatView, fresh_seat}
use Rattle.round_workers.specs.Round.{IsCertified}
use Rattle.round_workers.proofs.Marking.{fair_small}
use Rattle.round_workers.proofs.Places.{below_step, no_place}
use Rattle.round_workers.specs.declared.working.Worker.{Worker}
use Rattle.round_workers.specs.Seats.{HasSeen, IsLater, AreWon, HasTested, HasWorked, HasAll, IsDone, AreDone}

-- ---- one seat

abbrev pub gaining : SeatView → ℕ → SeatView
gaining s e = record s { own = e ∷ s.own }

abbrev pub seeing : SeatView → ℕ → SeatView
seeing s n = record s { seen = n }

-- what a longer list has it had before, but for its first vertex
has_tail : (x v : ℕ) (xs : List ℕ) → x ≢ v → has (x ∷ xs) v ≡ true → has xs v ≡ true
has_tail x v xs ne is = sym (nothing_or (eqb x v) (has xs v) (ne_eqb x v ne)) ∙ is

contains_tail : (xs : List ℕ) (y x : ℕ) → Contains xs x → Contains (y ∷ xs) x
contains_tail xs y x h = let lt : h.0 < length xs = h.1 in (suc h.0, omega arith, h.2)

pub gained : (s : SeatView) (e : ℕ) → Contains (gaining s e).own e
gained s e = (0, omega arith, refl)

pub later_same : (s : SeatView) → IsLater s s
later_same s = record { seen = omega arith; own = λ e h. h; won = λ v h. h }

pub later_gaining : (s : SeatView) (e : ℕ) → IsLater s (gaining s e)
later_gaining s e = record { seen = omega arith; own = λ i h. contains_tail s.own e i h; won = λ v h. h }

pub later_both : (r s t : SeatView) → IsLater r s → IsLater s t → IsLater r t
later_both r s t a b = record { seen = omega (arith, a.seen, b.seen); own = λ e h. b.own e (a.own e h); won = λ v h. b.won v (a.won v h) }

-- ---- vertices that a seat takes

abbrev pub taking : SeatView → ℕ → Bool → SeatView
taking s v free = record s { won = if free then (v ∷ s.won) else s.won; known = v ∷ s.known }

pub later_taking : (s : SeatView) (v : ℕ) (free : Bool) → IsLater s (taking s v free)
later_taking s v true = record { seen = omega arith; own = λ e h. h; won = λ x h. contains_tail s.won v x h }
later_taking s v false = record { seen = omega arith; own = λ e h. h; won = λ x h. h }

pub won_taking : (s : SeatView) (v : ℕ) (free : Bool) → free ≡ true → Contains (taking s v free).won v
won_taking s v true is = (0, omega arith, refl)
won_taking s v false is = absurd (false≢true is)

-- what was scanned before was won before
pub won_later : (before after : ScanState) (s t : SeatView) → after.order ≡ before.order → IsLater s t → AreWon before s → AreWon after t
won_later before after s t same later h v is = later.won v (h v (subst (λ (order : List ℕ). has order v ≡ true) same is))

-- one more vertex was scanned, which was won
pub won_more : (before after : ScanState) (x : ℕ) (s t : SeatView) → after.order ≡ x ∷ before.order → IsLater s t → Contains t.won x → AreWon before s → AreWon after t
won_more before after x s t more later here h v is = ⊎_elim
    (λ (q : x ≡ v). subst (λ (k : ℕ). Contains t.won k) q here)
    (λ (ne : x ≢ v). later.won v (h v (has_tail x v before.order ne (subst (λ (order : List ℕ). has order v ≡ true) more is))))
    (cases_eq x v)

pub won_none : (scan : ScanState) (s : SeatView) → scan.order ≡ [] → AreWon scan s
won_none scan s none v is = absurd (false≢true (subst (λ (order : List ℕ). has order v ≡ true) none is))

pub seen_gaining : (b : BoardView) (g : Graph) (slack bound e : ℕ) (s : SeatView) → HasSeen b g slack bound s → HasSeen b g slack bound (gaining s e)
seen_gaining b g slack bound e s h = record { board = h.board; graph = h.graph; slack_is = h.slack_is; seen = h.seen; fair = h.fair; small = h.small; at_most = h.at_most }

pub seen_seeing : (b : BoardView) (g : Graph) (slack bound n : ℕ) (s : SeatView) → HasSeen b g slack bound s → IsFair b.graph n → n ≤ s.seen → HasSeen b g slack n (seeing s n)
seen_seeing b g slack bound n s h fair le = record {
  board = h.board;
  graph = h.graph;
  slack_is = h.slack_is;
  seen = refl;
  fair = subst (λ (k : Graph). IsFair k n) h.graph fair;
  small = omega (arith, le, h.seen, h.small);
  at_most = omega (arith, le, h.seen, h.at_most);
}

-- the first seat of a board
pub seen_opened : (b : BoardView) (g : Graph) (bound : ℕ) → IsGraph g → b.graph ≡ g → b.opening ≡ bound → IsFair g bound → HasSeen b g b.slack bound (fresh_seat b bound)
seen_opened b g bound ok same opening fair =
    record { board = refl; graph = same; slack_is = refl; seen = refl; fair = fair; small = fair_small g ok bound fair; at_most = omega (arith, opening) }

-- a new seat has seen as much as the one that it was split from
pub seen_fresh : (b : BoardView) (g : Graph) (slack n : ℕ) (s : SeatView) → HasSeen b g slack n s → HasSeen b g slack n (fresh_seat b n)
seen_fresh b g slack n s h = record { board = refl; graph = h.graph; slack_is = h.slack_is; seen = refl; fair = h.fair; small = h.small; at_most = h.at_most }

-- an edge that is safe for what the seat saw may be marked
pub may_mark : (b : BoardView) (g : Graph) (slack bound e : ℕ) (s : SeatView) → HasSeen b g slack bound s → IsSafeEdge g bound slack e → IsSafeEdge b.graph s.seen b.slack e
may_mark b g slack bound e s h safe =
    subst (λ (k : Graph). IsSafeEdge k s.seen b.slack e) (sym h.graph)
    (subst (λ (k : ℕ). IsSafeEdge g k b.slack e) (sym h.seen) (subst (λ (k : ℕ). IsSafeEdge g bound k e) (sym h.slack_is) safe))

-- ---- shares

pub starts_share : (g : Graph) (limit share shares : ℕ) (s : SeatView) → share < shares → HasTested g limit share shares share s
starts_share g limit share shares s lt = record {
  each = λ e l is cert. absurd (no_place share shares e lt l is);
}

pub tested_later : (g : Graph) (limit share shares upto : ℕ) (s t : SeatView) → IsLater s t → HasTested g limit share shares upto s → HasTested g limit share shares upto t
tested_later g limit share shares upto s t later h = record { each = λ e l is cert. later.own e (h.each e l is cert) }

pub tested_step : (g : Graph) (limit share shares edge : ℕ) (s t : SeatView) → share < shares → edge % shares ≡ share → IsLater s t → HasTested g limit share shares edge s →
    (IsCertified g (edge_at g edge) limit → Contains t.own edge) → HasTested g limit share shares (edge + shares) t
tested_step g limit share shares edge s t lt at later h here = record {
  each = λ e l is cert. ⊎_elim
      (λ (q : e ≡ edge). subst (λ (k : ℕ). Contains t.own k) (sym q) (here (subst (λ (k : ℕ). IsCertified g (edge_at g k) limit) q cert)))
      (λ (ne : e ≢ edge). later.own e (h.each e (below_step share shares edge e at l is ne) is cert))
      (cases_eq e edge);
}

-- ---- workers

pub worked_later : (g : Graph) (slack share shares : ℕ) (s t : SeatView) → t.board ≡ s.board → IsLater s t → HasWorked g slack share shares s → HasWorked g slack share shares t
worked_later g slack share shares s t same later h = record {
  tested = λ low.
      let opening : t.board.opening ≡ s.board.opening = ap (λ (v : BoardView). v.opening) same in
      let below : s.board.opening ≤ s.seen = omega (arith, opening, low, later.seen) in
      subst (λ (k : ℕ). HasTested g (k + slack) share shares (length g.edges) t) (sym opening)
      (tested_later g (s.board.opening + slack) share shares (length g.edges) s t later (h.tested below));
}

-- what was tested at the bound that was seen first is a share's work, if no lower one was seen since
pub worked_after : (b : BoardView) (g : Graph) (slack bound share shares : ℕ) (s t : SeatView) → HasSeen b g slack bound s → HasSeen b g slack t.seen t → IsLater s t →
    HasTested g (bound + slack) share shares (length g.edges) s → HasWorked g slack share shares t
worked_after b g slack bound share shares s t h k later tested = record {
  tested = λ low.
      let opening : t.board.opening ≡ b.opening = ap (λ (v : BoardView). v.opening) k.board in
      let same : bound ≡ t.board.opening = omega (arith, low, later.seen, h.seen, h.at_most, opening) in
      subst (λ (n : ℕ). HasTested g (n + slack) share shares (length g.edges) t) same (tested_later g (bound + slack) share shares (length g.edges) s t later tested);
}

-- each edge is of a share
pub all_shares : (g : Graph) (slack shares : ℕ) (s : SeatView) → 0 < shares → ((i : ℕ) → i < shares → HasWorked g slack i shares s) → HasAll g slack s
all_shares g slack shares s some h = record {
  each = λ low e l cert.
      let w = h (e % shares) (mod_below e shares some) in
      (w.tested low).each e l refl cert;
}

-- ---- the seats of workers that are joined

-- after a join the seat has the marks of both, and saw no more than both
abbrev pub joined : SeatView → SeatView → ℕ → SeatView
joined s t n = record s { seen = n; own = s.own ++ t.own; won = s.won ++ t.won; known = s.known ++ t.known }

pub later_joined : (s t : SeatView) (n : ℕ) → n ≤ s.seen → IsLater s (joined s t n)
later_joined s t n le = record { seen = le; own = λ e h. Contains-append_left s.own t.own e h; won = λ v h. Contains-append_left s.won t.won v h }

pub later_joined_other : (s t : SeatView) (n : ℕ) → n ≤ t.seen → IsLater t (joined s t n)
later_joined_other s t n le = record { seen = le; own = λ e h. Contains-append_right s.own t.own e h; won = λ v h. Contains-append_right s.won t.won v h }

pub seen_joined : (b : BoardView) (g : Graph) (slack bound n : ℕ) (s t : SeatView) → HasSeen b g slack bound s → IsFair b.graph n → n ≤ s.seen → HasSeen b g slack n (joined s t n)
seen_joined b g slack bound n s t h fair le = record {
  board = h.board;
  graph = h.graph;
  slack_is = h.slack_is;
  seen = refl;
  fair = subst (λ (k : Graph). IsFair k n) h.graph fair;
  small = omega (arith, le, h.seen, h.small);
  at_most = omega (arith, le, h.seen, h.at_most);
}

-- the first workers of a list have done their shares, and the seats of all others are joined
pub record AreJoinedFrom (b : BoardView) (g : Graph) (slack : ℕ) (certifies : Bool) (shares : ℕ) (ws : List Worker) (s : SeatView) : Type 0 where
  pub few : length ws ≤ shares
  pub left : (i : ℕ) (d : Worker) → i < length ws → IsDone b g slack certifies i shares (slice_index_or ws i d)
  pub joined : certifies ≡ true → (i : ℕ) → length ws ≤ i → i < shares → HasWorked g slack i shares s

pub join_step : (b : BoardView) (g : Graph) (slack : ℕ) (certifies : Bool) (shares n k : ℕ) (xs ys : List Worker) (w : Worker) (s : SeatView) → HasSeen b g slack s.seen s →
    AreJoinedFrom b g slack certifies shares xs s → k + 1 ≡ length xs → ((d : Worker) → w ≡ slice_index_or xs k d) → ys ≡ take k xs → n ≤ s.seen → n ≤ w.seat.seen →
    AreJoinedFrom b g slack certifies shares ys (joined s w.seat n)
join_step b g slack certifies shares n k xs ys w s seen h some last rest le le_other =
    let long : length ys ≡ k = ap (λ (l : List Worker). length l) rest ∙ length-take-le k xs (omega arith) in
    let done : IsDone b g slack certifies k shares w = subst (λ (v : Worker). IsDone b g slack certifies k shares v) (sym (last w)) (h.left k w (omega arith)) in
    record {
      few = omega (arith, long, h.few);
      left = λ i d l. subst (λ (v : Worker). IsDone b g slack certifies i shares v)
          (sym (ap (λ (l : List Worker). slice_index_or l i d) rest ∙ get_or-take k xs i d (omega (arith, long))))
          (h.left i d (omega (arith, long)));
      joined = λ is i low l. ⊎_elim
          (λ (q : i ≡ k). subst (λ (j : ℕ). HasWorked g slack j shares (joined s w.seat n)) (sym q)
          (worked_later g slack k shares w.seat (joined s w.seat n) (seen.board ∙ sym done.seated.board) (later_joined_other s w.seat n le_other) (done.worked is)))
          (λ (ne : i ≢ k). worked_later g slack i shares s (joined s w.seat n) refl (later_joined s w.seat n le) (h.joined is i (omega (arith, long)) l))
          (cases_eq i k);
    }

-- workers that are written back to their places
pub done_written : (b : BoardView) (g : Graph) (slack same : ℕ) (certifies : Bool) (n m : ℕ) (xs ys : List Worker) → slack ≡ same → n ≡ m → m ≡ length xs → AreDone b g slack certifies n xs →
    AreDone b g same certifies m (take m (xs ++ ys))
done_written b g slack same certifies n m xs ys e count long h =
    let is : take m (xs ++ ys) ≡ xs = ap (λ (k : ℕ). take k (xs ++ ys)) long ∙ take-append_seam xs ys in
    subst (λ (l : List Worker). AreDone b g same certifies m l) (sym is) (subst (λ (k : ℕ). AreDone b g k certifies m xs) e (subst (λ (k : ℕ). AreDone b g slack certifies k xs) count h))
