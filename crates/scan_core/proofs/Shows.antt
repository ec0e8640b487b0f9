-- A core that shows a machine shows after an event the machine after its move.
use Rattle.std.proofs.Common.{◌≡◌, ◌≢◌, ℕ, zero, suc, ◌+◌, ◌-◌, ◌<◌, ◌≤◌, min, Bool, true, false, not, true≢false, if◌then◌else◌, List, [], ◌∷◌, ◌++◌, map, length, set, get_or, refl, sym, ap, ◌∙◌, subst, length-set, get_or-set_same, get_or-set_other, eq-eqb, ne_eqb, arith}
use Rattle.std.specs.Prelude.{◌==◌, ◌↔◌, IsTrue}
use mathlib.Core.Logic.{dite}
use native.Mathlib.Decide.{ℕ_discrete}
use mathlib.Core.List.{map-append}
use lib.ListN.{get_or-map}
use lib.Seq.{set_comm, set-set, set-append_left, map-set, map-set_same}
use Rattle.std.proofs.lemmas.List.{length-map, get_or_read}
use Rattle.std.proofs.lemmas.Bool.{false≢true}
use Rattle.cut_definitions.specs.Graph.{Graph, IsGraph}
use Rattle.cut_definitions.specs.Weight.{VertexSet, parts, weight, IsCut}
use Rattle.cut_definitions.specs.Cuts.{has, value, mincuts}
use Rattle.cut_definitions.proofs.SafeLaws.{IsFair-weight}
use Rattle.vertex_set.specs.Side.{VertexList}
use Rattle.weighted_graph.specs.RowLaws.{edge_at}
use Rattle.scan_core.specs.declared.played.CoreSeat.{CoreSeat}
use Rattle.scan_core.specs.declared.event.Event.{Event}
use Rattle.scan_core.specs.declared.event.Event.TheVariants.{Load, Lower, Mark, Split, Join, Take}
use Rattle.scan_core.specs.Machine.{IsSafeEdge, Knows, Machine, ended, fresh, both, seat_at, sees, gains, learns, IsAllowed, after}
use Rattle.scan_core.specs.Shown.{CoreView, seat_shown, Shows, IsLiveSeat, move_of, IsAllowedEvent, IsAnswer, no_seat, shown_seat, IsShownLive, IsSafeHere, IsParted, ArePartedEdges}

seat_is : (c : CoreView) (m : Machine) (seat : ℕ) → Shows c m → shown_seat c seat ≡ seat_shown (seat_at m (seat - 1))
seat_is c m seat sh = ap (λ (l : List CoreSeat). get_or l (seat - 1) no_seat) sh.seats ∙ get_or-map seat_shown m.seats (seat - 1) ended

seats_are : (c : CoreView) (m : Machine) → Shows c m → length c.seats ≡ length m.seats
seats_are c m sh = ap (λ (l : List CoreSeat). length l) sh.seats ∙ length-map m.seats seat_shown

pub live_there : (c : CoreView) (m : Machine) (seat : ℕ) → Shows c m → IsShownLive c seat → IsLiveSeat m seat
live_there c m seat sh h =
    let len = seats_are c m sh in
    let within = h.made in
    (h.from_one, (omega arith, sym (ap (λ (s : CoreSeat). s.live) (seat_is c m seat sh)) ∙ h.live))

-- an event that was allowed
told : (old new : CoreView) (event : Event)
    → ((m : Machine) → Shows old m → IsAllowedEvent m event × IsAllowed m (move_of m.graph event) × Shows new (after m (move_of m.graph event))) → IsAnswer old new event true
told old new event h m sh = (λ _. h m sh, λ no. absurd (true≢false no))

set_shown : (l : List Knows) (seats : List CoreSeat) (k : ℕ) (x : CoreSeat) (s : Knows) → seats ≡ map seat_shown l → x ≡ seat_shown s → set seats k x ≡ map seat_shown (set l k s)
set_shown l seats k x s e f = (λ i. set (e i) k (f i)) ∙ sym (map-set seat_shown l k s)

-- the seat that sees a bound
abbrev pub sees_shown : CoreSeat → ℕ → CoreSeat
sees_shown r n = record { live = r.live; seen = n }

read_live : (c : CoreView) (seat : ℕ) (r : CoreSeat) → IsShownLive c seat → r ≡ get_or c.seats (seat - 1) r → r.live ≡ true
read_live c seat r h is = ap (λ (s : CoreSeat). s.live) (get_or_read c.seats (seat - 1) r h.made is no_seat) ∙ h.live

abbrev pub after_load : CoreView → ℕ → CoreSeat → CoreView
after_load c seat r = record c { seats = set c.seats (seat - 1) (sees_shown r c.bound) }

pub load_answer : (c : CoreView) (seat : ℕ) (r : CoreSeat) → IsShownLive c seat → r ≡ get_or c.seats (seat - 1) r → IsAnswer c (after_load c seat r) (Load seat) true
load_answer c seat r h is = told c (after_load c seat r) (Load seat) (λ m sh.
    let k : ℕ = seat - 1 in
    let live = live_there c m seat sh h in
    let x : sees_shown r c.bound ≡ seat_shown (sees (seat_at m k) m.bound) = λ i. record { live = (read_live c seat r h is ∙ sym live.1.1) i; seen = sh.bound i } in
    (live, live.1, record { graph = sh.graph; slack = sh.slack; bound = sh.bound; marked = sh.marked; taken = sh.taken; seats = set_shown m.seats c.seats k (sees_shown r c.bound) (sees (seat_at m k) m.bound) sh.seats x }))

abbrev pub after_lower : CoreView → ℕ → CoreSeat → ℕ → CoreView
after_lower c seat r x = record c { bound = min c.bound x; seats = set c.seats (seat - 1) (sees_shown r (min c.bound x)) }

pub lower_answer : (c : CoreView) (seat : ℕ) (side : VertexList) (r : CoreSeat) → IsGraph c.graph → IsShownLive c seat → side.vertices ≡ c.graph.vertices → IsCut side.vertices (has side.members)
    → r ≡ get_or c.seats (seat - 1) r → IsAnswer c (after_lower c seat r (weight c.graph (has side.members))) (Lower seat side) true
lower_answer c seat side r ok h over cut is = told c (after_lower c seat r (weight c.graph (has side.members))) (Lower seat side) (λ m sh.
    let k : ℕ = seat - 1 in
    let s : VertexSet = has side.members in
    let live = live_there c m seat sh h in
    let over' : side.vertices ≡ m.graph.vertices = over ∙ ap (λ (g : Graph). g.vertices) sh.graph in
    let cut' : IsCut m.graph.vertices s = subst (λ (n : ℕ). IsCut n s) over' cut in
    let low : min c.bound (weight c.graph s) ≡ min m.bound (weight m.graph s) = λ i. min (sh.bound i) (weight (sh.graph i) s) in
    let x : sees_shown r (min c.bound (weight c.graph s)) ≡ seat_shown (sees (seat_at m k) (min m.bound (weight m.graph s))) = λ i. record { live = (read_live c seat r h is ∙ sym live.1.1) i; seen = low i } in (
      (live, over', cut'),
      (live.1, IsFair-weight m.graph (subst IsGraph sh.graph ok) s cut'),
      record { graph = sh.graph; slack = sh.slack; bound = low; marked = sh.marked; taken = sh.taken; seats = set_shown m.seats c.seats k (sees_shown r (min c.bound (weight c.graph s))) (sees (seat_at m k) (min m.bound (weight m.graph s))) sh.seats x },
    ))

-- a flag that is set
flag_set : (l : List Bool) (e i : ℕ) (b : Bool) → e < length l → b ≡ get_or l i false → (if i == e then true else b) ≡ get_or (set l e true) i false
flag_set l e i b lt is = dite (ℕ_discrete i e)
    (λ same. ap (λ (t : Bool). if t then true else b) (eq-eqb i e same) ∙ sym (ap (λ (j : ℕ). get_or (set l e true) j false) same ∙ get_or-set_same l e true false lt))
    (λ apart. ap (λ (t : Bool). if t then true else b) (ne_eqb i e apart) ∙ (is ∙ sym (get_or-set_other l e i true false apart)))

abbrev pub after_mark : CoreView → ℕ → CoreView
after_mark c e = record c { marked = set c.marked e true }

pub mark_answer : (c : CoreView) (seat e : ℕ) → IsShownLive c seat → e < length c.graph.edges → length c.marked ≡ length c.graph.edges → IsSafeHere c seat e → IsAnswer c (after_mark c e) (Mark seat e) true
mark_answer c seat e h lt len safe = told c (after_mark c e) (Mark seat e) (λ m sh.
    let k : ℕ = seat - 1 in
    let live = live_there c m seat sh h in
    let lt' : e < length m.graph.edges = subst (λ (g : Graph). e < length g.edges) sh.graph lt in
    let seen : (shown_seat c seat).seen ≡ (seat_at m k).seen = ap (λ (s : CoreSeat). s.seen) (seat_is c m seat sh) in
    let safe' : IsSafeEdge m.graph (seat_at m k).seen m.slack e =
    subst (λ (g : Graph). IsSafeEdge g (seat_at m k).seen m.slack e) sh.graph (subst (λ (d : ℕ). IsSafeEdge c.graph (seat_at m k).seen d e) sh.slack (subst (λ (b : ℕ). IsSafeEdge c.graph b c.slack e) seen safe)) in (
      (live, lt', safe'),
      (live.1, lt', safe'),
      record { graph = sh.graph; slack = sh.slack; bound = sh.bound; marked = λ i. flag_set c.marked e i (m.is_marked i) (omega arith) (sh.marked i); taken = sh.taken; seats = sh.seats ∙ sym (map-set_same seat_shown m.seats k (gains (seat_at m k) e) ended refl) },
    ))

abbrev pub after_take : CoreView → ℕ → CoreView
after_take c v = record c { taken = set c.taken v true }

pub take_answer : (c : CoreView) (seat v : ℕ) → IsShownLive c seat → 1 ≤ v → v ≤ c.graph.vertices → length c.taken ≡ c.graph.vertices + 1 → IsAnswer c (after_take c v) (Take seat v) true
take_answer c seat v h from_one to_n len = told c (after_take c v) (Take seat v) (λ m sh.
    let k : ℕ = seat - 1 in
    let live = live_there c m seat sh h in
    let to_n' : v ≤ m.graph.vertices = subst (λ (g : Graph). v ≤ g.vertices) sh.graph to_n in (
      (live, from_one, to_n'),
      (live.1, from_one, to_n'),
      record { graph = sh.graph; slack = sh.slack; bound = sh.bound; marked = sh.marked; taken = λ u. flag_set c.taken v u (m.is_taken u) (omega arith) (sh.taken u); seats = sh.seats ∙ sym (map-set_same seat_shown m.seats k (learns (seat_at m k) v (m.is_taken v)) ended refl) },
    ))

longer_at : (l : List CoreSeat) (x : CoreSeat) (k : ℕ) → k < length l → (k < length (l ++ x ∷ [])) × (get_or (l ++ x ∷ []) k no_seat ≡ get_or l k no_seat)
longer_at [] x k lt = absurd (omega arith)
longer_at (y ∷ ys) x zero lt = (omega arith, refl)
longer_at (y ∷ ys) x (suc k) lt = let rest = longer_at ys x k (omega arith) in let within = rest.0 in (omega arith, rest.1)

-- a new seat that has seen a bound
abbrev pub new_shown : ℕ → CoreSeat
new_shown n = record { live = true; seen = n }

abbrev pub after_split : CoreView → ℕ → CoreSeat → CoreView
after_split c seat r = record c { seats = set (c.seats ++ new_shown c.bound ∷ []) (seat - 1) (sees_shown r c.bound) }

pub split_answer : (c : CoreView) (seat : ℕ) (r : CoreSeat) → IsShownLive c seat → length c.seats < 1000 → r ≡ get_or (c.seats ++ new_shown c.bound ∷ []) (seat - 1) r → IsAnswer c (after_split c seat r) (Split seat) true
split_answer c seat r h few is = told c (after_split c seat r) (Split seat) (λ m sh.
    let k : ℕ = seat - 1 in
    let live = live_there c m seat sh h in
    let len = seats_are c m sh in
    let within : k < length c.seats = h.made in
    let seen : Knows = sees (seat_at m k) m.bound in
    let one : List Knows = set m.seats k seen in
    let there = longer_at c.seats (new_shown c.bound) k within in
    let r_live : r.live ≡ true = ap (λ (s : CoreSeat). s.live) (get_or_read (c.seats ++ new_shown c.bound ∷ []) k r there.0 is no_seat ∙ there.1) ∙ h.live in
    let x : sees_shown r c.bound ≡ seat_shown seen = λ i. record { live = (r_live ∙ sym live.1.1) i; seen = sh.bound i } in
    let y : new_shown c.bound ≡ seat_shown (fresh (get_or one k ended).seen) = λ i. record { live = true; seen = (sh.bound ∙ sym (ap (λ (s : Knows). s.seen) (get_or-set_same m.seats k seen ended live.1.0))) i } in
    let all : set (c.seats ++ new_shown c.bound ∷ []) k (sees_shown r c.bound) ≡ map seat_shown (one ++ fresh (get_or one k ended).seen ∷ []) =
    set-append_left c.seats (new_shown c.bound ∷ []) k (sees_shown r c.bound) within
    ∙ ((λ i. set_shown m.seats c.seats k (sees_shown r c.bound) seen sh.seats x i ++ y i ∷ []) ∙ sym (map-append seat_shown one (fresh (get_or one k ended).seen ∷ []))) in (
      (live, omega arith),
      live.1,
      record { graph = sh.graph; slack = sh.slack; bound = sh.bound; marked = sh.marked; taken = sh.taken; seats = all },
    ))

abbrev pub after_join : CoreView → ℕ → ℕ → CoreSeat → CoreView
after_join c seat other r = record c { seats = set (set c.seats (other - 1) no_seat) (seat - 1) (sees_shown r c.bound) }

pub join_answer : (c : CoreView) (seat other : ℕ) (r : CoreSeat) → IsShownLive c seat → IsShownLive c other → seat ≢ other → r ≡ get_or (set c.seats (other - 1) no_seat) (seat - 1) r
    → IsAnswer c (after_join c seat other r) (Join seat other) true
join_answer c seat other r h h' two is = told c (after_join c seat other r) (Join seat other) (λ m sh.
    let k : ℕ = seat - 1 in
    let j : ℕ = other - 1 in
    let live = live_there c m seat sh h in
    let live' = live_there c m other sh h' in
    let one = h.from_one in
    let one' = h'.from_one in
    let apart : j ≢ k = λ e. two (omega arith) in
    let apart' : k ≢ j = λ e. two (omega arith) in
    let len : length (set c.seats j no_seat) ≡ length c.seats = length-set c.seats j no_seat in
    let within = h.made in
    let lt : k < length (set c.seats j no_seat) = omega arith in
    let r_is : r ≡ shown_seat c seat = get_or_read (set c.seats j no_seat) k r lt is no_seat ∙ get_or-set_other c.seats j k no_seat no_seat apart' in
    let w : Knows = both (seat_at m k) (seat_at m j) in
    let merged_seats : List Knows = set (set m.seats k w) j ended in
    let here : get_or merged_seats k ended ≡ w = get_or-set_other (set m.seats k w) j k ended ended apart' ∙ get_or-set_same m.seats k w ended live.1.0 in
    let last : Knows = sees (get_or merged_seats k ended) m.bound in
    let x : sees_shown r c.bound ≡ seat_shown last = λ i. record { live = (ap (λ (s : CoreSeat). s.live) r_is ∙ (h.live ∙ sym (ap (λ (s : Knows). s.live) here ∙ live.1.1))) i; seen = sh.bound i } in
    let swapped : set merged_seats k last ≡ set (set m.seats j ended) k last = ap (λ (l : List Knows). set l k last) (set_comm m.seats k j w ended apart') ∙ set-set (set m.seats j ended) k w last in
    let all : set (set c.seats j no_seat) k (sees_shown r c.bound) ≡ map seat_shown (set merged_seats k last) =
    set_shown (set m.seats j ended) (set c.seats j no_seat) k (sees_shown r c.bound) last (set_shown m.seats c.seats j no_seat ended sh.seats refl) x ∙ sym (ap (map seat_shown) swapped) in (
      (live, live', λ e. two (sym e)),
      (live.1, live'.1, apart),
      record { graph = sh.graph; slack = sh.slack; bound = sh.bound; marked = sh.marked; taken = sh.taken; seats = all },
    ))

-- ---- safe edges

same_default : (l : List (List ℕ)) (k : ℕ) (d e : List ℕ) → k < length l → get_or l k d ≡ get_or l k e
same_default [] k d e lt = absurd (omega arith)
same_default (x ∷ xs) zero d e lt = refl
same_default (x ∷ xs) (suc k) d e lt = same_default xs k d e (omega arith)

no_side : (g : Graph) (e : ℕ) (b : Bool) (k : ℕ) (d : List ℕ) → k < length (mincuts g) → parts (has (get_or (mincuts g) k d)) (edge_at g e).u (edge_at g e).v ≡ b → (IsParted g e → ⊥) → b ≡ false
no_side g e false k d lt is none = refl
no_side g e true k d lt is none = absurd (none (k, get_or (mincuts g) k d, lt, same_default (mincuts g) k (get_or (mincuts g) k d) d lt, is))

pub safe_by : (g : Graph) (parted : List ℕ) (bound slack e : ℕ) (answer : Bool) → ArePartedEdges g parted → e < length g.edges → answer ≡ has parted e → value g < bound + slack →
    IsTrue (not answer) ↔ IsSafeEdge g bound slack e
safe_by g parted bound slack e answer all lt is low = (yes answer is, no answer is)
  where
    yes : (b : Bool) → b ≡ has parted e → IsTrue (not b) → IsSafeEdge g bound slack e
    yes true is h = absurd (false≢true h)
    yes false is h = λ _ k d within. no_side g e _ k d within refl (λ there. absurd (false≢true (is ∙ (all e lt).1 there)))

    no : (b : Bool) → b ≡ has parted e → IsSafeEdge g bound slack e → IsTrue (not b)
    no false is safe = refl
    no true is safe =
        let there = (all e lt).0 (sym is) in
        let side = there.1 in
        let off = safe low there.0 side there.2 in
        absurd (false≢true (sym off ∙ (ap (λ (s : List ℕ). parts (has s) (edge_at g e).u (edge_at g e).v) there.3 ∙ there.4)))
