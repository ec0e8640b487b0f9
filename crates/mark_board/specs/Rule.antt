-- The rule of a board's table, and what its steps show.
--
-- The words of the table and the views of its seats show one state of the machine of scan_core, and the rule is that this
-- state meets the facts that each step keeps, that all live views agree on the graph, the slack and the opening bound, and
-- that bits without an edge or a vertex are 0. A seat that was dropped keeps its view, and counts as live.
use Rattle.std.specs.Prelude.{◌≡◌, ℕ, suc, if◌then◌else◌, ◌+◌, ◌<◌, ◌≤◌, min, Bool, true, false, [], ◌∷◌, ◌++◌, map, length, slice_index, Contains}
use mathlib.Core.Option.{some}
use lib.ListN.{get_elem?}
use Rattle.atomic_table.specs.Table.{State, Me, Step}
use Rattle.cut_definitions.specs.Graph.{Graph}
use Rattle.cut_definitions.specs.Safe.{IsFair}
use Rattle.scan_core.specs.Machine.{IsSafeEdge, Knows, Machine, Move, ended, loads, lowers, looks, marks, splits, joins, takes, times, IsAllowed, after, IsKept}
use Rattle.mark_board.specs.Words.{word_of, mask_of, base_of, words_for, bit_of, is_flagged, marked_at, taken_at}
use Rattle.mark_board.specs.declared.rule.View.{View}
use Rattle.mark_board.specs.declared.rule.Opened.{Opened}

abbrev pub edge_count : Graph → ℕ
edge_count g = length g.edges

abbrev pub knows : View → Knows
knows v = record { live = v.live; seen = v.seen; own = v.own; won = v.won; known = v.known }

-- the machine that the words and the views show
abbrev pub machine_of : Opened → State (Unit {0}) View → Machine
machine_of key s = record {
  graph = key.graph.value;
  slack = key.slack;
  opening = key.bound;
  bound = slice_index s.words 0;
  is_marked = marked_at s.words (edge_count key.graph.value);
  is_taken = taken_at s.words (edge_count key.graph.value) key.graph.value.vertices;
  seats = map knows s.views;
}

-- a live view is of this board
pub record Agrees (key : Opened) (v : View) : Type 0 where
  pub graph : v.graph ≡ key.graph.value
  pub slack : v.slack ≡ key.slack
  pub opening : v.opening ≡ key.bound

pub record IsBoard (key : Opened) (s : State (Unit {0}) View) : Type 0 where
  pub kept : IsKept (machine_of key s)
  pub agree : (k : ℕ) (v : View) → get_elem? s.views k ≡ some v → v.live ≡ true → Agrees key v
  pub sized : length s.words ≡ words_for (edge_count key.graph.value) key.graph.value.vertices
  -- bits without an edge or a vertex are 0
  pub spare : (f : ℕ) → edge_count key.graph.value ≤ f → f < base_of (edge_count key.graph.value) → is_flagged s.words f ≡ false
  pub past : (f : ℕ) → base_of (edge_count key.graph.value) + key.graph.value.vertices ≤ f → is_flagged s.words f ≡ false

abbrev pub first_view : Opened → View
first_view key = record { live = true; graph = key.graph.value; slack = key.slack; opening = key.bound; seen = key.bound; own = []; won = []; known = [] }

abbrev pub seeing : View → ℕ → View
seeing v n = record v { seen = n }

abbrev pub gaining : View → ℕ → View
gaining v e = record v { own = e ∷ v.own }

abbrev pub fresh_view : View → View
fresh_view v = record v { own = []; won = []; known = [] }

abbrev pub joined_view : View → View → View
joined_view v w = record v { seen = min v.seen w.seen; own = v.own ++ w.own; won = v.won ++ w.won; known = v.known ++ w.known }

abbrev pub learning : View → ℕ → Bool → View
learning v x was = record v { won = if was then v.won else (x ∷ v.won); known = x ∷ v.known }

abbrev pub ended_view : View
ended_view = record { live = false; graph = record { vertices = 0; edges = [] }; slack = 0; opening = 0; seen = 0; own = []; won = []; known = [] }

-- a machine that keeps the facts and has this seat alone has no marked edge and no taken vertex
abbrev pub IsBare : View → Type 0
IsBare v = (m : Machine) → IsKept m → m.seats ≡ knows v ∷ [] → ((e : ℕ) → m.is_marked e ≡ false) × ((x : ℕ) → m.is_taken x ≡ false)

-- the seat went from v to w by one step of a machine that keeps the facts
pub record IsStep (move : ℕ → Move) (v w : View) : Type 0 where
  pub machine : Machine
  pub seat : ℕ
  pub graph : machine.graph ≡ v.graph
  pub slack : machine.slack ≡ v.slack
  pub opening : machine.opening ≡ v.opening
  pub kept : IsKept machine
  pub allowed : IsAllowed machine (move seat)
  pub before : get_elem? machine.seats seat ≡ some (knows v)
  pub next : get_elem? (after machine (move seat)).seats seat ≡ some (knows w)

-- a look at an edge returned this: the step, and what the machine shows at that moment, when its bound is fair, is no more
-- than what the seat saw, and the edge is safe for it if it is marked
pub record IsLook (v w : View) (edge : ℕ) (answer : Bool) : Type 0 where
  pub step : IsStep (λ k. looks k edge) v w
  pub answered : answer ≡ step.machine.is_marked edge
  pub fair : IsFair v.graph step.machine.bound
  pub at_most : step.machine.bound ≤ v.seen
  pub safe : answer ≡ true → IsSafeEdge v.graph step.machine.bound v.slack edge

-- the seat went from v to w, and a new seat has x, by one split
pub record IsSplit (v w x : View) : Type 0 where
  pub machine : Machine
  pub seat : ℕ
  pub graph : machine.graph ≡ v.graph
  pub slack : machine.slack ≡ v.slack
  pub opening : machine.opening ≡ v.opening
  pub kept : IsKept machine
  pub allowed : IsAllowed machine (splits seat)
  pub before : get_elem? machine.seats seat ≡ some (knows v)
  pub next : get_elem? (after machine (splits seat)).seats seat ≡ some (knows w)
  pub made : get_elem? (after machine (splits seat)).seats (length machine.seats) ≡ some (knows x)

-- the seat went from v to w, and took over what another with x knew, by one join
pub record IsJoin (v x w : View) : Type 0 where
  pub machine : Machine
  pub seat : ℕ
  pub other : ℕ
  pub graph : machine.graph ≡ v.graph
  pub slack : machine.slack ≡ v.slack
  pub opening : machine.opening ≡ v.opening
  pub kept : IsKept machine
  pub allowed : IsAllowed machine (joins seat other)
  pub before : get_elem? machine.seats seat ≡ some (knows v)
  pub other_before : get_elem? machine.seats other ≡ some (knows x)
  pub next : get_elem? (after machine (joins seat other)).seats seat ≡ some (knows w)
  pub other_ended : get_elem? (after machine (joins seat other)).seats other ≡ some ended

-- the edge is safe for some fair bound that is no more than what the seat saw
abbrev pub IsSafeNow : View → ℕ → Type 0
IsSafeNow v e = (b : ℕ) × IsFair v.graph b × (b ≤ v.seen) × IsSafeEdge v.graph b v.slack e

abbrev Sat : Type 0
Sat = Me (Unit {0}) View

abbrev pub loaded : Step (Unit {0}) → Sat → ℕ → Sat → Type 0
loaded st me n me' = (me' ≡ (seeing me.0 n, me.1)) × IsFair me.0.graph n × (n ≤ me.0.seen) × ((v : ℕ) → times v me.0.won ≤ 1) × IsStep loads me.0 me'.0

abbrev pub lowered : Step (Unit {0}) → Sat → ℕ → Sat → Type 0
lowered st me n me' =
    let now = min n st.first in
    (me' ≡ (seeing me.0 now, me.1)) × IsFair me.0.graph now × (n ≤ me.0.seen) × IsStep (λ k. lowers k st.first) me.0 me'.0

abbrev pub looked : Step (Unit {0}) → Sat → ℕ → Sat → Type 0
looked st me n me' =
    (me' ≡ me)
    × ((e : ℕ) → word_of e ≡ st.word → e < edge_count me.0.graph → bit_of n e ≡ true → IsSafeNow me.0 e)
    × ((e : ℕ) → word_of e ≡ st.word → Contains me.0.own e → bit_of n e ≡ true)
    × ((e : ℕ) → word_of e ≡ st.word → e < edge_count me.0.graph → IsLook me.0 me'.0 e (bit_of n e))

abbrev pub marked : Step (Unit {0}) → Sat → ℕ → Sat → Type 0
marked st me n me' =
    (e : ℕ) → word_of e ≡ st.word → mask_of e ≡ st.first
    → (me' ≡ (gaining me.0 e, me.1)) × IsStep (λ k. marks k e) me.0 me'.0

abbrev pub took : Step (Unit {0}) → Sat → ℕ → Sat → Type 0
took st me n me' =
    (u f : ℕ) → u < me.0.graph.vertices → f ≡ base_of (edge_count me.0.graph) + u → word_of f ≡ st.word → mask_of f ≡ st.first
    → (me' ≡ (learning me.0 (suc u) (bit_of n f), me.1))
    × (Contains me.0.known (suc u) → bit_of n f ≡ true)
    × IsStep (λ k. takes k (suc u)) me.0 me'.0
