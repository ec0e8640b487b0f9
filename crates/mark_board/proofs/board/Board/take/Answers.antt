use Rattle.std.proofs.Common.{◌≡◌, ◌<◌, ◌≤◌, ◌+◌, ◌-◌, ◌/◌, ◌%◌, ◌^◌, ◌∷◌, ℕ, suc, true, Bool, List, if◌then◌else◌, refl, sym, ap, ◌∙◌, subst, arith}
use Rattle.std.specs.Prelude.{◌==◌, bit_and, Contains}
use Rattle.std.proofs.lemmas.Nat.Bits.{shr_and_one, bit_at-lt}
use Rattle.std.specs.Int.{bit_at}
use Rattle.atomic_table.specs.Seated.{TableId}
use Rattle.atomic_table.specs.Table.{Me}
use Rattle.cut_definitions.specs.Graph.{Graph}
use Rattle.cut_definitions.specs.Safe.{IsFair}
use Rattle.mark_board.specs.declared.rule.View.{View}
use Rattle.scan_core.specs.Machine.{takes}
use Rattle.mark_board.specs.Seen.{SeatView, BoardView, view_of, seat_view}
use Rattle.mark_board.specs.Words.{words_for, base_of, mark_words, bit_of}
use Rattle.mark_board.specs.Rule.{edge_count, IsStep, learning}
use Rattle.mark_board.proofs.Bits.{bit_cases, not_zero_bit}
use Rattle.mark_board.proofs.Takes.{lives, same_graph, flag_word, flag_bit, flag_mask, take_allowed}
use Rattle.mark_board.proofs.board.Board.take.Goals as goal

pub fetch_or-found-requires : goal.fetch_or-found-requires
fetch_or-found-requires c =
    let board = c.self.inside in
    let me = c.seat.inside.seat.me in
    let same : c.seat.inside.seat.table_id ≡ board.table.shared.table_id =
    ap (λ (x : SeatView). x.board.table) c.seat.view_is ∙ (ap (λ (b : BoardView). b.table) c.requires.seat ∙ sym (ap (λ (b : BoardView). b.table) c.self.view_is)) in
    let graphs = same_graph c.seat.inside.seat.table_id board.table.shared.table_id me.0 board.table.shared.key c.args.seat.now c.args.self.now c.seat.view_is c.requires.seat c.self.view_is in
    let words : c.words.result ≡ mark_words (edge_count me.0.graph) = c.words.ensures ∙ (ap mark_words c.self.invariant.1 ∙ sym (ap (λ (g : Graph). mark_words (edge_count g)) graphs)) in
    let u : ℕ = c.args.vertex - 1 in
    let above = c.requires.vertex.0 in
    let below : c.args.vertex ≤ me.0.graph.vertices =
    subst (λ (x : SeatView). c.args.vertex ≤ x.board.graph.vertices) (sym c.seat.view_is) (subst (λ (b : BoardView). c.args.vertex ≤ b.graph.vertices) (sym c.requires.seat) c.requires.vertex.1) in
    let lt : u < me.0.graph.vertices = omega arith in
    let sized : board.table.shared.table_id.words ≡ words_for (edge_count me.0.graph) me.0.graph.vertices = c.self.invariant.0 ∙ sym (ap (λ (g : Graph). words_for (edge_count g) g.vertices) graphs) in
    (same, omega arith, take_allowed board.table.shared.key board.table.shared.table_id.slots c.seat.inside.seat.id me u c.words.result c.seat.invariant.1 lt words)

abbrev flag : goal.After-fetch_or-found → ℕ
flag c = base_of (edge_count c.seat.inside.seat.me.0.graph) + (c.args.vertex - 1)

abbrev Told : goal.After-fetch_or-found → ℕ → Type 0
Told c v =
    let me = c.seat.inside.seat.me in
    let found : ℕ = c.fetch_or-found.result in
    (c.fetch_or-found.new.seat.me ≡ (learning me.0 v (bit_of found (flag c)), me.1)) × (Contains me.0.known v → bit_of found (flag c) ≡ true) × IsStep (λ k. takes k v) me.0 c.fetch_or-found.new.seat.me.0

told : (c : goal.After-fetch_or-found) → Told c c.args.vertex
told c =
    let board = c.self.inside in
    let me = c.seat.inside.seat.me in
    let edges : ℕ = edge_count me.0.graph in
    let graphs = same_graph c.seat.inside.seat.table_id board.table.shared.table_id me.0 board.table.shared.key c.args.seat.now c.args.self.now c.seat.view_is c.requires.seat c.self.view_is in
    let words : c.words.result ≡ mark_words edges = c.words.ensures ∙ (ap mark_words c.self.invariant.1 ∙ sym (ap (λ (g : Graph). mark_words (edge_count g)) graphs)) in
    let u : ℕ = c.args.vertex - 1 in
    let above = c.requires.vertex.0 in
    let below : c.args.vertex ≤ me.0.graph.vertices =
    subst (λ (x : SeatView). c.args.vertex ≤ x.board.graph.vertices) (sym c.seat.view_is) (subst (λ (b : BoardView). c.args.vertex ≤ b.graph.vertices) (sym c.requires.seat) c.requires.vertex.1) in
    let next : suc u ≡ c.args.vertex = omega arith in
    subst (Told c) next (c.fetch_or-found.ensures.2 u (flag c) (omega arith) refl (flag_word edges c.words.result u words) (flag_mask edges u))

-- the bit that was found
found_bit : (c : goal.After-fetch_or-found) → bit_of c.fetch_or-found.result (flag c) ≡ (bit_at c.fetch_or-found.result ((c.args.vertex - 1) % 64) == 1)
found_bit c = ap (λ (k : ℕ). bit_at c.fetch_or-found.result k == 1) (flag_bit (edge_count c.seat.inside.seat.me.0.graph) (c.args.vertex - 1))

pub invariant_of-seat : goal.invariant_of-seat
invariant_of-seat c =
    let t = told c in
    let i = c.seat.invariant in (
      ap (λ (m : Me (Unit {0}) View). m.1) t.0 ∙ i.0,
      ap (λ (m : Me (Unit {0}) View). m.0.live) t.0 ∙ i.1,
      ap (λ (z : TableId). z.words) c.fetch_or-found.ensures.0 ∙ (i.2 ∙ sym (ap (λ (m : Me (Unit {0}) View). words_for (edge_count m.0.graph) m.0.graph.vertices) t.0)),
      subst (λ (m : Me (Unit {0}) View). IsFair m.0.graph m.0.seen) (sym t.0) i.3,
    )

pub returns-clause-won : goal.returns-clause-won
returns-clause-won c =
    let t = told c in
    let v : ℕ = c.args.vertex in
    let place : ℕ = (v - 1) % 64 in
    let b : Bool = bit_of c.fetch_or-found.result (flag c) in
    let learn : SeatView → SeatView = λ x. record x { won = if b then x.won else (v ∷ x.won); known = v ∷ x.known } in
    let now = c.args.seat.now in
    let x : ℕ = bit_at c.fetch_or-found.result place in
    let lt : x < 2 = bit_at-lt c.fetch_or-found.result place in
    let taken : (if b then now.won else (v ∷ now.won)) ≡ (if bit_and (c.fetch_or-found.result / 2 ^ place) 1 == 0 then (v ∷ now.won) else now.won) =
    ap (λ (d : Bool). if d then now.won else (v ∷ now.won)) (found_bit c)
    ∙ sym (ap (λ (n : ℕ). if n == 0 then (v ∷ now.won) else now.won) (shr_and_one c.fetch_or-found.result place) ∙ bit_cases x (v ∷ now.won) now.won lt) in
    let first : seat_view c.fetch_or-found.new.seat.table_id c.fetch_or-found.new.seat.me.0 ≡ learn (seat_view c.seat.inside.seat.table_id c.seat.inside.seat.me.0) =
    λ i. seat_view (c.fetch_or-found.ensures.0 i) (t.0 i).0 in
    first ∙ (ap learn c.seat.view_is ∙ ap (λ (l : List ℕ). record now { won = l; known = v ∷ now.known }) taken)

pub returns-clause-known : goal.returns-clause-known
returns-clause-known c = λ has.
    let t = told c in
    let place : ℕ = (c.args.vertex - 1) % 64 in
    let there = t.1 (subst (λ (x : SeatView). Contains x.known c.args.vertex) (sym c.seat.view_is) has) in
    ap (λ (n : ℕ). n == 0) (shr_and_one c.fetch_or-found.result place) ∙ not_zero_bit (bit_at c.fetch_or-found.result place) (sym (found_bit c) ∙ there)

pub returns-clause-step : goal.returns-clause-step
returns-clause-step c =
    let t = told c in
    let old : c.seat.inside.seat.me.0 ≡ view_of c.args.seat.now = lives c.seat.inside.seat.table_id c.seat.inside.seat.me.0 c.seat.invariant.1 ∙ ap view_of c.seat.view_is
    in let new : c.fetch_or-found.new.seat.me.0 ≡ view_of (seat_view c.fetch_or-found.new.seat.table_id c.fetch_or-found.new.seat.me.0) = lives c.fetch_or-found.new.seat.table_id c.fetch_or-found.new.seat.me.0 (ap (λ (m : Me (Unit {0}) View). m.0.live) t.0 ∙ c.seat.invariant.1)
    in subst (λ (z : View × View). IsStep (λ k. takes k c.args.vertex) z.0 z.1) (λ i. (old i, new i)) t.2
