use Rattle.std.proofs.Common.{◌≡◌, ◌+◌, ◌/◌, ℕ, List, [], set, sym, ap, ◌∙◌, subst}
use Rattle.atomic_table.specs.Table.{Me, opening}
use Rattle.mark_board.specs.declared.rule.View.{View}
use Rattle.mark_board.specs.Seen.{seat_view, view_of}
use Rattle.cut_definitions.specs.Graph.{Graph}
use Rattle.cut_definitions.specs.Safe.{IsFair}
use Rattle.mark_board.specs.declared.rule.Opened.{Opened}
use Rattle.mark_board.specs.Words.{words_for}
use Rattle.mark_board.specs.Rule.{edge_count, IsBoard, first_view}
use Rattle.mark_board.proofs.Opening.{zeros, opens, bare}
use Rattle.mark_board.proofs.board.Board.open.Goals as goal

pub of_words-requires : goal.of_words-requires
of_words-requires c =
    let key : Opened = record { graph = c.of.result; slack = c.args.slack; bound = c.args.bound } in
    let graph = c.of.ensures in
    let count : ℕ = (c.edges-edges.result / 64 + 1) + (c.n-vertices.result / 64 + 1) + 1 in
    let e : c.edges-edges.result ≡ edge_count key.graph.value = c.edges-edges.ensures ∙ sym (ap edge_count graph) in
    let n : c.n-vertices.result ≡ key.graph.value.vertices = c.n-vertices.ensures.value ∙ sym (ap (λ (g : Graph). g.vertices) graph) in
    let is : count ≡ words_for (edge_count key.graph.value) key.graph.value.vertices = λ i. words_for (e i) (n i) in
    let words : c.as_slice.result.now ≡ set (zeros count) 0 c.args.bound = c.as_slice.ensures.value ∙ ap (λ (l : List ℕ). set l 0 c.args.bound) (c.in_ok-words.ensures.items_if_clones_equal (λ y h. h)) in
    subst (λ (l : List ℕ). IsBoard key (opening l [] (first_view key))) (sym words) (opens key count is (subst (λ g. IsFair g c.args.bound) (sym graph) c.requires.fair))

pub returns-clause-bare : goal.returns-clause-bare
returns-clause-bare c =
    let seat = c.in_ok-table.seat in
    let me : seat.me ≡ _ = c.in_ok-table.ensures.4 in
    bare (view_of (seat_view seat.table_id seat.me.0)) (ap (λ (m : Me (Unit {0}) View). m.0.own) me) (ap (λ (m : Me (Unit {0}) View). m.0.won) me)
