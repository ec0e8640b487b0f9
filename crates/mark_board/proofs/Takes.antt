-- The word and the mask with which a vertex is taken.
use Rattle.std.proofs.Common.{◌≡◌, ℕ, ◌+◌, ◌*◌, ◌/◌, ◌%◌, ◌^◌, ◌<◌, true, ap, sym, ◌∙◌, subst, refl, arith}
use Rattle.std.specs.Prelude.{bit_or}
use mathlib.Core.Option.{none}
use Rattle.atomic_table.specs.Table.{Me, step, Allows}
use Rattle.atomic_table.specs.Seated.{TableId}
use Rattle.mark_board.specs.declared.rule.View.{View}
use Rattle.mark_board.specs.declared.rule.Opened.{Opened}
use Rattle.mark_board.specs.Seen.{SeatView, BoardView, view_of, seat_view}
use Rattle.mark_board.specs.Words.{word_of, mask_of, base_of, mark_words}
use Rattle.mark_board.specs.Rule.{edge_count, IsBoard, took}
use Rattle.mark_board.proofs.Steps.{takes_allowed}

-- a view that lives is read back from what contracts see of it
pub lives : (t : TableId) (v : View) → v.live ≡ true → v ≡ view_of (seat_view t v)
lives t v live = λ i. record v { live = live i }

-- a seat of a board has the graph of the board's key
pub same_graph : (t t' : TableId) (v : View) (key : Opened) (s : SeatView) (b : BoardView) → seat_view t v ≡ s → s.board ≡ b →
    record { table = t'; graph = key.graph.value; slack = key.slack; opening = key.bound } ≡ b → v.graph ≡ key.graph.value
same_graph t t' v key s b seat boards board = ap (λ (x : SeatView). x.board.graph) seat ∙ (ap (λ (x : BoardView). x.graph) boards ∙ sym (ap (λ (x : BoardView). x.graph) board))

-- flags from the first word behind the mark words on
pub flag_word : (edges words u : ℕ) → words ≡ mark_words edges → word_of (base_of edges + u) ≡ words + u / 64 + 1
flag_word edges words u is = omega arith

pub flag_bit : (edges u : ℕ) → (base_of edges + u) % 64 ≡ u % 64
flag_bit edges u = omega arith

pub flag_mask : (edges u : ℕ) → mask_of (base_of edges + u) ≡ 1 * 2 ^ (u % 64) % 2 ^ 64
flag_mask edges u = ap (λ (n : ℕ). 1 * 2 ^ n % 2 ^ 64) (flag_bit edges u)

abbrev AllowsTake : Opened → ℕ → ℕ → Me (Unit {0}) View → ℕ → ℕ → Type 0
AllowsTake key slots id me word mask = Allows (IsBoard key) slots id me word (λ n. bit_or n mask) (took (step slots word mask 0 none) me)

pub take_allowed : (key : Opened) (slots id : ℕ) (me : Me (Unit {0}) View) (u words : ℕ) → me.0.live ≡ true → u < me.0.graph.vertices → words ≡ mark_words (edge_count me.0.graph) →
    AllowsTake key slots id me (words + u / 64 + 1) (1 * 2 ^ (u % 64) % 2 ^ 64)
take_allowed key slots id me u words live lt is =
    let edges : ℕ = edge_count me.0.graph in
    let f : ℕ = base_of edges + u in
    subst (λ (word : ℕ). AllowsTake key slots id me word (1 * 2 ^ (u % 64) % 2 ^ 64)) (flag_word edges words u is)
    (subst (λ (mask : ℕ). AllowsTake key slots id me (word_of f) mask) (flag_mask edges u) (takes_allowed key slots id me u f live lt refl))
