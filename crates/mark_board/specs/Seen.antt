-- What contracts see of a board and of a seat.
use Rattle.std.specs.Prelude.{ℕ, true, List, []}
use Rattle.atomic_table.specs.Seated.{TableId}
use Rattle.cut_definitions.specs.Graph.{Graph}
use Rattle.mark_board.specs.declared.rule.View.{View}

-- which board it is, its graph, its slack, and the bound that it was opened with
pub record BoardView : Type 0 where
  pub table : TableId
  pub graph : Graph
  pub slack : ℕ
  pub opening : ℕ

-- the board of a seat, the bound that it saw last, the edges that it marked, the vertices that it won, each with those of
-- the seats that were joined into it, and the vertices that it knows to be taken
pub record SeatView : Type 0 where
  pub board : BoardView
  pub seen : ℕ
  pub own : List ℕ
  pub won : List ℕ
  pub known : List ℕ

-- a seat that has seen a bound, and done nothing
abbrev pub fresh_seat : BoardView → ℕ → SeatView
fresh_seat b seen = record { board = b; seen = seen; own = []; won = []; known = [] }

abbrev pub seat_view : TableId → View → SeatView
seat_view t v = record { board = record { table = t; graph = v.graph; slack = v.slack; opening = v.opening }; seen = v.seen; own = v.own; won = v.won; known = v.known }

-- the view of a seat as the table keeps it
abbrev pub view_of : SeatView → View
view_of s = record { live = true; graph = s.board.graph; slack = s.board.slack; opening = s.board.opening; seen = s.seen; own = s.own; won = s.won; known = s.known }
