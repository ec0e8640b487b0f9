-- What workers do with the seats of a board.
use Rattle.std.specs.Prelude.{ℕ, Bool, true, ◌≡◌, ◌+◌, ◌%◌, ◌^◌, ◌<◌, ◌≤◌, List, length, slice_index_or, Contains, IfSome, IfOk}
use Rattle.cut_definitions.specs.Graph.{Graph}
use Rattle.cut_definitions.specs.Safe.{IsFair}
use Rattle.cut_definitions.specs.Cuts.{has}
use Rattle.weighted_graph.specs.RowLaws.{edge_at}
use Rattle.capped_scan.specs.Scan.{ScanState}
use Rattle.mark_board.specs.Seen.{BoardView, SeatView}
use Rattle.round_workers.specs.Round.{IsCertified}
use Rattle.round_workers.specs.declared.working.Worker.{Worker}

-- a seat of a board over a graph and a slack, which saw a bound last
pub record HasSeen (b : BoardView) (g : Graph) (slack bound : ℕ) (s : SeatView) : Type 0 where
  pub board : s.board ≡ b
  pub graph : b.graph ≡ g
  pub slack_is : b.slack ≡ slack
  pub seen : s.seen ≡ bound
  pub fair : IsFair g bound
  pub small : bound ≤ 2 ^ 61
  pub at_most : bound ≤ b.opening

-- the seat forgets no mark and no vertex that it won, and sees no greater bound
pub record IsLater (s t : SeatView) : Type 0 where
  pub seen : t.seen ≤ s.seen
  pub own : (e : ℕ) → Contains s.own e → Contains t.own e
  pub won : (v : ℕ) → Contains s.won v → Contains t.won v

-- each vertex that was scanned was won by the seat
abbrev pub AreWon : ScanState → SeatView → Type 0
AreWon scan s = (v : ℕ) → has scan.order v ≡ true → Contains s.won v

-- the edges of a share below a place are marked if they are certified at a limit
pub record HasTested (g : Graph) (limit share shares upto : ℕ) (s : SeatView) : Type 0 where
  pub each : (e : ℕ) → e < upto → e % shares ≡ share → IsCertified g (edge_at g e) limit → Contains s.own e

-- if the seat saw no lower bound than the opening one, the edges of a share that are certified at it are marked
pub record HasWorked (g : Graph) (slack share shares : ℕ) (s : SeatView) : Type 0 where
  pub tested : s.board.opening ≤ s.seen → HasTested g (s.board.opening + slack) share shares (length g.edges) s

-- if the seat saw no lower bound than the opening one, all edges that are certified at it are marked
pub record HasAll (g : Graph) (slack : ℕ) (s : SeatView) : Type 0 where
  pub each : s.board.opening ≤ s.seen → (e : ℕ) → e < length g.edges → IsCertified g (edge_at g e) (s.board.opening + slack) → Contains s.own e

-- a worker with a seat of the board
pub record IsReady (b : BoardView) (g : Graph) (slack : ℕ) (w : Worker) : Type 0 where
  pub seated : HasSeen b g slack w.seat.seen w.seat

-- a worker that has scanned nothing but what it took, and has done its share if it was to certify
pub record IsDone (b : BoardView) (g : Graph) (slack : ℕ) (certifies : Bool) (share shares : ℕ) (w : Worker) : Type 0 where
  pub seated : HasSeen b g slack w.seat.seen w.seat
  pub won : IfSome w.scan (λ made. IfOk made (λ scan. AreWon scan w.seat))
  pub worked : certifies ≡ true → HasWorked g slack share shares w.seat

-- each worker of a list has done the share of its place
pub record AreDone (b : BoardView) (g : Graph) (slack : ℕ) (certifies : Bool) (shares : ℕ) (ws : List Worker) : Type 0 where
  pub each : (i : ℕ) (d : Worker) → i < length ws → IsDone b g slack certifies i shares (slice_index_or ws i d)
