-- What the last state of a board's table says.
use Rattle.std.proofs.Common.{◌≡◌, ℕ, ◌<◌, ◌≤◌, true, false, List, sym, ap, ◌∙◌, subst}
use Rattle.std.specs.Prelude.{slice_index, Contains}
use mathlib.Core.Option.{some}
use lib.ListN.{get_elem?}
use Rattle.atomic_table.specs.Table.{Final, Seen}
use Rattle.cut_definitions.specs.Safe.{IsFair}
use Rattle.scan_core.specs.Machine.{IsSafeEdge}
use Rattle.scan_core.proofs.Keeps.{or_at}
use Rattle.mark_board.specs.declared.rule.View.{View}
use Rattle.mark_board.specs.declared.rule.Opened.{Opened}
use Rattle.mark_board.specs.Words.{is_flagged, base_of}
use Rattle.mark_board.specs.Rule.{edge_count, IsBoard}
use Rattle.mark_board.proofs.Steps.{fits, safe_here}
use Rattle.mark_board.proofs.Bits.{marked_in, marked_by}

-- what is left of a board, in the eyes of one seat
pub record Closing (key : Opened) (v : View) (bound : ℕ) (ws : List ℕ) : Type 0 where
  pub same_graph : v.graph ≡ key.graph.value
  pub fair : IsFair v.graph bound
  pub lowered : bound ≤ v.opening
  pub above : bound ≤ v.seen
  pub spare : (f : ℕ) → edge_count v.graph ≤ f → f < base_of (edge_count v.graph) → is_flagged ws f ≡ false
  pub safe : (e : ℕ) → e < edge_count v.graph → is_flagged ws e ≡ true → IsSafeEdge v.graph bound v.slack e
  pub own : (e : ℕ) → Contains v.own e → (e < edge_count v.graph) × (is_flagged ws e ≡ true)

pub closes : (key : Opened) (id : ℕ) (v : View) (ws : List ℕ) (xs : List (Unit {0})) (bound : ℕ) → v.live ≡ true → Final (Seen (IsBoard key) id v) ws xs
    → get_elem? ws 0 ≡ some bound → Closing key v bound ws
closes key id v ws xs bound live final first =
    let s = final.0 in
    let board = final.1.0 in
    let at = final.1.1 in
    let edges : ℕ = edge_count key.graph.value in
    let b : slice_index s.words 0 ≡ bound = ap (λ (l : List ℕ). slice_index l 0) final.2 ∙ (or_at ws 0 bound 0 first).1 in
    let a = board.agree id v at live in
    let f = fits key s id v board at live in
    let flags : (e : ℕ) → is_flagged s.words e ≡ is_flagged ws e = λ e. ap (λ (l : List ℕ). is_flagged l e) final.2 in record {
      same_graph = a.graph;
      fair = subst (λ (n : ℕ). IsFair v.graph n) b (subst (λ g. IsFair g (slice_index s.words 0)) (sym a.graph) board.kept.fair);
      lowered = subst (λ (n : ℕ). n ≤ v.opening) b (subst (λ (n : ℕ). slice_index s.words 0 ≤ n) (sym a.opening) board.kept.lowered);
      above = subst (λ (n : ℕ). n ≤ v.seen) b f.above;
      spare = subst (λ g. (e : ℕ) → edge_count g ≤ e → e < base_of (edge_count g) → is_flagged ws e ≡ false) (sym a.graph) (λ e from below. sym (flags e) ∙ board.spare e from below);
      safe = subst (λ g. (e : ℕ) → e < edge_count g → is_flagged ws e ≡ true → IsSafeEdge v.graph bound v.slack e) (sym a.graph)
          (λ e lt is. subst (λ (n : ℕ). IsSafeEdge v.graph n v.slack e) b (safe_here key v a (slice_index s.words 0) e (board.kept.safe e (marked_by s.words edges e lt (flags e ∙ is)))));
      own = subst (λ g. (e : ℕ) → Contains v.own e → (e < edge_count g) × (is_flagged ws e ≡ true)) (sym a.graph)
          (λ e has. let m = marked_in s.words edges e (f.marked e has) in (m.0, sym (flags e) ∙ m.1));
    }
