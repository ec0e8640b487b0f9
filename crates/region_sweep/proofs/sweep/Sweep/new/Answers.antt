-- Vertex 1 has entered, and all others are in one region.
use Rattle.std.proofs.Common.{◌≡◌, ◌+◌, ℕ, List, length, ◌∙◌, ap, subst, arith}
use Rattle.std.proofs.lemmas.List.{length-replicate}
use Rattle.region_parts.specs.Split.{IsReady}
use Rattle.region_sweep.proofs.Stepping.{all_in_root, started_sweeping}
use Rattle.region_sweep.proofs.sweep.Sweep.new.Goals as goal

pub returns : goal.returns
returns c =
    let g = c.args.graph.now in
    let n = g.vertices in
    let start = c.in_ok-start.ensures in
    let labels = c.in_ok-start.start.0.labels in
    let homes = c.in_ok-first.first.1 in
    let first = c.in_ok-first.ensures in
    let rows = c.in_ok-rows.ensures in
    let at_n : c.n-n.result ≡ n = c.n-n.ensures.value in
    let entered = rw at_n at first.entered in
    let regions = rw at_n at first.regions in
    let size = λ (l : List ℕ). length l in
    record {
      flow = start.flow;
      sweeping = started_sweeping g labels homes c.in_ok-first.first.0 entered regions first.tree start.root start.others;
      first = all_in_root n labels homes entered regions 1;
      numbered = start.numbered;
      fed = start.fed;
      covered = start.covered;
      ready = subst (λ (k : ℕ). IsReady k c.in_ok-splitter.splitter) at_n c.in_ok-splitter.ensures.splitter;
      room = record {
        vertices = start.vertices;
        numbers = omega (arith, c.in_ok-splitter.ensures.numbers, at_n);
        entered = ap size entered ∙ length-replicate {A = ℕ} (n + 1) 0;
        regions = ap size regions ∙ length-replicate {A = ℕ} (n + 2) 0;
        nodes = omega (arith, rows.nodes, at_n);
        later = omega (arith, rows.later, at_n);
        next = omega (arith, rows.next, at_n);
      };
    }
