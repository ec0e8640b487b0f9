-- The vertices at the places so far were found.
use Rattle.std.proofs.Common.{◌≤◌, length}
use Rattle.vertex_order.specs.Finding.{IsFinding}
use Rattle.vertex_order.proofs.order.nearer_order.Given as goal

abbrev pub invariant-loop-place : goal.invariant-loop-place
invariant-loop-place l = record { finding : IsFinding l.graph.vertices l.finding; found : l.place ≤ length l.finding.order.items }
