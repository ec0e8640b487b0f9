-- What all edges weigh at each vertex.
use Rattle.std.proofs.Common.{◌≡◌, ◌++◌, ◌∙◌, ap, length, take, drop, get_or, List, ℕ, arith}
use Rattle.std.specs.List.{sum_by}
use Rattle.std.proofs.Math.Seq.{take-append_seam}
use Rattle.cut_definitions.specs.declared.edge_list.Edge.{Edge}
use Rattle.cut_definitions.specs.Scan.{single}
use Rattle.cut_definitions.proofs.WeightLaws.{cut_term}
use Rattle.least_cut.proofs.dense.degrees_of.Goals as goal

pub returns-clause-each : goal.returns-clause-each
returns-clause-each c v =
    let new = c.add_degrees.new.degrees in
    let rest = drop (length new) c.in_ok-degrees.degrees.items in
    let long : c.in_ok-degrees.degrees.len ≡ length new = omega arith in
    ap (λ (k : ℕ). get_or (take k (new ++ rest)) v 0) long
    ∙ (ap (λ (xs : List ℕ). get_or xs v 0) (take-append_seam new rest)
    ∙ (c.add_degrees.ensures v ∙ ap (λ (es : List Edge). sum_by (cut_term (single v)) es) c.edges.ensures.value))
