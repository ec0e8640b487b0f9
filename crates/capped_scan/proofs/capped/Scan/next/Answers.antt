use Rattle.std.proofs.Common.{◌≡◌, ℕ, ◌+◌, ◌-◌, ◌*◌, ◌^◌, ◌≤◌, List, ◌∷◌, sym, ◌∙◌, ap, arith}
use Rattle.std.proofs.lemmas.Bool.{or_left}
use Rattle.cut_definitions.specs.Weight.{weight}
use Rattle.cut_definitions.specs.Cuts.{has}
use Rattle.cut_definitions.specs.Scan.{weight_to}
use Rattle.cut_definitions.proofs.Running.{weight-le_total}
use Rattle.weighted_graph.specs.Rows.{row_of}
use Rattle.weighted_graph.proofs.RowLaws.{weight_to_is, degree-le}
use Rattle.capped_scan.specs.Scan.{ScanState, is_live, waits, IsChoice, IsAbsorbed}
use Rattle.capped_scan.proofs.Layouts.{all_scanned}
use Rattle.capped_scan.proofs.Standing.{row_of_is, link_small, live_same, greatest_rank, prefix_more, next_stands}
use Rattle.capped_scan.proofs.capped.Scan.next.Goals as goal
use Rattle.capped_scan.proofs.capped.Scan.next.Goals.{After-degree}

pub absorb-inside-requires-clause-row : goal.absorb-inside-requires-clause-row
absorb-inside-requires-clause-row c = rw c.row.ensures.value (row_of_is c.args.graph.now c.row.ensures.edge_list.is_graph c.in_ok-vertex.vertex c.args.self.now.vertices c.requires.vertices)

pub absorb-inside-requires-clause-small : goal.absorb-inside-requires-clause-small
absorb-inside-requires-clause-small c = link_small c.args.graph.now c.row.ensures.edge_list.is_graph c.args.self.now c.requires

choice : (c : After-degree) → IsChoice c.args.self.now c.in_ok-vertex.vertex
choice c = c.in_ok-vertex.ensures.choice

absorbed : (c : After-degree) → IsAbsorbed c.args.self.now c.absorb-inside.new.self c.in_ok-vertex.vertex (row_of c.args.graph.now c.in_ok-vertex.vertex)
absorbed c = rw c.row.ensures.value at c.absorb-inside.ensures.absorbed

-- the weight from the vertex to those scanned before
inside_is : (c : After-degree) → c.absorb-inside.result ≡ weight_to c.args.graph.now c.in_ok-vertex.vertex (has c.args.self.now.order)
inside_is c = (rw c.row.ensures.value at c.absorb-inside.ensures.inside) ∙ weight_to_is c.args.graph.now c.row.ensures.edge_list.is_graph c.in_ok-vertex.vertex (has c.args.self.now.order)

prefix_is : (c : After-degree) → c.self.inside.prefix ≡ c.args.self.now.prefix
prefix_is c = ap (λ (s : ScanState). s.prefix) c.self.view_is ∙ (absorbed c).prefix

more : (c : After-degree) → weight c.args.graph.now (has (c.in_ok-vertex.vertex ∷ c.args.self.now.order)) + 2 * c.absorb-inside.result ≡ c.self.inside.prefix + c.degree.result
more c =
    let law = prefix_more c.args.graph.now c.row.ensures.edge_list.is_graph c.args.self.now c.absorb-inside.new.self c.requires c.in_ok-vertex.vertex (choice c) (absorbed c) in
    omega (arith, law, inside_is c, prefix_is c, c.degree.ensures)

small : (c : After-degree) → c.self.inside.prefix + c.degree.result ≤ 2 ^ 62
small c =
    let g = c.args.graph.now in
    let ok = c.row.ensures.edge_list.is_graph in
    omega (arith, prefix_is c, c.requires.prefix, weight-le_total g (has c.args.self.now.order), ok.total, degree-le g ok c.in_ok-vertex.vertex, c.degree.ensures)

pub overflow_add-self : goal.overflow_add-self
overflow_add-self c = omega (arith, small c)

pub overflow_mul-self : goal.overflow_mul-self
overflow_mul-self c = omega (arith, small c, more c)

pub overflow_sub-self : goal.overflow_sub-self
overflow_sub-self c = omega (arith, more c)

pub returns-clause-stands : goal.returns-clause-stands
returns-clause-stands c =
    let d = (goal.at.returns-clause-stands c).After-degree in
    let view = c.self.view_is in
    next_stands c.args.graph.now c.row.ensures.edge_list.is_graph c.args.self.now c.absorb-inside.new.self c.requires c.in_ok-vertex.vertex (choice d) (absorbed d) _
    (ap (λ (s : ScanState). s.vertices) view) (ap (λ (s : ScanState). s.cap) view) (ap (λ (s : ScanState). s.order) view) (ap (λ (s : ScanState). s.keys) view)
    (omega (arith, more d))

pub returns-clause-scanned : goal.returns-clause-scanned
returns-clause-scanned c =
    let d = (goal.at.returns-clause-scanned c).After-degree in
    let i = c.self.inside in
    let g = c.args.graph.now in
    let ok = c.row.ensures.edge_list.is_graph in
    let s = c.args.self.now in
    let t = c.absorb-inside.new.self in
    let x = c.in_ok-vertex.vertex in
    let view = c.self.view_is in
    let a = absorbed d in
    let order_is = ap (λ (u : ScanState). u.order) view ∙ a.order in
    let all = all_scanned i.n i.root i.size i.height i.free i.tree.items i.order.items i.scanned.items c.self.invariant in
    let over : i.n ≡ g.vertices = ap (λ (u : ScanState). u.vertices) view ∙ (a.vertices ∙ c.requires.vertices) in
    let within = c.requires.within x (or_left (waits s x) (has s.order x) (choice d).waiting) in
    record {
      choice = choice d;
      from_one = within.0;
      to_n = omega (arith, within.1, c.requires.vertices);
      greatest = greatest_rank g ok s t c.requires x (choice d) a;
      vertices = ap (λ (u : ScanState). u.vertices) view ∙ a.vertices;
      root = ap (λ (u : ScanState). u.root) view ∙ a.root;
      cap = ap (λ (u : ScanState). u.cap) view ∙ a.cap;
      order = order_is;
      live = λ v. ap (λ (u : ScanState). is_live u v) view ∙ live_same g ok s t c.requires x (choice d) a v;
      weight_is = (let w : (i.prefix + c.degree.result) - 2 * c.absorb-inside.result ≡ weight g (has (x ∷ s.order)) = omega (arith, more d) in w) ∙ ap (λ (o : List ℕ). weight g (has o)) (sym order_is);
      all_is = (λ is v low high. all.0 is v low (omega arith), λ each. all.1 (λ v low high. each v low (omega arith)));
    }
