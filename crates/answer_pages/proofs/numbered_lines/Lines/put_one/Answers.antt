use Rattle.std.proofs.Common.{ℕ, List, [], ◌∷◌, ◌<◌, ◌++◌, length, ap, sym, subst, arith}
use Rattle.std.proofs.lemmas.List.{length-map}
use Rattle.std.proofs.lemmas.Option.{get_or_from_slice_get}
use Rattle.std.specs.Prelude.{codes}
use Rattle.std.specs.Fmt.{decimal}
use Rattle.vertex_set.specs.Side.{VertexList}
use Rattle.answer_pages.specs.Lines.{texts}
use Rattle.answer_pages.specs.Listings.{side_line}
use Rattle.answer_pages.specs.Text.{line}
use Rattle.answer_pages.proofs.Putting.{puts_as}
use Rattle.answer_pages.proofs.Between.{got, node_count, node_at, line_at}
use Rattle.answer_pages.proofs.numbered_lines.Lines.put_one.Goals as goal

pub node-requires : goal.node-requires
node-requires g c =
    let h = subst (λ l. c.args.i < length (texts l)) c.in-Nodes.is c.requires in
    omega (arith, h, node_count 0 c.in-Nodes.cactus.now.nodes)

pub returns-in-Nodes : goal.returns-in-Nodes
returns-in-Nodes g c =
    puts_as (ap (λ (l : List ℕ). c.args.page.now ++ l) (node_at (texts c.args.self.now) c.in-Nodes.cactus.now.nodes c.args.i c.node.result.now (ap texts c.in-Nodes.is) c.node.ensures))
    c.put_node.ensures

pub returns-in-Bridges : goal.returns-in-Bridges
returns-in-Bridges g c =
    let xs = c.in-Bridges.bridges.now in
    let there = got xs c.args.i c.get.result c.unwrap.result c.get.ensures.lookup.1 c.unwrap.ensures in
    puts_as (ap (λ (l : List ℕ). c.args.page.now ++ l) (line_at (λ (b : ℕ × ℕ). line (codes "bridge") (b.0 ∷ b.1 ∷ [])) (texts c.args.self.now) xs c.args.i c.unwrap.result.now (ap texts c.in-Bridges.is) there c.requires))
    c.put_line.ensures

pub returns-in-Cycles : goal.returns-in-Cycles
returns-in-Cycles g c =
    let xs = c.in-Cycles.cactus.now.cycles in
    let x = c.cycle.result.now in
    let there = sym (get_or_from_slice_get xs c.args.i x x c.cycle.ensures) in
    puts_as (ap (λ (l : List ℕ). c.args.page.now ++ l) (line_at (line (codes "cycle")) (texts c.args.self.now) xs c.args.i x (ap texts c.in-Cycles.is) there c.requires))
    c.put_line-in-Cycles.ensures

pub returns-in-Sides : goal.returns-in-Sides
returns-in-Sides g c =
    let xs = c.in-Sides.sides.now in
    let there = got xs c.args.i c.get-in-Sides.result c.unwrap-in-Sides.result c.get-in-Sides.ensures.lookup.1 c.unwrap-in-Sides.ensures in
    puts_as (ap (λ (l : List ℕ). c.args.page.now ++ l) (line_at (λ (s : VertexList). side_line s.members) (texts c.args.self.now) xs c.args.i c.unwrap-in-Sides.result.now (ap texts c.in-Sides.is) there c.requires))
    c.put_side.ensures

pub returns-in-Vertices : goal.returns-in-Vertices
returns-in-Vertices g c =
    let xs = c.in-Vertices.numbers.now in
    let there = got xs c.args.i c.get-in-Vertices.result c.unwrap-in-Vertices.result c.get-in-Vertices.ensures.lookup.1 c.unwrap-in-Vertices.ensures in
    puts_as (ap (λ (l : List ℕ). c.args.page.now ++ l) (line_at (λ (n : ℕ). 32 ∷ decimal n) (texts c.args.self.now) xs c.args.i c.unwrap-in-Vertices.result.now (ap texts c.in-Vertices.is) there c.requires))
    c.put_number.ensures

pub returns-in-Members : goal.returns-in-Members
returns-in-Members g c =
    let xs = c.in-Members.numbers.now in
    let there = got xs c.args.i c.get-in-Members.result c.unwrap-in-Members.result c.get-in-Members.ensures.lookup.1 c.unwrap-in-Members.ensures in
    puts_as (ap (λ (l : List ℕ). c.args.page.now ++ l) (line_at (λ (n : ℕ). 32 ∷ decimal n) (texts c.args.self.now) xs c.args.i c.unwrap-in-Members.result.now (ap texts c.in-Members.is) there c.requires))
    c.put_number-in-Members.ensures

pub cycle-requires : goal.cycle-requires
cycle-requires g c =
    let h = subst (λ l. c.args.i < length (texts l)) c.in-Cycles.is c.requires in
    omega (arith, h, length-map c.in-Cycles.cactus.now.cycles (line (codes "cycle")))

pub unwrap-requires : goal.unwrap-requires
unwrap-requires g c =
    let h = subst (λ l. c.args.i < length (texts l)) c.in-Bridges.is c.requires in
    c.get.ensures.lookup.2 (omega (arith, h, length-map c.in-Bridges.bridges.now (λ (b : ℕ × ℕ). line (codes "bridge") (b.0 ∷ b.1 ∷ []))))

pub put_line-requires : goal.put_line-requires
put_line-requires g c = omega arith

pub unwrap-requires-in-Sides : goal.unwrap-requires-in-Sides
unwrap-requires-in-Sides g c =
    let h = subst (λ l. c.args.i < length (texts l)) c.in-Sides.is c.requires in
    c.get-in-Sides.ensures.lookup.2 (omega (arith, h, length-map c.in-Sides.sides.now (λ (s : VertexList). side_line s.members)))

pub unwrap-requires-in-Vertices : goal.unwrap-requires-in-Vertices
unwrap-requires-in-Vertices g c =
    let h = subst (λ l. c.args.i < length (texts l)) c.in-Vertices.is c.requires in
    c.get-in-Vertices.ensures.lookup.2 (omega (arith, h, length-map c.in-Vertices.numbers.now (λ (n : ℕ). 32 ∷ decimal n)))

pub unwrap-requires-in-Members : goal.unwrap-requires-in-Members
unwrap-requires-in-Members g c =
    let h = subst (λ l. c.args.i < length (texts l)) c.in-Members.is c.requires in
    c.get-in-Members.ensures.lookup.2 (omega (arith, h, length-map c.in-Members.numbers.now (λ (n : ℕ). 32 ∷ decimal n)))

pub put_line-requires-in-Cycles : goal.put_line-requires-in-Cycles
put_line-requires-in-Cycles g c = omega arith
