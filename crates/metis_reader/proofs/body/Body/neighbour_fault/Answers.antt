use Rattle.std.proofs.Common.{◌≡◌, ◌≢◌, ◌<◌, ◌≤◌, ◌⊎◌, ◌*◌, length, arith, sym, ◌∙◌, inl, inr}
use Rattle.std.specs.Prelude.{◌==◌, ◌||◌, nat_lt, nat_le}
use Rattle.std.proofs.lemmas.Bool.{le-leb, lt-leb, eq-eqb}
use Rattle.metis_reader.specs.Profile.{value, not_a_number}
use Rattle.metis_reader.specs.Machine.{vertex}
use Rattle.metis_reader.proofs.Faults.{too_many, out_of_range, self_loop, outside, inside, own_vertex, Sizes, sizes}
use Rattle.metis_reader.proofs.body.Body.neighbour_fault.Goals as goal
use Rattle.metis_reader.proofs.body.Body.neighbour_fault.Goals.{then-value-eq0-via-then-value-eq0, then-value-eq0-via-else-value-eq0+then-value-from}

pub returns-then-has_all_entries : goal.returns-then-has_all_entries
returns-then-has_all_entries c = λ header done all v shows none same.
    let size : Sizes c.args.self.now header done all = sizes c.args.self.now header done all shows in
    let full : 2 * header.edges ≤ length all = omega arith in
    too_many (not_a_number v) (nat_le (2 * header.edges) (length all)) _ _ none (le-leb _ _ full)

pub returns-then-value-eq0 : goal.returns-then-value-eq0
returns-then-value-eq0 c = λ header done all v shows none same.
    let size : Sizes c.args.self.now header done all = sizes c.args.self.now header done all shows in
    let room : length all < 2 * header.edges = omega (arith, c.if-has_all_entries.ensures) in
    let bad : (value v ≡ 0) ⊎ (header.vertices < value v) =
    elim c.then-value-eq0.branch [ then-value-eq0-via-then-value-eq0 w ↦ inl (omega arith) | then-value-eq0-via-else-value-eq0+then-value-from w ↦ inr (omega arith) ] in
    out_of_range (not_a_number v) (nat_le (2 * header.edges) (length all)) (value v == 0 || nat_lt header.vertices (value v)) _ none (lt-leb _ _ room) (outside _ _ bad)

pub returns : goal.returns
returns c = λ header done all v shows none same.
    let size : Sizes c.args.self.now header done all = sizes c.args.self.now header done all shows in
    let room : length all < 2 * header.edges = omega (arith, c.if-has_all_entries.ensures) in
    let some : value v ≢ 0 = omega arith in
    let within : value v ≤ header.vertices = omega arith in
    let own : value v ≡ vertex done = sym same ∙ own_vertex c.args.self.now header done all c.args.value size (omega arith) (omega arith) (omega (arith, c.if-has_all_entries.ensures)) c.requires in
    self_loop (not_a_number v) (nat_le (2 * header.edges) (length all)) (value v == 0 || nat_lt header.vertices (value v)) (value v == vertex done)
    none (lt-leb _ _ room) (inside _ _ some within) (eq-eqb _ _ own)
