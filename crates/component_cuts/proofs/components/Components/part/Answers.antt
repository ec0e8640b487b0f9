use Rattle.std.proofs.Common.{ℕ, ◌≤◌, ◌≡◌, true, length, get_or, ap, sym, subst, arith}
use Rattle.std.proofs.lemmas.List.{get_or_read}
use Rattle.cut_definitions.specs.Cuts.{has}
use Rattle.component_cuts.specs.Parts.{Parts, part_at, divided}
use Rattle.component_cuts.proofs.Divided.{to_part}
use Rattle.component_cuts.proofs.components.Components.part.Goals as goal

pub returns-clause-to_len : goal.returns-clause-to_len
returns-clause-to_len c =
    let s = c.self.inside in
    let v = c.args.v in
    let to : v ≤ s.n = omega (arith, c.requires.to_n, ap (λ (p : Parts). p.vertices) c.self.view_is) in
    let read = get_or_read s.part_of.items v c.index.result.now (omega (arith, c.self.invariant.long)) c.index.ensures 0 in
    let at = to_part s.n s.count s.part_of.items v c.self.invariant c.requires.from_one to in
    subst (λ (p : Parts). c.index.result.now ≤ length p.parts) c.self.view_is (omega (arith, read, at.0.1))

pub returns-clause-member : goal.returns-clause-member
returns-clause-member c =
    let s = c.self.inside in
    let v = c.args.v in
    let to : v ≤ s.n = omega (arith, c.requires.to_n, ap (λ (p : Parts). p.vertices) c.self.view_is) in
    let read : c.index.result.now ≡ get_or s.part_of.items v 0 = get_or_read s.part_of.items v c.index.result.now (omega (arith, c.self.invariant.long)) c.index.ensures 0 in
    let at = to_part s.n s.count s.part_of.items v c.self.invariant c.requires.from_one to in
    subst (λ (p : Parts). has (part_at p c.index.result.now) v ≡ true) c.self.view_is
    (let P : ℕ → Type 0 = λ i. has (part_at (divided s.n s.count s.part_of.items) i) v ≡ true in subst P (sym read) at.1)
