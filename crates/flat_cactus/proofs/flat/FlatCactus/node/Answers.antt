use Rattle.std.proofs.Common.{◌∙◌, ◌<◌, ◌+◌, ℕ, List, ap, sym, length, arith}
use Rattle.std.specs.Prelude.{Some, slice_get, slice_range}
use Rattle.flat_cactus.specs.Flat.{Flat, start_of}
use Rattle.flat_cactus.proofs.Flats.{cut_get, cut_length}
use Rattle.flat_cactus.proofs.flat.FlatCactus.node.Goals as goal

pub list_at-requires-clause-number : goal.list_at-requires-clause-number
list_at-requires-clause-number c =
    let starts = c.self.inside.node_starts.items in
    let count = ap (λ (f : Flat). length f.nodes) c.self.view_is in
    omega (arith, count, cut_length starts c.self.inside.vertices.items, ap (length {A = ℕ}) c.deref-2.ensures.value)

pub returns : goal.returns
returns c =
    let starts = c.self.inside.node_starts.items in
    let items = c.self.inside.vertices.items in
    let i = c.args.i in
    let part = λ (s l : List ℕ). slice_range l (start_of s (length l) i) (start_of s (length l) (i + 1)) in
    let count = ap (λ (f : Flat). length f.nodes) c.self.view_is in
    let inside : i < length starts = omega (arith, count, cut_length starts items) in
    ap (λ (f : Flat). slice_get f.nodes i) (sym c.self.view_is)
    ∙ cut_get starts items i inside
    ∙ ap Some (ap (λ (s : List ℕ). part s items) (sym c.deref-2.ensures.value) ∙ ap (part c.deref-2.result.now) (sym c.deref.ensures.value) ∙ sym c.list_at.ensures)
