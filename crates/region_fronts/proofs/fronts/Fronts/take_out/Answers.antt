-- What is in the list is a vertex, and is left in it elsewhere.
use Rattle.std.proofs.Common.{ℕ, ◌<◌, List, length, set, arith, sym, ◌∙◌, subst, ap}
use Rattle.std.proofs.lemmas.List.{length-map, get_or_default}
use Rattle.std.specs.Global.{Vec}
use Rattle.region_fronts.specs.Fronts.{FrontsState, IsLaidOut, list_at, lists_of, taken_out}
use Rattle.region_fronts.proofs.FrontLists.{entry_is, entry_within, listed_region, shrunk_is, unset_laid_out, kept_laid_out}
use Rattle.region_fronts.proofs.fronts.Fronts.take_out.Goals as goal

pub index-requires : goal.index-requires
index-requires c =
    let s = c.self.inside in
    let lists = lists_of s.lists.items in
    let l : c.args.place < length (list_at lists c.args.region) = subst (λ (f : FrontsState). c.args.place < length (list_at f.lists c.args.region)) (sym c.self.view_is) c.requires in
    omega (
      arith,
      entry_is s.lists.items c.args.region c.args.place c.index_mut.result.now c.swap_remove-v.result l c.index_mut.ensures.value c.swap_remove-v.ensures.value,
      entry_within s.n lists s.standing.items s.stack.items c.args.region c.args.place c.self.invariant l,
      c.self.invariant.standing_length,
    )

pub index_mut-requires-then-index-region : goal.index_mut-requires-then-index-region
index_mut-requires-then-index-region c =
    let s = c.self.inside in
    let lists = lists_of s.lists.items in
    let l : c.args.place < length (list_at lists c.args.region) = subst (λ (f : FrontsState). c.args.place < length (list_at f.lists c.args.region)) (sym c.self.view_is) c.requires in
    omega (
      arith,
      entry_is s.lists.items c.args.region c.args.place c.index_mut.result.now c.swap_remove-v.result l c.index_mut.ensures.value c.swap_remove-v.ensures.value,
      entry_within s.n lists s.standing.items s.stack.items c.args.region c.args.place c.self.invariant l,
      c.self.invariant.standing_length,
    )

pub invariant_of-self : goal.invariant_of-self
invariant_of-self c =
    let s = c.self.inside in
    let lists = lists_of s.lists.items in
    let l : c.args.place < length (list_at lists c.args.region) = subst (λ (f : FrontsState). c.args.place < length (list_at f.lists c.args.region)) (sym c.self.view_is) c.requires in
    let is = entry_is s.lists.items c.args.region c.args.place c.index_mut.result.now c.swap_remove-v.result l c.index_mut.ensures.value c.swap_remove-v.ensures.value in
    let within : c.args.region < length s.lists.items = omega (arith, listed_region lists c.args.region c.args.place l, length-map s.lists.items (λ (v : Vec ℕ). v.items)) in
    subst (λ (now : List (List ℕ)). IsLaidOut s.n now (set s.standing.items c.swap_remove-v.result 0) s.stack.items)
    (sym (shrunk_is s.lists.items c.args.region c.args.place c.index_mut.result.now c.swap_remove-v.new.self c.swap_remove-v.result within c.index_mut.ensures.value l c.swap_remove-v.ensures.items))
    (unset_laid_out s.n lists s.standing.items s.stack.items c.args.region c.args.place c.swap_remove-v.result c.self.invariant l is)

pub invariant_of-self-else-index-region : goal.invariant_of-self-else-index-region
invariant_of-self-else-index-region c =
    let s = c.self.inside in
    let lists = lists_of s.lists.items in
    let l : c.args.place < length (list_at lists c.args.region) = subst (λ (f : FrontsState). c.args.place < length (list_at f.lists c.args.region)) (sym c.self.view_is) c.requires in
    let is = entry_is s.lists.items c.args.region c.args.place c.index_mut.result.now c.swap_remove-v.result l c.index_mut.ensures.value c.swap_remove-v.ensures.value in
    let within : c.args.region < length s.lists.items = omega (arith, listed_region lists c.args.region c.args.place l, length-map s.lists.items (λ (v : Vec ℕ). v.items)) in
    let to_n : c.swap_remove-v.result < length s.standing.items = omega (
      arith,
      is,
      entry_within s.n lists s.standing.items s.stack.items c.args.region c.args.place c.self.invariant l,
      c.self.invariant.standing_length,
    ) in
    subst (λ (now : List (List ℕ)). IsLaidOut s.n now s.standing.items s.stack.items)
    (sym (shrunk_is s.lists.items c.args.region c.args.place c.index_mut.result.now c.swap_remove-v.new.self c.swap_remove-v.result within c.index_mut.ensures.value l c.swap_remove-v.ensures.items))
    (kept_laid_out s.n lists s.standing.items s.stack.items c.args.region c.args.place c.swap_remove-v.result c.self.invariant l is
    (λ e. c.if-index-region.false (c.index.ensures ∙ get_or_default s.standing.items c.swap_remove-v.result c.index.result.now 0 to_n ∙ e)))

pub returns-then-index-region : goal.returns-then-index-region
returns-then-index-region c =
    let s = c.self.inside in
    let lists = lists_of s.lists.items in
    let l : c.args.place < length (list_at lists c.args.region) = subst (λ (f : FrontsState). c.args.place < length (list_at f.lists c.args.region)) (sym c.self.view_is) c.requires in
    let within : c.args.region < length s.lists.items = omega (arith, listed_region lists c.args.region c.args.place l, length-map s.lists.items (λ (v : Vec ℕ). v.items)) in
    ap (λ (now : List (List ℕ)). let f : FrontsState = record { vertices = s.n; lists = now } in f)
    (shrunk_is s.lists.items c.args.region c.args.place c.index_mut.result.now c.swap_remove-v.new.self c.swap_remove-v.result within c.index_mut.ensures.value l c.swap_remove-v.ensures.items)
    ∙ ap (λ (f : FrontsState). taken_out f c.args.region c.args.place) c.self.view_is

pub returns-else-index-region : goal.returns-else-index-region
returns-else-index-region c =
    let s = c.self.inside in
    let lists = lists_of s.lists.items in
    let l : c.args.place < length (list_at lists c.args.region) = subst (λ (f : FrontsState). c.args.place < length (list_at f.lists c.args.region)) (sym c.self.view_is) c.requires in
    let within : c.args.region < length s.lists.items = omega (arith, listed_region lists c.args.region c.args.place l, length-map s.lists.items (λ (v : Vec ℕ). v.items)) in
    ap (λ (now : List (List ℕ)). let f : FrontsState = record { vertices = s.n; lists = now } in f)
    (shrunk_is s.lists.items c.args.region c.args.place c.index_mut.result.now c.swap_remove-v.new.self c.swap_remove-v.result within c.index_mut.ensures.value l c.swap_remove-v.ensures.items)
    ∙ ap (λ (f : FrontsState). taken_out f c.args.region c.args.place) c.self.view_is
