use Rattle.std.proofs.Common.{◌++◌, ◌∷◌, [], ◌+◌, ◌∙◌, ℕ, Vec, Global, length, drop, get_or, arith, ap, sym, append_assoc, length-append, vec_capacity}
use Rattle.std.proofs.lemmas.List.{append-nil}
use Rattle.cut_definitions.specs.declared.edge_list.Edge.{Edge}
use Rattle.metis_reader.specs.Regions.{entry_at, waiting_from}
use Rattle.metis_reader.proofs.Held.{next_empty, next_some, none_behind}
use Rattle.metis_reader.proofs.waiting.put_back_waiting.Goals as goal
use Rattle.metis_reader.proofs.waiting.put_back_waiting.Goals.{then-number-ne0, else-number-ne0}

pub push_reserved-requires : goal.push_reserved-requires
push_reserved-requires c =
    let o = c.args.owners.now in
    let w = c.args.weights.now in
    let ps = c.args.packed.now in
    let i : ℕ = c.loop-i.i in
    let here = ap length (next_some i o w ps c.loop-i-test.true c.if-number-ne0.true) in
    let all = sym (length-append c.loop-i.lesser.items (waiting_from i o w (drop i ps))) ∙ ap length c.loop-i.invariant.items ∙ length-append c.args.lesser.now.items (waiting_from 0 o w ps) in
    omega (arith, c.requires.room, c.loop-i.invariant.capacity, c.loop-i.lesser.ok.0, here, all)

pub loop-i-preserved : goal.loop-i-preserved
loop-i-preserved c =
    let o = c.args.owners.now in
    let w = c.args.weights.now in
    let ps = c.args.packed.now in
    let i : ℕ = c.loop-i.i in
    let e : Edge = entry_at o w i (get_or ps i 0) in
    let rest = waiting_from (i + 1) o w (drop (i + 1) ps) in
    elim c.if-number-ne0.branch [
      | then-number-ne0 v ↦ record {
        items = ap (λ (l : Vec Edge Global). l.items ++ rest) v.lesser-is ∙ ap (λ xs. xs ++ rest) (v.push_reserved.ensures.items ∙ ap (λ (e : Edge). c.loop-i.lesser.items ++ e ∷ []) v.entry_of.ensures)
            ∙ append_assoc c.loop-i.lesser.items (e ∷ []) rest ∙ ap (λ xs. c.loop-i.lesser.items ++ xs) (sym (next_some i o w ps c.loop-i-test.true v.if-number-ne0.true)) ∙ c.loop-i.invariant.items;
        capacity = ap (λ (l : Vec Edge Global). vec_capacity l) v.lesser-is ∙ v.push_reserved.ensures.capacity ∙ c.loop-i.invariant.capacity;
      }
      | else-number-ne0 v ↦ record {
        items = ap (λ (l : Vec Edge Global). l.items ++ rest) v.lesser-is ∙ ap (λ xs. c.loop-i.lesser.items ++ xs) (sym (next_empty i o w ps c.loop-i-test.true v.if-number-ne0.false)) ∙ c.loop-i.invariant.items;
        capacity = ap (λ (l : Vec Edge Global). vec_capacity l) v.lesser-is ∙ c.loop-i.invariant.capacity;
      }
    ]

pub returns-clause-items : goal.returns-clause-items
returns-clause-items c =
    sym (append-nil c.loop-i.lesser.items) ∙ ap (λ xs. c.loop-i.lesser.items ++ xs) (sym (none_behind c.loop-i.i c.args.owners.now c.args.weights.now c.args.packed.now c.loop-i-test.false)) ∙ c.loop-i.invariant.items
