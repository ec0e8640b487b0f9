use Rattle.std.proofs.Common.{◌≡◌, ℕ, ◌+◌, ◌-◌, ◌<◌, List, [], ◌∷◌, ◌++◌, length, get_or, sym, ◌∙◌, ap, subst, arith}
use Rattle.std.proofs.lemmas.List.{append_assoc, length-append}
use Rattle.std.specs.Vec.Iter.{into_iter_items}
use Rattle.rooted_cactus.specs.Trees.{nodes_in}
use Rattle.rooted_cactus.specs.declared.tree.Node.{Node}
use Rattle.cactus_merge.specs.declared.part.PartCactus.{PartCactus}
use Rattle.cactus_merge.specs.Assembled.{IsPartOf, IsNodeOf}
use Rattle.cactus_merge.proofs.Pushed.{next_part, pushed, none_left}
use Rattle.cactus_merge.proofs.part.part_nodes.Goals as goal

pub part_node-requires-clause-part : goal.part_node-requires-clause-part
part_node-requires-clause-part c =
    let chain = c.args.chain.now in
    let taken = c.each.yielded in
    let p = c.in-Some.part in
    let here : get_or c.args.parts.items (length taken) p ≡ p = next_part c.args.parts.items taken _ _ p p c.each.invariant.whole c.in-Some.ensures.steps.0 in
    let some : length taken < chain.parts = omega (arith, c.each.invariant.waiting, c.in-Some.ensures.steps.1, c.requires.parts.as_many) in
    let number : length taken + 1 ≡ c.parts-count.result - (c.each.left - 1) = omega (arith, c.each.invariant.left, some, c.parts-count.ensures.value) in
    subst (λ (k : ℕ). IsPartOf chain k p) number (subst (λ (q : PartCactus). IsPartOf chain (length taken + 1) q) here (c.requires.parts.each (length taken) p some))

pub each-preserved : goal.each-preserved
each-preserved c =
    let chain = c.args.chain.now in
    let taken = c.each.yielded in
    let p = c.in-Some.part in
    let x = c.in_ok-node.node in
    let old = nodes_in c.each.nodes in
    let some : length taken < chain.parts = omega (arith, c.each.invariant.waiting, c.in-Some.ensures.steps.1, c.requires.parts.as_many) in
    let number : c.parts-count.result - (c.each.left - 1) ≡ length taken + 1 = omega (arith, c.each.invariant.left, some, c.parts-count.ensures.value) in
    let new : IsNodeOf chain (length taken + 1) p x = subst (λ (k : ℕ). IsNodeOf chain k p x) number c.in_ok-node.ensures in
    let longer : length (taken ++ p ∷ []) ≡ length taken + 1 = length-append taken (p ∷ []) in
    record {
      left = omega (arith, longer, c.each.invariant.left, some, c.parts-count.ensures.value);
      many = ap length c.in_ok-push.ensures.ok ∙ length-append old (x ∷ []) ∙ ap (λ (k : ℕ). k + 1) c.each.invariant.many ∙ sym longer;
      each = λ i q y h. subst (λ (xs : List Node). IsNodeOf chain (i + 1) (get_or (taken ++ p ∷ []) i q) (get_or xs i y)) (sym c.in_ok-push.ensures.ok) (pushed chain taken old p x c.each.invariant.many c.each.invariant.each new i q y h);
      whole = append_assoc taken (p ∷ []) (into_iter_items c.next.new.self) ∙ ap (λ l. taken ++ l) (sym c.in-Some.ensures.steps.0) ∙ c.each.invariant.whole;
      waiting = omega (arith, longer, c.each.invariant.waiting, c.in-Some.ensures.steps.1);
      next = tt;
      finite = tt;
    }

pub returns : goal.returns
returns c =
    let chain = c.args.chain.now in
    let taken = c.each.yielded in
    let all = c.args.parts.items in
    let many : length all ≡ length taken = omega (arith, c.each.invariant.waiting, c.in-None.ensures.steps.0) in
    let same : taken ≡ all = none_left taken _ all c.each.invariant.whole many in
    record {
      as_many = c.each.invariant.many ∙ sym many ∙ c.requires.parts.as_many;
      each = λ i p x h. subst (λ (ps : List PartCactus). IsNodeOf chain (i + 1) (get_or ps i p) (get_or (nodes_in c.each.nodes) i x)) same (c.each.invariant.each i p x (omega (arith, h, many, c.requires.parts.as_many)));
    }
