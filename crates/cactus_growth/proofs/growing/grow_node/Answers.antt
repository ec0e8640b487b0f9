use Rattle.std.proofs.Common.{◌≡◌, take, drop, ◌∙◌, ap, sym, subst}
use Rattle.std.specs.Prelude.{slice_get}
use Rattle.std.proofs.lemmas.List.{take_rest}
use Rattle.cactus_growth.specs.Ways.{IsWay}
use Rattle.cactus_growth.proofs.Stepped.{leads_split, leads_rest, leads_slice, leads_inside, slice_drop}
use Rattle.cactus_growth.proofs.growing.grow_node.Goals as goal

pub descend-requires-clause-way : goal.descend-requires-clause-way
descend-requires-clause-way c =
    let k = c.shared_steps-shared.result in
    let r = leads_split c.args.u c.args.root c.in_ok-u_way.u_way.items k c.in_ok-u_way.ensures in
    (r.0, subst (λ l. IsWay c.args.root (take k l) r.0) (sym c.deref-3.ensures.value) r.1)

pub join-requires-clause-u_way : goal.join-requires-clause-u_way
join-requires-clause-u_way c =
    let k = c.shared_steps-shared.result in
    leads_slice c.args.u c.in_ok-levels.node c.in_ok-u_way.u_way.items c.deref-4.result.now k c.deref-4.ensures.value
    (leads_rest c.args.u c.args.root c.in_ok-levels.node c.in_ok-u_way.u_way.items (take k c.deref-3.result.now) k (ap (take k) c.deref-3.ensures.value) c.in_ok-levels.ensures.way c.in_ok-u_way.ensures)

pub join-requires-clause-v_way : goal.join-requires-clause-v_way
join-requires-clause-v_way c =
    let k = c.shared_steps-shared.result in
    let same : take k c.deref-3.result.now ≡ take k c.in_ok-v_way.v_way.items =
    ap (take k) (c.deref-3.ensures.value ∙ sym c.deref.ensures.value) ∙ c.shared_steps-shared.ensures.same ∙ ap (take k) c.deref-2.ensures.value in
    leads_slice c.args.v c.in_ok-levels.node c.in_ok-v_way.v_way.items c.deref-5.result.now k c.deref-5.ensures.value
    (leads_rest c.args.v c.args.root c.in_ok-levels.node c.in_ok-v_way.v_way.items (take k c.deref-3.result.now) k same c.in_ok-levels.ensures.way c.in_ok-v_way.ensures)

pub join-requires-clause-apart : goal.join-requires-clause-apart
join-requires-clause-apart c = λ s t e f.
    let k = c.shared_steps-shared.result in
    c.shared_steps-shared.ensures.apart s t
    (slice_drop c.deref.result.now k s (ap (λ l. slice_get l 0) (ap (drop k) (c.deref.ensures.value ∙ sym c.deref-4.ensures.value) ∙ sym (take_rest c.deref-4.result.now k)) ∙ e))
    (slice_drop c.deref-2.result.now k t (ap (λ l. slice_get l 0) (ap (drop k) (c.deref-2.ensures.value ∙ sym c.deref-5.ensures.value) ∙ sym (take_rest c.deref-5.result.now k)) ∙ f))

pub returns : goal.returns
returns c =
    let node = c.in_ok-levels.node in
    let k = c.shared_steps-shared.result in
    let u_leads = leads_rest c.args.u c.args.root node c.in_ok-u_way.u_way.items (take k c.deref-3.result.now) k (ap (take k) c.deref-3.ensures.value) c.in_ok-levels.ensures.way c.in_ok-u_way.ensures in
    let same : take k c.deref-3.result.now ≡ take k c.in_ok-v_way.v_way.items =
    ap (take k) (c.deref-3.ensures.value ∙ sym c.deref.ensures.value) ∙ c.shared_steps-shared.ensures.same ∙ ap (take k) c.deref-2.ensures.value in
    let v_leads = leads_rest c.args.v c.args.root node c.in_ok-v_way.v_way.items (take k c.deref-3.result.now) k same c.in_ok-levels.ensures.way c.in_ok-v_way.ensures in
    c.in_ok-node-2.ensures c.args.u c.args.v c.args.root node c.in_ok-levels.ensures.above (leads_inside c.args.u node (drop k c.in_ok-u_way.u_way.items) u_leads) (leads_inside c.args.v node (drop k c.in_ok-v_way.v_way.items) v_leads) c.in_ok-node.ensures
