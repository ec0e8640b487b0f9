use Rattle.std.proofs.Common.{◌≤◌, ℕ, List, [], ◌∷◌, get_or, sym, subst, arith}
use Rattle.certified_growth.specs.Turns.{AreTold, AreTurns, IsNext}
use Rattle.certified_growth.proofs.Pairing.{next_pair}
use Rattle.certified_growth.proofs.growing.Growing.enter_pair.Goals as goal

pub enter-requires-clause-next : goal.enter-requires-clause-next
enter-requires-clause-next c =
    let g = c.args.graph.now in
    let s = c.args.self.now in
    let t = c.args.t in
    let rule = c.args.rule in
    let owners = c.args.owners.now in
    let h = c.requires.growing in
    let f = c.shows_pair.new.flow in
    let shown = c.in_ok-shows_pair.ensures.shown c.if-not-branch.false in
    let outside : 1 ≤ get_or s.flow.labels t 0 = omega arith in
    let may = c.requires.may shown.some in
    let are = subst (λ (k : ℕ). AreTurns g rule.least owners s.own s.turns.items [] k) c.requires.begun
    (subst (λ (xs : List ℕ). AreTurns g rule.least owners s.own s.turns.items xs s.count) c.requires.none h.turns) in
    let told = subst (λ (ls : List ℕ). AreTold g.vertices ls s.turns.items) (sym c.shows_pair.ensures.labels) h.told in
    let still = subst (λ (ls : List ℕ). 1 ≤ get_or ls t 0) (sym c.shows_pair.ensures.labels) outside in
    let next = next_pair g rule.least rule.leaf_weight owners s.own s.root t f s.turns.items are told h.root_first h.root_to_n c.requires.to_n still shown
    c.n-n.ensures.edge_list.is_graph c.requires.connected may.0 may.1 in
    subst (λ (k : ℕ). IsNext g rule.least s.turns.items s.leaves.items (s.root ∷ t ∷ []) k t) (sym c.requires.begun)
    (subst (λ (xs : List ℕ). IsNext g rule.least s.turns.items xs (s.root ∷ t ∷ []) 1 t) (sym c.requires.none) next)
