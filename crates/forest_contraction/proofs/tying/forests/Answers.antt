-- What the classes respect is what the labels do.
use Rattle.std.proofs.Common.{ℕ, ◌≡◌, ◌+◌, ◌<◌, ◌∙◌, List, get_or, length, subst, sym, ap, arith}
use Rattle.vertex_classes.specs.Classes.{AreNumbersOf}
use Rattle.forest_contraction.specs.Forests.{level, AreKindsTied, AreOver, AreTied, JoinsHeavy}
use Rattle.forest_contraction.proofs.Levels.{written_back}
use Rattle.forest_contraction.proofs.Tied.{labels_tied}
use Rattle.forest_contraction.proofs.tying.forests.Goals as goal

pub tie_edges-requires-clause-bare : goal.tie_edges-requires-clause-bare
tie_edges-requires-clause-bare c =
    rw c.deref_mut.ensures.value (λ l h. c.in_ok-levels.ensures.alone l (omega (arith, c.in_ok-levels.ensures.count)))

pub tie_edges-requires-clause-alone : goal.tie_edges-requires-clause-alone
tie_edges-requires-clause-alone c =
    rw c.deref_mut-2.ensures.value (λ l h. c.in_ok-tied.ensures.alone l (omega (arith, c.in_ok-tied.ensures.count)))

pub returns-clause-at : goal.returns-clause-at
returns-clause-at c =
    let g = c.args.list.now in
    let so = c.tie_edges in
    let long : length so.new.tied ≡ c.args.kinds = omega (arith, so.ensures.kinds, c.deref_mut-2.ensures.len, c.in_ok-tied.tied.ok.0, c.in_ok-tied.ensures.count) in
    let whole : c.deref.result.now ≡ so.new.tied = c.deref.ensures.value ∙ written_back c.in_ok-tied.tied.items so.new.tied c.in_ok-tied.tied.len (omega (arith, long, c.in_ok-tied.tied.ok.0, c.in_ok-tied.ensures.count)) in
    let first : length (level c.in_ok-tied.tied.items 0) ≡ g.vertices + 1 = omega (arith, c.in_ok-tied.ensures.over 0 (omega (arith, c.in_ok-tied.ensures.count, c.requires.kinds.0)), c.n-n.ensures.value) in
    let over : AreOver (g.vertices + 1) so.new.tied = λ k lk. so.ensures.over k lk ∙ (ap (λ (xs : List (List ℕ)). length (level xs 0)) c.deref_mut-2.ensures.value ∙ first) in
    let tied : AreKindsTied g.edges c.args.bound so.new.tied = rw (← c.edges.ensures.value) so.ensures.tied in
    let some : 0 < length so.new.tied = omega (arith, long, c.requires.kinds.0) in
    let none : c.args.bound + 0 ≡ c.args.bound = omega arith in
    let numbers : AreNumbersOf (level so.new.tied 0) c.in_ok-found.found.at = subst (λ (xs : List (List ℕ)). AreNumbersOf (level xs 0) c.in_ok-found.found.at) whole c.in_ok-found.ensures.at in
    labels_tied g c.args.bound (level so.new.tied 0) c.in_ok-found.found.at (over 0 some) numbers (subst (λ (b : ℕ). AreTied g.edges b (level so.new.tied 0)) none (tied 0 some))

pub returns-clause-above : goal.returns-clause-above
returns-clause-above c =
    let g = c.args.list.now in
    let so = c.tie_edges in
    let long : length so.new.tied ≡ c.args.kinds = omega (arith, so.ensures.kinds, c.deref_mut-2.ensures.len, c.in_ok-tied.tied.ok.0, c.in_ok-tied.ensures.count) in
    let whole : c.deref.result.now ≡ so.new.tied = c.deref.ensures.value ∙ written_back c.in_ok-tied.tied.items so.new.tied c.in_ok-tied.tied.len (omega (arith, long, c.in_ok-tied.tied.ok.0, c.in_ok-tied.ensures.count)) in
    let first : length (level c.in_ok-tied.tied.items 0) ≡ g.vertices + 1 = omega (arith, c.in_ok-tied.ensures.over 0 (omega (arith, c.in_ok-tied.ensures.count, c.requires.kinds.0)), c.n-n.ensures.value) in
    let over : AreOver (g.vertices + 1) so.new.tied = λ k lk. so.ensures.over k lk ∙ (ap (λ (xs : List (List ℕ)). length (level xs 0)) c.deref_mut-2.ensures.value ∙ first) in
    let tied : AreKindsTied g.edges c.args.bound so.new.tied = rw (← c.edges.ensures.value) so.ensures.tied in
    c.in_ok-found.ensures.above g (subst (AreOver (g.vertices + 1)) (sym whole) over) (subst (AreKindsTied g.edges c.args.bound) (sym whole) tied)

pub returns-clause-heavy : goal.returns-clause-heavy
returns-clause-heavy c = λ one k d l le.
    let g = c.args.list.now in
    let so = c.tie_edges in
    let long : length so.new.tied ≡ c.args.kinds = omega (arith, so.ensures.kinds, c.deref_mut-2.ensures.len, c.in_ok-tied.tied.ok.0, c.in_ok-tied.ensures.count) in
    let whole : c.deref.result.now ≡ so.new.tied = c.deref.ensures.value ∙ written_back c.in_ok-tied.tied.items so.new.tied c.in_ok-tied.tied.len (omega (arith, long, c.in_ok-tied.tied.ok.0, c.in_ok-tied.ensures.count)) in
    let first : length (level c.in_ok-tied.tied.items 0) ≡ g.vertices + 1 = omega (arith, c.in_ok-tied.ensures.over 0 (omega (arith, c.in_ok-tied.ensures.count, c.requires.kinds.0)), c.n-n.ensures.value) in
    let over : AreOver (g.vertices + 1) so.new.tied = λ k lk. so.ensures.over k lk ∙ (ap (λ (xs : List (List ℕ)). length (level xs 0)) c.deref_mut-2.ensures.value ∙ first) in
    let some : 0 < length so.new.tied = omega (arith, long, c.requires.kinds.0) in
    let none : c.args.bound + 0 ≡ c.args.bound = omega arith in
    let numbers : AreNumbersOf (level so.new.tied 0) c.in_ok-found.found.at = subst (λ (xs : List (List ℕ)). AreNumbersOf (level xs 0) c.in_ok-found.found.at) whole c.in_ok-found.ensures.at in
    let ends = c.n-n.ensures.edge_list.is_graph.in_range k d l in
    let e = get_or g.edges k d in
    let heavy : JoinsHeavy g.edges (c.args.bound + 0) (level so.new.tied 0) = rw (← c.edges.ensures.value) (so.ensures.heavy 0 (omega (arith, one, long, so.ensures.kinds))) in
    (numbers.joined e.u e.v ends.0 (omega (arith, over 0 some, ends.1, ends.2)) (omega (arith, ends.0, ends.1)) (omega (arith, over 0 some, ends.2))).1 (heavy k d l (omega (arith, le)))
