-- The label is on the stack, and the vertex in its list.
use Rattle.std.proofs.Common.{◌≡◌, ℕ, ◌+◌, ◌<◌, ◌≤◌, List, length, set, arith, sym, subst, ap}
use Rattle.std.specs.List.{Contains}
use Rattle.std.specs.Global.{Vec}
use Rattle.region_fronts.specs.Fronts.{FrontsState, IsLaidOut, list_at, lists_of}
use Rattle.region_fronts.proofs.FrontLists.{topped, on_stack, grown_laid_out, grown_keeps, grown_has}
use Rattle.region_fronts.proofs.fronts.Fronts.put.Goals as goal

pub invariant_of-self : goal.invariant_of-self
invariant_of-self c =
    let s = c.self.inside in
    topped s.n (lists_of s.lists.items) s.standing.items s.stack.items c.put_on_top.new.stack.items c.args.region c.self.invariant
    (omega (arith, ap (λ (f : FrontsState). f.vertices) c.self.view_is, c.requires.region)) c.put_on_top.ensures.kept c.put_on_top.ensures.no_other

pub invariant_of-self-in_err-append : goal.invariant_of-self-in_err-append
invariant_of-self-in_err-append c =
    let s = c.self.inside in
    subst (λ (lists : List (List ℕ)). IsLaidOut s.n lists s.standing.items c.put_on_top.new.stack.items) (sym c.in_err-append.ensures.err)
    (topped s.n (lists_of s.lists.items) s.standing.items s.stack.items c.put_on_top.new.stack.items c.args.region c.self.invariant
    (omega (arith, ap (λ (f : FrontsState). f.vertices) c.self.view_is, c.requires.region)) c.put_on_top.ensures.kept c.put_on_top.ensures.no_other)

pub returns-in_err-append-clause-kept : goal.returns-in_err-append-clause-kept
returns-in_err-append-clause-kept c = λ r u h.
    subst (λ (lists : List (List ℕ)). Contains (list_at lists r) u) (sym c.in_err-append.ensures.err)
    (subst (λ (f : FrontsState). Contains (list_at f.lists r) u) (sym c.self.view_is) h)

pub invariant_of-self-2 : goal.invariant_of-self-2
invariant_of-self-2 c =
    let s = c.self.inside in
    let lists = lists_of s.lists.items in
    let stack = c.put_on_top.new.stack.items in
    let same = ap (λ (f : FrontsState). f.vertices) c.self.view_is in
    let within : c.args.region ≤ s.n + 1 = omega (arith, same, c.requires.region) in
    let before = topped s.n lists s.standing.items s.stack.items stack c.args.region c.self.invariant within c.put_on_top.ensures.kept c.put_on_top.ensures.no_other in
    let there = on_stack s.n lists s.standing.items s.stack.items stack c.args.region c.self.invariant c.put_on_top.ensures.kept
    (subst (λ (ls : List (Vec ℕ)). length (list_at (lists_of ls) c.args.region) ≡ 0 → Contains stack c.args.region) c.as_slice.ensures.value c.in_ok-put_on_top.ensures.there) in
    subst (λ (now : List (List ℕ)). IsLaidOut s.n now (set s.standing.items c.args.v c.args.region) stack) (sym c.in_ok-append.ensures.ok)
    (grown_laid_out s.n lists s.standing.items stack c.args.region c.args.v before within (omega (arith, same, c.requires.to_n)) there)

pub returns-clause-kept : goal.returns-clause-kept
returns-clause-kept c = λ r u h.
    let s = c.self.inside in
    let lists = lists_of s.lists.items in
    let same = ap (λ (f : FrontsState). f.vertices) c.self.view_is in
    let within : c.args.region < length lists = omega (arith, same, c.requires.region, c.self.invariant.lists_length) in
    subst (λ (now : List (List ℕ)). Contains (list_at now r) u) (sym c.in_ok-append.ensures.ok)
    (grown_keeps lists c.args.region c.args.v within r u (subst (λ (f : FrontsState). Contains (list_at f.lists r) u) (sym c.self.view_is) h))

pub returns-clause-there : goal.returns-clause-there
returns-clause-there c =
    let s = c.self.inside in
    let lists = lists_of s.lists.items in
    let same = ap (λ (f : FrontsState). f.vertices) c.self.view_is in
    let within : c.args.region < length lists = omega (arith, same, c.requires.region, c.self.invariant.lists_length) in
    subst (λ (now : List (List ℕ)). Contains (list_at now c.args.region) c.args.v) (sym c.in_ok-append.ensures.ok) (grown_has lists c.args.region c.args.v within)
