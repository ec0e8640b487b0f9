use Rattle.std.proofs.Common.{◌≡◌, ◌+◌, ◌-◌, ◌*◌, ◌^◌, ◌<◌, ◌≤◌, ℕ, List, Bool, true, false, length, get_or, min, refl, sym, ◌∙◌, ap, subst, arith}
use Rattle.cut_definitions.specs.Balance.{mass, IsBest}
use Rattle.cut_definitions.proofs.Results.{if_ok_more}
use Rattle.vertex_set.specs.Side.{VertexList, listed}
use Rattle.component_cuts.specs.Parts.{Parts, part_at, divided, unions}
use Rattle.component_cuts.specs.Doubling.{chosen_vertices}
use Rattle.component_cuts.specs.Sums.{has_sum, mass_of_number, sum_of_rows, AreRows}
use Rattle.component_cuts.proofs.Divided.{length_divided}
use Rattle.component_cuts.proofs.Rows.{sums_made, sum_none, few_sums, few_places}
use Rattle.component_cuts.proofs.Best.{AreSums, best_second, best_chosen}
use Rattle.component_cuts.proofs.components.Components.best_within.Goals as goal

-- ---- the sums are one more than the parts, and the rows one less

some_rows : {long count parts : ℕ} → long ≡ count + 1 → count ≡ parts → 2 ≤ parts → 3 ≤ long
some_rows {long} {count} {parts} a b two = omega arith

few_rows : {long count n : ℕ} → long ≡ count + 1 → count ≤ n → n ≤ 4194304 → long < 2 ^ 32
few_rows {long} {count} {n} a b few = omega arith

as_many : {long count parts : ℕ} → long ≡ count + 1 → count ≡ parts → long - 1 ≡ parts
as_many {long} {count} {parts} a b = omega arith

one_less : {long : ℕ} → (count : ℕ) → long ≡ count + 1 → long - 2 ≡ count - 1
one_less {long} count a = omega arith

next_row : {long count parts : ℕ} → long ≡ count + 1 → count ≡ parts → 2 ≤ parts → long - 2 + 1 ≡ parts
next_row {long} {count} {parts} a b two = omega arith

at_most : {a b : ℕ} → a ≡ b → b ≤ a
at_most {a} {b} e = omega arith

wide : (total : ℕ) → 1 ≤ total + 1
wide total = omega arith

pub mass_by_number-requires-clause-long : goal.mass_by_number-requires-clause-long
mass_by_number-requires-clause-long c =
    omega (arith, ap (λ (xs : List ℕ). length xs) c.deref.ensures.value, c.self.invariant.long, c.requires.weights, ap (λ (p : Parts). p.vertices) c.self.view_is)

pub mass_by_number-requires-clause-within : goal.mass_by_number-requires-clause-within
mass_by_number-requires-clause-within c = subst (λ (xs : List ℕ). (v : ℕ) → get_or xs v 0 ≤ c.self.inside.count) (sym c.deref.ensures.value) c.self.invariant.to_count

pub mass_by_number-requires-clause-small : goal.mass_by_number-requires-clause-small
mass_by_number-requires-clause-small c = omega (arith, few_sums (length c.args.self.now.parts) (mass c.args.weights.now (λ v. true)) c.requires.two c.requires.small)

pub overflow_add-width : goal.overflow_add-width
overflow_add-width c = omega (arith, few_sums (length c.args.self.now.parts) (mass c.args.weights.now (λ v. true)) c.requires.two c.requires.small, c.requires.total)

pub fill_rows-requires-clause-some : goal.fill_rows-requires-clause-some
fill_rows-requires-clause-some c =
    let long : length c.deref-2.result.now ≡ c.self.inside.count + 1 = ap (λ (xs : List ℕ). length xs) c.deref-2.ensures.value ∙ c.in_ok-sums.ensures.long in
    let parts : c.self.inside.count ≡ length c.args.self.now.parts = sym (length_divided c.self.inside.n c.self.inside.count c.self.inside.part_of.items) ∙ ap (λ (p : Parts). length p.parts) c.self.view_is in
    some_rows long parts c.requires.two

pub fill_rows-requires-clause-count : goal.fill_rows-requires-clause-count
fill_rows-requires-clause-count c =
    let long : length c.deref-2.result.now ≡ c.self.inside.count + 1 = ap (λ (xs : List ℕ). length xs) c.deref-2.ensures.value ∙ c.in_ok-sums.ensures.long in
    few_rows long c.self.invariant.few_numbers c.self.invariant.few

pub fill_rows-requires-clause-few : goal.fill_rows-requires-clause-few
fill_rows-requires-clause-few c =
    let long : length c.deref-2.result.now ≡ c.self.inside.count + 1 = ap (λ (xs : List ℕ). length xs) c.deref-2.ensures.value ∙ c.in_ok-sums.ensures.long in
    let parts : c.self.inside.count ≡ length c.args.self.now.parts = sym (length_divided c.self.inside.n c.self.inside.count c.self.inside.part_of.items) ∙ ap (λ (p : Parts). length p.parts) c.self.view_is in
    subst (λ (k : ℕ). k * (c.args.total + 1) ≤ 2 ^ 32) (sym (as_many long parts)) (subst (λ (t : ℕ). length c.args.self.now.parts * (t + 1) ≤ 2 ^ 32) (sym c.requires.total) c.requires.small)

pub best_sum-sum-requires-clause-none : goal.best_sum-sum-requires-clause-none
best_sum-sum-requires-clause-none c =
    let s = c.self.inside in
    let now = c.deref-2.result.now in
    let table = c.in_ok-table.table in
    let width = c.args.total + 1 in
    let long : length now ≡ s.count + 1 = ap (λ (xs : List ℕ). length xs) c.deref-2.ensures.value ∙ c.in_ok-sums.ensures.long in
    let rows_is : length now - 2 ≡ s.count - 1 = one_less s.count long in
    let rows = subst (λ (k : ℕ). AreRows now width k table) rows_is c.in_ok-table.ensures.rows in
    let none : sum_of_rows now (λ i. false) (s.count - 1) ≡ 0 = sum_none now (λ i. false) (s.count - 1) (λ i. refl) in
    subst (λ (k : ℕ). has_sum table width (s.count - 1) k ≡ true) none (sums_made now width (s.count - 1) table rows (λ i. false) (s.count - 1) (omega arith) (omega arith))

pub best_sum-sum-requires-clause-row : goal.best_sum-sum-requires-clause-row
best_sum-sum-requires-clause-row c =
    let long : length c.deref-2.result.now ≡ c.self.inside.count + 1 = ap (λ (xs : List ℕ). length xs) c.deref-2.ensures.value ∙ c.in_ok-sums.ensures.long in
    subst (λ (k : ℕ). k * (c.args.total + 1) ≤ c.in_ok-table.table.vertices) (one_less c.self.inside.count long) (at_most c.in_ok-table.ensures.vertices)

pub best_sum-sum-requires-clause-few : goal.best_sum-sum-requires-clause-few
best_sum-sum-requires-clause-few c =
    let long : length c.deref-2.result.now ≡ c.self.inside.count + 1 = ap (λ (xs : List ℕ). length xs) c.deref-2.ensures.value ∙ c.in_ok-sums.ensures.long in
    let parts : c.self.inside.count ≡ length c.args.self.now.parts = sym (length_divided c.self.inside.n c.self.inside.count c.self.inside.part_of.items) ∙ ap (λ (p : Parts). length p.parts) c.self.view_is in
    few_places (length c.args.self.now.parts) (c.args.total + 1) (length c.deref-2.result.now - 2) c.in_ok-table.table.vertices c.in_ok-table.ensures.vertices (next_row long parts c.requires.two) (wide c.args.total)
    (subst (λ (t : ℕ). length c.args.self.now.parts * (t + 1) ≤ 2 ^ 32) (sym c.requires.total) c.requires.small)

pub choose-requires-clause-few : goal.choose-requires-clause-few
choose-requires-clause-few c =
    let long : length c.deref-2.result.now ≡ c.self.inside.count + 1 = ap (λ (xs : List ℕ). length xs) c.deref-2.ensures.value ∙ c.in_ok-sums.ensures.long in
    let parts : c.self.inside.count ≡ length c.args.self.now.parts = sym (length_divided c.self.inside.n c.self.inside.count c.self.inside.part_of.items) ∙ ap (λ (p : Parts). length p.parts) c.self.view_is in
    few_places (length c.args.self.now.parts) (c.args.total + 1) (length c.deref-2.result.now - 2) c.in_ok-table.table.vertices c.in_ok-table.ensures.vertices (next_row long parts c.requires.two) (wide c.args.total)
    (subst (λ (t : ℕ). length c.args.self.now.parts * (t + 1) ≤ 2 ^ 32) (sym c.requires.total) c.requires.small)

pub choose-requires-clause-vertices : goal.choose-requires-clause-vertices
choose-requires-clause-vertices c =
    let same : length c.deref-2.result.now - 2 ≡ length c.deref-3.result.now - 2 = ap (λ (xs : List ℕ). length xs - 2) (c.deref-2.ensures.value ∙ sym c.deref-3.ensures.value) in
    subst (λ (k : ℕ). k * (c.args.total + 1) ≤ c.in_ok-table.table.vertices) same (at_most c.in_ok-table.ensures.vertices)

pub choose-requires-clause-sum : goal.choose-requires-clause-sum
choose-requires-clause-sum c = c.best_sum-sum.ensures.within

pub choose-requires-clause-made : goal.choose-requires-clause-made
choose-requires-clause-made c =
    let long : length c.deref-3.result.now ≡ c.self.inside.count + 1 = ap (λ (xs : List ℕ). length xs) c.deref-3.ensures.value ∙ c.in_ok-sums.ensures.long in
    subst (λ (k : ℕ). has_sum c.in_ok-table.table (c.args.total + 1) k c.best_sum-sum.result ≡ true) (sym (one_less c.self.inside.count long)) c.best_sum-sum.ensures.made

pub choose-requires-clause-rows : goal.choose-requires-clause-rows
choose-requires-clause-rows c =
    subst (λ (xs : List ℕ). AreRows xs (c.args.total + 1) (length xs - 2) c.in_ok-table.table) (c.deref-2.ensures.value ∙ sym c.deref-3.ensures.value) c.in_ok-table.ensures.rows

pub chosen_side-requires-clause-long : goal.chosen_side-requires-clause-long
chosen_side-requires-clause-long c =
    ap (λ (xs : List ℕ). length xs) c.deref-4.ensures.value ∙ c.self.invariant.long

pub chosen_side-requires-clause-within : goal.chosen_side-requires-clause-within
chosen_side-requires-clause-within c v =
    let at = ap (λ (xs : List ℕ). get_or xs v 0) c.deref-4.ensures.value in
    omega (
      arith,
      at,
      c.self.invariant.to_count v,
      ap (λ (xs : List Bool). length xs) c.deref-5.ensures.value,
      c.in_ok-chosen.ensures.long,
      ap (λ (xs : List ℕ). length xs) c.deref-3.ensures.value,
      c.in_ok-sums.ensures.long,
    )

pub part_side-requires : goal.part_side-requires
part_side-requires c = (omega arith, c.requires.two)

pub returns-then-min-eq0-clause-over_n : goal.returns-then-min-eq0-clause-over_n
returns-then-min-eq0-clause-over_n c =
    if_ok_more (λ (t : VertexList). t ≡ record { vertices = c.args.self.now.vertices; members = part_at c.args.self.now 2 }) (λ (t : VertexList). t.vertices ≡ c.args.self.now.vertices) c.part_side.result
    (λ t e. ap (λ (s : VertexList). s.vertices) e) c.part_side.ensures

pub returns-clause-over_n : goal.returns-clause-over_n
returns-clause-over_n c =
    if_ok_more (λ (t : VertexList). t ≡ listed c.self.inside.n (chosen_vertices c.deref-4.result.now c.deref-5.result.now)) (λ (t : VertexList). t.vertices ≡ c.args.self.now.vertices) c.chosen_side.result
    (λ t e. ap (λ (s : VertexList). s.vertices) e ∙ ap (λ (p : Parts). p.vertices) c.self.view_is) c.chosen_side.ensures

pub returns-then-min-eq0-clause-best : goal.returns-then-min-eq0-clause-best
returns-then-min-eq0-clause-best c =
    let s = c.self.inside in
    let masses = c.args.weights.now in
    let part_of = s.part_of.items in
    let sums = c.in_ok-sums.sums.items in
    let table = c.in_ok-table.table in
    let width = c.args.total + 1 in
    let sum = c.best_sum-sum.result in
    let p = divided s.n s.count part_of in
    let long : length masses ≡ s.n = c.requires.weights ∙ ap (λ (q : Parts). q.vertices) (sym c.self.view_is) in
    let parts : s.count ≡ length c.args.self.now.parts = sym (length_divided c.self.inside.n c.self.inside.count c.self.inside.part_of.items) ∙ ap (λ (p : Parts). length p.parts) c.self.view_is in
    let two : 2 ≤ s.count = subst (λ (k : ℕ). 2 ≤ k) (sym parts) c.requires.two in
    let are : AreSums masses part_of s.count sums = record { each = λ i le. c.in_ok-sums.ensures.each i le ∙ ap (λ (xs : List ℕ). mass_of_number masses xs i) c.deref.ensures.value } in
    let rows_is : length sums - 2 ≡ s.count - 1 = one_less s.count c.in_ok-sums.ensures.long in
    let rows = subst (λ (k : ℕ). AreRows sums width k table) rows_is (subst (λ (xs : List ℕ). AreRows xs width (length xs - 2) table) c.deref-2.ensures.value c.in_ok-table.ensures.rows) in
    let width_is : width ≡ mass masses (λ v. true) + 1 = ap (λ (k : ℕ). k + 1) c.requires.total in
    let none : min sum (mass masses (λ v. true) - sum) ≡ 0 = omega (arith, c.min.ensures, c.if-min-eq0.true, c.requires.total) in
    let best = best_second s.n s.count part_of masses sums table width sum c.self.invariant long are two width_is rows c.best_sum-sum.ensures none in
    let best_self = subst (λ (q : Parts). IsBest masses (unions q) (part_at q 2)) c.self.view_is best in
    if_ok_more (λ (t : VertexList). t ≡ record { vertices = c.args.self.now.vertices; members = part_at c.args.self.now 2 }) (λ (t : VertexList). IsBest masses (unions c.args.self.now) t.members) c.part_side.result
    (λ t e. subst (λ (xs : List ℕ). IsBest masses (unions c.args.self.now) xs) (ap (λ (x : VertexList). x.members) (sym e)) best_self) c.part_side.ensures

pub returns-clause-best : goal.returns-clause-best
returns-clause-best c =
    let s = c.self.inside in
    let masses = c.args.weights.now in
    let part_of = s.part_of.items in
    let sums = c.in_ok-sums.sums.items in
    let table = c.in_ok-table.table in
    let width = c.args.total + 1 in
    let sum = c.best_sum-sum.result in
    let p = divided s.n s.count part_of in
    let long : length masses ≡ s.n = c.requires.weights ∙ ap (λ (q : Parts). q.vertices) (sym c.self.view_is) in
    let parts : s.count ≡ length c.args.self.now.parts = sym (length_divided c.self.inside.n c.self.inside.count c.self.inside.part_of.items) ∙ ap (λ (p : Parts). length p.parts) c.self.view_is in
    let two : 2 ≤ s.count = subst (λ (k : ℕ). 2 ≤ k) (sym parts) c.requires.two in
    let are : AreSums masses part_of s.count sums = record { each = λ i le. c.in_ok-sums.ensures.each i le ∙ ap (λ (xs : List ℕ). mass_of_number masses xs i) c.deref.ensures.value } in
    let rows_is : length sums - 2 ≡ s.count - 1 = one_less s.count c.in_ok-sums.ensures.long in
    let rows = subst (λ (k : ℕ). AreRows sums width k table) rows_is (subst (λ (xs : List ℕ). AreRows xs width (length xs - 2) table) c.deref-2.ensures.value c.in_ok-table.ensures.rows) in
    let width_is : width ≡ mass masses (λ v. true) + 1 = ap (λ (k : ℕ). k + 1) c.requires.total in
    let some : 1 ≤ sum = omega (arith, c.min.ensures, c.if-min-eq0.false) in
    let chosen = c.in_ok-chosen.chosen.items in
    let sum_is : sum_of_rows sums (λ i. get_or chosen i false) (s.count - 1) ≡ sum =
    subst (λ (k : ℕ). sum_of_rows sums (λ i. get_or chosen i false) k ≡ sum) rows_is
    (subst (λ (xs : List ℕ). sum_of_rows xs (λ i. get_or chosen i false) (length xs - 2) ≡ sum) c.deref-3.ensures.value c.in_ok-chosen.ensures.sum) in
    let best = best_chosen s.n s.count part_of masses sums table width sum c.self.invariant long are two width_is rows c.best_sum-sum.ensures some chosen in
    if_ok_more (λ (t : VertexList). t ≡ listed s.n (chosen_vertices c.deref-4.result.now c.deref-5.result.now)) (λ (t : VertexList). IsBest masses (unions c.args.self.now) t.members) c.chosen_side.result
    (λ t e. subst (λ (q : Parts). IsBest masses (unions q) t.members) c.self.view_is
    (best t c.in_ok-chosen.ensures.first sum_is
    (e ∙ (ap (λ (xs : List ℕ). listed s.n (chosen_vertices xs c.deref-5.result.now)) c.deref-4.ensures.value ∙ ap (λ (xs : List Bool). listed s.n (chosen_vertices part_of xs)) c.deref-5.ensures.value))))
    c.chosen_side.ensures
