use Rattle.std.proofs.Common.{◌≡◌, ◌≤◌, ◌<◌, ◌+◌, ◌++◌, ◌∷◌, [], ℕ, suc, true, false, List, length, take, drop, arith, ap, sym, subst, refl, ◌∙◌}
use Rattle.std.specs.Prelude.{sum_by, nat_lt}
use Rattle.std.specs.List.{All, AllPairs}
use Rattle.std.specs.List.Sorted.{IsPermutation}
use Rattle.std.proofs.lemmas.Grind.{common_steps}
use Rattle.std.proofs.lemmas.Bool.Decides.{nat_tests}
use Rattle.std.proofs.lemmas.List.{length_push, take-append-le}
use Rattle.std.proofs.lemmas.List.Elements.{All-push}
use Rattle.std.proofs.lemmas.List.Sorted.{IsPermutation-trans, All-permutation}
use Rattle.cut_definitions.specs.declared.edge_list.Edge.{Edge}
use Rattle.cut_definitions.specs.Graph.{IsEdgeWithin}
use Rattle.metis_reader.specs.Profile.{Entry}
use Rattle.metis_reader.specs.Machine.{vertex}
use Rattle.metis_reader.specs.Bodies.{lesser_of, vertex_of, waiting_of}
use Rattle.metis_reader.specs.Measures.{AreLineWeights, line_weight}
use Rattle.metis_reader.specs.declared.body.Body.{Body}
use Rattle.metis_reader.specs.Meeting.{with_met, IsOfFinished, IsOfNext, IsInFront}
use Rattle.metis_reader.proofs.Degrees.{line_down, line_up}
use Rattle.metis_reader.proofs.Table.{met_pushed, open_pushed, front_pushed, weight_pushed, shows_up, shows_down, grew_taken, grew_pushed, grew_met, one_counted, one_weighed}
use Rattle.metis_reader.proofs.Faults.{Sizes, sizes}
use Rattle.metis_reader.proofs.body.Body.enter.Goals as goal
use Rattle.metis_reader.proofs.body.Body.enter.Goals.{After-push_reserved, Then-take, After-push_reserved-2}

-- An entry to a greater neighbour.

abbrev up_edge : After-push_reserved → Edge
up_edge c = record { u = c.vertex-vertex.result; v = c.args.neighbour; w = c.args.w }

abbrev rest : After-push_reserved → List Edge
rest c = c.args.self.now.lesser.items ++ waiting_of c.args.self.now.waiting

up_items : (c : After-push_reserved) → c.push_reserved.new.self.items ≡ c.args.self.now.greater.items ++ up_edge c ∷ []
up_items c = grind (arith, common_steps)

up_next : (c : After-push_reserved) → IsOfNext (length c.args.self.now.cursors.items) (up_edge c)
up_next c = c.vertex-vertex.ensures ∙ ap (λ n. suc n) (sym c.args.self.now.cursors_of_lines)

up_met : (c : After-push_reserved) → with_met c.push_reserved.new.self.items c.args.self.now.cursors.items (rest c) ≡ with_met c.args.self.now.greater.items c.args.self.now.cursors.items (rest c)
up_met c = ap (λ xs. with_met xs c.args.self.now.cursors.items (rest c)) (up_items c)
    ∙ ap (λ xs. xs ++ rest c) (met_pushed c.args.self.now.cursors.items c.args.self.now.greater.items (up_edge c) (up_next c))

more : (entries g m : ℕ) → entries ≡ g + m → entries + 1 ≡ (g + 1) + m
more entries g m h = omega arith

heavier : (total g m w : ℕ) → total ≡ g + m → total + w ≡ (g + w) + m
heavier total g m w h = omega arith

pub invariant_of-self-clause-counted : goal.invariant_of-self-clause-counted
invariant_of-self-clause-counted c =
    let b = c.args.self.now in
    more b.entries (length b.greater.items) (length (with_met b.greater.items b.cursors.items (rest c))) b.counted
    ∙ ap (λ n. n + length (with_met b.greater.items b.cursors.items (rest c))) (sym (ap length (up_items c) ∙ length_push b.greater.items (up_edge c)))
    ∙ ap (λ xs. length c.push_reserved.new.self.items + length xs) (sym (up_met c))

pub invariant_of-self-clause-finished_rows : goal.invariant_of-self-clause-finished_rows
invariant_of-self-clause-finished_rows c =
    let b = c.args.self.now in
    subst (λ xs. All (IsOfFinished (length b.cursors.items)) (take b.start xs)) (sym (up_items c))
    (front_pushed (length b.cursors.items) b.start b.greater.items (up_edge c) b.start_within b.finished_rows)

pub invariant_of-self-clause-ascending : goal.invariant_of-self-clause-ascending
invariant_of-self-clause-ascending c = λ yes.
    let b = c.args.self.now in
    subst (λ xs. AllPairs IsInFront (take b.start xs)) (sym (up_items c))
    (subst (λ xs. AllPairs IsInFront xs) (sym (take-append-le b.start b.greater.items (up_edge c ∷ []) b.start_within)) (b.ascending yes))

pub invariant_of-self-clause-open_row : goal.invariant_of-self-clause-open_row
invariant_of-self-clause-open_row c =
    let b = c.args.self.now in
    subst (λ xs. All (IsOfNext (length b.cursors.items)) (drop b.start xs)) (sym (up_items c))
    (open_pushed (length b.cursors.items) b.start b.greater.items (up_edge c) b.start_within (up_next c) b.open_row)

pub invariant_of-self-clause-total_is : goal.invariant_of-self-clause-total_is
invariant_of-self-clause-total_is c =
    let b = c.args.self.now in
    let rest : ℕ = sum_by (λ (e : Edge). e.w) (with_met b.greater.items b.cursors.items (rest c)) in
    heavier b.total (sum_by (λ (e : Edge). e.w) b.greater.items) rest c.args.w b.total_is
    ∙ ap (λ n. n + rest) (sym (ap (λ xs. sum_by (λ (e : Edge). e.w) xs) (up_items c) ∙ weight_pushed b.greater.items (up_edge c)))
    ∙ ap (λ xs. sum_by (λ (e : Edge). e.w) c.push_reserved.new.self.items + sum_by (λ (e : Edge). e.w) xs) (sym (up_met c))

pub invariant_of-self-clause-line_weights : goal.invariant_of-self-clause-line_weights
invariant_of-self-clause-line_weights c =
    let b = c.args.self.now in
    line_up (length b.numbers.items) b.least_degree b.before b.total b.greater.items (with_met b.greater.items b.cursors.items (rest c))
    c.push_reserved.new.self.items (with_met c.push_reserved.new.self.items b.cursors.items (rest c)) (up_edge c) c.vertex-vertex.ensures (up_items c) (up_met c) b.line_weights

pub invariant_of-self-clause-greater_within : goal.invariant_of-self-clause-greater_within
invariant_of-self-clause-greater_within c =
    let b = c.args.self.now in
    subst (λ xs. All (IsEdgeWithin b.header.vertices) xs) (sym (up_items c))
    (All-push (IsEdgeWithin b.header.vertices) b.greater.items (up_edge c) b.greater_within
    (let is : c.vertex-vertex.result ≡ suc (length b.numbers.items) = c.vertex-vertex.ensures in omega arith, c.if-vertex-neighbour.true, c.requires.can_enter.to_n, c.requires.positive))

rises : (v n : ℕ) → v < n → nat_lt v n ≡ true
rises v n h = grind (arith, nat_tests)

falls : (v n : ℕ) → n ≤ v → nat_lt v n ≡ false
falls v n h = grind (arith, nat_tests)

pub returns-then-vertex-neighbour-clause-shows : goal.returns-then-vertex-neighbour-clause-shows
returns-then-vertex-neighbour-clause-shows c = λ header done all shows.
    let at = (goal.at.returns-then-vertex-neighbour-clause-shows c).After-push_reserved in
    let size : Sizes c.args.self.now header done all = sizes c.args.self.now header done all shows in
    let is : c.vertex-vertex.result ≡ vertex done = c.vertex-vertex.ensures ∙ sym size.vertex in
    let entry : Entry = record { from = vertex done; to = c.args.neighbour; weight = c.args.w } in
    shows_up c.args.self.now _ header done all entry (record { header = refl; numbers = refl; masses = refl })
    (subst (λ v. nat_lt v c.args.neighbour ≡ true) is (rises c.vertex-vertex.result c.args.neighbour c.if-vertex-neighbour.true))
    (up_items at ∙ ap (λ (u : ℕ). c.args.self.now.greater.items ++ record { u = u; v = c.args.neighbour; w = c.args.w } ∷ []) is) (up_met at) refl shows

-- An entry to a smaller one.

other : (n v : ℕ) → (n ≡ v → ⊥) → n ≤ v → n < v
other n v apart le = grind arith

-- one more entry to a smaller neighbour
record Grew (b : Body) (e : Edge) (l : List Edge) : Type 0 where
  counted : b.entries + 1 ≡ length b.greater.items + length (with_met b.greater.items b.cursors.items l)
  weighed : b.total + e.w ≡ sum_by (λ (e : Edge). e.w) b.greater.items + sum_by (λ (e : Edge). e.w) (with_met b.greater.items b.cursors.items l)
  within : IsEdgeWithin b.header.vertices e → All (IsEdgeWithin b.header.vertices) l
  lines : e.v ≡ vertex_of b → AreLineWeights (length b.numbers.items) b.least_degree b.before (b.total + e.w) (line_weight b.greater.items (with_met b.greater.items b.cursors.items l))
  moved : IsPermutation (lesser_of b ++ e ∷ []) (with_met b.greater.items b.cursors.items l)

grew : (b : Body) (e : Edge) (l : List Edge) → IsPermutation ((b.lesser.items ++ waiting_of b.waiting) ++ e ∷ []) l → Grew b e l
grew b e l h =
    let old : List Edge = b.lesser.items ++ waiting_of b.waiting in
    let met : IsPermutation (lesser_of b ++ e ∷ []) (with_met b.greater.items b.cursors.items l) = grew_met b.greater.items b.cursors.items old l e h in
    record {
      counted = one_counted b.entries b.greater.items (lesser_of b) (with_met b.greater.items b.cursors.items l) e b.counted met;
      weighed = one_weighed b.total b.greater.items (lesser_of b) (with_met b.greater.items b.cursors.items l) e b.total_is met;
      within = λ is. All-permutation (IsEdgeWithin b.header.vertices) (old ++ e ∷ []) l h (All-push (IsEdgeWithin b.header.vertices) old e b.lesser_within is);
      lines = λ is. line_down (length b.numbers.items) b.least_degree b.before b.total b.greater.items (lesser_of b) (with_met b.greater.items b.cursors.items l) e is met b.line_weights;
      moved = met;
    }

-- an entry that waits

abbrev far_edge : Then-take → Edge
far_edge c = record { u = c.args.neighbour; v = c.vertex-vertex.result; w = c.args.w }

taken : (c : Then-take) → IsPermutation (far_edge c ∷ waiting_of c.args.self.now.waiting) (waiting_of c.take.new.self) → Grew c.args.self.now (far_edge c) (c.args.self.now.lesser.items ++ waiting_of c.take.new.self)
taken c h =
    let b = c.args.self.now in
    grew b (far_edge c) (b.lesser.items ++ waiting_of c.take.new.self) (grew_taken b.lesser.items (waiting_of b.waiting) (waiting_of c.take.new.self) (far_edge c) h)

-- an entry that is looked for

abbrev down_edge : After-push_reserved-2 → Edge
down_edge c = record { u = c.args.neighbour; v = c.vertex-vertex.result; w = c.args.w }

down_items : (c : After-push_reserved-2) → c.push_reserved-2.new.self.items ≡ c.args.self.now.lesser.items ++ down_edge c ∷ []
down_items c = c.push_reserved-2.ensures.items

abbrev rest_now : After-push_reserved-2 → List Edge
rest_now c = c.push_reserved-2.new.self.items ++ waiting_of c.take.new.self

pushed : (c : After-push_reserved-2) → waiting_of c.take.new.self ≡ waiting_of c.args.self.now.waiting → Grew c.args.self.now (down_edge c) (rest_now c)
pushed c same =
    let b = c.args.self.now in
    grew b (down_edge c) (rest_now c)
    (subst (λ w. IsPermutation ((b.lesser.items ++ waiting_of b.waiting) ++ down_edge c ∷ []) (c.push_reserved-2.new.self.items ++ w)) (sym same)
    (subst (λ l. IsPermutation ((b.lesser.items ++ waiting_of b.waiting) ++ down_edge c ∷ []) (l ++ waiting_of b.waiting)) (sym (down_items c))
    (grew_pushed b.lesser.items (waiting_of b.waiting) (down_edge c))))

-- the edge that an entry is, told from its other end
named : (b : Body) (u w : ℕ) (v vertex : ℕ) (now : List Edge) → v ≡ vertex → IsPermutation (lesser_of b ++ record { u = u; v = v; w = w } ∷ []) now → IsPermutation (lesser_of b ++ record { u = u; v = vertex; w = w } ∷ []) now
named b u w v vertex now is h = subst (λ (v : ℕ). IsPermutation (lesser_of b ++ record { u = u; v = v; w = w } ∷ []) now) is h

pub invariant_of-self-then-take-clause-counted : goal.invariant_of-self-then-take-clause-counted
invariant_of-self-then-take-clause-counted c = (taken c (c.take.ensures.taken c.if-take.true)).counted

pub invariant_of-self-then-take-clause-total_is : goal.invariant_of-self-then-take-clause-total_is
invariant_of-self-then-take-clause-total_is c = (taken c (c.take.ensures.taken c.if-take.true)).weighed

pub invariant_of-self-then-take-clause-line_weights : goal.invariant_of-self-then-take-clause-line_weights
invariant_of-self-then-take-clause-line_weights c = (taken c (c.take.ensures.taken c.if-take.true)).lines c.vertex-vertex.ensures

pub invariant_of-self-then-take-clause-lesser_within : goal.invariant_of-self-then-take-clause-lesser_within
invariant_of-self-then-take-clause-lesser_within c =
    let is : c.vertex-vertex.result ≡ suc (length c.args.self.now.numbers.items) = c.vertex-vertex.ensures in
    (taken c (c.take.ensures.taken c.if-take.true)).within
    (c.requires.can_enter.from_one, other c.args.neighbour c.vertex-vertex.result (λ same. c.requires.can_enter.is_other (same ∙ is)) c.if-vertex-neighbour.false, omega (arith, c.requires.line), c.requires.positive)

pub invariant_of-self-2-clause-counted : goal.invariant_of-self-2-clause-counted
invariant_of-self-2-clause-counted c = (pushed c (c.take.ensures.left c.if-take.false)).counted

pub invariant_of-self-2-clause-total_is : goal.invariant_of-self-2-clause-total_is
invariant_of-self-2-clause-total_is c = (pushed c (c.take.ensures.left c.if-take.false)).weighed

pub invariant_of-self-2-clause-line_weights : goal.invariant_of-self-2-clause-line_weights
invariant_of-self-2-clause-line_weights c = (pushed c (c.take.ensures.left c.if-take.false)).lines c.vertex-vertex.ensures

pub invariant_of-self-2-clause-lesser_within : goal.invariant_of-self-2-clause-lesser_within
invariant_of-self-2-clause-lesser_within c =
    let is : c.vertex-vertex.result ≡ suc (length c.args.self.now.numbers.items) = c.vertex-vertex.ensures in
    (pushed c (c.take.ensures.left c.if-take.false)).within
    (c.requires.can_enter.from_one, other c.args.neighbour c.vertex-vertex.result (λ same. c.requires.can_enter.is_other (same ∙ is)) c.if-vertex-neighbour.false, omega (arith, c.requires.line), c.requires.positive)

pub returns-then-take-clause-shows : goal.returns-then-take-clause-shows
returns-then-take-clause-shows c = λ header done all shows.
    let at = (goal.at.returns-then-take-clause-shows c).Then-take in
    let size : Sizes c.args.self.now header done all = sizes c.args.self.now header done all shows in
    let is : c.vertex-vertex.result ≡ vertex done = c.vertex-vertex.ensures ∙ sym size.vertex in
    let entry : Entry = record { from = vertex done; to = c.args.neighbour; weight = c.args.w } in
    shows_down c.args.self.now _ header done all entry (record { header = refl; numbers = refl; masses = refl })
    (subst (λ v. nat_lt v c.args.neighbour ≡ false) is (falls c.vertex-vertex.result c.args.neighbour c.if-vertex-neighbour.false))
    refl (named c.args.self.now c.args.neighbour c.args.w c.vertex-vertex.result (vertex done) _ is (taken at (c.take.ensures.taken c.if-take.true)).moved) refl shows

pub returns-then-len-self-ge-BATCH-clause-shows : goal.returns-then-len-self-ge-BATCH-clause-shows
returns-then-len-self-ge-BATCH-clause-shows c = λ header done all shows.
    let at = (goal.at.returns-then-len-self-ge-BATCH-clause-shows c).After-push_reserved-2 in
    let size : Sizes c.args.self.now header done all = sizes c.args.self.now header done all shows in
    let is : c.vertex-vertex.result ≡ vertex done = c.vertex-vertex.ensures ∙ sym size.vertex in
    let entry : Entry = record { from = vertex done; to = c.args.neighbour; weight = c.args.w } in
    shows_down c.args.self.now c.settle.new.self header done all entry (record { header = c.settle.ensures.same_header; numbers = c.settle.ensures.same_lines; masses = c.settle.ensures.same_masses })
    (subst (λ v. nat_lt v c.args.neighbour ≡ false) is (falls c.vertex-vertex.result c.args.neighbour c.if-vertex-neighbour.false))
    c.settle.ensures.same_greater
    (named c.args.self.now c.args.neighbour c.args.w c.vertex-vertex.result (vertex done) (lesser_of c.settle.new.self) is
    (IsPermutation-trans _ _ _ (pushed at (c.take.ensures.left c.if-take.false)).moved c.settle.ensures.moved)) c.settle.ensures.same_total shows

pub returns-else-len-self-ge-BATCH-clause-shows : goal.returns-else-len-self-ge-BATCH-clause-shows
returns-else-len-self-ge-BATCH-clause-shows c = λ header done all shows.
    let at = (goal.at.returns-else-len-self-ge-BATCH-clause-shows c).After-push_reserved-2 in
    let size : Sizes c.args.self.now header done all = sizes c.args.self.now header done all shows in
    let is : c.vertex-vertex.result ≡ vertex done = c.vertex-vertex.ensures ∙ sym size.vertex in
    let entry : Entry = record { from = vertex done; to = c.args.neighbour; weight = c.args.w } in
    shows_down c.args.self.now _ header done all entry (record { header = refl; numbers = refl; masses = refl })
    (subst (λ v. nat_lt v c.args.neighbour ≡ false) is (falls c.vertex-vertex.result c.args.neighbour c.if-vertex-neighbour.false))
    refl (named c.args.self.now c.args.neighbour c.args.w c.vertex-vertex.result (vertex done) _ is (pushed at (c.take.ensures.left c.if-take.false)).moved) refl shows
