-- How many nodes there are at and below each, by numbers, and how much is left to be entered.
use Rattle.std.proofs.Common.{◌≡◌, ℕ, suc, ◌+◌, ◌*◌, ◌≤◌, ◌<◌, inl, inr, List, [], ◌∷◌, ◌++◌, length, set, map, ap, ◌∙◌, sym, subst, refl, arith}
use Rattle.std.specs.Prelude.{◌==◌, if◌then◌else◌, slice_index, Option, Some}
use Rattle.std.specs.List.{All, sum_by}
use Rattle.std.specs.Option.{option_to_list}
use Rattle.std.proofs.lemmas.Bool.{cases_Bool, cases_lt}
use Rattle.std.proofs.lemmas.List.{get_or-set_same, get_or-set_other}
use Rattle.std.proofs.lemmas.List.Elements.{All-append, All-map}
use Rattle.std.proofs.lemmas.List.Sums.{sum_by-append, sum_by-cons}
use Rattle.cut_definitions.proofs.ListLaws.{All-from_each, popped_is}
use Rattle.cut_definitions.proofs.Sums.{sum_by-same_on, sum_by-twice}
use Rattle.cut_definitions.proofs.Contracted.{sum_by-map}
use Rattle.rooted_cactus.specs.Entries.{top_first}
use Rattle.rooted_cactus.proofs.Entries.{top_push}
use Rattle.tree_flattening.specs.declared.walking.Task.{Task}
use Rattle.tree_flattening.specs.declared.walking.Task.TheVariants.{Enter, Hang}
use Rattle.tree_flattening.specs.Plans.{Plan, IsPlan}
use Rattle.tree_flattening.specs.Walked.{AreSizes, hang, number_of, run_next, size_below, sizes_at, task_next}

-- ---- what is below a node of a plan is one
pub known_in : (p : Plan) (h n : ℕ) (run : List ℕ) → IsPlan p → h < p.count → n ≡ p.count → run ≡ p.run h → All (λ j. j < n) run
known_in p h n run plan w e r =
    let known : All (λ j. j < n) (p.run h) = All-from_each (λ j. j < n) (p.run h) (λ j m. omega (arith, (plan.run h j w m).1, e)) in
    subst (All (λ j. j < n)) (sym r) known

pub heads_known : (p : Plan) (i : ℕ) → IsPlan p → i < p.count → All (λ h. h < p.count) (p.heads i)
heads_known p i plan w = All-from_each (λ h. h < p.count) (p.heads i) (λ h m. (plan.heads i h w m).1)

-- the first node of a block
pub first_known : (p : Plan) (h : ℕ) → IsPlan p → h < p.count → slice_index (p.run h) 0 < p.count
first_known p h plan w = known_in p h p.count (p.run h) plan w refl refl 0 0 (omega (arith, plan.some h w))

-- ---- the table of sizes, from the last node on
below_set : (p : Plan) (table : List ℕ) (node i size : ℕ) → IsPlan p → node ≤ i → i < p.count → size_below p (set table node size) i ≡ size_below p table i
below_set p table node i size plan from w =
    let t = set table node size in
    sum_by-same_on (λ h. sizes_at t (p.run h)) (λ h. sizes_at table (p.run h)) (p.heads i)
    (All-from_each (λ h. sizes_at t (p.run h) ≡ sizes_at table (p.run h)) (p.heads i) (λ h m.
    let a = plan.heads i h w m in
    sum_by-same_on (slice_index t) (slice_index table) (p.run h)
    (All-from_each (λ j. slice_index t j ≡ slice_index table j) (p.run h) (λ j k.
    let b = plan.run h j a.1 k in
    get_or-set_other table node j size 0 (λ e. omega (arith, a.0, b.0, from, e))))))

pub sized : (p : Plan) (table : List ℕ) (node size : ℕ) → IsPlan p → node < length table → length table ≡ p.count → size ≡ 1 + size_below p table node →
    ((i : ℕ) → node + 1 ≤ i → i < p.count → slice_index table i ≡ 1 + size_below p table i) →
    (i : ℕ) → node ≤ i → i < p.count → slice_index (set table node size) i ≡ 1 + size_below p (set table node size) i
sized p table node size plan w len is before i from to =
    let t = set table node size in
    let same : 1 + size_below p table i ≡ 1 + size_below p t i = ap (λ k. 1 + k) (sym (below_set p table node i size plan from to)) in
    elim (cases_lt node i) [
      | inl h ↦ get_or-set_other table node i size 0 (λ e. omega (arith, h, e)) ∙ before i (omega (arith, h)) to ∙ same
      | inr h ↦
          let e : i ≡ node = omega (arith, h, from) in
          ap (slice_index t) e ∙ get_or-set_same table node size 0 w ∙ is ∙ ap (λ k. 1 + size_below p table k) (sym e) ∙ same
    ]

-- ---- what is left to be entered
abbrev pub weight : Plan → List ℕ → Task → ℕ
weight p table (Enter i) = 1 + 2 * size_below p table i
weight p table (Hang h up) = 2 * sizes_at table (p.run h)

abbrev pub weights : Plan → List ℕ → List Task → ℕ
weights p table = sum_by (weight p table)

hung_weight : (p : Plan) (table : List ℕ) (number i : ℕ) → weights p table (map (hang number) (p.heads i)) ≡ 2 * size_below p table i
hung_weight p table number i = sum_by-map (weight p table) (hang number) (p.heads i) ∙ sum_by-twice (λ h. sizes_at table (p.run h)) (p.heads i)

run_weight : (p : Plan) (table run : List ℕ) → All (λ j. slice_index table j ≡ 1 + size_below p table j) run → weights p table (map Enter run) + length run ≡ 2 * sizes_at table run
run_weight p table [] h = refl
run_weight p table (j ∷ js) h =
    let here : slice_index table j ≡ 1 + size_below p table j = h 0 0 (omega arith) in
    let rest = run_weight p table js (λ k d w. h (suc k) d (omega (arith, w))) in
    omega (arith, here, rest, sum_by-cons (weight p table) (Enter j) (map Enter js), sum_by-cons (slice_index table) j js)

first_within : (table run : List ℕ) → 1 ≤ length run → slice_index table (slice_index run 0) ≤ sizes_at table run
first_within table [] some = absurd (omega (arith, some))
first_within table (j ∷ js) some = omega (arith, sum_by-cons (slice_index table) j js)

-- entering a task leaves less, and tasks of the plan
pub lighter : (p : Plan) (table : List ℕ) (number : ℕ) (t : Task) → IsPlan p → AreSizes p table → number_of t < p.count → weights p table (task_next p number t) < weight p table t
lighter p table number (Enter i) plan s w = omega (arith, hung_weight p table number i)
lighter p table number (Hang h up) plan s w = elim (cases_Bool (length (p.run h) == 1)) [
  | inl t ↦
      let i = slice_index (p.run h) 0 in
      let next : weights p table (run_next p number (p.run h)) ≡ 2 * size_below p table i =
      ap (λ c. weights p table (if c then map (hang number) (p.heads i) else map Enter (p.run h))) t ∙ hung_weight p table number i in
      omega (arith, next, s.each i (first_known p h plan w), first_within table (p.run h) (plan.some h w))
  | inr f ↦
      let next : weights p table (run_next p number (p.run h)) ≡ weights p table (map Enter (p.run h)) =
      ap (λ c. weights p table (if c then map (hang number) (p.heads (slice_index (p.run h) 0)) else map Enter (p.run h))) f in
      let each : All (λ j. slice_index table j ≡ 1 + size_below p table j) (p.run h) = λ k d l. s.each _ (known_in p h p.count (p.run h) plan w refl refl k d l) in
      omega (arith, next, run_weight p table (p.run h) each, plan.some h w)
]

pub next_known : (p : Plan) (number : ℕ) (t : Task) → IsPlan p → number_of t < p.count → All (λ s. number_of s < p.count) (task_next p number t)
next_known p number (Enter i) plan w = All-map (λ s. number_of s < p.count) (hang number) (p.heads i) (heads_known p i plan w)
next_known p number (Hang h up) plan w =
    let run = p.run h in
    let i = slice_index run 0 in
    let P : List Task → Type 0 = All (λ s. number_of s < p.count) in
    elim (cases_Bool (length run == 1)) [
      | inl t ↦ subst (λ c. P (if c then map (hang number) (p.heads i) else map Enter run)) (sym t) (All-map (λ s. number_of s < p.count) (hang number) (p.heads i) (heads_known p i plan (first_known p h plan w)))
      | inr f ↦ subst (λ c. P (if c then map (hang number) (p.heads i) else map Enter run)) (sym f) (All-map (λ s. number_of s < p.count) Enter run (known_in p h p.count run plan w refl refl))
    ]

-- ---- a task is taken off the stack and entered
pub popped_top : {X : Type 0} (cur new : List X) (r : Option X) (x : X) → cur ≡ new ++ option_to_list r → r ≡ Some x → top_first cur ≡ x ∷ top_first new
popped_top cur new r x e is = ap top_first (popped_is cur new r x e is) ∙ top_push new x

abbrev pub AreKnown : Plan → List Task → Type 0
AreKnown p = All (λ t. number_of t < p.count)

pub taken_known : (p : Plan) (t : Task) (before rest : List Task) → AreKnown p before → before ≡ t ∷ rest → number_of t < p.count
taken_known p t before rest h b = subst (AreKnown p) b h 0 t (omega arith)

pub left_known : (p : Plan) (number : ℕ) (t : Task) (before rest after : List Task) → IsPlan p → AreKnown p before → before ≡ t ∷ rest → after ≡ task_next p number t ++ rest → AreKnown p after
left_known p number t before rest after plan h b a =
    let known : AreKnown p (t ∷ rest) = subst (AreKnown p) b h in
    subst (AreKnown p) (sym a) (All-append (λ s. number_of s < p.count) (task_next p number t) rest (next_known p number t plan (taken_known p t before rest h b)) (λ k d w. known (suc k) d (omega (arith, w))))

pub left_lighter : (p : Plan) (table : List ℕ) (number : ℕ) (t : Task) (before rest after : List Task) → IsPlan p → AreSizes p table → AreKnown p before → before ≡ t ∷ rest → after ≡ task_next p number t ++ rest →
    weights p table after < weights p table before
left_lighter p table number t before rest after plan s h b a =
    omega (arith, lighter p table number t plan s (taken_known p t before rest h b), ap (weights p table) a ∙ sum_by-append (weight p table) (task_next p number t) rest, ap (weights p table) b ∙ sum_by-cons (weight p table) t rest)
