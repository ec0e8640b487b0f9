-- Lists of nodes in which no vertex is twice: parts of them are apart.
use Rattle.std.proofs.Common.{◌≡◌, ℕ, ◌+◌, ◌≤◌, inl, inr, true, cond, List, [], ◌∷◌, ◌++◌, length, ap, ◌∙◌, sym, arith, length-append}
use Rattle.std.specs.List.{All, filter, concat}
use Rattle.std.proofs.lemmas.Bool.{or_cases, or_left, or_right, cases_lt, cases_Bool, false≢true}
use Rattle.std.proofs.lemmas.List.Elements.{All-contains, filter-append}
use Rattle.cut_definitions.specs.Weight.{VertexSet}
use Rattle.cut_definitions.specs.Cuts.{has, IsAscendingWithin, least}
use Rattle.cut_definitions.proofs.Values.{least-le, Contains-least}
use Rattle.cut_definitions.proofs.ListLaws.{longer, All-front, All-back}
use Rattle.cut_definitions.proofs.Ascending.{contains_has, has_contains}
use Rattle.rooted_cactus.specs.Rooted.{IsCactus}
use Rattle.cut_definitions.specs.Graph.{IsVertex}
use Rattle.rooted_cactus.specs.Entered.{entered}
use Rattle.rooted_cactus.specs.declared.tree.Node.{Node}
use Rattle.rooted_cactus.proofs.Once.{all_vertices_within}
use Rattle.rooted_cactus.proofs.Segments.{has_append_at}
use Rattle.rooted_cactus.proofs.Sets.{HasOne, Apart, IsLeast}

-- the number of the lists that have a vertex
abbrev pub count : ℕ → List (List ℕ) → ℕ
count v ls = length (filter (λ l. has l v) ls)

-- each list ascends, and no vertex is in two of them
pub record IsClean (n : ℕ) (ls : List (List ℕ)) : Type 0 where
  pub ascending : All (IsAscendingWithin 1 n) ls
  pub once : (v : ℕ) → count v ls ≤ 1

count_both : (v : ℕ) (ls ms : List (List ℕ)) → count v (ls ++ ms) ≡ count v ls + count v ms
count_both v ls ms = ap length (filter-append (λ l. has l v) ls ms) ∙ length-append (filter (λ l. has l v) ls) (filter (λ l. has l v) ms)

pub clean_left : (n : ℕ) (ls ms : List (List ℕ)) → IsClean n (ls ++ ms) → IsClean n ls
clean_left n ls ms c = record {
  ascending = All-front (IsAscendingWithin 1 n) ls ms c.ascending;
  once = λ v. omega (arith, count_both v ls ms, c.once v);
}

pub clean_right : (n : ℕ) (ls ms : List (List ℕ)) → IsClean n (ls ++ ms) → IsClean n ms
clean_right n ls ms c = record {
  ascending = All-back (IsAscendingWithin 1 n) ls ms c.ascending;
  once = λ v. omega (arith, count_both v ls ms, c.once v);
}

count_some : (v : ℕ) (ls : List (List ℕ)) → has (concat ls) v ≡ true → 1 ≤ count v ls
count_some v [] h = absurd (false≢true h)
count_some v (l ∷ ls) h =
    let rest = filter (λ m. has m v) ls in
    elim (or_cases (has l v) (has (concat ls) v) (sym (has_append_at l (concat ls) v) ∙ h)) [
      | inl e ↦ (let one : count v (l ∷ ls) ≡ length (l ∷ rest) = ap (λ b. length (cond b (l ∷ rest) rest)) e in omega (arith, one))
      | inr e ↦ omega (arith, count_some v ls e, longer (has l v) l rest)
    ]

count_has : (v : ℕ) (ls : List (List ℕ)) → 1 ≤ count v ls → has (concat ls) v ≡ true
count_has v [] h = absurd (omega (arith, h))
count_has v (l ∷ ls) h =
    let rest = filter (λ m. has m v) ls in
    has_append_at l (concat ls) v ∙ elim (cases_Bool (has l v)) [
      | inl e ↦ or_left (has l v) (has (concat ls) v) e
      | inr e ↦ (let none : count v (l ∷ ls) ≡ length rest = ap (λ b. length (cond b (l ∷ rest) rest)) e in or_right (has l v) (has (concat ls) v) (count_has v ls (omega (arith, none, h))))
    ]

pub clean_apart : (n : ℕ) (ls ms : List (List ℕ)) → IsClean n (ls ++ ms) → Apart (has (concat ls)) (has (concat ms))
clean_apart n ls ms c v h k = omega (arith, count_both v ls ms, c.once v, count_some v ls h, count_some v ms k)

pub root_clean : (n : ℕ) (root : Node) → IsCactus n root → IsClean n (entered root)
root_clean n root h = record {
  ascending = h.ascending;
  once = λ v. elim (cases_lt 1 (count v (entered root))) [
    | inl big ↦ (
        let there : has (concat (entered root)) v ≡ true = count_has v (entered root) (omega (arith, big)) in
        let vertex : IsVertex n v = All-contains (IsVertex n) (concat (entered root)) v (all_vertices_within n root h) (has_contains (concat (entered root)) v there) in
        let one : count v (entered root) ≡ 1 = h.in_one_node v vertex.0 vertex.1 in
        omega (arith, one))
    | inr small ↦ small
  ];
}

least_in : (l : List ℕ) (v : ℕ) → has l v ≡ true → has l (least l) ≡ true
least_in [] v h = absurd (false≢true h)
least_in (x ∷ xs) v h = contains_has (x ∷ xs) (least (x ∷ xs)) (Contains-least x xs)

-- the least number of the list of a nonempty set is the least of the set
pub least_is : (s : VertexSet) (l : List ℕ) → has l ≡ s → HasOne s → IsLeast s (least l)
least_is s l e one =
    let at : (v : ℕ) → has l v ≡ s v = λ v. ap (λ (t : VertexSet). t v) e in (
      sym (at (least l)) ∙ least_in l one.0 (at one.0 ∙ one.1),
      (λ v h. least-le l v (has_contains l v (at v ∙ h))),
    )
