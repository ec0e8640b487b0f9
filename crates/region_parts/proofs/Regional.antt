-- Members of a region between what is listed from both sides.
use Rattle.std.proofs.Common.{◌≡◌, ℕ, ◌⊎◌, inl, inr, ⊎_elim, Bool, true, false, not, ◌&&◌, List, get_or, refl, sym, ◌∙◌, subst, ap}
use Rattle.std.proofs.Math.Path.{fun_ext}
use Rattle.std.proofs.lemmas.Bool.{cases_Bool, not-true}
use Rattle.cut_definitions.specs.Graph.{Graph}
use Rattle.cut_definitions.specs.Weight.{VertexSet, complement, minus, HasVertex, IsMinimumCut}
use Rattle.cut_definitions.specs.Chain.{IsWithin}
use Rattle.cut_definitions.proofs.ChainLists.{IsMinimumCut-complement}
use Rattle.cut_definitions.proofs.Bools.{contrary, join_cases, minus_parts}
use Rattle.region_flow.specs.Growing.{IsMember, IsPartOf}
use Rattle.region_parts.specs.Regional.{IsAtBorder, IsRest, HoldsAround, BringsHub, ComesWithHub, LawOfNestedSides, LawOfNoneBetween}
use Rattle.region_flow.proofs.Growing.{nested, border, member_minimum}

twice : (b : Bool) → not (not b) ≡ b
twice true = refl
twice false = refl

pub not_not : (x : VertexSet) → complement (complement x) ≡ x
not_not x = fun_ext (λ v. twice (x v))

turned : (a b : Bool) → (not b ≡ true → not a ≡ true) → a ≡ true → b ≡ true
turned a true h k = refl
turned true false h k = h refl
turned false false h k = cc

pub minimum_of : (g : Graph) (labels : List ℕ) (t amount : ℕ) → IsAtBorder g labels t amount → (x : VertexSet) → IsMember g labels t amount x → IsMinimumCut g x
minimum_of g labels t amount at x m = member_minimum g labels at.outer t amount at.is_graph at.joined at.apart at.minimum at.is_minimum at.weighs x m

pub nested_sides : LawOfNestedSides
nested_sides g labels t amount at =
    let within : (x y : VertexSet) → IsMember g labels t amount x → IsMember g labels t amount y → IsWithin g.vertices x y ⊎ IsWithin g.vertices y x =
    λ x y mx my. nested g labels at.outer t at.is_graph at.joined at.apart x y mx.around my.around (minimum_of g labels t amount at x mx) (minimum_of g labels t amount at y my) in (
      within,
      λ x y rx ry. ⊎_elim
          (λ (w : IsWithin g.vertices (complement x) (complement y)). inr (λ v a b h. turned (y v) (x v) (w v a b) h))
          (λ (w : IsWithin g.vertices (complement y) (complement x)). inl (λ v a b h. turned (x v) (y v) (w v a b) h))
          (within (complement x) (complement y) rx ry),
    )

-- beside a minimum cut, a greater one has a vertex of which something holds that holds around the lesser
pub beside : (g : Graph) (labels : List ℕ) (t amount : ℕ) → IsAtBorder g labels t amount → (q x : VertexSet) → IsMinimumCut g q → IsMinimumCut g x → IsPartOf q x →
    HasVertex g.vertices (minus x q) → (holds : ℕ → Type 0) → HoldsAround g q holds → (v : ℕ) × (x v ≡ true) × holds v
beside g labels t amount at q x mq mx sub more holds around =
    let r = border g at.is_graph at.connected q x mq mx sub more in
    let e = r.0 in
    ⊎_elim
    (λ (h : (q e.u ≡ true) × ((x e.v && not (q e.v)) ≡ true)).
    let p = minus_parts (x e.v) (q e.v) h.1 in (e.v, p.0, around.up e r.1 h.0 p.1))
    (λ (h : ((x e.u && not (q e.u)) ≡ true) × (q e.v ≡ true)).
    let p = minus_parts (x e.u) (q e.u) h.0 in (e.u, p.0, around.down e r.1 h.1 p.1))
    (join_cases (q e.u) (q e.v) (x e.u && not (q e.u)) (x e.v && not (q e.v)) r.2)

rest_minimum : (g : Graph) (labels : List ℕ) (t amount : ℕ) → IsAtBorder g labels t amount → (f : VertexSet) → IsRest g labels t amount f → IsMinimumCut g f
rest_minimum g labels t amount at f r =
    subst (λ (s : VertexSet). IsMinimumCut g s) (not_not f) (IsMinimumCut-complement g (complement f) (minimum_of g labels t amount at (complement f) r))

pub none_between : LawOfNoneBetween
none_between g labels t amount hub b f at inner outer x mx sub more rest_sub rest_more =
    let mine = minimum_of g labels t amount at x mx in
    ⊎_elim
    (λ (there : x hub ≡ true). ⊎_elim
    (λ ne. ne (mx.around.inside.labelled hub there))
    (λ (h : IsRest g labels t amount f × HoldsAround g f (λ v. (b v ≡ true) ⊎ ComesWithHub g labels t amount hub v)).
    let r = beside g labels t amount at f (complement x) (rest_minimum g labels t amount at f h.0) (IsMinimumCut-complement g x mine) rest_sub rest_more
    (λ v. (b v ≡ true) ⊎ ComesWithHub g labels t amount hub v) h.1 in
    let out = not-true (x r.0) r.1 in
    ⊎_elim
    (λ (in_b : b r.0 ≡ true). contrary (sub r.0 in_b) out)
    (λ (comes : ComesWithHub g labels t amount hub r.0). contrary (comes x mx there) out)
    r.2)
    outer)
    (λ (away : x hub ≡ false). ⊎_elim
    (λ (e : hub ≡ t). contrary mx.around.there (ap x (sym e) ∙ away))
    (λ (h : IsMember g labels t amount b × HoldsAround g b (λ v. ¬ (get_or labels v 0 ≡ get_or labels t 0) ⊎ ((f v ≡ true) ⊎ BringsHub g labels t amount hub v))).
    let r = beside g labels t amount at b x (minimum_of g labels t amount at b h.0) mine sub more
    (λ v. ¬ (get_or labels v 0 ≡ get_or labels t 0) ⊎ ((f v ≡ true) ⊎ BringsHub g labels t amount hub v)) h.1 in
    ⊎_elim
    (λ ne. ne (mx.around.inside.labelled r.0 r.1))
    (λ k. ⊎_elim
    (λ (in_f : f r.0 ≡ true). contrary r.1 (not-true (x r.0) (rest_sub r.0 in_f)))
    (λ (brings : BringsHub g labels t amount hub r.0). contrary (brings x mx r.1) away)
    k)
    r.2)
    inner)
    (cases_Bool (x hub))
