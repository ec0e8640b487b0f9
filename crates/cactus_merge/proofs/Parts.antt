-- The node of a part, by the place of the part in the chain.
use Rattle.std.proofs.Common.{◌≡◌, ℕ, Bool, ◌≤◌, ◌<◌, ◌==◌, List, [], ◌∷◌, length, drop, ◌∙◌, ap, arith, ⊎_elim, ne_eqb}
use Rattle.std.specs.Prelude.{if◌then◌else◌, nat_lt}
use Rattle.std.proofs.lemmas.Bool.{cases_eq, cases_lt, eq-eqb, lt-ltb, le-ltb}
use Rattle.residual_chain.specs.Chain.{ChainView, IsChainShape}
use Rattle.rooted_cactus.specs.Trees.{vertices, blocks}
use Rattle.rooted_cactus.specs.Entered.{renamed}
use Rattle.rooted_cactus.specs.declared.tree.Node.{Node}
use Rattle.cactus_merge.specs.declared.part.PartCactus.{PartCactus}
use Rattle.cactus_merge.specs.Assembled.{IsPartOf, IsNodeOf, names_by, inserted}
use Rattle.cactus_merge.proofs.NodeOf.{IsRenamed, top_of, node_of, renamed_vertices, root_list}
use Rattle.cactus_merge.proofs.Tops.{top_first, top_middle, top_last, rest_is}

abbrev top_by : ChainView → ℕ → List ℕ → List ℕ
top_by c number l = if number == 1 then l else if nat_lt number c.parts then drop 1 l else inserted c.t (drop 1 l)

pub some_vertex : (c : ChainView) (number : ℕ) (p : PartCactus) (y : Node) → IsPartOf c number p → IsRenamed p y → 0 < length (vertices y)
some_vertex c number p y part r =
    omega (arith, ap length (renamed_vertices p y r ∙ ap (renamed (names_by p.own)) (root_list c number p y part r).0))

pub node_by_number : (c : ChainView) (number : ℕ) (p : PartCactus) (y x : Node) → IsChainShape c → c.s ≡ 1 → 1 ≤ number → number ≤ c.parts → IsPartOf c number p → IsRenamed p y → vertices x ≡ top_by c number (vertices y) → blocks x ≡ blocks y → IsNodeOf c number p x
node_by_number c number p y x shape source low high part r t b = ⊎_elim
    (λ e. node_of c number p y part r (1 ∷ []) (vertices y) (top_first c shape source p y r number e part) x
    (t ∙ ap (λ (a : Bool). if a then vertices y else if nat_lt number c.parts then drop 1 (vertices y) else inserted c.t (drop 1 (vertices y))) (eq-eqb number 1 e)) b)
    (λ ne. (let u : vertices x ≡ (if nat_lt number c.parts then drop 1 (vertices y) else inserted c.t (drop 1 (vertices y))) =
    t ∙ ap (λ (a : Bool). if a then vertices y else if nat_lt number c.parts then drop 1 (vertices y) else inserted c.t (drop 1 (vertices y))) (ne_eqb number 1 ne) in
    ⊎_elim
    (λ lt. node_of c number p y part r [] (top_of p) (top_middle c shape source p y r number part (omega (arith, ne, low)) lt) x
    (u ∙ ap (λ (a : Bool). if a then drop 1 (vertices y) else inserted c.t (drop 1 (vertices y))) (lt-ltb number c.parts lt) ∙ rest_is c shape source p y r number part) b)
    (λ ge. node_of c number p y part r (c.t ∷ []) (inserted c.t (top_of p)) (top_last c shape source p y r number part (omega (arith, ge, high))) x
    (u ∙ ap (λ (a : Bool). if a then drop 1 (vertices y) else inserted c.t (drop 1 (vertices y))) (le-ltb number c.parts ge) ∙ ap (inserted c.t) (rest_is c shape source p y r number part)) b)
    (cases_lt number c.parts)))
    (cases_eq number 1)
