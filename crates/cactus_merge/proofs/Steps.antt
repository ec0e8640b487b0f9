-- The steps of the assembly, over lists of nodes.
use Rattle.std.proofs.Common.{◌≡◌, ℕ, ◌+◌, ◌-◌, ◌≤◌, ◌<◌, suc, List, [], ◌∷◌, ◌++◌, length, map, take, drop, get_or, sym, refl, ◌∙◌, ap, subst, arith}
use Rattle.std.proofs.lemmas.List.{map-append, drop-take, take-map, drop-map, length-map}
use Rattle.std.proofs.Math.Seq.{drop-cons, drop-length}
use Rattle.cut_definitions.specs.Weight.{either}
use Rattle.rooted_cactus.specs.Sides.{Part, part, all_of, belows, all_cuts, with_below, bridge_of, cycle_of}
use Rattle.rooted_cactus.specs.declared.tree.Node.{Node}
use Rattle.residual_chain.specs.declared.run.Run.{Run}
use Rattle.cactus_merge.specs.Joined.{run_parts, run_cuts, tails, joined_cuts, bridges, IsFarEnd, SameSets}
use Rattle.cactus_merge.proofs.Tails.{IsTail, tail_bridges, tail_run, tail_last, tail_first}
use Rattle.cactus_merge.proofs.Fronts.{IsShorter, front_cut, front_popped}

pub tail_at : {ps : List Part} {runs runs' : List Run} {rest rest' : List Part} {h h' : Part} → runs ≡ runs' → rest ≡ rest' → h ≡ h' → IsTail ps runs' rest' h' → IsTail ps runs rest h
tail_at {ps = ps} {runs = runs} {rest = rest} {rest' = rest'} {h' = h'} e f g t =
    subst (λ k. IsTail ps runs rest k) (sym g) (subst (λ l. IsTail ps runs l h') (sym f) (subst (λ q. IsTail ps q rest' h') (sym e) t))

behind_parts : (all cur new taken : List Node) → IsShorter all cur new taken → drop (length new) (map part all) ≡ map part taken ++ drop (length cur) (map part all)
behind_parts all cur new taken s =
    drop-map part (length new) all ∙ ap (map part) s.behind ∙ map-append part taken (drop (length cur) all) ∙ ap (λ l. map part taken ++ l) (sym (drop-map part (length cur) all))

-- nodes taken off the end and joined by bridges
pub bridged : (all cur new taken : List Node) (runs : List Run) (h h' : Part) → IsShorter all cur new taken → h' ≡ bridges (map part taken) h → IsTail (map part all) runs (drop (length cur) (map part all)) h → IsTail (map part all) runs (drop (length new) (map part all)) h'
bridged all cur new taken runs h h' s e t =
    tail_at refl (behind_parts all cur new taken s) e (tail_bridges (map part all) runs (map part taken) (drop (length cur) (map part all)) h t)

-- the parts of a run are those of the nodes that are taken off the end for it
run_nodes : (all cur taken : List Node) (r : Run) → r.first - 1 ≤ r.last → cur ≡ take r.last all → taken ≡ drop (r.first - 1) cur → run_parts (map part all) r ≡ map part taken
run_nodes all cur taken r h c e =
    let f = r.first - 1 in
    let n : r.last ≡ f + (r.last - f) = omega arith in
    let parts : take (r.last - f) (drop f (map part all)) ≡ map part (take (r.last - f) (drop f all)) = ap (take (r.last - f)) (drop-map part f all) ∙ take-map part (r.last - f) (drop f all) in
    let nodes : take (r.last - f) (drop f all) ≡ taken = sym (drop-take f (r.last - f) all) ∙ ap (λ k. drop f (take k all)) (sym n) ∙ ap (drop f) (sym c) ∙ sym e in
    parts ∙ ap (map part) nodes

-- nodes taken off the end and drawn as a cycle
pub drawn : (all cur new : List Node) (end : Node) (r : Run) (runs : List Run) (h h' : Part) → r.first - 1 ≤ r.last → length cur ≡ r.last → r.last < length all → cur ≡ take (length cur) all → IsShorter all cur new (drop (r.first - 1) cur) → IsFarEnd h (part end) → h' ≡ cycle_of (map part (drop (r.first - 1) cur ++ end ∷ [])) → IsTail (map part all) runs (drop (length cur) (map part all)) h → IsTail (map part all) (r ∷ runs) (drop (length new) (map part all)) h'
drawn all cur new end r runs h h' order n within c s far e t =
    let taken = drop (r.first - 1) cur in
    let ps = map part all in
    let some : length cur < length ps = omega (arith, length-map all part) in
    let nonempty : drop (length cur) ps ≡ get_or ps (length cur) (part end) ∷ drop (suc (length cur)) ps = drop-cons ps (length cur) (part end) some in
    let t' = subst (λ l. IsTail ps runs l h) nonempty t in
    let cycle : h' ≡ cycle_of (map part taken ++ part end ∷ []) = e ∙ ap cycle_of (map-append part taken (end ∷ [])) in
    let behind = behind_parts all cur new taken s ∙ ap (λ l. map part taken ++ l) nonempty in
    tail_at refl behind cycle (tail_run ps r runs (map part taken) (get_or ps (length cur) (part end)) (drop (suc (length cur)) ps) h (part end) (run_nodes all cur taken r order (c ∙ ap (λ k. take k all) n) refl) t' far)

-- the last node alone
pub started : (all new : List Node) (last : Node) (runs : List Run) (h : Part) → IsShorter all all new (last ∷ []) → h ≡ bridge_of (part last) → IsTail (map part all) (drop (length runs) runs) (drop (length new) (map part all)) h
started all new last runs h s e =
    let none : drop (length all) (map part all) ≡ [] = ap (λ k. drop k (map part all)) (sym (length-map all part)) ∙ drop-length (map part all) in
    tail_at (drop-length runs) (behind_parts all all new (last ∷ []) s ∙ ap (λ l. part last ∷ l) none) e (tail_last (map part all) (part last))

-- the first node above all that hangs
pub finished : (ps : List Part) (p : Part) (rest : List Part) (runs : List Run) (h x : Part) → ps ≡ p ∷ rest → IsTail ps runs rest h → x ≡ with_below p h → (x.below ≡ all_of (belows ps)) × SameSets x.cuts (joined_cuts ps runs)
finished ps p rest runs h x e t w =
    let same : SameSets (with_below p h).cuts (tails rest ++ (run_cuts ps runs ++ all_cuts (p ∷ rest))) = tail_first ps runs p rest h t in
    let joined : tails rest ++ (run_cuts ps runs ++ all_cuts (p ∷ rest)) ≡ joined_cuts ps runs = ap (λ l. tails (drop 1 l) ++ (run_cuts ps runs ++ all_cuts l)) (sym e) in (
      ap (λ q. q.below) w ∙ ap (either p.below) t.below ∙ ap (λ l. all_of (belows l)) (sym e),
      subst (λ k. SameSets k (joined_cuts ps runs)) (ap (λ q. q.cuts) (sym w)) (subst (SameSets (with_below p h).cuts) joined same),
    )

-- the last bridges, and then the first node
pub ended : (all here cur rest : List Node) (root : Node) (runs : List Run) (h h' x : Part) → here ≡ take (length here) all → 1 ≤ length here → cur ≡ take 1 here → cur ≡ rest ++ root ∷ [] → h' ≡ bridges (map part (drop 1 here)) h → IsTail (map part all) runs (drop (length here) (map part all)) h → x ≡ with_below (part root) h' → (x.below ≡ all_of (belows (map part all))) × SameSets x.cuts (joined_cuts (map part all) runs)
ended all here cur rest root runs h h' x front some cut popped e t w =
    let a = front_cut all here cur 1 front some cut in
    let t' = bridged all here cur (drop 1 here) runs h h' a.1 e t in
    let b = front_popped all cur rest root a.1.front popped in
    let none : length rest ≡ 0 = omega (arith, a.0, b.0) in
    let whole : map part all ≡ part root ∷ drop (length cur) (map part all) = ap (λ (k : ℕ). drop k (map part all)) (sym none) ∙ behind_parts all cur rest (root ∷ []) b.1 in
    finished (map part all) (part root) (drop (length cur) (map part all)) runs h' x whole t' w
