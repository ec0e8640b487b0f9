-- A search that puts each vertex it finds into a node of its own.
use Rattle.std.proofs.Common.{◌≡◌, ℕ, zero, suc, ◌+◌, ◌<◌, ◌≤◌, inl, inr, ⊎_elim, Bool, false, List, [], ◌∷◌, ◌++◌, length, replicate, get_or, refl, sym, ◌∙◌, ap, subst, arith}
use Rattle.std.specs.Prelude.{◌≢◌}
use Rattle.std.specs.List.{All}
use Rattle.std.proofs.lemmas.Bool.{cases_eq, cases_lt}
use Rattle.std.proofs.lemmas.List.Elements.{All-from_get_or}
use Rattle.std.proofs.lemmas.List.{get_or_append_left, get_or_default, get_or_past, get_or_push, get_or-replicate, get_or-set_same, get_or-set_other, length-append, length-replicate, length-set}
use Rattle.cut_definitions.specs.Graph.{Graph}
use Rattle.weighted_graph.specs.declared.graph.Arc.{Arc}
use Rattle.weighted_graph.specs.Rows.{no_arc, row_of}
use Rattle.node_tree.specs.declared.branches.Branches.{Branches}
use Rattle.node_tree.specs.Branches.{AddsBranch, found, HangsFrom, IsAbove, IsBranching, IsFound, IsPutAlong, IsSearch, KeepsNodes, LeadsAlong, node_of, upper_of, vertex_in}
use Rattle.node_tree.specs.Flat.{TreeLinks}

-- ---- the start

pub all_zero : (n v : ℕ) → get_or (replicate {A = ℕ} n 0) v 0 ≡ 0
all_zero n v = ⊎_elim (λ (l : v < n). get_or-replicate n v 0 0 l) (λ (l : n ≤ v). get_or_past (replicate {A = ℕ} n 0) v 0 (omega (arith, l, length-replicate {A = ℕ} n 0))) (cases_lt v n)

one_apart : (k : ℕ) → get_or (false ∷ []) k false ≡ false
one_apart zero = refl
one_apart (suc k) = get_or_past {X = Bool} [] k false (omega arith)

pub started : (n : ℕ) (b : Branches) → 1 ≤ n → b.order.items ≡ 1 ∷ [] → b.made.tree ≡ record { uppers = 0 ∷ []; follows = false ∷ [] } → b.made.homes.items ≡ replicate (n + 1) 0 → IsSearch n b
started n b one order tree homes =
    let count : found b ≡ 1 = ap length order in
    let first : vertex_in b 0 ≡ 1 = ap (λ (l : List ℕ). get_or l 0 0) order in
    let zeros = λ (v : ℕ). (let r : node_of b v ≡ 0 = ap (λ (l : List ℕ). get_or l v 0) homes ∙ all_zero (n + 1) v in r) in
    let root = λ (k : ℕ) (l : k < found b). (let r : k ≡ 0 = omega (arith, l, count) in r) in
    record {
      long = ap length homes ∙ length-replicate (n + 1) 0;
      nodes = ap (λ (t : TreeLinks). length t.uppers) tree ∙ sym count;
      first = first;
      vertices = λ k l. (let e : vertex_in b k ≡ 1 = ap (vertex_in b) (root k l) ∙ first in (omega (arith, e), omega (arith, e, one)));
      apart = λ k. ap (λ (t : TreeLinks). get_or t.follows k false) tree ∙ one_apart k;
      upper = λ k from l. absurd (omega (arith, from, root k l));
      node = λ v. omega (arith, count, zeros v);
      holds = λ k l. zeros (vertex_in b k) ∙ sym (root k l);
      is_held = λ v from. absurd (omega (arith, from, zeros v));
    }

-- ---- a vertex more

none_apart : (xs : List Bool) → ((k : ℕ) → get_or xs k false ≡ false) → (k : ℕ) → get_or (xs ++ false ∷ []) k false ≡ false
none_apart [] all k = one_apart k
none_apart (x ∷ xs) all zero = all 0
none_apart (x ∷ xs) all (suc k) = none_apart xs (λ j. all (suc j)) k

pub put_keeps : (n : ℕ) (b b' : Branches) (v upper : ℕ) → IsSearch n b → AddsBranch b b' v upper → KeepsNodes b b'
put_keeps n b b' v upper s h = record {
  more = omega (arith, ap length h.order, length-append b.order.items (v ∷ []));
  vertices = λ k l. ap (λ (xs : List ℕ). get_or xs k 0) h.order ∙ get_or_append_left b.order.items (v ∷ []) 0 k l;
  uppers = λ k l. ap (λ (xs : List ℕ). get_or xs k 0) h.tree.uppers ∙ get_or_append_left b.made.tree.uppers (upper ∷ []) 0 k (omega (arith, l, s.nodes));
}

pub put_search : (n : ℕ) (b b' : Branches) (v upper : ℕ) → IsSearch n b → AddsBranch b b' v upper → 1 ≤ v → v ≤ n → ¬ IsFound b v → upper < found b → IsSearch n b'
put_search n b b' v upper s h one to_n new at =
    let count : found b' ≡ found b + 1 = omega (arith, ap length h.order, length-append b.order.items (v ∷ [])) in
    let kept = put_keeps n b b' v upper s h in
    let last : vertex_in b' (found b) ≡ v = ap (λ (xs : List ℕ). get_or xs (found b) 0) h.order ∙ get_or_push b.order.items v 0 (found b) refl in
    let last_upper : upper_of b' (found b) ≡ upper =
    ap (λ (xs : List ℕ). get_or xs (found b) 0) h.tree.uppers ∙ get_or_push b.made.tree.uppers upper 0 (found b) s.nodes in
    let node_v : node_of b' v ≡ found b = ap (λ (xs : List ℕ). get_or xs v 0) h.homes ∙ get_or-set_same b.made.homes.items v (length b.made.tree.uppers) 0 (omega (arith, to_n, s.long)) ∙ s.nodes in
    let node_other = λ (w : ℕ) (ne : w ≢ v). (let r : node_of b' w ≡ node_of b w = ap (λ (xs : List ℕ). get_or xs w 0) h.homes ∙ get_or-set_other b.made.homes.items v w (length b.made.tree.uppers) 0 ne in r) in
    let other = λ (k : ℕ) (l : k < found b) (e : vertex_in b k ≡ v). (let r : ⊥ =
    ⊎_elim
    (λ (z : k ≡ 0). new (inl (sym e ∙ ap (vertex_in b) z ∙ s.first)))
    (λ (ne : k ≢ 0). new (inr (omega (arith, ne, ap (node_of b) (sym e) ∙ s.holds k l))))
    (cases_eq k 0) in r) in
    let end = λ (k : ℕ) (l : k < found b') (far : found b ≤ k). (let r : k ≡ found b = omega (arith, l, far, count) in r) in
    record {
      long = ap length h.homes ∙ length-set b.made.homes.items v (length b.made.tree.uppers) ∙ s.long;
      nodes = omega (arith, ap length h.tree.uppers, length-append b.made.tree.uppers (upper ∷ []), s.nodes, count);
      first = kept.vertices 0 (omega (arith, at)) ∙ s.first;
      vertices = λ k l. ⊎_elim
          (λ (low : k < found b). let old = s.vertices k low in let e = kept.vertices k low in (omega (arith, e, old.0), omega (arith, e, old.1)))
          (λ (far : found b ≤ k). let e : vertex_in b' k ≡ v = ap (vertex_in b') (end k l far) ∙ last in (omega (arith, e, one), omega (arith, e, to_n)))
          (cases_lt k (found b));
      apart = λ k. ap (λ (xs : List Bool). get_or xs k false) h.tree.follows ∙ none_apart b.made.tree.follows s.apart k;
      upper = λ k from l. ⊎_elim
          (λ (low : k < found b). let old = s.upper k from low in omega (arith, old, kept.uppers k low))
          (λ (far : found b ≤ k). let is = end k l far in let e : upper_of b' k ≡ upper = ap (upper_of b') is ∙ last_upper in omega (arith, e, at, is))
          (cases_lt k (found b));
      node = λ w. ⊎_elim
          (λ (e : w ≡ v). omega (arith, ap (node_of b') e, node_v, count))
          (λ (ne : w ≢ v). omega (arith, node_other w ne, s.node w, count))
          (cases_eq w v);
      holds = λ k l. ⊎_elim
          (λ (low : k < found b). ap (node_of b') (kept.vertices k low) ∙ node_other (vertex_in b k) (other k low) ∙ s.holds k low)
          (λ (far : found b ≤ k). let is = end k l far in ap (λ (j : ℕ). node_of b' (vertex_in b' j)) is ∙ ap (node_of b') last ∙ node_v ∙ sym is)
          (cases_lt k (found b));
      is_held = λ w from. ⊎_elim
          (λ (e : w ≡ v). ap (λ (x : ℕ). vertex_in b' (node_of b' x)) e ∙ ap (vertex_in b') node_v ∙ last ∙ sym e)
          (λ (ne : w ≢ v). let same = node_other w ne in
          ap (vertex_in b') same ∙ kept.vertices (node_of b w) (s.node w) ∙ s.is_held w (omega (arith, from, same)))
          (cases_eq w v);
    }

-- the new node hangs from the one of the arc
pub put_hangs : (n : ℕ) (b b' : Branches) (v upper : ℕ) → IsSearch n b → AddsBranch b b' v upper → 1 ≤ found b → HangsFrom b' upper v
put_hangs n b b' v upper s h some = record {
  node = found b;
  from_one = some;
  within = omega (arith, ap length h.order, length-append b.order.items (v ∷ []));
  holds = ap (λ (xs : List ℕ). get_or xs (found b) 0) h.order ∙ get_or_push b.order.items v 0 (found b) refl;
  upper = ap (λ (xs : List ℕ). get_or xs (found b) 0) h.tree.uppers ∙ get_or_push b.made.tree.uppers upper 0 (found b) s.nodes;
}

-- ---- nodes that are kept

pub keeps_all : (b : Branches) → KeepsNodes b b
keeps_all b = record { more = omega arith; vertices = λ k l. refl; uppers = λ k l. refl }

pub keeps_on : (b b' b'' : Branches) → KeepsNodes b b' → KeepsNodes b' b'' → KeepsNodes b b''
keeps_on b b' b'' h k = record {
  more = omega (arith, h.more, k.more);
  vertices = λ i l. k.vertices i (omega (arith, l, h.more)) ∙ h.vertices i l;
  uppers = λ i l. k.uppers i (omega (arith, l, h.more)) ∙ h.uppers i l;
}

pub still_along : (n amount : ℕ) (b b' : Branches) (k : ℕ) (a : Arc) → IsSearch n b → KeepsNodes b b' → k < found b → LeadsAlong amount b k a → LeadsAlong amount b' k a
still_along n amount b b' k a s kept l h = record {
  weighs = h.weighs;
  along = ⊎_elim
      (λ (up : IsAbove b k a.to).
      let low = s.upper k up.0 l in
      inl (up.0, ap (vertex_in b') (kept.uppers k l) ∙ kept.vertices (upper_of b k) (omega (arith, low, l)) ∙ up.1))
      (λ (down : HangsFrom b k a.to). inr (record {
        node = down.node;
        from_one = down.from_one;
        within = omega (arith, down.within, kept.more);
        holds = kept.vertices down.node down.within ∙ down.holds;
        upper = kept.uppers down.node down.within ∙ down.upper;
      }))
      h.along;
}

-- ---- a row

-- the first arcs of the row of a node lead along
pub record IsInRow (n amount : ℕ) (old b : Branches) (node : ℕ) (row : List Arc) (upto : ℕ) : Type 0 where
  pub search : IsSearch n b
  pub kept : KeepsNodes old b
  pub arcs : (j : ℕ) → j < upto → LeadsAlong amount b node (get_or row j no_arc)

pub row_on : (n amount : ℕ) (old b b' : Branches) (node : ℕ) (row : List Arc) (upto : ℕ) → node < found old → IsInRow n amount old b node row upto →
    IsPutAlong n amount b b' node (get_or row upto no_arc) → IsInRow n amount old b' node row (upto + 1)
row_on n amount old b b' node row upto within h put = record {
  search = put.search;
  kept = keeps_on old b b' h.kept put.kept;
  arcs = λ j l. ⊎_elim
      (λ (low : j < upto). still_along n amount b b' node (get_or row j no_arc) h.search put.kept (omega (arith, within, h.kept.more)) (h.arcs j low))
      (λ (far : upto ≤ j). let is : upto ≡ j = omega (arith, l, far) in subst (λ (i : ℕ). LeadsAlong amount b' node (get_or row i no_arc)) is put.along)
      (cases_lt j upto);
}

pub row_done : (g : Graph) (amount : ℕ) (old b : Branches) (node upto : ℕ) (row : List Arc) → node < found old → IsBranching g amount old node → row ≡ row_of g (vertex_in old node) →
    IsInRow g.vertices amount old b node row upto → length row ≤ upto → IsBranching g amount b (node + 1)
row_done g amount old b node upto row within h is now all = record {
  search = now.search;
  done_found = omega (arith, within, now.kept.more);
  along = λ k l. ⊎_elim
      (λ (low : k < node).
      subst (λ (v : ℕ). All (LeadsAlong amount b k) (row_of g v)) (sym (now.kept.vertices k (omega (arith, low, within))))
      (λ i a less. still_along g.vertices amount old b k (get_or (row_of g (vertex_in old k)) i a) h.search now.kept (omega (arith, low, within)) (h.along k low i a less)))
      (λ (far : node ≤ k).
      let same : node ≡ k = omega (arith, l, far) in
      let here : All (LeadsAlong amount b node) row = All-from_get_or (LeadsAlong amount b node) row no_arc (λ j less. now.arcs j (omega (arith, less, all))) in
      let at_node : All (LeadsAlong amount b node) (row_of g (vertex_in b node)) =
      subst (λ (v : ℕ). All (LeadsAlong amount b node) (row_of g v)) (sym (now.kept.vertices node within)) (subst (All (LeadsAlong amount b node)) is here) in
      subst (λ (i : ℕ). All (LeadsAlong amount b i) (row_of g (vertex_in b i))) same at_node)
      (cases_lt k node);
}

-- the row of the vertex in a node
pub row_is : (g : Graph) (b : Branches) (node v : ℕ) (row : List Arc) → node < found b → v ≡ get_or b.order.items node v → row ≡ row_of g v → row ≡ row_of g (vertex_in b node)
row_is g b node v row within at is = is ∙ ap (row_of g) (at ∙ get_or_default b.order.items node v 0 within)

pub row_begins : (g : Graph) (amount : ℕ) (b : Branches) (node : ℕ) (row : List Arc) → IsBranching g amount b node → IsInRow g.vertices amount b b node row 0
row_begins g amount b node row h = record { search = h.search; kept = keeps_all b; arcs = λ j l. absurd (omega (arith, l)) }

-- a search with all of its nodes to go
pub none_done : (g : Graph) (amount n : ℕ) (b : Branches) → n ≡ g.vertices → IsSearch n b → IsBranching g amount b 0
none_done g amount n b is s = record {
  search = subst (λ (k : ℕ). IsSearch k b) is s;
  done_found = omega arith;
  along = λ k l. absurd (omega (arith, l));
}
