-- The steps of the sweep keep what holds between them.
use Rattle.std.proofs.Common.{◌≡◌, ℕ, Bool, ◌≤◌, ⊎_elim, List, get_or, sym, ◌∙◌, ap, arith}
use Rattle.std.specs.Prelude.{◌≢◌, ◌==◌, if◌then◌else◌}
use Rattle.std.proofs.lemmas.Bool.{cases_eq, eq-eqb, ne_eqb}
use Rattle.std.proofs.lemmas.List.{get_or-set_other}
use Rattle.cut_definitions.proofs.ListLaws.{entry_kept}
use Rattle.node_tree.specs.Flat.{sets_of, AreMade}
use Rattle.node_tree.specs.Laws.{region_of}
use Rattle.node_tree.specs.Sweeping.{LawOfSweepStart, LawOfSweepEntering, LawOfSweepSplitting}
use Rattle.region_sweep.proofs.Splitting.{start, entering, splitting, parts}
use Rattle.node_tree.proofs.Making.{making}

pub sweep_start : LawOfSweepStart
sweep_start g labels a nodes single homes root others = record {
  entered = root;
  nodes = nodes;
  cuts = start g labels (sets_of a) single others;
  one_home = λ u v u1 un v1 vn one same. homes u ∙ sym (homes v);
}

pub sweep_entering : LawOfSweepEntering
sweep_entering g labels a t amount ok sw two to_n outside some hs weighs stop = record {
  entered = let ne : 1 ≢ t = λ e. absurd (omega (arith, e, two)) in get_or-set_other labels t 1 0 0 ne ∙ sw.entered;
  nodes = sw.nodes;
  cuts = entering g labels (sets_of a) t amount ok sw.cuts (omega arith) to_n outside some hs weighs stop;
  one_home = λ u v u1 un v1 vn one same.
      let e = entry_kept labels t u one in
      let f = entry_kept labels t v (omega (arith, one, same)) in
      sw.one_home u v u1 un v1 vn (omega (arith, one, e)) (sym e ∙ same ∙ f);
}

-- what becomes of the home of a vertex by whether it is in the region
home_inside : (labels : List ℕ) (v r a b c : ℕ) → a ≡ (if get_or labels v 0 == r then b else c) → get_or labels v 0 ≡ r → a ≡ b
home_inside labels v r a b c is e = is ∙ ap (λ (k : Bool). if k then b else c) (eq-eqb (get_or labels v 0) r e)

home_outside : (labels : List ℕ) (v r a b c : ℕ) → a ≡ (if get_or labels v 0 == r then b else c) → get_or labels v 0 ≢ r → a ≡ c
home_outside labels v r a b c is ne = is ∙ ap (λ (k : Bool). if k then b else c) (ne_eqb (get_or labels v 0) r ne)

pub sweep_splitting : LawOfSweepSplitting
sweep_splitting g labels labels' a a' t amount count part at ok sw one to_n outside some hs weighs light linked first homes total re finer root =
    let n = g.vertices in
    let region = get_or labels t 0 in
    let ch = parts g labels t count amount part ok outside some hs weighs light in
    let in_node : (v : ℕ) → 1 ≤ v → v ≤ n → get_or labels v 0 ≡ region → a.homes v ≡ a.homes t =
    λ v v1 vn e. sw.one_home v t v1 vn one to_n (omega (arith, e, outside)) e in
    let inner : (v : ℕ) → 1 ≤ v → v ≤ n → 2 ≤ part v → get_or labels v 0 ≡ region = λ v v1 vn l. ⊎_elim
    (λ e. e)
    (λ (ne : get_or labels v 0 ≢ region). let p = light.outside v v1 vn ne in absurd (omega (arith, p, l)))
    (cases_eq (get_or labels v 0) region) in
    let made : AreMade g count part at (a.homes t) a a' = record {
      linked = linked;
      home = λ v v1 vn l. in_node v v1 vn (inner v v1 vn l);
      homes_first = λ v v1 vn l. ⊎_elim
          (λ (e : get_or labels v 0 ≡ region).
          let p : part v ≡ 1 = let low = light.numbered.from_one v v1 vn in omega (arith, low, l) in
          home_inside labels v region (a'.homes v) (at (part v)) (a.homes v) (homes v v1 vn) e ∙ ap at p ∙ first ∙ sym (in_node v v1 vn e))
          (λ (ne : get_or labels v 0 ≢ region). home_outside labels v region (a'.homes v) (at (part v)) (a.homes v) (homes v v1 vn) ne)
          (cases_eq (get_or labels v 0) region);
      homes_later = λ v v1 vn l. home_inside labels v region (a'.homes v) (at (part v)) (a.homes v) (homes v v1 vn) (inner v v1 vn l);
    } in
    let new = making g (region_of labels region) t count part at (a.homes t) a a' ch sw.nodes made total in
    record {
      entered = root;
      nodes = new.0;
      cuts = splitting g labels labels' (sets_of a) (sets_of a') region t count part at ok sw.cuts outside sw.entered ch new.1 new.2 re;
      one_home = λ u v u1 un v1 vn above same.
          let both = finer u v u1 un v1 vn above same in
          ⊎_elim
          (λ (e : get_or labels u 0 ≡ region).
          home_inside labels u region (a'.homes u) (at (part u)) (a.homes u) (homes u u1 un) e ∙ ap at both.1
          ∙ sym (home_inside labels v region (a'.homes v) (at (part v)) (a.homes v) (homes v v1 vn) (sym both.0 ∙ e)))
          (λ (ne : get_or labels u 0 ≢ region).
          let before : 1 ≤ get_or labels u 0 = let k = re.kept u u1 un ne in omega (arith, k, above) in
          home_outside labels u region (a'.homes u) (at (part u)) (a.homes u) (homes u u1 un) ne ∙ sw.one_home u v u1 un v1 vn before both.0
          ∙ sym (home_outside labels v region (a'.homes v) (at (part v)) (a.homes v) (homes v v1 vn) (λ e. ne (both.0 ∙ e))))
          (cases_eq (get_or labels u 0) region);
    }
