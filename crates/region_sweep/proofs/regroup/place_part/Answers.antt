-- A part that enters, and one that gets the fresh label.
use Rattle.std.proofs.Common.{◌≡◌, ℕ, ◌<◌, ◌≤◌, inl, ⊎_elim, List, [], ◌∷◌, length, get_or, refl, sym, ◌∙◌, arith}
use Rattle.std.specs.Prelude.{◌≢◌}
use Rattle.std.proofs.lemmas.Bool.{eq-eqb, eqb-true, false≢true}
use Rattle.cut_definitions.proofs.ListLaws.{labelled_to_n}
use Rattle.node_tree.specs.Homes.{HomesState}
use Rattle.region_fronts.specs.Listed.{IsPartList}
use Rattle.region_sweep.specs.Regrouping.{IsPlaced}
use Rattle.region_sweep.proofs.Refining.{feed_same, refined_same}
use Rattle.region_sweep.proofs.Regrouping.{listed_at, may_be_cut_off, place_entered, place_fresh}
use Rattle.region_sweep.proofs.regroup.place_part.Goals as goal

none_listed : (numbers list : List ℕ) (i : ℕ) → IsPartList numbers i list → length list ≡ 0 → (v : ℕ) → get_or numbers v 0 ≡ i → ⊥
none_listed numbers [] i part empty v e = false≢true (part.exact v ∙ eq-eqb (get_or numbers v 0) i e)
none_listed numbers (u ∷ list) i part empty v e = omega (arith, empty)

place_nothing : (numbers labels list : List ℕ) (h : HomesState) (i node fresh : ℕ) → IsPartList numbers i list → length list ≡ 0 → IsPlaced numbers labels labels h h i node fresh fresh
place_nothing numbers labels list h i node fresh part empty =
    let none = none_listed numbers list i part empty in
    record {
      label = 0;
      which = inl (refl, refl);
      given = λ v e. absurd (none v e);
      kept = λ v other. refl;
      alone = λ zero u v e. absurd (none u e);
      homes = λ v e. absurd (none v e);
      entered_kept = λ v other. refl;
      regions_kept = λ q other. refl;
      lengths = record { entered = refl; regions = refl };
    }

pub enter-requires : goal.enter-requires
enter-requires c =
    let numbers = c.args.parted.parts.now.numbers in
    let list = c.part-list.result.now in
    let part : IsPartList numbers c.args.i list = rw c.part-list.ensures c.requires.list in
    let at = listed_at numbers list c.args.i 0 0 part (omega (arith, c.if-list-eq1.true)) in
    omega (arith, labelled_to_n numbers c.args.parted.graph.now.vertices (get_or list 0 0) c.requires.numbers (omega (arith, at, c.requires.from_one)), c.requires.entered)

pub returns-then-i-ne-FIRST_PART-clause-placed : goal.returns-then-i-ne-FIRST_PART-clause-placed
returns-then-i-ne-FIRST_PART-clause-placed c =
    let numbers = c.args.parted.parts.now.numbers in
    let list = c.part-list.result.now in
    let part : IsPartList numbers c.args.i list = rw c.part-list.ensures c.requires.list in
    let at = listed_at numbers list c.args.i 0 0 part (omega (arith, c.if-list-eq1.true)) in
    let room : get_or list 0 0 < length c.args.homes.now.entered =
    omega (arith, labelled_to_n numbers c.args.parted.graph.now.vertices (get_or list 0 0) c.requires.numbers (omega (arith, at, c.requires.from_one)), c.requires.entered) in
    rw c.enter.ensures (place_entered numbers c.args.flow.now.labels c.cut_off.new.self.labels list c.args.homes.now c.args.i c.args.node c.args.fresh part c.cut_off.ensures.labels
    c.if-list-eq1.true (omega (arith, c.requires.from_one, c.if-i-ne-FIRST_PART.true)) room)

pub cut_off-requires-2-clause-may : goal.cut_off-requires-2-clause-may
cut_off-requires-2-clause-may c =
    let numbers = c.args.parted.parts.now.numbers in
    let list = c.part-list.result.now in
    let part : IsPartList numbers c.args.i list = rw c.part-list.ensures c.requires.list in
    may_be_cut_off numbers c.args.flow.now.labels list c.args.i c.args.parted.region c.args.fresh part c.requires.outside c.requires.region c.requires.inside c.requires.fresh

pub returns-clause-placed : goal.returns-clause-placed
returns-clause-placed c =
    let numbers = c.args.parted.parts.now.numbers in
    let list = c.part-list.result.now in
    let part : IsPartList numbers c.args.i list = rw c.part-list.ensures c.requires.list in
    let some : length list ≢ 0 = λ e. false≢true (sym c.if-is_empty.false ∙ c.is_empty.ensures ∙ eq-eqb (length list) 0 e) in
    let two : 2 ≤ c.args.i → 2 ≤ length list = λ l. ⊎_elim
    (λ (e : length list ≡ 1 × c.args.i ≡ 1). absurd (omega (arith, l, e.1)))
    (λ (ne : length list ≢ 1). omega (arith, some, ne))
    c.else-list-eq1.either in
    rw c.put_region.ensures (place_fresh numbers c.args.flow.now.labels c.cut_off-2.new.self.labels list c.args.homes.now c.args.i c.args.node c.args.fresh part c.cut_off-2.ensures.labels
    (omega (arith, some)) two (omega (arith, c.requires.region)) (omega (arith, c.requires.fits, c.requires.regions)))

pub returns-then-is_empty-clause-flow : goal.returns-then-is_empty-clause-flow
returns-then-is_empty-clause-flow c = c.requires.flow

pub returns-then-is_empty-clause-placed : goal.returns-then-is_empty-clause-placed
returns-then-is_empty-clause-placed c =
    let numbers = c.args.parted.parts.now.numbers in
    let list = c.part-list.result.now in
    let part : IsPartList numbers c.args.i list = rw c.part-list.ensures c.requires.list in
    let empty : length list ≡ 0 = eqb-true (length list) 0 (sym c.is_empty.ensures ∙ c.if-is_empty.true) in
    place_nothing numbers c.args.flow.now.labels list c.args.homes.now c.args.i c.args.node c.args.fresh part empty

pub returns-then-is_empty-clause-refined : goal.returns-then-is_empty-clause-refined
returns-then-is_empty-clause-refined c = refined_same c.args.flow.now.labels

pub returns-then-is_empty-clause-fed : goal.returns-then-is_empty-clause-fed
returns-then-is_empty-clause-fed c = feed_same c.args.parted.graph.now c.args.flow.now

pub cut_off-requires-clause-flow : goal.cut_off-requires-clause-flow
cut_off-requires-clause-flow c = c.requires.flow

pub cut_off-requires-clause-may : goal.cut_off-requires-clause-may
cut_off-requires-clause-may c =
    let numbers = c.args.parted.parts.now.numbers in
    let list = c.part-list.result.now in
    let part : IsPartList numbers c.args.i list = rw c.part-list.ensures c.requires.list in
    record {
      outside = c.requires.outside;
      other = λ e. absurd (omega (arith, e, c.requires.outside));
      inside = λ j d l. c.requires.inside (get_or list j d) (listed_at numbers list c.args.i j d part l);
      apart = part.apart;
      unused = inl refl;
    }

pub bounds-list-0 : goal.bounds-list-0
bounds-list-0 c = omega (arith, c.if-list-eq1.true)

pub returns-then-i-ne-FIRST_PART-clause-flow : goal.returns-then-i-ne-FIRST_PART-clause-flow
returns-then-i-ne-FIRST_PART-clause-flow c = c.cut_off.ensures.flow

pub returns-then-i-ne-FIRST_PART-clause-fed : goal.returns-then-i-ne-FIRST_PART-clause-fed
returns-then-i-ne-FIRST_PART-clause-fed c = c.cut_off.ensures.fed

pub cut_off-requires-2-clause-flow : goal.cut_off-requires-2-clause-flow
cut_off-requires-2-clause-flow c = c.requires.flow

pub put_region-requires : goal.put_region-requires
put_region-requires c = omega (arith, c.requires.fits, c.requires.regions)

pub overflow_add-result : goal.overflow_add-result
overflow_add-result c = omega (arith, c.requires.fits, c.n-n.ensures.edge_list.few_vertices)

pub returns-clause-flow : goal.returns-clause-flow
returns-clause-flow c = c.cut_off-2.ensures.flow

pub returns-clause-fed : goal.returns-clause-fed
returns-clause-fed c = c.cut_off-2.ensures.fed
