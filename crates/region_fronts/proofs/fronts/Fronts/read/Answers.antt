-- An entry that has another label is taken out.
use Rattle.std.proofs.Common.{ℕ, ◌≢◌, ◌<◌, length, get_or, take, ap, sym, ◌∙◌, arith}
use Rattle.std.specs.Prelude.{Some}
use Rattle.std.proofs.lemmas.Option.{slice_get-get_or}
use Rattle.region_fronts.specs.Fronts.{list_at}
use Rattle.region_fronts.proofs.FrontLists.{shrunk_here, shrunk_other, removed_before, removed_length, stale_kept}
use Rattle.region_fronts.proofs.fronts.Fronts.read.Goals as goal

pub loop-self-preserved : goal.loop-self-preserved
loop-self-preserved c =
    let f = c.loop-self.self in
    let inv = c.loop-self.invariant in
    let region = c.args.region in
    let place = c.args.place in
    let labels = c.args.labels.now in
    let xs = list_at f.lists region in
    let l : place < length xs = omega (arith, c.loop-self-test.true, c.count.ensures) in
    let here = shrunk_here f.lists region place l in
    let stale : get_or labels (get_or xs place 0) 0 ≢ region = λ e. c.if-label-region.false (c.label.ensures ∙ ap (λ k. get_or labels k 0) c.at-v.ensures.value ∙ e) in
    rw c.take_out.ensures
    (record {
      vertices = inv.vertices;
      before = ap (take place) here ∙ removed_before xs place l ∙ inv.before;
      no_longer = omega (arith, ap length here, removed_length xs place l, inv.no_longer);
      others = λ other ne. shrunk_other f.lists region place other ne ∙ inv.others other ne;
      kept = λ v h. stale_kept labels f region place l stale v (inv.kept v h);
    })

pub returns-then-label-region-clause-at : goal.returns-then-label-region-clause-at
returns-then-label-region-clause-at c =
    let xs = list_at c.loop-self.self.lists c.args.region in
    slice_get-get_or xs c.args.place 0 (omega (arith, c.loop-self-test.true, c.count.ensures)) ∙ ap (λ (v : ℕ). Some v) (sym c.at-v.ensures.value)
