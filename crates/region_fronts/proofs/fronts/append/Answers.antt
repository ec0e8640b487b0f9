use Rattle.std.proofs.lemmas.Result.{err_from_is_err_and}
use Rattle.region_fronts.proofs.FrontLists.{appended, unchanged}
use Rattle.region_fronts.proofs.fronts.append.Goals as goal

pub returns-in_err-push-clause-err : goal.returns-in_err-push-clause-err
returns-in_err-push-clause-err c =
    let p = err_from_is_err_and c.from_residual.result c.from_residual.ensures.1 in
    rw p.1 (unchanged c.args.lists.now.items c.args.region c.index_mut.result.now c.push.new.self c.requires c.index_mut.ensures.value c.in_err-push.ensures.items)

pub returns-clause-ok : goal.returns-clause-ok
returns-clause-ok c = appended c.args.lists.now.items c.args.region c.index_mut.result.now c.push.new.self c.args.v c.requires c.index_mut.ensures.value c.in_ok-push.ensures.items
