use Rattle.std.proofs.Common.{◌≡◌, ◌++◌, ◌∙◌, replicate, ap, arith}
use Rattle.metis_reader.proofs.waiting.add_places.Goals as goal

pub returns-clause-items : goal.returns-clause-items
returns-clause-items c =
    let end : c.loop-i._i ≡ 1024 = omega arith in
    c.loop-i.invariant.items ∙ ap (λ n. c.args.packed.now.items ++ replicate n 0) end
