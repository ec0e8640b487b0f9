use Rattle.std.proofs.Common.{◌≡◌, ◌++◌, ◌∙◌, replicate, ap, arith}
use Rattle.metis_reader.proofs.mass_list.write_ones.Goals as goal

pub returns-clause-items : goal.returns-clause-items
returns-clause-items c =
    let end : c.loop-i._i ≡ c.args.ones = omega arith in
    c.loop-i.invariant.items ∙ ap (λ n. c.args.masses.now.items ++ replicate n 1) end
