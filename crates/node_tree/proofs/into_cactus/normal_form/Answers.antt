use Rattle.node_tree.proofs.into_cactus.normal_form.Goals as goal

pub returns-then-is_filled-clause-normal : goal.returns-then-is_filled-clause-normal
returns-then-is_filled-clause-normal c = c.requires.filled c.if-is_filled.true
