use Rattle.rooted_cactus.specs.Trees.{nodes_in}
use Rattle.cactus_growth.proofs.Toward.{toward_step}
use Rattle.cactus_growth.proofs.growing.dissolve.Goals as goal

pub returns-clause-toward : goal.returns-clause-toward
returns-clause-toward c = λ v old once inside h.
    toward_step v old c.args.top c.args.node c.in_ok-opened.opened.top c.in_ok-top.top c.in_ok-top-2.top c.in_ok-top-3.top c.in_ok-opened.child (nodes_in c.in_ok-opened.opened.before) (nodes_in c.in_ok-opened.opened.after)
    c.in_ok-opened.ensures.opened c.in_ok-top.ensures c.in_ok-top-2.ensures c.in_ok-top-3.ensures once inside h
