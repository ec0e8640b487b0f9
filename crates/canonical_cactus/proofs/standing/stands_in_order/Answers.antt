use Rattle.canonical_cactus.proofs.standing.stands_in_order.Goals as goal

pub all_stand-requires : goal.all_stand-requires
all_stand-requires c = (c.args.root.now, c.in_ok-nodes.ensures.walk)
