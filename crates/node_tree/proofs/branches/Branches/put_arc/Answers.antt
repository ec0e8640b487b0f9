-- A vertex that was not found gets a node that hangs from that of the arc.
use Rattle.std.proofs.Common.{inr, arith}
use Rattle.cut_definitions.proofs.Bools.{contrary}
use Rattle.node_tree.proofs.Branching.{put_hangs, put_keeps, put_search}
use Rattle.node_tree.proofs.branches.Branches.put_arc.Goals as goal

pub returns : goal.returns
returns c = λ yes n search one to_n.
    let b = c.args.self.now in
    let b' = c.put.new.self in
    let v = c.args.arc.to in
    record {
      search = put_search n b b' v c.args.node search c.in_ok-put.ensures one to_n (λ was. contrary (c.has.ensures.1 was) c.if-has.false) c.requires.within;
      kept = put_keeps n b b' v c.args.node search c.in_ok-put.ensures;
      along = record { weighs = c.if-arc-weight.false; along = inr (put_hangs n b b' v c.args.node search c.in_ok-put.ensures (omega (arith, c.requires.within))) };
    }
