-- One share after another.
use Rattle.std.proofs.Common.{◌∷◌, [], length, ap, arith}
use Rattle.std.proofs.lemmas.List.{length-append}
use Rattle.cut_definitions.proofs.ListLaws.{popped_is}
use Rattle.region_sweep.proofs.ShareLaws.{behind_more, behind_none, last_share, shares_left}
use Rattle.region_sweep.proofs.sweep.Sweep.graft_all.Goals as goal

pub graft_owned-requires-clause-share : goal.graft_owned-requires-clause-share
graft_owned-requires-clause-share c =
    let xs = c.shares.shares.items in
    let rest = c.pop.new.self.items in
    last_share c.args.graph.now c.shares.self.flow.labels xs rest c.in-Some.share (popped_is xs rest c.pop.result c.in-Some.share c.pop.ensures.items c.in-Some.is) c.shares.invariant.each

pub shares-preserved : goal.shares-preserved
shares-preserved c =
    let xs = c.shares.shares.items in
    let rest = c.pop.new.self.items in
    let is = popped_is xs rest c.pop.result c.in-Some.share c.pop.ensures.items c.in-Some.is in
    let left = c.in_ok-graft_owned.ensures.left in
    let next = shares_left c.args.graph.now c.shares.self.flow.labels c.graft_owned.new.self.flow.labels xs rest c.in-Some.share is c.shares.invariant.each c.shares.invariant.apart left in
    record {
      under_way = c.in_ok-graft_owned.ensures.under_way;
      each = next.0;
      apart = next.1;
      left = behind_more c.args.self.now.flow.labels c.shares.self.flow.labels c.graft_owned.new.self.flow.labels c.args.shares.items xs rest c.in-Some.share is c.shares.invariant.left left;
    }

pub shares-init : goal.shares-init
shares-init c = record {
  under_way = c.requires.under_way;
  each = c.requires.shares;
  apart = c.requires.apart;
  left = behind_none c.args.self.now.flow.labels c.args.shares.items;
}

pub shares-smaller : goal.shares-smaller
shares-smaller c =
    let xs = c.shares.shares.items in
    let rest = c.pop.new.self.items in
    omega (arith, ap length (popped_is xs rest c.pop.result c.in-Some.share c.pop.ensures.items c.in-Some.is), length-append rest (c.in-Some.share ∷ []))
