-- A vertex more is at the border.
use Rattle.arc_search.proofs.SideLists.{border_more}
use Rattle.arc_search.proofs.side_listing.put.Goals as goal

pub returns-clause-border : goal.returns-clause-border
returns-clause-border c = λ n h.
    border_more n c.args.v c.args.border.now.items c.push.new.self.items c.args.at_border.now c.in_ok-push.ensures.items c.requires.from_one c.requires.at_border c.if-at_border-v.false h
