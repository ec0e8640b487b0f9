use Rattle.std.proofs.Common.{◌≤◌, ◌+◌, List, ℕ, set, sym, subst}
use Rattle.certified_growth.specs.Turns.{AreTurns}
use Rattle.certified_growth.proofs.Turning.{turned, told_more, root_stays, from_label}
use Rattle.certified_growth.proofs.growing.Growing.enter.Goals as goal

pub returns-clause-growing : goal.returns-clause-growing
returns-clause-growing c =
    let s = c.args.self.now in
    let g = c.args.graph.now in
    let h = c.requires.growing in
    let one : 1 ≤ c.args.t = from_label s.flow.labels c.args.t h.flow.nobody c.requires.outside in
    record {
      flow = c.enter.ensures.flow;
      room = h.room;
      turns = subst (λ (xs : List ℕ). AreTurns g c.args.least c.args.owners.now s.own (set s.turns.items c.args.t (s.count + 1)) xs (s.count + 1)) (sym c.in_ok-add_all.ensures)
          (turned g c.args.least c.args.owners.now s.own s.count c.args.t s.flow.labels s.turns.items s.leaves.items h.turns h.told
          one c.requires.to_n c.requires.outside c.args.noted.now c.requires.own c.requires.next);
      told = told_more g c.args.least c.args.owners.now s.own s.count c.args.t s.flow.labels s.turns.items s.leaves.items h.turns h.told
          one c.requires.to_n c.requires.outside c.enter.new.self.labels c.enter.ensures.labels h.flow.labels_length;
      waiting = c.in_ok-wait_beside.ensures;
      owners_long = h.owners_long;
      root_to_n = h.root_to_n;
      root_first = root_stays g c.args.least c.args.owners.now s.own s.count c.args.t s.flow.labels s.turns.items s.leaves.items h.turns h.told
          one c.requires.to_n c.requires.outside s.root h.root_first;
    }
