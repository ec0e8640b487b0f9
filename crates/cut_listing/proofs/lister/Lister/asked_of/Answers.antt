use Rattle.std.proofs.Common.{◌≡◌, ◌++◌, refl, sym, ◌∙◌, ap, subst, append-nil}
use Rattle.std.specs.List.{All, filter}
use Rattle.std.proofs.lemmas.List.Elements.{All-nil, All-head, All-tail}
use Rattle.cut_definitions.specs.Cuts.{IsAscendingWithin}
use Rattle.vertex_set.specs.Side.{VertexList, members_of}
use Rattle.cut_listing.specs.Asks.{lets}
use Rattle.cut_listing.proofs.Passes.{gathered}
use Rattle.cut_listing.proofs.lister.Lister.asked_of.Goals as goal

pub sides-init : goal.sides-init
sides-init g c = record {
  walk = c.requires.walk;
  room = ap (λ (s : VertexList). s.vertices) c.in_ok-room.ensures;
  over_n = rw c.new-found.ensures.items (All-nil (λ (s : VertexList). s.vertices ≡ c.args.self.now.n));
  ascending = c.requires.ascending;
  listed = rw c.new-found.ensures.items refl;
}

pub keep-requires-clause-room : goal.keep-requires-clause-room
keep-requires-clause-room g c =
    let within = IsAscendingWithin 1 c.args.self.now.n in
    record {
      vertices = c.sides-test.ensures.room ∙ c.sides.invariant.room;
      ascending = All-head within c.next.new.room.members c.next.new.self.to_come (subst (All within) (c.sides-test.ensures.some refl) c.sides.invariant.ascending);
    }

pub sides-preserved : goal.sides-preserved
sides-preserved g c =
    let within = IsAscendingWithin 1 c.args.self.now.n in
    let asked = lets c.args.self.now.ask in
    let one_more = c.sides-test.ensures.some refl in
    let same = gathered asked (members_of c.sides.found.items) (members_of c.keep.new.found.items) c.sides.walk.to_come c.next.new.self.to_come c.next.new.room.members
    one_more c.in_ok-room-2.ensures.kept in
    record {
      walk = c.sides-test.ensures.n ∙ c.sides.invariant.walk;
      room = c.in_ok-room-2.ensures.room;
      over_n = c.in_ok-room-2.ensures.found;
      ascending = All-tail within c.next.new.room.members c.next.new.self.to_come (subst (All within) one_more c.sides.invariant.ascending);
      listed = same ∙ c.sides.invariant.listed;
    }

pub returns-clause-asked : goal.returns-clause-asked
returns-clause-asked g c =
    let asked = lets c.args.self.now.ask in
    let found = members_of c.sides.found.items in
    sym (append-nil found) ∙ ap (λ l. found ++ filter asked l) (sym (c.sides-test.ensures.none refl)) ∙ c.sides.invariant.listed
