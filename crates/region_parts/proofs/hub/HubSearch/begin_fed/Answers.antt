-- One entry more is looked at.
use Rattle.std.proofs.Common.{◌≡◌, ◌≢◌, ℕ, ◌≤◌, get_or, refl, ◌∙◌, ap, arith}
use Rattle.region_parts.specs.declared.hub.Hub.TheVariants.{Outside}
use Rattle.region_fronts.specs.Fronts.{list_at}
use Rattle.region_parts.proofs.HubSteps.{hub_more, fronts_more, fronts_read, begun_read, begun_more}
use Rattle.region_parts.proofs.hub.HubSearch.begin_fed.Goals as goal

pub loop-preserved : goal.loop-preserved
loop-preserved c =
    let inv = c.loop.invariant in
    let g = c.args.region.graph.now in
    let f = c.args.region.flow.now in
    let t = c.args.region.t in
    let r = get_or f.labels t 0 in
    let v = c.in-Some.v in
    let read = c.in-Some.ensures in
    let look = c.look_at.ensures in
    let s = c.loop.self in
    let new = c.look_at.new.self in
    let label = c.label.ensures in
    let old_list = list_at c.loop.fronts.lists r in
    let new_list = list_at c.read.new.self.lists r in
    let inside : get_or f.labels v 0 ≡ r = (rw c.labels.ensures at read.some) ∙ label in
    let some : v ≢ 0 = λ e. absurd (omega (arith, c.requires.outside, c.requires.flow.nobody, inside, ap (λ (k : ℕ). get_or f.labels k 0) e)) in
    let le : v ≤ g.vertices = omega (arith, read.to_n, read.vertices, inv.fronts.vertices, c.requires.vertices) in
    record {
      goes_on = hub_more c.args.self.now s new inv.goes_on look.goes_on;
      long = look.long ∙ inv.long;
      fronts = fronts_more f.labels Outside Outside c.args.fronts.now c.loop.fronts c.read.new.self refl inv.fronts (fronts_read f.labels c.loop.fronts c.read.new.self read.vertices (rw c.labels.ensures at read.kept));
      begun = λ h. begun_more f t new_list s new v look.goes_on look.place (rw label at read.at) look.begun
          (begun_read f t old_list new_list s (rw label at read.before) (rw label at read.no_longer) (inv.begun h));
      search = λ turns free h. look.search g turns (omega (arith, some)) le (free v) (inv.search turns free h);
    }

pub returns-in-None-clause-begun : goal.returns-in-None-clause-begun
returns-in-None-clause-begun c = λ h.
    let f = c.args.region.flow.now in
    let t = c.args.region.t in
    let r = get_or f.labels t 0 in
    let label = c.label.ensures in
    let read = c.in-None.ensures in
    begun_read f t (list_at c.loop.fronts.lists r) (list_at c.read.new.self.lists r) c.loop.self (rw label at read.before) (rw label at read.no_longer) (c.loop.invariant.begun h)

pub returns-in-None-clause-fronts : goal.returns-in-None-clause-fronts
returns-in-None-clause-fronts c =
    let labels = c.args.region.flow.now.labels in
    let read = c.read.ensures in
    fronts_more labels Outside Outside c.args.fronts.now c.loop.fronts c.read.new.self refl c.loop.invariant.fronts
    (fronts_read labels c.loop.fronts c.read.new.self read.vertices (rw c.labels.ensures at read.kept))

pub loop-init : goal.loop-init
loop-init c = record {
  goes_on = record { same = refl; seen_kept = λ v is. is; unread = λ no. refl };
  long = refl;
  fronts = record { vertices = refl; kept = λ v at. at; same = λ no. refl };
  begun = λ h. h;
  search = λ turns free h. h;
}

pub label-requires : goal.label-requires
label-requires c = omega (arith, c.requires.to_n, c.requires.flow.labels_length)

pub read-requires : goal.read-requires
read-requires c = rw c.labels.ensures (omega (arith, c.requires.flow.labels_length, c.loop.invariant.fronts.vertices, c.requires.vertices))

pub returns-in-None-clause-goes_on : goal.returns-in-None-clause-goes_on
returns-in-None-clause-goes_on c = c.loop.invariant.goes_on

pub returns-in-None-clause-all : goal.returns-in-None-clause-all
returns-in-None-clause-all c = λ is. rw c.label.ensures at (c.read.ensures.none c.in-None.is)

pub returns-in-None-clause-search : goal.returns-in-None-clause-search
returns-in-None-clause-search c = c.loop.invariant.search

pub look_at-requires-clause-within : goal.look_at-requires-clause-within
look_at-requires-clause-within c =
    let inv = c.loop.invariant in
    let read = c.in-Some.ensures in
    omega (arith, read.to_n, read.vertices, inv.fronts.vertices, inv.long, c.requires.vertices, c.requires.seen)

pub look_at-requires-clause-feed : goal.look_at-requires-clause-feed
look_at-requires-clause-feed c =
    let read = c.in-Some.ensures in
    omega (arith, read.to_n, read.vertices, c.loop.invariant.fronts.vertices, c.requires.vertices, c.requires.flow.feed_length)

pub look_at-requires-clause-inside : goal.look_at-requires-clause-inside
look_at-requires-clause-inside c = (rw c.labels.ensures at c.in-Some.ensures.some) ∙ c.label.ensures

pub look_at-requires-clause-hub : goal.look_at-requires-clause-hub
look_at-requires-clause-hub c = c.loop.invariant.goes_on.same ∙ c.requires.hub

pub look_at-requires-clause-next : goal.look_at-requires-clause-next
look_at-requires-clause-next c = c.in-Some.ensures.next

pub returns-clause-goes_on : goal.returns-clause-goes_on
returns-clause-goes_on c = c.loop.invariant.goes_on

pub returns-clause-fronts : goal.returns-clause-fronts
returns-clause-fronts c = c.loop.invariant.fronts

pub returns-clause-begun : goal.returns-clause-begun
returns-clause-begun c = c.loop.invariant.begun

pub returns-clause-all : goal.returns-clause-all
returns-clause-all c = λ is. cc

pub returns-clause-search : goal.returns-clause-search
returns-clause-search c = c.loop.invariant.search
