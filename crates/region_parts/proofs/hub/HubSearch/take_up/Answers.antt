-- Only a hub outside looks at a front.
use Rattle.std.proofs.Common.{refl}
use Rattle.region_parts.proofs.hub.HubSearch.take_up.Goals as goal

pub begin_fed-requires-clause-flow : goal.begin_fed-requires-clause-flow
begin_fed-requires-clause-flow c = c.requires.flow

pub begin_fed-requires-clause-to_n : goal.begin_fed-requires-clause-to_n
begin_fed-requires-clause-to_n c = c.requires.to_n

pub begin_fed-requires-clause-outside : goal.begin_fed-requires-clause-outside
begin_fed-requires-clause-outside c = c.requires.outside

pub begin_fed-requires-clause-seen : goal.begin_fed-requires-clause-seen
begin_fed-requires-clause-seen c = c.requires.seen

pub begin_fed-requires-clause-vertices : goal.begin_fed-requires-clause-vertices
begin_fed-requires-clause-vertices c = c.requires.vertices

pub returns-then-eq-clause-goes_on : goal.returns-then-eq-clause-goes_on
returns-then-eq-clause-goes_on c = c.begin_fed.ensures.goes_on

pub returns-then-eq-clause-begun : goal.returns-then-eq-clause-begun
returns-then-eq-clause-begun c = c.begin_fed.ensures.begun

pub returns-then-eq-clause-all : goal.returns-then-eq-clause-all
returns-then-eq-clause-all c = λ is out. c.begin_fed.ensures.all is

pub returns-clause-goes_on : goal.returns-clause-goes_on
returns-clause-goes_on c = record { same = refl; seen_kept = λ v is. is; unread = λ no. refl }

pub returns-clause-fronts : goal.returns-clause-fronts
returns-clause-fronts c = record { vertices = refl; kept = λ v at. at; same = λ no. refl }

pub returns-clause-begun : goal.returns-clause-begun
returns-clause-begun c = λ h. h

pub returns-clause-search : goal.returns-clause-search
returns-clause-search c = λ side turns out h. h
