-- A place of a list that stays, or of the front.
use Rattle.std.proofs.Common.{◌≡◌, ℕ, Option, None, Some, IfSome, sym, ◌∙◌, refl, arith}
use Rattle.region_parts.specs.Split.{half_of}
use Rattle.region_parts.proofs.Passing.{no_entry, vertex_beside}
use Rattle.region_parts.proofs.RacesAround.{front_read}
use Rattle.region_parts.proofs.splitter.Splitter.vertex_at.Goals as goal

pub returns-in-Border-clause-vertex : goal.returns-in-Border-clause-vertex
returns-in-Border-clause-vertex c =
    vertex_beside c.in-Border.side c.args.region.graph.now c.args.region.flow.now c.args.region.t c.args.self.now c.args.place c.beside.result c.requires.between c.beside.ensures.at

pub returns-in-Border-clause-end : goal.returns-in-Border-clause-end
returns-in-Border-clause-end c = λ none. rw c.in-Border.is (no_entry (half_of c.in-Border.side c.args.self.now).border c.args.place (sym c.beside.ensures.at ∙ none))

pub returns-in-Front-clause-front : goal.returns-in-Front-clause-front
returns-in-Front-clause-front c =
    front_read c.args.region.graph.now c.args.region.flow.now c.args.region.t c.args.fronts.now c.read.new.self c.requires.front c.read.ensures.vertices (rw c.labels.ensures at c.read.ensures.kept)

found_is : (r l : Option ℕ) → r ≡ l → IfSome r (λ v. l ≡ Some v)
found_is None l e = tt
found_is (Some v) l e = sym e

pub read-requires : goal.read-requires
read-requires c = rw c.labels.ensures (omega (arith, c.requires.flow.labels_length, c.requires.front.vertices))

pub returns-in-Border-clause-front : goal.returns-in-Border-clause-front
returns-in-Border-clause-front c = c.requires.front

pub returns-in-Border-clause-at : goal.returns-in-Border-clause-at
returns-in-Border-clause-at c = rw c.in-Border.is (found_is c.beside.result _ c.beside.ensures.at)

pub returns-in-Border-clause-next : goal.returns-in-Border-clause-next
returns-in-Border-clause-next c = c.beside.ensures.next

pub returns-in-Border-clause-read : goal.returns-in-Border-clause-read
returns-in-Border-clause-read c = record { before = refl; shorter = omega arith; same = λ side e. refl }

pub returns-in-Front-clause-at : goal.returns-in-Front-clause-at
returns-in-Front-clause-at c = rw (c.in-Front.is, ← c.label.ensures) c.read.ensures.at

pub returns-in-Front-clause-next : goal.returns-in-Front-clause-next
returns-in-Front-clause-next c = c.read.ensures.next

pub returns-in-Front-clause-end : goal.returns-in-Front-clause-end
returns-in-Front-clause-end c = rw (c.in-Front.is, ← c.label.ensures) c.read.ensures.none

pub returns-in-Front-clause-read : goal.returns-in-Front-clause-read
returns-in-Front-clause-read c = record {
  before = rw (c.in-Front.is, ← c.label.ensures) c.read.ensures.before;
  shorter = rw (c.in-Front.is, ← c.label.ensures) c.read.ensures.no_longer;
  same = λ side e. cc (sym c.in-Front.is ∙ e);
}

pub label-requires : goal.label-requires
label-requires c = omega (arith, c.requires.between.region.at_border.to_n, c.requires.flow.labels_length)
