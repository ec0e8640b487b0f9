-- One vertex more is in the set.
use Rattle.std.proofs.Common.{◌∙◌, [], refl, sym}
use Rattle.cut_definitions.specs.Cuts.{has}
use Rattle.std.proofs.lemmas.List.{take_all}
use Rattle.vertex_set.proofs.Bits.{listed-none}
use Rattle.least_cut.proofs.FoundCuts.{listed_more}
use Rattle.least_cut.proofs.lightest.side_of.Goals as goal

pub loop-v-init : goal.loop-v-init
loop-v-init c = c.in_ok-side.ensures ∙ sym (listed-none c.args.n (has []) (λ v. refl))

pub loop-v-preserved : goal.loop-v-preserved
loop-v-preserved c = listed_more c.args.n c.args.vertices.now c.loop-v.v-index c.loop-v.side c.insert.new.self c.loop-v-test.true c.loop-v.invariant c.insert.ensures

pub insert-requires-clause-from_one : goal.insert-requires-clause-from_one
insert-requires-clause-from_one c = (c.requires c.loop-v.v-index 0 c.loop-v-test.true).0

pub insert-requires-clause-to_n : goal.insert-requires-clause-to_n
insert-requires-clause-to_n c = rw c.loop-v.invariant (c.requires c.loop-v.v-index 0 c.loop-v-test.true).1

pub returns : goal.returns
returns c = rw (take_all c.loop-v.v-index c.args.vertices.now c.loop-v-test.false) at c.loop-v.invariant
