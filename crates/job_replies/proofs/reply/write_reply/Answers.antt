use Rattle.std.proofs.Common.{List, map, ap, subst, ◌∙◌, sym}
use Rattle.vertex_set.specs.Side.{VertexList}
use Rattle.flat_cactus.specs.Flat.{Flat}
use Rattle.answer_pages.specs.Growing.{growth_text}
use Rattle.answer_pages.specs.declared.growth_pages.Step.{Step}
use Rattle.answer_pages.specs.Listings.{listing_text}
use Rattle.job_replies.specs.Replies.{text_of, TakesMemory}
use Rattle.job_replies.proofs.Writing.{wrote_by, failed_by}
use Rattle.job_replies.proofs.reply.write_reply.Goals as goal

pub returns-in_ok-crew-in-Cactus-clause-failed : goal.returns-in_ok-crew-in-Cactus-clause-failed
returns-in_ok-crew-in-Cactus-clause-failed g c failed =
    failed_by (text_of c.args.reply.now) _ (g.K.Sink.taken c.args.out.now) (g.K.Sink.taken c.print_text.new.sink) (g.K.Sink.faults c.args.out.now) (g.K.Sink.faults c.print_text.new.sink)
    (ap text_of (sym c.in-Cactus.is)) (c.print_text.ensures.prefix failed) (c.print_text.ensures.rose failed)

pub returns-in_ok-crew-in-Listing-clause-whole : goal.returns-in_ok-crew-in-Listing-clause-whole
returns-in_ok-crew-in-Listing-clause-whole g c =
    let same = ap (λ (xs : List VertexList). listing_text c.in-Listing.value (map (λ (s : VertexList). s.members) xs)) c.deref-in-Listing.ensures.value ∙ ap text_of (sym c.in-Listing.is) in
    wrote_by c.print_text-in-Listing.result (text_of c.args.reply.now) _ (g.K.Sink.taken c.args.out.now) (g.K.Sink.taken c.print_text-in-Listing.new.sink) (g.K.Sink.faults c.args.out.now) (g.K.Sink.faults c.print_text-in-Listing.new.sink)
    same c.print_text-in-Listing.ensures.whole c.print_text-in-Listing.ensures.same_count

pub returns-in_ok-crew-in-Listing-clause-failed : goal.returns-in_ok-crew-in-Listing-clause-failed
returns-in_ok-crew-in-Listing-clause-failed g c failed =
    let same = ap (λ (xs : List VertexList). listing_text c.in-Listing.value (map (λ (s : VertexList). s.members) xs)) c.deref-in-Listing.ensures.value ∙ ap text_of (sym c.in-Listing.is) in
    failed_by (text_of c.args.reply.now) _ (g.K.Sink.taken c.args.out.now) (g.K.Sink.taken c.print_text-in-Listing.new.sink) (g.K.Sink.faults c.args.out.now) (g.K.Sink.faults c.print_text-in-Listing.new.sink)
    same (c.print_text-in-Listing.ensures.prefix failed) (c.print_text-in-Listing.ensures.rose failed)

pub returns-in-Augmentation-clause-failed : goal.returns-in-Augmentation-clause-failed
returns-in-Augmentation-clause-failed g c failed =
    failed_by (text_of c.args.reply.now) _ (g.K.Sink.taken c.args.out.now) (g.K.Sink.taken c.print_text-in-Augmentation.new.sink) (g.K.Sink.faults c.args.out.now) (g.K.Sink.faults c.print_text-in-Augmentation.new.sink)
    (ap text_of (sym c.in-Augmentation.is)) (c.print_text-in-Augmentation.ensures.prefix failed) (c.print_text-in-Augmentation.ensures.rose failed)

pub returns-in_ok-cactus-in-Growth-clause-failed : goal.returns-in_ok-cactus-in-Growth-clause-failed
returns-in_ok-cactus-in-Growth-clause-failed g c failed =
    let value = c.in-Growth.solved.value in
    failed_by (text_of c.args.reply.now) _ (g.K.Sink.taken c.args.out.now) (g.K.Sink.taken c.print_text-in-Growth.new.sink) (g.K.Sink.faults c.args.out.now) (g.K.Sink.faults c.print_text-in-Growth.new.sink)
    (ap (λ (xs : List Step). growth_text xs value c.in_ok-cactus-in-Growth.cactus) c.deref-in-Growth.ensures.value
    ∙ ap (λ (flat : Flat). growth_text c.in-Growth.steps.items value flat) c.in_ok-cactus-in-Growth.ensures ∙ ap text_of (sym c.in-Growth.is))
    (c.print_text-in-Growth.ensures.prefix failed) (c.print_text-in-Growth.ensures.rose failed)

pub returns-in_ok-crew-in-Cactus-clause-whole : goal.returns-in_ok-crew-in-Cactus-clause-whole
returns-in_ok-crew-in-Cactus-clause-whole g c =
    wrote_by c.print_text.result (text_of c.args.reply.now) _ (g.K.Sink.taken c.args.out.now) (g.K.Sink.taken c.print_text.new.sink) (g.K.Sink.faults c.args.out.now) (g.K.Sink.faults c.print_text.new.sink)
    (ap text_of (sym c.in-Cactus.is)) c.print_text.ensures.whole c.print_text.ensures.same_count

pub returns-in_ok-crew-in-Cactus-clause-kept : goal.returns-in_ok-crew-in-Cactus-clause-kept
returns-in_ok-crew-in-Cactus-clause-kept g c = c.print_text.ensures.memory

pub returns-in_ok-crew-in-Cactus-clause-memory : goal.returns-in_ok-crew-in-Cactus-clause-memory
returns-in_ok-crew-in-Cactus-clause-memory g c = λ none. subst TakesMemory (sym c.in-Cactus.is) tt

pub returns-in_ok-crew-in-Listing-clause-kept : goal.returns-in_ok-crew-in-Listing-clause-kept
returns-in_ok-crew-in-Listing-clause-kept g c = c.print_text-in-Listing.ensures.memory

pub returns-in_ok-crew-in-Listing-clause-memory : goal.returns-in_ok-crew-in-Listing-clause-memory
returns-in_ok-crew-in-Listing-clause-memory g c = λ none. subst TakesMemory (sym c.in-Listing.is) tt

pub returns-in-Balanced-clause-whole : goal.returns-in-Balanced-clause-whole
returns-in-Balanced-clause-whole g c =
    wrote_by c.print_text-in-Balanced.result (text_of c.args.reply.now) _ (g.K.Sink.taken c.args.out.now) (g.K.Sink.taken c.print_text-in-Balanced.new.sink) (g.K.Sink.faults c.args.out.now) (g.K.Sink.faults c.print_text-in-Balanced.new.sink)
    (ap text_of (sym c.in-Balanced.is)) c.print_text-in-Balanced.ensures.whole c.print_text-in-Balanced.ensures.same_count

pub returns-in-Balanced-clause-failed : goal.returns-in-Balanced-clause-failed
returns-in-Balanced-clause-failed g c failed =
    failed_by (text_of c.args.reply.now) _ (g.K.Sink.taken c.args.out.now) (g.K.Sink.taken c.print_text-in-Balanced.new.sink) (g.K.Sink.faults c.args.out.now) (g.K.Sink.faults c.print_text-in-Balanced.new.sink)
    (ap text_of (sym c.in-Balanced.is)) (c.print_text-in-Balanced.ensures.prefix failed) (c.print_text-in-Balanced.ensures.rose failed)

pub returns-in-Balanced-clause-kept : goal.returns-in-Balanced-clause-kept
returns-in-Balanced-clause-kept g c = c.print_text-in-Balanced.ensures.memory

pub returns-in-Balanced-clause-memory : goal.returns-in-Balanced-clause-memory
returns-in-Balanced-clause-memory g c = λ none. subst TakesMemory (sym c.in-Balanced.is) tt

pub returns-in_ok-cactus-in-Growth-clause-whole : goal.returns-in_ok-cactus-in-Growth-clause-whole
returns-in_ok-cactus-in-Growth-clause-whole g c =
    let value = c.in-Growth.solved.value in
    wrote_by c.print_text-in-Growth.result (text_of c.args.reply.now) _ (g.K.Sink.taken c.args.out.now) (g.K.Sink.taken c.print_text-in-Growth.new.sink) (g.K.Sink.faults c.args.out.now) (g.K.Sink.faults c.print_text-in-Growth.new.sink)
    (ap (λ (xs : List Step). growth_text xs value c.in_ok-cactus-in-Growth.cactus) c.deref-in-Growth.ensures.value
    ∙ ap (λ (flat : Flat). growth_text c.in-Growth.steps.items value flat) c.in_ok-cactus-in-Growth.ensures ∙ ap text_of (sym c.in-Growth.is)) c.print_text-in-Growth.ensures.whole c.print_text-in-Growth.ensures.same_count

pub returns-in_ok-cactus-in-Growth-clause-kept : goal.returns-in_ok-cactus-in-Growth-clause-kept
returns-in_ok-cactus-in-Growth-clause-kept g c = c.print_text-in-Growth.ensures.memory

pub returns-in_ok-cactus-in-Growth-clause-memory : goal.returns-in_ok-cactus-in-Growth-clause-memory
returns-in_ok-cactus-in-Growth-clause-memory g c = λ none. subst TakesMemory (sym c.in-Growth.is) tt

pub returns-in-Augmentation-clause-whole : goal.returns-in-Augmentation-clause-whole
returns-in-Augmentation-clause-whole g c =
    wrote_by c.print_text-in-Augmentation.result (text_of c.args.reply.now) _ (g.K.Sink.taken c.args.out.now) (g.K.Sink.taken c.print_text-in-Augmentation.new.sink) (g.K.Sink.faults c.args.out.now) (g.K.Sink.faults c.print_text-in-Augmentation.new.sink)
    (ap text_of (sym c.in-Augmentation.is)) c.print_text-in-Augmentation.ensures.whole c.print_text-in-Augmentation.ensures.same_count

pub returns-in-Augmentation-clause-kept : goal.returns-in-Augmentation-clause-kept
returns-in-Augmentation-clause-kept g c = c.print_text-in-Augmentation.ensures.memory

pub returns-in-Augmentation-clause-memory : goal.returns-in-Augmentation-clause-memory
returns-in-Augmentation-clause-memory g c = λ none. subst TakesMemory (sym c.in-Augmentation.is) tt
