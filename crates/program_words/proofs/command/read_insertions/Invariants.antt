-- The insertions so far are those of the texts before the rest.
use Rattle.std.proofs.Common.{◌≡◌, ◌*◌, map, drop}
use Rattle.program_words.specs.Words.{after_all, insertions_of}
use Rattle.program_words.proofs.command.read_insertions.Given as goal

abbrev pub invariant-triples : goal.invariant-triples
invariant-triples l = insertions_of (map (λ v. v.now) l.values) ≡ after_all l.insertions (insertions_of (map (λ v. v.now) (drop (3 * l.i) l.values)))
