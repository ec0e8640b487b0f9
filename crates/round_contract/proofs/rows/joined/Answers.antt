use Rattle.std.proofs.Common.{◌++◌, [], ◌∷◌, ◌∙◌, ap, sym}
use Rattle.std.specs.List.{flat_map}
use Rattle.std.specs.Result.{IsOk, is_ok}
use Rattle.std.specs.Vec.Iter.{into_iter_items}
use Rattle.std.proofs.lemmas.List.{append-nil, append_assoc}
use Rattle.std.proofs.lemmas.List.Concat.{flat_map-append}
use Rattle.std.proofs.lemmas.List.Elements.{All-append, All-cons, All-nil}
use Rattle.round_contract.specs.Rows.{found_edges}
use Rattle.round_contract.proofs.rows.joined.Goals as goal

pub loop-run-preserved : goal.loop-run-preserved
loop-run-preserved c =
    let done = c.loop-run.yielded in
    let run = c.in-Some.run' in
    record {
      rest = append_assoc done (run ∷ []) (into_iter_items c.next.new.self) ∙ (ap (λ l. done ++ l) (sym c.in-Some.ensures.steps.0) ∙ c.loop-run.invariant.rest);
      edges = c.in_ok-append.ensures.items ∙ (ap (λ l. l ++ c.in_ok-found.found.items) c.loop-run.invariant.edges
          ∙ (ap (λ l. flat_map found_edges done ++ l) (sym (append-nil (found_edges run) ∙ ap found_edges c.in_ok-found.was))
          ∙ sym (flat_map-append found_edges done (run ∷ []))));
      whole = All-append (λ r. IsOk r) done (run ∷ []) c.loop-run.invariant.whole (All-cons (λ r. IsOk r) run [] (ap is_ok c.in_ok-found.was) (All-nil (λ r. IsOk r)));
    }
