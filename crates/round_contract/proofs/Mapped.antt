-- What several threads map of a list of edges.
use Rattle.std.proofs.Common.{◌≡◌, ℕ, List, [], ◌∷◌, ◌++◌, Option, Some, None, refl, sym, ◌∙◌, ap}
use Rattle.std.specs.List.{AllZip, filter_map, flat_map}
use Rattle.std.specs.Option.{option_to_list}
use Rattle.std.proofs.lemmas.List.Concat.{flat_map-cons}
use Rattle.cut_definitions.specs.declared.edge_list.Edge.{Edge}
use Rattle.weighted_graph.specs.Merging.{between_classes}

-- what each thread returns for an edge is the edge between its classes, or nothing
pub mapped_are : (labels : List ℕ) (es : List Edge) (os : List (Option Edge)) → AllZip (λ e o. option_to_list o ≡ between_classes labels e) es os →
    filter_map (λ o. o) os ≡ flat_map (between_classes labels) es
mapped_are labels [] [] h = refl
mapped_are labels [] (o ∷ os) h = absurd h
mapped_are labels (e ∷ es) [] h = absurd h
mapped_are labels (e ∷ es) (None ∷ os) h =
    mapped_are labels es os h.1 ∙ (ap (λ l. l ++ flat_map (between_classes labels) es) h.0 ∙ sym (flat_map-cons (between_classes labels) e es))
mapped_are labels (e ∷ es) (Some y ∷ os) h =
    ap (λ l. y ∷ l) (mapped_are labels es os h.1) ∙ (ap (λ l. l ++ flat_map (between_classes labels) es) h.0 ∙ sym (flat_map-cons (between_classes labels) e es))
