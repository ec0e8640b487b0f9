-- At the start of a line the body shows the lines that are read.
use Rattle.std.proofs.Common.{◌≡◌, ℕ, List, [], ◌∷◌, refl, sym, ◌∙◌, subst}
use Rattle.std.specs.Prelude.{Result, MatchResult}
use Rattle.cut_definitions.proofs.ListLaws.{append_none}
use Rattle.metis_reader.specs.declared.reader.MetisGraph.{MetisGraph}
use Rattle.metis_reader.specs.declared.fault.Fault.{Fault}
use Rattle.metis_reader.specs.declared.fault.FaultKind.TheVariants.{NoHeader}
use Rattle.metis_reader.specs.declared.due.Due.{Due}
use Rattle.metis_reader.specs.declared.due.Due.TheVariants.{Vertices}
use Rattle.metis_reader.specs.declared.header.Header as kept
use Rattle.metis_reader.specs.declared.body.Body.{Body}
use Rattle.metis_reader.specs.Profile.{Header}
use Rattle.metis_reader.specs.File.{VertexLine, all_entries, all_masses, end_findings}
use Rattle.metis_reader.specs.Machine.{State, AtHeader, InLine, AtWeight, After, before, final_findings}
use Rattle.metis_reader.specs.Shown.{Shows, BodyShows}
use Rattle.metis_reader.specs.Ending.{IsLineStart, RowsFrom, TellsFirst, graph_shown, state_graph, state_masses}
use Rattle.metis_reader.proofs.Dues.{at_Vertices}
use Rattle.metis_reader.proofs.parser.Parser.finish.Goals as goal

abbrev Finds : State → ℕ → ℕ → Result MetisGraph Fault → Type 0
Finds s end lines result = MatchResult result (λ g. (final_findings s end lines ≡ []) × (state_graph s ≡ g.edges) × (state_masses s ≡ g.weights)) (λ f. TellsFirst f (final_findings s end lines))

abbrev BodyFinds : Body → ℕ → Result MetisGraph Fault → Type 0
BodyFinds b lines result = (header : Header) (done : List VertexLine) (end : ℕ) → BodyShows b header done (all_entries done) → RowsFrom 1 done
    → MatchResult result (λ g. (end_findings header end lines done ≡ []) × (graph_shown header done ≡ g.edges) × (all_masses done ≡ g.weights)) (λ f. TellsFirst f (end_findings header end lines done))

whole : (b : Body) (header : Header) (done : List VertexLine) → BodyShows b header done (before done []) → BodyShows b header done (all_entries done)
whole b header done shows = subst (λ all. BodyShows b header done all) (append_none (all_entries done)) shows

finds : (s : State) (end lines : ℕ) (due : Due) (h : kept.Header) (b : Body) (result : Result MetisGraph Fault) → Shows due h b s → IsLineStart s → (due ≡ Vertices → ⊥) → BodyFinds b lines result → Finds s end lines result
finds (AtHeader []) end lines due h b result shows start other body = absurd (other shows.0)
finds (AtHeader (word ∷ words)) end lines due h b result shows start other body = absurd start
finds (InLine header done mass here leading left) end lines due h b result shows start other body =
    body header done end (whole b header done (subst (λ here. BodyShows b header done (before done here)) start.0 shows.1.body)) start.1
finds (AtWeight header done mass here neighbour left) end lines due h b result shows start other body = absurd start
finds (After header done) end lines due h b result shows start other body = body header done end (whole b header done shows.1.body) start

pub returns-in-Vertices-clause-exact : goal.returns-in-Vertices-clause-exact
returns-in-Vertices-clause-exact c = λ s end shows start.
    at_Vertices s (λ s. TellsFirst (record { kind = NoHeader; line = c.args.lines }) (final_findings s end c.args.lines)) (sym shows.0 ∙ c.in-Vertices.is) (record { kind = NoHeader; place = end; line = c.args.lines }, [], refl, refl)

pub returns-clause-exact : goal.returns-clause-exact
returns-clause-exact c = λ s end shows start.
    finds s end c.args.lines c.args.self.due c.args.self.header c.args.self.body c.finish.result shows start (λ e. c.in_default.not-Vertices e) c.finish.ensures.exact
