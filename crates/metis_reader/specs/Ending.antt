-- The end of the input, once all lines are read.
use Rattle.std.specs.Prelude.{◌≡◌, ℕ, suc, List, [], ◌∷◌}
use Rattle.cut_definitions.specs.Graph.{Graph}
use Rattle.metis_reader.specs.declared.fault.Fault.{Fault}
use Rattle.metis_reader.specs.Profile.{Finding, Header, Entry}
use Rattle.metis_reader.specs.File.{VertexLine, all_entries, all_masses, edges_of, fault_of}
use Rattle.metis_reader.specs.declared.line_part.LinePart.TheVariants.{Start, Words}
use Rattle.metis_reader.specs.Machine.{State, AtHeader, InLine, AtWeight, After}
use Rattle.metis_reader.specs.Reading.{Reading, line_end, line_end_state}

-- the fault is the first of these
abbrev pub TellsFirst : Fault → List Finding → Type 0
TellsFirst fault findings = (g : Finding) × (others : List Finding) × (findings ≡ g ∷ others) × (fault_of g ≡ fault)

abbrev pub FromVertex : ℕ → List Entry → Type 0
FromVertex k [] = Unit {0}
FromVertex k (e ∷ es) = (e.from ≡ k) × FromVertex k es

-- the lines are those of the vertices from this one on
abbrev pub RowsFrom : ℕ → List VertexLine → Type 0
RowsFrom k [] = Unit {0}
RowsFrom k (v ∷ vs) = FromVertex k v.entries × RowsFrom (suc k) vs

-- the graph of these vertex lines
abbrev pub graph_shown : Header → List VertexLine → Graph
graph_shown header done = record { vertices = header.vertices; edges = edges_of header.vertices (all_entries done) }

-- no line is begun, and the lines that were read are those of the vertices from 1 on
abbrev pub IsLineStart : State → Type 0
IsLineStart (AtHeader []) = Unit {0}
IsLineStart (AtHeader (word ∷ words)) = ⊥
IsLineStart (InLine header done mass here leading left) = (here ≡ []) × RowsFrom 1 done
IsLineStart (AtWeight header done mass here neighbour left) = ⊥
IsLineStart (After header done) = RowsFrom 1 done

-- what a state shows of the lines that are read, if any
abbrev pub shown_by : {X : Type 0} → X → (Header → List VertexLine → X) → State → X
shown_by none shown (AtHeader words) = none
shown_by none shown (InLine header done mass here leading left) = shown header done
shown_by none shown (AtWeight header done mass here neighbour left) = shown header done
shown_by none shown (After header done) = shown header done

-- the graph
abbrev pub state_graph : State → Graph
state_graph s = shown_by (record { vertices = 0; edges = [] }) graph_shown s

-- the masses of the vertices
abbrev pub state_masses : State → List ℕ
state_masses s = shown_by [] (λ header done. all_masses done) s

-- the end of the last line, if no line feed ends it: its faults, the state after it, and the number of lines
abbrev pub last_line : Reading → List Finding
last_line r = elim r.part [ Words ↦ line_end r.state r.word r.next (suc r.ended) | _ ↦ [] ]

abbrev pub end_state : Reading → State
end_state r = elim r.part [ Words ↦ line_end_state r.state r.word r.next (suc r.ended) | _ ↦ r.state ]

abbrev pub line_count : Reading → ℕ
line_count r = elim r.part [ Start ↦ r.ended | _ ↦ suc r.ended ]
