-- What the end of the input shows of all bytes fed.
use Rattle.std.proofs.Common.{◌≡◌, ◌<◌, ◌≤◌, ◌-◌, ◌+◌, ◌^◌, ℕ, suc, List, [], ◌∷◌, ◌++◌, length, ap, sym, ◌∙◌, subst, arith}
use Rattle.std.specs.Prelude.{Ok, Err}
use Rattle.std.specs.List.{filter}
use Rattle.cut_definitions.specs.Graph.{Graph}
use Rattle.metis_reader.specs.declared.fault.Fault as told
use Rattle.metis_reader.specs.declared.fault.ReadRefusal.{ReadRefusal}
use Rattle.metis_reader.specs.declared.fault.ReadRefusal.TheVariants.{NoMemory, Fault}
use Rattle.metis_reader.specs.declared.reader.Reader.{Reader}
use Rattle.metis_reader.specs.Text.{lines}
use Rattle.metis_reader.specs.File.{graph_of, masses_of, from_header, is_kept}
use Rattle.metis_reader.specs.Machine.{final_findings}
use Rattle.metis_reader.specs.Reading.{Reading, start, reading_from}
use Rattle.metis_reader.specs.Ending.{TellsFirst, last_line, end_state, line_count, state_graph, state_masses}
use Rattle.metis_reader.specs.Holding.{RefusedFirst, ByteEndsHeader}
use Rattle.metis_reader.specs.Fed.{IsOpen, HeaderEndsIn}
use Rattle.metis_reader.proofs.Running.{ended_bound}
use Rattle.metis_reader.proofs.FixedFaults.{refused_at_end, accepted_at_end}
use Rattle.metis_reader.proofs.Masses.{masses_are}
use Rattle.metis_reader.proofs.GraphLaw.{end_graph, end_masses, end_parts}
use Rattle.metis_reader.proofs.HeaderEnds.{ends_at_last}

short : (reader : Reader) (bytes : List ℕ) → IsOpen reader bytes → length bytes ≤ 2 ^ 33
short reader bytes still = let left : reader.left + length bytes ≡ 2 ^ 33 = still.left in omega arith

pub few_at_end : (reader : Reader) (bytes : List ℕ) → IsOpen reader bytes → suc (reading_from start bytes).ended < 2 ^ 64 - 1
few_at_end reader bytes still =
    let left : reader.left + length bytes ≡ 2 ^ 33 = still.left in
    let bound : (reading_from start bytes).ended ≤ 0 + length bytes = ended_bound start bytes in
    omega arith

-- the last line has a fault
pub last_line_refused : (reader : Reader) (bytes : List ℕ) (refusal : ReadRefusal) (f : told.Fault) → IsOpen reader bytes
    → RefusedFirst refusal (last_line (reading_from start bytes)) (ByteEndsHeader (reading_from start bytes) 10)
    → refusal ≡ Fault f → graph_of bytes ≡ Err f
last_line_refused reader bytes refusal f still h e =
    let r : Reading = reading_from start bytes in
    let first = subst (λ refusal. RefusedFirst refusal (last_line r) (ByteEndsHeader r 10)) e h in
    refused_at_end bytes first.0 (first.1 ++ final_findings (end_state r) r.next (line_count r)) (short reader bytes still) still.none
    (end_parts r ∙ ap (λ fs. fs ++ final_findings (end_state r) r.next (line_count r)) first.2)
    ∙ ap (λ f. Err f) first.3

-- or memory ran out for a header that the end of the input ends
pub last_line_memory : (reader : Reader) (bytes : List ℕ) (refusal : ReadRefusal)
    → RefusedFirst refusal (last_line (reading_from start bytes)) (ByteEndsHeader (reading_from start bytes) 10)
    → refusal ≡ NoMemory → HeaderEndsIn bytes (10 ∷ [])
last_line_memory reader bytes refusal h e =
    let r : Reading = reading_from start bytes in
    ends_at_last bytes (subst (λ refusal. RefusedFirst refusal (last_line r) (ByteEndsHeader r 10)) e h)

-- a test of the end has a fault
pub end_refused : (reader : Reader) (bytes : List ℕ) (f : told.Fault) (count : ℕ) → IsOpen reader bytes → last_line (reading_from start bytes) ≡ [] → count ≡ line_count (reading_from start bytes)
    → TellsFirst f (final_findings (end_state (reading_from start bytes)) (reading_from start bytes).next count) → graph_of bytes ≡ Err f
end_refused reader bytes f count still none same h =
    let r : Reading = reading_from start bytes in
    let first = subst (λ count. TellsFirst f (final_findings (end_state r) r.next count)) same h in
    refused_at_end bytes first.0 first.1 (short reader bytes still) still.none
    (end_parts r ∙ ap (λ fs. fs ++ final_findings (end_state r) r.next (line_count r)) none ∙ first.2)
    ∙ ap (λ f. Err f) first.3

-- or all is well
pub end_accepted : (reader : Reader) (bytes : List ℕ) (g : Graph) (count : ℕ) → IsOpen reader bytes → last_line (reading_from start bytes) ≡ [] → count ≡ line_count (reading_from start bytes)
    → final_findings (end_state (reading_from start bytes)) (reading_from start bytes).next count ≡ [] → state_graph (end_state (reading_from start bytes)) ≡ g → graph_of bytes ≡ Ok g
end_accepted reader bytes g count still none same well shows =
    let r : Reading = reading_from start bytes in
    let final : final_findings (end_state r) r.next (line_count r) ≡ [] = subst (λ count. final_findings (end_state r) r.next count ≡ []) same well in
    accepted_at_end bytes (short reader bytes still) still.none
    (end_parts r ∙ ap (λ fs. fs ++ final_findings (end_state r) r.next (line_count r)) none ∙ final)
    ∙ ap (λ g. Ok g) (sym (end_graph bytes) ∙ shows)

-- and the masses are those of the file
pub end_weighed : (bytes : List ℕ) (g : Graph) (masses : List ℕ) → length masses ≡ g.vertices → state_graph (end_state (reading_from start bytes)) ≡ g
    → state_masses (end_state (reading_from start bytes)) ≡ masses → masses_of bytes ≡ masses
unfolding masses_of
end_weighed bytes g masses count graph shows =
    masses_are (from_header (filter is_kept (lines bytes))) masses (sym (end_masses bytes) ∙ shows)
    (count ∙ ap (λ (g : Graph). g.vertices) (sym graph ∙ end_graph bytes))
