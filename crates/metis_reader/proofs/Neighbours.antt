-- What a parser shows after a neighbour without a fault.
use Rattle.std.proofs.Common.{◌≡◌, ℕ, true, false, List, [], ◌∷◌, ◌++◌, sym, ◌∙◌, ap, subst, append_assoc}
use Rattle.metis_reader.specs.Text.{Piece}
use Rattle.metis_reader.specs.Profile.{Header, Entry, value, neighbour_faults}
use Rattle.metis_reader.specs.File.{VertexLine, all_entries}
use Rattle.metis_reader.specs.Machine.{State, word_faults, after_word, before, vertex, after_neighbour}
use Rattle.metis_reader.specs.Shown.{Shows, Keeps, BodyShows}
use Rattle.metis_reader.specs.declared.due.Due.{Due}
use Rattle.metis_reader.specs.declared.due.Due.TheVariants.{Neighbour, EdgeWeight}
use Rattle.metis_reader.specs.declared.header.Header as kept
use Rattle.metis_reader.specs.declared.body.Body.{Body}
use Rattle.metis_reader.proofs.Dues.{at_Neighbour}

-- the word names this neighbour
abbrev pub Names : Body → Piece → ℕ → Type 0
Names b p n = (header : Header) (done : List VertexLine) (all : List Entry) → BodyShows b header done all → (neighbour_faults header (vertex done) all p ≡ []) × (n ≡ value p)

-- the entry to it is taken
abbrev pub Enters : Body → Body → ℕ → ℕ → Type 0
Enters b now n w = (header : Header) (done : List VertexLine) (all : List Entry) → BodyShows b header done all → BodyShows now header done (all ++ record { from = vertex done; to = n; weight = w } ∷ [])

pub one_entered : (due : Due) (h : kept.Header) (b now : Body) (s : State) (p : Piece) (n : ℕ) → due ≡ Neighbour → b.header.format.has_edge_weights ≡ false → Names b p n → Enters b now n 1 → now.mass ≡ b.mass
    → Shows due h b s → (word_faults s p ≡ []) × Shows due h now (after_word s p)
one_entered due h b now s p n is unweighted names enters mass shows =
    at_Neighbour s (λ s. Keeps h b s → (word_faults s p ≡ []) × Shows due h now (after_word s p))
    (sym shows.0 ∙ is)
    (λ header done mass_here here left keeps.
    let judged = names header done (before done here) keeps.body in
    let has : header.has_edge_weights ≡ false = sym (ap (λ (h : Header). h.has_edge_weights) keeps.body.same_header) ∙ unweighted in
    let entry : Entry = record { from = vertex done; to = value p; weight = 1 } in
    let after : BodyShows now header done (before done (here ++ entry ∷ [])) =
    subst (λ all. BodyShows now header done all) (append_assoc (all_entries done) here (entry ∷ []))
    (subst (λ n. BodyShows now header done (before done here ++ record { from = vertex done; to = n; weight = 1 } ∷ [])) judged.1 (enters header done (before done here) keeps.body)) in (
      judged.0,
      subst (λ b. Shows due h now (after_neighbour b header done mass_here here left p)) (sym has)
          (is, record { body = after; lines = keeps.lines; same_mass = mass ∙ keeps.same_mass }),
    ))
    shows.1

pub weight_due : (due : Due) (h : kept.Header) (b : Body) (s : State) (p : Piece) (n : ℕ) → due ≡ Neighbour → b.header.format.has_edge_weights ≡ true → Names b p n
    → Shows due h b s → (word_faults s p ≡ []) × Shows (EdgeWeight n) h b (after_word s p)
weight_due due h b s p n is weighted names shows =
    at_Neighbour s (λ s. Keeps h b s → (word_faults s p ≡ []) × Shows (EdgeWeight n) h b (after_word s p))
    (sym shows.0 ∙ is)
    (λ header done mass here left keeps.
    let judged = names header done (before done here) keeps.body in
    let has : header.has_edge_weights ≡ true = sym (ap (λ (h : Header). h.has_edge_weights) keeps.body.same_header) ∙ weighted in (
      judged.0,
      subst (λ b'. Shows (EdgeWeight n) h b (after_neighbour b' header done mass here left p)) (sym has)
          (ap (λ n. EdgeWeight n) judged.1, (keeps, has)),
    ))
    shows.1
