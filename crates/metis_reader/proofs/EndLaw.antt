-- Which fault the end of the input has, by what is wrong with the entries of both kinds.
use Rattle.std.proofs.Common.{◌≡◌, ◌≤◌, ◌<◌, ◌*◌, ◌+◌, ℕ, Bool, true, false, List, [], ◌∷◌, ◌++◌, length, reverse, arith, inl, inr, ap, refl, ◌∙◌}
use Rattle.std.specs.Prelude.{nat_lt}
use Rattle.std.specs.List.{All, Contains}
use Rattle.std.proofs.lemmas.Bool.{cases_Bool, lt-ltb, le-ltb}
use Rattle.std.proofs.lemmas.List.Elements.{All-contains}
use Rattle.cut_definitions.specs.declared.edge_list.Edge.{Edge}
use Rattle.cut_definitions.specs.Graph.{IsEdgeWithin}
use Rattle.cut_definitions.proofs.Lists.{Contains-here, Contains-there}
use Rattle.metis_reader.specs.declared.fault.FaultKind.{FaultKind}
use Rattle.metis_reader.specs.declared.fault.FaultKind.TheVariants.{MissingLines, TooFewEntries, Repeated, Unsymmetric}
use Rattle.metis_reader.specs.Profile.{Finding, Header, Entry, found_at, where_true}
use Rattle.metis_reader.specs.File.{VertexLine, all_entries, first_line, lacks_mate, end_findings}
use Rattle.metis_reader.specs.Ending.{TellsFirst, RowsFrom}
use Rattle.metis_reader.specs.Mates.{is_pair, times, RepeatsAt, IsOnceAt, LacksAt, IsMatchedAt, IsFirstMismatch}
use Rattle.metis_reader.proofs.Times.{times_cons, is_pair_from}
use Rattle.metis_reader.proofs.Rows.{repeats, has_any, told, line_of_vertex, repeat_none, repeat_some, any_none, any_some}
use Rattle.metis_reader.proofs.BothKinds.{upward, downward, entries_once, entries_repeat, entries_matched, entries_lack}

-- the four tests
abbrev ending : Bool → Bool → List Finding → List Finding → ℕ → ℕ → List Finding
ending missing few repeated unsymmetric end count =
    found_at end count (where_true missing MissingLines) ++ found_at end count (where_true few TooFewEntries) ++ repeated ++ unsymmetric

abbrev repeated : ℕ → List VertexLine → List Finding
repeated end vs = first_line repeats Repeated end vs

abbrev unsymmetric : ℕ → List VertexLine → List Finding
unsymmetric end vs = first_line (has_any (lacks_mate (all_entries vs))) Unsymmetric end vs

ending_is : (header : Header) (end count : ℕ) (vs : List VertexLine) (missing few : Bool) (r u : List Finding) → nat_lt (length vs) header.vertices ≡ missing
    → nat_lt (length (all_entries vs)) (2 * header.edges) ≡ few → repeated end vs ≡ r → unsymmetric end vs ≡ u → end_findings header end count vs ≡ ending missing few r u end count
ending_is header end count vs missing few r u m f p q =
    ap (λ (b : Bool). ending b (nat_lt (length (all_entries vs)) (2 * header.edges)) (repeated end vs) (unsymmetric end vs) end count) m
    ∙ ap (λ (b : Bool). ending missing b (repeated end vs) (unsymmetric end vs) end count) f
    ∙ ap (λ fs. ending missing few fs (unsymmetric end vs) end count) p
    ∙ ap (λ fs. ending missing few r fs end count) q

pub end_missing : (header : Header) (end count : ℕ) (vs : List VertexLine) → length vs < header.vertices
    → TellsFirst (record { kind = MissingLines; line = count }) (end_findings header end count vs)
end_missing header end count vs h = (
  record { kind = MissingLines; place = end; line = count },
  found_at end count (where_true (nat_lt (length (all_entries vs)) (2 * header.edges)) TooFewEntries) ++ repeated end vs ++ unsymmetric end vs,
  ending_is header end count vs true (nat_lt (length (all_entries vs)) (2 * header.edges)) (repeated end vs) (unsymmetric end vs) (lt-ltb (length vs) header.vertices h) refl refl refl,
  refl,
)

pub end_few : (header : Header) (end count : ℕ) (vs : List VertexLine) → header.vertices ≤ length vs → length (all_entries vs) < 2 * header.edges
    → TellsFirst (record { kind = TooFewEntries; line = count }) (end_findings header end count vs)
end_few header end count vs all h = (
  record { kind = TooFewEntries; place = end; line = count },
  repeated end vs ++ unsymmetric end vs,
  ending_is header end count vs false true (repeated end vs) (unsymmetric end vs) (le-ltb (length vs) header.vertices all) (lt-ltb (length (all_entries vs)) (2 * header.edges) h) refl refl,
  refl,
)

abbrev Proper : List VertexLine → Type 0
Proper vs = (f : Edge) → Contains (reverse (downward (all_entries vs))) f → f.u < f.v

pub end_mismatch : (header : Header) (end count x : ℕ) (kind : FaultKind) (vs : List VertexLine) → header.vertices ≤ length vs → 2 * header.edges ≤ length (all_entries vs)
    → RowsFrom 1 vs → Proper vs → 1 ≤ x → IsFirstMismatch kind x (upward (all_entries vs)) (reverse (downward (all_entries vs)))
    → TellsFirst (record { kind = kind; line = line_of_vertex 1 x vs }) (end_findings header end count vs)
end_mismatch header end count x Repeated vs lines entries rows proper one h =
    let all : List Entry = all_entries vs in
    let twice = entries_repeat x all h.0 in
    let found : repeated end vs ≡ told Repeated end (line_of_vertex 1 x vs) =
    repeat_some Repeated end 1 x twice.0 vs rows one twice.1 (λ y t lt. entries_once y all (h.1 y lt) t) in (
      record { kind = Repeated; place = end; line = line_of_vertex 1 x vs },
      unsymmetric end vs,
      ending_is header end count vs false false (told Repeated end (line_of_vertex 1 x vs)) (unsymmetric end vs) (le-ltb (length vs) header.vertices lines)
          (le-ltb (length all) (2 * header.edges) entries) found refl,
      refl,
    )
end_mismatch header end count x Unsymmetric vs lines entries rows proper one h =
    let all : List Entry = all_entries vs in
    let once : repeated end vs ≡ [] = repeat_none Repeated end 1 vs rows (λ y t. entries_once y all (h.2 y) t) in
    let lack = entries_lack x all proper h.0 in
    let found : unsymmetric end vs ≡ told Unsymmetric end (line_of_vertex 1 x vs) =
    any_some (lacks_mate all) Unsymmetric end 1 x lack.0 vs rows lack.1 lack.2 lack.3
    (λ d has lt. entries_matched d.from all (h.1 d.from lt) d has refl) in (
      record { kind = Unsymmetric; place = end; line = line_of_vertex 1 x vs },
      [],
      ending_is header end count vs false false [] (told Unsymmetric end (line_of_vertex 1 x vs)) (le-ltb (length vs) header.vertices lines)
          (le-ltb (length all) (2 * header.edges) entries) once found,
      refl,
    )
end_mismatch header end count x _ vs lines entries rows proper one h = absurd h

pub end_none : (header : Header) (end count : ℕ) (vs : List VertexLine) → header.vertices ≤ length vs → 2 * header.edges ≤ length (all_entries vs) → RowsFrom 1 vs
    → ((y : ℕ) → IsOnceAt y (upward (all_entries vs)) (reverse (downward (all_entries vs))))
    → ((y : ℕ) → IsMatchedAt y (upward (all_entries vs)) (reverse (downward (all_entries vs)))) → end_findings header end count vs ≡ []
end_none header end count vs lines entries rows once matched =
    let all : List Entry = all_entries vs in
    ending_is header end count vs false false [] [] (le-ltb (length vs) header.vertices lines) (le-ltb (length all) (2 * header.edges) entries)
    (repeat_none Repeated end 1 vs rows (λ y t. entries_once y all (once y) t))
    (any_none (lacks_mate all) Unsymmetric end vs (λ e has. entries_matched e.from all (matched e.from) e has refl))

-- The vertex of a mismatch is one of the graph.

some_member : (u v : ℕ) (xs : List Edge) → 1 ≤ times u v xs → (e : Edge) × Contains xs e × (e.u ≡ u) × (e.v ≡ v)
some_member u v [] h = absurd (omega arith)
some_member u v (e ∷ xs) h =
    elim (cases_Bool (is_pair u v e)) [
      | inl t ↦ let ends = is_pair_from u v e t in (e, Contains-here e xs, ends.0, ends.1)
      | inr f ↦
          let here : times u v (e ∷ xs) ≡ 0 + times u v xs = times_cons u v e xs false f in
          let more = some_member u v xs (omega arith) in (more.0, Contains-there e xs more.0 more.1, more.2, more.3)
    ]

abbrev Inside : ℕ → ℕ → Type 0
Inside n x = (1 ≤ x) × (x ≤ n)

inside_u : (n x : ℕ) (e : Edge) (xs : List Edge) → All (IsEdgeWithin n) xs → Contains xs e → e.u ≡ x → Inside n x
inside_u n x e xs within has same =
    let is : IsEdgeWithin n e = All-contains (IsEdgeWithin n) xs e within has in
    let low : 1 ≤ e.u = is.0 in
    let mid : e.u < e.v = is.1 in
    let high : e.v ≤ n = is.2 in
    (omega arith, omega arith)

inside_v : (n x : ℕ) (e : Edge) (xs : List Edge) → All (IsEdgeWithin n) xs → Contains xs e → e.v ≡ x → Inside n x
inside_v n x e xs within has same =
    let is : IsEdgeWithin n e = All-contains (IsEdgeWithin n) xs e within has in
    let low : 1 ≤ e.u = is.0 in
    let mid : e.u < e.v = is.1 in
    let high : e.v ≤ n = is.2 in
    (omega arith, omega arith)

repeats_inside : (n x : ℕ) (g l : List Edge) → All (IsEdgeWithin n) g → All (IsEdgeWithin n) l → RepeatsAt x g l → Inside n x
repeats_inside n x g l wg wl (inl h) = let two : 2 ≤ times h.0 h.1 g = h.3 in let m = some_member h.0 h.1 g (omega arith) in inside_u n x m.0 g wg m.1 (m.2 ∙ h.2)
repeats_inside n x g l wg wl (inr h) = let two : 2 ≤ times h.0 h.1 l = h.3 in let m = some_member h.0 h.1 l (omega arith) in inside_v n x m.0 l wl m.1 (m.3 ∙ h.2)

lacks_inside : (n x : ℕ) (g l : List Edge) → All (IsEdgeWithin n) g → All (IsEdgeWithin n) l → LacksAt x g l → Inside n x
lacks_inside n x g l wg wl (inl h) = inside_u n x h.0 g wg h.1 h.2
lacks_inside n x g l wg wl (inr h) = inside_v n x h.0 l wl h.1 h.2

pub mismatch_inside : (n x : ℕ) (kind : FaultKind) (g l : List Edge) → All (IsEdgeWithin n) g → All (IsEdgeWithin n) l → IsFirstMismatch kind x g l → Inside n x
mismatch_inside n x Repeated g l wg wl h = repeats_inside n x g l wg wl h.0
mismatch_inside n x Unsymmetric g l wg wl h = lacks_inside n x g l wg wl h.0
mismatch_inside n x _ g l wg wl h = absurd h
