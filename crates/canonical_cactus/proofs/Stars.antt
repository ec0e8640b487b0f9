-- An empty node with three bridges shows the same as a cycle of three nodes.
use Rattle.std.proofs.Common.{ℕ, ◌≤◌, inl, inr, List, [], ◌∷◌, ◌++◌, length, ap, ◌∙◌, sym, subst}
use Rattle.std.specs.List.{Contains}
use Rattle.std.proofs.lemmas.List.Elements.{All-tail, Contains-append_left, Contains-append_right, Contains-append_cases}
use Rattle.cut_definitions.specs.Weight.{VertexSet, either}
use Rattle.cut_definitions.specs.Cuts.{has}
use Rattle.cut_definitions.proofs.Lists.{Contains-here, Contains-there, Contains-cons_cases, Contains-nil}
use Rattle.rooted_cactus.specs.Sides.{Part, nothing, from_here}
use Rattle.rooted_cactus.specs.Entries.{Read, bridge_read, cycle_read, node_read, counts_read}
use Rattle.rooted_cactus.specs.declared.tree.Block.{Block}
use Rattle.rooted_cactus.proofs.Parts.{either_nothing}
use Rattle.rooted_cactus.proofs.Cycles.{here_first, cycle_cuts, cycle_cases, cycle_here, cycle_own, cycle_rest, cycle_whole}
use Rattle.rooted_cactus.specs.Trims.{SameLists}
use Rattle.canonical_cactus.specs.Making.{ShowsBlock, IsBlockOf}
use Rattle.canonical_cactus.specs.declared.parts.Hung.{Hung}

-- the cuts of a bridge down to an empty node with two bridges
abbrev star_cuts : Part → Part → List VertexSet
star_cuts p q = either p.below (either q.below nothing) ∷ ((p.below ∷ p.cuts) ++ ((q.below ∷ q.cuts) ++ []))

abbrev ring_cuts : Part → Part → List VertexSet
ring_cuts p q = cycle_cuts (p ∷ (q ∷ []))

in_ring : (p q : Part) (t : VertexSet) → Contains (star_cuts p q) t → Contains (ring_cuts p q) t
in_ring p q t h = elim (Contains-cons_cases (either p.below (either q.below nothing)) ((p.below ∷ p.cuts) ++ ((q.below ∷ q.cuts) ++ [])) t h) [
  | inl e ↦ subst (λ w. Contains (ring_cuts p q) w) e (cycle_whole p (q ∷ []))
  | inr k ↦ elim (Contains-append_cases (p.below ∷ p.cuts) ((q.below ∷ q.cuts) ++ []) t k) [
    | inl i ↦ elim (Contains-cons_cases p.below p.cuts t i) [
      | inl e ↦ cycle_here p (q ∷ []) t (subst (λ w. Contains (from_here p.below (q.below ∷ [])) w) e (here_first p.below (q.below ∷ [])))
      | inr m ↦ cycle_own p (q ∷ []) t m
    ]
    | inr i ↦ cycle_rest p (q ∷ []) t (elim (Contains-append_cases (q.below ∷ q.cuts) [] t i) [
      | inl m ↦ elim (Contains-cons_cases q.below q.cuts t m) [
        | inl e ↦ cycle_here q [] t (subst (λ w. Contains (from_here q.below []) w) e (here_first q.below []))
        | inr n ↦ cycle_own q [] t n
      ]
      | inr m ↦ absurd (Contains-nil t m)
    ])
  ]
]

in_star : (p q : Part) (t : VertexSet) → Contains (ring_cuts p q) t → Contains (star_cuts p q) t
in_star p q t h =
    let whole = either p.below (either q.below nothing) in
    let later = (p.below ∷ p.cuts) ++ ((q.below ∷ q.cuts) ++ []) in
    let first : Contains (p.below ∷ p.cuts) t → Contains (star_cuts p q) t = λ k. Contains-there whole later t (Contains-append_left (p.below ∷ p.cuts) ((q.below ∷ q.cuts) ++ []) t k) in
    let second : Contains (q.below ∷ q.cuts) t → Contains (star_cuts p q) t = λ k. Contains-there whole later t (Contains-append_right (p.below ∷ p.cuts) ((q.below ∷ q.cuts) ++ []) t (Contains-append_left (q.below ∷ q.cuts) [] t k)) in
    elim (cycle_cases p (q ∷ []) t h) [
      | inl k ↦ elim (Contains-cons_cases p.below (either p.below q.below ∷ []) t k) [
        | inl e ↦ first (subst (λ w. Contains (p.below ∷ p.cuts) w) e (Contains-here p.below p.cuts))
        | inr i ↦ elim (Contains-cons_cases (either p.below q.below) [] t i) [
          | inl e ↦ subst (λ w. Contains (star_cuts p q) w) (ap (either p.below) (either_nothing q.below) ∙ e) (Contains-here whole later)
          | inr m ↦ absurd (Contains-nil t m)
        ]
      ]
      | inr k ↦ elim k [
        | inl i ↦ first (Contains-there p.below p.cuts t i)
        | inr i ↦ elim (cycle_cases q [] t i) [
          | inl m ↦ elim (Contains-cons_cases q.below [] t m) [
            | inl e ↦ second (subst (λ w. Contains (q.below ∷ q.cuts) w) e (Contains-here q.below q.cuts))
            | inr n ↦ absurd (Contains-nil t n)
          ]
          | inr m ↦ elim m [
            | inl n ↦ second (Contains-there q.below q.cuts t n)
            | inr n ↦ absurd (Contains-nil t n)
          ]
        ]
      ]
    ]

without_empty : (ls ms : List (List ℕ)) → SameLists ls ([] ∷ ms) → SameLists ls ms
without_empty ls ms s = record {
  often = s.often;
  members = λ l h. elim (s.members l h) [
    | inl e ↦ inl e
    | inr k ↦ elim (Contains-cons_cases [] ms l k) [ inl e ↦ inl (sym e) | inr t ↦ inr t ]
  ];
}

abbrev star_read : Read → Read → Read
star_read r s = bridge_read (node_read has [] (bridge_read r ∷ (bridge_read s ∷ [])))

ring_shown : (r s : Read) (b : Block) → ShowsBlock (star_read r s) b → ShowsBlock (cycle_read (r ∷ (s ∷ []))) b
ring_shown r s b h = record {
  normal = record {
    below = h.normal.below;
    cuts = λ t. ((λ k. in_ring r.part s.part t ((h.normal.cuts t).0 k)), (λ k. (h.normal.cuts t).1 (in_star r.part s.part t k)));
    lists = without_empty _ _ h.normal.lists;
    wide = h.normal.wide;
    fine = h.normal.fine;
  };
  in_order = h.in_order;
}

pub star_shown : (r s : Read) (h : Hung) → IsBlockOf (bridge_read (node_read has [] (bridge_read r ∷ (bridge_read s ∷ [])))) h → IsBlockOf (cycle_read (r ∷ (s ∷ []))) h
star_shown r s h n = record {
  least = n.least;
  shows = λ g. ring_shown r s h.block (n.shows record {
    normal = record {
      cuts = λ c. g.normal.cuts (in_ring r.part s.part nothing c);
      wide = All-tail (λ k. 2 ≤ k) (length (r ∷ (s ∷ []))) (counts_read (r ∷ (s ∷ []))) g.normal.wide;
    };
    apart = g.apart;
  });
}
