-- The edges of a least augmentation of a cactus of all minimum cuts raise the value, and no fewer do.
use Rattle.std.proofs.Common.{◌≡◌, ℕ, ◌≤◌, List, get_or, sym, ◌∙◌, subst}
use Rattle.std.specs.Prelude.{◌<◌}
use Rattle.std.specs.List.{All, Contains}
use Rattle.std.proofs.lemmas.List.Elements.{All-contains, All-weaker}
use Rattle.std.proofs.lemmas.List.{get_or_default}
use Rattle.cut_definitions.specs.Cuts.{has, mincuts, side_of, IsAscendingWithin}
use Rattle.cut_definitions.specs.Graph.{Graph, IsVertex}
use Rattle.cut_definitions.specs.Members.{SameMembers}
use Rattle.cut_definitions.proofs.ChainLists.{first_parts_side}
use Rattle.rooted_cactus.specs.Rooted.{Rooted, sides_of}
use Rattle.edge_augment.proofs.Raising.{raising}
use Rattle.edge_augment.specs.Augmentations.{Augmentation, IsAugmentation, IsLeast, LawOfAugmentation}
use Rattle.edge_augment.specs.Laws as ends
use Rattle.edge_augment.specs.NewEdges.{IsParted}
use Rattle.edge_augment.specs.Raises as raises
use Rattle.edge_augment.specs.Raises.{IsLeastRaise}

All-each : (P : List ℕ → Type 0) (xs : List (List ℕ)) → ((x : List ℕ) → Contains xs x → P x) → All P xs
All-each P xs each i d lt = each (get_or xs i d) (i, lt, get_or_default xs i (get_or xs i d) d lt)

-- pairs of vertices that part the side of a set part the set
parted_set : (n : ℕ) (pairs : List (ℕ × ℕ)) (set : List ℕ) → All (λ p. IsVertex n p.0 × IsVertex n p.1) pairs → IsParted pairs (has (side_of n (has set))) → IsParted pairs (has set)
parted_set n pairs set within (p, there, parts_side) =
    let v : IsVertex n p.0 × IsVertex n p.1 = All-contains (λ q. IsVertex n q.0 × IsVertex n q.1) pairs p within there in
    (p, there, sym (first_parts_side n (has set) p.0 p.1 v.0.0 v.0.1 v.1.0 v.1.1) ∙ parts_side)

-- a set of the cactus is one of the graph, and the other way round
module _ (g : Graph) (c : Rooted) (over : c.vertices ≡ g.vertices) (same : SameMembers (sides_of c) (mincuts g)) where
  set_to : (set : List ℕ) → ends.IsCutSet c.vertices c.root set → raises.IsCutSet g set
  set_to set is = record {
    ascending = subst (λ (n : ℕ). IsAscendingWithin 1 n set) over is.ascending;
    is_cut = (same (side_of g.vertices (has set))).0 (subst (λ (n : ℕ). Contains (sides_of c) (side_of n (has set))) over is.is_side);
  }

  set_from : (set : List ℕ) → raises.IsCutSet g set → ends.IsCutSet c.vertices c.root set
  set_from set is = record {
    ascending = subst (λ (n : ℕ). IsAscendingWithin 1 n set) (sym over) is.ascending;
    is_side = (same (side_of c.vertices (has set))).1 (subst (λ (n : ℕ). Contains (mincuts g) (side_of n (has set))) (sym over) is.is_cut);
  }

  minimal_to : (set : List ℕ) → ends.IsMinimalSet c.vertices c.root set → raises.IsMinimalCutSet g set
  minimal_to set is = record {
    is_set = set_to set is.is_set;
    none_within = λ other at within. is.none_within other (set_from other at) within;
  }

  minimal_from : (set : List ℕ) → raises.IsMinimalCutSet g set → ends.IsMinimalSet c.vertices c.root set
  minimal_from set is = record {
    is_set = set_from set is.is_set;
    none_within = λ other at within. is.none_within other (set_to other at) within;
  }

  pub least_raise : (plan : Augmentation) → LawOfAugmentation → 2 ≤ g.vertices → IsAugmentation c plan → IsLeast c plan → IsLeastRaise g plan
  least_raise plan law two is least =
      let both = law g c plan two over (λ side. ((same side).1, (same side).0)) least in
      record {
        sets = λ set. (λ at. minimal_to set ((is.sets set).0 at), λ at. (is.sets set).1 (minimal_from set at));
        pairs = subst (λ (n : ℕ). All (λ p. IsVertex n p.0 × IsVertex n p.1) plan.edges) over
            (All-weaker (λ e. IsVertex c.vertices e.0 × IsVertex c.vertices e.1 × (e.0 < e.1)) (λ e. IsVertex c.vertices e.0 × IsVertex c.vertices e.1) (λ e h. (h.0, h.1)) plan.edges least.within);
        parted = λ side at. least.parted side ((same side).1 at);
        number = least.number;
        raised = both.0;
        fewest = both.1;
        disjoint = least.disjoint;
        needed = λ pairs within more. All-each (λ (set : List ℕ). IsParted pairs (has set)) plan.sets (λ set there.
            let cut = (minimal_to set ((is.sets set).0 there)).is_set.is_cut in
            parted_set g.vertices pairs set within ((raising g pairs two).0 more (side_of g.vertices (has set)) cut));
      }
