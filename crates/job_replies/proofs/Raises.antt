-- The edges of the augmentation of the canonical cactus of a graph raise its value, and no fewer do.
use Rattle.std.proofs.Common.{◌≡◌, ℕ, ◌≤◌, refl}
use Rattle.cut_definitions.specs.Cuts.{value}
use Rattle.cut_definitions.specs.Graph.{Graph}
use Rattle.rooted_cactus.specs.Rooted.{Rooted}
use Rattle.edge_augment.specs.Augmentations.{Augmentation, IsAugmentation, IsLeast, LawOfAugmentation}
use Rattle.edge_augment.proofs.Raises.{least_raise}
use Rattle.answer_pages.specs.Augmenting.{augment_text}
use Rattle.job_replies.specs.Jobs.{IsAugmentText, IsCactusOf}

pub raise_text : (g : Graph) (c : Rooted) → IsCactusOf g c → (plan : Augmentation) (v : ℕ) → LawOfAugmentation → 2 ≤ g.vertices → IsAugmentation c plan → IsLeast c plan → v ≡ value g → IsAugmentText g (augment_text v plan)
raise_text g c of_graph plan v law two is least same = record {
  plan = plan;
  least = least_raise g c of_graph.over of_graph.sides plan law two is least;
  cactus = c;
  of_graph = of_graph;
  of_cactus = is;
  text_is = rw same refl;
}
