-- The vertices of a list of vertices, as it holds them.
use Rattle.std.specs.Prelude.{ℕ, List, [], ◌∷◌}
use Rattle.rooted_cactus.specs.declared.vertex_list.Held.{Held}
use Rattle.rooted_cactus.specs.declared.vertex_list.Held.TheVariants.{One, Many}

abbrev pub held_vertices : Held → List ℕ
held_vertices (One vertex _) = vertex ∷ []
held_vertices (Many items) = items.items
