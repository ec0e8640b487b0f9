-- The definitions at small files, computed.
use Rattle.std.proofs.Common.{◌≡◌, ℕ, List, [], ◌∷◌, refl}
use Rattle.std.specs.Prelude.{codes, Result, Ok, Err, map, ◌==◌, if◌then◌else◌, Some, None}
use Rattle.cut_definitions.specs.declared.edge_list.Edge.{Edge}
use Rattle.cut_definitions.specs.Graph.{Graph}
use Rattle.metis_reader.specs.declared.fault.Fault.{Fault}
use Rattle.metis_reader.specs.declared.fault.FaultKind.{FaultKind}
use Rattle.metis_reader.specs.declared.fault.FaultKind.TheVariants.{BadConstraints, BadFormat, BadNumber, ExtraLine, HeaderWords, MissingLines, NeighbourRange, NoHeader, Repeated, SelfLoop, TooFewEntries, TooManyEdges, TooManyEntries, TooManyVertices, Unsymmetric, WeightSum, WordMissing, ZeroWeight}
use Rattle.metis_reader.specs.File.{graph_of, fixed}

abbrev refused : FaultKind → ℕ → Result Graph Fault
refused kind line = Err (record { kind = kind; line = line })

abbrev graph : ℕ → List Edge → Result Graph Fault
graph n edges = Ok (record { vertices = n; edges = edges })

abbrev edge : ℕ → ℕ → ℕ → Edge
edge u v w = record { u = u; v = v; w = w }

-- a slash stands for a line feed, ~ for a carriage return, ^ for a tab
abbrev byte : ℕ → ℕ
byte b = if b == 47 then 10 else if b == 126 then 13 else if b == 94 then 9 else b

empty : graph_of (map byte (codes "")) ≡ refused NoHeader 0
unfolding graph_of
empty = refl

one_header_word : graph_of (map byte (codes "3/")) ≡ refused HeaderWords 1
unfolding graph_of
one_header_word = refl

bad_number : graph_of (map byte (codes "3 x3/")) ≡ refused BadNumber 1
unfolding graph_of
bad_number = refl

bad_format : graph_of (map byte (codes "2 1 2/")) ≡ refused BadFormat 1
unfolding graph_of
bad_format = refl

too_many_vertices : graph_of (map byte (codes "4194305 0/")) ≡ refused TooManyVertices 1
unfolding graph_of
too_many_vertices = refl

too_many_edges : graph_of (map byte (codes "2 16777217/")) ≡ refused TooManyEdges 1
unfolding graph_of
too_many_edges = refl

bad_constraints : graph_of (map byte (codes "1 0 10 0/")) ≡ refused BadConstraints 1
unfolding graph_of
bad_constraints = refl

neighbour_range : graph_of (map byte (codes "2 1/3/1/")) ≡ refused NeighbourRange 2
unfolding graph_of
neighbour_range = refl

self_loop : graph_of (map byte (codes "2 1/1/1/")) ≡ refused SelfLoop 2
unfolding graph_of
self_loop = refl

zero_weight : graph_of (map byte (codes "2 1 1/2 0/1 0/")) ≡ refused ZeroWeight 2
unfolding graph_of
zero_weight = refl

word_missing : graph_of (map byte (codes "2 1 1/2/1 7/")) ≡ refused WordMissing 2
unfolding graph_of
word_missing = refl

too_many_entries : graph_of (map byte (codes "2 0/2/1/")) ≡ refused TooManyEntries 2
unfolding graph_of
too_many_entries = refl

extra_line : graph_of (map byte (codes "2 1/2/1/1/")) ≡ refused ExtraLine 4
unfolding graph_of
extra_line = refl

weight_sum : graph_of (map byte (codes "2 1 1/2 2305843009213693953/1 2305843009213693953/")) ≡ refused WeightSum 3
unfolding graph_of
weight_sum = refl

missing_lines : graph_of (map byte (codes "2 1/2/")) ≡ refused MissingLines 2
unfolding graph_of
missing_lines = refl

too_few_entries : graph_of (map byte (codes "3 2/2/1//")) ≡ refused TooFewEntries 4
unfolding graph_of
too_few_entries = refl

repeated : graph_of (map byte (codes "3 2/2 2/1/1/")) ≡ refused Repeated 2
unfolding graph_of
repeated = refl

unsymmetric : graph_of (map byte (codes "3 2 1/2 3/1 4 3 1/2 1/")) ≡ refused Unsymmetric 2
unfolding graph_of
unsymmetric = refl

weight_without_end : graph_of (map byte (codes "2 1 1/2 7/1")) ≡ refused WordMissing 3
unfolding graph_of
weight_without_end = refl

line_is_missing : graph_of (map byte (codes "2 1 1/2 7/")) ≡ refused MissingLines 2
unfolding graph_of
line_is_missing = refl

weighted : graph_of (map byte (codes "2 1 1/2 7/1 7/")) ≡ graph 2 (edge 1 2 7 ∷ [])
unfolding graph_of
weighted = refl

largest_sum : graph_of (map byte (codes "2 1 1/2 2305843009213693952/1 2305843009213693952/")) ≡ graph 2 (edge 1 2 2305843009213693952 ∷ [])
unfolding graph_of
largest_sum = refl

by_hand : graph_of (map byte (codes "% made by hand~/2^1 011~/% first vertex~/7 2 3~/4 1 3")) ≡ graph 2 (edge 1 2 3 ∷ [])
unfolding graph_of
by_hand = refl

triangle : graph_of (map byte (codes "3 3/2 3/1 3/1 2/")) ≡ graph 3 (edge 1 2 1 ∷ (edge 1 3 1 ∷ (edge 2 3 1 ∷ [])))
unfolding graph_of
triangle = refl

any_order : graph_of (map byte (codes "3 3 1/3 1 2 5/3 4 1 5/2 4 1 1/")) ≡ graph 3 (edge 1 2 5 ∷ (edge 1 3 1 ∷ (edge 2 3 4 ∷ [])))
unfolding graph_of
any_order = refl

no_vertex : graph_of (map byte (codes "0 0/")) ≡ graph 0 ([])
unfolding graph_of
no_vertex = refl

one_vertex : graph_of (map byte (codes "1 0//")) ≡ graph 1 ([])
unfolding graph_of
one_vertex = refl

-- a word is judged when the byte after it is met
not_yet : fixed (map byte (codes "3 x")) ≡ None
unfolding fixed
not_yet = refl

now_fixed : fixed (map byte (codes "3 x ")) ≡ Some (record { kind = BadNumber; line = 1 })
unfolding fixed
now_fixed = refl
