-- What a text states: a value and a flat cactus, or the number of the first line that breaks a rule.
use Rattle.std.specs.Prelude.{ℕ, suc, ◌+◌, ◌-◌, ◌^◌, Bool, true, not, ◌&&◌, ◌||◌, ◌==◌, nat_lt, nat_le, if◌then◌else◌, List, [], ◌∷◌, ◌++◌, length, take, drop, map, codes, slice_index, Option, None, Some, Result, Ok, Err}
use Rattle.std.specs.List.{fold, list_all, list_any, range_with_len, sum_by}
use Rattle.std.specs.Str.{bytes_eq}
use Rattle.std.specs.Str.Parse.{digits_value}
use Rattle.cut_definitions.specs.Cuts.{has}
use Rattle.flat_cactus.specs.Flat.{Flat}
use Rattle.flat_cactus.specs.FlatCuts.{all_edges}
use Rattle.answer_pages.specs.Text.{line}
use Rattle.cactus_text.specs.declared.reading.Counts.{Counts}

abbrev pub with_front : ℕ → List (List ℕ) → List (List ℕ)
with_front b [] = (b ∷ []) ∷ []
with_front b (l ∷ ls) = (b ∷ l) ∷ ls

-- the lines of a text, each with the line feed that ends it; the last one may lack it
abbrev pub lines : List ℕ → List (List ℕ)
lines [] = []
lines (b ∷ bytes) = if b == 10 then (b ∷ []) ∷ lines bytes else with_front b (lines bytes)

-- the words of a line that single spaces separate
abbrev pub words : List ℕ → List (List ℕ)
words [] = [] ∷ []
words (b ∷ bytes) = if b == 32 then [] ∷ words bytes else with_front b (words bytes)

-- what the words of a line write, without the first one and the byte that ends the line
abbrev pub values : List ℕ → List ℕ
values bytes = map (digits_value 10) (drop 1 (words (take (length bytes - 1) bytes)))

-- the numbers of a line that is exactly that of this word and these numbers, each below 2^64
abbrev pub numbers_of : List ℕ → List ℕ → Option (List ℕ)
numbers_of word bytes =
    if bytes_eq bytes (line word (values bytes)) && list_all (λ n. nat_lt n (2 ^ 64)) (values bytes) then Some (values bytes) else None

-- what the first line names
abbrev pub counts_of : Option (List ℕ) → Option Counts
counts_of (Some (v ∷ n ∷ a ∷ b ∷ c ∷ [])) =
    if nat_le v (2 ^ 62) && nat_le 1 n && nat_le n 4194304 then Some (record { value = v; vertices = n; nodes = a; bridges = b; cycles = c }) else None
counts_of _ = None

-- ascending numbers of `low` to `high`
abbrev pub ascends : ℕ → ℕ → List ℕ → Bool
ascends low high [] = true
ascends low high (v ∷ vs) = nat_le low v && nat_le v high && ascends (v + 1) high vs

abbrev pub is_placed : Flat → ℕ → Bool
is_placed flat v = list_any (λ l. has l v) flat.nodes

-- the number of the node is the next one; its vertices ascend, are of 1 to n and in no earlier node, and node 0 has vertex 1
abbrev pub is_node : Flat → ℕ → List ℕ → Bool
is_node flat i vertices =
    i == length flat.nodes && ascends 1 flat.vertices vertices && list_all (λ v. not (is_placed flat v)) vertices && (nat_lt 0 i || has vertices 1)

abbrev pub distinct : List ℕ → Bool
distinct [] = true
distinct (x ∷ xs) = not (has xs x) && distinct xs

-- three or more different numbers of nodes, the first of them the least
abbrev pub is_cycle : ℕ → List ℕ → Bool
is_cycle count nodes =
    nat_le 3 (length nodes) && list_all (λ i. nat_le (slice_index nodes 0) i && nat_lt i count) nodes && distinct nodes

-- the flat cactus with one more node, bridge or cycle, if these are the numbers of such a line
abbrev pub with_node : Flat → Option (List ℕ) → Option Flat
with_node flat (Some (i ∷ vertices)) = if is_node flat i vertices then Some (record flat { nodes = flat.nodes ++ vertices ∷ [] }) else None
with_node flat _ = None

abbrev pub with_bridge : Flat → Option (List ℕ) → Option Flat
with_bridge flat (Some (i ∷ j ∷ [])) = if nat_lt i j && nat_lt j (length flat.nodes) then Some (record flat { bridges = flat.bridges ++ (i, j) ∷ [] }) else None
with_bridge flat _ = None

abbrev pub with_cycle : Flat → Option (List ℕ) → Option Flat
with_cycle flat (Some nodes) = if is_cycle (length flat.nodes) nodes then Some (record flat { cycles = flat.cycles ++ nodes ∷ [] }) else None
with_cycle flat None = None

-- the flat cactus of the lines so far, with a line more: nodes come first, then bridges, then cycles, as many as the first line names
abbrev pub with_line : Counts → Flat → List ℕ → Option Flat
with_line counts flat bytes =
    if nat_lt (length flat.nodes) counts.nodes then with_node flat (numbers_of (codes "node") bytes)
    else (if nat_lt (length flat.bridges) counts.bridges then with_bridge flat (numbers_of (codes "bridge") bytes)
    else (if nat_lt (length flat.cycles) counts.cycles then with_cycle flat (numbers_of (codes "cycle") bytes) else None))

-- nodes get one label with each edge that joins them: that of the one end for all that have that of the other
abbrev pub relabelled : List ℕ → ℕ × ℕ → List ℕ
relabelled labels e = map (λ l. if l == slice_index labels e.1 then slice_index labels e.0 else l) labels

abbrev pub is_joined : Flat → Bool
is_joined flat =
    let labels = fold relabelled (range_with_len 0 (length flat.nodes)) (all_edges flat) in
    list_all (λ l. l == slice_index labels 0) labels

-- no line is missing, and every vertex is in some node
abbrev pub is_complete : Counts → Flat → Bool
is_complete counts flat =
    length flat.nodes == counts.nodes && length flat.bridges == counts.bridges && length flat.cycles == counts.cycles
    && list_all (is_placed flat) (range_with_len 1 flat.vertices)

-- bridges and cycles join all nodes, by no more edges than that takes
abbrev pub is_tree : Flat → Bool
is_tree flat = length flat.nodes == 1 + length flat.bridges + sum_by (λ c. length c - 1) flat.cycles && is_joined flat

abbrev pub is_whole : Counts → Flat → Bool
is_whole counts flat = is_complete counts flat && is_tree flat

-- the flat cactus of lines after others, or the number of the first line that breaks a rule: one past the last if a line is missing, or the whole breaks one
abbrev pub stated : ℕ → Counts → Flat → List (List ℕ) → Result Flat ℕ
stated number counts flat [] = if is_whole counts flat then Ok flat else Err number
stated number counts flat (bytes ∷ more) = elim (with_line counts flat bytes) [ None ↦ Err number | Some next ↦ stated (suc number) counts next more ]

-- a value and a flat cactus
pub record Stated : Type 0 where
  pub value : ℕ
  pub flat : Flat

abbrev pub with_value : ℕ → Result Flat ℕ → Result Stated ℕ
with_value value (Ok flat) = Ok (record { value = value; flat = flat })
with_value value (Err number) = Err number

abbrev pub no_node : ℕ → Flat
no_node vertices = record { vertices = vertices; nodes = []; bridges = []; cycles = [] }

abbrev pub stated_by : Option Counts → List (List ℕ) → Result Stated ℕ
stated_by None more = Err 1
stated_by (Some counts) more = with_value counts.value (stated 2 counts (no_node counts.vertices) more)

abbrev pub file_of : List (List ℕ) → Result Stated ℕ
file_of [] = Err 1
file_of (first ∷ more) = stated_by (counts_of (numbers_of (codes "cactus") first)) more

-- what a flat cactus is with one more node, bridge or cycle
abbrev pub plus_node : Flat → List ℕ → Flat
plus_node flat vertices = record flat { nodes = flat.nodes ++ vertices ∷ [] }

abbrev pub plus_bridge : Flat → ℕ × ℕ → Flat
plus_bridge flat bridge = record flat { bridges = flat.bridges ++ bridge ∷ [] }

abbrev pub plus_cycle : Flat → List ℕ → Flat
plus_cycle flat nodes = record flat { cycles = flat.cycles ++ nodes ∷ [] }
