-- What was printed is read: the lines of a printed node, bridge or cycle give it back.
use Rattle.std.proofs.Common.{◌≡◌, ◌≢◌, ℕ, Bool, true, suc, ◌+◌, ◌<◌, ◌≤◌, ◌^◌, ◌&&◌, ◌++◌, ◌∷◌, [], List, length, ap, subst, ◌∙◌, sym, refl, arith, append_assoc, append-nil, length-append, lit<, add-zero, map}
use Rattle.std.specs.Prelude.{codes, nat_lt, nat_le, Option, Some, None, Ok, if◌then◌else◌}
use Rattle.std.proofs.lemmas.Bool.{lt-ltb, le-ltb, le-leb}
use Rattle.flat_cactus.specs.Flat.{Flat}
use Rattle.cactus_text.specs.declared.reading.Counts.{Counts}
use Rattle.answer_pages.specs.Text.{line, node_lines, bridge_lines, cycle_lines, first_line, cactus_text}
use Rattle.cactus_text.specs.Reading.{lines, numbers_of, is_node, is_cycle, is_whole, no_node, counts_of, file_of, stated_by, with_value, with_node, with_bridge, with_cycle, with_line, stated, plus_node, plus_bridge, plus_cycle}
use Rattle.cactus_text.specs.Scanned.{AreSmall, IsPlain, IsWord}
use Rattle.cactus_text.proofs.Numbers.{numbers_line}
use Rattle.cactus_text.proofs.Printed.{lines_line, each_node}
use Rattle.cactus_text.proofs.Rules.{stated_more, stated_whole}

differs : (a : ℕ) → 10 < a → a ≢ 10
differs a h e = omega (arith, h, e)

node_plain : IsPlain (codes "node")
node_plain = (differs 110 (lit< tt), (differs 111 (lit< tt), (differs 100 (lit< tt), (differs 101 (lit< tt), tt))))

node_word : IsWord (codes "node")
node_word = record { alone = refl; apart = λ rest. refl }

-- each list may be the next node, behind those before it
abbrev pub AreNodes : Flat → List (List ℕ) → Type 0
AreNodes flat [] = Unit {0}
AreNodes flat (vs ∷ rest) = (is_node flat (length flat.nodes) vs ≡ true) × AreSmall vs × (length flat.nodes < 2 ^ 64) × AreNodes (plus_node flat vs) rest

-- the lines of nodes come off the front of a text
pub nodes_lines : (flat : Flat) (nodes : List (List ℕ)) (rest : List ℕ) → AreNodes flat nodes
    → lines (node_lines (length flat.nodes) nodes ++ rest) ≡ each_node (length flat.nodes) nodes ++ lines rest
nodes_lines flat [] rest h = refl
nodes_lines flat (vs ∷ nodes) rest h =
    let i = length flat.nodes in
    let next : length (flat.nodes ++ vs ∷ []) ≡ i + 1 = length-append flat.nodes (vs ∷ []) in
    let here = line (codes "node") (i ∷ vs) in
    ap lines (append_assoc here (node_lines (i + 1) nodes) rest)
    ∙ lines_line (codes "node") (i ∷ vs) (node_lines (i + 1) nodes ++ rest) node_plain (h.2, h.1)
    ∙ ap (λ (ls : List (List ℕ)). here ∷ ls)
    (subst (λ k. lines (node_lines k nodes ++ rest) ≡ each_node k nodes ++ lines rest) next (nodes_lines (plus_node flat vs) nodes rest h.3))

with_node_line : (counts : Counts) (flat : Flat) (vs : List ℕ) → length flat.nodes < counts.nodes → is_node flat (length flat.nodes) vs ≡ true → AreSmall vs → length flat.nodes < 2 ^ 64
    → with_line counts flat (line (codes "node") (length flat.nodes ∷ vs)) ≡ Some (plus_node flat vs)
with_node_line counts flat vs due is small low =
    let i = length flat.nodes in
    let bytes = line (codes "node") (i ∷ vs) in
    ap (λ (b : Bool). if b then with_node flat (numbers_of (codes "node") bytes)
    else (if nat_lt (length flat.bridges) counts.bridges then with_bridge flat (numbers_of (codes "bridge") bytes)
    else (if nat_lt (length flat.cycles) counts.cycles then with_cycle flat (numbers_of (codes "cycle") bytes) else None))) (lt-ltb i counts.nodes due)
    ∙ ap (with_node flat) (numbers_line (codes "node") (i ∷ vs) node_word (low, small))
    ∙ ap (λ (b : Bool). if b then Some (plus_node flat vs) else None) is

-- nodes of a flat cactus, behind those that it has
abbrev pub plus_nodes : Flat → List (List ℕ) → Flat
plus_nodes flat [] = flat
plus_nodes flat (vs ∷ nodes) = plus_nodes (plus_node flat vs) nodes

-- their lines state them
pub stated_nodes : (number : ℕ) (counts : Counts) (flat : Flat) (nodes : List (List ℕ)) (more : List (List ℕ)) → AreNodes flat nodes → length flat.nodes + length nodes ≤ counts.nodes
    → stated number counts flat (each_node (length flat.nodes) nodes ++ more) ≡ stated (number + length nodes) counts (plus_nodes flat nodes) more
stated_nodes number counts flat [] more h c = ap (λ k. stated k counts flat more) (sym (add-zero number))
stated_nodes number counts flat (vs ∷ nodes) more h c =
    let i = length flat.nodes in
    let grown = plus_node flat vs in
    let next : length (flat.nodes ++ vs ∷ []) ≡ i + 1 = length-append flat.nodes (vs ∷ []) in
    let count : suc number + length nodes ≡ number + suc (length nodes) = omega arith in
    stated_more number counts flat grown (line (codes "node") (i ∷ vs)) (each_node (i + 1) nodes ++ more) (with_node_line counts flat vs (omega (arith, c)) h.0 h.1 h.2)
    ∙ ap (λ k. stated (suc number) counts grown (each_node k nodes ++ more)) (sym next)
    ∙ stated_nodes (suc number) counts grown nodes more h.3 (omega (arith, c, next))
    ∙ ap (λ k. stated k counts (plus_nodes grown nodes) more) count

-- the lines of the bridges of a flat cactus state them
bridge_plain : IsPlain (codes "bridge")
bridge_plain = (differs 98 (lit< tt), (differs 114 (lit< tt), (differs 105 (lit< tt), (differs 100 (lit< tt), (differs 103 (lit< tt), (differs 101 (lit< tt), tt))))))

bridge_word : IsWord (codes "bridge")
bridge_word = record { alone = refl; apart = λ rest. refl }

abbrev pub bridge_line : ℕ × ℕ → List ℕ
bridge_line b = line (codes "bridge") (b.0 ∷ b.1 ∷ [])

abbrev pub AreBridges : ℕ → List (ℕ × ℕ) → Type 0
AreBridges count [] = Unit {0}
AreBridges count (b ∷ bs) = (b.0 < b.1) × (b.1 < count) × (b.1 < 2 ^ 64) × AreBridges count bs

pub bridges_lines : (count : ℕ) (bs : List (ℕ × ℕ)) (rest : List ℕ) → AreBridges count bs → lines (bridge_lines bs ++ rest) ≡ map bridge_line bs ++ lines rest
bridges_lines count [] rest h = refl
bridges_lines count (b ∷ bs) rest h =
    ap lines (append_assoc (bridge_line b) (bridge_lines bs) rest)
    ∙ lines_line (codes "bridge") (b.0 ∷ b.1 ∷ []) (bridge_lines bs ++ rest) bridge_plain (omega (arith, h.0, h.2), (h.2, tt))
    ∙ ap (λ (ls : List (List ℕ)). bridge_line b ∷ ls) (bridges_lines count bs rest h.3)

with_bridge_line : (counts : Counts) (flat : Flat) (b : ℕ × ℕ) → counts.nodes ≤ length flat.nodes → length flat.bridges < counts.bridges
    → b.0 < b.1 → b.1 < length flat.nodes → b.1 < 2 ^ 64 → with_line counts flat (bridge_line b) ≡ Some (plus_bridge flat b)
with_bridge_line counts flat b done due one two low =
    let bytes = bridge_line b in
    let rest : Option Flat = if nat_lt (length flat.cycles) counts.cycles then with_cycle flat (numbers_of (codes "cycle") bytes) else None in
    let later : Option Flat = if nat_lt (length flat.bridges) counts.bridges then with_bridge flat (numbers_of (codes "bridge") bytes) else rest in
    ap (λ (t : Bool). if t then with_node flat (numbers_of (codes "node") bytes) else later) (le-ltb (length flat.nodes) counts.nodes done)
    ∙ ap (λ (t : Bool). if t then with_bridge flat (numbers_of (codes "bridge") bytes) else rest) (lt-ltb (length flat.bridges) counts.bridges due)
    ∙ ap (with_bridge flat) (numbers_line (codes "bridge") (b.0 ∷ b.1 ∷ []) bridge_word (omega (arith, one, low), (low, tt)))
    ∙ ap (λ (t : Bool). if t && nat_lt b.1 (length flat.nodes) then Some (plus_bridge flat b) else None) (lt-ltb b.0 b.1 one)
    ∙ ap (λ (t : Bool). if t then Some (plus_bridge flat b) else None) (lt-ltb b.1 (length flat.nodes) two)

abbrev pub plus_bridges : Flat → List (ℕ × ℕ) → Flat
plus_bridges flat [] = flat
plus_bridges flat (b ∷ bs) = plus_bridges (plus_bridge flat b) bs

pub stated_bridges : (number : ℕ) (counts : Counts) (flat : Flat) (bs : List (ℕ × ℕ)) (more : List (List ℕ)) → AreBridges (length flat.nodes) bs
    → counts.nodes ≤ length flat.nodes → length flat.bridges + length bs ≤ counts.bridges
    → stated number counts flat (map bridge_line bs ++ more) ≡ stated (number + length bs) counts (plus_bridges flat bs) more
stated_bridges number counts flat [] more h done c = ap (λ k. stated k counts flat more) (sym (add-zero number))
stated_bridges number counts flat (b ∷ bs) more h done c =
    let grown = plus_bridge flat b in
    let next : length (flat.bridges ++ b ∷ []) ≡ length flat.bridges + 1 = length-append flat.bridges (b ∷ []) in
    let count : suc number + length bs ≡ number + suc (length bs) = omega arith in
    stated_more number counts flat grown (bridge_line b) (map bridge_line bs ++ more) (with_bridge_line counts flat b done (omega (arith, c)) h.0 h.1 h.2)
    ∙ stated_bridges (suc number) counts grown bs more h.3 done (omega (arith, c, next))
    ∙ ap (λ k. stated k counts (plus_bridges grown bs) more) count

-- the lines of the cycles of a flat cactus state them
cycle_plain : IsPlain (codes "cycle")
cycle_plain = (differs 99 (lit< tt), (differs 121 (lit< tt), (differs 99 (lit< tt), (differs 108 (lit< tt), (differs 101 (lit< tt), tt)))))

cycle_word : IsWord (codes "cycle")
cycle_word = record { alone = refl; apart = λ rest. refl }

abbrev pub cycle_line : List ℕ → List ℕ
cycle_line = line (codes "cycle")

abbrev pub AreCycles : ℕ → List (List ℕ) → Type 0
AreCycles count [] = Unit {0}
AreCycles count (c ∷ cs) = (is_cycle count c ≡ true) × AreSmall c × AreCycles count cs

pub cycles_lines : (count : ℕ) (cs : List (List ℕ)) (rest : List ℕ) → AreCycles count cs → lines (cycle_lines cs ++ rest) ≡ map cycle_line cs ++ lines rest
cycles_lines count [] rest h = refl
cycles_lines count (c ∷ cs) rest h =
    ap lines (append_assoc (cycle_line c) (cycle_lines cs) rest)
    ∙ lines_line (codes "cycle") c (cycle_lines cs ++ rest) cycle_plain h.1
    ∙ ap (λ (ls : List (List ℕ)). cycle_line c ∷ ls) (cycles_lines count cs rest h.2)

with_cycle_line : (counts : Counts) (flat : Flat) (c : List ℕ) → counts.nodes ≤ length flat.nodes → counts.bridges ≤ length flat.bridges → length flat.cycles < counts.cycles
    → is_cycle (length flat.nodes) c ≡ true → AreSmall c → with_line counts flat (cycle_line c) ≡ Some (plus_cycle flat c)
with_cycle_line counts flat c done over due is small =
    let bytes = cycle_line c in
    let rest : Option Flat = if nat_lt (length flat.cycles) counts.cycles then with_cycle flat (numbers_of (codes "cycle") bytes) else None in
    let later : Option Flat = if nat_lt (length flat.bridges) counts.bridges then with_bridge flat (numbers_of (codes "bridge") bytes) else rest in
    ap (λ (t : Bool). if t then with_node flat (numbers_of (codes "node") bytes) else later) (le-ltb (length flat.nodes) counts.nodes done)
    ∙ ap (λ (t : Bool). if t then with_bridge flat (numbers_of (codes "bridge") bytes) else rest) (le-ltb (length flat.bridges) counts.bridges over)
    ∙ ap (λ (t : Bool). if t then with_cycle flat (numbers_of (codes "cycle") bytes) else None) (lt-ltb (length flat.cycles) counts.cycles due)
    ∙ ap (with_cycle flat) (numbers_line (codes "cycle") c cycle_word small)
    ∙ ap (λ (t : Bool). if t then Some (plus_cycle flat c) else None) is

abbrev pub plus_cycles : Flat → List (List ℕ) → Flat
plus_cycles flat [] = flat
plus_cycles flat (c ∷ cs) = plus_cycles (plus_cycle flat c) cs

pub stated_cycles : (number : ℕ) (counts : Counts) (flat : Flat) (cs more : List (List ℕ)) → AreCycles (length flat.nodes) cs
    → counts.nodes ≤ length flat.nodes → counts.bridges ≤ length flat.bridges → length flat.cycles + length cs ≤ counts.cycles
    → stated number counts flat (map cycle_line cs ++ more) ≡ stated (number + length cs) counts (plus_cycles flat cs) more
stated_cycles number counts flat [] more h done over c = ap (λ k. stated k counts flat more) (sym (add-zero number))
stated_cycles number counts flat (x ∷ cs) more h done over c =
    let grown = plus_cycle flat x in
    let next : length (flat.cycles ++ x ∷ []) ≡ length flat.cycles + 1 = length-append flat.cycles (x ∷ []) in
    let count : suc number + length cs ≡ number + suc (length cs) = omega arith in
    stated_more number counts flat grown (cycle_line x) (map cycle_line cs ++ more) (with_cycle_line counts flat x done over (omega (arith, c)) h.0 h.1)
    ∙ stated_cycles (suc number) counts grown cs more h.2 done over (omega (arith, c, next))
    ∙ ap (λ k. stated k counts (plus_cycles grown cs) more) count

nodes_all : (flat : Flat) (ns : List (List ℕ)) → plus_nodes flat ns ≡ record flat { nodes = flat.nodes ++ ns }
nodes_all flat [] = ap (λ (l : List (List ℕ)). record flat { nodes = l }) (sym (append-nil flat.nodes))
nodes_all flat (v ∷ ns) = nodes_all (plus_node flat v) ns ∙ ap (λ (l : List (List ℕ)). record flat { nodes = l }) (append_assoc flat.nodes (v ∷ []) ns)

bridges_all : (flat : Flat) (bs : List (ℕ × ℕ)) → plus_bridges flat bs ≡ record flat { bridges = flat.bridges ++ bs }
bridges_all flat [] = ap (λ (l : List (ℕ × ℕ)). record flat { bridges = l }) (sym (append-nil flat.bridges))
bridges_all flat (b ∷ bs) = bridges_all (plus_bridge flat b) bs ∙ ap (λ (l : List (ℕ × ℕ)). record flat { bridges = l }) (append_assoc flat.bridges (b ∷ []) bs)

cycles_all : (flat : Flat) (cs : List (List ℕ)) → plus_cycles flat cs ≡ record flat { cycles = flat.cycles ++ cs }
cycles_all flat [] = ap (λ (l : List (List ℕ)). record flat { cycles = l }) (sym (append-nil flat.cycles))
cycles_all flat (c ∷ cs) = cycles_all (plus_cycle flat c) cs ∙ ap (λ (l : List (List ℕ)). record flat { cycles = l }) (append_assoc flat.cycles (c ∷ []) cs)

abbrev pub counts_for : ℕ → Flat → Counts
counts_for value flat = record { value = value; vertices = flat.vertices; nodes = length flat.nodes; bridges = length flat.bridges; cycles = length flat.cycles }

-- a value and a flat cactus that keep the rules of the text
pub record IsReadable (value : ℕ) (flat : Flat) : Type 0 where
  pub bounded : value ≤ 2 ^ 62
  pub some : 1 ≤ flat.vertices
  pub most : flat.vertices ≤ 4194304
  pub small_nodes : length flat.nodes < 2 ^ 64
  pub small_bridges : length flat.bridges < 2 ^ 64
  pub small_cycles : length flat.cycles < 2 ^ 64
  pub nodes : AreNodes (no_node flat.vertices) flat.nodes
  pub bridges : AreBridges (length flat.nodes) flat.bridges
  pub cycles : AreCycles (length flat.nodes) flat.cycles
  pub whole : is_whole (counts_for value flat) flat ≡ true

cactus_plain : IsPlain (codes "cactus")
cactus_plain = (differs 99 (lit< tt), (differs 97 (lit< tt), (differs 99 (lit< tt), (differs 116 (lit< tt), (differs 117 (lit< tt), (differs 115 (lit< tt), tt))))))

cactus_word : IsWord (codes "cactus")
cactus_word = record { alone = refl; apart = λ rest. refl }

abbrev pub header : ℕ → Flat → List ℕ
header value flat = value ∷ flat.vertices ∷ length flat.nodes ∷ length flat.bridges ∷ length flat.cycles ∷ []

header_small : (value : ℕ) (flat : Flat) → IsReadable value flat → AreSmall (header value flat)
header_small value flat r =
    let one : value < 2 ^ 64 = omega (arith, r.bounded) in
    let two : flat.vertices < 2 ^ 64 = omega (arith, r.most) in
    (one, (two, (r.small_nodes, (r.small_bridges, (r.small_cycles, tt)))))

abbrev pub body : Flat → List (List ℕ)
body flat = each_node 0 flat.nodes ++ (map bridge_line flat.bridges ++ (map cycle_line flat.cycles ++ []))

four_parts : (a b c d : List ℕ) → ((a ++ b) ++ c) ++ d ≡ a ++ (b ++ (c ++ (d ++ [])))
four_parts a b c d = append_assoc (a ++ b) c d ∙ append_assoc a b (c ++ d) ∙ ap (λ (l : List ℕ). a ++ (b ++ (c ++ l))) (sym (append-nil d))

text_lines : (value : ℕ) (flat : Flat) → IsReadable value flat → lines (cactus_text value flat) ≡ line (codes "cactus") (header value flat) ∷ body flat
text_lines value flat r =
    let first = first_line value flat in
    let nodes = node_lines 0 flat.nodes in
    let bridges = bridge_lines flat.bridges in
    let cycles = cycle_lines flat.cycles in
    let whole : ((first ++ nodes) ++ bridges) ++ cycles ≡ first ++ (nodes ++ (bridges ++ (cycles ++ []))) = four_parts first nodes bridges cycles in
    ap lines whole
    ∙ lines_line (codes "cactus") (header value flat) (nodes ++ (bridges ++ (cycles ++ []))) cactus_plain (header_small value flat r)
    ∙ ap (λ (ls : List (List ℕ)). first ∷ ls)
    (nodes_lines (no_node flat.vertices) flat.nodes (bridges ++ (cycles ++ [])) r.nodes
    ∙ ap (λ (ls : List (List ℕ)). each_node 0 flat.nodes ++ ls)
    (bridges_lines (length flat.nodes) flat.bridges (cycles ++ []) r.bridges
    ∙ ap (λ (ls : List (List ℕ)). map bridge_line flat.bridges ++ ls) (cycles_lines (length flat.nodes) flat.cycles [] r.cycles)))

counts_found : (value : ℕ) (flat : Flat) → IsReadable value flat → counts_of (numbers_of (codes "cactus") (line (codes "cactus") (header value flat))) ≡ Some (counts_for value flat)
counts_found value flat r =
    let counts = counts_for value flat in
    ap counts_of (numbers_line (codes "cactus") (header value flat) cactus_word (header_small value flat r))
    ∙ ap (λ (b : Bool). if b && nat_le 1 flat.vertices && nat_le flat.vertices 4194304 then Some counts else None) (le-leb value (2 ^ 62) r.bounded)
    ∙ ap (λ (b : Bool). if b && nat_le flat.vertices 4194304 then Some counts else None) (le-leb 1 flat.vertices r.some)
    ∙ ap (λ (b : Bool). if b then Some counts else None) (le-leb flat.vertices 4194304 r.most)

body_stated : (value : ℕ) (flat : Flat) → IsReadable value flat → stated 2 (counts_for value flat) (no_node flat.vertices) (body flat) ≡ Ok flat
body_stated value flat r =
    let counts = counts_for value flat in
    let empty = no_node flat.vertices in
    let one : Flat = record empty { nodes = flat.nodes } in
    let two : Flat = record one { bridges = flat.bridges } in
    let a = length flat.nodes in
    let b = length flat.bridges in
    let c = length flat.cycles in
    let last = map cycle_line flat.cycles ++ [] in
    let later = map bridge_line flat.bridges ++ last in
    stated_nodes 2 counts empty flat.nodes later r.nodes (omega arith)
    ∙ ap (λ f. stated (2 + a) counts f later) (nodes_all empty flat.nodes)
    ∙ stated_bridges (2 + a) counts one flat.bridges last r.bridges (omega arith) (omega arith)
    ∙ ap (λ f. stated (2 + a + b) counts f last) (bridges_all one flat.bridges)
    ∙ stated_cycles (2 + a + b) counts two flat.cycles [] r.cycles (omega arith) (omega arith) (omega arith)
    ∙ ap (λ f. stated (2 + a + b + c) counts f []) (cycles_all two flat.cycles)
    ∙ stated_whole (2 + a + b + c) counts flat r.whole

-- a text that was printed of a value and a flat cactus that keep the rules states these
pub printed_is_read : (value : ℕ) (flat : Flat) → IsReadable value flat → file_of (lines (cactus_text value flat)) ≡ Ok (record { value = value; flat = flat })
printed_is_read value flat r =
    ap file_of (text_lines value flat r)
    ∙ ap (λ o. stated_by o (body flat)) (counts_found value flat r)
    ∙ ap (with_value value) (body_stated value flat r)
