-- A text that states a value and a flat cactus is just the text that is printed of these, and they keep all rules.
use Rattle.std.proofs.Common.{◌≡◌, ◌≤◌, ◌<◌, ◌+◌, ◌^◌, ◌&&◌, ◌||◌, ◌==◌, ◌++◌, ◌∷◌, [], ℕ, suc, Bool, true, false, List, length, ap, subst, sym, ◌∙◌, refl, arith, append_assoc, append-nil}
use Rattle.std.specs.Prelude.{not, nat_le, nat_lt, codes, Option, Some, None, Result, Ok, Err, if◌then◌else◌}
use Rattle.std.specs.List.{concat, list_all, range_with_len}
use Rattle.std.proofs.lemmas.Bool.{and_parts, eqb-true, leb-true, ltb-true, lt-ltb}
use Rattle.std.proofs.lemmas.List.Concat.{flat_map-append}
use Rattle.cut_definitions.specs.Cuts.{has}
use Rattle.flat_cactus.specs.Flat.{Flat}
use Rattle.flat_cactus.specs.FlatCuts.{IsWellFormed}
use Rattle.cactus_text.specs.declared.reading.Counts.{Counts}
use Rattle.answer_pages.specs.Text.{line, node_lines, bridge_lines, cycle_lines, cactus_text, first_line}
use Rattle.cactus_text.specs.Reading.{ascends, lines, with_front, is_cycle, is_node, is_placed, is_complete, is_tree, is_whole, no_node, with_node, with_bridge, with_cycle, with_line, numbers_of, plus_node, plus_bridge, plus_cycle, stated, stated_by, with_value, counts_of, file_of, Stated}
use Rattle.cactus_text.specs.TextLaws.{LawOfStated, LawOfUniqueText}
use Rattle.cactus_text.proofs.Numbers.{numbers_some}
use Rattle.cactus_text.proofs.Accepted.{if_some, whole_or, stated_next, stated_holds, stated_formed, no_node_holds}

front_joined : (b : ℕ) (ls : List (List ℕ)) → concat (with_front b ls) ≡ b ∷ concat ls
front_joined b [] = refl
front_joined b (l ∷ ls) = refl

step_joined : (b : ℕ) (ls : List (List ℕ)) (ends : Bool) → concat (if ends then (b ∷ []) ∷ ls else with_front b ls) ≡ b ∷ concat ls
step_joined b ls true = refl
step_joined b ls false = front_joined b ls

-- the lines of a text are the text
lines_joined : (text : List ℕ) → concat (lines text) ≡ text
lines_joined [] = refl
lines_joined (b ∷ bytes) = step_joined b (lines bytes) (b == 10) ∙ ap (λ (l : List ℕ). b ∷ l) (lines_joined bytes)

nodes_push : (first : ℕ) (nodes : List (List ℕ)) (vs : List ℕ) → node_lines first (nodes ++ vs ∷ []) ≡ node_lines first nodes ++ line (codes "node") ((first + length nodes) ∷ vs)
nodes_push first [] vs =
    let place : first ≡ first + 0 = omega arith in
    append-nil (line (codes "node") (first ∷ vs)) ∙ ap (λ k. line (codes "node") (k ∷ vs)) place
nodes_push first (x ∷ nodes) vs =
    let here = line (codes "node") (first ∷ x) in
    let place : first + 1 + length nodes ≡ first + suc (length nodes) = omega arith in
    ap (λ l. here ++ l) (nodes_push (first + 1) nodes vs ∙ ap (λ k. node_lines (first + 1) nodes ++ line (codes "node") (k ∷ vs)) place)
    ∙ sym (append_assoc here (node_lines (first + 1) nodes) (line (codes "node") ((first + suc (length nodes)) ∷ vs)))

-- the lines of nodes, bridges and cycles
abbrev lines_of : Flat → List ℕ
lines_of flat = node_lines 0 flat.nodes ++ (bridge_lines flat.bridges ++ cycle_lines flat.cycles)

-- bridges come after all nodes, and cycles after all bridges
record InTurn (counts : Counts) (flat : Flat) : Type 0 where
  pub nodes : length flat.nodes < counts.nodes → (flat.bridges ≡ []) × (flat.cycles ≡ [])
  pub bridges : length flat.bridges < counts.bridges → flat.cycles ≡ []

-- a line is taken: it comes after those before it
record Follows1 (counts : Counts) (flat next : Flat) (bytes : List ℕ) : Type 0 where
  pub turn : InTurn counts next
  pub text : lines_of next ≡ lines_of flat ++ bytes

nothing_behind : (a here : List ℕ) (bs : List (ℕ × ℕ)) (cs : List (List ℕ)) → bs ≡ [] → cs ≡ [] → (a ++ here) ++ (bridge_lines bs ++ cycle_lines cs) ≡ (a ++ (bridge_lines bs ++ cycle_lines cs)) ++ here
nothing_behind a here bs cs e f =
    let empty : bridge_lines bs ++ cycle_lines cs ≡ [] = ap (λ l. bridge_lines l ++ cycle_lines cs) e ∙ ap cycle_lines f in
    ap (λ l. (a ++ here) ++ l) empty ∙ append-nil (a ++ here) ∙ ap (λ l. l ++ here) (sym (ap (λ l. a ++ l) empty ∙ append-nil a))

bridges_push : (a : List ℕ) (bs : List (ℕ × ℕ)) (cs : List (List ℕ)) (i j : ℕ) → cs ≡ []
    → a ++ (bridge_lines (bs ++ (i, j) ∷ []) ++ cycle_lines cs) ≡ (a ++ (bridge_lines bs ++ cycle_lines cs)) ++ line (codes "bridge") (i ∷ j ∷ [])
bridges_push a bs cs i j e =
    let here = line (codes "bridge") (i ∷ j ∷ []) in
    let b = bridge_lines bs in
    let empty : cycle_lines cs ≡ [] = ap cycle_lines e in
    let grown : bridge_lines (bs ++ (i, j) ∷ []) ≡ b ++ here =
    flat_map-append (λ (k : ℕ × ℕ). line (codes "bridge") (k.0 ∷ k.1 ∷ [])) bs ((i, j) ∷ []) ∙ ap (λ l. b ++ l) (append-nil here) in
    ap (λ l. a ++ (l ++ cycle_lines cs)) grown ∙ ap (λ l. a ++ ((b ++ here) ++ l)) empty ∙ ap (λ l. a ++ l) (append-nil (b ++ here)) ∙ sym (append_assoc a b here)
    ∙ ap (λ l. l ++ here) (ap (λ l. a ++ l) (sym (append-nil b)) ∙ ap (λ l. a ++ (b ++ l)) (sym empty))

cycles_push : (a b : List ℕ) (cs : List (List ℕ)) (c : List ℕ) → a ++ (b ++ cycle_lines (cs ++ c ∷ [])) ≡ (a ++ (b ++ cycle_lines cs)) ++ line (codes "cycle") c
cycles_push a b cs c =
    let here = line (codes "cycle") c in
    let grown : cycle_lines (cs ++ c ∷ []) ≡ cycle_lines cs ++ here =
    flat_map-append (line (codes "cycle")) cs (c ∷ []) ∙ ap (λ l. cycle_lines cs ++ l) (append-nil here) in
    ap (λ l. a ++ (b ++ l)) grown ∙ ap (λ l. a ++ l) (sym (append_assoc b (cycle_lines cs) here)) ∙ sym (append_assoc a (b ++ cycle_lines cs) here)

node_number : (flat : Flat) (i : ℕ) (vs : List ℕ) → is_node flat i vs ≡ true → i ≡ 0 + length flat.nodes
node_number flat i vs is =
    let n = length flat.nodes in
    let fresh = list_all (λ v. not (is_placed flat v)) vs in
    let three = (and_parts (i == n && ascends 1 flat.vertices vs && fresh) (nat_lt 0 i || has vs 1) is).0 in
    let two = (and_parts (i == n && ascends 1 flat.vertices vs) fresh three).0 in
    let number = eqb-true i n (and_parts (i == n) (ascends 1 flat.vertices vs) two).0 in
    omega (arith, number)

node_text : (counts : Counts) (flat next : Flat) (bytes : List ℕ) (o : Option (List ℕ)) → numbers_of (codes "node") bytes ≡ o → InTurn counts flat → length flat.nodes < counts.nodes
    → with_node flat o ≡ Some next → Follows1 counts flat next bytes
node_text counts flat next bytes None read t due e = absurd (cc e)
node_text counts flat next bytes (Some []) read t due e = absurd (cc e)
node_text counts flat next bytes (Some (i ∷ vs)) read t due e =
    let (is, same) = if_some (is_node flat i vs) (plus_node flat vs) next e in
    let (none, neither) = t.nodes due in
    let number : i ≡ 0 + length flat.nodes = node_number flat i vs is in
    let bytes_are = (numbers_some (codes "node") bytes (i ∷ vs) read).0 in
    let here = line (codes "node") (i ∷ vs) in
    let grown : lines_of (plus_node flat vs) ≡ lines_of flat ++ here =
    ap (λ l. l ++ (bridge_lines flat.bridges ++ cycle_lines flat.cycles)) (nodes_push 0 flat.nodes vs ∙ ap (λ k. node_lines 0 flat.nodes ++ line (codes "node") (k ∷ vs)) (sym number))
    ∙ nothing_behind (node_lines 0 flat.nodes) here flat.bridges flat.cycles none neither in
    subst (λ f. Follows1 counts flat f bytes) same record {
      turn = record { nodes = λ more. (none, neither); bridges = λ more. neither };
      text = grown ∙ ap (λ l. lines_of flat ++ l) (sym bytes_are);
    }

bridge_text : (counts : Counts) (flat next : Flat) (bytes : List ℕ) (o : Option (List ℕ)) → numbers_of (codes "bridge") bytes ≡ o → InTurn counts flat → (length flat.nodes < counts.nodes → ⊥)
    → length flat.bridges < counts.bridges → with_bridge flat o ≡ Some next → Follows1 counts flat next bytes
bridge_text counts flat next bytes None read t done due e = absurd (cc e)
bridge_text counts flat next bytes (Some []) read t done due e = absurd (cc e)
bridge_text counts flat next bytes (Some (i ∷ [])) read t done due e = absurd (cc e)
bridge_text counts flat next bytes (Some (i ∷ j ∷ [])) read t done due e =
    let (is, same) = if_some (nat_lt i j && nat_lt j (length flat.nodes)) (plus_bridge flat (i, j)) next e in
    let none = t.bridges due in
    let bytes_are = (numbers_some (codes "bridge") bytes (i ∷ j ∷ []) read).0 in
    let here = line (codes "bridge") (i ∷ j ∷ []) in
    subst (λ f. Follows1 counts flat f bytes) same record {
      turn = record { nodes = λ more. absurd (done more); bridges = λ more. none };
      text = bridges_push (node_lines 0 flat.nodes) flat.bridges flat.cycles i j none ∙ ap (λ l. lines_of flat ++ l) (sym bytes_are);
    }
bridge_text counts flat next bytes (Some (i ∷ j ∷ k ∷ ks)) read t done due e = absurd (cc e)

cycle_text : (counts : Counts) (flat next : Flat) (bytes : List ℕ) (o : Option (List ℕ)) → numbers_of (codes "cycle") bytes ≡ o → InTurn counts flat → (length flat.nodes < counts.nodes → ⊥)
    → (length flat.bridges < counts.bridges → ⊥) → with_cycle flat o ≡ Some next → Follows1 counts flat next bytes
cycle_text counts flat next bytes None read t done over e = absurd (cc e)
cycle_text counts flat next bytes (Some c) read t done over e =
    let (is, same) = if_some (is_cycle (length flat.nodes) c) (plus_cycle flat c) next e in
    let bytes_are = (numbers_some (codes "cycle") bytes c read).0 in
    subst (λ f. Follows1 counts flat f bytes) same record {
      turn = record { nodes = λ more. absurd (done more); bridges = λ more. absurd (over more) };
      text = cycles_push (node_lines 0 flat.nodes) (bridge_lines flat.bridges) flat.cycles c ∙ ap (λ l. lines_of flat ++ l) (sym bytes_are);
    }

either_due : (b : Bool) (x y : Option Flat) (next : Flat) (P : Type 0) → (b ≡ true → x ≡ Some next → P) → (b ≡ false → y ≡ Some next → P) → (if b then x else y) ≡ Some next → P
either_due true x y next P f g e = f refl e
either_due false x y next P f g e = g refl e

not_due : (a b : ℕ) → nat_lt a b ≡ false → a < b → ⊥
not_due a b e h = let c : true ≡ false = sym (lt-ltb a b h) ∙ e in cc c

line_text : (counts : Counts) (flat next : Flat) (bytes : List ℕ) → InTurn counts flat → with_line counts flat bytes ≡ Some next → Follows1 counts flat next bytes
line_text counts flat next bytes t e =
    let Goal : Type 0 = Follows1 counts flat next bytes in
    let nodes = with_node flat (numbers_of (codes "node") bytes) in
    let bridges = with_bridge flat (numbers_of (codes "bridge") bytes) in
    let cycles = with_cycle flat (numbers_of (codes "cycle") bytes) in
    let third : Option Flat = if nat_lt (length flat.cycles) counts.cycles then cycles else None in
    let second : Option Flat = if nat_lt (length flat.bridges) counts.bridges then bridges else third in
    either_due (nat_lt (length flat.nodes) counts.nodes) nodes second next Goal
    (λ due. node_text counts flat next bytes (numbers_of (codes "node") bytes) refl t (ltb-true (length flat.nodes) counts.nodes due))
    (λ done. either_due (nat_lt (length flat.bridges) counts.bridges) bridges third next Goal
    (λ due. bridge_text counts flat next bytes (numbers_of (codes "bridge") bytes) refl t (not_due (length flat.nodes) counts.nodes done) (ltb-true (length flat.bridges) counts.bridges due))
    (λ over. either_due (nat_lt (length flat.cycles) counts.cycles) cycles None next Goal
    (λ due. cycle_text counts flat next bytes (numbers_of (codes "cycle") bytes) refl t (not_due (length flat.nodes) counts.nodes done) (not_due (length flat.bridges) counts.bridges over))
    (λ past n. absurd (cc n)))) e

stated_text : (number : ℕ) (counts : Counts) (flat final : Flat) (ls : List (List ℕ)) → InTurn counts flat → stated number counts flat ls ≡ Ok final → lines_of final ≡ lines_of flat ++ concat ls
stated_text number counts flat final [] t e =
    let same : flat ≡ final = (whole_or (is_whole counts flat) flat final number e).1 in
    ap lines_of (sym same) ∙ sym (append-nil (lines_of flat))
stated_text number counts flat final (bytes ∷ ls) t e =
    let (next, taken, later) = stated_next number counts (with_line counts flat bytes) ls final e in
    let here = line_text counts flat next bytes t taken in
    stated_text (suc number) counts next final ls here.turn later ∙ ap (λ l. l ++ concat ls) here.text ∙ append_assoc (lines_of flat) bytes (concat ls)

if_counts : (b : Bool) (x counts : Counts) → (if b then Some x else None) ≡ Some counts → (b ≡ true) × (x ≡ counts)
if_counts true x counts e = let p : x ≡ counts = cc e in (refl, p)
if_counts false x counts e = absurd (cc e)

abbrev numbers_in : Counts → List ℕ
numbers_in counts = counts.value ∷ counts.vertices ∷ counts.nodes ∷ counts.bridges ∷ counts.cycles ∷ []

counts_are : (o : Option (List ℕ)) (counts : Counts) → counts_of o ≡ Some counts → o ≡ Some (numbers_in counts)
counts_are None counts e = absurd (cc e)
counts_are (Some []) counts e = absurd (cc e)
counts_are (Some (a ∷ [])) counts e = absurd (cc e)
counts_are (Some (a ∷ b ∷ [])) counts e = absurd (cc e)
counts_are (Some (a ∷ b ∷ c ∷ [])) counts e = absurd (cc e)
counts_are (Some (a ∷ b ∷ c ∷ d ∷ [])) counts e = absurd (cc e)
counts_are (Some (v ∷ n ∷ a ∷ b ∷ c ∷ [])) counts e =
    let x : Counts = record { value = v; vertices = n; nodes = a; bridges = b; cycles = c } in
    ap (λ k. Some (numbers_in k)) (if_counts (nat_le v (2 ^ 62) && nat_le 1 n && nat_le n 4194304) x counts e).1
counts_are (Some (a ∷ b ∷ c ∷ d ∷ e ∷ f ∷ ns)) counts h = absurd (cc h)

counts_bounded : (o : Option (List ℕ)) (counts : Counts) → counts_of o ≡ Some counts → (counts.value ≤ 2 ^ 62) × (counts.vertices ≤ 4194304)
counts_bounded o counts e =
    let again : counts_of (Some (numbers_in counts)) ≡ Some counts = ap counts_of (sym (counts_are o counts e)) ∙ e in
    let value = nat_le counts.value (2 ^ 62) in
    let some = nat_le 1 counts.vertices in
    let most = nat_le counts.vertices 4194304 in
    let three = and_parts (value && some) most (if_counts (value && some && most) counts counts again).0 in
    (leb-true counts.value (2 ^ 62) (and_parts value some three.0).0, leb-true counts.vertices 4194304 three.1)

same_header : (counts : Counts) (flat : Flat) → is_whole counts flat ≡ true → flat.vertices ≡ counts.vertices
    → counts.value ∷ flat.vertices ∷ length flat.nodes ∷ length flat.bridges ∷ length flat.cycles ∷ [] ≡ numbers_in counts
same_header counts flat whole vertices =
    let complete = (and_parts (is_complete counts flat) (is_tree flat) whole).0 in
    let a = length flat.nodes == counts.nodes in
    let b = length flat.bridges == counts.bridges in
    let c = length flat.cycles == counts.cycles in
    let three = (and_parts (a && b && c) (list_all (is_placed flat) (range_with_len 1 flat.vertices)) complete).0 in
    let two = and_parts (a && b) c three in
    let one = and_parts a b two.0 in
    let nodes = eqb-true (length flat.nodes) counts.nodes one.0 in
    let bridges = eqb-true (length flat.bridges) counts.bridges one.1 in
    let cycles = eqb-true (length flat.cycles) counts.cycles two.1 in
    ap (λ k. counts.value ∷ k ∷ length flat.nodes ∷ length flat.bridges ∷ length flat.cycles ∷ []) vertices
    ∙ ap (λ k. counts.value ∷ counts.vertices ∷ k ∷ length flat.bridges ∷ length flat.cycles ∷ []) nodes
    ∙ ap (λ k. counts.value ∷ counts.vertices ∷ counts.nodes ∷ k ∷ length flat.cycles ∷ []) bridges
    ∙ ap (λ k. counts.value ∷ counts.vertices ∷ counts.nodes ∷ counts.bridges ∷ k ∷ []) cycles

text_parts : (value : ℕ) (flat : Flat) → cactus_text value flat ≡ first_line value flat ++ lines_of flat
text_parts value flat =
    let first = first_line value flat in
    let nodes = node_lines 0 flat.nodes in
    append_assoc (first ++ nodes) (bridge_lines flat.bridges) (cycle_lines flat.cycles) ∙ append_assoc first nodes (bridge_lines flat.bridges ++ cycle_lines flat.cycles)

rest_unique : (first : List ℕ) (more : List (List ℕ)) (counts : Counts) (r : Result Flat ℕ) (file : Stated) → first ≡ line (codes "cactus") (numbers_in counts)
    → r ≡ stated 2 counts (no_node counts.vertices) more → with_value counts.value r ≡ Ok file → first ++ concat more ≡ cactus_text file.value file.flat
rest_unique first more counts (Err number) file start is e = absurd (cc e)
rest_unique first more counts (Ok flat) file start is e =
    let found : Stated = record { value = counts.value; flat = flat } in
    let same : found ≡ file = cc e in
    let turn : InTurn counts (no_node counts.vertices) = record { nodes = λ due. (refl, refl); bridges = λ due. refl } in
    let kept = stated_holds 2 counts (no_node counts.vertices) flat more (no_node_holds counts.vertices) (sym is) in
    let body : lines_of flat ≡ concat more = stated_text 2 counts (no_node counts.vertices) flat more turn (sym is) in
    let header : first ≡ first_line counts.value flat = start ∙ ap (line (codes "cactus")) (sym (same_header counts flat kept.1 kept.2)) in
    ap (λ l. l ++ concat more) header ∙ ap (λ l. first_line counts.value flat ++ l) (sym body) ∙ sym (text_parts counts.value flat)
    ∙ ap (λ (s : Stated). cactus_text s.value s.flat) same

first_unique : (first : List ℕ) (more : List (List ℕ)) (o : Option Counts) (file : Stated) → counts_of (numbers_of (codes "cactus") first) ≡ o → stated_by o more ≡ Ok file
    → first ++ concat more ≡ cactus_text file.value file.flat
first_unique first more None file is e = absurd (cc e)
first_unique first more (Some counts) file is e =
    let start = (numbers_some (codes "cactus") first (numbers_in counts) (counts_are (numbers_of (codes "cactus") first) counts is)).0 in
    rest_unique first more counts (stated 2 counts (no_node counts.vertices) more) file start refl e

lines_unique : (ls : List (List ℕ)) (file : Stated) → file_of ls ≡ Ok file → concat ls ≡ cactus_text file.value file.flat
lines_unique [] file e = absurd (cc e)
lines_unique (first ∷ more) file e = first_unique first more (counts_of (numbers_of (codes "cactus") first)) file refl e

pub unique_law : LawOfUniqueText
unique_law text file e = sym (lines_joined text) ∙ lines_unique (lines text) file e

rest_formed : (more : List (List ℕ)) (counts : Counts) (r : Result Flat ℕ) (file : Stated) → counts.value ≤ 2 ^ 62 → counts.vertices ≤ 4194304
    → r ≡ stated 2 counts (no_node counts.vertices) more → with_value counts.value r ≡ Ok file → IsWellFormed file.flat × (file.value ≤ 2 ^ 62) × (file.flat.vertices ≤ 4194304)
rest_formed more counts (Err number) file low few is e = absurd (cc e)
rest_formed more counts (Ok flat) file low few is e =
    let found : Stated = record { value = counts.value; flat = flat } in
    let same : found ≡ file = cc e in
    let kept = stated_holds 2 counts (no_node counts.vertices) flat more (no_node_holds counts.vertices) (sym is) in
    subst (λ (s : Stated). IsWellFormed s.flat × (s.value ≤ 2 ^ 62) × (s.flat.vertices ≤ 4194304)) same
    (stated_formed 2 counts counts.vertices flat more (sym is), low, omega (arith, kept.2, few))

first_formed : (first : List ℕ) (more : List (List ℕ)) (o : Option Counts) (file : Stated) → counts_of (numbers_of (codes "cactus") first) ≡ o → stated_by o more ≡ Ok file
    → IsWellFormed file.flat × (file.value ≤ 2 ^ 62) × (file.flat.vertices ≤ 4194304)
first_formed first more None file is e = absurd (cc e)
first_formed first more (Some counts) file is e =
    let bounds = counts_bounded (numbers_of (codes "cactus") first) counts is in
    rest_formed more counts (stated 2 counts (no_node counts.vertices) more) file bounds.0 bounds.1 refl e

lines_formed : (ls : List (List ℕ)) (file : Stated) → file_of ls ≡ Ok file → IsWellFormed file.flat × (file.value ≤ 2 ^ 62) × (file.flat.vertices ≤ 4194304)
lines_formed [] file e = absurd (cc e)
lines_formed (first ∷ more) file e = first_formed first more (counts_of (numbers_of (codes "cactus") first)) file refl e

pub stated_law : LawOfStated
stated_law text file e = lines_formed (lines text) file e
