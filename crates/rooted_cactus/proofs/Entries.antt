-- A tree taken apart into entries has one reading, and the tree that is put together from them has the same.
use Rattle.std.proofs.Common.{◌≡◌, ℕ, ◌+◌, ◌-◌, ◌<◌, ◌≤◌, Bool, true, false, List, [], ◌∷◌, ◌++◌, length, map, take, drop, refl, sym, ◌∙◌, ap, subst, arith}
use Rattle.std.specs.Prelude.{Option, Some, None, IsSome, ◌↔◌}
use Rattle.std.specs.List.{flat_map}
use Rattle.std.proofs.lemmas.Bool.{false≢true}
use Rattle.std.proofs.lemmas.List.{append-nil, append_assoc, length-append, length-map, map-append, drop-drop, map-id}
use Rattle.std.proofs.lemmas.List.Concat.{flat_map-append}
use Rattle.std.proofs.lemmas.Simd.{map-map}
use Rattle.std.proofs.Math.Seq.{take-append_seam, drop-append_seam}
use Rattle.std.specs.declared.boxed.Box.{Box}
use Rattle.std.specs.declared.alloc.Global.{Global}
use Rattle.cut_definitions.specs.Weight.{VertexSet, either}
use Rattle.rooted_cactus.specs.declared.tree.Node.{Node}
use Rattle.rooted_cactus.specs.declared.tree.Block.{Block}
use Rattle.rooted_cactus.specs.declared.tree.Children.{Children}
use Rattle.rooted_cactus.specs.declared.tree.Block.TheVariants.{Bridge, Cycle, outs-Bridge, outs-Cycle}
use Rattle.rooted_cactus.specs.declared.tree.entries.Joint.{Joint}
use Rattle.rooted_cactus.specs.declared.tree.entries.Joint.TheVariants as Joints
use Rattle.rooted_cactus.specs.declared.tree.entries.ShedNode.{ShedNode}
use Rattle.rooted_cactus.specs.Trees.{vertices, blocks, nodes_in}
use Rattle.rooted_cactus.specs.Entered.{entered, entered_block}
use Rattle.rooted_cactus.specs.Widths.{widths, joined}
use Rattle.rooted_cactus.specs.Sides.{Part, block_part_by, together, cycle_of}
use Rattle.rooted_cactus.specs.Entries.{top_first, nodes_of_step, nodes_of, Read, parts_read, lists_read, counts_read, bridge_read, cycle_read, node_read, read_node, read_block, kept, used, wanted, all_drawn, joints_of, read_entry, read_entries, left, IsReady, Shows, IsShed, AreShed, MayName}
use Rattle.rooted_cactus.proofs.Orders.{entered_out, entered_bridge, entered_cycle}
use Rattle.rooted_cactus.proofs.Widths.{widths_out, widths_bridge, widths_cycle, width_with}
use Rattle.rooted_cactus.proofs.PartsBy.{part_by_out, bridge_by, cycle_by}

-- ---- stacks
pub top_push : {X : Type 0} (xs : List X) (x : X) → top_first (xs ++ x ∷ []) ≡ x ∷ top_first xs
top_push [] x = refl
top_push (y ∷ ys) x = ap (λ l. l ++ y ∷ []) (top_push ys x)

pub top_length : {X : Type 0} (xs : List X) → length (top_first xs) ≡ length xs
top_length [] = refl
top_length (x ∷ xs) = omega (arith, length-append (top_first xs) (x ∷ []), top_length xs)

-- an element was taken off the end of a list and put on the stack
pub moved_one : {X : Type 0} (from left_over before after all : List X) (x : X) → from ≡ left_over ++ x ∷ [] → after ≡ x ∷ before → from ++ before ≡ all → left_over ++ after ≡ all
moved_one from left_over before after all x e a h =
    ap (λ l. left_over ++ l) a ∙ sym (append_assoc left_over (x ∷ []) before) ∙ ap (λ l. l ++ before) (sym e) ∙ h

-- ---- the equations of what is read
same_read : (p q : Part) (l m : List (List ℕ)) (c d : List ℕ) → p ≡ q → l ≡ m → c ≡ d → (let r : Read = record { part = p; lists = l; counts = c } in r) ≡ record { part = q; lists = m; counts = d }
same_read p q l m c d e f g = λ i. record { part = e i; lists = f i; counts = g i }

lists_are : {X : Type 0} (names : List ℕ → List ℕ) (f : X → Read) (g : X → List (List ℕ)) → ((x : X) → (f x).lists ≡ map names (g x)) → (xs : List X) → lists_read (map f xs) ≡ map names (flat_map g xs)
lists_are names f g h [] = refl
lists_are names f g h (x ∷ xs) = ap (λ l. l ++ lists_read (map f xs)) (h x) ∙ ap (λ l. map names (g x) ++ l) (lists_are names f g h xs) ∙ sym (map-append names (g x) (flat_map g xs))

counts_are : {X : Type 0} (f : X → Read) (xs : List X) → counts_read (map f xs) ≡ joined (map (λ x. (f x).counts) xs)
counts_are f [] = refl
counts_are f (x ∷ xs) = ap (λ l. (f x).counts ++ l) (counts_are f xs)

parts_are : {X : Type 0} (f : X → Read) (xs : List X) → parts_read (map f xs) ≡ map (λ x. (f x).part) xs
parts_are f xs = map-map (λ (r : Read). r.part) f xs

module _ (sets : List ℕ → VertexSet) (names : List ℕ → List ℕ) where
  abbrev by : List ℕ → VertexSet
  by l = sets (names l)

  pub read_out : (x : Node) → read_node sets names x ≡ node_read sets (names (vertices x)) (map (read_block sets names) (blocks x))
  read_out x =
      let bs = blocks x in
      let parts : map (block_part_by by) bs ≡ parts_read (map (read_block sets names) bs) = sym (parts_are (read_block sets names) bs) in
      same_read _ _ _ _ _ _
      (part_by_out by x ∙ ap (λ (ps : List Part). record { below = either (by (vertices x)) (together ps).below; cuts = (together ps).cuts }) parts)
      (ap (map names) (entered_out x) ∙ ap (λ l. names (vertices x) ∷ l) (sym (lists_are names (read_block sets names) entered_block (λ b. refl) bs)))
      (widths_out x ∙ sym (counts_are (read_block sets names) bs))

  pub read_bridge : (child : Box Node Global) → read_block sets names (Bridge child) ≡ bridge_read (read_node sets names child.value)
  read_bridge child = same_read _ _ _ _ _ _ (bridge_by by child) (ap (map names) (entered_bridge child)) (widths_bridge child)

  pub read_cycle : (nodes : Children) → read_block sets names (Cycle nodes) ≡ cycle_read (map (read_node sets names) (nodes_in nodes))
  read_cycle nodes =
      let xs = nodes_in nodes in
      let rs = map (read_node sets names) xs in
      let counted : width_with (map widths xs) ≡ length rs ∷ counts_read rs =
      ap (λ k. k ∷ joined (map widths xs)) (length-map xs widths ∙ sym (length-map xs (read_node sets names))) ∙ ap (λ l. length rs ∷ l) (sym (counts_are (read_node sets names) xs)) in
      same_read _ _ _ _ _ _
      (cycle_by by nodes ∙ ap cycle_of (sym (parts_are (read_node sets names) xs)))
      (ap (map names) (entered_cycle nodes) ∙ sym (lists_are names (read_node sets names) entered (λ x. refl) xs))
      (widths_cycle nodes ∙ counted)

-- ---- a bridge, a bridge to a leaf, and a cycle are taken apart
pub none_in : (bs : List Block) → length bs ≡ 0 → bs ≡ []
none_in [] h = refl
none_in (b ∷ bs) h =
    let no : ⊥ = omega (arith, h) in
    absurd no

pub bridge_shed : (stay : Bool) (b : Block) (child place : Box Node Global) → b ≡ Bridge child → IsShed stay b (Joints.Bridge place) (child.value ∷ [])
bridge_shed stay b child place e =
    let same : length (flat_map entered (child.value ∷ [])) ≡ length (entered_block b) = ap length (append-nil (entered child.value) ∙ sym (ap entered_block e ∙ entered_bridge child)) in
    record {
      uses = refl;
      fewer = omega (arith, same);
      reads = λ names may sets rs. sym (ap (read_block sets names) e ∙ read_bridge sets names child);
    }

pub leaf_shed : (stay : Bool) (b : Block) (child : Box Node Global) → stay ≡ true → b ≡ Bridge child → blocks child.value ≡ [] → IsShed stay b (Joints.Leaf child) []
leaf_shed stay b child t e none = record {
  uses = refl;
  fewer = omega arith;
  reads = λ names may sets rs.
      sym
      (ap (λ ns. read_block sets ns b) (may t)
      ∙ ap (read_block sets kept) e
      ∙ read_bridge sets kept child
      ∙ ap bridge_read (read_out sets kept child.value ∙ ap (λ (bs : List Block). node_read sets (vertices child.value) (map (read_block sets kept) bs)) none));
}

pub cycle_shed : (stay : Bool) (b : Block) (nodes : Children) (k : ℕ) → b ≡ Cycle nodes → k ≡ length (nodes_in nodes) → IsShed stay b (Joints.Cycle k) (nodes_in nodes)
cycle_shed stay b nodes k e many =
    let same : length (flat_map entered (nodes_in nodes)) ≡ length (entered_block b) = ap length (sym (ap entered_block e ∙ entered_cycle nodes)) in
    record {
      uses = many;
      fewer = omega (arith, same);
      reads = λ names may sets rs.
          let xs = map (read_node sets names) (nodes_in nodes) in
          ap (λ m. cycle_read (take m (xs ++ rs))) (many ∙ sym (length-map (nodes_in nodes) (read_node sets names)))
          ∙ ap cycle_read (take-append_seam xs rs)
          ∙ sym (ap (read_block sets names) e ∙ read_cycle sets names nodes);
    }

-- ---- several blocks, from the last to the first
more_shed : (stay : Bool) (b : Block) (bs : List Block) (j : Joint) (js : List Joint) (xs ys : List Node) → IsShed stay b j ys → AreShed stay bs js xs → AreShed stay (b ∷ bs) (j ∷ js) (ys ++ xs)
more_shed stay b bs j js xs ys one more =
    let nodes : length (flat_map entered (ys ++ xs)) ≡ length (flat_map entered ys) + length (flat_map entered xs) =
    ap length (flat_map-append entered ys xs) ∙ length-append (flat_map entered ys) (flat_map entered xs) in
    record {
      wants = omega (arith, one.uses, more.wants, length-append ys xs);
      fewer = omega (arith, nodes, one.fewer, more.fewer, length-append (entered_block b) (flat_map entered_block bs));
      reads = λ names may sets rs.
          let f = read_node sets names in
          let front : map f (ys ++ xs) ++ rs ≡ map f ys ++ (map f xs ++ rs) = ap (λ (l : List Read). l ++ rs) (map-append f ys xs) ∙ append_assoc (map f ys) (map f xs) rs in
          let many : used j ≡ length (map f ys) = one.uses ∙ sym (length-map ys f) in
          let behind : drop (used j) (map f ys ++ (map f xs ++ rs)) ≡ map f xs ++ rs = ap (λ k. drop k (map f ys ++ (map f xs ++ rs))) many ∙ drop-append_seam (map f ys) (map f xs ++ rs) in
          ap (all_drawn sets (j ∷ js)) front
          ∙ ap (λ (r : Read). r ∷ all_drawn sets js (drop (used j) (map f ys ++ (map f xs ++ rs)))) (one.reads names may sets (map f xs ++ rs))
          ∙ ap (λ (l : List Read). read_block sets names b ∷ all_drawn sets js l) behind
          ∙ ap (λ (l : List Read). read_block sets names b ∷ l) (more.reads names may sets rs);
    }

-- the last of all blocks are taken apart, and their nodes stand on a stack
pub record Shedding (stay : Bool) (all less : List Block) (js : List Joint) (before now : List Node) : Type 0 where
  pub done : List Block
  pub nodes : List Node
  pub whole : less ++ done ≡ all
  pub shed : AreShed stay done js nodes
  pub stack : now ≡ nodes ++ before

pub shed_none : (stay : Bool) (all : List Block) (js : List Joint) (before : List Node) → js ≡ [] → Shedding stay all all js before before
shed_none stay all js before e = record {
  done = [];
  nodes = [];
  whole = append-nil all;
  shed = subst (λ (l : List Joint). AreShed stay [] l []) (sym e) record { wants = refl; fewer = omega arith; reads = λ names may sets rs. refl };
  stack = refl;
}

pub shed_one : (stay : Bool) (all more less : List Block) (b : Block) (js longer : List Joint) (j : Joint) (ys before now after : List Node) → Shedding stay all more js before now → more ≡ less ++ b ∷ [] → longer ≡ j ∷ js →
    IsShed stay b j ys → after ≡ ys ++ now → Shedding stay all less longer before after
shed_one stay all more less b js longer j ys before now after s m l one a = record {
  done = b ∷ s.done;
  nodes = ys ++ s.nodes;
  whole = sym (append_assoc less (b ∷ []) s.done) ∙ ap (λ bs. bs ++ s.done) (sym m) ∙ s.whole;
  shed = subst (λ (k : List Joint). AreShed stay (b ∷ s.done) k (ys ++ s.nodes)) (sym l) (more_shed stay b s.done j js s.nodes ys one s.shed);
  stack = a ∙ ap (λ l. ys ++ l) s.stack ∙ sym (append_assoc ys s.nodes before);
}

pub shed_all : (stay : Bool) (all less : List Block) (js : List Joint) (before now : List Node) → Shedding stay all less js before now → less ≡ [] → (xs : List Node) × AreShed stay all js xs × (now ≡ xs ++ before)
shed_all stay all less js before now s none =
    let whole : s.done ≡ all = sym (ap (λ bs. bs ++ s.done) none) ∙ s.whole in
    (s.nodes, subst (λ (bs : List Block). AreShed stay bs js s.nodes) whole s.shed, s.stack)

-- ---- one more entry at the end
pub read_push : (sets : List ℕ → VertexSet) (es : List ShedNode) (e : ShedNode) (rs : List Read) → read_entries sets (es ++ e ∷ []) rs ≡ read_entries sets es (read_entry sets e rs)
read_push sets [] e rs = refl
read_push sets (x ∷ xs) e rs = ap (read_entry sets x) (read_push sets xs e rs)

pub left_push : (es : List ShedNode) (e : ShedNode) (k : ℕ) → left (es ++ e ∷ []) k ≡ left es (k - wanted (joints_of e) + 1)
left_push [] e k = refl
left_push (x ∷ xs) e k = ap (λ m. m - wanted (joints_of x) + 1) (left_push xs e k)

ready_push : (es : List ShedNode) (e : ShedNode) (k : ℕ) → wanted (joints_of e) ≤ k → IsReady es (k - wanted (joints_of e) + 1) → IsReady (es ++ e ∷ []) k
ready_push [] e k w h = (w, tt)
ready_push (x ∷ xs) e k w h = (subst (λ m. wanted (joints_of x) ≤ m) (sym (left_push xs e k)) h.0, ready_push xs e k w h.1)

pub ready_pop : (es : List ShedNode) (e : ShedNode) (k : ℕ) → IsReady (es ++ e ∷ []) k → (wanted (joints_of e) ≤ k) × IsReady es (k - wanted (joints_of e) + 1)
ready_pop [] e k h = (h.0, tt)
ready_pop (x ∷ xs) e k h =
    let rest = ready_pop xs e k h.1 in
    (rest.0, (subst (λ m. wanted (joints_of x) ≤ m) (left_push xs e k) h.0, rest.1))

-- ---- a node is taken off the stack, and entered
pub entered_one : (stay : Bool) (names : List ℕ → List ℕ) (root x : Node) (es : List ShedNode) (e : ShedNode) (xs rest before after : List Node) → MayName stay names → Shows names root es before → before ≡ x ∷ rest → e.vertices ≡ names (vertices x) →
    AreShed stay (blocks x) (joints_of e) xs → after ≡ xs ++ rest → Shows names root (es ++ e ∷ []) after
entered_one stay names root x es e xs rest before after may h b v shed a =
    let many : length after ≡ length xs + length rest = ap length a ∙ length-append xs rest in
    let some : length before ≡ length rest + 1 = omega (arith, ap length b) in
    let same : length before ≡ length after - wanted (joints_of e) + 1 = omega (arith, shed.wants, many, some) in
    record {
      ready = ready_push es e (length after) (omega (arith, shed.wants, many)) (subst (IsReady es) same h.ready);
      one = left_push es e (length after) ∙ ap (left es) (sym same) ∙ h.one;
      reads = λ sets.
          let f = read_node sets names in
          let seam : map f after ≡ map f xs ++ map f rest = ap (map f) a ∙ map-append f xs rest in
          let here : all_drawn sets (joints_of e) (map f after) ≡ map (read_block sets names) (blocks x) = ap (all_drawn sets (joints_of e)) seam ∙ shed.reads names may sets (map f rest) in
          let there : drop (wanted (joints_of e)) (map f after) ≡ map f rest =
          ap (drop (wanted (joints_of e))) seam ∙ ap (λ k. drop k (map f xs ++ map f rest)) (shed.wants ∙ sym (length-map xs f)) ∙ drop-append_seam (map f xs) (map f rest) in
          let put : read_entry sets e (map f after) ≡ map f before =
          ap (λ own. node_read sets own (all_drawn sets (joints_of e) (map f after)) ∷ drop (wanted (joints_of e)) (map f after)) v
          ∙ ap (λ (rs : List Read). node_read sets (names (vertices x)) rs ∷ drop (wanted (joints_of e)) (map f after)) here
          ∙ ap (λ (r : Read). r ∷ drop (wanted (joints_of e)) (map f after)) (sym (read_out sets names x))
          ∙ ap (λ (rs : List Read). f x ∷ rs) there
          ∙ ap (map f) (sym b) in
          read_push sets es e (map f after) ∙ ap (read_entries sets es) put ∙ h.reads sets;
    }

-- any names may be given if no leaf stays, and their own in any case
pub any_names : (names : List ℕ → List ℕ) → MayName false names
any_names names = λ e. absurd (false≢true e)

pub own_names : (stay : Bool) → MayName stay kept
own_names stay = λ e. refl

-- how many nodes are still to be entered
pub nodes_left : List Node → ℕ
nodes_left xs = length (flat_map entered xs)

pub fewer_left : (stay : Bool) (x : Node) (js : List Joint) (xs rest before after : List Node) → before ≡ x ∷ rest → AreShed stay (blocks x) js xs → after ≡ xs ++ rest → nodes_left after < nodes_left before
unfolding nodes_left
fewer_left stay x js xs rest before after b shed a =
    let below = flat_map entered_block (blocks x) in
    let old : length (flat_map entered before) ≡ length (entered x ++ flat_map entered rest) = ap (λ l. length (flat_map entered l)) b in
    let top : length (entered x) ≡ length below + 1 = omega (arith, ap length (entered_out x)) in
    let new : length (flat_map entered after) ≡ length (flat_map entered xs ++ flat_map entered rest) = ap (λ l. length (flat_map entered l)) a ∙ ap length (flat_map-append entered xs rest) in
    omega (arith, old, new, top, shed.fewer, length-append (entered x) (flat_map entered rest), length-append (flat_map entered xs) (flat_map entered rest))

-- the root alone is still to be entered
pub none_entered : (names : List ℕ → List ℕ) (root : Node) → Shows names root [] (root ∷ [])
none_entered names root = record { ready = tt; one = refl; reads = λ sets. refl }

pub first_entered : (names : List ℕ → List ℕ) (root : Node) (es : List ShedNode) (none stack : List Node) → es ≡ [] → none ≡ [] → stack ≡ none ++ root ∷ [] → Shows names root es (top_first stack)
first_entered names root es none stack e n s =
    subst (λ (l : List ShedNode). Shows names root l (top_first stack)) (sym e)
    (subst (λ (l : List Node). Shows names root [] (top_first l)) (sym (s ∙ ap (λ l. l ++ root ∷ []) n)) (none_entered names root))

-- ---- nodes are drawn from the front of a list
pub dropped_more : {X : Type 0} (js rest : List Joint) (j : Joint) (before after all : List X) → js ≡ j ∷ rest → after ≡ drop (used j) before → drop (wanted js) before ≡ all → drop (wanted rest) after ≡ all
dropped_more js rest j before after all jj a h =
    ap (drop (wanted rest)) a ∙ drop-drop (wanted rest) (used j) before ∙ ap (λ l. drop (wanted l) before) (sym jj) ∙ h

-- ---- the last on the stack, and none
pub none_popped : {X : Type 0} (xs : List X) (n : ℕ) (r : Option X) → n ≡ length xs → (IsSome r ↔ (0 < n)) → ((x : X) → r ≡ Some x → ⊥) → xs ≡ []
none_popped [] n r l h e = refl
none_popped (x ∷ xs) n None l h e = absurd (false≢true (h.1 (omega (arith, l))))
none_popped (x ∷ xs) n (Some y) l h e = absurd (e y refl)

pub alone : {X : Type 0} (xs new : List X) (x : X) → xs ≡ new ++ x ∷ [] → length xs ≡ 1 → top_first xs ≡ x ∷ []
alone xs [] x e n = ap top_first e
alone xs (y ∷ ys) x e n = absurd (omega (arith, ap length e, length-append ys (x ∷ [])))

-- ---- a block and its nodes
pub nodes_bridge : (child : Box Node Global) → nodes_of (Bridge child) ≡ child.value ∷ []
nodes_bridge child = ap nodes_of_step (outs-Bridge child)

pub nodes_cycle : (nodes : Children) → nodes_of (Cycle nodes) ≡ nodes_in nodes
nodes_cycle nodes = ap nodes_of_step (outs-Cycle nodes)

-- ---- a tree that is put together from the entries of another
pub names_are : (names : List ℕ → List ℕ) (old new : Node) → ((sets : List ℕ → VertexSet) → read_node sets kept new ≡ read_node sets names old) → entered new ≡ map names (entered old)
names_are names old new h = sym (map-id (entered new)) ∙ ap (λ (r : Read). r.lists) (h (λ l v. false))
