-- A tree is put together from entries: each finished node or block stands, in one way or another, for what was read off them.
use Rattle.std.proofs.Common.{ne_eqb, ◌≡◌, ℕ, zero, suc, ◌+◌, ◌-◌, ◌≤◌, ◌==◌, ◌&&◌, Bool, true, not, List, [], ◌∷◌, ◌++◌, length, map, take, drop, Some, ap, ◌∙◌, sym, refl, subst, arith}
use Rattle.std.specs.Prelude.{slice_get, slice_index_or}
use Rattle.std.specs.List.{list_all}
use Rattle.std.proofs.lemmas.Bool.{false≢true, and_parts}
use Rattle.std.proofs.lemmas.Option.{get_or_from_slice_get}
use Rattle.std.proofs.lemmas.List.{append_assoc, append-nil}
use Rattle.std.proofs.Math.Bool.{and-true}
use Rattle.cut_definitions.specs.Weight.{VertexSet}
use Rattle.rooted_cactus.specs.Normal.{block_shape}
use Rattle.rooted_cactus.specs.Entries.{Read, bridge_read, node_read, nothing_read, used, wanted, drawn, all_drawn, joints_of, read_entry, read_entries, left, IsReady}
use Rattle.rooted_cactus.specs.declared.tree.Block.{Block}
use Rattle.rooted_cactus.specs.declared.tree.entries.Joint.{Joint}
use Rattle.rooted_cactus.specs.declared.tree.entries.ShedNode.{ShedNode}
use Rattle.rooted_cactus.proofs.Entries.{read_push, left_push, ready_pop}
use Rattle.rooted_cactus.specs.Trims.{Each, is_spare, is_above_bridge}

-- ---- pairs, one by one
pub each_push : {X Y : Type 0} (P : X → Y → Type 0) (xs : List X) (ys : List Y) (x : X) (y : Y) → Each P xs ys → P x y → Each P (xs ++ x ∷ []) (ys ++ y ∷ [])
each_push P [] [] x y h p = (p, tt)
each_push P [] (z ∷ ys) x y h p = absurd h
each_push P (w ∷ xs) [] x y h p = absurd h
each_push P (w ∷ xs) (z ∷ ys) x y h p = (h.0, each_push P xs ys x y h.1 p)

pub each_weaker : {X Y : Type 0} (P Q : X → Y → Type 0) → ((x : X) (y : Y) → P x y → Q x y) → (xs : List X) (ys : List Y) → Each P xs ys → Each Q xs ys
each_weaker P Q f [] [] h = tt
each_weaker P Q f [] (y ∷ ys) h = absurd h
each_weaker P Q f (x ∷ xs) [] h = absurd h
each_weaker P Q f (x ∷ xs) (y ∷ ys) h = (f x y h.0, each_weaker P Q f xs ys h.1)

pub each_length : {X Y : Type 0} (P : X → Y → Type 0) (xs : List X) (ys : List Y) → Each P xs ys → length xs ≡ length ys
each_length P [] [] h = refl
each_length P [] (y ∷ ys) h = absurd h
each_length P (x ∷ xs) [] h = absurd h
each_length P (x ∷ xs) (y ∷ ys) h = omega (arith, each_length P xs ys h.1)

pub each_drop : {X Y : Type 0} (P : X → Y → Type 0) (k : ℕ) (xs : List X) (ys : List Y) → Each P xs ys → Each P (drop k xs) (drop k ys)
each_drop P zero xs ys h = h
each_drop P (suc k) [] [] h = tt
each_drop P (suc k) [] (y ∷ ys) h = absurd h
each_drop P (suc k) (x ∷ xs) [] h = absurd h
each_drop P (suc k) (x ∷ xs) (y ∷ ys) h = each_drop P k xs ys h.1

pub each_first : {X Y : Type 0} (P : X → Y → Type 0) (xs : List X) (y : Y) (ys : List Y) → Each P xs (y ∷ ys) → (x : X) × (rest : List X) × (xs ≡ x ∷ rest) × P x y × Each P rest ys
each_first P [] y ys h = absurd h
each_first P (x ∷ xs) y ys h = (x, xs, refl, h.0, h.1)

pub each_take : {X Y : Type 0} (P : X → Y → Type 0) (k : ℕ) (xs : List X) (ys : List Y) → Each P xs ys → Each P (take k xs) (take k ys)
each_take P zero xs ys h = tt
each_take P (suc k) [] [] h = tt
each_take P (suc k) [] (y ∷ ys) h = absurd h
each_take P (suc k) (x ∷ xs) [] h = absurd h
each_take P (suc k) (x ∷ xs) (y ∷ ys) h = (h.0, each_take P k xs ys h.1)

pub each_map : {X Y Z : Type 0} (P : X → Y → Type 0) (Q : X → Z → Type 0) (f : Y → Z) → ((x : X) (y : Y) → P x y → Q x (f y)) → (xs : List X) (ys : List Y) → Each P xs ys → Each Q xs (map f ys)
each_map P Q f g [] [] h = tt
each_map P Q f g [] (y ∷ ys) h = absurd h
each_map P Q f g (x ∷ xs) [] h = absurd h
each_map P Q f g (x ∷ xs) (y ∷ ys) h = (g x y h.0, each_map P Q f g xs ys h.1)

-- ---- tests of a node
pub above_first : (vs : List ℕ) (bs : List Block) (b : Block) (r : Bool) → is_spare vs bs ≡ true → slice_get bs 0 ≡ Some b → r ≡ not (block_shape b).is_cycle → r ≡ is_above_bridge vs bs
above_first vs bs b r spare at e =
    e ∙ sym (ap (λ t. t && list_all (λ c. not (block_shape c).is_cycle) bs) spare ∙ one bs (and_parts (length vs == 0) (length bs == 1) spare).1 at) where
      one : (cs : List Block) → (length cs == 1) ≡ true → slice_get cs 0 ≡ Some b → list_all (λ c. not (block_shape c).is_cycle) cs ≡ not (block_shape b).is_cycle
      one [] h a = absurd (false≢true h)
      one (c ∷ []) h a = and-true (not (block_shape c).is_cycle) ∙ ap (λ d. not (block_shape d).is_cycle) (get_or_from_slice_get (c ∷ []) 0 b b a)
      one (c ∷ (d ∷ cs)) h a = absurd (false≢true (sym (ne_eqb (length (c ∷ (d ∷ cs))) 1 (λ k. omega (arith, k))) ∙ h))

-- ---- a bridge is drawn
pub bridge_drawn : {X B : Type 0} (N : Read → X → Type 0) (K : Read → B → Type 0) (b : B) (x : X) (after all : List X) (rs : List Read) → all ≡ x ∷ after → ((r : Read) → N r x → K (bridge_read r) b) → Each N rs all →
    K (bridge_read (slice_index_or rs 0 nothing_read)) b
bridge_drawn N K b x after all rs e f a =
    let v = each_first N rs x after (subst (Each N rs) e a) in
    subst (λ (l : List Read). K (bridge_read (slice_index_or l 0 nothing_read)) b) (sym v.2) (f v.0 v.3)

-- ---- blocks are drawn for a node
pub record DrawsBlocks {X B : Type 0} (sets : List ℕ → VertexSet) (N : Read → X → Type 0) (K : Read → B → Type 0) (target : List Read) (js : List Joint) (bs : List B) (stack : List X) : Type 0 where
  pub done : List Read
  pub rest : List Read
  pub blocks_done : Each K done bs
  pub nodes_left : Each N rest stack
  pub whole : done ++ all_drawn sets js rest ≡ target

pub blocks_none : {X B : Type 0} (sets : List ℕ → VertexSet) (N : Read → X → Type 0) (K : Read → B → Type 0) (rs : List Read) (js : List Joint) (bs : List B) (stack : List X) → bs ≡ [] → Each N rs stack → DrawsBlocks sets N K (all_drawn sets js rs) js bs stack
blocks_none sets N K rs js bs stack e a = record { done = []; rest = rs; blocks_done = subst (Each K []) (sym e) tt; nodes_left = a; whole = refl }

pub blocks_one : {X B : Type 0} (sets : List ℕ → VertexSet) (N : Read → X → Type 0) (K : Read → B → Type 0) (target : List Read) (js later : List Joint) (j : Joint) (bs more : List B) (b : B) (before after : List X) → DrawsBlocks sets N K target js bs before →
    js ≡ j ∷ later → more ≡ bs ++ b ∷ [] → after ≡ drop (used j) before → ((rs : List Read) → Each N rs before → K (drawn sets j rs) b) → DrawsBlocks sets N K target later more after
blocks_one sets N K target js later j bs more b before after d e m a f = record {
  done = d.done ++ drawn sets j d.rest ∷ [];
  rest = drop (used j) d.rest;
  blocks_done = subst (Each K (d.done ++ drawn sets j d.rest ∷ [])) (sym m) (each_push K d.done bs (drawn sets j d.rest) b d.blocks_done (f d.rest d.nodes_left));
  nodes_left = subst (Each N (drop (used j) d.rest)) (sym a) (each_drop N (used j) d.rest before d.nodes_left);
  whole = append_assoc d.done (drawn sets j d.rest ∷ []) (all_drawn sets later (drop (used j) d.rest)) ∙ ap (λ (l : List Joint). d.done ++ all_drawn sets l d.rest) (sym e) ∙ d.whole;
}

pub blocks_all : {X B : Type 0} (sets : List ℕ → VertexSet) (N : Read → X → Type 0) (K : Read → B → Type 0) (target : List Read) (js : List Joint) (bs : List B) (stack : List X) → js ≡ [] → DrawsBlocks sets N K target js bs stack → Each K target bs
blocks_all sets N K target js bs stack e d =
    subst (λ l. Each K l bs) (sym (append-nil d.done) ∙ ap (λ (l : List Joint). d.done ++ all_drawn sets l d.rest) (sym e) ∙ d.whole) d.blocks_done

-- ---- a tree is put together from the last entry
-- as many nodes are finished as the entries that are left need
pub record Readied (entries : List ShedNode) (finished : ℕ) : Type 0 where
  pub ready : IsReady entries finished
  pub one : left entries finished ≡ 1

pub readied_enough : (entries es : List ShedNode) (e : ShedNode) (finished : ℕ) → Readied entries finished → entries ≡ es ++ e ∷ [] → wanted (joints_of e) ≤ finished
readied_enough entries es e finished h p = (ready_pop es e finished (subst (λ (l : List ShedNode). IsReady l finished) p h.ready)).0

pub readied_one : (entries es : List ShedNode) (e : ShedNode) (before after : ℕ) → Readied entries before → entries ≡ es ++ e ∷ [] → after ≡ before - wanted (joints_of e) + 1 → Readied es after
readied_one entries es e before after h p a = record {
  ready = subst (IsReady es) (sym a) (ready_pop es e before (subst (λ (l : List ShedNode). IsReady l before) p h.ready)).1;
  one = ap (left es) a ∙ sym (left_push es e before) ∙ ap (λ (l : List ShedNode). left l before) (sym p) ∙ h.one;
}

-- the finished nodes stand for all that is read off with the entries that are left
pub record Makes {X : Type 0} (sets : List ℕ → VertexSet) (N : Read → X → Type 0) (r : Read) (entries : List ShedNode) (finished : List X) : Type 0 where
  pub reads : List Read
  pub nodes : Each N reads finished
  pub all : read_entries sets entries reads ≡ r ∷ []

pub makes_none : {X : Type 0} (sets : List ℕ → VertexSet) (N : Read → X → Type 0) (r : Read) (entries : List ShedNode) (finished : List X) → finished ≡ [] → read_entries sets entries [] ≡ r ∷ [] → Makes sets N r entries finished
makes_none sets N r entries finished none e = record { reads = []; nodes = subst (Each N []) (sym none) tt; all = e }

pub makes_one : {X : Type 0} (sets : List ℕ → VertexSet) (N : Read → X → Type 0) (r : Read) (entries es : List ShedNode) (e : ShedNode) (x : X) (before after now : List X) → Makes sets N r entries before → entries ≡ es ++ e ∷ [] →
    ((rs : List Read) → Each N rs before → N (node_read sets e.vertices (all_drawn sets (joints_of e) rs)) x) → after ≡ drop (wanted (joints_of e)) before → now ≡ x ∷ after → Makes sets N r es now
makes_one sets N r entries es e x before after now m p made a n = record {
  reads = read_entry sets e m.reads;
  nodes = subst (Each N (read_entry sets e m.reads)) (sym n) (
    made m.reads m.nodes,
    subst (Each N (drop (wanted (joints_of e)) m.reads)) (sym a) (each_drop N (wanted (joints_of e)) m.reads before m.nodes),
  );
  all = sym (read_push sets es e m.reads) ∙ ap (λ (l : List ShedNode). read_entries sets l m.reads) (sym p) ∙ m.all;
}

pub makes_all : {X : Type 0} (sets : List ℕ → VertexSet) (N : Read → X → Type 0) (r : Read) (entries : List ShedNode) (finished : List X) (x : X) → Makes sets N r entries finished → entries ≡ [] → finished ≡ x ∷ [] → N r x
makes_all sets N r entries finished x m e f =
    let reads : m.reads ≡ r ∷ [] = ap (λ (l : List ShedNode). read_entries sets l m.reads) (sym e) ∙ m.all in
    (subst (λ (l : List Read). Each N l (x ∷ [])) reads (subst (Each N m.reads) f m.nodes)).0
