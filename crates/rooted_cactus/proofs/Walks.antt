-- A walk through a tree by a stack of its nodes: one is taken off, and those right below it are put there.
use Rattle.std.proofs.Common.{◌≡◌, ℕ, inl, inr, List, [], ◌∷◌, ◌++◌, length, ap, ◌∙◌, sym, refl}
use Rattle.std.specs.Prelude.{Option, Some, option_to_list}
use Rattle.std.specs.Borrow.{Bor}
use Rattle.std.specs.List.{concat, flat_map}
use Rattle.std.specs.declared.boxed.Box.{Box}
use Rattle.std.specs.declared.alloc.Global.{Global}
use Rattle.std.proofs.lemmas.List.{append-nil, append_assoc, length-append, map-append}
use Rattle.std.proofs.lemmas.List.Concat.{flat_map-append}
use Rattle.cut_definitions.proofs.ListLaws.{popped_is}
use Rattle.rooted_cactus.specs.Entered.{entered, entered_block}
use Rattle.rooted_cactus.specs.Entries.{nodes_of, top_first}
use Rattle.rooted_cactus.specs.Numbers.{seen, waiting}
use Rattle.rooted_cactus.specs.Places.{places_from}
use Rattle.rooted_cactus.specs.Trees.{vertices, blocks, nodes_in}
use Rattle.rooted_cactus.specs.declared.tree.Node.{Node}
use Rattle.rooted_cactus.specs.declared.tree.Block.{Block}
use Rattle.rooted_cactus.specs.declared.tree.Children.{Children}
use Rattle.rooted_cactus.specs.declared.tree.Block.TheVariants.{Bridge, Cycle}
use Rattle.rooted_cactus.proofs.Entries.{nodes_bridge, nodes_cycle, top_push}
use Rattle.rooted_cactus.proofs.Orders.{entered_out, entered_bridge, entered_cycle}
use Rattle.rooted_cactus.proofs.Views.{view}

-- ---- the stack
pub seen_push : (stack : List (Bor Node)) (x : Bor Node) → seen (stack ++ x ∷ []) ≡ seen stack ++ x.now ∷ []
seen_push stack x = map-append (λ (y : Bor Node). y.now) stack (x ∷ [])

pub waiting_push : (stack : List (Bor Node)) (x : Bor Node) → waiting (stack ++ x ∷ []) ≡ x.now ∷ waiting stack
waiting_push stack x = ap top_first (seen_push stack x) ∙ top_push (seen stack) x.now

pub taken_off : (stack left : List (Bor Node)) (r : Option (Bor Node)) (x : Bor Node) → stack ≡ left ++ option_to_list r → r ≡ Some x → waiting stack ≡ x.now ∷ waiting left
taken_off stack left r x p q = ap waiting (popped_is stack left r x p q) ∙ waiting_push left x

-- ---- what is known of a bridge and of a cycle by their nodes is known of each block
pub by_nodes : {Y : Type 0} (g : Block → Y) (f : List Node → Y) → ((child : Box Node Global) → g (Bridge child) ≡ f (child.value ∷ [])) → ((nodes : Children) → g (Cycle nodes) ≡ f (nodes_in nodes)) → (b : Block) → g b ≡ f (nodes_of b)
by_nodes g f bridge cycle b = elim (view b) [
  | inl h ↦ ap g h.1 ∙ bridge h.0 ∙ sym (ap f (ap nodes_of h.1 ∙ nodes_bridge h.0))
  | inr h ↦ ap g h.1 ∙ cycle h.0 ∙ sym (ap f (ap nodes_of h.1 ∙ nodes_cycle h.0))
]

pub read_stacked : {Y : Type 0} (f : Node → List Y) (g : Block → List Y) → ((b : Block) → g b ≡ flat_map f (nodes_of b)) → (bs : List Block) (after rest : List Node) → after ≡ flat_map nodes_of bs ++ rest →
    flat_map f after ≡ flat_map g bs ++ flat_map f rest
read_stacked f g h bs after rest a = ap (flat_map f) a ∙ flat_map-append f (flat_map nodes_of bs) rest ∙ ap (λ l. l ++ flat_map f rest) (sym (all_read bs)) where
  all_read : (bs : List Block) → flat_map g bs ≡ flat_map f (flat_map nodes_of bs)
  all_read [] = refl
  all_read (b ∷ bs) = ap (λ l. l ++ flat_map g bs) (h b) ∙ ap (λ l. flat_map f (nodes_of b) ++ l) (all_read bs) ∙ sym (flat_map-append f (nodes_of b) (flat_map nodes_of bs))

pub entered_nodes : (b : Block) → entered_block b ≡ flat_map entered (nodes_of b)
entered_nodes = by_nodes entered_block (flat_map entered) (λ child. entered_bridge child ∙ sym (append-nil (entered child.value))) entered_cycle

-- ---- one step of a walk
pub entered_one : (x : Node) (before after rest : List Node) → before ≡ x ∷ rest → after ≡ flat_map nodes_of (blocks x) ++ rest → flat_map entered before ≡ vertices x ∷ flat_map entered after
entered_one x before after rest b a =
    ap (flat_map entered) b ∙ ap (λ l. l ++ flat_map entered rest) (entered_out x) ∙ ap (λ l. vertices x ∷ l) (sym (read_stacked entered entered_block entered_nodes (blocks x) after rest a))

-- its vertices are kept, and the place of the first of them
pub kept_one : (own kept more : List ℕ) (before after : List (List ℕ)) → before ≡ own ∷ after → more ≡ kept ++ own → more ++ concat after ≡ kept ++ concat before
kept_one own kept more before after b m = ap (λ l. l ++ concat after) m ∙ append_assoc kept own (concat after) ∙ ap (λ l. kept ++ concat l) (sym b)

pub placed_one : (own kept more old new : List ℕ) (before after : List (List ℕ)) → before ≡ own ∷ after → more ≡ kept ++ own → new ≡ old ++ length kept ∷ [] →
    new ++ places_from (length more) after ≡ old ++ places_from (length kept) before
placed_one own kept more old new before after b m e =
    ap (λ l. l ++ places_from (length more) after) e ∙ append_assoc old (length kept ∷ []) (places_from (length more) after)
    ∙ ap (λ k. old ++ (length kept ∷ places_from k after)) (ap length m ∙ length-append kept own) ∙ ap (λ l. old ++ places_from (length kept) l) (sym b)
