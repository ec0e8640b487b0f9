-- A tree that is grafted on another node by node.
use Rattle.std.proofs.Common.{◌≡◌, ℕ, ◌+◌, ◌-◌, ◌<◌, ◌≤◌, ⊎_elim, Bool, false, List, [], ◌∷◌, length, get_or, refl, sym, ◌∙◌, ap, arith}
use Rattle.std.specs.Prelude.{◌≢◌}
use Rattle.std.proofs.lemmas.Bool.{cases_eq}
use Rattle.std.proofs.lemmas.List.{get_or_append_left, get_or_push, length-append}
use Rattle.node_tree.specs.Flat.{AddsNode, TreeLinks, is_follower}
use Rattle.node_tree.specs.Grafted.{IsGrafted, grafted_at}

-- the first nodes of a tree but its root were added behind those of another
pub record IsGraftedTo (node : ℕ) (old added new : TreeLinks) (upto : ℕ) : Type 0 where
  pub long : length new.uppers + 1 ≡ length old.uppers + upto
  pub laid : length new.follows ≡ length new.uppers
  pub uppers_kept : (i : ℕ) → i < length old.uppers → get_or new.uppers i 0 ≡ get_or old.uppers i 0
  pub follows_kept : (i : ℕ) → i < length old.uppers → is_follower new.follows i ≡ is_follower old.follows i
  pub uppers : (i : ℕ) → 1 ≤ i → i < upto → get_or new.uppers (length old.uppers + i - 1) 0 ≡ grafted_at node (length old.uppers) (get_or added.uppers i 0)
  pub follows : (i : ℕ) → 1 ≤ i → i < upto → is_follower new.follows (length old.uppers + i - 1) ≡ is_follower added.follows i

pub graft_start : (node : ℕ) (old added : TreeLinks) → length old.follows ≡ length old.uppers → IsGraftedTo node old added old 1
graft_start node old added laid = record {
  long = refl;
  laid = laid;
  uppers_kept = λ i l. refl;
  follows_kept = λ i l. refl;
  uppers = λ i from to. absurd (omega (arith, from, to));
  follows = λ i from to. absurd (omega (arith, from, to));
}

pub graft_step : (node : ℕ) (old added new next : TreeLinks) (place upto upper : ℕ) (follower : Bool) → 1 ≤ length old.uppers → 1 ≤ upto → IsGraftedTo node old added new upto →
    AddsNode new next place upper follower → upper ≡ grafted_at node (length old.uppers) (get_or added.uppers upto 0) → follower ≡ is_follower added.follows upto →
    IsGraftedTo node old added next (upto + 1)
graft_step node old added new next place upto upper follower some one h adds upper_is follower_is =
    let count = length old.uppers in
    let kept_upper = λ (i : ℕ) (l : i < length new.uppers). (let r : get_or next.uppers i 0 ≡ get_or new.uppers i 0 = ap (λ (u : List ℕ). get_or u i 0) adds.uppers ∙ get_or_append_left new.uppers (upper ∷ []) 0 i l in r) in
    let kept_follows = λ (i : ℕ) (l : i < length new.uppers). (let r : is_follower next.follows i ≡ is_follower new.follows i = ap (λ (f : List Bool). is_follower f i) adds.follows ∙ get_or_append_left new.follows (follower ∷ []) false i (omega (arith, l, h.laid)) in r) in
    let last : count + upto - 1 ≡ length new.uppers = omega (arith, some, one, h.long) in
    let one_more : length next.uppers ≡ length new.uppers + 1 = ap length adds.uppers ∙ length-append new.uppers (upper ∷ []) in
    record {
      long = omega (arith, one_more, h.long);
      laid = ap length adds.follows ∙ (length-append new.follows (follower ∷ []) ∙ (ap (λ (k : ℕ). k + 1) h.laid ∙ sym one_more));
      uppers_kept = λ i l. kept_upper i (omega (arith, l, h.long, one)) ∙ h.uppers_kept i l;
      follows_kept = λ i l. kept_follows i (omega (arith, l, h.long, one)) ∙ h.follows_kept i l;
      uppers = λ i from to. ⊎_elim
          (λ (e : i ≡ upto).
          ap (λ (k : ℕ). get_or next.uppers (count + k - 1) 0) e
          ∙ (ap (λ (k : ℕ). get_or next.uppers k 0) last
          ∙ (ap (λ (u : List ℕ). get_or u (length new.uppers) 0) adds.uppers
          ∙ (get_or_push new.uppers upper 0 (length new.uppers) refl
          ∙ (upper_is ∙ ap (λ (k : ℕ). grafted_at node count (get_or added.uppers k 0)) (sym e))))))
          (λ (ne : i ≢ upto). kept_upper (count + i - 1) (omega (arith, from, to, ne, some, h.long)) ∙ h.uppers i from (omega (arith, to, ne)))
          (cases_eq i upto);
      follows = λ i from to. ⊎_elim
          (λ (e : i ≡ upto).
          ap (λ (k : ℕ). is_follower next.follows (count + k - 1)) e
          ∙ (ap (λ (k : ℕ). is_follower next.follows k) (last ∙ sym h.laid)
          ∙ (ap (λ (f : List Bool). is_follower f (length new.follows)) adds.follows
          ∙ (get_or_push new.follows follower false (length new.follows) refl
          ∙ (follower_is ∙ ap (λ (k : ℕ). is_follower added.follows k) (sym e))))))
          (λ (ne : i ≢ upto). kept_follows (count + i - 1) (omega (arith, from, to, ne, some, h.long)) ∙ h.follows i from (omega (arith, to, ne)))
          (cases_eq i upto);
    }

pub graft_whole : (node : ℕ) (old added new : TreeLinks) (upto : ℕ) → upto ≡ length added.uppers → IsGraftedTo node old added new upto → IsGrafted node old added new
graft_whole node old added new upto e h = record {
  long = omega (arith, h.long, e);
  uppers_kept = h.uppers_kept;
  follows_kept = h.follows_kept;
  uppers = λ i from to. h.uppers i from (omega (arith, to, e));
  follows = λ i from to. h.follows i from (omega (arith, to, e));
}
