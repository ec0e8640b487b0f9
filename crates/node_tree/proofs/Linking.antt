-- The nodes of the parts of a region, one after another.
use Rattle.std.proofs.Common.{◌≡◌, ℕ, ◌+◌, ◌-◌, ◌<◌, ◌≤◌, inl, inr, ⊎_elim, Bool, true, false, List, [], ◌∷◌, ◌++◌, length, get_or, refl, sym, ◌∙◌, subst, ap, arith}
use Rattle.std.proofs.lemmas.Bool.{cases_eq}
use Rattle.std.proofs.lemmas.List.{length-append, get_or_append_left, get_or_push}
use Rattle.cut_definitions.specs.Graph.{Graph}
use Rattle.node_tree.specs.declared.tree.Hanging.{Hanging}
use Rattle.node_tree.specs.declared.tree.Hanging.TheVariants.{Bridged, Followed, Touching}
use Rattle.node_tree.specs.Flat.{TreeLinks, is_follower, IsMadeBelow, IsMadeAfter, IsMadeBeyond, IsMade, AreLinked, AddsNode, AddsBelow, AddsAfter, AddsBeyond}
use Rattle.node_tree.specs.Linked.{MayHang}

-- ---- nodes more

-- a tree goes on from another, and its arrays are of one length
pub record Grows (a a' : TreeLinks) : Type 0 where
  pub more : length a.uppers ≤ length a'.uppers
  pub uppers_kept : (i : ℕ) → i < length a.uppers → get_or a'.uppers i 0 ≡ get_or a.uppers i 0
  pub follows_kept : (i : ℕ) → i < length a.uppers → is_follower a'.follows i ≡ is_follower a.follows i
  pub laid : length a'.follows ≡ length a'.uppers

grows_on : (a b c : TreeLinks) → Grows a b → Grows b c → Grows a c
grows_on a b c h k = record {
  more = omega (arith, h.more, k.more);
  uppers_kept = λ i l. k.uppers_kept i (omega (arith, l, h.more)) ∙ h.uppers_kept i l;
  follows_kept = λ i l. k.follows_kept i (omega (arith, l, h.more)) ∙ h.follows_kept i l;
  laid = k.laid;
}

-- one node more
pub record IsOneMore (a a' : TreeLinks) (upper : ℕ) (follower : Bool) : Type 0 where
  pub grows : Grows a a'
  pub size : length a'.uppers ≡ length a.uppers + 1
  pub upper_is : get_or a'.uppers (length a.uppers) 0 ≡ upper
  pub follower_is : is_follower a'.follows (length a.uppers) ≡ follower

pub one_more : (a a' : TreeLinks) (u : ℕ) (f : Bool) → length a.follows ≡ length a.uppers → a'.uppers ≡ a.uppers ++ u ∷ [] → a'.follows ≡ a.follows ++ f ∷ [] → IsOneMore a a' u f
one_more a a' u f laid us fs =
    let size : length a'.uppers ≡ length a.uppers + 1 = ap length us ∙ length-append a.uppers (u ∷ []) in
    let size' : length a'.follows ≡ length a.follows + 1 = ap length fs ∙ length-append a.follows (f ∷ []) in
    record {
      grows = record {
        more = omega (arith, size);
        uppers_kept = λ i l. ap (λ (xs : List ℕ). get_or xs i 0) us ∙ get_or_append_left a.uppers (u ∷ []) 0 i l;
        follows_kept = λ i l. ap (λ (xs : List Bool). get_or xs i false) fs ∙ get_or_append_left a.follows (f ∷ []) false i (omega (arith, l, laid));
        laid = omega (arith, size, size', laid);
      };
      size = size;
      upper_is = ap (λ (xs : List ℕ). get_or xs (length a.uppers) 0) us ∙ get_or_push a.uppers u 0 (length a.uppers) refl;
      follower_is = ap (λ (xs : List Bool). get_or xs (length a.uppers) false) fs ∙ get_or_push a.follows f false (length a.uppers) laid;
    }

-- what hanging the next part adds
abbrev pub Adds : Hanging → TreeLinks → TreeLinks → ℕ → Type 0
Adds Bridged = AddsBelow
Adds Followed = AddsAfter
Adds Touching = AddsBeyond

pub adds_of : (h : Hanging) (a a' : TreeLinks) (n : ℕ) → (h ≡ Bridged → AddsBelow a a' n) → (h ≡ Followed → AddsAfter a a' n) → (h ≡ Touching → AddsBeyond a a' n) → Adds h a a' n
adds_of Bridged a a' n b f t = b refl
adds_of Followed a a' n b f t = f refl
adds_of Touching a a' n b f t = t refl

-- ---- the nodes up to a part

-- what was made stays
made_kept : (g : Graph) (count : ℕ) (part at at' : ℕ → ℕ) (a a' : TreeLinks) (j : ℕ) → Grows a a' → at' j ≡ at j → at' (j + 1) ≡ at (j + 1) → at (j + 1) < length a.uppers →
    IsMade g count part at a j → IsMade g count part at' a' j
made_kept g count part at at' a a' j grows here there low =
    ⊎_elim
    (λ (b : IsMadeBelow g count part at a j). inl (record {
      next = omega (arith, here, there, b.next);
      apart = rw here (grows.follows_kept (at j + 1) (omega (arith, b.next, low)) ∙ b.apart);
      upper = rw here (grows.uppers_kept (at j + 1) (omega (arith, b.next, low)) ∙ b.upper);
      not_light = b.not_light;
    }))
    (⊎_elim
    (λ (b : IsMadeAfter g count part at a j). inr (inl (record {
      next = omega (arith, here, there, b.next);
      follows = rw here (grows.follows_kept (at j + 1) (omega (arith, b.next, low)) ∙ b.follows);
      upper = rw here (grows.uppers_kept (at j + 1) (omega (arith, b.next, low)) ∙ b.upper ∙ sym (grows.uppers_kept (at j) (omega (arith, b.next, low))));
      light = b.light;
      pair = b.pair;
    })))
    (λ (b : IsMadeBeyond g count part at a j). inr (inr (record {
      next = omega (arith, here, there, b.next);
      follows = rw here (grows.follows_kept (at j + 1) (omega (arith, b.next, low)) ∙ b.follows);
      apart = rw here (grows.follows_kept (at j + 2) (omega (arith, b.next, low)) ∙ b.apart);
      upper_between = rw here (grows.uppers_kept (at j + 1) (omega (arith, b.next, low)) ∙ b.upper_between ∙ sym (grows.uppers_kept (at j) (omega (arith, b.next, low))));
      upper = rw here (grows.uppers_kept (at j + 2) (omega (arith, b.next, low)) ∙ b.upper);
      light = b.light;
      no_pair = b.no_pair;
    }))))

-- the nodes of the parts from 2 up to i
pub record AreHungUpTo (a a' : TreeLinks) (node : ℕ) (at : ℕ → ℕ) (i : ℕ) : Type 0 where
  pub region : at 1 ≡ node
  pub grows : Grows a a'
  pub first : at 2 ≡ length a.uppers
  pub first_upper : get_or a'.uppers (length a.uppers) 0 ≡ node
  pub first_apart : is_follower a'.follows (length a.uppers) ≡ false
  pub last : at i + 1 ≡ length a'.uppers
  pub within : (j : ℕ) → 1 ≤ j → j ≤ i → at j < length a'.uppers

-- the node of part 2
pub hung_first : (a a' : TreeLinks) (node n : ℕ) (at : ℕ → ℕ) → node < length a.uppers → length a.follows ≡ length a.uppers → AddsNode a a' n node false → at 1 ≡ node → at 2 ≡ n → AreHungUpTo a a' node at 2
hung_first a a' node n at low laid adds one two =
    let more = one_more a a' node false laid adds.uppers adds.follows in
    record {
      region = one;
      grows = more.grows;
      first = two ∙ adds.is;
      first_upper = more.upper_is;
      first_apart = more.follower_is;
      last = omega (arith, two, adds.is, more.size);
      within = λ j l u. ⊎_elim
          (λ (e : j ≡ 1). let k : at j ≡ node = ap at e ∙ one in omega (arith, k, low, more.size))
          (λ ne. let e : j ≡ 2 = omega arith in let k : at j ≡ n = ap at e ∙ two in omega (arith, k, adds.is, more.size))
          (cases_eq j 1);
    }

-- one part more: the nodes grow, and its node is the last; it was made as the chain says
pub record IsStep (a a' : TreeLinks) (n : ℕ) (h : Hanging) : Type 0 where
  pub grows : Grows a a'
  pub last : n + 1 ≡ length a'.uppers
  pub later : length a.uppers ≤ n
  pub made : (g : Graph) (count : ℕ) (part at : ℕ → ℕ) (i : ℕ) → MayHang g count part i h → at i + 1 ≡ length a.uppers → at (i + 1) ≡ n → IsMade g count part at a' i

pub step_of : (h : Hanging) (a a' : TreeLinks) (n : ℕ) → 1 ≤ length a.uppers → length a.follows ≡ length a.uppers → Adds h a a' n → IsStep a a' n h
step_of Bridged a a' n some laid adds =
    let more = one_more a a' (length a.uppers - 1) false laid adds.uppers adds.follows in
    record {
      grows = more.grows;
      last = omega (arith, adds.is, more.size);
      later = omega (arith, adds.is);
      made = λ g count part at i may here there. inl (record {
        next = omega (arith, here, there, adds.is);
        apart = rw here more.follower_is;
        upper = rw here (more.upper_is ∙ (let k : length a.uppers - 1 ≡ at i = omega (arith, here) in k));
        not_light = may;
      });
    }
step_of Followed a a' n some laid adds =
    let more = one_more a a' (get_or a.uppers (length a.uppers - 1) 0) true laid adds.uppers adds.follows in
    record {
      grows = more.grows;
      last = omega (arith, adds.is, more.size);
      later = omega (arith, adds.is);
      made = λ g count part at i may here there.
          let before : length a.uppers - 1 ≡ at i = omega (arith, here) in
          inr (inl (record {
            next = omega (arith, here, there, adds.is);
            follows = rw here more.follower_is;
            upper = rw here (more.upper_is ∙ ap (λ (k : ℕ). get_or a.uppers k 0) before ∙ sym (more.grows.uppers_kept (at i) (omega (arith, here))));
            light = may.0;
            pair = may.1;
          }));
    }
step_of Touching a a' n some laid adds =
    let upper = get_or a.uppers (length a.uppers - 1) 0 in
    let middle : TreeLinks = record { uppers = a.uppers ++ upper ∷ []; follows = a.follows ++ true ∷ [] } in
    let one = one_more a middle upper true laid refl refl in
    let two = one_more middle a' (length a.uppers) false one.grows.laid adds.uppers adds.follows in
    let grows = grows_on a middle a' one.grows two.grows in
    record {
      grows = grows;
      last = omega (arith, adds.is, one.size, two.size);
      later = omega (arith, adds.is);
      made = λ g count part at i may here there.
          let before : length a.uppers - 1 ≡ at i = omega (arith, here) in
          let second : at i + 2 ≡ length middle.uppers = omega (arith, here, one.size) in
          inr (inr (record {
            next = omega (arith, here, there, adds.is);
            follows = rw here (two.grows.follows_kept (length a.uppers) (omega (arith, one.size)) ∙ one.follower_is);
            apart = rw second two.follower_is;
            upper_between = rw here (two.grows.uppers_kept (length a.uppers) (omega (arith, one.size)) ∙ one.upper_is ∙ ap (λ (k : ℕ). get_or a.uppers k 0) before ∙ sym (grows.uppers_kept (at i) (omega (arith, here))));
            upper = rw second (two.upper_is ∙ sym here);
            light = may.0;
            no_pair = may.1;
          }));
    }

pub hung_more : (a b b' : TreeLinks) (node n i : ℕ) (at at' : ℕ → ℕ) (h : Hanging) → 2 ≤ i → AreHungUpTo a b node at i → IsStep b b' n h → at' (i + 1) ≡ n → ((j : ℕ) → j ≤ i → at' j ≡ at j) →
    1 ≤ length a.uppers → AreHungUpTo a b' node at' (i + 1)
hung_more a b b' node n i at at' h two up step new old some =
    let first = up.within 2 (omega arith) two in
    let low : length a.uppers < length b.uppers = omega (arith, first, up.first) in
    record {
      region = old 1 (omega (arith, two)) ∙ up.region;
      grows = grows_on a b b' up.grows step.grows;
      first = old 2 two ∙ up.first;
      first_upper = step.grows.uppers_kept (length a.uppers) low ∙ up.first_upper;
      first_apart = step.grows.follows_kept (length a.uppers) low ∙ up.first_apart;
      last = omega (arith, new, step.last);
      within = λ j l u. ⊎_elim
          (λ (e : j ≡ i + 1). let k : at' j ≡ n = ap at' e ∙ new in omega (arith, k, step.last))
          (λ ne. let w = up.within j l (omega (arith, ne, u)) in omega (arith, old j (omega (arith, ne, u)), w, step.grows.more))
          (cases_eq j (i + 1));
    }

pub made_more : (g : Graph) (count : ℕ) (part : ℕ → ℕ) (a b b' : TreeLinks) (node n i : ℕ) (at at' : ℕ → ℕ) (h : Hanging) → 2 ≤ i → AreHungUpTo a b node at i → IsStep b b' n h → at' (i + 1) ≡ n →
    ((j : ℕ) → j ≤ i → at' j ≡ at j) → MayHang g count part i h → ((j : ℕ) → 2 ≤ j → j < i → IsMade g count part at b j) → (j : ℕ) → 2 ≤ j → j < i + 1 → IsMade g count part at' b' j
made_more g count part a b b' node n i at at' h two up step new old may each j from lt =
    ⊎_elim
    (λ (e : j ≡ i).
    let here : at' i + 1 ≡ length b.uppers = omega (arith, old i (omega arith), up.last) in
    subst (λ (k : ℕ). IsMade g count part at' b' k) (sym e) (step.made g count part at' i may here new))
    (λ ne. made_kept g count part at at' b b' j step.grows (old j (omega (arith, lt))) (old (j + 1) (omega (arith, ne, lt))) (up.within (j + 1) (omega arith) (omega (arith, ne, lt))) (each j from (omega (arith, ne, lt))))
    (cases_eq j i)

pub linked : (g : Graph) (count : ℕ) (part at : ℕ → ℕ) (node : ℕ) (a b : TreeLinks) → node < length a.uppers → AreHungUpTo a b node at count → ((j : ℕ) → 2 ≤ j → j < count → IsMade g count part at b j) →
    AreLinked g count part at node a b
linked g count part at node a b low up each = record {
  node_before = low;
  more = up.grows.more;
  uppers_kept = up.grows.uppers_kept;
  follows_kept = up.grows.follows_kept;
  first = up.first;
  first_upper = rw up.first up.first_upper;
  first_apart = rw up.first up.first_apart;
  each = each;
  last = up.last;
}
