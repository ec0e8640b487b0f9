-- The shares have the sets that were looked for.
use Rattle.std.proofs.Common.{◌≡◌, ◌<◌, ◌++◌, ℕ, List, length, take, drop, get_or, ap, sym, ◌∙◌, subst, arith}
use Rattle.std.specs.List.{All}
use Rattle.std.proofs.Math.ListN.{drop_of_length-le}
use Rattle.std.proofs.lemmas.List.{append-nil, take_all}
use Rattle.cut_definitions.specs.Graph.{Graph}
use Rattle.certified_growth.specs.declared.grown_set.Share.{Share}
use Rattle.certified_growth.specs.GrownSets.{IsFoundShare, IsGrownFrom}
use Rattle.certified_growth.proofs.kernel.grow_all.Goals as goal

-- a list that was written to from end to end
all_written : (len : ℕ) (new items : List Share) → length new ≡ length items → len ≡ length items → take len (new ++ drop (length new) items) ≡ new
all_written len new items same long =
    ap (λ (ys : List Share). take len (new ++ ys)) (drop_of_length-le items (omega (arith, same))) ∙ ap (λ (ys : List Share). take len ys) (append-nil new) ∙ take_all len new (omega (arith, same, long))

all_found : (g : Graph) (least : ℕ) (owners : List ℕ) (len : ℕ) (old new : List Share) → length new ≡ length old → len ≡ length old →
    ((i : ℕ) (d : Share) → i < length old → IsGrownFrom g least owners (get_or old i d) (get_or new i d)) →
    All (IsFoundShare g least owners) (take len (new ++ drop (length new) old))
all_found g least owners len old new same long from =
    subst (All (IsFoundShare g least owners)) (sym (all_written len new old same long))
    (λ k d l. let h = from k d (omega (arith, l, same)) in record { looked_for = h.looked_for; grown = h.grown })

pub sets_of_shares-requires : goal.sets_of_shares-requires
sets_of_shares-requires o c =
    let g = c.args.graph.now in
    let new = c.grow_shares.new.shares in
    let value = c.as_mut_slice.ensures.value in
    let from = subst (λ (xs : List Share). (i : ℕ) (d : Share) → i < length xs → IsGrownFrom g c.args.rule.least c.args.owners.now (get_or xs i d) (get_or new i d)) value c.grow_shares.ensures.grown in
    all_found g c.args.rule.least c.args.owners.now c.args.shares.len c.args.shares.items new
    (c.grow_shares.ensures.long ∙ ap length value) (sym c.as_mut_slice.ensures.len ∙ ap length value) from
