-- What has entered stays there.
use Rattle.std.proofs.Common.{◌≡◌, ℕ, ◌<◌, Bool, true, false, List, ◌++◌, length, take, drop, get_or, refl, sym, ap, ◌∙◌, arith}
use Rattle.std.specs.Prelude.{◌≢◌, if◌then◌else◌}
use Rattle.std.specs.List.{All, AllPairs}
use Rattle.std.proofs.Math.Seq.{take-append_seam}
use Rattle.std.proofs.lemmas.Result.{on_ok_weaker}
use Rattle.cut_definitions.specs.Graph.{Graph}
use Rattle.weighted_graph.specs.ContractionLaws.{IsLabelled}
use Rattle.region_sweep.specs.declared.shares.Share.{Share}
use Rattle.region_sweep.specs.Shares.{IsShare, IsSolvedFrom, IsSolvedShare}
use Rattle.region_sweep.proofs.sweep.Sweep.share_large.Goals as goal

still_zero : (left : Bool) (k : ℕ) → k ≡ 0 → (if left then 0 else k) ≡ 0
still_zero true k zero = refl
still_zero false k zero = zero

-- what is written back is all of a list
written : (items new : List Share) (len : ℕ) → len ≡ length items → length new ≡ length items → take len (new ++ drop (length new) items) ≡ new
written items new len e long = ap (λ (k : ℕ). take k (new ++ drop (length new) items)) (e ∙ sym long) ∙ take-append_seam new (drop (length new) items)

-- shares whose trees were looked for
abbrev AreSolvedFrom : Graph → List Share → List Share → Type 0
AreSolvedFrom g old new = (i : ℕ) (d : Share) → i < length old → IsSolvedFrom g (get_or old i d) (get_or new i d)

solved_share : (g : Graph) (labels : List ℕ) (old new : Share) → IsShare g labels old → IsSolvedFrom g old new → IsSolvedShare g labels new
solved_share g labels old new h s = record {
  share = record { outside = rw s.region h.outside; labelled = rw s.classes h.labelled; classes = rw (s.region, s.own, s.classes) h.classes };
  looked_for = s.looked_for;
  tree = s.tree;
}

all_solved : (g : Graph) (labels : List ℕ) (old new : List Share) → length new ≡ length old → All (IsShare g labels) old → AreSolvedFrom g old new → All (IsSolvedShare g labels) new
all_solved g labels old new long each solved k d l =
    let b : k < length old = omega (arith, l, long) in
    solved_share g labels (get_or old k d) (get_or new k d) (each k d b) (solved k d b)

still_apart : (g : Graph) (old new : List Share) → length new ≡ length old → AllPairs (λ (p q : Share). p.region ≢ q.region) old → AreSolvedFrom g old new →
    AllPairs (λ (p q : Share). p.region ≢ q.region) new
still_apart g old new long apart solved i j d l u e =
    let b : j < length old = omega (arith, u, long) in
    apart i j d l b (sym (solved i d (omega (arith, l, b))).region ∙ e ∙ (solved j d b).region)

pub returns-clause-stay : goal.returns-clause-stay
returns-clause-stay g c =
    on_ok_weaker c.graft_all.result
    (λ left v zero. left v ∙ still_zero _ (get_or c.args.self.now.flow.labels v 0) zero)
    c.graft_all.ensures.left

pub large_regions-requires : goal.large_regions-requires
large_regions-requires g c = omega (arith, c.requires.under_way.flow.labels_length, c.n-n.ensures.value)

pub shares_of-requires-clause-labels : goal.shares_of-requires-clause-labels
shares_of-requires-clause-labels g c = c.requires.under_way.flow.labels_length

pub shares_of-requires-clause-some : goal.shares_of-requires-clause-some
shares_of-requires-clause-some g c = omega (arith, c.requires.enough)

pub graft_all-requires-clause-enough : goal.graft_all-requires-clause-enough
graft_all-requires-clause-enough g c = c.requires.enough

pub graft_all-requires-clause-under_way : goal.graft_all-requires-clause-under_way
graft_all-requires-clause-under_way g c = c.requires.under_way

pub returns-then-len-lt2-clause-under_way : goal.returns-then-len-lt2-clause-under_way
returns-then-len-lt2-clause-under_way g c = c.requires.under_way

pub returns-then-len-lt2-clause-stay : goal.returns-then-len-lt2-clause-stay
returns-then-len-lt2-clause-stay g c = λ v zero. zero

pub returns-clause-under_way : goal.returns-clause-under_way
returns-clause-under_way g c = c.graft_all.ensures.under_way

pub shares_of-requires-clause-root : goal.shares_of-requires-clause-root
shares_of-requires-clause-root g c = c.requires.under_way.sweeping.entered

pub shares_of-requires-clause-outside : goal.shares_of-requires-clause-outside
shares_of-requires-clause-outside g c = rw c.deref.ensures.value c.in_ok-regions.ensures.outside

pub shares_of-requires-clause-ascending : goal.shares_of-requires-clause-ascending
shares_of-requires-clause-ascending g c = rw c.deref.ensures.value c.in_ok-regions.ensures.ascending

pub solve_shares-requires : goal.solve_shares-requires
solve_shares-requires g c =
    let labelled : All (λ (s : Share). IsLabelled c.args.graph.now s.classes) c.as_mut_slice.result.now = rw c.as_mut_slice.ensures.value (λ k d l. (c.in_ok-shares.ensures.shares.each k d l).labelled) in
    (c.type_bounds.sync-R, (c.requires.connected, (c.requires.enough, (c.requires.value, (c.requires.workers, labelled)))))

pub graft_all-requires-clause-shares : goal.graft_all-requires-clause-shares
graft_all-requires-clause-shares g c =
    let old = c.in_ok-shares.shares in
    let solved = c.solve_shares.ensures in
    let long : length c.solve_shares.new.shares ≡ length old.items = rw c.as_mut_slice.ensures.value at solved.long in
    rw (written old.items c.solve_shares.new.shares old.len (omega (arith, old.ok.0)) long)
    (all_solved c.args.graph.now c.args.self.now.flow.labels old.items c.solve_shares.new.shares long c.in_ok-shares.ensures.shares.each (rw c.as_mut_slice.ensures.value at solved.solved))

pub graft_all-requires-clause-apart : goal.graft_all-requires-clause-apart
graft_all-requires-clause-apart g c =
    let old = c.in_ok-shares.shares in
    let solved = c.solve_shares.ensures in
    let long : length c.solve_shares.new.shares ≡ length old.items = rw c.as_mut_slice.ensures.value at solved.long in
    rw (written old.items c.solve_shares.new.shares old.len (omega (arith, old.ok.0)) long)
    (still_apart c.args.graph.now old.items c.solve_shares.new.shares long c.in_ok-shares.ensures.shares.apart (rw c.as_mut_slice.ensures.value at solved.solved))
