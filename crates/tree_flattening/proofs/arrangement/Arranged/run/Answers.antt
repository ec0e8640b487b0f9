use Rattle.std.proofs.Common.{◌≡◌, ◌-◌, ℕ, cond, reverse, ap, ◌∙◌, sym, arith}
use Rattle.std.specs.Prelude.{nat_lt, slice_index}
use Rattle.std.specs.List.{range_with_len}
use Rattle.std.proofs.lemmas.Grind.{get_or_default_zero}
use Rattle.tree_flattening.specs.Arranged.{faced}
use Rattle.tree_flattening.proofs.Arrays.{faced_range}
use Rattle.tree_flattening.proofs.arrangement.Arranged.run.Goals as goal

pub returns-clause-run : goal.returns-clause-run
returns-clause-run c =
    let h = c.args.head in
    let p = c.end_of_run-end.result in
    let e = c.end_of_run-end.ensures in
    let table = c.args.self.now.leasts.items in
    let least_at = slice_index table in
    let nodes = range_with_len h (p - h) in
    let last : c.index.result.now ≡ least_at (p - 1) =
    c.index.ensures ∙ get_or_default_zero table (p - 1) c.index.result.now (omega (arith, e.ordered, e.within, c.requires.leasts)) in
    let first : c.index-2.result.now ≡ least_at h =
    c.index-2.ensures ∙ get_or_default_zero table h c.index-2.result.now (omega (arith, c.requires.within, c.requires.leasts)) in
    ap (λ (k : ℕ). cond (nat_lt k c.index-2.result.now) (reverse nodes) nodes) last
    ∙ ap (λ (k : ℕ). cond (nat_lt (least_at (p - 1)) k) (reverse nodes) nodes) first
    ∙ sym (ap (faced least_at h) e.run ∙ faced_range least_at h p e.ordered)
