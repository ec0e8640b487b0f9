use Rattle.std.proofs.Common.{arith, ◌≡◌, suc, ◌+◌, ◌-◌, ap, length, refl}
use Rattle.rooted_cactus.proofs.Sizes.{nothing_found, end_known, one_found, hops_le, counts_length}
use Rattle.rooted_cactus.proofs.tree.outline.sizes_along.Goals as goal

pub back-init : goal.back-init
back-init c =
    let i : c.len-i.result ≡ length c.in_ok-sizes.sizes.items = omega (arith, c.len-i.ensures) in
    record {
      within = omega (arith, i, ap length c.in_ok-sizes.ensures, counts_length c.args.entries.now);
      found = λ x is. nothing_found c.args.entries.now x is c.in_ok-sizes.sizes.items c.len-i.result c.in_ok-sizes.ensures i;
    }

pub end_of-end-requires : goal.end_of-end-requires
end_of-end-requires c =
    let next : c.back.i ≡ suc (c.back.i - 1) = omega (arith, c.back-test.true) in
    end_known c.args.entries.now c.requires.0 c.requires.1 c.back.sizes.items c.back.i (c.back.i - 1) c.deref.result.now c.index.result.now
    (c.back.invariant.found c.requires.0 c.requires.1) next c.back.invariant.within c.deref.ensures.value c.index.ensures

pub overflow_sub-end : goal.overflow_sub-end
overflow_sub-end c = omega (arith, hops_le c.deref.result.now c.index.result.now (c.back.i - 1 + 1) c.end_of-end.result c.end_of-end.ensures)

pub back-preserved : goal.back-preserved
back-preserved c =
    let next : c.back.i ≡ suc (c.back.i - 1) = omega (arith, c.back-test.true) in
    record {
      within = omega (arith, c.back.invariant.within);
      found = λ x is. one_found c.args.entries.now x is c.back.sizes.items _ c.back.i (c.back.i - 1) c.end_of-end.result c.deref.result.now c.index.result.now
          (c.back.invariant.found x is) next c.back.invariant.within c.deref.ensures.value c.index.ensures c.end_of-end.ensures refl;
    }
