use Rattle.std.proofs.Common.{◌+◌, ◌/◌}
use Rattle.vertex_set.specs.Side.{has_bit}
use Rattle.vertex_set.proofs.Bits.{listed-none, has_bit-zeros}
use Rattle.vertex_set.proofs.side.Side.empty.Goals as goal

pub returns : goal.returns
returns c =
    let h = c.in_ok-words.ensures.items_if_clones_equal (λ y e. e) in
    listed-none c.args.n (has_bit c.in_ok-words.words.items) (λ v. rw h (has_bit-zeros ((c.args.n + 1) / 64 + 1) v))
