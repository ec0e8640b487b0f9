-- Nothing is listed, found or good.
use Rattle.std.proofs.Common.{rules}
use Rattle.region_parts.proofs.SplitterStates.{all_false}
use Rattle.region_parts.proofs.splitter.Splitter.new.Goals as goal

pub returns : goal.returns
returns c = record {
  near = c.in_ok-near.ensures.near;
  hub = c.in_ok-near.ensures.hub.seen_length;
  inner = c.in_ok-inner.ensures.inner;
  outer = c.in_ok-inner.ensures.outer;
  good_length = search rules;
  good = all_false c.in_ok-good.good.items _ (c.in_ok-good.ensures.items_if_clones_equal (λ y e. e));
  touched = search rules;
  memory = c.in_ok-memory.ensures;
}
