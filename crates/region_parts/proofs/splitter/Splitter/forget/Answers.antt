-- All that are marked were on the list.
use Rattle.region_parts.proofs.SplitterStates.{marks_within}
use Rattle.region_parts.proofs.splitter.Splitter.forget.Goals as goal

pub unmark-requires : goal.unmark-requires
unmark-requires c =
    marks_within c.args.self.now.touched.items c.as_slice.result.now c.args.self.now.good.items c.as_mut_slice.result.now c.as_slice.ensures.value c.as_mut_slice.ensures.value c.requires.within
