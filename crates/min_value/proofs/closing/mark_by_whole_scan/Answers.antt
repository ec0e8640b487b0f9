use Rattle.std.proofs.Common.{sym, refl, ◌∙◌, arith}
use Rattle.std.proofs.lemmas.Bool.{false≢true}
use Rattle.min_value.proofs.Light.{whole_start, below_start, whole_step, below_step, fewer_unscanned, light_end}
use Rattle.min_value.proofs.closing.mark_by_whole_scan.Goals as goal

pub steps-init : goal.steps-init
steps-init c =
    let g = c.args.graph.now in
    let same = c.requires.stands.vertices in
    record {
      stands = c.start.ensures.stands g c.requires.stands;
      whole = whole_start g c.start.new.self c.args.scan.now.vertices c.args.value c.start.ensures.started same;
      edges = refl;
      safe = c.requires.safe;
      marked = λ is. absurd (false≢true is);
      below = λ unmarked. below_start g c.start.new.self c.args.scan.now.vertices c.args.value c.start.ensures.started;
    }

pub steps-smaller-then-mark_links : goal.steps-smaller-then-mark_links
steps-smaller-then-mark_links c =
    let next = c.in-Some.next in
    fewer_unscanned c.args.graph.now c.steps.scan c.next.new.self next.vertex next.prefix_weight next.all c.steps.invariant.stands c.in-Some.ensures.scanned

pub steps-smaller : goal.steps-smaller
steps-smaller c =
    let next = c.in-Some.next in
    fewer_unscanned c.args.graph.now c.steps.scan c.next.new.self next.vertex next.prefix_weight next.all c.steps.invariant.stands c.in-Some.ensures.scanned

pub steps-preserved-then-mark_links : goal.steps-preserved-then-mark_links
steps-preserved-then-mark_links c =
    let g = c.args.graph.now in
    let inv = c.steps.invariant in
    let next = c.in-Some.next in
    let m = c.mark_links.ensures in
    record {
      stands = c.in-Some.ensures.stands;
      whole = whole_step g c.steps.scan c.next.new.self next.vertex next.prefix_weight next.all inv.stands c.in-Some.ensures.scanned c.args.value inv.whole;
      edges = m.edges ∙ inv.edges;
      safe = m.safe;
      marked = λ is. m.some c.if-mark_links.true;
      below = λ unmarked. absurd (false≢true (sym unmarked));
    }

pub steps-preserved : goal.steps-preserved
steps-preserved c =
    let g = c.args.graph.now in
    let inv = c.steps.invariant in
    let next = c.in-Some.next in
    let scanned = c.in-Some.ensures.scanned in
    let m = c.mark_links.ensures in
    let whole = whole_step g c.steps.scan c.next.new.self next.vertex next.prefix_weight next.all inv.stands scanned c.args.value inv.whole in
    record {
      stands = c.in-Some.ensures.stands;
      whole = whole;
      edges = m.edges ∙ inv.edges;
      safe = m.safe;
      marked = λ is.
          let s = inv.marked is in
          record { edge = s.edge; within = omega (arith, s.within, m.edges); is_marked = m.kept s.edge s.within s.is_marked };
      below = λ unmarked.
          below_step g c.n-n.ensures.edge_list.is_graph c.steps.scan c.next.new.self next.vertex next.prefix_weight next.all inv.stands c.in-Some.ensures.stands scanned c.args.value
          whole (m.below c.if-mark_links.false) (inv.below unmarked);
    }

pub returns-clause-light : goal.returns-clause-light
returns-clause-light c unmarked =
    let inv = c.steps.invariant in
    light_end c.args.graph.now c.n-n.ensures.edge_list.is_graph c.steps.scan c.args.value (c.next.ensures.none.0 c.in_default.is) inv.whole (inv.below unmarked)
