use Rattle.std.proofs.Common.{◌≡◌, ◌+◌, ◌<◌, ◌≤◌, ◌∷◌, length, ap, sym, refl, subst, ◌∙◌, arith}
use Rattle.cut_definitions.specs.Cuts.{has}
use Rattle.vertex_set.specs.Side.{VertexList}
use Rattle.cactus_walk.specs.Walks.{SidesToCome}
use Rattle.rooted_cactus.specs.CutRanges.{Range, elements_at}
use Rattle.rooted_cactus.specs.Borders.{border_at}
use Rattle.cactus_walk.specs.Repeats.{mark_at, passed_over}
use Rattle.rooted_cactus.specs.Places.{AreOnce, side_at}
use Rattle.cactus_walk.specs.Walking.{sides_left}
use Rattle.rooted_cactus.specs.declared.tree.border.Border.{Border}
use Rattle.cactus_walk.proofs.Stepping.{next_side, ranges_lent, starts_at, next_border, filled, end_there, place_within, border_is, lent_shown}
use Rattle.cactus_walk.proofs.walk.Walk.next.Goals as goal

pub overflow_add-self-inside : goal.overflow_add-self-inside
overflow_add-self-inside c =
    let w = c.self.inside in
    let inv = c.self.invariant in
    let bs = w.borders.items in
    let at = w.first + w.passed + 1 in
    let within : w.first < length bs = omega (arith, c.if-self-len.false, c.len.ensures) in
    let there : at < length bs = end_there (length w.order.items) bs w.first w.passed at inv.borders within (inv.start within) refl in
    omega (arith, there, c.len.ensures, c.len.type_inv)

pub overflow_add-self-inside-2 : goal.overflow_add-self-inside-2
overflow_add-self-inside-2 c =
    let w = c.self.inside in
    let inv = c.self.invariant in
    let bs = w.borders.items in
    let at = w.first + w.passed + 1 in
    let within : w.first < length bs = omega (arith, c.if-self-len.false, c.len.ensures) in
    let there : at < length bs = end_there (length w.order.items) bs w.first w.passed at inv.borders within (inv.start within) refl in
    omega (arith, there, c.len.ensures, c.len.type_inv)

pub index-end-requires : goal.index-end-requires
index-end-requires c =
    let w = c.self.inside in
    let inv = c.self.invariant in
    let bs = w.borders.items in
    let at = w.first + w.passed + 1 in
    let within : w.first < length bs = omega (arith, c.if-self-len.false, c.len.ensures) in
    let there : at < length bs = end_there (length w.order.items) bs w.first w.passed at inv.borders within (inv.start within) refl in
    omega (arith, there)

pub change_side-requires-clause-once : goal.change_side-requires-clause-once
change_side-requires-clause-once c =
    let w = c.self.inside in
    let inv = c.self.invariant in
    let n : w.side.vertices ≡ w.n = ap (λ (s : VertexList). s.vertices) inv.shown in
    subst (AreOnce w.side.vertices) (sym c.deref.ensures.value) (subst (λ k. AreOnce k w.order.items) (sym n) inv.once)

pub change_side-requires-clause-new : goal.change_side-requires-clause-new
change_side-requires-clause-new c =
    let w = c.self.inside in
    let inv = c.self.invariant in
    let bs = w.borders.items in
    let at = w.first + w.passed + 1 in
    let within : w.first < length bs = omega (arith, c.if-self-len.false, c.len.ensures) in
    let there : at < length bs = end_there (length w.order.items) bs w.first w.passed at inv.borders within (inv.start within) refl in
    let first = border_is bs w.first c.index-start.result.now c.index-start.ensures within in
    let end = border_is bs at c.index-end.result.now c.index-end.ensures there in
    let le : c.index-end.result.now.place ≤ length w.order.items = subst (λ (b : Border). b.place ≤ length w.order.items) (sym end) (place_within (length w.order.items) bs at inv.borders there) in
    omega (arith, le, ap length c.deref.ensures.value)

pub overflow_add-self : goal.overflow_add-self
overflow_add-self c =
    let w = c.self.inside in
    let inv = c.self.invariant in
    let bs = w.borders.items in
    let at = w.first + w.passed + 1 in
    let within : w.first < length bs = omega (arith, c.if-self-len.false, c.len.ensures) in
    let there : at < length bs = end_there (length w.order.items) bs w.first w.passed at inv.borders within (inv.start within) refl in
    omega (arith, there, c.len.ensures, c.len.type_inv)

pub invariant_of-self : goal.invariant_of-self
invariant_of-self c =
    let w = c.self.inside in
    let inv = c.self.invariant in
    let bs = w.borders.items in
    let at = w.first + w.passed + 1 in
    let within : w.first < length bs = omega (arith, c.if-self-len.false, c.len.ensures) in
    let there : at < length bs = end_there (length w.order.items) bs w.first w.passed at inv.borders within (inv.start within) refl in
    let first = border_is bs w.first c.index-start.result.now c.index-start.ensures within in
    let end = border_is bs at c.index-end.result.now c.index-end.ensures there in
    let n : w.side.vertices ≡ w.n = ap (λ (s : VertexList). s.vertices) inv.shown in
    let shown = lent_shown w.n w.order.items c.deref.result.now w.side c.change_side.new.side record { from = c.index-start.result.now.place; to = c.index-end.result.now.place } n c.deref.ensures.value c.change_side.ensures in
    record {
      all = inv.all;
      shown = shown;
      span = subst (λ (b : Border). b.place ≤ length w.order.items) (sym end) (place_within (length w.order.items) bs at inv.borders there);
      once = inv.once;
      vertices = inv.vertices;
      borders = inv.borders;
      repeats = inv.repeats;
      start = starts_at bs c.deref-then-self-start.result.now w.repeats.items c.deref-then-self-start-2.result.now c.deref-then-self-start-3.result.now c.next_kept-self-inside.result c.passed_over-self-inside.result
          c.deref-then-self-start.ensures.value c.deref-then-self-start-2.ensures.value c.deref-then-self-start-3.ensures.value c.next_kept-self-inside.ensures.start c.passed_over-self-inside.ensures;
    }

pub invariant_of-self-else-self-start : goal.invariant_of-self-else-self-start
invariant_of-self-else-self-start c =
    let w = c.self.inside in
    let inv = c.self.invariant in
    let bs = w.borders.items in
    let at = w.first + w.passed + 1 in
    let within : w.first < length bs = omega (arith, c.if-self-len.false, c.len.ensures) in
    let there : at < length bs = end_there (length w.order.items) bs w.first w.passed at inv.borders within (inv.start within) refl in
    let first = border_is bs w.first c.index-start.result.now c.index-start.ensures within in
    let end = border_is bs at c.index-end.result.now c.index-end.ensures there in
    let n : w.side.vertices ≡ w.n = ap (λ (s : VertexList). s.vertices) inv.shown in
    let shown = lent_shown w.n w.order.items c.deref.result.now w.side c.change_side.new.side record { from = c.index-start.result.now.place; to = c.index-end.result.now.place } n c.deref.ensures.value c.change_side.ensures in
    record {
      all = inv.all;
      shown = shown;
      span = subst (λ (b : Border). b.place ≤ length w.order.items) (sym end) (place_within (length w.order.items) bs at inv.borders there);
      once = inv.once;
      vertices = inv.vertices;
      borders = inv.borders;
      repeats = inv.repeats;
      start = λ h. subst (λ (b : Border). w.passed + 1 < b.following) first c.if-self-start.false;
    }

pub returns-then-self-start-clause-some : goal.returns-then-self-start-clause-some
returns-then-self-start-clause-some c = λ e.
    let w = c.self.inside in
    let inv = c.self.invariant in
    let bs = w.borders.items in
    let at = w.first + w.passed + 1 in
    let within : w.first < length bs = omega (arith, c.if-self-len.false, c.len.ensures) in
    let there : at < length bs = end_there (length w.order.items) bs w.first w.passed at inv.borders within (inv.start within) refl in
    let first = border_is bs w.first c.index-start.result.now c.index-start.ensures within in
    let end = border_is bs at c.index-end.result.now c.index-end.ensures there in
    let n : w.side.vertices ≡ w.n = ap (λ (s : VertexList). s.vertices) inv.shown in
    let shown = lent_shown w.n w.order.items c.deref.result.now w.side c.change_side.new.side record { from = c.index-start.result.now.place; to = c.index-end.result.now.place } n c.deref.ensures.value c.change_side.ensures in
    let last : (border_at bs w.first).following ≡ w.passed + 1 =
    let few : w.passed < (border_at bs w.first).following = inv.start within in
    let done : (border_at bs w.first).following ≤ w.passed + 1 = subst (λ (b : Border). b.following ≤ w.passed + 1) first c.if-self-start.true in
    omega (arith, few, done) in
    let ranges = ranges_lent bs c.deref-then-self-start.result.now w.repeats.items c.deref-then-self-start-2.result.now c.next_kept-self-inside.result (w.first + 1) c.deref-then-self-start.ensures.value c.deref-then-self-start-2.ensures.value c.next_kept-self-inside.ensures.ranges in
    let passed = c.passed_over-self-inside.ensures ∙ ap (λ l. passed_over (mark_at l c.next_kept-self-inside.result)) c.deref-then-self-start-3.ensures.value in
    let r : Range = record { from = c.index-start.result.now.place; to = c.index-end.result.now.place } in
    let room : c.args.room.now.vertices ≡ w.n = c.requires ∙ sym (ap (λ (x : SidesToCome). x.vertices) c.self.view_is) in
    let full = filled w.n (has (elements_at w.order.items r)) c.args.room.now w.all c.change_side.new.side c.take_out.new.self c.join_in.new.self room inv.all shown c.take_out.ensures c.join_in.ensures in
    sym (ap (λ (x : SidesToCome). x.to_come) c.self.view_is)
    ∙ next_side w.n (length w.order.items) w.order.items bs w.repeats.items w.first w.passed at inv.borders inv.repeats within (inv.start within) refl
    ∙ ap (λ (b : Border). side_at w.n w.order.items record { from = b.place; to = (border_at bs at).place } ∷ sides_left w.n w.order.items bs w.repeats.items w.first (w.passed + 1)) (sym first)
    ∙ ap (λ (b : Border). side_at w.n w.order.items record { from = c.index-start.result.now.place; to = b.place } ∷ sides_left w.n w.order.items bs w.repeats.items w.first (w.passed + 1)) (sym end)
    ∙ ap (λ l. l ∷ sides_left w.n w.order.items bs w.repeats.items w.first (w.passed + 1)) (sym (ap (λ (s : VertexList). s.members) full))
    ∙ ap (λ l. c.join_in.new.self.members ∷ l) (next_border w.n (length w.order.items) w.order.items bs w.repeats.items w.first (w.passed + 1) c.next_kept-self-inside.result c.passed_over-self-inside.result inv.borders inv.repeats within last ranges passed)

pub returns-else-self-start-clause-some : goal.returns-else-self-start-clause-some
returns-else-self-start-clause-some c = λ e.
    let w = c.self.inside in
    let inv = c.self.invariant in
    let bs = w.borders.items in
    let at = w.first + w.passed + 1 in
    let within : w.first < length bs = omega (arith, c.if-self-len.false, c.len.ensures) in
    let there : at < length bs = end_there (length w.order.items) bs w.first w.passed at inv.borders within (inv.start within) refl in
    let first = border_is bs w.first c.index-start.result.now c.index-start.ensures within in
    let end = border_is bs at c.index-end.result.now c.index-end.ensures there in
    let n : w.side.vertices ≡ w.n = ap (λ (s : VertexList). s.vertices) inv.shown in
    let shown = lent_shown w.n w.order.items c.deref.result.now w.side c.change_side.new.side record { from = c.index-start.result.now.place; to = c.index-end.result.now.place } n c.deref.ensures.value c.change_side.ensures in
    let r : Range = record { from = c.index-start.result.now.place; to = c.index-end.result.now.place } in
    let room : c.args.room.now.vertices ≡ w.n = c.requires ∙ sym (ap (λ (x : SidesToCome). x.vertices) c.self.view_is) in
    let full = filled w.n (has (elements_at w.order.items r)) c.args.room.now w.all c.change_side.new.side c.take_out.new.self c.join_in.new.self room inv.all shown c.take_out.ensures c.join_in.ensures in
    sym (ap (λ (x : SidesToCome). x.to_come) c.self.view_is)
    ∙ next_side w.n (length w.order.items) w.order.items bs w.repeats.items w.first w.passed at inv.borders inv.repeats within (inv.start within) refl
    ∙ ap (λ (b : Border). side_at w.n w.order.items record { from = b.place; to = (border_at bs at).place } ∷ sides_left w.n w.order.items bs w.repeats.items w.first (w.passed + 1)) (sym first)
    ∙ ap (λ (b : Border). side_at w.n w.order.items record { from = c.index-start.result.now.place; to = b.place } ∷ sides_left w.n w.order.items bs w.repeats.items w.first (w.passed + 1)) (sym end)
    ∙ ap (λ l. l ∷ sides_left w.n w.order.items bs w.repeats.items w.first (w.passed + 1)) (sym (ap (λ (s : VertexList). s.members) full))
