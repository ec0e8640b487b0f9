use Rattle.std.proofs.Common.{◌≡◌, ◌≤◌, ◌<◌, ◌+◌, ◌/◌, ℕ, List, false, length, ap, sym, ◌∙◌, subst, arith}
use Rattle.std.proofs.lemmas.List.{with_items_is}
use Rattle.std.specs.Slots.{slots_items}
use Rattle.mark_board.specs.Marks.{MarkList, marked_within, AreMarkWords}
use Rattle.mark_board.specs.Words.{is_flagged, base_of}
use Rattle.mark_board.proofs.MarkBits.{AreCopied, copied-are-marks, copied-marks}
use Rattle.mark_board.proofs.marks.Marks.copy_from.Goals as goal

kept_long : (c : goal.After-self-1) → length c.copy_words.new.words ≡ c.self.inside.words.len
kept_long c = omega (arith, c.copy_words.auto.words, c.deref_mut.ensures.len)

long : (c : goal.After-self-1) → length c.copy_words.new.words ≡ c.self.inside.edges / 64 + 1
long c = c.copy_words.auto.words ∙ (ap (λ (ws : List ℕ). length ws) c.deref_mut.ensures.value ∙ c.self.invariant.long)

copied : (c : goal.After-self-1) → AreCopied (slots_items c.args.closed.now.words) c.copy_words.new.words
copied c = λ k lt. c.copy_words.ensures k (omega (arith, c.copy_words.auto.words))

pub invariant_of-self : goal.invariant_of-self
invariant_of-self c =
    let m = c.self.inside in
    let edges = ap (λ (x : MarkList). x.edges) c.self.view_is in
    let spare = subst (λ (n : ℕ). (f : ℕ) → n ≤ f → f < base_of n → is_flagged (slots_items c.args.closed.now.words) f ≡ false) (sym edges) c.requires.spare in
    subst (λ (ws : List ℕ). AreMarkWords m.edges ws) (sym (with_items_is m.words c.copy_words.new.words (kept_long c)))
    (copied-are-marks m.edges (slots_items c.args.closed.now.words) c.copy_words.new.words (long c) (copied c) spare)

pub returns : goal.returns
returns c =
    let m = c.self.inside in
    let edges = ap (λ (x : MarkList). x.edges) c.self.view_is in
    rw (with_items_is m.words c.copy_words.new.words (kept_long c))
    (copied-marks m.edges (slots_items c.args.closed.now.words) c.copy_words.new.words (long c) (copied c)
    ∙ ap (λ (n : ℕ). marked_within n (is_flagged (slots_items c.args.closed.now.words))) edges)
