-- For the bytes of a file all commands with one job and one least balance have one text.
use Rattle.std.proofs.Common.{◌≡◌, ℕ, ◌≤◌, ◌⊎◌, inl, inr, ⊎_elim, List, [], ◌∷◌, length, refl, sym, ap, ◌∙◌, subst, arith}
use Rattle.std.specs.Prelude.{IfOk, Option, Result}
use Rattle.std.proofs.lemmas.Result.{IfOk-at_ok}
use Rattle.cut_definitions.specs.Graph.{Graph}
use Rattle.cut_definitions.specs.Components.{IsConnected}
use Rattle.cut_definitions.specs.Cuts.{value, mincuts, IsAscendingWithin}
use Rattle.component_cuts.proofs.Counted.{law_of_one_number}
use Rattle.flat_cactus.specs.Flat.{Flat}
use Rattle.metis_reader.specs.File.{graph_of, masses_of}
use Rattle.metis_reader.specs.declared.fault.Fault.{Fault}
use Rattle.program_words.specs.declared.command.Command.{Command}
use Rattle.program_words.specs.declared.command.Job.{Job}
use Rattle.program_words.specs.declared.command.Job.TheVariants.{Value, Cactus, Cuts, Part, Count, Balanced, Augment, Grow, Trial}
use Rattle.program_words.specs.Texts.{disconnected_line}
use Rattle.answer_pages.specs.Growing.{growth_text}
use Rattle.job_replies.specs.GrownGraphs.{grown, steps_of}
use Rattle.job_replies.specs.Jobs.{asked_cuts, asked_of, GoesByCactus, IsApart, IsTextFor, IsTextOf, IsUncut, IsWhole, IsWithin, KeepsLimit}
use Rattle.job_replies.specs.TextLaws.{LawOfOneAnswer}
use Rattle.job_replies.proofs.Connected.{one_of_connected}
use Rattle.job_replies.proofs.OneAugmentation.{one_augment_text}
use Rattle.job_replies.proofs.OneText.{one_balanced_text, one_cactus_text, one_flat_of}

-- of a job with these cuts
one_of : (job : Job) (cuts : List (List ℕ)) (masses : List ℕ) (g : Graph) → (job ≡ Balanced → IsConnected g) → (t u : List ℕ) → IsTextOf job cuts masses g t → IsTextOf job cuts masses g u → t ≡ u
one_of Value cuts masses g connected t u a b = a ∙ sym b
one_of Cactus cuts masses g connected t u a b = one_cactus_text g t u a b
one_of Cuts cuts masses g connected t u a b = a ∙ sym b
one_of (Part x y) cuts masses g connected t u a b = a ∙ sym b
one_of Count cuts masses g connected t u a b = a ∙ sym b
one_of Balanced cuts masses g connected t u a b = one_balanced_text masses g (connected refl) t u a b
one_of Augment cuts masses g connected t u a b = one_augment_text g t u a b
one_of (Grow insertions) cuts masses g connected t u a b =
    let last = grown g insertions in
    a.text_is ∙ ap (λ (f : Flat). growth_text (steps_of g insertions) (value last) f) (one_flat_of last a.cactus b.cactus a.of_graph b.of_graph) ∙ sym b.text_is
one_of (Trial number) cuts masses g connected t u a b = absurd a

-- two components have two vertices
two_vertices : (n : ℕ) (firsts : List ℕ) → IsAscendingWithin 1 n firsts → 2 ≤ length firsts → 2 ≤ n
two_vertices n [] h two = absurd (omega arith)
two_vertices n (x ∷ []) h two = absurd (omega arith)
two_vertices n (x ∷ (y ∷ ys)) h two =
    let low = h.0 in
    let next = h.2.0 in
    let high = h.2.1 in
    omega arith

module _ (command : Command) (masses : List ℕ) (g : Graph) (t u : List ℕ) where
  uncut_apart : IsUncut g t → IsApart command masses g u → ⊥
  uncut_apart a b =
      let c = b.components in
      let counted = c.counted in
      let several = b.several in
      let few = a.few in
      let two : 2 ≤ g.vertices = two_vertices g.vertices c.firsts c.ascending (omega arith) in
      omega arith

  uncut_whole : IsUncut g t → IsWhole command masses g u → ⊥
  uncut_whole a b = let few = a.few in let enough = b.enough in omega arith

  apart_whole : IsApart command masses g t → IsWhole command masses g u → ⊥
  apart_whole a b =
      let one = law_of_one_number g a.count 1 a.components (one_of_connected g (b.connected a.by_cactus)) in
      let several = a.several in
      omega arith

  apart_both : IsApart command masses g t → IsApart command masses g u → t ≡ u
  apart_both a b = a.text_is ∙ ap disconnected_line (law_of_one_number g a.count b.count a.components b.components) ∙ sym b.text_is

  whole_both : (command.job ≡ Balanced → IsConnected g) → IsWhole command masses g t → IsWhole command masses g u → t ≡ u
  whole_both connected a b = one_of command.job (asked_cuts command masses g) masses g connected t u a.text_is b.text_is

abbrev Answer : Command → List ℕ → Graph → List ℕ → Type 0
Answer command masses g t = IsUncut g t ⊎ (IsApart command masses g t ⊎ IsWhole command masses g t)

one_text : (command : Command) (masses : List ℕ) (g : Graph) (t u : List ℕ) → (command.job ≡ Balanced → IsConnected g) → Answer command masses g t → Answer command masses g u → t ≡ u
one_text command masses g t u connected a b =
    ⊎_elim
    (λ (x : IsUncut g t). ⊎_elim
    (λ (y : IsUncut g u). x.text_is ∙ sym y.text_is)
    (λ other. ⊎_elim (λ (y : IsApart command masses g u). absurd (uncut_apart command masses g t u x y)) (λ (y : IsWhole command masses g u). absurd (uncut_whole command masses g t u x y)) other)
    b)
    (λ first. ⊎_elim
    (λ (x : IsApart command masses g t). ⊎_elim
    (λ (y : IsUncut g u). absurd (uncut_apart command masses g u t y x))
    (λ other. ⊎_elim (λ (y : IsApart command masses g u). apart_both command masses g t u x y) (λ (y : IsWhole command masses g u). absurd (apart_whole command masses g t u x y)) other)
    b)
    (λ (x : IsWhole command masses g t). ⊎_elim
    (λ (y : IsUncut g u). absurd (uncut_whole command masses g u t y x))
    (λ other. ⊎_elim (λ (y : IsApart command masses g u). absurd (apart_whole command masses g u t y x)) (λ (y : IsWhole command masses g u). whole_both command masses g t u connected x y) other)
    b)
    first)
    a

-- what one of two commands with one job and one least balance replies, the other replies too
module _ (first second : Command) (job : first.job ≡ second.job) (least : first.least ≡ second.least) (masses : List ℕ) (g : Graph) (t : List ℕ) where
  same_cuts : asked_cuts second masses g ≡ asked_cuts first masses g
  same_cuts =
      sym (ap (λ (j : Job). asked_of j first.least masses (mincuts g)) job ∙ ap (λ (l : Option ℕ). asked_of second.job l masses (mincuts g)) least)

  within_first : IsWithin second masses g → IsWithin first masses g
  within_first within components counted =
      subst (λ (j : Job). KeepsLimit j (asked_cuts first masses g) masses g components) (sym job)
      (subst (λ (cuts : List (List ℕ)). KeepsLimit second.job cuts masses g components) same_cuts (within components counted))

  text_of_first : IsTextFor second masses g t → IsTextFor first masses g t
  text_of_first text =
      subst (λ (j : Job). IsTextOf j (asked_cuts first masses g) masses g t) (sym job)
      (subst (λ (cuts : List (List ℕ)). IsTextOf second.job cuts masses g t) same_cuts text)

  apart_of_first : IsApart second masses g t → IsApart first masses g t
  apart_of_first a = record {
    by_cactus = subst GoesByCactus (sym job) a.by_cactus;
    within = within_first a.within;
    count = a.count;
    components = a.components;
    several = a.several;
    text_is = a.text_is;
  }

  whole_of_first : IsWhole second masses g t → IsWhole first masses g t
  whole_of_first w = record {
    enough = w.enough;
    connected = λ by. w.connected (subst GoesByCactus job by);
    within = within_first w.within;
    text_is = text_of_first w.text_is;
  }

  answer_of_first : Answer second masses g t → Answer first masses g t
  answer_of_first answer =
      ⊎_elim (λ (x : IsUncut g t). inl x)
      (λ rest. ⊎_elim (λ (x : IsApart second masses g t). inr (inl (apart_of_first x))) (λ (x : IsWhole second masses g t). inr (inr (whole_of_first x))) rest)
      answer

pub one_answer : LawOfOneAnswer
one_answer first second job least bytes t u connected a b =
    let same : a.graph ≡ b.graph =
    IfOk-at_ok (λ (g : Graph). g ≡ b.graph) {r = graph_of bytes} {x = a.graph} a.accepted (subst (λ (r : Result Graph Fault). IfOk r (λ (g : Graph). g ≡ b.graph)) (sym b.accepted) refl) in
    one_text first (masses_of bytes) b.graph t u (connected b.graph b.accepted)
    (subst (λ (g : Graph). Answer first (masses_of bytes) g t) same a.answer.answer)
    (answer_of_first first second job least (masses_of bytes) b.graph u b.answer.answer)
