-- What was replied, and what was reported if there is no reply.
use Rattle.std.proofs.Common.{◌++◌, ◌∷◌, ◌≡◌, ℕ, ◌⊎◌, ◌≤◌, ◌<◌, ◌+◌, ◌-◌, ◌*◌, ◌^◌, length, arith, inl, inr, ⊎_elim, List, Option, Some, None, Result, Ok, Err, refl, sym, ◌∙◌, subst, ap}
use Rattle.std.specs.Prelude.{◌≢◌, IsSome, IfSome, IfOk, MatchOption}
use Rattle.std.specs.Io.KnownBytes.{Appends}
use Rattle.outside.specs.Faults.{Rose}
use Rattle.cut_definitions.specs.Graph.{Graph, IsVertex}
use Rattle.cut_definitions.specs.Components.{HasComponents}
use Rattle.metis_reader.specs.declared.fault.Fault.{Fault}
use Rattle.metis_reader.specs.File.{graph_of, masses_of}
use Rattle.metis_reader.proofs.FixedFaults.{graph_of_fixed, fixed_stays}
use Rattle.stop_lines.specs.declared.stop.Stop.{Stop}
use Rattle.stop_lines.specs.declared.stop.Stop.TheVariants as stop
use Rattle.stop_lines.specs.declared.status.Status.{Status}
use Rattle.stop_lines.specs.declared.status.Status.TheVariants as status
use Rattle.program_words.specs.declared.notice.Notice.{Notice}
use Rattle.program_words.specs.Notices.{notice_of, text_of}
use Rattle.program_words.specs.declared.command.Command.{Command}
use Rattle.program_words.specs.declared.command.Job.{Job}
use Rattle.program_words.specs.declared.command.Job.TheVariants.{Value, Cactus, Cuts, Part, Count, Balanced, Augment, Grow, Trial}
use Rattle.job_replies.specs.Jobs.{IsAnswerOf, IsStopFor, IsInRange, IsListed, IsListWithin, IsOutside, IsWithin, KeepsLimit, asked_cuts, total_of}
use Rattle.program_words.specs.Insertions.{Insertion}
use Rattle.job_replies.specs.GrownGraphs.{StaysWithin}
use Rattle.std.specs.List.{Contains}
use Rattle.std.proofs.lemmas.List.Elements.{All-contains, Contains-append_right}
use Rattle.cut_definitions.proofs.Lists.{Contains-here}
use Rattle.program_words.specs.Words.{IsReading, ReadsGraph, command_of}
use Rattle.stop_lines.specs.Stops.{status_of, line_of}
use Rattle.job_replies.specs.Intake.{IsRefused, IsAnswer, IsJobAnswer, IsJobReply, RepliesAs, IsStopped, IsReply, IsCause}
use Rattle.job_replies.specs.Answers.{over_status, Writes, Told, TellingFailed}
use Rattle.program_words.proofs.NoticeWords.{notice_is_no_command}
use Rattle.job_replies.proofs.Bytes.{read_all}
use Rattle.program_words.proofs.Trials.{some_is, is_reading}

-- ---- words

abbrev pub HasCommand : List (List ℕ) → Type 0
HasCommand words = IsSome (command_of words)

none_command : (words : List (List ℕ)) → command_of words ≡ None → HasCommand words → ⊥
none_command words none command = cc

-- words that are a command ask for no notice
no_notice : (words : List (List ℕ)) → HasCommand words → notice_of words ≡ None
no_notice words command = none_of (notice_of words) refl
  where
    none_of : (o : Option Notice) → notice_of words ≡ o → o ≡ None
    none_of None e = refl
    none_of (Some n) e = absurd (none_command words (notice_is_no_command words (rw e refl)) command)

pub has_command : (words : List (List ℕ)) (command : Command) → command_of words ≡ Some command → HasCommand words
has_command words command is = rw is refl

reading_command : (words : List (List ℕ)) → ReadsGraph words → HasCommand words
reading_command words reads = has_command words reads.command reads.commanded

-- nothing is said of a command if the words ask for a notice
pub only_notice : {T E : Type 0} (words : List (List ℕ)) (notice : Notice) → notice_of words ≡ Some notice → (answer : Result T E) (P : Type 0) →
    IfOk answer (λ _. ReadsGraph words → P)
only_notice words notice is (Ok x) P = λ reads. absurd (off (no_notice words (reading_command words reads)))
  where
    off : notice_of words ≡ None → ⊥
    off none = cc (is, none)
only_notice words notice is (Err e) P = tt

-- ---- the first fault of all bytes

-- a fault for which bytes were refused is the first fault of all that the source had left
pub refused_all : (before now : Option (List ℕ)) (fault : Fault) → IsRefused before now fault → IfSome before (λ all. graph_of all ≡ Err fault)
refused_all None now fault r = tt
refused_all (Some all) now fault r =
    ⊎_elim
    (λ f. ap graph_of r.read.2 ∙ graph_of_fixed (r.bytes ++ r.read.0) fault (fixed_stays r.bytes r.read.0 fault f.fault_fixed))
    (λ e. let same : all ≡ r.bytes = read_all (Some all) now r.bytes r.read e.0 in ap graph_of same ∙ e.1)
    r.why

one_result : {T E : Type 0} (r : Result T E) (x : T) (e : E) → r ≡ Ok x → r ≡ Err e → ⊥
one_result r x e p q = cc (p, q)

-- ---- the command and the graph

ok_is : {T E : Type 0} (x y : T) → ◌≡◌ {A = Result T E} (Ok x) (Ok y) → x ≡ y
ok_is {T} {E} x y e = ap (λ (r : Result T E). elim r [ Ok v ↦ v | Err e ↦ x ]) e

-- the reply to a command
replied : (words : List (List ℕ)) (command : Command) (left : Option (List ℕ)) (text : List ℕ) → command_of words ≡ Some command → IsReply words left text → IsJobReply command left text
replied words command left text is reply =
    let a : IsAnswer words left text = subst
    (λ (o : Option Notice). MatchOption o (IsAnswer words left text) (λ notice. text ≡ text_of notice)) (no_notice words (has_command words command is)) reply in
    subst (λ (x : Command). IsJobReply x left text) (some_is a.command command (sym a.commanded ∙ is)) a.answer

-- a job that reads a graph replies for the bytes
reading_replied : (job : Job) (command : Command) (left : Option (List ℕ)) (bytes text : List ℕ) → IsReading job → left ≡ Some bytes → RepliesAs job command left text → IsJobAnswer command bytes text
reading_replied Value command left bytes text reading from reply = subst (λ (o : Option (List ℕ)). IfSome o (λ bytes. IsJobAnswer command bytes text)) from reply
reading_replied Cactus command left bytes text reading from reply = subst (λ (o : Option (List ℕ)). IfSome o (λ bytes. IsJobAnswer command bytes text)) from reply
reading_replied Cuts command left bytes text reading from reply = subst (λ (o : Option (List ℕ)). IfSome o (λ bytes. IsJobAnswer command bytes text)) from reply
reading_replied (Part u v) command left bytes text reading from reply = subst (λ (o : Option (List ℕ)). IfSome o (λ bytes. IsJobAnswer command bytes text)) from reply
reading_replied Count command left bytes text reading from reply = subst (λ (o : Option (List ℕ)). IfSome o (λ bytes. IsJobAnswer command bytes text)) from reply
reading_replied Balanced command left bytes text reading from reply = subst (λ (o : Option (List ℕ)). IfSome o (λ bytes. IsJobAnswer command bytes text)) from reply
reading_replied Augment command left bytes text reading from reply = subst (λ (o : Option (List ℕ)). IfSome o (λ bytes. IsJobAnswer command bytes text)) from reply
reading_replied (Grow is) command left bytes text reading from reply = subst (λ (o : Option (List ℕ)). IfSome o (λ bytes. IsJobAnswer command bytes text)) from reply
reading_replied (Trial number) command left bytes text reading from reply = absurd reading

-- the reply to a command for a graph that was read
pub answered : (words : List (List ℕ)) (command : Command) (left : Option (List ℕ)) (bytes text : List ℕ) (graph : Graph) → command_of words ≡ Some command → IsReading command.job →
    left ≡ Some bytes → graph_of bytes ≡ Ok graph → IsReply words left text → IsAnswerOf command (masses_of bytes) graph text
answered words command left bytes text graph is reading from accepted reply =
    let a : IsJobAnswer command bytes text = reading_replied command.job command left bytes text reading from (replied words command left text is reply) in
    subst (λ (y : Graph). IsAnswerOf command (masses_of bytes) y text) (ok_is a.graph graph (sym a.accepted ∙ accepted)) a.answer

-- there is no reply if the bytes have a fault
pub no_reply : (words : List (List ℕ)) (left : Option (List ℕ)) (bytes text : List ℕ) (fault : Fault) → ReadsGraph words → left ≡ Some bytes → graph_of bytes ≡ Err fault →
    IsReply words left text → ⊥
no_reply words left bytes text fault reads from wrong reply =
    let a : IsJobAnswer reads.command bytes text =
    reading_replied reads.command.job reads.command left bytes text reads.reading from (replied words reads.command left text reads.commanded reply) in
    one_result (graph_of bytes) a.graph fault a.accepted wrong

-- a job whose vertices may be missing, or whose list may be too large, reads a graph
pub reading_of_outside : (job : Job) (n : ℕ) → (IsInRange job n → ⊥) → IsReading job
reading_of_outside (Part u v) n outside = tt
reading_of_outside Value n outside = tt
reading_of_outside Cactus n outside = tt
reading_of_outside Cuts n outside = tt
reading_of_outside Count n outside = tt
reading_of_outside Balanced n outside = tt
reading_of_outside Augment n outside = tt
reading_of_outside (Grow is) n outside = tt
reading_of_outside (Trial number) n outside = absurd (outside tt)

limit_reads : (job : Job) (cuts : List (List ℕ)) (masses : List ℕ) (g : Graph) → (((components : ℕ) → HasComponents g components → KeepsLimit job cuts masses g components) → ⊥) → IsReading job
limit_reads (Part u v) cuts masses g large = tt
limit_reads Value cuts masses g large = tt
limit_reads Cactus cuts masses g large = tt
limit_reads Cuts cuts masses g large = tt
limit_reads Count cuts masses g large = tt
limit_reads Balanced cuts masses g large = tt
limit_reads Augment cuts masses g large = tt
limit_reads (Grow is) cuts masses g large = tt
limit_reads (Trial number) cuts masses g large = absurd (large (λ components counted. tt))

pub reading_of_large : (command : Command) (masses : List ℕ) (g : Graph) → (IsWithin command masses g → ⊥) → IsReading command.job
reading_of_large command masses g large = limit_reads command.job (asked_cuts command masses g) masses g large

-- the stop of a command for a graph
stopped : (words : List (List ℕ)) (command : Command) (left : Option (List ℕ)) (bytes : List ℕ) (graph : Graph) (s : Stop) → command_of words ≡ Some command →
    left ≡ Some bytes → graph_of bytes ≡ Ok graph → IfSome left (λ bytes. IsStopped words bytes s) → IsStopFor command (masses_of bytes) graph s
stopped words command left bytes graph s is from accepted why =
    let a : IsStopped words bytes s = subst (λ (o : Option (List ℕ)). IfSome o (λ bytes. IsStopped words bytes s)) from why in
    let c : a.command ≡ command = some_is a.command command (sym a.commanded ∙ is) in
    let g : a.graph ≡ graph = ok_is a.graph graph (sym a.accepted ∙ accepted) in
    subst (λ (x : Command). IsStopFor x (masses_of bytes) graph s) c (subst (λ (y : Graph). IsStopFor a.command (masses_of bytes) y s) g a.why)

-- a graph that is accepted has no fault
accepted_twice : (words : List (List ℕ)) (left : Option (List ℕ)) (bytes : List ℕ) (fault : Fault) (s : Stop) → left ≡ Some bytes → graph_of bytes ≡ Err fault →
    IfSome left (λ bytes. IsStopped words bytes s) → ⊥
accepted_twice words left bytes fault s from wrong why =
    let a : IsStopped words bytes s = subst (λ (o : Option (List ℕ)). IfSome o (λ bytes. IsStopped words bytes s)) from why in
    one_result (graph_of bytes) a.graph fault a.accepted wrong

out_of_range : (job : Job) (n x : ℕ) → IsOutside job n x → IsInRange job n → ⊥
out_of_range Value n x outside inside = outside
out_of_range Cactus n x outside inside = outside
out_of_range Cuts n x outside inside = outside
out_of_range Count n x outside inside = outside
out_of_range Balanced n x outside inside = outside
out_of_range Augment n x outside inside = outside
out_of_range (Grow is) n x outside inside =
    let at = All-contains (λ i. IsVertex n i.0 × IsVertex n i.1) is outside.insertion inside (subst (λ (l : List Insertion). Contains l outside.insertion) (sym outside.parts) (Contains-append_right outside.before (outside.insertion ∷ outside.after) outside.insertion (Contains-here outside.insertion outside.after))) in
    ⊎_elim (λ a. a.1 at.0) (λ b. b.2 at.1) outside.outside
out_of_range (Trial number) n x outside inside = outside
out_of_range (Part u v) n x outside inside = ⊎_elim (λ a. a.1 inside.0) (λ b. b.2 inside.1) outside

-- a vertex that is not there stops no job whose vertices are there
bad_vertex_stops : (command : Command) (masses : List ℕ) (g : Graph) (x n : ℕ) → IsStopFor command masses g (stop.BadVertex x n) → IsInRange command.job g.vertices → ⊥
bad_vertex_stops command masses g x n why inside = out_of_range command.job n x why.1 (subst (λ (k : ℕ). IsInRange command.job k) (sym why.0) inside)

-- ---- limits

kept_list : (job : Job) (cuts : List (List ℕ)) (masses : List ℕ) (g : Graph) (components : ℕ) → IsListed job → KeepsLimit job cuts masses g components → IsListWithin cuts g components
kept_list Cuts cuts masses g components listed kept = kept
kept_list (Part u v) cuts masses g components listed kept = kept
kept_list Value cuts masses g components listed kept = absurd listed
kept_list Cactus cuts masses g components listed kept = absurd listed
kept_list Count cuts masses g components listed kept = absurd listed
kept_list Balanced cuts masses g components listed kept = absurd listed
kept_list Augment cuts masses g components listed kept = absurd listed
kept_list (Grow is) cuts masses g components listed kept = absurd listed
kept_list (Trial number) cuts masses g components listed kept = absurd listed

listed_status : (job : Job) → IsListed job → over_status job ≡ status.ListTooLarge
listed_status Cuts listed = refl
listed_status (Part u v) listed = refl
listed_status Value listed = absurd listed
listed_status Cactus listed = absurd listed
listed_status Count listed = absurd listed
listed_status Balanced listed = absurd listed
listed_status Augment listed = absurd listed
listed_status (Grow is) listed = absurd listed
listed_status (Trial number) listed = absurd listed

-- a job within its limit is not stopped by one, nor is one whose vertices are there by a vertex
limit_stops : (command : Command) (masses : List ℕ) (g : Graph) (s : Stop) → IsStopFor command masses g s → IsInRange command.job g.vertices →
    (2 ≤ g.vertices → IsWithin command masses g) → s ≡ stop.NoMemory
limit_stops command masses g (stop.BadVertex x n) why inside within = absurd (bad_vertex_stops command masses g x n why inside)
limit_stops command masses g (stop.TooLarge cuts n) why inside within =
    let kept = kept_list command.job (asked_cuts command masses g) masses g 1 why.listed (within why.enough 1 why.one) in
    let most : length (asked_cuts command masses g) * g.vertices ≤ 2 ^ 30 = kept.asked (omega arith) in
    let least : 2 ^ 30 < length (asked_cuts command masses g) * g.vertices = subst (λ (k : ℕ). 2 ^ 30 < k * g.vertices) why.counted (subst (λ (k : ℕ). 2 ^ 30 < cuts * k) why.over why.large) in
    absurd (omega (arith, most, least))
limit_stops command masses g (stop.TooManyUnions c n) why inside within =
    let kept = kept_list command.job (asked_cuts command masses g) masses g c why.listed (within why.enough c why.has_components) in
    let least : 2 ^ 30 < (2 ^ (c - 1) - 1) * g.vertices = subst (λ (k : ℕ). 2 ^ 30 < (2 ^ (c - 1) - 1) * k) why.over why.large in
    absurd (omega (arith, kept.all why.several, least))
limit_stops command masses g (stop.CountTooLarge c) why inside within =
    let kept : c ≤ 127 = subst (λ (j : Job). KeepsLimit j (asked_cuts command masses g) masses g c) why.job (within why.enough c why.has_components) in
    absurd (omega (arith, kept, why.large))
limit_stops command masses g (stop.BalanceTooLarge c total) why inside within =
    let kept : 2 ≤ c → c * (total_of masses + 1) ≤ 2 ^ 32 = subst (λ (j : Job). KeepsLimit j (asked_cuts command masses g) masses g c) why.job (within why.enough c why.has_components) in
    let large : 2 ^ 32 < c * (total_of masses + 1) = subst (λ (k : ℕ). 2 ^ 32 < c * (k + 1)) why.counted why.large in
    absurd (omega (arith, kept why.several, large))
limit_stops command masses g (stop.GrowTooLarge number) why inside within =
    let kept : StaysWithin g why.insertions = subst (λ (j : Job). KeepsLimit j (asked_cuts command masses g) masses g why.components) why.job (within why.enough why.components why.has_components) in
    absurd (why.first.beyond (kept number why.first.to_end))
limit_stops command masses g stop.NoMemory why inside within = refl
limit_stops command masses g stop.BadWords why inside within = absurd why
limit_stops command masses g (stop.Refused fault) why inside within = absurd why
limit_stops command masses g stop.ReadFailed why inside within = absurd why

-- no reply goes beyond the limit of its job
pub too_large_reply : (command : Command) (masses : List ℕ) (g : Graph) (text : List ℕ) → IsAnswerOf command masses g text → 2 ≤ g.vertices → (IsWithin command masses g → ⊥) → ⊥
too_large_reply command masses g text a two large =
    ⊎_elim (λ few. omega (arith, few.few, two)) (⊎_elim (λ apart. large apart.within) (λ whole. large whole.within)) a.answer

-- ---- what was reported

-- a stop with its cause that was reported, whole or in part
pub record Telling (words : List (List ℕ)) (left now : Option (List ℕ)) (m n : ℕ) (before after : Option (List ℕ)) (p q : ℕ) (result : Status) : Type 0 where
  pub stop : Stop
  pub cause : IsCause words left now m n stop
  pub writes : Writes (status_of stop) (line_of stop) before after p q result

no_write_fault : (s : Stop) → status_of s ≡ status.WriteFault → ⊥
no_write_fault stop.BadWords e = cc
no_write_fault (stop.Refused fault) e = cc
no_write_fault stop.ReadFailed e = cc
no_write_fault stop.NoMemory e = cc
no_write_fault (stop.BadVertex x k) e = cc
no_write_fault (stop.TooLarge cuts k) e = cc
no_write_fault (stop.TooManyUnions c k) e = cc
no_write_fault (stop.CountTooLarge c) e = cc
no_write_fault (stop.BalanceTooLarge c total) e = cc
no_write_fault (stop.GrowTooLarge number) e = cc

module _ (words : List (List ℕ)) (left now : Option (List ℕ)) (m n : ℕ) (before after : Option (List ℕ)) (p q : ℕ) (result : Status) where
  -- what was taken if no write failed
  whole : (s : Stop) → Writes (status_of s) (line_of s) before after p q result → result ≢ status.WriteFault →
      (result ≡ status_of s) × Appends before after (line_of s)
  whole s w fine = ⊎_elim (λ t. (t.0, t.1.text_taken)) (λ t. absurd (fine t.0)) w

  pub told : Telling words left now m n before after p q result → result ≢ status.WriteFault → Told words left now m n before after result
  told t fine = let w = whole t.stop t.writes fine in record { stop = t.stop; status = w.0; cause = t.cause; line_taken = w.1 }

  pub telling_failed : Telling words left now m n before after p q result → result ≡ status.WriteFault → TellingFailed words left now m n before after p q
  telling_failed t is =
      ⊎_elim
      (λ w. absurd (no_write_fault t.stop (sym w.0 ∙ is)))
      (λ w. record { rose = w.1.rose; stop = t.stop; cause = t.cause; part_taken = w.1.part_taken })
      t.writes

  -- if no write failed the status is that of the stop
  calm : (t : Telling words left now m n before after p q result) → ¬ Rose p q → result ≡ status_of t.stop
  calm t no_fault = ⊎_elim (λ w. w.0) (λ w. absurd (no_fault w.1.rose)) t.writes

  -- a trial reports nothing but that memory ran out
  pub trial_told : (command : Command) (number : ℕ) → command_of words ≡ Some command → command.job ≡ Trial number → ¬ Rose p q →
      Telling words left now m n before after p q result → (result ≡ status.Ok) ⊎ (result ≡ status.OutOfMemory)
  trial_told command number is trial tells t = of t.stop t.cause (calm t tells)
    where
      no_reading : ReadsGraph words → ⊥
      no_reading reads = subst IsReading trial (is_reading words command is reads)

      of : (s : Stop) → IsCause words left now m n s → result ≡ status_of s → (result ≡ status.Ok) ⊎ (result ≡ status.OutOfMemory)
      of stop.BadWords cause e = absurd (none_command words cause.0 (has_command words command is))
      of (stop.Refused fault) cause e = absurd (no_reading cause.0)
      of stop.ReadFailed cause e = absurd (no_reading cause.0)
      of stop.NoMemory cause e = inr e
      of (stop.BadVertex x k) cause e = absurd (no_reading cause.0)
      of (stop.TooLarge cuts k) cause e = absurd (no_reading cause.0)
      of (stop.TooManyUnions c k) cause e = absurd (no_reading cause.0)
      of (stop.CountTooLarge c) cause e = absurd (no_reading cause.0)
      of (stop.BalanceTooLarge c total) cause e = absurd (no_reading cause.0)
      of (stop.GrowTooLarge number) cause e = absurd (no_reading cause.0)

  module _ (has : HasCommand words) (reads : ¬ Rose m n) (tells : ¬ Rose p q) (bytes : List ℕ) (from : left ≡ Some bytes)
      (t : Telling words left now m n before after p q result) where
    -- why a graph has no reply
    stop_for : (command : Command) (graph : Graph) → command_of words ≡ Some command → graph_of bytes ≡ Ok graph → (s : Stop) → IsCause words left now m n s →
        (s ≡ stop.NoMemory) ⊎ IsStopFor command (masses_of bytes) graph s
    stop_for command graph is accepted stop.BadWords cause = absurd (none_command words cause.0 has)
    stop_for command graph is accepted (stop.Refused fault) cause =
        let wrong : graph_of bytes ≡ Err fault = subst (λ (o : Option (List ℕ)). IfSome o (λ all. graph_of all ≡ Err fault)) from (refused_all left now fault cause.2) in
        absurd (one_result (graph_of bytes) graph fault accepted wrong)
    stop_for command graph is accepted stop.ReadFailed cause = absurd (reads cause.1)
    stop_for command graph is accepted stop.NoMemory cause = inl refl
    stop_for command graph is accepted (stop.BadVertex x k) cause = inr (stopped words command left bytes graph (stop.BadVertex x k) is from accepted cause.3)
    stop_for command graph is accepted (stop.TooLarge cuts k) cause = inr (stopped words command left bytes graph (stop.TooLarge cuts k) is from accepted cause.3)
    stop_for command graph is accepted (stop.TooManyUnions c k) cause = inr (stopped words command left bytes graph (stop.TooManyUnions c k) is from accepted cause.3)
    stop_for command graph is accepted (stop.CountTooLarge c) cause = inr (stopped words command left bytes graph (stop.CountTooLarge c) is from accepted cause.3)
    stop_for command graph is accepted (stop.BalanceTooLarge c total) cause = inr (stopped words command left bytes graph (stop.BalanceTooLarge c total) is from accepted cause.3)
    stop_for command graph is accepted (stop.GrowTooLarge number) cause = inr (stopped words command left bytes graph (stop.GrowTooLarge number) is from accepted cause.3)

    -- for a graph whose job has a text, only memory can run out
    pub graph_told : (command : Command) (graph : Graph) → command_of words ≡ Some command → graph_of bytes ≡ Ok graph → IsInRange command.job graph.vertices →
        (2 ≤ graph.vertices → IsWithin command (masses_of bytes) graph) → (result ≡ status.Ok) ⊎ (result ≡ status.OutOfMemory)
    graph_told command graph is accepted inside within = of t.stop (stop_for command graph is accepted t.stop t.cause) (calm t tells)
      where
        of : (s : Stop) → (s ≡ stop.NoMemory) ⊎ IsStopFor command (masses_of bytes) graph s → result ≡ status_of s → (result ≡ status.Ok) ⊎ (result ≡ status.OutOfMemory)
        of s (inl memory) e = inr (e ∙ ap status_of memory)
        of s (inr why) e = inr (e ∙ ap status_of (limit_stops command (masses_of bytes) graph s why inside within))

    -- a vertex that is not there is reported
    pub outside_told : (command : Command) (graph : Graph) → command_of words ≡ Some command → graph_of bytes ≡ Ok graph → (IsInRange command.job graph.vertices → ⊥) →
        (result ≡ status.BadVertex) ⊎ (result ≡ status.OutOfMemory)
    outside_told command graph is accepted outside = of t.stop (stop_for command graph is accepted t.stop t.cause) (calm t tells)
      where
        of : (s : Stop) → (s ≡ stop.NoMemory) ⊎ IsStopFor command (masses_of bytes) graph s → result ≡ status_of s → (result ≡ status.BadVertex) ⊎ (result ≡ status.OutOfMemory)
        of s (inl memory) e = inr (e ∙ ap status_of memory)
        of (stop.BadVertex x k) (inr why) e = inl e
        of (stop.TooLarge cuts k) (inr why) e = absurd (outside why.in_range)
        of (stop.TooManyUnions c k) (inr why) e = absurd (outside why.in_range)
        of (stop.CountTooLarge c) (inr why) e = absurd (outside (subst (λ (j : Job). IsInRange j graph.vertices) (sym why.job) tt))
        of (stop.BalanceTooLarge c total) (inr why) e = absurd (outside (subst (λ (j : Job). IsInRange j graph.vertices) (sym why.job) tt))
        of (stop.GrowTooLarge number) (inr why) e = absurd (outside why.in_range)
        of stop.NoMemory (inr why) e = inr e
        of stop.BadWords (inr why) e = absurd why
        of (stop.Refused fault) (inr why) e = absurd why
        of stop.ReadFailed (inr why) e = absurd why

    -- a limit that is exceeded is reported
    pub over_limit_told : (command : Command) (graph : Graph) → command_of words ≡ Some command → graph_of bytes ≡ Ok graph → IsInRange command.job graph.vertices →
        (result ≡ over_status command.job) ⊎ (result ≡ status.OutOfMemory)
    over_limit_told command graph is accepted inside = of t.stop (stop_for command graph is accepted t.stop t.cause) (calm t tells)
      where
        of : (s : Stop) → (s ≡ stop.NoMemory) ⊎ IsStopFor command (masses_of bytes) graph s → result ≡ status_of s → (result ≡ over_status command.job) ⊎ (result ≡ status.OutOfMemory)
        of s (inl memory) e = inr (e ∙ ap status_of memory)
        of (stop.BadVertex x k) (inr why) e = absurd (bad_vertex_stops command (masses_of bytes) graph x k why inside)
        of (stop.TooLarge cuts k) (inr why) e = inl (e ∙ sym (listed_status command.job why.listed))
        of (stop.TooManyUnions c k) (inr why) e = inl (e ∙ sym (listed_status command.job why.listed))
        of (stop.CountTooLarge c) (inr why) e = inl (e ∙ sym (ap over_status why.job))
        of (stop.BalanceTooLarge c total) (inr why) e = inl (e ∙ sym (ap over_status why.job))
        of (stop.GrowTooLarge number) (inr why) e = inl (e ∙ sym (ap over_status why.job))
        of stop.NoMemory (inr why) e = inr e
        of stop.BadWords (inr why) e = absurd why
        of (stop.Refused fault) (inr why) e = absurd why
        of stop.ReadFailed (inr why) e = absurd why

    -- for a fault the bytes are refused, or memory runs out
    pub fault_is_told : (fault : Fault) → graph_of bytes ≡ Err fault → (result ≡ status.Refused) ⊎ (result ≡ status.OutOfMemory)
    fault_is_told fault wrong = of t.stop t.cause (calm t tells)
      where
        of : (s : Stop) → IsCause words left now m n s → result ≡ status_of s → (result ≡ status.Refused) ⊎ (result ≡ status.OutOfMemory)
        of stop.BadWords cause e = absurd (none_command words cause.0 has)
        of (stop.Refused fault) cause e = inl e
        of stop.ReadFailed cause e = absurd (reads cause.1)
        of stop.NoMemory cause e = inr e
        of (stop.BadVertex x k) cause e = absurd (accepted_twice words left bytes fault (stop.BadVertex x k) from wrong cause.3)
        of (stop.TooLarge cuts k) cause e = absurd (accepted_twice words left bytes fault (stop.TooLarge cuts k) from wrong cause.3)
        of (stop.TooManyUnions c k) cause e = absurd (accepted_twice words left bytes fault (stop.TooManyUnions c k) from wrong cause.3)
        of (stop.CountTooLarge c) cause e = absurd (accepted_twice words left bytes fault (stop.CountTooLarge c) from wrong cause.3)
        of (stop.BalanceTooLarge c total) cause e = absurd (accepted_twice words left bytes fault (stop.BalanceTooLarge c total) from wrong cause.3)
        of (stop.GrowTooLarge number) cause e = absurd (accepted_twice words left bytes fault (stop.GrowTooLarge number) from wrong cause.3)
