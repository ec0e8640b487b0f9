-- What a run promises, by what it found and how that was written or reported.
use Rattle.std.proofs.Common.{◌≡◌, ℕ, ◌⊎◌, ◌≤◌, List, Option, Some, None, Result, Ok, Err, ⊎_elim, inl, inr, refl, sym, ◌∙◌, subst, ap}
use Rattle.std.specs.Prelude.{◌≢◌, IfOk, IfErr, IsErrOf}
use Rattle.std.specs.Io.KnownBytes.{IsAtEnd}
use Rattle.outside.specs.Faults.{Rose}
use Rattle.cut_definitions.specs.Graph.{Graph}
use Rattle.metis_reader.specs.declared.fault.Fault.{Fault}
use Rattle.metis_reader.specs.File.{graph_of, masses_of}
use Rattle.program_words.specs.declared.command.Command.{Command}
use Rattle.program_words.specs.declared.command.Job.TheVariants.{Trial}
use Rattle.program_words.specs.Words.{AsksNothing, ReadsGraph, command_of}
use Rattle.stop_lines.specs.declared.status.Status.{Status}
use Rattle.stop_lines.specs.declared.status.Status.TheVariants as status
use Rattle.stop_lines.specs.declared.stop.Stop.{Stop}
use Rattle.stop_lines.specs.declared.stop.Stop.TheVariants as stop
use Rattle.stop_lines.specs.Stops.{status_of}
use Rattle.job_replies.specs.Answers.{over_status, ReplyFailed, TakesReply, Told, TellingFailed}
use Rattle.job_replies.specs.Intake.{IsCause, IsReply}
use Rattle.job_replies.specs.Jobs.{IsInRange, IsWithin}
use Rattle.job_replies.proofs.Replied.{Telling, answered, fault_is_told, graph_told, has_command, no_reply, outside_told, over_limit_told, reading_of_large, reading_of_outside, telling_failed, told, too_large_reply, trial_told}
use Rattle.job_replies.specs.declared.reply.Reply.{Reply}
use Rattle.job_replies.specs.Endings.{IsBroken, IsReplied, IsStopOf, IsStopped}
use Rattle.job_replies.specs.Replies.{text_of, TakesMemory}

-- all that a run promises, except that the source stays if nothing is read
pub record RunEnds {K E : Type 0} (k_taken : K → Option (List ℕ)) (k_faults : K → ℕ) (e_taken : E → Option (List ℕ)) (e_faults : E → ℕ)
    (words : List (List ℕ)) (left now : Option (List ℕ)) (m n : ℕ) (out out_after : K) (err err_after : E) (result : Status) : Type 0 where
  pub told : result ≢ status.Ok → result ≢ status.WriteFault → Told words left now m n (e_taken err) (e_taken err_after) result
  pub asks_nothing : AsksNothing words → (result ≡ status.BadWords) ⊎ (result ≡ status.OutOfMemory) ⊎ ((result ≡ status.WriteFault) × Rose (e_faults err) (e_faults err_after))
  pub write_fault : result ≡ status.WriteFault →
      (ReplyFailed words left (k_taken out) (k_taken out_after) (k_faults out) (k_faults out_after) × (err_after ≡ err))
      ⊎ (TellingFailed words left now m n (e_taken err) (e_taken err_after) (e_faults err) (e_faults err_after) × (out_after ≡ out))
  pub source_changed : n ≢ m → (result ≡ status.ReadFault) ⊎ ((result ≡ status.WriteFault) × Rose (e_faults err) (e_faults err_after))
  pub out_changed : k_faults out_after ≢ k_faults out → result ≡ status.WriteFault
  pub err_changed : e_faults err_after ≢ e_faults err → result ≡ status.WriteFault
  pub ok_end : result ≡ status.Ok → ReadsGraph words → IsAtEnd now
  pub ok_source : result ≡ status.Ok → n ≡ m
  pub ok_out : result ≡ status.Ok → k_faults out_after ≡ k_faults out
  pub ok_text : result ≡ status.Ok → TakesReply words left (k_taken out) (k_taken out_after)
  pub ok_err : result ≡ status.Ok → err_after ≡ err
  pub out_kept : result ≢ status.Ok → result ≢ status.WriteFault → out_after ≡ out
  pub accepted : (bytes : List ℕ) (graph : Graph) (command : Command) → command_of words ≡ Some command → left ≡ Some bytes → graph_of bytes ≡ Ok graph
      → IsInRange command.job graph.vertices → (2 ≤ graph.vertices → IsWithin command (masses_of bytes) graph) → ¬ Rose m n
      → ¬ Rose (k_faults out) (k_faults out_after) → ¬ Rose (e_faults err) (e_faults err_after)
      → (result ≡ status.Ok) ⊎ (result ≡ status.OutOfMemory)
  pub outside : (bytes : List ℕ) (graph : Graph) (command : Command) → command_of words ≡ Some command → left ≡ Some bytes → graph_of bytes ≡ Ok graph
      → ¬ IsInRange command.job graph.vertices → ¬ Rose m n
      → ¬ Rose (k_faults out) (k_faults out_after) → ¬ Rose (e_faults err) (e_faults err_after)
      → (result ≡ status.BadVertex) ⊎ (result ≡ status.OutOfMemory)
  pub over_limit : (bytes : List ℕ) (graph : Graph) (command : Command) → command_of words ≡ Some command → left ≡ Some bytes → graph_of bytes ≡ Ok graph
      → IsInRange command.job graph.vertices → 2 ≤ graph.vertices → ¬ IsWithin command (masses_of bytes) graph → ¬ Rose m n
      → ¬ Rose (k_faults out) (k_faults out_after) → ¬ Rose (e_faults err) (e_faults err_after)
      → (result ≡ over_status command.job) ⊎ (result ≡ status.OutOfMemory)
  pub faulty : (bytes : List ℕ) (fault : Fault) → ReadsGraph words → left ≡ Some bytes → graph_of bytes ≡ Err fault → ¬ Rose m n
      → ¬ Rose (k_faults out) (k_faults out_after) → ¬ Rose (e_faults err) (e_faults err_after)
      → (result ≡ status.Refused) ⊎ (result ≡ status.OutOfMemory)
  pub made : (command : Command) (number : ℕ) → command_of words ≡ Some command → command.job ≡ Trial number
      → ¬ Rose (k_faults out) (k_faults out_after) → ¬ Rose (e_faults err) (e_faults err_after)
      → (result ≡ status.Ok) ⊎ (result ≡ status.OutOfMemory)

-- ---- causes

-- what is reported has its cause
cause_of : (words : List (List ℕ)) (left now : Option (List ℕ)) (m n : ℕ) (found : Result Reply Stop) → IfOk found (λ reply. TakesMemory reply → IsAtEnd now) → IfOk found (λ reply. n ≡ m) →
    IfErr found (IsCause words left now m n) → (s : Stop) → IsStopOf found s → IsCause words left now m n s
cause_of words left now m n (Ok reply) ready same cause s of =
    subst (λ (t : Stop). IsCause words left now m n t) (sym of.0) (same, inr (inr (ready of.1)))
cause_of words left now m n (Err e) ready same cause s of = subst (λ (t : Stop). IsCause words left now m n t) (sym of) cause

-- a count of the source that rose is reported as a failed read
changed_is : (words : List (List ℕ)) (left now : Option (List ℕ)) (m n : ℕ) → (AsksNothing words → n ≡ m) → (s : Stop) → IsCause words left now m n s → n ≢ m → status_of s ≡ status.ReadFault
changed_is words left now m n quiet stop.BadWords cause changed = absurd (changed (quiet cause))
changed_is words left now m n quiet (stop.Refused fault) cause changed = absurd (changed cause.1)
changed_is words left now m n quiet stop.ReadFailed cause changed = refl
changed_is words left now m n quiet stop.NoMemory cause changed = absurd (changed cause.0)
changed_is words left now m n quiet (stop.BadVertex x k) cause changed = absurd (changed cause.1)
changed_is words left now m n quiet (stop.TooLarge cuts k) cause changed = absurd (changed cause.1)
changed_is words left now m n quiet (stop.TooManyUnions c k) cause changed = absurd (changed cause.1)
changed_is words left now m n quiet (stop.CountTooLarge c) cause changed = absurd (changed cause.1)
changed_is words left now m n quiet (stop.BalanceTooLarge c total) cause changed = absurd (changed cause.1)
changed_is words left now m n quiet (stop.GrowTooLarge number) cause changed = absurd (changed cause.1)

-- no stop ends well
no_ok : (s : Stop) → status_of s ≡ status.Ok → ⊥
no_ok stop.BadWords e = cc
no_ok (stop.Refused fault) e = cc
no_ok stop.ReadFailed e = cc
no_ok stop.NoMemory e = cc
no_ok (stop.BadVertex x k) e = cc
no_ok (stop.TooLarge cuts k) e = cc
no_ok (stop.TooManyUnions c k) e = cc
no_ok (stop.CountTooLarge c) e = cc
no_ok (stop.BalanceTooLarge c total) e = cc
no_ok (stop.GrowTooLarge number) e = cc

-- a run does not end well and with a fault of writing
no_both : (r : Status) → r ≡ status.Ok → r ≡ status.WriteFault → ⊥
no_both r ok fault = cc (ok, fault)

no_twice : (found : Result Reply Stop) (reply : Reply) (s : Stop) → found ≡ Ok reply → found ≡ Err s → ⊥
no_twice found reply s p q = cc (p, q)

no_command : (words : List (List ℕ)) → AsksNothing words → ReadsGraph words → ⊥
no_command words asks reads = none asks.0 reads.commanded
  where
    none : command_of words ≡ None → command_of words ≡ Some reads.command → ⊥
    none e f = cc (e, f)

-- ---- the ways to end

module _ {K E : Type 0} (k_taken : K → Option (List ℕ)) (k_faults : K → ℕ) (e_taken : E → Option (List ℕ)) (e_faults : E → ℕ)
    (words : List (List ℕ)) (left now : Option (List ℕ)) (m n : ℕ) (out out_after : K) (err err_after : E) (found : Result Reply Stop) (result : Status)
    (text : IfOk found (λ reply. IsReply words left (text_of reply)))
    (ended : IfOk found (λ reply. ReadsGraph words → IsAtEnd now))
    (ready : IfOk found (λ reply. TakesMemory reply → IsAtEnd now))
    (same : IfOk found (λ reply. n ≡ m))
    (cause : IfErr found (IsCause words left now m n))
    (nothing : AsksNothing words → IsErrOf found stop.BadWords ⊎ IsErrOf found stop.NoMemory)
    (quiet : (ReadsGraph words → ⊥) → n ≡ m) where
  -- what is said of a reply holds of the one that was found
  of_found : (reply : Reply) → found ≡ Ok reply → (P : Reply → Type 0) → IfOk found P → P reply
  of_found reply is P h = subst (λ (f : Result Reply Stop). IfOk f P) is h

  not_asked : (reply : Reply) → found ≡ Ok reply → AsksNothing words → ⊥
  not_asked reply is asks = ⊎_elim (no_twice found reply stop.BadWords is) (no_twice found reply stop.NoMemory is) (nothing asks)

  replied_end : IsReplied found (k_taken out) (k_taken out_after) (k_faults out) (k_faults out_after) err err_after result →
      RunEnds k_taken k_faults e_taken e_faults words left now m n out out_after err err_after result
  replied_end r =
      let t : IsReply words left (text_of r.reply) = of_found r.reply r.found_is (λ reply. IsReply words left (text_of reply)) text in
      let count : n ≡ m = of_found r.reply r.found_is (λ reply. n ≡ m) same in
      record {
        told = λ not_ok fine. absurd (not_ok r.status);
        asks_nothing = λ asks. absurd (not_asked r.reply r.found_is asks);
        write_fault = λ e. absurd (no_both result r.status e);
        source_changed = λ changed. absurd (changed count);
        out_changed = λ changed. absurd (changed r.wrote.same_count);
        err_changed = λ changed. absurd (changed (ap e_faults r.nothing_told));
        ok_end = λ e. of_found r.reply r.found_is (λ reply. ReadsGraph words → IsAtEnd now) ended;
        ok_source = λ e. count;
        ok_out = λ e. r.wrote.same_count;
        ok_text = λ e. record { text = text_of r.reply; reply = t; text_taken = r.wrote.text_taken };
        ok_err = λ e. r.nothing_told;
        out_kept = λ not_ok fine. absurd (not_ok r.status);
        accepted = λ bytes graph command is from accepted inside within reads writes tells. inl r.status;
        outside = λ bytes graph command is from accepted outside reads writes tells.
            absurd (outside (answered words command left bytes (text_of r.reply) graph is (reading_of_outside command.job graph.vertices outside) from accepted t).in_range);
        over_limit = λ bytes graph command is from accepted inside two large reads writes tells.
            absurd (too_large_reply command (masses_of bytes) graph (text_of r.reply) (answered words command left bytes (text_of r.reply) graph is (reading_of_large command (masses_of bytes) graph large) from accepted t) two large);
        faulty = λ bytes fault reading from wrong reads writes tells. absurd (no_reply words left bytes (text_of r.reply) fault reading from wrong t);
        made = λ command number is trial writes tells. inl r.status;
      }

  broken_end : IsBroken found (k_taken out) (k_taken out_after) (k_faults out) (k_faults out_after) err err_after result →
      RunEnds k_taken k_faults e_taken e_faults words left now m n out out_after err err_after result
  broken_end b =
      let t : IsReply words left (text_of b.reply) = of_found b.reply b.found_is (λ reply. IsReply words left (text_of reply)) text in
      let count : n ≡ m = of_found b.reply b.found_is (λ reply. n ≡ m) same in
      let not_ok : result ≡ status.Ok → ⊥ = λ e. no_both result e b.status in
      record {
        told = λ bad fine. absurd (fine b.status);
        asks_nothing = λ asks. absurd (not_asked b.reply b.found_is asks);
        write_fault = λ e. inl (record { rose = b.failed.rose; text = text_of b.reply; reply = t; part_taken = b.failed.part_taken }, b.nothing_told);
        source_changed = λ changed. absurd (changed count);
        out_changed = λ changed. b.status;
        err_changed = λ changed. b.status;
        ok_end = λ e. absurd (not_ok e);
        ok_source = λ e. absurd (not_ok e);
        ok_out = λ e. absurd (not_ok e);
        ok_text = λ e. absurd (not_ok e);
        ok_err = λ e. absurd (not_ok e);
        out_kept = λ bad fine. absurd (fine b.status);
        accepted = λ bytes graph command is from accepted inside within reads writes tells. absurd (writes b.failed.rose);
        outside = λ bytes graph command is from accepted outside reads writes tells. absurd (writes b.failed.rose);
        over_limit = λ bytes graph command is from accepted inside two large reads writes tells. absurd (writes b.failed.rose);
        faulty = λ bytes fault reading from wrong reads writes tells. absurd (writes b.failed.rose);
        made = λ command number is trial writes tells. absurd (writes b.failed.rose);
      }

  stopped_end : IsStopped found (e_taken err) (e_taken err_after) (e_faults err) (e_faults err_after) out out_after result →
      RunEnds k_taken k_faults e_taken e_faults words left now m n out out_after err err_after result
  stopped_end s =
      let why : IsCause words left now m n s.stop = cause_of words left now m n found ready same cause s.stop s.stop_of in
      let t : Telling words left now m n (e_taken err) (e_taken err_after) (e_faults err) (e_faults err_after) result = record { stop = s.stop; cause = why; writes = s.writes } in
      let not_ok : result ≡ status.Ok → ⊥ = λ e. ⊎_elim (λ w. no_ok s.stop (sym w.0 ∙ e)) (λ w. no_both result e w.0) s.writes in
      let still : AsksNothing words → n ≡ m = λ asks. quiet (no_command words asks) in
      record {
        told = λ bad fine. told words left now m n (e_taken err) (e_taken err_after) (e_faults err) (e_faults err_after) result t fine;
        asks_nothing = λ asks. ⊎_elim
            (λ e. ⊎_elim (λ w. inl (w.0 ∙ ap status_of (subst (λ (f : Result Reply Stop). IsStopOf f s.stop) e s.stop_of))) (λ w. inr (inr (w.0, w.1.rose))) s.writes)
            (λ e. ⊎_elim (λ w. inr (inl (w.0 ∙ ap status_of (subst (λ (f : Result Reply Stop). IsStopOf f s.stop) e s.stop_of)))) (λ w. inr (inr (w.0, w.1.rose))) s.writes)
            (nothing asks);
        write_fault = λ e. inr (telling_failed words left now m n (e_taken err) (e_taken err_after) (e_faults err) (e_faults err_after) result t e, s.nothing_replied);
        source_changed = λ changed. ⊎_elim (λ w. inl (w.0 ∙ changed_is words left now m n still s.stop why changed)) (λ w. inr (w.0, w.1.rose)) s.writes;
        out_changed = λ changed. absurd (changed (ap k_faults s.nothing_replied));
        err_changed = λ changed. ⊎_elim (λ w. absurd (changed w.1.same_count)) (λ w. w.0) s.writes;
        ok_end = λ e. absurd (not_ok e);
        ok_source = λ e. absurd (not_ok e);
        ok_out = λ e. absurd (not_ok e);
        ok_text = λ e. absurd (not_ok e);
        ok_err = λ e. absurd (not_ok e);
        out_kept = λ bad fine. s.nothing_replied;
        accepted = λ bytes graph command is from accepted inside within reads writes tells.
            graph_told words left now m n (e_taken err) (e_taken err_after) (e_faults err) (e_faults err_after) result (has_command words command is) reads tells bytes from t command graph is accepted inside within;
        outside = λ bytes graph command is from accepted outside reads writes tells.
            outside_told words left now m n (e_taken err) (e_taken err_after) (e_faults err) (e_faults err_after) result (has_command words command is) reads tells bytes from t command graph is accepted outside;
        over_limit = λ bytes graph command is from accepted inside two large reads writes tells.
            over_limit_told words left now m n (e_taken err) (e_taken err_after) (e_faults err) (e_faults err_after) result (has_command words command is) reads tells bytes from t command graph is accepted inside;
        faulty = λ bytes fault reading from wrong reads writes tells.
            fault_is_told words left now m n (e_taken err) (e_taken err_after) (e_faults err) (e_faults err_after) result (has_command words reading.command reading.commanded) reads tells bytes from t fault wrong;
        made = λ command number is trial writes tells.
            trial_told words left now m n (e_taken err) (e_taken err_after) (e_faults err) (e_faults err_after) result command number is trial tells t;
      }

  pub run_ends : IsReplied found (k_taken out) (k_taken out_after) (k_faults out) (k_faults out_after) err err_after result
      ⊎ (IsBroken found (k_taken out) (k_taken out_after) (k_faults out) (k_faults out_after) err err_after result
      ⊎ IsStopped found (e_taken err) (e_taken err_after) (e_faults err) (e_faults err_after) out out_after result) →
      RunEnds k_taken k_faults e_taken e_faults words left now m n out out_after err err_after result
  run_ends ends = ⊎_elim replied_end (⊎_elim broken_end stopped_end) ends
