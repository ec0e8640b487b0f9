-- What was read and what is left, piece by piece, and why there may be no graph.
use Rattle.std.proofs.Common.{◌≡◌, ℕ, ◌+◌, ◌<◌, ◌≤◌, List, [], ◌++◌, length, take, arith, length-append, length-take-le, inl, inr, Result, Ok, Err, Option, None, Some, refl, sym, ◌∙◌, ap, subst, append_assoc}
use Rattle.std.specs.Prelude.{IfSome, IfErr}
use Rattle.std.specs.Result.{IsErrAnd}
use Rattle.std.specs.Io.KnownBytes.{Consumes, IsAtEnd, Keeps}
use Rattle.std.proofs.lemmas.List.{append-nil}
use Rattle.metis_reader.specs.declared.fault.Fault.{Fault as TheFault}
use Rattle.metis_reader.specs.declared.fault.ReadRefusal.{ReadRefusal}
use Rattle.metis_reader.specs.declared.fault.ReadRefusal.TheVariants.{Fault, NoMemory}
use Rattle.metis_reader.specs.File.{graph_of, fixed}
use Rattle.metis_reader.specs.Fed.{HeaderEndsIn}
use Rattle.outside.specs.Faults.{Rose}
use Rattle.stop_lines.specs.declared.stop.Stop.{Stop}
use Rattle.stop_lines.specs.declared.stop.Stop.TheVariants.{ReadFailed}
use Rattle.stop_lines.specs.Stops.{stop_of}
use Rattle.program_words.specs.Words.{ReadsGraph}
use Rattle.job_replies.specs.Intake.{IsRead, IsOneRead, IsCause}

pub read_none : (left : Option (List ℕ)) → IsRead left left []
read_none None = tt
read_none (Some all) = (all, refl, refl)

pub read_more : (before now next : Option (List ℕ)) (bytes piece : List ℕ) → IsRead before now bytes → Consumes now next piece → IsRead before next (bytes ++ piece)
read_more None now next bytes piece r c = tt
read_more (Some all) None next bytes piece r c = cc (r.1)
read_more (Some all) (Some left) None bytes piece r c = absurd c
read_more (Some all) (Some left) (Some rest) bytes piece r c = (
  rest,
  refl,
  r.2 ∙ (let same : left ≡ r.0 = cc (r.1) in ap (λ xs. bytes ++ xs) (sym same ∙ c) ∙ sym (append_assoc bytes piece rest)),
)

-- if nothing is left, all was read
pub read_all : (before now : Option (List ℕ)) (bytes : List ℕ) → IsRead before now bytes → IsAtEnd now → IfSome before (λ all. all ≡ bytes)
read_all None now bytes r e = tt
read_all (Some all) None bytes r e = cc (r.1)
read_all (Some all) (Some left) bytes r e =
    let same : left ≡ r.0 = cc (r.1) in
    r.2 ∙ (ap (λ xs. bytes ++ xs) (sym same ∙ e) ∙ append-nil bytes)

-- the last read gave nothing
pub read_nothing : (before now next : Option (List ℕ)) (bytes room : List ℕ) (n : ℕ) → IsRead before now bytes → n ≡ 0 → Consumes now next (take n room) →
    IsRead before next bytes
read_nothing before now next bytes room n r none c =
    let consumed : Consumes now next [] = subst (λ (k : ℕ). Consumes now next (take k room)) none c in
    subst (IsRead before next) (append-nil bytes) (read_more before now next bytes [] r consumed)

-- a failed read took nothing
pub read_kept : (before now next : Option (List ℕ)) (bytes : List ℕ) → IsRead before now bytes → Keeps now next → IsRead before next bytes
read_kept None now next bytes r k = tt
read_kept (Some all) None next bytes r k = cc (r.1)
read_kept (Some all) (Some left) None bytes r k = absurd k
read_kept (Some all) (Some left) (Some rest) bytes r k =
    let same : left ≡ r.0 = cc (r.1) in (rest, refl, r.2 ∙ ap (λ xs. bytes ++ xs) (sym same ∙ sym k))

-- the cause if a read failed
pub read_cause : (words : List (List ℕ)) → ReadsGraph words → (before now next : Option (List ℕ)) (m n k : ℕ) → n ≡ m → Rose n k → (bytes : List ℕ) →
    IsRead before now bytes → Keeps now next → fixed bytes ≡ None → IsCause words before next m k ReadFailed
read_cause words command before now next m n k same rose bytes read kept none =
    (command, subst (λ (x : ℕ). Rose x k) same rose, record { bytes = bytes; read = read_kept before now next bytes read kept; none = none })

-- the cause of a refusal once all was read
pub finish_cause : (words : List (List ℕ)) → ReadsGraph words → (before now : Option (List ℕ)) (m n : ℕ) → n ≡ m → (bytes : List ℕ) → IsRead before now bytes → IsAtEnd now →
    (refusal : ReadRefusal) → ((f : TheFault) → refusal ≡ Fault f → graph_of bytes ≡ Err f) → IsCause words before now m n (stop_of refusal)
finish_cause words command before now m n same bytes read end (Fault f) why = (command, same, record { bytes = bytes; read = read; why = inr (end, why f refl) })
finish_cause words command before now m n same bytes read end NoMemory why = (same, inr (inr end))

-- the cause of a refusal of a piece
pub feed_cause : (words : List (List ℕ)) → ReadsGraph words → (before now : Option (List ℕ)) (m n : ℕ) → n ≡ m → (bytes piece : List ℕ) → IsOneRead piece → fixed bytes ≡ None → IsRead before now (bytes ++ piece) →
    (refusal : ReadRefusal) → ((f : TheFault) → refusal ≡ Fault f → fixed (bytes ++ piece) ≡ Some f) → (refusal ≡ NoMemory → HeaderEndsIn bytes piece) →
    IsCause words before now m n (stop_of refusal)
feed_cause words command before now m n same bytes piece one none read (Fault f) why header = (
  command,
  same,
  record {
    bytes = bytes ++ piece;
    read = read;
    why = inl (record { earlier = bytes; piece = piece; one = one; parts = refl; none = none; fault_fixed = why f refl });
  },
)
feed_cause words command before now m n same bytes piece one none read NoMemory why header =
    (same, inr (inl (record { bytes = bytes; piece = piece; one = one; read = read; header = header refl })))

-- what one read gave is no longer than the room
pub one_read : (room : List ℕ) (n : ℕ) → n ≤ length room → length room ≡ 65536 → IsOneRead (take n room)
one_read room n fits size =
    let all = length-take-le n room fits in
    omega arith

-- a reader takes fewer bytes after each piece
pub fewer : (before now total : ℕ) (bytes room : List ℕ) (n : ℕ) → before + length bytes ≡ total → now + length (bytes ++ take n room) ≡ total → 0 < n → n ≤ length room →
    now < before
fewer before now total bytes room n b e some fits =
    let long = length-append bytes (take n room) in
    let all = length-take-le n room fits in
    omega arith

-- what holds of the stop of a refusal holds of a result that passes the refusal on
pub handed_on : {T : Type 0} (P : Stop → Type 0) (answer : Result T Stop) (refusal : ReadRefusal) →
    IsErrAnd answer (λ stop. stop ≡ stop_of refusal) → P (stop_of refusal) → IfErr answer P
handed_on P (Ok x) refusal h holds = tt
handed_on P (Err stop) refusal h holds = subst P (sym h) holds
