-- What feeding a piece within the limit, or beyond it, shows of all bytes fed.
use Rattle.std.proofs.Common.{◌≡◌, ◌<◌, ◌≤◌, ◌^◌, ◌-◌, ℕ, suc, ◌+◌, List, [], ◌∷◌, ◌++◌, length, take, drop, Some, ap, sym, ◌∙◌, subst, arith, append_assoc, length-append}
use Rattle.std.specs.List.{filter}
use Rattle.std.proofs.lemmas.List.{take_all, take-append-drop}
use Rattle.std.proofs.Math.Seq.{take-append-add}
use Rattle.metis_reader.specs.declared.fault.Fault as told
use Rattle.metis_reader.specs.declared.fault.FaultKind.TheVariants.{InputTooLong}
use Rattle.metis_reader.specs.declared.fault.ReadRefusal.{ReadRefusal}
use Rattle.metis_reader.specs.declared.fault.ReadRefusal.TheVariants.{NoMemory, Fault}
use Rattle.metis_reader.specs.Text.{is_line_feed}
use Rattle.metis_reader.specs.Profile.{Finding}
use Rattle.metis_reader.specs.Reading.{Reading, start, bytes_findings, reading_from}
use Rattle.metis_reader.specs.Holding.{RefusedFirst, BytesEndHeader}
use Rattle.metis_reader.specs.Fed.{FedRefusal, HasHeader, HeaderEndsIn}
use Rattle.metis_reader.proofs.Running.{findings_append, reading_append, ended_bound}
use Rattle.metis_reader.proofs.Places.{reading_ended}
use Rattle.metis_reader.proofs.FixedFaults.{fixed_within, fixed_behind, too_long_at}
use Rattle.metis_reader.proofs.HeaderEnds.{header_ends_in}

-- no more lines are ended than bytes are fed
pub few_lines : (bytes : List ℕ) (n left : ℕ) → left + length bytes ≡ 2 ^ 33 → n ≤ left → suc (reading_from start bytes).ended + n < 2 ^ 64 - 1
few_lines bytes n left e h =
    let bound : (reading_from start bytes).ended ≤ 0 + length bytes = ended_bound start bytes in
    omega arith

pub more_findings : (bytes piece : List ℕ) → bytes_findings start bytes ≡ [] → bytes_findings (reading_from start bytes) piece ≡ [] → bytes_findings start (bytes ++ piece) ≡ []
more_findings bytes piece none more = findings_append start bytes piece ∙ ap (λ fs. fs ++ bytes_findings (reading_from start bytes) piece) none ∙ more

found_more : (bytes piece : List ℕ) (f : Finding) (others : List Finding) → bytes_findings start bytes ≡ [] → bytes_findings (reading_from start bytes) piece ≡ f ∷ others
    → bytes_findings start (bytes ++ piece) ≡ f ∷ others
found_more bytes piece f others none more = findings_append start bytes piece ∙ ap (λ fs. fs ++ bytes_findings (reading_from start bytes) piece) none ∙ more

-- the bytes within the limit
front_of : (bytes piece : List ℕ) (left : ℕ) → left + length bytes ≡ 2 ^ 33 → take (2 ^ 33) (bytes ++ piece) ≡ bytes ++ take left piece
front_of bytes piece left e =
    let whole : length bytes + left ≡ 2 ^ 33 = omega arith in
    subst (λ n. take n (bytes ++ piece) ≡ bytes ++ take left piece) whole (take-append-add bytes piece left)

pub has_header_append : (bytes more : List ℕ) → HasHeader bytes → HasHeader (bytes ++ more)
has_header_append bytes more h = record {
  before = h.before;
  behind = h.behind ++ more;
  parts = ap (λ bs. bs ++ more) h.parts ∙ append_assoc h.before (10 ∷ h.behind) more;
  header = h.header;
}

header_ends_more : (bytes front rest : List ℕ) → HeaderEndsIn bytes front → HeaderEndsIn bytes (front ++ rest)
header_ends_more bytes front rest h = (subst HasHeader (append_assoc bytes front rest) (has_header_append (bytes ++ front) rest h.0), h.1)

-- a refusal in the part of the piece that is within the limit
pub refused_within : (refusal : ReadRefusal) (bytes piece : List ℕ) (left : ℕ) → left + length bytes ≡ 2 ^ 33 → bytes_findings start bytes ≡ []
    → RefusedFirst refusal (bytes_findings (reading_from start bytes) (take left piece)) (BytesEndHeader (reading_from start bytes) (take left piece))
    → FedRefusal refusal bytes piece
refused_within NoMemory bytes piece left e none h =
    subst (λ p. HeaderEndsIn bytes p) (take-append-drop left piece) (header_ends_more bytes (take left piece) (drop left piece) (header_ends_in bytes (take left piece) h))
refused_within (Fault f) bytes piece left e none h =
    fixed_within (bytes ++ piece) h.0 h.1
    (ap (λ bs. bytes_findings start bs) (front_of bytes piece left e) ∙ found_more bytes (take left piece) h.0 h.1 none h.2)
    ∙ ap (λ f. Some f) h.3

pub refused_whole : (refusal : ReadRefusal) (bytes piece : List ℕ) (left : ℕ) → left + length bytes ≡ 2 ^ 33 → length piece ≤ left → bytes_findings start bytes ≡ []
    → RefusedFirst refusal (bytes_findings (reading_from start bytes) piece) (BytesEndHeader (reading_from start bytes) piece)
    → FedRefusal refusal bytes piece
refused_whole refusal bytes piece left e short none h =
    refused_within refusal bytes piece left e none
    (subst (λ p. RefusedFirst refusal (bytes_findings (reading_from start bytes) p) (BytesEndHeader (reading_from start bytes) p)) (sym (take_all left piece short)) h)

-- a byte beyond the limit
pub refused_beyond : (refusal : ReadRefusal) (bytes piece : List ℕ) (left line : ℕ) → left + length bytes ≡ 2 ^ 33 → left < length piece → bytes_findings start bytes ≡ []
    → bytes_findings (reading_from start bytes) (take left piece) ≡ [] → line ≡ suc (reading_from (reading_from start bytes) (take left piece)).ended
    → refusal ≡ Fault (record { kind = InputTooLong; line = line }) → FedRefusal refusal bytes piece
refused_beyond refusal bytes piece left line e long none more same is =
    let front : take (2 ^ 33) (bytes ++ piece) ≡ bytes ++ take left piece = front_of bytes piece left e in
    let beyond : 2 ^ 33 < length (bytes ++ piece) = omega (arith, length-append bytes piece) in
    let found : bytes_findings start (take (2 ^ 33) (bytes ++ piece)) ≡ [] = ap (λ bs. bytes_findings start bs) front ∙ more_findings bytes (take left piece) none more in
    let ended : (reading_from start (bytes ++ take left piece)).ended ≡ 0 + length (filter is_line_feed (bytes ++ take left piece)) = reading_ended start (bytes ++ take left piece) in
    let count : line ≡ suc (length (filter is_line_feed (bytes ++ take left piece))) =
    same ∙ ap (λ (r : Reading). suc r.ended) (sym (reading_append start bytes (take left piece))) ∙ (let e : suc (reading_from start (bytes ++ take left piece)).ended ≡ suc (length (filter is_line_feed (bytes ++ take left piece))) = omega arith in e) in
    subst (λ refusal. FedRefusal refusal bytes piece) (sym is)
    (fixed_behind (bytes ++ piece) beyond found
    ∙ ap (λ bs. Some (too_long_at bs)) front
    ∙ ap (λ (n : ℕ). Some (fault_at n)) (sym count))
  where
    fault_at : ℕ → told.Fault
    fault_at n = record { kind = InputTooLong; line = n }
