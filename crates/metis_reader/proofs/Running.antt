-- A reading of bytes, one after another.
use Rattle.std.proofs.Common.{◌≡◌, ◌≤◌, ℕ, suc, ◌+◌, Bool, true, false, List, [], ◌∷◌, ◌++◌, length, refl, ap, sym, ◌∙◌, subst, arith, append_assoc}
use Rattle.std.specs.Prelude.{◌==◌}
use Rattle.metis_reader.specs.declared.fault.ReadRefusal.{ReadRefusal}
use Rattle.metis_reader.specs.declared.fault.ReadRefusal.TheVariants.{NoMemory, Fault}
use Rattle.metis_reader.specs.Text.{is_line_feed, is_blank}
use Rattle.metis_reader.specs.Profile.{Finding}
use Rattle.metis_reader.specs.Reading.{Reading, after_byte, after_byte_by, byte_findings, reading_from, bytes_findings}
use Rattle.metis_reader.specs.Holding.{RefusedFirst, ByteEndsHeader, BytesEndHeader}

pub reading_push : (r : Reading) (xs : List ℕ) (b : ℕ) → reading_from r (xs ++ b ∷ []) ≡ after_byte (reading_from r xs) b
reading_push r [] b = refl
reading_push r (x ∷ xs) b = reading_push (after_byte r x) xs b

pub reading_append : (r : Reading) (xs ys : List ℕ) → reading_from r (xs ++ ys) ≡ reading_from (reading_from r xs) ys
reading_append r [] ys = refl
reading_append r (x ∷ xs) ys = reading_append (after_byte r x) xs ys

pub findings_append : (r : Reading) (xs ys : List ℕ) → bytes_findings r (xs ++ ys) ≡ bytes_findings r xs ++ bytes_findings (reading_from r xs) ys
findings_append r [] ys = refl
findings_append r (x ∷ xs) ys =
    ap (λ found. byte_findings r x ++ found) (findings_append (after_byte r x) xs ys)
    ∙ sym (append_assoc (byte_findings r x) (bytes_findings (after_byte r x) xs) (bytes_findings (reading_from (after_byte r x) xs) ys))

ended_by : (feed blank percent : Bool) (r : Reading) (b : ℕ) → (after_byte_by feed blank percent r b).ended ≤ suc r.ended
ended_by true blank percent r b = omega arith
ended_by false true percent r b = omega arith
ended_by false false percent r b = omega arith

pub ended_bound : (r : Reading) (xs : List ℕ) → (reading_from r xs).ended ≤ r.ended + length xs
ended_bound r [] = omega arith
ended_bound r (x ∷ xs) =
    let here : (after_byte r x).ended ≤ suc r.ended = ended_by (is_line_feed x) (is_blank x) (x == 37) r x in
    let more : (reading_from (after_byte r x) xs).ended ≤ (after_byte r x).ended + length xs = ended_bound (after_byte r x) xs in
    omega arith

pub findings_push : (r : Reading) (xs : List ℕ) (b : ℕ) → bytes_findings r xs ≡ [] → byte_findings (reading_from r xs) b ≡ [] → bytes_findings r (xs ++ b ∷ []) ≡ []
findings_push r xs b e f =
    findings_append r xs (b ∷ [])
    ∙ ap (λ found. found ++ (byte_findings (reading_from r xs) b ++ [])) e
    ∙ ap (λ found. found ++ []) f

more_faults : (refusal : ReadRefusal) (first others : List Finding) (P Q : Type 0) → (P → Q) → RefusedFirst refusal first P → RefusedFirst refusal (first ++ others) Q
more_faults NoMemory first others P Q f h = f h
more_faults (Fault g) first others P Q f h = (h.0, h.1 ++ others, ap (λ found. found ++ others) h.2, h.3)

header_ends : (r : Reading) (xs : List ℕ) (b : ℕ) (ys all : List ℕ) → all ≡ xs ++ b ∷ ys → ByteEndsHeader (reading_from r xs) b → BytesEndHeader r all
header_ends r xs b ys all same h =
    let feed : b ≡ 10 = h.0 in
    record {
      before = xs;
      behind = ys;
      parts = same ∙ ap (λ b. xs ++ b ∷ ys) feed;
      ends = (refl, h.1, h.2);
    }

pub refused_at : (refusal : ReadRefusal) (r : Reading) (xs : List ℕ) (b : ℕ) (ys all : List ℕ) → bytes_findings r xs ≡ [] → all ≡ xs ++ b ∷ ys
    → RefusedFirst refusal (byte_findings (reading_from r xs) b) (ByteEndsHeader (reading_from r xs) b) → RefusedFirst refusal (bytes_findings r all) (BytesEndHeader r all)
refused_at refusal r xs b ys all e same h =
    subst (λ found. RefusedFirst refusal found (BytesEndHeader r all)) (sym (ap (λ all. bytes_findings r all) same ∙ findings_append r xs (b ∷ ys)
    ∙ ap (λ found. found ++ (byte_findings (reading_from r xs) b ++ bytes_findings (after_byte (reading_from r xs) b) ys)) e))
    (more_faults refusal (byte_findings (reading_from r xs) b) (bytes_findings (after_byte (reading_from r xs) b) ys) _ _ (header_ends r xs b ys all same) h)
