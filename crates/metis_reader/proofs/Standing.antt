-- What a reader stands for, before and after a refusal.
use Rattle.std.proofs.Common.{◌≡◌, ℕ, List, ◌++◌, Option, None, Some, sym, subst}
use Rattle.metis_reader.specs.declared.fault.Fault as told
use Rattle.metis_reader.specs.declared.fault.ReadRefusal.{ReadRefusal}
use Rattle.metis_reader.specs.declared.fault.ReadRefusal.TheVariants.{NoMemory, Fault}
use Rattle.metis_reader.specs.declared.reader.Reader.{Reader}
use Rattle.metis_reader.specs.File.{fixed}
use Rattle.metis_reader.specs.Fed.{StandsBy, StandsFor, IsOpen, answered, HeaderEndsIn, FedRefusal}
use Rattle.metis_reader.proofs.FixedFaults.{fixed_stays}
use Rattle.metis_reader.proofs.Feeding.{has_header_append}

pub open_from : (reader : Reader) (bytes : List ℕ) → reader.refusal ≡ None → StandsFor reader bytes → IsOpen reader bytes
unfolding StandsFor
open_from reader bytes e h = subst (λ o. StandsBy o reader bytes) e h

pub stands_open : (reader : Reader) (bytes : List ℕ) → reader.refusal ≡ None → IsOpen reader bytes → StandsFor reader bytes
unfolding StandsFor
stands_open reader bytes e h = subst (λ o. StandsBy o reader bytes) (sym e) h

pub refused_from : (reader : Reader) (bytes : List ℕ) (refusal : ReadRefusal) → reader.refusal ≡ Some refusal → StandsFor reader bytes → StandsBy (Some refusal) reader bytes
unfolding StandsFor
refused_from reader bytes refusal e h = subst (λ o. StandsBy o reader bytes) e h

pub stands_refused : (reader : Reader) (bytes : List ℕ) (refusal : ReadRefusal) → reader.refusal ≡ Some refusal → StandsBy (Some refusal) reader bytes → StandsFor reader bytes
unfolding StandsFor
stands_refused reader bytes refusal e h = subst (λ o. StandsBy o reader bytes) (sym e) h

pub refused_more : (reader : Reader) (bytes more : List ℕ) (refusal : ReadRefusal) → StandsBy (Some refusal) reader bytes → StandsBy (Some refusal) reader (bytes ++ more)
refused_more reader bytes more NoMemory h = has_header_append bytes more h
refused_more reader bytes more (Fault f) h = fixed_stays bytes more f h

pub refused_by : (reader : Reader) (bytes piece : List ℕ) (refusal : ReadRefusal) → FedRefusal refusal bytes piece → StandsBy (Some refusal) reader (bytes ++ piece)
refused_by reader bytes piece NoMemory h = h.0
refused_by reader bytes piece (Fault f) h = h

-- what a refusal that is a fault, or for want of memory, says
pub fault_from : (reader : Reader) (bytes : List ℕ) (refusal : ReadRefusal) (f : told.Fault) → StandsBy (Some refusal) reader bytes → refusal ≡ Fault f → fixed bytes ≡ Some f
fault_from reader bytes refusal f h e = subst (λ refusal. StandsBy (Some refusal) reader bytes) e h

pub memory_from : (bytes piece : List ℕ) (refusal : ReadRefusal) → FedRefusal refusal bytes piece → refusal ≡ NoMemory → HeaderEndsIn bytes piece
memory_from bytes piece refusal h e = subst (λ refusal. FedRefusal refusal bytes piece) e h

pub answered_is : (reader : Reader) (o : Option ReadRefusal) → reader.refusal ≡ o → answered reader ≡ o
unfolding answered
answered_is reader o e = e

pub refusal_from : (reader : Reader) (o : Option ReadRefusal) → answered reader ≡ o → reader.refusal ≡ o
unfolding answered
refusal_from reader o e = e

pub none_some : (refusal : ReadRefusal) → None ≡ Some refusal → ⊥
none_some refusal e = cc
