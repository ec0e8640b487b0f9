-- A reader that has refused nothing.
use Rattle.std.proofs.Common.{◌≡◌, ◌^◌, ◌≤◌, ℕ, List, length, Option, None, Some, arith}
use Rattle.metis_reader.specs.declared.fault.ReadRefusal.{ReadRefusal}
use Rattle.metis_reader.specs.declared.reader.Reader.{Reader}
use Rattle.metis_reader.specs.Fed.{StandsBy, StandsFor, IsOpen, IsStillFed, LawOfReader, answered, room_left}
use Rattle.metis_reader.proofs.FixedFaults.{none_within}

open_still : (reader : Reader) (bytes : List ℕ) → IsOpen reader bytes → IsStillFed reader bytes
unfolding room_left
open_still reader bytes h = let few : length bytes ≤ 2 ^ 33 = omega (arith, h.left) in
    record { none = none_within bytes few h.none; room = h.left }

pub still_fed : LawOfReader
unfolding StandsFor answered
still_fed reader bytes stands none = by reader.refusal none stands
  where
    by : (o : Option ReadRefusal) → o ≡ None → StandsBy o reader bytes → IsStillFed reader bytes
    by None e h = open_still reader bytes h
    by (Some r) e h = absurd (cc e)
