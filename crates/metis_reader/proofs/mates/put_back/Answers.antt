use Rattle.std.proofs.Common.{Vec, Global, ◌≡◌, ◌≤◌, ◌<◌, ◌+◌, ◌++◌, ◌∷◌, [], ◌∙◌, ap, sym, ℕ, List, length, take, get_or, arith, append_assoc, length-append}
use Rattle.std.proofs.lemmas.Grind.{common_steps}
use Rattle.std.proofs.lemmas.List.{append-nil, length-take-le}
use Rattle.std.specs.Prelude.{Bool, true, false, vec_capacity}
use Rattle.cut_definitions.specs.declared.edge_list.Edge.{Edge}
use Rattle.metis_reader.specs.Meeting.{met_from, is_met_at}
use Rattle.metis_reader.proofs.Meeting.{met_take_more, met_length, kept}
use Rattle.metis_reader.proofs.mates.put_back.Goals as goal
use Rattle.metis_reader.proofs.mates.put_back.Goals.{then-is_behind, else-is_behind}

origin : Edge
origin = record { u = 0; v = 0; w = 0 }

more : (cursors : List ℕ) (xs : List Edge) (i : ℕ) (d : Edge) (b : Bool) (base : List Edge) → i < length xs → b ≡ is_met_at cursors i (get_or xs i d)
    → (base ++ met_from 0 cursors (take i xs)) ++ kept b (get_or xs i d) [] ≡ base ++ met_from 0 cursors (take (i + 1) xs)
more cursors xs i d b base lt is =
    append_assoc base (met_from 0 cursors (take i xs)) (kept b (get_or xs i d) [])
    ∙ ap (λ ys. base ++ ys) (ap (λ b. met_from 0 cursors (take i xs) ++ kept b (get_or xs i d) []) is ∙ sym (met_take_more cursors xs i d lt))

few : (cursors : List ℕ) (xs base : List Edge) (i : ℕ) → i < length xs → length (base ++ met_from 0 cursors (take i xs)) < length base + length xs
few cursors xs base i lt =
    let most : length (met_from 0 cursors (take i xs)) ≤ length (take i xs) = met_length 0 cursors (take i xs) in
    let front : length (take i xs) ≡ i = length-take-le i xs (omega arith) in
    omega (arith, length-append base (met_from 0 cursors (take i xs)))

pub loop-i-preserved : goal.loop-i-preserved
loop-i-preserved c =
    let g = c.args.greater.now in
    let cursors = c.args.cursors.now in
    let i : ℕ = c.loop-i.i in
    let base = c.args.lesser.now.items in
    let step = λ (b : Bool) (is : b ≡ is_met_at cursors i (get_or g i origin)). more cursors g i origin b base c.loop-i-test.true is in
    let room = few cursors g base i c.loop-i-test.true in
    let len : length c.loop-i.lesser.items ≡ length (base ++ met_from 0 cursors (take i g)) = ap length c.loop-i.invariant.items in
    elim c.if-is_behind.branch [
      | then-is_behind w ↦
          let items : w.push.new.self.items ≡ c.loop-i.lesser.items ++ get_or g i origin ∷ [] = grind (arith, common_steps) in
          record {
            items = ap (λ (v : Vec Edge Global). v.items) w.lesser-is ∙ items ∙ ap (λ xs. xs ++ get_or g i origin ∷ []) c.loop-i.invariant.items ∙ step true (sym w.if-is_behind.true ∙ c.is_behind.ensures origin);
            room =
                let same : vec_capacity c.if-is_behind.lesser ≡ vec_capacity w.push.new.self = ap (λ (v : Vec Edge Global). vec_capacity v) w.lesser-is in
                let grown : vec_capacity c.loop-i.lesser ≤ vec_capacity w.push.new.self = w.push.ensures.capacity in
                omega (arith, c.loop-i.invariant.room);
          }
      | else-is_behind w ↦ record {
        items = ap (λ (v : Vec Edge Global). v.items) w.lesser-is ∙ c.loop-i.invariant.items ∙ sym (append-nil _) ∙ step false (sym w.if-is_behind.false ∙ c.is_behind.ensures origin);
        room =
            let same : vec_capacity c.if-is_behind.lesser ≡ vec_capacity c.loop-i.lesser = ap (λ (v : Vec Edge Global). vec_capacity v) w.lesser-is in
            omega (arith, c.loop-i.invariant.room);
      }
    ]
