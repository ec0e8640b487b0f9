-- What the surplus of the next vertex is, by what became of the flow to the last one.
use Rattle.std.specs.Prelude.{◌≡◌, ◌≤◌, ◌<◌, ◌+◌, ◌*◌, ◌-◌, ◌^◌, min}
use Rattle.region_flow.specs.declared.outcome.Outcome
use Rattle.region_flow.specs.declared.outcome.Outcome.TheVariants.{AtLeast, Best}
use Rattle.region_sweep.specs.declared.surplus.Surplus.{Surplus}

-- where the vertex could not get it, 1 again, and twice as many are wanted; else twice as much once as many got it as are wanted
abbrev pub HasNext : Surplus → Outcome.Outcome → Surplus → Type 0
HasNext s (Best w) t = (t.amount ≡ 1) × (t.got ≡ 0) × (t.wanted ≡ min (s.wanted * 2) (2 ^ 32 - 1))
HasNext s AtLeast t =
    (s.wanted ≤ s.got + 1 → (t.amount ≡ min (s.amount * 2) (2 ^ 64 - 1)) × (t.got ≡ 0) × (t.wanted ≡ s.wanted))
    × (s.got + 1 < s.wanted → (t.amount ≡ s.amount) × (t.got ≡ s.got + 1) × (t.wanted ≡ s.wanted))
