-- Tests of where debug values and DBG_PHIs become undef.
use Rattle.std.specs.Prelude.{ℕ, List, Option, Bool, not, ◌&&◌, ◌||◌, nat_le}
use Rattle.rv64_instr.specs.declared.place.Place.TheVariants.{Register}
use Rattle.mir_func.specs.declared.item.Item.{Item}
use Rattle.mir_func.specs.declared.position.Pos.{Pos}
use Rattle.mir_func.specs.Function.{Function}
use Rattle.pass_trait.specs.Causes.{is_named}
use Rattle.scan_stale.specs.Flow.{Places, stale_at}
use Rattle.scan_stale.specs.Sets.{stale_of}

-- of this register where these are stale: it is stale, or it is virtual and no code names it
abbrev pub is_silent : Function → (stale : Places) → (r : ℕ) → Bool
is_silent f stale r = (nat_le 32 r && not (is_named f r)) || stale (Register r)

-- along the items of a block, at whose start these are stale
abbrev pub silent_along : Function → (given : ℕ → Option ℕ) → List Item → (start : Places) → Pos → ℕ → Bool
silent_along f given items start p = is_silent f (stale_at given items p.item start)

-- in a function, at the starts of whose blocks these are stale
abbrev pub silent_by : Function → (given : ℕ → Option ℕ) → (starts : ℕ → Places) → Pos → ℕ → Bool
silent_by f given starts p = is_silent f (stale_of given f starts p)
