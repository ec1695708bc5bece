-- A function after spilling.
use Rattle.std.specs.Prelude.{ℕ, List, [], ◌∷◌, Bool}
use Rattle.mir_func.specs.Function.{Function}
use Rattle.spill_code.specs.declared.spilling.SlotAssignment.{SlotAssignment}
use Rattle.spill_code.specs.declared.spilling.Spilling.{Spilling}
use Rattle.spill_code.specs.Rewrite.{spilled_blocks}
use Rattle.spill_debug.specs.RewrittenDebugItems.{blocks_asked}
use Rattle.spill_proof.specs.Sound.{slots_now}
use Rattle.spill_select.specs.spill_rule.Choice.{homes_of, spilling_of, entry_of}

-- the function with these registers spilled, and with debug values of them rewritten, with fresh numbers from k on
abbrev pub spilled_by : Spilling → (entry : List SlotAssignment) → (k : ℕ) → Function → Function
spilled_by s entry k f = record f { slots = slots_now s f; blocks = spilled_blocks s entry (blocks_asked s k f.blocks) }

-- the function is unchanged if nothing is spilled; then there are no scratch registers
abbrev pub where_spilled : List SlotAssignment → (stays now : Function) → Function
where_spilled [] f g = f
where_spilled (h ∷ hs) f g = g

-- the function after spilling what the rule chooses
abbrev pub whole : (reserve : List ℕ) (live : ℕ → Bool) (k : ℕ) → Function → Function
whole reserve live k f =
    where_spilled (homes_of reserve live f) f (spilled_by (spilling_of reserve live f) (entry_of live (homes_of reserve live f)) k f)
