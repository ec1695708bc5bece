-- The law of rewritten debug values.
use Rattle.std.specs.Prelude.{◌≡◌, ℕ, ◌<◌, Some}
use Rattle.mir_func.specs.Function.{Function}
use Rattle.mir_func.specs.Sound.{AllItems, number_of, IsSound}
use Rattle.spill_code.specs.declared.spilling.Spilling.{Spilling}
use Rattle.spill_debug.specs.RewrittenDebugItems.{asked}

-- no item has a number from k on
abbrev pub AreBelow : (k : ℕ) → Function → Type 0
AreBelow k f = AllItems (λ i. (n : ℕ) → number_of i.kind ≡ Some n → n < k) f.blocks

-- with fresh numbers from k on the function stays sound
abbrev pub AskedIsSound : Type 0
AskedIsSound = (s : Spilling) (k : ℕ) (f : Function) → IsSound f → AreBelow k f → IsSound (asked s k f)
