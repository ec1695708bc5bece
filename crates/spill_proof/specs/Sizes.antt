-- The size of a function after spilling.
use Rattle.std.specs.Prelude.{ℕ, ◌+◌, List, Contains, Bool}
use Rattle.mir_func.specs.declared.debug_substitution.DebugSubstitution.{DebugSubstitution}
use Rattle.mir_func.specs.Function.{Function}
use Rattle.pass_trait.specs.Change.{change}
use Rattle.pass_trait.specs.Sizes.{greatest_number, KeepsSizes}
use Rattle.spill_select.specs.spill_rule.Chosen.{IsReservable}
use Rattle.spill_proof.specs.Whole.{whole}

-- spilling keeps the size bounds with factor 4 and count 1, if fresh numbers begin above the greatest one
abbrev pub WholeKeepsSizes : Type 0
WholeKeepsSizes = (reserve : List ℕ) (live : ℕ → Bool) (f : Function) (subs : List DebugSubstitution) → ((r : ℕ) → Contains reserve r → IsReservable r) →
    KeepsSizes 4 1 (change f subs (whole reserve live (greatest_number f subs + 1) f) subs)
