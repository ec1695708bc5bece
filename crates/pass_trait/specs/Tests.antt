-- Statements that tests check about the definitions.
use Rattle.std.specs.Prelude.{◌≡◌, ℕ, ◌<◌, List, map, length, cond, nat_eq, false}
use Rattle.sem_simulation.specs.rv64_instr.declared.place.Place.TheVariants.{Register}
use Rattle.sem_simulation.specs.mir_func.declared.position.Pos.{Pos}
use Rattle.sem_simulation.specs.mir_func.declared.debug_substitution.DebugSubstitution.{DebugSubstitution}
use Rattle.sem_simulation.specs.mir_func.Function.{Function}
use Rattle.pass_trait.specs.Change.{change}
use Rattle.pass_trait.specs.Code.{CodeRule}
use Rattle.pass_trait.specs.Causes.{IsWrong}
use Rattle.pass_trait.specs.Nops.{thinned_block, nop_rule}

-- a wrong code rule: it depends on debug items. No-operations are removed only from blocks whose silent index equals their
-- number of items
abbrev pub IsWatching : CodeRule
IsWatching f g = g ≡ record f { blocks = map (λ b. cond (nat_eq b.source_end (length b.items)) (thinned_block false b) b) f.blocks }

-- under a change that changes nothing, no real register is wrong at any position
abbrev pub NothingIsWrong : Type 0
NothingIsWrong = (f : Function) (subs : List DebugSubstitution) (r : ℕ) (at : Pos) → r < 32 → IsWrong nop_rule (change f subs f subs) (Register r) at → ⊥
