-- Lists that are exact give only places that have the value.
use Rattle.std.proofs.Common.{ℕ}
use Rattle.rv64_instr.specs.declared.place.Place.{Place}
use Rattle.mir_func.specs.declared.position.Pos.{Pos}
use Rattle.mir_func.specs.declared.variable.VarId.{VarId}
use Rattle.mir_func.specs.Graph.{Program, block_start}
use Rattle.sem_mir.specs.PreferredLocation.{IsPreferredLocation}
use Rattle.sem_machine.specs.Exact.{AreExact}
use Rattle.machine_proof.specs.Lists.{GiveSitting}

-- lists that are exact for g at some points give only what has the value for h at any of these points, where what g wants h wants
pub exact_give_sitting : (g h : Program) (points others : (address : ℕ) → Pos → Type 0) (lists : VarId → (address : ℕ) → Place → Type 0) →
    AreExact g (block_start 0) points lists → ((a : ℕ) (p : Pos) → others a p → points a p) →
    ((v : VarId) (p : Pos) (place : Place) → IsPreferredLocation g (block_start 0) v p place → IsPreferredLocation h (block_start 0) v p place) →
    GiveSitting h others lists
exact_give_sitting g h points others lists exact within same v a place given p at =
    (same v p place ((exact.gives v a p (within a p at) place).0 given)).sits
