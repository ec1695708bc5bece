-- What explicit operands use or set, they name.
use Rattle.std.proofs.Common.{◌≡◌, ℕ, zero, suc, List, [], ◌∷◌, Contains, Bool, true, nat_eq, eq-eqb, arith}
use Rattle.std.specs.List.{list_any}
use Rattle.std.proofs.lemmas.Bool.{or_left, or_right}
use Rattle.rv64_instr.specs.declared.operand.Operand.{Operand}
use Rattle.rv64_instr.specs.declared.operand.Operand.TheVariants.{Def, Use}
use Rattle.scan_intervals.specs.pass_trait.Causes.{is_of_register}
use Rattle.spill_select.specs.spill_simulation.MaySpill.{uses_in, defs_in}

pub use_named : (counts : Bool) (os : List Operand) (r : ℕ) → Contains (uses_in os) r → list_any (is_of_register counts r) os ≡ true
use_named counts [] r (k, lt, e) = absurd (omega (arith, lt))
use_named counts (Use q ∷ os) r (zero, lt, e) = or_left (nat_eq q r) (list_any (is_of_register counts r) os) (eq-eqb q r e)
use_named counts (Use q ∷ os) r (suc k, lt, e) =
    or_right (nat_eq q r) (list_any (is_of_register counts r) os) (use_named counts os r (k, omega (arith, lt), e))
use_named counts (x ∷ os) r k = or_right (is_of_register counts r x) (list_any (is_of_register counts r) os) (use_named counts os r k)

pub def_named : (counts : Bool) (os : List Operand) (r : ℕ) → Contains (defs_in os) r → list_any (is_of_register counts r) os ≡ true
def_named counts [] r (k, lt, e) = absurd (omega (arith, lt))
def_named counts (Def q ∷ os) r (zero, lt, e) = or_left (nat_eq q r) (list_any (is_of_register counts r) os) (eq-eqb q r e)
def_named counts (Def q ∷ os) r (suc k, lt, e) =
    or_right (nat_eq q r) (list_any (is_of_register counts r) os) (def_named counts os r (k, omega (arith, lt), e))
def_named counts (x ∷ os) r k = or_right (is_of_register counts r x) (list_any (is_of_register counts r) os) (def_named counts os r k)
