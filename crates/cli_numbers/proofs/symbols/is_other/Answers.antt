use Rattle.std.proofs.Common.{◌≡◌, ◌↔◌, Bool, true, false, not, IsTrue, refl, sym}
use Rattle.rv64_instr.specs.Linked.{is_same_symbol}
use Rattle.cli_numbers.proofs.symbols.is_other.Goals as goal

is_not : (t u : Bool) → t ≡ u → IsTrue (not t) ↔ (u ≡ false)
is_not true u e = (λ h. absurd cc, λ h. absurd cc)
is_not false u e = (λ h. sym e, λ h. refl)

pub returns : goal.returns
returns c = is_not c.is_same.result (is_same_symbol c.args.one.now c.args.other.now) c.is_same.ensures
