-- A phi that asks for a place that is wrong gives nothing.
use Rattle.std.proofs.Common.{◌≡◌, ℕ, Option, Some, None, true, false, cond, Bool, refl, sym, ap}
use Rattle.rv64_instr.specs.declared.place.Place.{Place}
use Rattle.mir_func.specs.declared.item.ItemKind.TheVariants.{Phi}
use Rattle.dce_stale.specs.dce_rule.Dead.{Places}
use Rattle.dce_stale.specs.dce_rule.Wrong.{silenced}
use Rattle.dce_sweep.specs.Left.{asks_wrong}

pub phi_wrong : (w : Places) (p : Option Place) (k : ℕ) → asks_wrong w p ≡ true → Phi None k ≡ silenced w (Phi p k)
phi_wrong w (Some x) k e = sym (ap (λ (z : Bool). cond z (Phi None k) (Phi (Some x) k)) e)
phi_wrong w None k e = refl

pub phi_right : (w : Places) (p : Option Place) (k : ℕ) → asks_wrong w p ≡ false → Phi p k ≡ silenced w (Phi p k)
phi_right w (Some x) k e = sym (ap (λ (z : Bool). cond z (Phi None k) (Phi (Some x) k)) e)
phi_right w None k e = refl
