-- What linear scan makes of a function.
use Rattle.std.specs.Prelude.{ℕ, List, false, true}
use Rattle.pass_trait.specs.Change.{Change}
use Rattle.pass_trait.specs.declared.loss.Loss.{Loss}
use Rattle.pass_trait.specs.Simulation.{PreservesSimulation}
use Rattle.pass_trait.specs.Sizes.{KeepsSizes}
use Rattle.pass_manager.specs.Shown.{KeepsShown}
use Rattle.pass_manager.specs.Told.{KeepsPass}
use Rattle.linear_scan.specs.Scanned.{scan_steps}

-- Linear scan made a function of another one, and reports these losses.
pub record IsScanOf (reserve : List ℕ) (c : Change) (told : List Loss) : Type 0 where
  pub follows : PreservesSimulation false true c
  pub kept : KeepsPass (scan_steps reserve) c told
  pub sizes : KeepsSizes 4 1 c
  pub shown : KeepsShown c.old c.new
