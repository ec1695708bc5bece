use Rattle.std.proofs.Common.{ℕ, List}
use Rattle.mir_func.specs.declared.variable.VarId.{VarId}
use Rattle.emit_code.specs.Laid.{StandFrom}
use Rattle.location_of_variable.specs.Groups.{AreGroupsOf}
use Rattle.location_ranges.specs.Stands.{AreValuesOf, Stands}
use Rattle.location_ranges.specs.steps.Saying.{begin_at}
use Rattle.location_ranges.specs.steps.Walk.{Fits}
use Rattle.kept_ranges.specs.steps.Walk.{HaveTold}
use Rattle.kept_ranges.proofs.ranges.past_entries.Given as goal

abbrev pub invariant-loop-entry : goal.invariant-loop-entry
invariant-loop-entry l = record {
  fits : Fits l.values l.groups l.walk;
  stands : AreValuesOf l.blocks l.values → Stands l.blocks l.values l.index l.walk.stand;
  told : (variables : List VarId) (base end : ℕ) → StandFrom base l.entries end → AreGroupsOf l.values.variables.now variables l.groups →
      HaveTold l.blocks l.values l.entries variables base base l.fn.tracks.items →
      HaveTold l.blocks l.values l.entries variables base (begin_at base l.entries l.entry-index) l.walk.tracks.items;
}
