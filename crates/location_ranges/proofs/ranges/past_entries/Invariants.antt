use Rattle.std.proofs.Common.{ℕ, List}
use Rattle.mir_func.specs.declared.variable.VarId.{VarId}
use Rattle.emit_code.specs.Laid.{StandFrom}
use Rattle.location_of_variable.specs.Groups.{AreGroupsOf}
use Rattle.location_ranges.specs.Stands.{AreValuesOf, Stands}
use Rattle.location_ranges.specs.steps.Walk.{Fits, HaveSaid}
use Rattle.location_ranges.proofs.ranges.past_entries.Given as goal

abbrev pub invariant-loop-entry : goal.invariant-loop-entry
invariant-loop-entry l = record {
  fits : Fits l.values l.groups l.walk;
  stands : AreValuesOf l.blocks l.values → Stands l.blocks l.values l.index l.walk.stand;
  said : (variables : List VarId) (base end : ℕ) → StandFrom base l.entries end → AreGroupsOf l.values.variables.now variables l.groups →
      HaveSaid l.blocks l.values l.entries variables base 0 l.fn.tracks.items →
      HaveSaid l.blocks l.values l.entries variables base l.entry-index l.walk.tracks.items;
}
