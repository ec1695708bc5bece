use Rattle.std.proofs.Common.{◌≡◌, true, false, sym, ◌∙◌}
use Rattle.location_ranges.proofs.Still.{turns_not}
use Rattle.location_ranges.proofs.turn.turn_if.Goals as goal
use Rattle.location_ranges.proofs.turn.turn_if.Goals.{then-all, else-all}

pub returns-else-has_changed : goal.returns-else-has_changed
returns-else-has_changed c = elim c.if-all.branch [
  | then-all w ↦ absurd (let no : true ≡ false = sym w.if-all.true ∙ (sym w.value-is ∙ c.if-has_changed.false) in cc)
  | else-all w ↦ turns_not c.args.group.now c.args.places.now c.args.address c.args.track.now
      (c.requires w.if-all.false (sym w.has_changed.ensures ∙ (sym w.value-is ∙ c.if-has_changed.false)))
]
