use Rattle.std.proofs.Common.{◌≡◌, false}
use Rattle.location_ranges.proofs.Still.{quiet_turned}
use Rattle.location_ranges.proofs.turn.turn_all.Goals as goal
use Rattle.location_ranges.proofs.turn.turn_all.Goals.{then-all, else-all}

pub returns-else-any : goal.returns-else-any
returns-else-any c = elim c.if-all.branch [
  | then-all w ↦ absurd (cc)
  | else-all w ↦
      let no_all : c.args.all ≡ false = cc in
      let no_any : c.args.any ≡ false = cc in
      quiet_turned c.args.groups.now c.args.places.now c.args.address c.args.changed.now c.args.tracks.now.items (c.requires.still no_all)
      (c.requires.quiet no_any)
]
