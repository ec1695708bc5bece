use Rattle.std.proofs.Common.{◌≡◌, map, take}
use Rattle.std.specs.List.{list_any}
use Rattle.fold_rule_proof.specs.Kills.{once}
use Rattle.fold_undef.specs.declared.kill.Kill.{Kill}
use Rattle.fold_undef.specs.Kill.{kill_item, is_same_kill}
use Rattle.fold_undef.specs.steps.Seen.{is_seen}
use Rattle.fold_undef.proofs.put.each_once.Given as goal

abbrev pub invariant-loop-kill : goal.invariant-loop-kill
invariant-loop-kill l = (l.items.items ≡ once (map (kill_item l.block) (take l.kill-index l.kills))) ×
    ((q : Kill) → is_seen l.seen.parts l.seen.numbers q ≡ list_any (λ y. is_same_kill y q) (take l.kill-index l.kills))
