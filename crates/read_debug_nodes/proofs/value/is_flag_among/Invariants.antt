use Rattle.std.proofs.Common.{◌≡◌, false, take}
use Rattle.std.specs.List.{list_any}
use Rattle.read_debug_nodes.specs.Value.{is_flag}
use Rattle.read_debug_nodes.proofs.value.is_flag_among.Given as goal

abbrev pub invariant-loop-token : goal.invariant-loop-token
invariant-loop-token l = list_any (is_flag l.line l.flag) (take l.token-index l.tokens) ≡ false
