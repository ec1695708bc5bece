use Rattle.std.proofs.Common.{◌≡◌, ◌++◌, take}
use Rattle.std.specs.List.{flat_map}
use Rattle.mir_func_printer.specs.FuncText.{constant_text}
use Rattle.mir_func_printer.proofs.pool.push_constants.Given as goal

abbrev pub invariant-loop-constant : goal.invariant-loop-constant
invariant-loop-constant l = l.text ≡ l.initial.text ++ flat_map constant_text (take l.constant-index l.constants)
