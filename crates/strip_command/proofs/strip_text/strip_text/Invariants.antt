use Rattle.std.proofs.Common.{◌≡◌, ◌++◌, drop}
use Rattle.strip_command.specs.StripText.{stripped_text}
use Rattle.strip_command.proofs.strip_text.strip_text.Given as goal

abbrev pub invariant-loop-parsed : goal.invariant-loop-parsed
invariant-loop-parsed l = l.text ++ stripped_text (drop l.parsed-index l.functions) ≡ stripped_text l.functions
