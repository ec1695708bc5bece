use Rattle.std.proofs.Common.{◌↔◌, map, drop}
use Rattle.std.specs.Prelude.{string_bytes}
use Rattle.cli.specs.Options.{none_given, GiveOptions}
use Rattle.cli.specs.declared.options.Options.{Options}
use Rattle.cli.proofs.parse_options.options.Given as goal

abbrev pub invariant-loop-word : goal.invariant-loop-word
invariant-loop-word l = (whole : Options) → GiveOptions l.given (drop l.word-index (map string_bytes l.words)) whole ↔
    GiveOptions none_given (map string_bytes l.words) whole
