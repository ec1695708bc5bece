use Rattle.std.proofs.Common.{Option, IfSome, rules}
use Rattle.std.proofs.lemmas.Result.{IfOk-weaker}
use Rattle.std.proofs.lemmas.Option.{IfSome_then}
use Rattle.read_program.specs.declared.closing.Parsed.{Parsed}
use Rattle.read_input.specs.Unmarked.{IsOnly}
use Rattle.read_input.proofs.Program.{only_one}
use Rattle.read_input.proofs.partial.early.Goals as goal

pub returns : goal.returns
returns c =
    let ds = c.args.documents.now in
    let d = c.index-documents-0.result in
    IfOk-weaker c.parse_unmarked.result _ (λ (read : Option Parsed). IfSome read (IsOnly ds)) (λ read said. IfSome_then read said (λ p parses. (
      d,
      only_one ds d (search rules) c.index-documents-0.is,
      parses,
    ))) c.parse_unmarked.ensures
