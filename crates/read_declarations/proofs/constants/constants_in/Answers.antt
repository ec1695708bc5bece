use Rattle.std.proofs.Common.{◌≡◌, List, sym, subst, ◌∙◌}
use Rattle.std.specs.Prelude.{IfOk}
use Rattle.read_lexer.specs.declared.line.Line.{Line}
use Rattle.read_declarations.specs.Constants.{constants_in}
use Rattle.read_declarations.proofs.PoolEntries.{no_constants, first_and_rest}
use Rattle.read_declarations.proofs.constants.constants_in.Goals as goal

pub returns-in-empty : goal.returns-in-empty
returns-in-empty c = c.none.ensures ∙ sym (no_constants c.args.lines.now c.in-empty.len_below)

pub returns-in-len1-up : goal.returns-in-len1-up
returns-in-len1-up c =
    subst (λ (ls : List Line). IfOk c.entries_behind.result (λ read. read ≡ constants_in ls))
    (first_and_rest c.args.lines.now c.key-item.result c.in-len1-up.len_at_least c.key-item.is) c.entries_behind.ensures
