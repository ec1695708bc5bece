use Rattle.std.proofs.Common.{[], length, sym, ◌∙◌}
use Rattle.std.specs.Str.Lines.{lines}
use Rattle.std.proofs.lemmas.Bool.{eqb-true, eqb-false}
use Rattle.std.proofs.lemmas.Result.{on_ok_weaker}
use Rattle.read_input.proofs.Program.{knows-refused, knows-empty, knows-open}
use Rattle.read_input.proofs.partial.PartialProgram.take_last.Goals as goal

pub returns-then-is_some : goal.returns-then-is_some
returns-then-is_some c = λ none documents known.
    knows-refused c.args.self.now documents (lines c.args.line.now) [] (sym c.is_some.ensures ∙ c.if-is_some.true) known

pub returns-then-is_empty : goal.returns-then-is_empty
returns-then-is_empty c = λ none documents known.
    knows-empty c.args.self.now c.args.line.now documents (eqb-true (length c.args.line.now) 0 (sym c.is_empty.ensures ∙ c.if-is_empty.true)) known

pub returns : goal.returns
returns c =
    let some = eqb-false (length c.args.line.now) 0 (sym c.is_empty.ensures ∙ c.if-is_empty.false) in
    on_ok_weaker c.take.result (λ takes none documents known. takes documents [] (knows-open c.args.self.now c.args.line.now documents some none known))
    c.take.ensures.known
