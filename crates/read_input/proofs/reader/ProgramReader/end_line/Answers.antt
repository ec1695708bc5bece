use Rattle.std.proofs.Common.{◌≡◌, List, ℕ, [], ◌++◌, ◌∷◌, sym, ap, subst, ◌∙◌, rules}
use Rattle.std.proofs.lemmas.Result.{on_ok_weaker}
use Rattle.std.specs.Str.Lines.{strip_carriage_return}
use Rattle.read_input.specs.declared.reader.ProgramReader.{ProgramReader}
use Rattle.read_input.specs.Reading.{Knows, IsReadingOf}
use Rattle.read_input.proofs.Reading.{reading-line}
use Rattle.read_input.proofs.reader.ProgramReader.end_line.Goals as goal

pub returns-then-is_empty-clause-reading : goal.returns-then-is_empty-clause-reading
returns-then-is_empty-clause-reading c =
    let r = c.args.self.now in
    let empty : r.line ≡ [] = search rules in
    let held : ProgramReader = record r { line = r.line ++ c.args.end.now } in
    let is : c.without_carriage_return.result.now ≡ strip_carriage_return held.line =
    c.without_carriage_return.ensures ∙ ap (λ (front : List ℕ). strip_carriage_return (front ++ c.args.end.now)) (sym empty) in
    on_ok_weaker c.take.result (λ known linked front reading. reading-line linked held (record r { program = c.take.new.self }) front reading empty
    (λ documents behind knows. known documents behind (subst (λ (text : List ℕ). Knows r.program documents (text ∷ behind)) (sym is) knows))) c.take.ensures.known

pub returns-clause-reading : goal.returns-clause-reading
returns-clause-reading c =
    let r = c.args.self.now in
    on_ok_weaker c.end_held_line.result (λ ends linked front reading. ends linked front
    (subst (λ (line : List ℕ). IsReadingOf linked (record r { line = line }) front) (sym c.in_ok-extend_from_slice.ensures.ok) reading)) c.end_held_line.ensures.reading
