use Rattle.std.proofs.Common.{◌≡◌, List, ℕ, ◌∷◌, sym, ap, subst, ◌∙◌}
use Rattle.std.specs.Str.Lines.{strip_carriage_return}
use Rattle.read_input.specs.Reading.{Knows}
use Rattle.read_input.proofs.Reading.{reading-line}
use Rattle.read_input.proofs.reader.ProgramReader.end_held_line.Goals as goal

pub returns-clause-reading : goal.returns-clause-reading
returns-clause-reading c = λ linked front reading.
    let r = c.args.self.now in
    let is : c.without_carriage_return-text.result.now ≡ strip_carriage_return r.line =
    c.without_carriage_return-text.ensures ∙ ap strip_carriage_return (c.as_slice.ensures ∙ c.replace-line.ensures.value) in
    reading-line linked r (record { line = c.clear.new.self.items; program = c.take.new.self }) front reading c.clear.ensures.items (λ documents behind known.
    c.in_ok-take.ensures.known documents behind (subst (λ (text : List ℕ). Knows r.program documents (text ∷ behind)) (sym is) known))
