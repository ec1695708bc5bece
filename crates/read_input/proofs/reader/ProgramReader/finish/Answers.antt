use Rattle.std.proofs.Common.{◌≡◌, ◌==◌, List, ℕ, [], ◌++◌, false, All, subst}
use Rattle.std.specs.Str.Lines.{lines}
use Rattle.std.proofs.lemmas.List.{append-nil}
use Rattle.read_documents.specs.declared.parts.Documents.{Documents}
use Rattle.read_documents.specs.Documents.{documents_of}
use Rattle.read_input.specs.Reading.{Knows}
use Rattle.read_input.proofs.Program.{answers-ended}
use Rattle.read_input.proofs.reader.ProgramReader.finish.Goals as goal

pub returns : goal.returns
returns c = λ linked text reading.
    let start = c.args.self in
    let whole : Knows start.program (documents_of linked text) (lines start.line) =
    subst (λ (all : List ℕ). Knows start.program (documents_of linked all) (lines start.line)) (append-nil text)
    (subst (λ (line : List ℕ). Knows start.program (documents_of linked (text ++ [])) (lines line)) (append-nil start.line) (reading.knows [])) in
    let ends : All (λ (b : ℕ). (b == 10) ≡ false) start.line → (documents : Documents) → Knows start.program documents (lines start.line) →
    Knows c.take_last.new.self documents [] =
    subst (λ (line : List ℕ). All (λ (b : ℕ). (b == 10) ≡ false) line → (documents : Documents) → Knows start.program documents (lines line) →
    Knows c.take_last.new.self documents []) c.as_slice.ensures c.in_ok-take_last.ensures in
    answers-ended linked c.end.new.self text c.answer.result c.answer.ensures (c.in_ok-end.ensures.ends (documents_of linked text) (ends reading.one_line
    (documents_of linked text)
    whole))
