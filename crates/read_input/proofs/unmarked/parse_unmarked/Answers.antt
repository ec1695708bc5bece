use Rattle.std.proofs.Common.{◌≡◌, Option, IfSome, Ok, sym, ap, ◌∙◌}
use Rattle.std.proofs.lemmas.Result.{IfOk-weaker}
use Rattle.std.proofs.lemmas.Option.{IfSome_then}
use Rattle.read_metadata.specs.Maps.{Maps}
use Rattle.read_declarations.specs.Declarations.{declarations_of}
use Rattle.read_program.specs.declared.closing.Parsed.{Parsed}
use Rattle.read_program.specs.BodyLines.{body_of}
use Rattle.read_program.specs.Closing.{Parses}
use Rattle.read_input.proofs.AnyMetadata.{parses_of}
use Rattle.read_input.proofs.unmarked.parse_unmarked.Goals as goal

pub returns-in-Some-2 : goal.returns-in-Some-2
returns-in-Some-2 c =
    let doc = c.args.document.now in
    let declares : declarations_of doc ≡ Ok c.in-Some.declared = rw c.in-Some.is at c.in_ok-declared.ensures.read in
    let reads : (meta : Maps) → body_of doc.linked meta c.as_slice.result.now ≡ Ok c.in-Some-2.body = rw c.in-Some-2.is at c.in_ok-body-in-Some.ensures in
    IfOk-weaker c.closed.result _ (λ (read : Option Parsed). IfSome read (λ p. (meta : Maps) → Parses meta doc (Ok p))) (λ read said. IfSome_then read said (λ p
    closes meta. let same = ap (body_of doc.linked meta) c.as_slice.ensures in let whole = sym same ∙ reads meta in parses_of meta doc c.in-Some.declared
    c.in-Some-2.body p
    declares whole (closes meta doc declares whole))) c.closed.ensures
