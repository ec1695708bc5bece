use Rattle.std.proofs.Common.{List, subst, rules}
use Rattle.std.proofs.lemmas.Result.{on_ok_weaker}
use Rattle.read_documents.specs.declared.parts.FunctionDocument.{FunctionDocument}
use Rattle.read_input.specs.Unmarked.{IsOnly}
use Rattle.read_input.proofs.Program.{knows-early}
use Rattle.read_input.proofs.partial.PartialProgram.read_early.Goals as goal

pub returns-in-Some-clause-known : goal.returns-in-Some-clause-known
returns-in-Some-clause-known c =
    let r = c.args.self.now in
    let p = c.in-Some.parsed in
    let seen : IsOnly c.as_slice.result.now p = rw c.in-Some.is at c.in_ok-parsed.ensures in
    let only : IsOnly r.scan.functions p = subst (λ (ds : List FunctionDocument). IsOnly ds p) c.as_slice.ensures seen in
    on_ok_weaker c.push.result (λ more documents behind known. knows-early r p c.requires.unrefused (search rules) c.new.result c.push.new.self c.new.ensures more only
    documents behind known) c.push.ensures.ok
