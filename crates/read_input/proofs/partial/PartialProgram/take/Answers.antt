use Rattle.std.proofs.Common.{◌≡◌, ℕ, ◌+◌, List, Some, None, sym, ap, ◌∙◌}
use Rattle.std.proofs.lemmas.Result.{on_ok_weaker}
use Rattle.read_documents.specs.steps.Scan.{fault, step}
use Rattle.read_input.proofs.Scan.{next}
use Rattle.read_input.proofs.Program.{with_line, knows-line, knows-all, knows-stop}
use Rattle.read_input.proofs.partial.PartialProgram.take.Goals as goal

pub returns-in-Some-clause-known : goal.returns-in-Some-clause-known
returns-in-Some-clause-known c =
    let r = c.args.self.now in
    let text = c.args.text.now in
    let found : fault r.scan (next r.lines text) ≡ Some c.in-Some.bad =
    ap (λ (t : List ℕ). fault r.scan (record { number = r.lines + 1; text = t })) (sym c.trimmed-text.ensures) ∙ sym c.fault.ensures ∙ c.in-Some.is in
    on_ok_weaker c.stop.result (λ stops documents behind known. knows-stop r c.stop.new.self c.in-Some.bad c.requires.unrefused text found stops documents behind
    known) c.stop.ensures.stops

pub returns-then-is_due-clause-known : goal.returns-then-is_due-clause-known
returns-then-is_due-clause-known c =
    let r = c.args.self.now in
    let text = c.args.text.now in
    let clean : fault r.scan (next r.lines text) ≡ None =
    ap (λ (t : List ℕ). fault r.scan (record { number = r.lines + 1; text = t })) (sym c.trimmed-text.ensures) ∙ sym c.fault.ensures ∙ c.in_default.is in
    let is : c.take.new.self ≡ step r.scan (next r.lines text) =
    c.in_ok-take.ensures ∙ ap (λ (t : List ℕ). step r.scan (record { number = r.lines + 1; text = t })) c.trimmed-text.ensures in
    let due = c.is_due.ensures c.if-is_due.true in
    on_ok_weaker c.read_on.result (λ all documents behind known. knows-all (with_line r c.take.new.self) c.read_on.new.self all c.requires.unrefused
    c.read_on.ensures.lines due.0 due.1 documents behind (knows-line r c.take.new.self text documents behind c.requires.unrefused clean is known))
    c.read_on.ensures.read

pub returns-then-waited-eq0-clause-known : goal.returns-then-waited-eq0-clause-known
returns-then-waited-eq0-clause-known c =
    let r = c.args.self.now in
    let text = c.args.text.now in
    let clean : fault r.scan (next r.lines text) ≡ None =
    ap (λ (t : List ℕ). fault r.scan (record { number = r.lines + 1; text = t })) (sym c.trimmed-text.ensures) ∙ sym c.fault.ensures ∙ c.in_default.is in
    let is : c.take.new.self ≡ step r.scan (next r.lines text) =
    c.in_ok-take.ensures ∙ ap (λ (t : List ℕ). step r.scan (record { number = r.lines + 1; text = t })) c.trimmed-text.ensures in
    on_ok_weaker c.read_early.result (λ early documents behind known. early documents behind (knows-line r c.take.new.self text documents behind
    c.requires.unrefused clean is known)) c.read_early.ensures.known

pub returns-clause-known : goal.returns-clause-known
returns-clause-known c = λ documents behind known.
    let r = c.args.self.now in
    let text = c.args.text.now in
    let clean : fault r.scan (next r.lines text) ≡ None =
    ap (λ (t : List ℕ). fault r.scan (record { number = r.lines + 1; text = t })) (sym c.trimmed-text.ensures) ∙ sym c.fault.ensures ∙ c.in_default.is in
    let is : c.take.new.self ≡ step r.scan (next r.lines text) =
    c.in_ok-take.ensures ∙ ap (λ (t : List ℕ). step r.scan (record { number = r.lines + 1; text = t })) c.trimmed-text.ensures in
    knows-line r c.take.new.self text documents behind c.requires.unrefused clean is known
