use Rattle.std.proofs.Common.{List, Err, sym, ap, subst, ◌∙◌, rules}
use Rattle.mir_pool.specs.Pool.{constant_ids}
use Rattle.read_body.specs.read_declarations.declared.fixed.FixedEntry.{FixedEntry}
use Rattle.read_body.specs.read_declarations.declared.stack.StackEntry.{StackEntry}
use Rattle.read_program.specs.Closing.{AreEntries, parts_of, Closes}
use Rattle.read_program.specs.Pool.{are_known}
use Rattle.read_program.specs.declared.error.ParseError.{ParseError}
use Rattle.read_program.proofs.Soundness.{laid_by_parts, close_well, close_badly}
use Rattle.read_program.proofs.closing.close.Goals as goal

pub parts_of-requires : goal.parts_of-requires
parts_of-requires c = subst (λ (es : List StackEntry). AreEntries es) (sym c.as_slice-3.ensures) c.requires

pub returns-in-Some-2 : goal.returns-in-Some-2
returns-in-Some-2 c = λ meta doc declared read.
    let d = c.args.declared in
    let body = c.args.body in
    let is = laid_by_parts c.args.linked d body c.as_slice-5.result.now c.in_ok-known.known c.in_ok-parts.field-0 c.in-Some.parts (c.as_slice-5.ensures
    ∙ c.in_ok-blocks.ensures)
    (search rules) c.in_ok-known.ensures (search rules)
    (ap (are_known (constant_ids d.pool)) c.as_slice-5.ensures ∙ (search rules))
    (c.in_ok-parts.ensures ∙ ap (λ (es : List StackEntry). parts_of c.args.linked body.objects es c.as_slice-4.result.now c.as_slice-5.result.now) c.as_slice-3.ensures
    ∙ ap (λ (fs : List FixedEntry). parts_of c.args.linked body.objects d.stack fs c.as_slice-5.result.now) c.as_slice-4.ensures) c.in-Some.is in
    close_well c.args.linked c.args.line d body c.in-Some.parts c.in-Some-2.func is (search rules) (search rules)

pub returns-in-None : goal.returns-in-None
returns-in-None c = λ meta doc declared read.
    let d = c.args.declared in
    let body = c.args.body in
    let is = laid_by_parts c.args.linked d body c.as_slice-5.result.now c.in_ok-known.known c.in_ok-parts.field-0 c.in-Some.parts (c.as_slice-5.ensures
    ∙ c.in_ok-blocks.ensures)
    (search rules) c.in_ok-known.ensures (search rules)
    (ap (are_known (constant_ids d.pool)) c.as_slice-5.ensures ∙ (search rules))
    (c.in_ok-parts.ensures ∙ ap (λ (es : List StackEntry). parts_of c.args.linked body.objects es c.as_slice-4.result.now c.as_slice-5.result.now) c.as_slice-3.ensures
    ∙ ap (λ (fs : List FixedEntry). parts_of c.args.linked body.objects d.stack fs c.as_slice-5.result.now) c.as_slice-4.ensures) c.in-Some.is in
    subst (λ (e : ParseError). Closes c.args.linked c.args.line d body (Err e)) (sym c.refused-in-None.ensures)
    (close_badly c.args.linked meta doc c.args.line d body c.in-Some.parts declared read is (c.in_ok-func.ensures.none (search rules)))
