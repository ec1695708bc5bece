use Rattle.std.proofs.Common.{◌++◌, List, refl, ap, ◌∙◌}
use Rattle.mir_func.specs.declared.object.Object.{Object}
use Rattle.mir_func.specs.Function.{Function}
use Rattle.mir_printer.proofs.Appends.{ended}
use Rattle.mir_func_printer.specs.FuncText.{stack_and_body, fixed_text}
use Rattle.mir_func_printer.proofs.print.push_frame_and_body.Goals as goal

pub returns : goal.returns
returns c =
    let old = c.args.text.now in
    let f = c.args.f.now in
    let objects = c.as_slice.ensures ∙ ap (λ (g : Function). g.objects) c.f.view_is in
    ended c.push_stack_and_body.result old c.push_fixed.new.text c.push_stack_and_body.new.text (fixed_text f.objects) (stack_and_body f c.args.subs.now)
    (fixed_text f.objects ++ stack_and_body f c.args.subs.now)
    (c.in_ok-push_fixed.ensures ∙ ap (λ (os : List Object). old ++ fixed_text os) objects) c.push_stack_and_body.ensures refl
