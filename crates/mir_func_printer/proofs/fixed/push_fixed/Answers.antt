use Rattle.std.proofs.Common.{◌≡◌, Bool, true, cond, [], ◌∷◌, ◌++◌, sym, ap, ◌∙◌, codes}
use Rattle.std.specs.List.{flat_map, list_any}
use Rattle.mir_printer.proofs.Appends.{ended}
use Rattle.mir_func_printer.specs.FuncText.{fixed_stack_line, is_fixed, fixed_text}
use Rattle.mir_func_printer.proofs.fixed.push_fixed.Goals as goal

pub returns : goal.returns
returns c =
    let objects = c.args.objects.now in
    let some : list_any is_fixed objects ≡ true = sym c.has_fixed.ensures ∙ c.if-not-has_fixed.false in
    ended c.push_lines.result c.args.text.now c.push_str.new.text c.push_lines.new.text (codes "fixedStack:" ++ 10 ∷ [])
    (flat_map fixed_stack_line objects) (fixed_text objects) c.in_ok-push_str.ensures.ok c.push_lines.ensures
    (sym (ap (λ (b : Bool). cond b (codes "fixedStack:" ++ 10 ∷ [] ++ flat_map fixed_stack_line objects) []) some))
