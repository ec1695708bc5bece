use Rattle.std.proofs.Common.{rules, ◌≡◌, ℕ, ◌+◌, ◌≤◌, ◌++◌, ◌∷◌, List, None, length, drop, arith, ap, sym, ◌∙◌, subst, length-append}
use Rattle.std.specs.Prelude.{All}
use Rattle.std.specs.List.{flat_map}
use Rattle.std.proofs.lemmas.List.Elements.{All-get_or}
use Rattle.std.proofs.lemmas.List.{drop_more}
use Rattle.dwarf_base.specs.Limits
use Rattle.dwarf_info.specs.declared.inlined.InlinedCall.{InlinedCall}
use Rattle.dwarf_info.specs.declared.inlined.InlinedFunction.{InlinedFunction}
use Rattle.dwarf_info.specs.declared.unit.VariableEntry.{VariableEntry}
use Rattle.dwarf_info.specs.Inlined.{call_bytes, calls_within, inlined_functions, IsInlinedFunction}
use Rattle.dwarf_info.specs.steps.Parts.{variable_bytes, in_table}
use Rattle.dwarf_info.proofs.InlinedLemmas.{function_written, function_within, function_counted}
use Rattle.dwarf_info.proofs.inlined_write.push_functions.Goals as goal

pub returns-then-not-branch-clause-large : goal.returns-then-not-branch-clause-large
returns-then-not-branch-clause-large c = λ e.
    let offset = in_table c.args.offsets.now in
    let origin = in_table c.args.origins.now in
    let first = c.loop-function.first in
    let i = c.loop-function.function-index in
    let f = c.function-item.result in
    let fs = drop (i + 1) c.args.functions.now in
    let whole = c.args.out.now.items ++ inlined_functions offset origin 0 c.args.functions.now in
    let here : drop i c.args.functions.now ≡ f ∷ fs =
    drop_more c.args.functions.now i f c.loop-function-test.true ∙ ap (λ (g : InlinedFunction). g ∷ fs) (sym c.function-item.is) in
    let so : c.loop-function.out.items ++ inlined_functions offset origin first (f ∷ fs) ≡ whole =
    ap (λ (gs : List InlinedFunction). c.loop-function.out.items ++ inlined_functions offset origin first gs) (sym here) ∙ c.loop-function.invariant.written in
    let vars : c.push_variables.new.out.items ≡ c.push_subprogram.new.out.items ++ flat_map (variable_bytes offset) f.function.variables =
    c.in_ok-push_variables.ensures
    ∙ ap (λ (vs : List VariableEntry). c.push_subprogram.new.out.items ++ flat_map (variable_bytes offset) vs) c.as_slice.ensures in
    let within =
    function_within offset origin first f fs c.loop-function.out.items c.push_subprogram.new.out.items c.push_variables.new.out.items whole so
    c.in_ok-push_subprogram.ensures vars in
    let large : Limits.SECTION_LIMIT ≤ length c.push_variables.new.out.items + length (calls_within (call_bytes offset origin first) 0 f.calls None) =
    subst (λ (cs : List InlinedCall). Limits.SECTION_LIMIT ≤ length c.push_variables.new.out.items
    + length (calls_within (call_bytes offset origin first) 0 cs None)) c.as_slice-calls.ensures (c.in_ok-push_calls.ensures.large (search rules)) in
    omega (arith, within, large, length-append c.args.out.now.items (inlined_functions offset origin 0 c.args.functions.now))

pub loop-function-preserved : goal.loop-function-preserved
loop-function-preserved c =
    let offset = in_table c.args.offsets.now in
    let origin = in_table c.args.origins.now in
    let first = c.loop-function.first in
    let i = c.loop-function.function-index in
    let f = c.function-item.result in
    let fs = drop (i + 1) c.args.functions.now in
    let whole = c.args.out.now.items ++ inlined_functions offset origin 0 c.args.functions.now in
    let here : drop i c.args.functions.now ≡ f ∷ fs =
    drop_more c.args.functions.now i f c.loop-function-test.true ∙ ap (λ (g : InlinedFunction). g ∷ fs) (sym c.function-item.is) in
    let so : c.loop-function.out.items ++ inlined_functions offset origin first (f ∷ fs) ≡ whole =
    ap (λ (gs : List InlinedFunction). c.loop-function.out.items ++ inlined_functions offset origin first gs) (sym here) ∙ c.loop-function.invariant.written in
    let vars : c.push_variables.new.out.items ≡ c.push_subprogram.new.out.items ++ flat_map (variable_bytes offset) f.function.variables =
    c.in_ok-push_variables.ensures
    ∙ ap (λ (vs : List VariableEntry). c.push_subprogram.new.out.items ++ flat_map (variable_bytes offset) vs) c.as_slice.ensures in
    let calls : c.push_calls.new.out.items ≡ c.push_variables.new.out.items ++ calls_within (call_bytes offset origin first) 0 f.calls None =
    c.in_ok-push_calls.ensures.written (search rules)
    ∙ ap (λ (cs : List InlinedCall). c.push_variables.new.out.items ++ calls_within (call_bytes offset origin first) 0 cs None) c.as_slice-calls.ensures in
    let is : IsInlinedFunction (length c.args.offsets.now) (length c.args.origins.now) f =
    subst (IsInlinedFunction (length c.args.offsets.now) (length c.args.origins.now)) (sym c.function-item.is)
    (All-get_or (IsInlinedFunction (length c.args.offsets.now) (length c.args.origins.now)) c.args.functions.now i f c.loop-function-test.true c.requires) in
    let many : length c.as_slice-calls.result.now ≡ length f.calls = ap (λ (cs : List InlinedCall). length cs) c.as_slice-calls.ensures in
    record {
      few =
          let counted =
          function_counted offset origin first f fs c.loop-function.out.items c.push_subprogram.new.out.items c.push_variables.new.out.items whole so
          c.in_ok-push_subprogram.ensures vars (length c.args.offsets.now) (length c.args.origins.now) is.1 c.push_calls.new.out.items c.push.new.self.items
          calls c.in_ok-push.ensures.items c.loop-function.invariant.few in
          omega (arith, counted, many);
      written =
          ap (λ (n : ℕ). c.push.new.self.items ++ inlined_functions offset origin (first + n) fs) many
          ∙ function_written offset origin first f fs c.loop-function.out.items c.push_subprogram.new.out.items c.push_variables.new.out.items whole so
          c.in_ok-push_subprogram.ensures vars c.push_calls.new.out.items c.push.new.self.items calls c.in_ok-push.ensures.items;
    }
