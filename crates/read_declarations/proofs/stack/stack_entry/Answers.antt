use Rattle.std.proofs.Common.{◌≡◌, ℕ, Bool, false, not, ◌&&◌, Option, Some, None, refl, sym, ap, ◌∙◌}
use Rattle.std.specs.Prelude.{codes, is_some, is_none}
use Rattle.std.proofs.lemmas.Bool.{and_left, and_right, cond-false}
use Rattle.read_declarations.specs.declared.stream.YamlToken.{YamlToken}
use Rattle.read_declarations.specs.Field.{value_at, needed, given, negated, is_variable_sized}
use Rattle.read_declarations.specs.Stack.{unsized, entry_with}
use Rattle.read_declarations.proofs.stack.stack_entry.Goals.{else-is_variable-via-then-is_variable+else-is_none, else-is_variable-via-else-is_variable}
use Rattle.read_declarations.proofs.stack.stack_entry.Goals as goal

is_there : (o : Option YamlToken) (none : Bool) → is_some o ≡ not none → none ≡ false → is_none o ≡ false
is_there (Some value) none there is = refl
is_there None none there is = absurd cc

pub returns : goal.returns
returns c =
    let lines = c.args.lines.now in
    let fields = c.args.fields.now in
    let variable = is_variable_sized lines fields in
    let none = is_none (value_at lines (codes "size") fields) in
    let id = needed lines (codes "id") fields in
    let size = needed lines (codes "size") fields in
    let align = given lines (codes "alignment") 1 fields in
    let local = negated lines (codes "local-offset") fields in
    let is_sized : (variable && none) ≡ false = elim c.else-is_variable.branch [
      | else-is_variable-via-then-is_variable+else-is_none w ↦
          and_right variable none (is_there (value_at lines (codes "size") fields) w.is_none.result
          (sym (ap is_some w.value_at.ensures) ∙ w.is_none.ensures) w.if-is_none.false)
      | else-is_variable-via-else-is_variable w ↦ and_left variable none (sym c.is_variable_sized-is_variable.ensures ∙ w.if-is_variable.false)
    ] in
    c.entry_with.ensures
    ∙ ap (λ (b : Bool). entry_with b c.needed-id.result c.needed-size.result c.given-align.result c.negated-local_offset.result)
    c.is_variable_sized-is_variable.ensures
    ∙ ap (λ (o : Option ℕ). entry_with variable o c.needed-size.result c.given-align.result c.negated-local_offset.result) c.needed-id.ensures
    ∙ ap (λ (o : Option ℕ). entry_with variable id o c.given-align.result c.negated-local_offset.result) c.needed-size.ensures
    ∙ ap (λ (o : Option ℕ). entry_with variable id size o c.negated-local_offset.result) c.given-align.ensures
    ∙ ap (entry_with variable id size align) c.negated-local_offset.ensures
    ∙ sym (cond-false (variable && none) (unsized id) (entry_with variable id size align local) is_sized)
