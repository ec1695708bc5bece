use Rattle.std.proofs.Common.{◌≡◌, ◌++◌, List, sym, ap, ◌∙◌}
use Rattle.std.proofs.lemmas.List.{append_assoc}
use Rattle.dwarf_entry.specs.declared.tree.Attribute.{Attribute}
use Rattle.typed_unit.specs.Unit.{source_attributes, code_attributes, ranges_attribute}
use Rattle.typed_unit.proofs.tree.push_unit_by.Goals as goal

pub returns : goal.returns
returns c =
    let u = c.args.unit.now in
    let three : c.push_ranges.new.attributes ≡ (source_attributes c.args.producer u ++ code_attributes u) ++ ranges_attribute u.ranges =
    c.in_ok-push_ranges.ensures ∙ ap (λ (xs : List Attribute). xs ++ ranges_attribute u.ranges) (c.in_ok-push_code.ensures ∙
    ap (λ (xs : List Attribute). xs ++ code_attributes u) (c.in_ok-push_source.ensures ∙
    ap (λ (xs : List Attribute). xs ++ source_attributes c.args.producer u) c.new-attributes.ensures)) in
    rw (sym (three ∙ append_assoc (source_attributes c.args.producer u) (code_attributes u) (ranges_attribute u.ranges)), sym c.from.ensures) c.push_entry.ensures
