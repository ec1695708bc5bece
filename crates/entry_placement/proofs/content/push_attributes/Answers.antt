use Rattle.std.proofs.Common.{List, ◌++◌, length, ap, ◌∙◌}
use Rattle.std.specs.List.{flat_map}
use Rattle.std.proofs.lemmas.List.{take_all}
use Rattle.dwarf_entry.specs.declared.tree.Attribute.{Attribute}
use Rattle.dwarf_entry.specs.steps.Offsets.{in_table}
use Rattle.elf_content.specs.Content.{written, relocations_from}
use Rattle.entry_placement.specs.Pieces.{attribute_pieces}
use Rattle.entry_placement.proofs.Growing.{grows_none, grows_step}
use Rattle.entry_placement.proofs.content.push_attributes.Goals as goal

pub loop-attribute-init : goal.loop-attribute-init
loop-attribute-init c = grows_none _ _

pub loop-attribute-preserved : goal.loop-attribute-preserved
loop-attribute-preserved c =
    grows_step (attribute_pieces c.args.symbols.now (in_table c.args.offsets.now)) c.args.attributes.now c.loop-attribute.attribute-index
    c.attribute-item.result _ _ _ _ _ _ c.loop-attribute-test.true c.attribute-item.is c.loop-attribute.invariant
    (record { written_are = c.in_ok-push_attribute.ensures.bytes; relocated = c.in_ok-push_attribute.ensures.relocations })

pub returns-clause-bytes : goal.returns-clause-bytes
returns-clause-bytes c =
    c.loop-attribute.invariant.written_are
    ∙ ap
    (λ (xs : List Attribute). c.args.bytes.now.items ++ written (flat_map (attribute_pieces c.args.symbols.now (in_table c.args.offsets.now)) xs))
    (take_all c.loop-attribute.attribute-index c.args.attributes.now c.loop-attribute-test.false)

pub returns-clause-relocations : goal.returns-clause-relocations
returns-clause-relocations c =
    c.loop-attribute.invariant.relocated
    ∙ ap
    (λ (xs : List Attribute).
    c.args.relocations.now
    ++ relocations_from (length c.args.bytes.now.items) (flat_map (attribute_pieces c.args.symbols.now (in_table c.args.offsets.now)) xs))
    (take_all c.loop-attribute.attribute-index c.args.attributes.now c.loop-attribute-test.false)
