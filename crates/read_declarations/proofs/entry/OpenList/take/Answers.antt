use Rattle.std.proofs.Common.{◌≡◌, ◌++◌, ◌∷◌, []}
use Rattle.read_declarations.specs.declared.entry.MappingField.{MappingField}
use Rattle.read_declarations.specs.FlowMapping.{AreKeys}
use Rattle.read_declarations.proofs.Ids.{on_ok}
use Rattle.read_declarations.proofs.Keys.{keys_more}
use Rattle.read_declarations.proofs.entry.OpenList.take.Goals as goal

pub returns-in_ok-insert-in-Value-clause-keys : goal.returns-in_ok-insert-in-Value-clause-keys
returns-in_ok-insert-in-Value-clause-keys c =
    let before = c.args.self.now.fields in
    let f : MappingField = record { key = c.in-Value.key; value = c.args.piece } in
    on_ok c.push.result (c.push.new.self ≡ before ++ f ∷ []) (AreKeys c.args.lines.now c.insert.new.self c.push.new.self)
    (λ longer. keys_more c.args.lines.now c.args.keys.now c.insert.new.self before c.push.new.self f c.text_at.result c.requires
    c.in_ok-insert-in-Value.ensures.updates c.text_at.ensures longer)
    c.push.ensures.ok
