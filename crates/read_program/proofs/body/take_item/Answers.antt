use Rattle.std.proofs.Common.{◌≡◌, false, Ok, ap, subst, ◌∙◌}
use Rattle.std.specs.Prelude.{is_none, not}
use Rattle.read_item.specs.declared.judged.Judged.{Judged}
use Rattle.read_item.specs.declared.judged.JudgedItem.{JudgedItem}
use Rattle.read_program.specs.BodyLines.{Reads, two_said}
use Rattle.read_program.proofs.Lines.{said_item, said_two}
use Rattle.read_program.proofs.body.take_item.Goals as goal

pub returns-in-Ok-Item-clause-read : goal.returns-in-Ok-Item-clause-read
returns-in-Ok-Item-clause-read c =
    let there : is_none c.args.body.now.last ≡ false = ap not c.if-is_none.ensures in
    said_item c.args.linked c.args.meta.now c.args.body.now c.take_one.new.body c.args.form.now c.in-Ok-Item.item c.take_one.result
    there
    (c.in-Ok-Item.ensures.ok ∙ ap (λ (x : Judged). Ok x) c.in-Ok-Item.field-0-is)
    c.take_one.ensures.read

pub returns-in-Ok-Two-clause-read : goal.returns-in-Ok-Two-clause-read
returns-in-Ok-Two-clause-read c =
    let there : is_none c.args.body.now.last ≡ false = ap not c.if-is_none.ensures in
    said_two c.args.linked c.args.meta.now c.args.body.now c.take_two.new.body c.args.form.now c.in-Ok-Two.first c.in-Ok-Two.second c.take_two.result
    there
    (c.in-Ok-Two.ensures.ok ∙ ap (λ (x : Judged). Ok x) c.in-Ok-Two.field-0-is)
    (subst (λ (j : JudgedItem). Reads c.take_two.result c.take_two.new.body (two_said c.args.body.now c.in-Ok-Two.first j)) c.into_item.ensures
    c.take_two.ensures.read)
