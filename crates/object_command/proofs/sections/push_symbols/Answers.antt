use Rattle.object_command.proofs.ObjectLemmas.{two_sections}
use Rattle.object_command.proofs.sections.push_symbols.Goals as goal

pub returns : goal.returns
returns c =
    two_sections c.args.sections.now c.push.new.self c.push-2.new.self _ _ _ _ c.in_ok-push.ensures.ok c.in_ok-push-2.ensures.ok
    c.in_ok-symbol_section.ensures c.in_ok-name_section.ensures
