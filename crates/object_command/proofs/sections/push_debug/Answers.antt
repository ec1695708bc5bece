use Rattle.object_command.proofs.ObjectLemmas.{four_sections}
use Rattle.object_command.proofs.sections.push_debug.Goals as goal

pub returns : goal.returns
returns c =
    four_sections c.args.sections.now c.push.new.self c.push-2.new.self c.push-3.new.self c.push-4.new.self _ _ _ _ _ _ _ _
    c.in_ok-push.ensures.ok c.in_ok-push-2.ensures.ok c.in_ok-push-3.ensures.ok c.in_ok-push-4.ensures.ok
    c.in_ok-debug_section.ensures c.in_ok-debug_section-2.ensures c.in_ok-debug_section-3.ensures c.in_ok-debug_section-4.ensures
