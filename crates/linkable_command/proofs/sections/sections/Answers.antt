use Rattle.std.specs.Prelude.{codes}
use Rattle.std.proofs.Common.{List, ℕ, ap, ◌∙◌}
use Rattle.linkable_command.specs.Linkable.{debug_section, plain_content}
use Rattle.linkable_command.proofs.Written.{all_sections_made}
use Rattle.linkable_command.proofs.sections.sections.Goals as goal

pub returns : goal.returns
returns c =
    all_sections_made c.args.relocations c.args.text c.args.lists c.args.t.now _ c.push.new.self c.push_entries.new.sections c.push-2.new.self
    c.push-3.new.self c.push_frame.new.sections c.push-4.new.self _ _ _ _ c.new-sections.ensures c.in_ok-push.ensures.ok c.in_ok-push_entries.ensures
    c.in_ok-push-2.ensures.ok c.in_ok-push-3.ensures.ok c.in_ok-push_frame.ensures c.in_ok-push-4.ensures.ok c.in_ok-text_section.ensures
    c.in_ok-row_section.ensures c.in_ok-plain_section.ensures
    (c.in_ok-range_section.ensures
    ∙ ap (λ (bytes : List ℕ). debug_section (codes ".debug_rnglists") (plain_content bytes)) c.as_slice.ensures)
