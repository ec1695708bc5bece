use Rattle.std.proofs.Common.{◌&&◌, ℕ, filter, ◌∙◌, rules}
use Rattle.std.proofs.lemmas.Fn.{filter_same}
use Rattle.spill_rule.specs.pass_trait.Causes.{is_named}
use Rattle.spill_rule.specs.Choice.{is_bound, is_free}
use Rattle.spill_select.specs.Incoming.{is_among}
use Rattle.spill_select.specs.Left.{first_reason}
use Rattle.spill_select.proofs.choice.keep_candidates.Goals as goal

pub returns : goal.returns
returns c =
    let f = c.args.f.now in
    let facts = c.args.facts.now in
    let among = c.args.incoming.now in
    λ lacks looped.
    filter_same _ (λ r. is_named f r && is_free (first_reason facts.lacks_scratch (is_bound f r) (is_among among r && facts.is_looped))) _
    (λ x b q h. (search rules, search rules)) _ _ c.retain.ensures.filtered ∙
    (λ i. filter (λ (r : ℕ). is_named f r && is_free (first_reason (lacks i) (is_bound f r) (is_among among r && looped i))) c.args.registers.now.items)
