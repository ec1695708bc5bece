use Rattle.std.proofs.Common.{◌≡◌, ◌↔◌, ℕ, List, Contains, Bool, Option, nat_eq, subst, sym, ap, ◌∙◌}
use Rattle.std.specs.HashSet.{contains}
use Rattle.pass_trait.specs.declared.loss.Loss.{Loss}
use Rattle.fold_targets.specs.Leads.{lead}
use Rattle.fold_targets.specs.Ends.{told, end_in}
use Rattle.fold_proof.specs.Lost.{all_lost}
use Rattle.fold_pass.proofs.lost.fold_losses.Goals as goal

pub returns-clause-each : goal.returns-clause-each
returns-clause-each c = λ l.
    let end : ℕ → ℕ = end_in c.args.ways.now.ends in
    let was : ℕ → Bool = contains nat_eq c.args.ways.now.reached in
    let leads : told c.args.ways.now.leads ≡ lead c.args.blocks.now = λ i n. c.requires n i in
    let all : c.in_ok-losses.losses.items ≡ all_lost end was (lead c.args.blocks.now) c.args.blocks.now =
    c.in_ok-losses.ensures ∙ ap (λ (f : ℕ → Option ℕ). all_lost end was f c.args.blocks.now) leads in
    subst (λ (xs : List Loss). Contains xs l ↔ Contains (all_lost end was (lead c.args.blocks.now) c.args.blocks.now) l) (sym c.from.ensures)
    (subst (λ (ys : List Loss). Contains c.put_in_order.new.losses.items l ↔ Contains ys l) all (c.put_in_order.ensures.same l))
