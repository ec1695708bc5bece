use Rattle.std.proofs.Common.{Some, cond, nat_eq, sym, ◌∙◌}
use Rattle.std.specs.HashMap.{get}
use Rattle.rv64_instr.specs.declared.place.Place.TheVariants.{Register}
use Rattle.pass_trait.specs.Causes.{defines}
use Rattle.pass_salvage.specs.SalvageAction.{asks_for}
use Rattle.pass_salvage.proofs.Indexed.{pushed}
use Rattle.pass_salvage.proofs.above.Above.push.Goals as goal

pub returns : goal.returns
returns c above x h len is =
    let old = c.args.self.now in
    let subs = c.args.subs.now in
    pushed old (record { definitions = c.push_definition.new.table; questions = c.push_question.new.table }) subs above x h
    (λ s. c.in_ok-push_definition.ensures s ∙ (λ i. cond (defines (Register s) (sym is i)) (Some (len i)) (get nat_eq old.definitions s)))
    (λ k. c.in_ok-push_question.ensures k ∙ (λ i. cond (asks_for subs k (sym is i)) (Some (len i)) (get nat_eq old.questions k)))
