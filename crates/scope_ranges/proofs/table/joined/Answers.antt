use Rattle.std.proofs.Common.{◌≡◌, List, ◌∷◌, ◌++◌, [], length, sym, ap, ◌∙◌, arith}
use Rattle.std.specs.Prelude.{IfOk}
use Rattle.std.proofs.lemmas.Result.{IfOk-weaker}
use Rattle.dwarf_rnglists.specs.declared.range.AddressRange.{AddressRange}
use Rattle.scope_ranges.specs.steps.Entered.{joined}
use Rattle.scope_ranges.proofs.Steps.{joined_none, joined_last}
use Rattle.scope_ranges.proofs.table.joined.Goals as goal

pub returns-in-None : goal.returns-in-None
returns-in-None c =
    let ranges = c.args.ranges in
    let lo = c.args.addresses.now.lo in
    let hi = c.args.addresses.now.hi in
    let split : ranges ≡ c.pop.new.self.items ++ [] = sym c.into_vec-items.ensures ∙ c.in-None.ensures.items in
    let none : length c.into_vec-items.result.items ≡ 0 = omega (arith, c.in-None.ensures.cases) in
    let empty : length ranges ≡ 0 = ap length (sym c.into_vec-items.ensures) ∙ none in
    IfOk-weaker c.pushed.result _ _ (λ (now : List AddressRange) e. e ∙ joined_none ranges c.pop.new.self.items lo hi split empty) c.pushed.ensures

pub returns-in-Some : goal.returns-in-Some
returns-in-Some c =
    let ranges = c.args.ranges in
    let lo = c.args.addresses.now.lo in
    let hi = c.args.addresses.now.hi in
    let last = c.in-Some.last in
    let split : ranges ≡ c.pop.new.self.items ++ last ∷ [] = sym c.into_vec-items.ensures ∙ c.in-Some.ensures.items in
    IfOk-weaker c.joined_behind.result _ _
    (λ (now : List AddressRange) e.
    e ∙ joined_last c.pop.new.self.items last lo hi ∙ ap (λ (rs : List AddressRange). joined rs lo hi) (sym split))
    c.joined_behind.ensures
