use Rattle.std.proofs.Common.{ℕ, ◌-◌, ◌<◌, List, All, length, sym, subst, ◌∙◌, Some, None, arith}
use Rattle.std.specs.Prelude.{Option}
use Rattle.std.proofs.lemmas.List.{get_or_default}
use Rattle.std.proofs.lemmas.List.Elements.{All-push, All-pop}
use Rattle.scope_entries.specs.Prefix.{steps_of}
use Rattle.scope_entries.proofs.Walks.{IsWalked, walked_none, walked_open, walked_close, walked_short, one_more}
use Rattle.scope_entries.proofs.steps.steps.Goals as goal

pub steps-init : goal.steps-init
steps-init c = walked_none c.args.scopes.now _ _ _ c.new-steps.ensures.items c.new-open.ensures.items c.in_ok-links.ensures.first

pub steps-preserved-in-Some : goal.steps-preserved-in-Some
steps-preserved-in-Some c =
    let scopes = c.args.scopes.now in
    let k = c.in-Some.index in
    let links = c.in_ok-links.ensures in
    let is = subst (λ (o : Option ℕ). IsWalked scopes c.steps.steps.items o c.steps.open.items) c.in-Some.is c.steps.invariant in
    let low : k < length scopes = is.next_within in
    let within : k < length c.in_ok-links.links.inner.items = omega (arith, low, links.inners) in
    walked_open scopes c.steps.steps.items k c.steps.open.items c.index-ahead.result.now c.push.new.self.items c.push-in-Some.new.self.items is
    (c.index-ahead.ensures ∙ get_or_default c.in_ok-links.links.inner.items k _ None within ∙ links.inner k low)
    c.in_ok-push-in-Some.ensures.items c.in_ok-push-in-Some-2.ensures.items
    (subst (λ (ks : List ℕ). All (λ j. j < length scopes) ks) (sym c.in_ok-push-in-Some-2.ensures.items)
    (All-push (λ (j : ℕ). j < length scopes) c.steps.open.items k is.opens_within low))

pub steps-smaller : goal.steps-smaller
steps-smaller c =
    let scopes = c.args.scopes.now in
    let is = subst (λ (o : Option ℕ). IsWalked scopes c.steps.steps.items o c.steps.open.items) c.in-None.is c.steps.invariant in
    let short = walked_short scopes c.steps.steps.items c.steps.open.items c.pop.new.self.items c.in-Some-pop.index is c.in-Some-pop.ensures.items in
    let more = one_more c.steps.steps.items c.push-in-Some-pop.new.self.items _ c.in_ok-push-in-Some-pop.ensures.items in
    let less : length (steps_of scopes) - length c.push-in-Some-pop.new.self.items < length (steps_of scopes) - length c.steps.steps.items =
    omega (arith, short, more) in
    less

pub steps-preserved : goal.steps-preserved
steps-preserved c =
    let scopes = c.args.scopes.now in
    let k = c.in-Some-pop.index in
    let links = c.in_ok-links.ensures in
    let is = subst (λ (o : Option ℕ). IsWalked scopes c.steps.steps.items o c.steps.open.items) c.in-None.is c.steps.invariant in
    let both = All-pop (λ (j : ℕ). j < length scopes) c.steps.open.items c.pop.new.self.items (Some k) c.in-Some-pop.ensures.items is.opens_within in
    let low : k < length scopes = both.1 in
    let within : k < length c.in_ok-links.links.next.items = omega (arith, low, links.nexts) in
    walked_close scopes c.steps.steps.items k c.pop.new.self.items c.index-ahead-in-Some-pop.result.now c.push-in-Some-pop.new.self.items
    c.steps.open.items is
    (c.index-ahead-in-Some-pop.ensures ∙ get_or_default c.in_ok-links.links.next.items k _ None within ∙ links.next k low)
    c.in_ok-push-in-Some-pop.ensures.items c.in-Some-pop.ensures.items both.0
