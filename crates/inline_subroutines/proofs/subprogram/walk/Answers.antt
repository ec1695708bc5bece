use Rattle.std.proofs.Common.{◌≡◌, ℕ, ◌++◌, ◌∷◌, [], List, Option, Some, None, nat_cmp, sym, ap, ◌∙◌, subst, true≢false}
use Rattle.std.specs.Prelude.{IsSome, is_some}
use Rattle.std.specs.Option.{option_copied}
use Rattle.std.specs.BTreeMap.{get, Updates}
use Rattle.read_metadata.specs.Metadata.{subprogram_node_at}
use Rattle.inline_subroutines.specs.Subprogram.{scope_around, IsSubprogramOf}
use Rattle.inline_subroutines.specs.steps.Known.{IsScopeWay}
use Rattle.inline_subroutines.proofs.Blocks.{no_scope, no_scope_around, own_subprogram, block_of_scope}
use Rattle.inline_subroutines.proofs.Scopes.{IsWalking, walk_begins, walk_more, walk_stops, walk_ends, known_is, none_of, copied_some}
use Rattle.inline_subroutines.proofs.subprogram.walk.Goals as goal

pub scopes-init : goal.scopes-init
scopes-init c = walk_begins c.args.meta.now c.args.scope c.args.way.now.items c.args.known.now c.requires.none c.requires.known

pub returns-in_default : goal.returns-in_default
returns-in_default c =
    let meta = c.args.meta.now in
    walk_ends meta c.args.scope c.scopes.at c.scopes.way.items c.scopes.known None c.scopes.invariant
    (subst (λ (o : Option ℕ). IsSubprogramOf meta o None) (sym (none_of c.scopes.at c.in_default.not-Some)) (no_scope meta))

pub returns-in-Some-get : goal.returns-in-Some-get
returns-in-Some-get c =
    let meta = c.args.meta.now in
    let scope = c.args.scope in
    let way = c.scopes.way.items in
    let known = c.scopes.known in
    let node = c.in-Some.node in
    let found = c.in-Some-get.found.now in
    let w : IsWalking meta scope way (Some node) known =
    subst (λ (o : Option ℕ). IsWalking meta scope way o known) c.in-Some.is c.scopes.invariant in
    let told : get nat_cmp known node ≡ Some found =
    ap (λ (n : ℕ). get nat_cmp known n) (sym c.number.ensures) ∙ sym c.get.ensures.value ∙ ap option_copied c.in-Some-get.is in
    walk_ends meta scope (Some node) way known found w (known_is meta scope way node known found w told)

pub returns-then-is_some : goal.returns-then-is_some
returns-then-is_some c =
    let meta = c.args.meta.now in
    let scope = c.args.scope in
    let way = c.scopes.way.items in
    let known = c.scopes.known in
    let new = c.insert.new.self in
    let node = c.in-Some.node in
    let w : IsWalking meta scope way (Some node) known =
    subst (λ (o : Option ℕ). IsWalking meta scope way o known) c.in-Some.is c.scopes.invariant in
    let unknown : get nat_cmp known node ≡ None =
    ap (λ (n : ℕ). get nat_cmp known n) (sym c.number.ensures) ∙ sym c.get.ensures.value
    ∙ ap option_copied (none_of c.get.result c.in_default-get.not-Some) in
    let updates : Updates nat_cmp known new node (Some None) =
    subst (λ (n : ℕ). Updates nat_cmp known new n (Some None)) c.number-in-scopes.ensures c.in_ok-insert.ensures.updates in
    let is : IsSome (subprogram_node_at meta node) =
    ap is_some (sym c.subprogram.ensures) ∙ copied_some c.subprogram.result ∙ sym c.is_some.ensures ∙ c.if-is_some.true in
    subst (λ (ns : List ℕ). IsScopeWay meta scope ns new (Some node)) (sym c.in_ok-push.ensures.items)
    (walk_stops meta scope way node known new w unknown updates (Some node) (own_subprogram meta node is))

pub scopes-preserved : goal.scopes-preserved
scopes-preserved c =
    let meta = c.args.meta.now in
    let scope = c.args.scope in
    let way = c.scopes.way.items in
    let known = c.scopes.known in
    let new = c.insert.new.self in
    let node = c.in-Some.node in
    let w : IsWalking meta scope way (Some node) known =
    subst (λ (o : Option ℕ). IsWalking meta scope way o known) c.in-Some.is c.scopes.invariant in
    let unknown : get nat_cmp known node ≡ None =
    ap (λ (n : ℕ). get nat_cmp known n) (sym c.number.ensures) ∙ sym c.get.ensures.value
    ∙ ap option_copied (none_of c.get.result c.in_default-get.not-Some) in
    let updates : Updates nat_cmp known new node (Some None) =
    subst (λ (n : ℕ). Updates nat_cmp known new n (Some None)) c.number-in-scopes.ensures c.in_ok-insert.ensures.updates in
    let around = c.in-Some-scope_around.around in
    let above : scope_around meta node ≡ Some around = sym c.scope_around.ensures ∙ c.in-Some-scope_around.is in
    subst (λ (ns : List ℕ). IsWalking meta scope ns (Some around) new) (sym c.in_ok-push.ensures.items)
    (subst (λ (o : Option ℕ). IsWalking meta scope (way ++ node ∷ []) o new) above
    (walk_more meta scope way node known new w unknown updates (block_of_scope meta node around above)))

pub returns-in-None : goal.returns-in-None
returns-in-None c =
    let meta = c.args.meta.now in
    let scope = c.args.scope in
    let way = c.scopes.way.items in
    let known = c.scopes.known in
    let new = c.insert.new.self in
    let node = c.in-Some.node in
    let w : IsWalking meta scope way (Some node) known =
    subst (λ (o : Option ℕ). IsWalking meta scope way o known) c.in-Some.is c.scopes.invariant in
    let unknown : get nat_cmp known node ≡ None =
    ap (λ (n : ℕ). get nat_cmp known n) (sym c.number.ensures) ∙ sym c.get.ensures.value
    ∙ ap option_copied (none_of c.get.result c.in_default-get.not-Some) in
    let updates : Updates nat_cmp known new node (Some None) =
    subst (λ (n : ℕ). Updates nat_cmp known new n (Some None)) c.number-in-scopes.ensures c.in_ok-insert.ensures.updates in
    let other : IsSome (subprogram_node_at meta node) → ⊥ =
    λ s. true≢false
    (sym s ∙ ap is_some (sym c.subprogram.ensures) ∙ copied_some c.subprogram.result ∙ sym c.is_some.ensures ∙ c.if-is_some.false) in
    subst (λ (ns : List ℕ). IsScopeWay meta scope ns new None) (sym c.in_ok-push.ensures.items)
    (walk_stops meta scope way node known new w unknown updates None (no_scope_around meta node other (sym c.scope_around.ensures ∙ c.in-None.is)))
