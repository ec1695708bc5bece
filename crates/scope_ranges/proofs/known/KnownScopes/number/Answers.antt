use Rattle.std.proofs.Common.{◌∙◌, sym}
use Rattle.scope_ranges.proofs.Keys.{key_known, key_number}
use Rattle.scope_ranges.proofs.known.KnownScopes.number.Goals as goal

pub returns-clause-known : goal.returns-clause-known
returns-clause-known c =
    key_known _ _ _ _ c.args.scope.now (sym c.self.view_is) c.in_ok-index.ensures.keys
    (λ i. record { node = c.number.ensures i; inlined_at = c.number-2.ensures i })

pub returns-clause-number : goal.returns-clause-number
returns-clause-number c =
    c.in_ok-index.ensures.index
    ∙ key_number _ _ _ c.args.scope.now (sym c.self.view_is) (λ i. record { node = c.number.ensures i; inlined_at = c.number-2.ensures i })
