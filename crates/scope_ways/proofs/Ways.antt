-- Ways through scopes: there is one way to the function at most, and none from a scope that comes again behind itself.
-- Plan: two ways from one scope are the same as far as both go. A way that comes to a scope again would be longer than itself.
use Rattle.std.proofs.Common.{◌≡◌, ℕ, zero, suc, ◌+◌, ◌<◌, Bool, true, false, ◌&&◌, List, [], ◌∷◌, ◌++◌, length, Option, Some, None, refl, sym, ◌∙◌}
use Rattle.std.proofs.Common.{ap, subst, arith}
use Rattle.std.proofs.Common.{length-append, append-nil, nat_eq, eqb-true, true≢false, Contains, slice_get}
use Rattle.std.specs.Option.{option_eq}
use Rattle.read_metadata.specs.Maps.{Maps}
use Rattle.scope_ways.specs.declared.scope.LexicalScope.{LexicalScope}
use Rattle.scope_ways.specs.declared.scope.Outer.{Outer}
use Rattle.scope_ways.specs.declared.scope.Outer.TheVariants as outer
use Rattle.scope_ways.specs.Outer.{around}
use Rattle.scope_ways.specs.Ways.{IsWay, IsWholeWay, is_same}

none_is_some : (s : LexicalScope) → None ≡ Some s → ⊥
none_is_some s e = cc

some_is_some : (s t : LexicalScope) → Some s ≡ Some t → s ≡ t
some_is_some s t e = cc

pub one_scope : (s t : LexicalScope) → outer.Scope s ≡ outer.Scope t → s ≡ t
one_scope s t e = cc

pub function_is_scope : (s : LexicalScope) → outer.Function ≡ outer.Scope s → ⊥
function_is_scope s e = cc

pub unknown_is_scope : (s : LexicalScope) → outer.Unknown ≡ outer.Scope s → ⊥
unknown_is_scope s e = cc

pub unknown_is_function : outer.Unknown ≡ outer.Function → ⊥
unknown_is_function e = cc

pub way_append : (meta : Maps) (from mid to : Outer) (a b : List LexicalScope) → IsWay meta from a mid → IsWay meta mid b to → IsWay meta from (a ++ b) to
way_append meta from mid to [] b is also = subst (λ (o : Outer). IsWay meta o b to) (sym is) also
way_append meta from mid to (s ∷ a) b is also = (is.0, way_append meta (around meta s) mid to a b is.1 also)

-- a way with one scope more
pub way_more : (meta : Maps) (from to : Outer) (way : List LexicalScope) (s : LexicalScope) → IsWay meta from way (outer.Scope s) → around meta s ≡ to
    → IsWay meta from (way ++ s ∷ []) to
way_more meta from to way s is leads = way_append meta from (outer.Scope s) to way (s ∷ []) is (refl, leads)

pub way_begins : (meta : Maps) (s t : LexicalScope) (way : List LexicalScope) → way ≡ [] → t ≡ s → IsWay meta (outer.Scope s) way (outer.Scope t)
way_begins meta s t way none same =
    subst (λ (ss : List LexicalScope). IsWay meta (outer.Scope s) ss (outer.Scope t)) (sym none) (ap outer.Scope (sym same))

pub way_pushed : (meta : Maps) (from to : Outer) (way next : List LexicalScope) (s t : LexicalScope) → IsWay meta from way (outer.Scope s) → t ≡ s
    → next ≡ way ++ t ∷ [] → around meta s ≡ to → IsWay meta from next to
way_pushed meta from to way next s t is same e leads =
    subst (λ (ss : List LexicalScope). IsWay meta from ss to) (sym (e ∙ ap (λ (u : LexicalScope). way ++ u ∷ []) same)) (way_more meta from to way s is leads)

-- what is behind a way
pub record Behind (meta : Maps) (to : Outer) (way whole : List LexicalScope) : Type 0 where
  pub rest : List LexicalScope
  pub split : whole ≡ way ++ rest
  pub are : IsWholeWay meta to rest

pub way_rest : (meta : Maps) (from to : Outer) (way whole : List LexicalScope) → IsWay meta from way to → IsWholeWay meta from whole
    → Behind meta to way whole
way_rest meta from to [] whole is are =
    record { rest = whole; split = refl; are = subst (λ (o : Outer). IsWholeWay meta o whole) is are }
way_rest meta from to (s ∷ way) [] is are = absurd (function_is_scope s (sym are ∙ is.0))
way_rest meta from to (s ∷ way) (t ∷ whole) is are =
    let same : s ≡ t = one_scope s t (sym is.0 ∙ are.0) in
    let found = way_rest meta (around meta s) to way whole is.1
    (subst (λ (u : LexicalScope). IsWholeWay meta (around meta u) whole) (sym same) are.1) in
    record {
      rest = found.rest;
      split = ap (λ (u : LexicalScope). u ∷ whole) (sym same) ∙ ap (λ (us : List LexicalScope). s ∷ us) found.split;
      are = found.are;
    }

none_behind : (meta : Maps) (way : List LexicalScope) → IsWholeWay meta outer.Function way → way ≡ []
none_behind meta [] are = refl
none_behind meta (s ∷ way) are = absurd (function_is_scope s are.0)

pub one_way : (meta : Maps) (from : Outer) (a b : List LexicalScope) → IsWholeWay meta from a → IsWholeWay meta from b → a ≡ b
one_way meta from a b is also =
    let found = way_rest meta from outer.Function a b is also in
    sym (found.split ∙ ap (λ (us : List LexicalScope). a ++ us) (none_behind meta found.rest found.are) ∙ append-nil a)

-- no way leads on from what isn't known
pub no_way_on : (meta : Maps) (from : Outer) (way whole : List LexicalScope) → IsWay meta from way outer.Unknown → IsWholeWay meta from whole → ⊥
no_way_on meta from way whole is are = none (way_rest meta from outer.Unknown way whole is are)
  where
    none_from : (rest : List LexicalScope) → IsWholeWay meta outer.Unknown rest → ⊥
    none_from [] e = unknown_is_function e
    none_from (s ∷ rest) e = unknown_is_scope s e.0

    none : Behind meta outer.Unknown way whole → ⊥
    none found = none_from found.rest found.are

-- the way to a scope on a way
pub record Before (meta : Maps) (from : Outer) (s : LexicalScope) (way : List LexicalScope) : Type 0 where
  pub before : List LexicalScope
  pub up_to : IsWay meta from before (outer.Scope s)
  pub shorter : length before < length way

pub way_to : (meta : Maps) (from to : Outer) (way : List LexicalScope) (s : LexicalScope) → IsWay meta from way to → Contains way s
    → Before meta from s way
way_to meta from to [] s is (k, below, e) = absurd (omega (arith, below))
way_to meta from to (t ∷ way) s is (zero, below, e) = record { before = []; up_to = is.0 ∙ ap outer.Scope e; shorter = omega arith }
way_to meta from to (t ∷ way) s is (suc k, below, e) =
    let found = way_to meta (around meta t) to way s is.1 (k, omega (arith, below), e) in
    let less = found.shorter in
    record { before = t ∷ found.before; up_to = (is.0, found.up_to); shorter = omega (arith, less) }

-- a way that comes to a scope again has no end
pub comes_again : (meta : Maps) (from : Outer) (way whole : List LexicalScope) (s : LexicalScope) → IsWay meta from way (outer.Scope s) → Contains way s
    → IsWholeWay meta from whole → ⊥
comes_again meta from way whole s is on are =
    let first = way_to meta from (outer.Scope s) way s is on in
    let far = way_rest meta from (outer.Scope s) way whole is are in
    let near = way_rest meta from (outer.Scope s) first.before whole first.up_to are in
    let same : far.rest ≡ near.rest = one_way meta (outer.Scope s) far.rest near.rest far.are near.are in
    omega (arith, first.shorter, ap length far.split, ap length near.split, ap length same, length-append way far.rest, length-append first.before near.rest)

-- what stands somewhere is in the list
pub at_contains : (way : List LexicalScope) (k : ℕ) (s : LexicalScope) → slice_get way k ≡ Some s → Contains way s
at_contains [] k s e = absurd (none_is_some s e)
at_contains (t ∷ way) zero s e = (zero, omega arith, some_is_some t s e)
at_contains (t ∷ way) (suc k) s e =
    let found = at_contains way k s e in
    let below = found.1 in
    (suc found.0, omega (arith, below), found.2)

-- ---- a test of scopes

same_node : (a b : Option ℕ) → option_eq nat_eq a b ≡ true → a ≡ b
same_node None None e = refl
same_node None (Some n) e = absurd (true≢false (sym e))
same_node (Some m) None e = absurd (true≢false (sym e))
same_node (Some m) (Some n) e = ap Some (eqb-true m n e)

both_of : (y z : Bool) → (y && z) ≡ true → (y ≡ true) × (z ≡ true)
both_of true z e = (refl, e)
both_of false z e = absurd (true≢false (sym e))

pub same_scope : (s t : LexicalScope) → is_same s t ≡ true → s ≡ t
same_scope s t e =
    let both = both_of (option_eq nat_eq s.node t.node) (option_eq nat_eq s.inlined_at t.inlined_at) e in
    let nodes : s.node ≡ t.node = same_node s.node t.node both.0 in
    let calls : s.inlined_at ≡ t.inlined_at = same_node s.inlined_at t.inlined_at both.1 in
    λ i. record { node = nodes i; inlined_at = calls i }
