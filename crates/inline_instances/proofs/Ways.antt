-- Ways through calls: there is one list of calls to the end at most, and none from a call that comes again behind itself.
-- Plan: two ways from one call are the same as far as both go. A way that comes to a call again would be longer than itself.
use Rattle.std.proofs.Common.{◌≡◌, ℕ, ◌<◌, Bool, true, false, ◌||◌, List, [], ◌∷◌, ◌++◌, length, Option, Some, None, refl, sym, ◌∙◌, ap, subst, arith}
use Rattle.std.proofs.Common.{length-append, append-nil, nat_eq, true≢false, eqb-true}
use Rattle.std.specs.List.{list_any}
use Rattle.read_metadata.specs.Maps.{Maps}
use Rattle.inline_instances.specs.Calls.{IsWay, AreCallsFrom, outer_call}
use Rattle.inline_instances.specs.steps.Marks.{IsIn}

pub none_is_some : {A : Type 0} (a : A) → None ≡ Some a → ⊥
none_is_some a e = cc

pub some_is_some : {A : Type 0} (a b : A) → Some a ≡ Some b → a ≡ b
some_is_some a b e = cc

pub way_append : (meta : Maps) (from mid to : Option ℕ) (a b : List ℕ) → IsWay meta from a mid → IsWay meta mid b to → IsWay meta from (a ++ b) to
way_append meta from mid to [] b is also = subst (λ (o : Option ℕ). IsWay meta o b to) (sym is) also
way_append meta from mid to (n ∷ a) b is also = (is.0, way_append meta (outer_call meta n) mid to a b is.1 also)

-- a way with one call more
pub way_more : (meta : Maps) (from : Option ℕ) (way : List ℕ) (n : ℕ) → IsWay meta from way (Some n) → IsWay meta from (way ++ n ∷ []) (outer_call meta n)
way_more meta from way n is = way_append meta from (Some n) (outer_call meta n) way (n ∷ []) is (refl, refl)

-- the way to the last call of a way
pub way_last : (meta : Maps) (from to : Option ℕ) (way : List ℕ) (n : ℕ) → IsWay meta from (way ++ n ∷ []) to
    → IsWay meta from way (Some n) × (outer_call meta n ≡ to)
way_last meta from to [] n is = (is.0, is.1)
way_last meta from to (m ∷ way) n is =
    let rest = way_last meta (outer_call meta m) to way n is.1 in
    ((is.0, rest.0), rest.1)

-- what is behind a way
pub record Behind (meta : Maps) (to : Option ℕ) (way ns : List ℕ) : Type 0 where
  pub rest : List ℕ
  pub split : ns ≡ way ++ rest
  pub are : AreCallsFrom meta to rest

pub way_rest : (meta : Maps) (from to : Option ℕ) (way ns : List ℕ) → IsWay meta from way to → AreCallsFrom meta from ns → Behind meta to way ns
way_rest meta from to [] ns is are = record { rest = ns; split = refl; are = subst (λ (o : Option ℕ). IsWay meta o ns None) is are }
way_rest meta from to (n ∷ way) [] is are = absurd (none_is_some n (sym are ∙ is.0))
way_rest meta from to (n ∷ way) (m ∷ ns) is are =
    let same : n ≡ m = some_is_some n m (sym is.0 ∙ are.0) in
    let found = way_rest meta (outer_call meta n) to way ns is.1 (subst (λ (k : ℕ). IsWay meta (outer_call meta k) ns None) (sym same) are.1) in
    record {
      rest = found.rest;
      split = ap (λ (k : ℕ). k ∷ ns) (sym same) ∙ ap (λ (ks : List ℕ). n ∷ ks) found.split;
      are = found.are;
    }

none_behind : (meta : Maps) (ns : List ℕ) → AreCallsFrom meta None ns → ns ≡ []
none_behind meta [] are = refl
none_behind meta (n ∷ ns) are = absurd (none_is_some n are.0)

pub one_list : (meta : Maps) (from : Option ℕ) (a b : List ℕ) → AreCallsFrom meta from a → AreCallsFrom meta from b → a ≡ b
one_list meta from a b is also =
    let found = way_rest meta from None a b is also in
    sym (found.split ∙ ap (λ (ks : List ℕ). a ++ ks) (none_behind meta found.rest found.are) ∙ append-nil a)

-- the way to a call on a way
record Before (meta : Maps) (from : Option ℕ) (n : ℕ) (way : List ℕ) : Type 0 where
  before : List ℕ
  up_to : IsWay meta from before (Some n)
  shorter : length before < length way

way_to : (meta : Maps) (from to : Option ℕ) (way : List ℕ) (n : ℕ) → IsWay meta from way to → IsIn n way → Before meta from n way
way_to meta from to [] n is on = absurd (true≢false (sym on))
way_to meta from to (m ∷ way) n is on = by (nat_eq n m) refl on (way_to meta (outer_call meta m) to way n is.1)
  where
    by : (z : Bool) → nat_eq n m ≡ z → (z || list_any (nat_eq n) way) ≡ true → (IsIn n way → Before meta (outer_call meta m) n way)
        → Before meta from n (m ∷ way)
    by true e h later = record { before = []; up_to = is.0 ∙ ap Some (sym (eqb-true n m e)); shorter = omega arith }
    by false e h later =
        let found = later h in
        record { before = m ∷ found.before; up_to = (is.0, found.up_to); shorter = omega (arith, found.shorter) }

-- a way that comes to a call again has no end
pub loops : (meta : Maps) (from : Option ℕ) (way : List ℕ) (n : ℕ) (ns : List ℕ) → IsWay meta from way (Some n) → IsIn n way → AreCallsFrom meta from ns → ⊥
loops meta from way n ns is on are =
    let first = way_to meta from (Some n) way n is on in
    let far = way_rest meta from (Some n) way ns is are in
    let near = way_rest meta from (Some n) first.before ns first.up_to are in
    let same : far.rest ≡ near.rest = one_list meta (Some n) far.rest near.rest far.are near.are in
    omega (arith, first.shorter, ap length far.split, ap length near.split, ap length same, length-append way far.rest, length-append first.before near.rest)

-- a call on a way that has no end has none either
pub no_end_on : (meta : Maps) (from to : Option ℕ) (way : List ℕ) (n : ℕ) → ((ns : List ℕ) → AreCallsFrom meta from ns → ⊥) → IsWay meta from way to
    → IsIn n way → (ns : List ℕ) → AreCallsFrom meta (Some n) ns → ⊥
no_end_on meta from to way n none is on ns are =
    let first = way_to meta from to way n is on in
    none (first.before ++ ns) (way_append meta from (Some n) None first.before ns first.up_to are)
