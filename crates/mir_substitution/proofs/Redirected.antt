-- One substitution more: what pairs resolve to.
use Rattle.std.proofs.Common.{◌≡◌, List, [], ◌∷◌, ◌++◌, length, Option, Some, None, Bool, true, false, cond, refl, sym, ap, subst, ◌∙◌}
use Rattle.std.specs.Prelude.{nat_eq}
use Rattle.std.proofs.lemmas.Bool.{eqb-true, eq-eqb}
use Rattle.mir_func.specs.declared.debug_substitution.OperandPair.{OperandPair}
use Rattle.mir_func.specs.declared.debug_substitution.DebugSubstitution.{DebugSubstitution}
use Rattle.mir_func.specs.Resolve.{is_pair, entry_of, resolve, Ends, at, by}
use Rattle.mir_substitution.proofs.Entries.{is_pair-true, is_pair-same, entry_of-push}
use Rattle.mir_substitution.proofs.Chains.{chain_end-none, resolve_ends, ends_resolve}

-- two ends are the same if each is what the other is
same_end : (x y : Option OperandPair) → ((r : OperandPair) → x ≡ Some r → y ≡ Some r) → ((r : OperandPair) → y ≡ Some r → x ≡ Some r) → x ≡ y
same_end None None f g = refl
same_end None (Some r) f g = g r refl
same_end (Some r) y f g = sym (f r refl)

-- a chain ends at a pair that has no entry
pub ends-none : (subs : List DebugSubstitution) (q r : OperandPair) → Ends subs q r → entry_of subs r ≡ None
ends-none subs q r (at none) = none
ends-none subs q r (by e has whole rest) = ends-none subs e.dst r rest

-- exactly a pair that has no entry resolves to itself
pub resolve-none : (subs : List DebugSubstitution) (q : OperandPair) → entry_of subs q ≡ None → resolve subs q ≡ Some q
resolve-none subs q none = chain_end-none subs (length subs) q none

pub none-resolve : (subs : List DebugSubstitution) (q r : OperandPair) → resolve subs q ≡ Some r → entry_of subs r ≡ None
none-resolve subs q r is = ends-none subs q r (resolve_ends subs q r is)

-- a pair that has an entry resolves to what the entry's target does
pub resolve-by : (subs : List DebugSubstitution) (q : OperandPair) (e : DebugSubstitution) → entry_of subs q ≡ Some e → e.subreg ≡ 0 →
    resolve subs q ≡ resolve subs e.dst
resolve-by subs q e has whole =
    same_end (resolve subs q) (resolve subs e.dst) (λ r is. ends_resolve subs e.dst r (behind r (resolve_ends subs q r is))) (λ r is.
    ends_resolve subs q r (by e has whole (resolve_ends subs e.dst r is)))
  where
    behind : (r : OperandPair) → Ends subs q r → Ends subs e.dst r
    behind r (at none) = (let bad : ◌≡◌ {A = Option DebugSubstitution} None (Some e) = sym none ∙ has in cc)
    behind r (by x w part rest) =
        let both : Some x ≡ Some e = sym w ∙ has in
        let same : x ≡ e = cc in
        subst (λ (y : DebugSubstitution). Ends subs y.dst r) same rest

-- the end of a chain, where chains that ended at s go on to t
abbrev pub redirected : OperandPair → Option OperandPair → Option OperandPair → Option OperandPair
redirected s t None = None
redirected s t (Some p) = cond (is_pair s p) t (Some p)

pub redirected-else : (s : OperandPair) (t x : Option OperandPair) → (x ≡ Some s → ⊥) → redirected s t x ≡ x
redirected-else s t None ne = refl
redirected-else s t (Some p) ne = by_test (is_pair s p) refl where
  by_test : (z : Bool) → is_pair s p ≡ z → redirected s t (Some p) ≡ Some p
  by_test true is = absurd (ne (ap (λ (y : OperandPair). Some y) (sym (is_pair-true s p is))))
  by_test false is = ap (λ (z : Bool). cond z t (Some p)) is

pub redirected-at : (s : OperandPair) (t x : Option OperandPair) → x ≡ Some s → redirected s t x ≡ t
redirected-at s t x is = ap (redirected s t) is ∙ ap (λ (z : Bool). cond z t (Some s)) (is_pair-same s)

-- where chains go on to that ended at the source of one entry more
abbrev pub goes_to : List DebugSubstitution → DebugSubstitution → Option OperandPair
goes_to subs e = cond (nat_eq e.subreg 0) (redirected e.src None (resolve subs e.dst)) None

-- nowhere: it is for a part of a register, or closes a circle
pub goes_to-part : (subs : List DebugSubstitution) (e : DebugSubstitution) → nat_eq e.subreg 0 ≡ false → goes_to subs e ≡ None
goes_to-part subs e part = ap (λ (z : Bool). cond z (redirected e.src None (resolve subs e.dst)) None) part

pub goes_to-circle : (subs : List DebugSubstitution) (e : DebugSubstitution) → resolve subs e.dst ≡ Some e.src → goes_to subs e ≡ None
goes_to-circle subs e is = ap (λ (x : Option OperandPair). cond (nat_eq e.subreg 0) x None) (redirected-at e.src None (resolve subs e.dst) is) ∙ both
    (nat_eq e.subreg 0)
  where
    both : (z : Bool) → ◌≡◌ {A = Option OperandPair} (cond z None None) None
    both true = refl
    both false = refl

-- to the target's end
pub goes_to-end : (subs : List DebugSubstitution) (e : DebugSubstitution) → nat_eq e.subreg 0 ≡ true → (resolve subs e.dst ≡ Some e.src → ⊥) →
    goes_to subs e ≡ resolve subs e.dst
goes_to-end subs e whole ne =
    ap (λ (z : Bool). cond z (redirected e.src None (resolve subs e.dst)) None) whole ∙ redirected-else e.src None (resolve subs e.dst) ne

module _ (subs : List DebugSubstitution) (e : DebugSubstitution) (free : entry_of subs e.src ≡ None) where
  abbrev more : List DebugSubstitution
  more = subs ++ e ∷ []

  -- the entry of a pair that isn't the new one's source, and of the source
  entry_else : (q : OperandPair) → is_pair e.src q ≡ false → entry_of more q ≡ entry_of subs q
  entry_else q other = entry_of-push subs e q free ∙ ap (λ (z : Bool). cond z (Some e) (entry_of subs q)) other

  entry_new : (q : OperandPair) → is_pair e.src q ≡ true → entry_of more q ≡ Some e
  entry_new q is = entry_of-push subs e q free ∙ ap (λ (z : Bool). cond z (Some e) (entry_of subs q)) is

  -- a pair with an entry isn't the new one's source
  has_other : (q : OperandPair) (x : DebugSubstitution) → entry_of subs q ≡ Some x → is_pair e.src q ≡ false
  has_other q x has = by_test (is_pair e.src q) refl where
    by_test : (z : Bool) → is_pair e.src q ≡ z → z ≡ false
    by_test true is =
        let bad : ◌≡◌ {A = Option DebugSubstitution} None (Some x) = sym free ∙ ap (entry_of subs) (is_pair-true e.src q is) ∙ has in cc
    by_test false is = refl

  -- a chain that ended at the new one's source goes on from there
  goes_on : (q r s : OperandPair) → Ends subs q s → s ≡ e.src → Ends more e.src r → Ends more q r
  goes_on q r s (at none) same from = subst (λ (p : OperandPair). Ends more p r) (sym same) from
  goes_on q r s (by x has whole rest) same from = by x (entry_else q (has_other q x has) ∙ has) whole (goes_on x.dst r s rest same from)

  -- one that ended elsewhere ends there still
  stays : (q r : OperandPair) → Ends subs q r → is_pair e.src r ≡ false → Ends more q r
  stays q r (at none) other = at (entry_else q other ∙ none)
  stays q r (by x has whole rest) other = by x (entry_else q (has_other q x has) ∙ has) whole (stays x.dst r rest other)

  -- what the pair resolves to now
  abbrev now : OperandPair → Option OperandPair
  now q = redirected e.src (goes_to subs e) (resolve subs q)

  -- the source's end is the target's
  now-target : (r : OperandPair) → e.subreg ≡ 0 → now e.dst ≡ Some r → goes_to subs e ≡ Some r
  now-target r whole is =
      let here : goes_to subs e ≡ redirected e.src None (resolve subs e.dst) =
      ap (λ (z : Bool). cond z (redirected e.src None (resolve subs e.dst)) None) (eq-eqb e.subreg 0 whole) in
      here ∙ by_end (resolve subs e.dst) here is
    where
      by_test : (z : Bool) (p : OperandPair) → goes_to subs e ≡ cond z None (Some p) → cond z (goes_to subs e) (Some p) ≡ Some r →
          cond z None (Some p) ≡ Some r
      by_test true p none h = sym none ∙ h
      by_test false p none h = h

      by_end : (x : Option OperandPair) → goes_to subs e ≡ redirected e.src None x → redirected e.src (goes_to subs e) x ≡ Some r →
          redirected e.src None x ≡ Some r
      by_end None none h = h
      by_end (Some p) none h = by_test (is_pair e.src p) p none h

  now-ends : (q r : OperandPair) → Ends more q r → now q ≡ Some r
  now-ends q r (at none) = by_test (is_pair e.src q) refl where
    by_test : (z : Bool) → is_pair e.src q ≡ z → now q ≡ Some q
    by_test true is = (let bad : ◌≡◌ {A = Option DebugSubstitution} (Some e) None = sym (entry_new q is) ∙ none in cc)
    by_test false other =
        let old : entry_of subs q ≡ None = sym (entry_else q other) ∙ none in
        ap (redirected e.src (goes_to subs e)) (resolve-none subs q old) ∙ ap (λ (z : Bool). cond z (goes_to subs e) (Some q)) other
  now-ends q r (by x has whole rest) = by_test (is_pair e.src q) refl (now-ends x.dst r rest) where
    by_test : (z : Bool) → is_pair e.src q ≡ z → now x.dst ≡ Some r → now q ≡ Some r
    by_test true is later =
        let both : Some e ≡ Some x = sym (entry_new q is) ∙ has in
        let same : e ≡ x = cc in
        let none : entry_of subs q ≡ None = ap (entry_of subs) (sym (is_pair-true e.src q is)) ∙ free in
        let here : resolve subs q ≡ Some e.src = resolve-none subs q none ∙ ap (λ (y : OperandPair). Some y) (sym (is_pair-true e.src q is)) in
        redirected-at e.src (goes_to subs e) (resolve subs q) here ∙ now-target r (ap (λ (y : DebugSubstitution). y.subreg) same ∙ whole)
        (ap (λ (y : DebugSubstitution). now y.dst) same ∙ later)
    by_test false other later =
        ap (redirected e.src (goes_to subs e)) (resolve-by subs q x (sym (entry_else q other) ∙ has) whole) ∙ later

  -- the source's chain now
  source-ends : (r : OperandPair) → goes_to subs e ≡ Some r → Ends more e.src r
  source-ends r is = by_whole (nat_eq e.subreg 0) refl is where
    by_test : (p : OperandPair) → resolve subs e.dst ≡ Some p → nat_eq e.subreg 0 ≡ true → (z : Bool) → is_pair e.src p ≡ z →
        cond z None (Some p) ≡ Some r → Ends more e.src r
    by_test p old whole true t h = (let bad : ◌≡◌ {A = Option OperandPair} None (Some r) = h in cc)
    by_test p old whole false other h =
        let both : Some p ≡ Some r = h in
        let same : p ≡ r = cc in
        let rest : Ends more e.dst p = stays e.dst p (resolve_ends subs e.dst p old) other in
        by e (entry_new e.src (is_pair-same e.src)) (eqb-true e.subreg 0 whole) (subst (λ (y : OperandPair). Ends more e.dst y) same rest)

    by_end : (x : Option OperandPair) → resolve subs e.dst ≡ x → nat_eq e.subreg 0 ≡ true → redirected e.src None x ≡ Some r → Ends more e.src r
    by_end None old whole h = (let bad : ◌≡◌ {A = Option OperandPair} None (Some r) = h in cc)
    by_end (Some p) old whole h = by_test p old whole (is_pair e.src p) refl h

    by_whole : (z : Bool) → nat_eq e.subreg 0 ≡ z → cond z (redirected e.src None (resolve subs e.dst)) None ≡ Some r → Ends more e.src r
    by_whole true whole h = by_end (resolve subs e.dst) refl whole h
    by_whole false whole h = (let bad : ◌≡◌ {A = Option OperandPair} None (Some r) = h in cc)

  ends-now : (q r : OperandPair) → now q ≡ Some r → Ends more q r
  ends-now q r is = by_end (resolve subs q) refl is where
    by_test : (p : OperandPair) → resolve subs q ≡ Some p → (z : Bool) → is_pair e.src p ≡ z → cond z (goes_to subs e) (Some p) ≡ Some r → Ends more q r
    by_test p old true t h = goes_on q r p (resolve_ends subs q p old) (sym (is_pair-true e.src p t)) (source-ends r h)
    by_test p old false other h =
        let both : Some p ≡ Some r = h in
        let same : p ≡ r = cc in
        subst (λ (y : OperandPair). Ends more q y) same (stays q p (resolve_ends subs q p old) other)

    by_end : (x : Option OperandPair) → resolve subs q ≡ x → redirected e.src (goes_to subs e) x ≡ Some r → Ends more q r
    by_end None old h = (let bad : ◌≡◌ {A = Option OperandPair} None (Some r) = h in cc)
    by_end (Some p) old h = by_test p old (is_pair e.src p) refl h

  -- with one entry more
  pub resolve-added : (q : OperandPair) → resolve more q ≡ now q
  resolve-added q =
      same_end (resolve more q) (now q) (λ r is. now-ends q r (resolve_ends more q r is)) (λ r is. ends_resolve more q r (ends-now q r is))
