-- One substitution more, between two pairs that have none: what pairs resolve to.
use Rattle.std.proofs.Common.{◌≡◌, ◌⊎◌, inl, inr, List, [], ◌∷◌, ◌++◌, Option, Some, None, Bool, true, false, cond, refl, sym, ap, ◌∙◌}
use Rattle.mir_func.specs.declared.debug_substitution.OperandPair.{OperandPair}
use Rattle.mir_func.specs.declared.debug_substitution.DebugSubstitution.{DebugSubstitution}
use Rattle.mir_func.specs.Resolve.{is_pair, entry_of, resolve, Ends, at, by}
use Rattle.pass_trait.proofs.mir_substitution.Entries.{is_pair-true, is_pair-same, entry_of-push}
use Rattle.pass_trait.proofs.mir_substitution.Chains.{resolve_ends, ends_resolve}

module _ (subs : List DebugSubstitution) (e : DebugSubstitution) (whole : e.subreg ≡ 0) (free : entry_of subs e.src ≡ None) (end : entry_of subs e.dst ≡ None)
    (apart : e.src ≡ e.dst → ⊥) where
  abbrev more : List DebugSubstitution
  more = subs ++ e ∷ []

  -- the entry of a pair that is no source of the new one, and of that source
  entry_else : (q : OperandPair) → is_pair e.src q ≡ false → entry_of more q ≡ entry_of subs q
  entry_else q other = entry_of-push subs e q free ∙ ap (λ (z : Bool). cond z (Some e) (entry_of subs q)) other

  entry_new : (q : OperandPair) → is_pair e.src q ≡ true → entry_of more q ≡ Some e
  entry_new q is = entry_of-push subs e q free ∙ ap (λ (z : Bool). cond z (Some e) (entry_of subs q)) is

  is_false : (p q : OperandPair) → (p ≡ q → ⊥) → is_pair p q ≡ false
  is_false p q ne = by_test (is_pair p q) refl where
    by_test : (z : Bool) → is_pair p q ≡ z → z ≡ false
    by_test true t = absurd (ne (is_pair-true p q t))
    by_test false t = refl

  -- a pair with an entry isn't the new one's source
  has_other : (q : OperandPair) (x : DebugSubstitution) → entry_of subs q ≡ Some x → is_pair e.src q ≡ false
  has_other q x has = is_false e.src q (λ same. (let bad : ◌≡◌ {A = Option DebugSubstitution} None (Some x) = sym free ∙ ap (entry_of subs) same ∙ has in cc))

  -- a chain that ended at the new one's source goes on to its target
  goes_further : (q r : OperandPair) → Ends subs q r → r ≡ e.src → Ends more q e.dst
  goes_further q r (at none) same =
      let last : entry_of more e.dst ≡ None = entry_else e.dst (is_false e.src e.dst apart) ∙ end in
      by e (entry_new q (ap (λ (p : OperandPair). is_pair p q) (sym same) ∙ is_pair-same q)) whole (at last)
  goes_further q r (by x has part rest) same = by x (entry_else q (has_other q x has) ∙ has) part (goes_further x.dst r rest same)

  -- one that ended elsewhere ends there still
  stays_there : (q r : OperandPair) → Ends subs q r → (r ≡ e.src → ⊥) → Ends more q r
  stays_there q r (at none) ne = at (entry_else q (is_false e.src q (λ same. ne (sym same))) ∙ none)
  stays_there q r (by x has part rest) ne = by x (entry_else q (has_other q x has) ∙ has) part (stays_there x.dst r rest ne)

  -- and one that ends now ended before
  ended_before : (q r : OperandPair) → Ends more q r → (t : OperandPair) × Ends subs q t
  ended_before q r (at none) = by_test (is_pair e.src q) refl where
    by_test : (z : Bool) → is_pair e.src q ≡ z → (t : OperandPair) × Ends subs q t
    by_test true is = (let bad : ◌≡◌ {A = Option DebugSubstitution} (Some e) None = sym (entry_new q is) ∙ none in cc)
    by_test false other = (q, at (sym (entry_else q other) ∙ none))
  ended_before q r (by x has part rest) = by_test (is_pair e.src q) refl (ended_before x.dst r rest) where
    by_test : (z : Bool) → is_pair e.src q ≡ z → ((t : OperandPair) × Ends subs x.dst t) → (t : OperandPair) × Ends subs q t
    by_test true is later = (q, at (ap (entry_of subs) (sym (is_pair-true e.src q is)) ∙ free))
    by_test false other later = (later.0, by x (sym (entry_else q other) ∙ has) part later.1)

  none_still : (q : OperandPair) → resolve subs q ≡ None → (x : Option OperandPair) → resolve more q ≡ x → x ≡ None
  none_still q none None is = refl
  none_still q none (Some r) is =
      let w = ended_before q r (resolve_ends more q r is) in
      let bad : ◌≡◌ {A = Option OperandPair} None (Some w.0) = sym none ∙ ends_resolve subs q w.0 w.1 in
      cc

  -- what a pair resolves to is what it did, but that the target stands for the source
  pub one_more : (q : OperandPair) → ((resolve subs q ≡ Some e.src) × (resolve more q ≡ Some e.dst)) ⊎
      ((resolve subs q ≡ Some e.src → ⊥) × (resolve more q ≡ resolve subs q))
  one_more q = by_end (resolve subs q) refl where
    by_end : (x : Option OperandPair) → resolve subs q ≡ x → ((resolve subs q ≡ Some e.src) × (resolve more q ≡ Some e.dst)) ⊎
        ((resolve subs q ≡ Some e.src → ⊥) × (resolve more q ≡ resolve subs q))
    by_end None is = inr (
      λ same. (let bad : ◌≡◌ {A = Option OperandPair} None (Some e.src) = sym is ∙ same in cc),
      none_still q is (resolve more q) refl ∙ sym is,
    )
    by_end (Some r) is = by_test (is_pair r e.src) refl where
      by_test : (z : Bool) → is_pair r e.src ≡ z → ((resolve subs q ≡ Some e.src) × (resolve more q ≡ Some e.dst)) ⊎
          ((resolve subs q ≡ Some e.src → ⊥) × (resolve more q ≡ resolve subs q))
      by_test true t =
          let same : r ≡ e.src = is_pair-true r e.src t in
          inl (is ∙ ap Some same, ends_resolve more q e.dst (goes_further q r (resolve_ends subs q r is) same))
      by_test false t =
          let ne : r ≡ e.src → ⊥ = λ same. (let bad : true ≡ false = sym (is_pair-same e.src) ∙ ap (λ (p : OperandPair). is_pair p e.src) (sym same) ∙ t in
          cc) in
          inr (
            λ w. (let both : Some r ≡ Some e.src = sym is ∙ w in let same : r ≡ e.src = cc in ne same),
            ends_resolve more q r (stays_there q r (resolve_ends subs q r is) ne) ∙ sym is,
          )
