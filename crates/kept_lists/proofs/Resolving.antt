-- Entries that are added one after the other: the first one of a source counts.
use Rattle.std.proofs.Common.{◌≡◌, List, [], ◌∷◌, ◌++◌, refl, sym, ◌∙◌, ap}
use Rattle.std.specs.Prelude.{Option, Some, None, Bool, true, false, cond, is_some}
use Rattle.mir_func.specs.declared.debug_substitution.OperandPair.{OperandPair}
use Rattle.mir_func.specs.declared.debug_substitution.DebugSubstitution.{DebugSubstitution}
use Rattle.mir_func.specs.Resolve.{is_pair, entry_of, resolve, Ends, at, by}
use Rattle.mir_substitution.specs.Added.{added}
use Rattle.mir_substitution.proofs.Chains.{resolve_ends, ends_resolve}
use Rattle.mir_substitution.proofs.Entries.{is_pair-true}

-- the entry of a pair, and otherwise another one
or_entry : Option DebugSubstitution → Option DebugSubstitution → Option DebugSubstitution
or_entry None o = o
or_entry (Some e) o = Some e

entry_in_both : (xs ys : List DebugSubstitution) (q : OperandPair) → entry_of (xs ++ ys) q ≡ or_entry (entry_of xs q) (entry_of ys q)
unfolding or_entry
entry_in_both [] ys q = refl
entry_in_both (x ∷ xs) ys q = by_test (is_pair x.src q) (entry_in_both xs ys q) where
  by_test : (b : Bool) → entry_of (xs ++ ys) q ≡ or_entry (entry_of xs q) (entry_of ys q) →
      cond b (Some x) (entry_of (xs ++ ys) q) ≡ or_entry (cond b (Some x) (entry_of xs q)) (entry_of ys q)
  by_test true e = refl
  by_test false e = e

-- one entry whose source has an entry already changes no pair's entry
taken : (subs : List DebugSubstitution) (e : DebugSubstitution) (q : OperandPair) → is_some (entry_of subs e.src) ≡ true →
    entry_of subs q ≡ or_entry (entry_of subs q) (entry_of (e ∷ []) q)
unfolding or_entry
taken subs e q some = by_entry (entry_of subs q) refl where
  by_pair : (b : Bool) → is_pair e.src q ≡ b → entry_of subs q ≡ None → None ≡ cond b (Some e) None
  by_pair false is none = refl
  by_pair true is none =
      let there : entry_of subs e.src ≡ None = ap (entry_of subs) (is_pair-true e.src q is) ∙ none in
      absurd (let no : false ≡ true = sym (ap (λ (o : Option DebugSubstitution). is_some o) there) ∙ some in cc)

  by_entry : (o : Option DebugSubstitution) → entry_of subs q ≡ o → o ≡ or_entry o (entry_of (e ∷ []) q)
  by_entry None none = by_pair (is_pair e.src q) refl none
  by_entry (Some x) is = refl

pub entry_added : (subs : List DebugSubstitution) (e : DebugSubstitution) (q : OperandPair) → entry_of (added subs e) q ≡ entry_of (subs ++ e ∷ []) q
entry_added subs e q = by_test (is_some (entry_of subs e.src)) refl where
  by_test : (b : Bool) → is_some (entry_of subs e.src) ≡ b → entry_of (cond b subs (subs ++ e ∷ [])) q ≡ entry_of (subs ++ e ∷ []) q
  by_test false none = refl
  by_test true some = taken subs e q some ∙ sym (entry_in_both subs (e ∷ []) q)

-- the same after entries of which each pair has the same entry
pub entry_both : (xs ys : List DebugSubstitution) (e : DebugSubstitution) (q : OperandPair) → entry_of xs q ≡ entry_of ys q →
    entry_of (xs ++ e ∷ []) q ≡ entry_of (ys ++ e ∷ []) q
entry_both xs ys e q same =
    entry_in_both xs (e ∷ []) q ∙ ap (λ (o : Option DebugSubstitution). or_entry o (entry_of (e ∷ []) q)) same ∙ sym (entry_in_both ys (e ∷ []) q)

-- ---- chains

module _ (xs ys : List DebugSubstitution) (same : (q : OperandPair) → entry_of xs q ≡ entry_of ys q) where
  ends : (q r : OperandPair) → Ends xs q r → Ends ys q r
  ends q r (at none) = at (sym (same q) ∙ none)
  ends q r (by e is whole rest) = by e (sym (same q) ∙ is) whole (ends e.dst r rest)

same_end : (x y : Option OperandPair) → ((r : OperandPair) → x ≡ Some r → y ≡ Some r) → ((r : OperandPair) → y ≡ Some r → x ≡ Some r) → x ≡ y
same_end None None f g = refl
same_end None (Some r) f g = g r refl
same_end (Some r) y f g = sym (f r refl)

pub resolve_alike : (xs ys : List DebugSubstitution) → ((q : OperandPair) → entry_of xs q ≡ entry_of ys q) → resolve xs ≡ resolve ys
resolve_alike xs ys same = λ i q. at_pair q i where
  at_pair : (q : OperandPair) → resolve xs q ≡ resolve ys q
  at_pair q =
      same_end (resolve xs q) (resolve ys q) (λ r is. ends_resolve ys q r (ends xs ys same q r (resolve_ends xs q r is)))
      (λ r is. ends_resolve xs q r (ends ys xs (λ p. sym (same p)) q r (resolve_ends ys q r is)))
