-- Entries that are added to substitutions: those that were there are found as before, and a new one where none was.
use Rattle.std.proofs.Common.{◌≡◌, ℕ, List, [], ◌∷◌, ◌++◌, Bool, true, false, cond, Option, Some, None, is_some, refl, ap, ◌∙◌}
use Rattle.mir_func.specs.declared.debug_substitution.DebugSubstitution.{DebugSubstitution}
use Rattle.mir_func.specs.declared.debug_substitution.OperandPair.{OperandPair}
use Rattle.mir_func.specs.Resolve.{is_pair, entry_of}
use Rattle.pass_salvage.specs.pass_trait.Rule.{first_operand}
use Rattle.pass_salvage.specs.Salvage.{entry_for}
use Rattle.pass_salvage.proofs.mir_substitution.Entries.{is_pair-same, entry_of-push}

pub entered_more : (subs more : List DebugSubstitution) (q : OperandPair) (e : DebugSubstitution) → entry_of subs q ≡ Some e →
    entry_of (subs ++ more) q ≡ Some e
entered_more [] more q e is = cc
entered_more (x ∷ xs) more q e is = by_test (is_pair x.src q) is (entered_more xs more q e) where
  by_test : (z : Bool) → cond z (Some x) (entry_of xs q) ≡ Some e → (entry_of xs q ≡ Some e → entry_of (xs ++ more) q ≡ Some e) →
      cond z (Some x) (entry_of (xs ++ more) q) ≡ Some e
  by_test true h rec = h
  by_test false h rec = rec h

-- the entry that is added
pub entry_added : (subs : List DebugSubstitution) (k n o : ℕ) → entry_of subs (first_operand k) ≡ None →
    entry_of (subs ++ entry_for k n o ∷ []) (first_operand k) ≡ Some (entry_for k n o)
entry_added subs k n o none =
    entry_of-push subs (entry_for k n o) (first_operand k) none ∙
    ap (λ (z : Bool). cond z (Some (entry_for k n o)) (entry_of subs (first_operand k))) (is_pair-same (first_operand k))

pub none_there : (x : Option DebugSubstitution) → is_some x ≡ false → x ≡ None
none_there None e = refl
none_there (Some y) e = cc
