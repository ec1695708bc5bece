use Rattle.std.proofs.Common.{◌≡◌, ℕ, Bool, true, false, not, Option, Some, ap, sym, ◌∙◌, refl}
use Rattle.mir_func.specs.declared.debug_substitution.OperandPair.{OperandPair}
use Rattle.mir_func.specs.declared.debug_substitution.DebugSubstitution.{DebugSubstitution}
use Rattle.std.proofs.Common.{List}
use Rattle.mir_func.specs.Resolve.{is_pair, resolve}
use Rattle.pass_trait.proofs.mir_substitution.Entries.{is_pair-true, is_pair-same}
use Rattle.pass_salvage.specs.SalvageAction.{has_entry}
use Rattle.pass_salvage.proofs.Found.{has_none, has_some}
use Rattle.pass_salvage.proofs.salvage_action.has_entry.Goals as goal

compared : (subs : List DebugSubstitution) (q end : OperandPair) → resolve subs q ≡ Some end → (z : Bool) → is_pair end q ≡ z →
    not z ≡ has_entry subs (Some q.number)
    q.operand
compared subs q end e true same = sym (has_none subs q.number q.operand (e ∙ ap Some (is_pair-true end q same)))
compared subs q end e false apart = sym (has_some subs q.number q.operand (λ f.
    (let w : Some end ≡ Some q = sym e ∙ f in
    let is : end ≡ q = cc in
    let bad : false ≡ true = sym apart ∙ ap (λ (p : OperandPair). is_pair p q) is ∙ is_pair-same q in
    cc)))

pub returns-in-Some-resolve : goal.returns-in-Some-resolve
returns-in-Some-resolve c =
    let q : OperandPair = record { number = c.in-Some.number; operand = c.args.operand } in
    c.ne.ensures ∙ compared c.args.subs.now q c.in-Some-resolve.end (sym c.resolve.ensures ∙ c.in-Some-resolve.is) (is_pair c.in-Some-resolve.end q) refl ∙
    ap (λ (n : Option ℕ). has_entry c.args.subs.now n c.args.operand) (sym c.in-Some.is)
