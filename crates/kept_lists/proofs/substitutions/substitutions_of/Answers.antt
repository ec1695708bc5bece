use Rattle.std.proofs.Common.{◌≡◌, ℕ, suc, ◌+◌, ◌++◌, List, [], ◌∷◌, take, arith, sym, ◌∙◌, ap, take-suc, take_all}
use Rattle.mir_func.specs.declared.debug_substitution.DebugSubstitution.{DebugSubstitution}
use Rattle.mir_func.specs.Resolve.{entry_of}
use Rattle.kept_lists.proofs.Resolving.{entry_added, entry_both, resolve_alike}
use Rattle.kept_lists.proofs.substitutions.substitutions_of.Goals as goal

pub loop-entry-preserved : goal.loop-entry-preserved
loop-entry-preserved c = λ q.
    let i = c.loop-entry.entry-index in
    let entries = c.args.entries.now in
    let e = c.entry-item.result in
    let old = c.loop-entry.subs in
    let more : take (suc i) entries ≡ take i entries ++ e ∷ [] = take-suc entries i e c.loop-entry-test.true
    ∙ ap (λ (x : DebugSubstitution). take i entries ++ x ∷ []) (sym c.entry-item.is) in
    let one : suc i ≡ i + 1 = omega arith in
    let next : take (suc i) entries ≡ take (i + 1) entries = ap (λ (n : ℕ). take n entries) one in
    ap (λ (xs : List DebugSubstitution). entry_of xs q) c.in_ok-add.ensures.ok
    ∙ (entry_added old e q
    ∙ (entry_both old (take i entries) e q (c.loop-entry.invariant q) ∙ ap (λ (xs : List DebugSubstitution). entry_of xs q) (sym more ∙ next)))

pub returns : goal.returns
returns c =
    let entries = c.args.entries.now in
    let all : take c.loop-entry.entry-index entries ≡ entries = take_all c.loop-entry.entry-index entries (omega arith) in
    resolve_alike c.loop-entry.subs entries (λ q. c.loop-entry.invariant q ∙ ap (λ (xs : List DebugSubstitution). entry_of xs q) all)
