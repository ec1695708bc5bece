use Rattle.std.proofs.Common.{◌≡◌, ◌↔◌, ℕ, List, [], ◌∷◌, nat_eq, IsTrue, refl, subst}
use Rattle.std.specs.Prelude.{IfOk}
use Rattle.std.specs.Option.{unwrap_or}
use Rattle.std.specs.Map.{lookup}
use Rattle.std.specs.HashSet.{contains}
use Rattle.fold_targets.specs.Ends.{end_in}
use Rattle.fold_rule.specs.Reached.{Reached}
use Rattle.fold_rule.proofs.reached.reached_before.Goals as goal

-- a map without entries leaves each number as it is
no_ends : (es : List (ℕ × ℕ)) → es ≡ [] → (n : ℕ) → unwrap_or (lookup (nat_eq n) es) n ≡ n
no_ends [] e n = refl
no_ends (x ∷ xs) e n = cc

pub returns : goal.returns
returns c =
    let same : end_in c.new-own_ends.result ≡ (λ (m : ℕ). m) = λ i n. no_ends c.new-own_ends.result.entries c.new-own_ends.ensures.empty n i in
    subst (λ (end : ℕ → ℕ). IfOk c.reached.result (λ was. (n : ℕ) → IsTrue (contains nat_eq was n) ↔ Reached c.args.blocks.now end n)) same c.reached.ensures
