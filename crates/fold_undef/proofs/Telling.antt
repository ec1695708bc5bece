-- Keys tell kills apart as the rule does.
use Rattle.std.proofs.Common.{◌≡◌, ℕ, Option, Some, None, Bool, true, false, cond, ◌&&◌, ◌||◌, nat_eq, refl, ap, ◌∙◌}
use Rattle.std.specs.Option.{option_eq}
use Rattle.std.specs.HashSet.{HashSet, contains}
use Rattle.mir_func.specs.Parts.{Bytes}
use Rattle.mir_func.specs.declared.location.Loc.{Loc}
use Rattle.mir_func.specs.declared.variable.VarId.{VarId}
use Rattle.mir_func.specs.Variables.{is_same_node, are_same_bytes, is_same}
use Rattle.fold_undef.specs.declared.kill.Kill.{Kill}
use Rattle.fold_undef.specs.declared.kill.Kill.TheVariants.{Part, Number}
use Rattle.fold_undef.specs.Kill.{is_same_kill}
use Rattle.fold_undef.specs.steps.Seen.{Key, is_key, fragment_key, key_of, is_seen}

nodes_are : (a b : Option ℕ) → option_eq nat_eq a b ≡ is_same_node a b
nodes_are None None = refl
nodes_are None (Some n) = refl
nodes_are (Some m) None = refl
nodes_are (Some m) (Some n) = refl

bytes_are : (a b : Option Bytes) →
    option_eq (λ (x : ℕ × ℕ) (y : ℕ × ℕ). nat_eq x.0 y.0 && nat_eq x.1 y.1) (fragment_key a) (fragment_key b) ≡ are_same_bytes a b
bytes_are None None = refl
bytes_are None (Some n) = refl
bytes_are (Some m) None = refl
bytes_are (Some m) (Some n) = refl

keys_are : (v w : VarId) → is_key (key_of v) (key_of w) ≡ is_same v w
keys_are v w =
    let a = nodes_are v.inlined_at w.inlined_at in
    let b = bytes_are v.fragment w.fragment in
    λ i. (nat_eq v.node w.node && a i) && b i

cond_or : (a b : Bool) → cond a true b ≡ (a || b)
cond_or true b = refl
cond_or false b = refl

pub part_seen : {S T : Type 0} (old new : HashSet Key S) (numbers : HashSet ℕ T) (v : VarId) (l : Loc) →
    ((q : Key) → contains is_key new q ≡ cond (is_key (key_of v) q) true (contains is_key old q)) → (k : Kill) →
    is_seen new numbers k ≡ (is_same_kill (Part v l) k || is_seen old numbers k)
part_seen old new numbers v l h (Part w m) =
    h (key_of w) ∙ cond_or (is_key (key_of v) (key_of w)) (contains is_key old (key_of w)) ∙
    ap (λ (z : Bool). z || contains is_key old (key_of w)) (keys_are v w)
part_seen old new numbers v l h (Number k) = refl

pub number_seen : {S T : Type 0} (parts : HashSet Key S) (old new : HashSet ℕ T) (n : ℕ) →
    ((q : ℕ) → contains nat_eq new q ≡ cond (nat_eq n q) true (contains nat_eq old q)) → (k : Kill) →
    is_seen parts new k ≡ (is_same_kill (Number n) k || is_seen parts old k)
number_seen parts old new n h (Part w m) = refl
number_seen parts old new n h (Number k) = h k ∙ cond_or (nat_eq n k) (contains nat_eq old k)
