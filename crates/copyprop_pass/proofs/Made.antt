-- The function without its copies is one.
use Rattle.std.proofs.Common.{◌≡◌, List, sym, subst}
use Rattle.mir_func.specs.declared.block.Block.{Block}
use Rattle.mir_func.specs.declared.debug_substitution.DebugSubstitution.{DebugSubstitution}
use Rattle.mir_func.specs.Function.{Function}
use Rattle.mir_func.specs.Sound.{IsSound}
use Rattle.copyprop_proof.specs.copyprop_rule.Rule.{salvaged_function}
use Rattle.copyprop_proof.proofs.Follows.{copies_follow}

pub sound_made : (f : Function) (subs : List DebugSubstitution) (bs : List Block) → IsSound f → bs ≡ (salvaged_function f subs).blocks →
    IsSound (record { name = f.name; slots = f.slots; objects = f.objects; blocks = bs })
sound_made f subs bs sound is =
    subst (λ (cs : List Block). IsSound (record { name = f.name; slots = f.slots; objects = f.objects; blocks = cs })) (sym is) (copies_follow f subs sound).0
