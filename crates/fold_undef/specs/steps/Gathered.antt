-- Kills, grouped by the ends of chains.
use Rattle.std.specs.Prelude.{ℕ, List, [], ◌++◌, map, Option, cond, nat_eq}
use Rattle.std.specs.List.{flat_map}
use Rattle.std.specs.Option.{unwrap_or}
use Rattle.std.specs.HashMap.{HashMap, get}
use Rattle.mir_func.specs.declared.block.Block.{Block}
use Rattle.fold_rule_proof.specs.fold_rule.Tails.{is_number}
use Rattle.fold_rule_proof.specs.Kills.{once}
use Rattle.fold_undef.specs.declared.kill.Kill.{Kill}
use Rattle.fold_undef.specs.Kill.{kill_item, kills_in}

-- the kills for an end; none if the map doesn't have it
abbrev pub kills_at : {S : Type 0} → HashMap ℕ (List Kill) S → ℕ → List Kill
kills_at m e = unwrap_or (get nat_eq m e) []

-- the kills of the bypassed blocks whose chains end at block e; `past n` is the end of block n's chain, if block n is
-- bypassed
abbrev pub kills_to : (past : ℕ → Option ℕ) (e : ℕ) → List Block → List Kill
kills_to past e blocks = flat_map (λ b. cond (is_number (past b.id) e) (kills_in b.items) []) blocks

abbrev pub with_kills_of : (ℕ → List Kill) → Block → Block
with_kills_of kills b = record b { items = once (map (kill_item b.id) (kills b.id)) ++ b.items }
