-- The scope that a node stands for, node by node.
use Rattle.std.proofs.Common.{◌≡◌, ℕ, zero, suc, ◌-◌, ◌<◌, Some, None, refl, ap, ◌∙◌, arith}
use Rattle.read_debug_nodes.specs.Maps.{DebugMaps}
use Rattle.scope_variables.specs.Nodes.{file_block_at}
use Rattle.scope_variables.specs.Scope.{past, past_one}

pub past_out : (debug : DebugMaps) (left node : ℕ) → left ≡ 0 → past debug left node ≡ None
unfolding past
past_out debug zero node e = refl
past_out debug (suc left) node e = absurd (omega (arith, e))

pub past_done : (debug : DebugMaps) (left node : ℕ) → 0 < left → file_block_at debug node ≡ None → past debug left node ≡ Some node
unfolding past
past_done debug zero node lt e = absurd (omega (arith, lt))
past_done debug (suc left) node lt e = ap (past_one (λ n. past debug left n) node) e

pub past_none : (debug : DebugMaps) (left node : ℕ) → 0 < left → file_block_at debug node ≡ Some None → past debug left node ≡ None
unfolding past
past_none debug zero node lt e = absurd (omega (arith, lt))
past_none debug (suc left) node lt e = ap (past_one (λ n. past debug left n) node) e

pub past_more : (debug : DebugMaps) (left node scope : ℕ) → 0 < left → file_block_at debug node ≡ Some (Some scope)
    → past debug left node ≡ past debug (left - 1) scope
unfolding past
past_more debug zero node scope lt e = absurd (omega (arith, lt))
past_more debug (suc left) node scope lt e =
    let same : left ≡ suc left - 1 = omega arith in
    ap (past_one (λ n. past debug left n) node) e ∙ ap (λ k. past debug k scope) same
