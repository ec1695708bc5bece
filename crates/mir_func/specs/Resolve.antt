-- Resolution of a pair of a debug instruction number and an operand by substitutions (LLVM, "Instruction referencing for debug
-- info").
use Rattle.std.specs.Prelude.{◌≡◌, ℕ, zero, suc, List, [], ◌∷◌, length, Option, Some, None, Bool, cond, nat_eq, ◌&&◌}
use Rattle.mir_func.specs.declared.debug_substitution.OperandPair.{OperandPair}
use Rattle.mir_func.specs.declared.debug_substitution.DebugSubstitution.{DebugSubstitution}

-- both are the same operand of the same debug instruction number
abbrev pub is_pair : OperandPair → OperandPair → Bool
is_pair p q = nat_eq p.number q.number && nat_eq p.operand q.operand

-- the first entry whose source is the pair
abbrev pub entry_of : List DebugSubstitution → OperandPair → Option DebugSubstitution
entry_of [] q = None
entry_of (e ∷ es) q = cond (is_pair e.src q) (Some e) (entry_of es q)

-- the chain of entries from a pair ends at a pair that has none. A cyclic chain, or one with an entry for a part of a
-- register, doesn't end
pub data Ends (subs : List DebugSubstitution) : OperandPair → OperandPair → Type 0 where
  at : {q : OperandPair} → entry_of subs q ≡ None → Ends subs q q
  by : {q r : OperandPair} (e : DebugSubstitution) → entry_of subs q ≡ Some e → e.subreg ≡ 0 → Ends subs e.dst r → Ends subs q r

-- the end of a chain of at most so many entries, if it has one
abbrev pub chain_end : List DebugSubstitution → ℕ → OperandPair → Option OperandPair
chain_end subs zero q = elim (entry_of subs q) as (λ _. Option OperandPair) [ None ↦ Some q | Some e ↦ None ]
chain_end subs (suc n) q =
    elim (entry_of subs q) as (λ _. Option OperandPair) [ None ↦ Some q | Some e ↦ cond (nat_eq e.subreg 0) (chain_end subs n e.dst) None ]

-- the pair that a pair resolves to. A chain with more steps than there are entries is cyclic
abbrev pub resolve : List DebugSubstitution → OperandPair → Option OperandPair
resolve subs q = chain_end subs (length subs) q
