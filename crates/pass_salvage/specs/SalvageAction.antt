-- How the debug instruction number of a removed copy is salvaged: from which earlier code it gets its value.
use Rattle.std.specs.Prelude.{ℕ, suc, ◌^◌, List, [], ◌∷◌, drop, Option, Some, None, Bool, true, false, cond, not, ◌&&◌, nat_eq, nat_lt, is_some, slice_get}
use Rattle.std.specs.List.{list_any}
use Rattle.rv64_instr.specs.declared.operand.Operand.{Operand}
use Rattle.rv64_instr.specs.declared.place.Place.TheVariants.{Register}
use Rattle.rv64_instr.specs.Row.{row_of}
use Rattle.rv64_instr.specs.LocationEffects.{is_call}
use Rattle.mir_func.specs.declared.debug_substitution.OperandPair.{OperandPair}
use Rattle.mir_func.specs.declared.debug_substitution.DebugSubstitution.{DebugSubstitution}
use Rattle.mir_func.specs.declared.item.Item.{Item}
use Rattle.mir_func.specs.declared.item.ItemKind.{ItemKind}
use Rattle.mir_func.specs.declared.item.ItemKind.TheVariants.{Code, Mark, Phi}
use Rattle.mir_func.specs.declared.variable.MarkValue.TheVariants.{Nothing, Constant, At, Pair}
use Rattle.mir_func.specs.Resolve.{is_pair, entry_of, resolve}
use Rattle.sem_agreement.specs.sem_mir.Step.{defined}
use Rattle.pass_trait.specs.Causes.{defines}
use Rattle.pass_trait.specs.Rule.{first_operand}
use Rattle.pass_salvage.specs.declared.salvage_action.SalvageAction.{SalvageAction}
use Rattle.pass_salvage.specs.declared.salvage_action.SalvageAction.TheVariants.{HasEntry, GetsEntry, GetsPhi}

-- the indices of what is removed, counted from this one on
abbrev pub going_from : (index : ℕ) → (removed : List Bool) → List ℕ
going_from n [] = []
going_from n (true ∷ rs) = n ∷ going_from (suc n) rs
going_from n (false ∷ rs) = going_from (suc n) rs

-- the index one further on if there is one, or 0 if this item counts
abbrev pub further : Option ℕ → (here : Bool) → Option ℕ
further (Some n) here = Some (suc n)
further None true = Some 0
further None false = None

-- the index of the last code that defines the register
abbrev pub last_definition : (s : ℕ) → List Item → Option ℕ
last_definition s [] = None
last_definition s (x ∷ xs) = further (last_definition s xs) (defines (Register s) x.kind)

-- the optional register is this one
abbrev pub is_register : (s : ℕ) → Option ℕ → Bool
is_register s (Some r) = nat_eq r s
is_register s None = false

-- the index, counted from this operand, of the first operand that counts, of this one and those after it
abbrev pub here_or : (here : Bool) → Option ℕ → Option ℕ
here_or true later = Some 0
here_or false (Some n) = Some (suc n)
here_or false None = None

-- the index of the first operand that defines the register; an implicit definition counts only on calls
abbrev pub first_definition : (call : Bool) → (s : ℕ) → List Operand → Option ℕ
first_definition call s [] = None
first_definition call s (o ∷ os) = here_or (is_register s (defined call (Some o))) (first_definition call s os)

-- the optional pair is this one
abbrev pub is_just : OperandPair → Option OperandPair → Bool
is_just p (Some q) = is_pair p q
is_just p None = false

-- a debug value of a pair that resolves to operand 0 of this number
abbrev pub asks_for : List DebugSubstitution → (k : ℕ) → ItemKind → Bool
asks_for subs k (Mark v (Pair q)) = is_just (first_operand k) (resolve subs q)
asks_for subs k (Mark v Nothing) = false
asks_for subs k (Mark v (Constant n)) = false
asks_for subs k (Mark v (At r)) = false
asks_for subs k (Phi p n) = false
asks_for subs k (Code i n) = false

-- the pair of this number and operand has a substitution
abbrev pub has_entry : List DebugSubstitution → Option ℕ → (operand : ℕ) → Bool
has_entry subs (Some n) o = is_some (entry_of subs (record { number = n; operand = o }))
has_entry subs None o = false

-- the number of the code, or the fresh number if it has none
abbrev pub or_fresh : (fresh : ℕ) → Option ℕ → ℕ
or_fresh fresh (Some n) = n
or_fresh fresh None = fresh

-- Code at index d can replace the copy of number k in debug information, by this operand, if the operand's index fits in 32 bits,
-- the code isn't removed itself, the pair of its number and the operand has no substitution, and no debug value between it and the
-- copy refers to the copy's number
abbrev pub may_stand : (removed : List ℕ) → List DebugSubstitution → (k d : ℕ) → (number : Option ℕ) → (operand : ℕ) → (behind : List Item) → Bool
may_stand removed subs k d n o behind =
    nat_lt o (2 ^ 32) && not (list_any (nat_eq d) removed) && not (has_entry subs n o) && not (list_any (λ x. asks_for subs k x.kind) behind)

-- the choice by the operand of the code at index d that defines s, if one does
abbrev pub action_by : (removed : List ℕ) → List DebugSubstitution → (fresh k d : ℕ) → (number operand : Option ℕ) → (behind : List Item) → SalvageAction
action_by removed subs fresh k d n None behind = GetsPhi
action_by removed subs fresh k d n (Some o) behind = cond (may_stand removed subs k d n o behind) (GetsEntry d o (or_fresh fresh n)) GetsPhi

-- the choice by the item at index d, which defines s: its code may replace the copy, and otherwise the copy becomes a DBG_PHI
abbrev pub action_of_kind : (removed : List ℕ) → List DebugSubstitution → (fresh k s d : ℕ) → (above : List Item) → ItemKind → SalvageAction
action_of_kind removed subs fresh k s d above (Code i n) =
    action_by removed subs fresh k d n (first_definition (is_call (row_of i)) s i.operands) (drop (suc d) above)
action_of_kind removed subs fresh k s d above (Mark v m) = GetsPhi
action_of_kind removed subs fresh k s d above (Phi p n) = GetsPhi

-- the choice by the item at index d of the items above the copy
abbrev pub action_at : (removed : List ℕ) → List DebugSubstitution → (fresh k s d : ℕ) → (above : List Item) → Option Item → SalvageAction
action_at removed subs fresh k s d above (Some x) = action_of_kind removed subs fresh k s d above x.kind
action_at removed subs fresh k s d above None = GetsPhi

-- the choice by the last definition of s above the copy, if there is one
abbrev pub action_from : (removed : List ℕ) → List DebugSubstitution → (fresh k s : ℕ) → (above : List Item) → Option ℕ → SalvageAction
action_from removed subs fresh k s above (Some d) = action_at removed subs fresh k s d above (slice_get above d)
action_from removed subs fresh k s above None = GetsPhi

-- How the number k of a removed copy of s is salvaged, below these items of its block; those at the indices in `removed` are
-- removed too
abbrev pub salvage_action : (removed : List ℕ) → List DebugSubstitution → (fresh k s : ℕ) → (above : List Item) → SalvageAction
salvage_action removed subs fresh k s above = cond (has_entry subs (Some k) 0) HasEntry (action_from removed subs fresh k s above (last_definition s above))
