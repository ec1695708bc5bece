-- An index of the items above a position of a block: each register's last definition, and the last reference to each
-- number.
use Rattle.std.specs.Prelude.{◌≡◌, ℕ, ◌^◌, List, [], ◌∷◌, Bool, false, cond, nat_eq, nat_lt, Option, Some, None, max, not, ◌&&◌}
use Rattle.std.specs.HashMap.{get}
use Rattle.mir_func.specs.declared.debug_substitution.DebugSubstitution.{DebugSubstitution}
use Rattle.mir_func.specs.declared.item.Item.{Item}
use Rattle.pass_trait.specs.Rule.{first_operand}
use Rattle.pass_salvage.specs.declared.above.Above.{Above}
use Rattle.pass_salvage.specs.declared.salvage_action.SalvageAction.{SalvageAction}
use Rattle.pass_salvage.specs.declared.salvage_action.SalvageAction.TheVariants.{GetsEntry, GetsPhi}
use Rattle.pass_salvage.specs.SalvageAction.{further, last_definition, asks_for, is_just, has_entry, or_fresh}

-- the index of the last debug value of a pair that resolves to operand 0 of the number
abbrev pub last_question : List DebugSubstitution → (k : ℕ) → List Item → Option ℕ
last_question subs k [] = None
last_question subs k (x ∷ xs) = further (last_question subs k xs) (asks_for subs k x.kind)

-- the index maps each register and each number as these items do
pub record IsIndexOf (index : Above) (subs : List DebugSubstitution) (above : List Item) : Type 0 where
  pub definitions : (s : ℕ) → get nat_eq index.definitions s ≡ last_definition s above
  pub questions : (k : ℕ) → get nat_eq index.questions k ≡ last_question subs k above

-- the greater of two optional indices
abbrev pub later : Option ℕ → Option ℕ → Option ℕ
later None q = q
later (Some m) None = Some m
later (Some m) (Some n) = Some (max m n)

-- the optional index is greater than d
abbrev pub is_past : ℕ → Option ℕ → Bool
is_past d (Some m) = nat_lt d m
is_past d None = false

-- references to operand 0 of number k after its substitution by operand o of number n: none are left, and if o is 0
-- those of n include them
abbrev pub moved : (ℕ → Option ℕ) → (k n o : ℕ) → ℕ → Option ℕ
moved f k n o q = cond (nat_eq q k) None (cond (is_just (first_operand q) (Some (record { number = n; operand = o }))) (later (f k) (f q)) (f q))

-- the salvage by code at index d with this number, by this operand, unless it is barred, the operand's index is too
-- large or the pair has a substitution
abbrev pub action_unless : (barred : Bool) → List DebugSubstitution → (fresh d : ℕ) → (number operand : Option ℕ) → SalvageAction
action_unless barred subs fresh d n None = GetsPhi
action_unless barred subs fresh d n (Some o) = cond (nat_lt o (2 ^ 32) && not (has_entry subs n o) && not barred) (GetsEntry d o (or_fresh fresh n)) GetsPhi
