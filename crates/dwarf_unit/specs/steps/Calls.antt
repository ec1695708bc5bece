-- The entries of calls before their variables are known, and while these are gone through.
use Rattle.std.specs.Prelude.{◌≡◌, ℕ, suc, Bool, List, [], ◌∷◌, ◌++◌, length, Option, Some, None, cond, nat_eq}
use Rattle.std.specs.List.{position_or_len}
use Rattle.std.specs.Option.{option_eq, option_and_then}
use Rattle.dwarf_info.specs.declared.inlined.InlinedCall.{InlinedCall}
use Rattle.dwarf_info.specs.declared.unit.VariableEntry.{VariableEntry}
use Rattle.read_metadata.specs.Maps.{Maps}
use Rattle.read_metadata.specs.Metadata.{location_at}
use Rattle.mir_func.specs.declared.variable.VarId.{VarId}
use Rattle.inline_subroutines.specs.declared.subroutine.InlinedSubroutine.{InlinedSubroutine}
use Rattle.inline_subroutines.specs.inline_instances.Instances.{scope_of_call}
use Rattle.dwarf_unit.specs.Inlined.{line_or_zero, column_or_zero}

-- the entry of a call without variables
abbrev pub empty_call : Maps → (number : Option ℕ → ℕ) → (subprograms : List (Option ℕ)) → InlinedSubroutine → InlinedCall
empty_call meta number subprograms i = record {
  parent = i.parent;
  origin = position_or_len (option_eq nat_eq i.subprogram) subprograms;
  file = number (scope_of_call meta i.call);
  line = line_or_zero (location_at meta i.call);
  column = column_or_zero (location_at meta i.call);
  variables = [];
}

-- the index of the instance of a call, of instances from number k on
abbrev pub place_from : (k : ℕ) → List InlinedSubroutine → (call : ℕ) → Option ℕ
place_from k [] n = None
place_from k (i ∷ is) n = cond (nat_eq n i.call) (Some k) (place_from (suc k) is n)

-- the index of the instance that a variable is of
abbrev pub place_of : List InlinedSubroutine → VarId → Option ℕ
place_of instances v = option_and_then (λ n. place_from 0 instances n) v.inlined_at

-- those of the entries of variables whose variables are kept
abbrev pub kept : (VarId → Bool) → List VarId → List VariableEntry → List VariableEntry
kept keep [] es = []
kept keep (v ∷ vs) [] = []
kept keep (v ∷ vs) (e ∷ es) = cond (keep v) (e ∷ kept keep vs es) (kept keep vs es)

-- a call with more variables
abbrev pub with_more : InlinedCall → List VariableEntry → InlinedCall
with_more c es = record { parent = c.parent; origin = c.origin; file = c.file; line = c.line; column = c.column; variables = c.variables ++ es }

-- calls from number k on, each with those of the entries whose variables are of its instance
abbrev pub filled : List InlinedSubroutine → List VarId → List VariableEntry → (k : ℕ) → List InlinedCall → List InlinedCall
filled instances vs es k [] = []
filled instances vs es k (c ∷ cs) =
    with_more c (kept (λ v. option_eq nat_eq (place_of instances v) (Some k)) vs es) ∷ filled instances vs es (suc k) cs

-- the entries of variables by the instances that these are of
pub record AreDivided (instances : List InlinedSubroutine) (empty : List InlinedCall) (vs : List VarId) (es own : List VariableEntry) (calls : List InlinedCall)
    : Type 0 where
  pub long : length es ≡ length vs
  pub own_are : own ≡ kept (λ v. option_eq nat_eq (place_of instances v) None) vs es
  pub calls_are : calls ≡ filled instances vs es 0 empty
