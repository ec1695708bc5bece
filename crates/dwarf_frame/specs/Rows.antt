-- The unwinding rules of an address (DWARF 5 section 6.4.1).
use Rattle.std.specs.Prelude.{◌≡◌, ◌≢◌, ℕ, ◌+◌, ◌≤◌, List, [], ◌∷◌, Option, Some, None, suc, nat_le, nat_lt, ◌&&◌, ◌==◌}
use Rattle.std.specs.Prelude.{if◌then◌else◌}
use Rattle.std.specs.Option.{option_map}
use Rattle.std.specs.List.{list_any}
use Rattle.dwarf_frame.specs.declared.table.FrameRow.{FrameRow}
use Rattle.dwarf_frame.specs.declared.table.Row.{Row}
use Rattle.dwarf_frame.specs.declared.table.FrameDescription.{FrameDescription}
use Rattle.dwarf_frame.specs.declared.table.RegisterRule.{RegisterRule}
use Rattle.dwarf_frame.specs.declared.table.RegisterRule.TheVariants.{SameValue, Below, FrameAddress, Undefined}
use Rattle.dwarf_frame.specs.declared.table.UnwindingRules.{UnwindingRules}
use Rattle.dwarf_frame.specs.Standard.{STACK_POINTER}
use Rattle.dwarf_frame.specs.Table.{initial}
use Rattle.dwarf_frame.specs.FirstFault.{IsSection}

-- what rows say of an address: what the last one says at or before it, and without such a row `before`
abbrev pub rules_after : FrameRow → List Row → ℕ → FrameRow
rules_after before [] address = before
rules_after before (r ∷ rows) address = rules_after (if nat_le r.address address then r.rules else before) rows address

-- what a row says of an address, by the first function whose range contains it, and None if there is none
abbrev pub rules_in : List FrameDescription → ℕ → Option FrameRow
rules_in [] address = None
rules_in (f ∷ functions) address =
    if nat_le f.start address && nat_lt address (f.start + f.size) then Some (rules_after (initial f.start).rules f.rows address)
    else rules_in functions address

-- the rule of a register by where it is saved, with the registers whose values a function may lose (section 6.4.1)
abbrev pub rule_of : (undefined : List ℕ) (register : ℕ) → Option ℕ → RegisterRule
rule_of undefined register (Some distance) = Below distance
rule_of undefined register None =
    if register == STACK_POINTER then FrameAddress
    else if list_any (λ lost. lost == register) undefined then Undefined
    else SameValue

-- the rules of registers from this one on
abbrev pub rules_from : (undefined : List ℕ) (register : ℕ) → List (Option ℕ) → List RegisterRule
rules_from undefined register [] = []
rules_from undefined register (saved ∷ others) = rule_of undefined register saved ∷ rules_from undefined (suc register) others

-- the rules that a row stands for
abbrev pub unwinding : (undefined : List ℕ) → FrameRow → UnwindingRules
unwinding undefined row = record { cfa_offset = row.cfa_offset; registers = rules_from undefined 0 row.saved }

-- the rules of an address by the first function whose range contains it, and None if there is none
abbrev pub unwinding_in : (undefined : List ℕ) → List FrameDescription → ℕ → Option UnwindingRules
unwinding_in undefined functions address = option_map (unwinding undefined) (rules_in functions address)

-- the rules of an address by a section
pub record RulesAt (undefined bytes : List ℕ) (address : ℕ) (rules : UnwindingRules) : Type 0 where
  pub functions : List FrameDescription
  pub section : IsSection undefined bytes functions
  pub found : unwinding_in undefined functions address ≡ Some rules

-- the rows of the rules at successive addresses, after an address with rules `before`: one where the rules change
pub data Changes : (before : FrameRow) (entries rows : List Row) → Type 0 where
  NoEntry : {before : FrameRow} → Changes before [] []
  Same : {before : FrameRow} {e : Row} {entries rows : List Row} → e.rules ≡ before → Changes before entries rows → Changes before (e ∷ entries) rows
  Other : {before : FrameRow} {e : Row} {entries rows : List Row}
      → e.rules ≢ before → Changes e.rules entries rows → Changes before (e ∷ entries) (e ∷ rows)

-- the addresses ascend from an address on
abbrev pub AscendFrom : ℕ → List Row → Type 0
AscendFrom from [] = Unit {0}
AscendFrom from (e ∷ entries) = (from ≤ e.address) × AscendFrom (e.address + 1) entries

-- each function begins at the end of the one before, or later
abbrev pub AreApart : ℕ → List FrameDescription → Type 0
AreApart from [] = Unit {0}
AreApart from (f ∷ functions) = (from ≤ f.start) × AreApart (f.start + f.size) functions
