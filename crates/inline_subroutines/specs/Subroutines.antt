-- The inlined subroutines of a function with the subprograms that were inlined.
use Rattle.std.specs.Prelude.{◌≡◌, ℕ, ◌<◌, false, List, [], ◌∷◌, map, Some, IfSome, nat_eq, slice_get}
use Rattle.std.specs.List.{list_any}
use Rattle.read_metadata.specs.Maps.{Maps}
use Rattle.inline_instances.specs.dwarf_line_table.declared.source_and_code.SourceAndCode.{SourceAndCode}
use Rattle.dwarf_rnglists.specs.declared.range.AddressRange.{AddressRange}
use Rattle.inline_instances.specs.declared.instance.Instance.{Instance}
use Rattle.inline_instances.specs.declared.instance.InlinedCode.{InlinedCode}
use Rattle.inline_instances.specs.Instances.{AreInstances}
use Rattle.inline_subroutines.specs.declared.subroutine.InlinedSubroutine.{InlinedSubroutine}
use Rattle.inline_subroutines.specs.Subprogram.{IsSubprogramOf}

-- the subroutine of an instance, with the instance's ranges
pub record IsOfInstance (meta : Maps) (i : Instance) (own : List AddressRange) (s : InlinedSubroutine) : Type 0 where
  pub call : s.call ≡ i.call
  pub parent : s.parent ≡ i.parent
  pub subprogram : IsSubprogramOf meta i.scope s.subprogram
  pub ranges : s.ranges ≡ own

-- the subroutine of each instance
abbrev pub AreOfInstances : Maps → List Instance → List (List AddressRange) → List InlinedSubroutine → Type 0
AreOfInstances meta [] [] [] = Unit {0}
AreOfInstances meta (i ∷ is) (rs ∷ others) (s ∷ ss) = IsOfInstance meta i rs s × AreOfInstances meta is others ss
AreOfInstances meta _ _ _ = ⊥

-- the inlined subroutines of a function
pub record AreSubroutines (meta : Maps) (f : SourceAndCode) (subroutines : List InlinedSubroutine) : Type 0 where
  pub inlined : InlinedCode
  pub are : AreInstances meta f inlined
  pub each : AreOfInstances meta inlined.instances inlined.ranges subroutines

-- no number is twice in a list
abbrev pub AreDistinct : List ℕ → Type 0
AreDistinct [] = Unit {0}
AreDistinct (n ∷ ns) = (list_any (nat_eq n) ns ≡ false) × AreDistinct ns

-- a call has one subroutine at most, which stands behind the one in whose code it is
pub record AreOrdered (subroutines : List InlinedSubroutine) : Type 0 where
  pub once : AreDistinct (map (λ s. s.call) subroutines)
  pub earlier : (k : ℕ) (s : InlinedSubroutine) → slice_get subroutines k ≡ Some s → IfSome s.parent (λ p. p < k)
