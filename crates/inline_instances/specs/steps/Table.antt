-- The table of a function's instances while its instructions are walked.
use Rattle.std.specs.Prelude.{◌≡◌, ℕ, ◌<◌, ◌≤◌, List, [], ◌∷◌, ◌++◌, length, map, reverse, Option, Some, nat_eq, slice_get, IfSome}
use Rattle.read_metadata.specs.Maps.{Maps}
use Rattle.read_item.specs.Debug.{inlined_at}
use Rattle.mir_func.specs.declared.location.Loc.{Loc}
use Rattle.dwarf_line_table.specs.Files.{first_uses}
use Rattle.dwarf_line_table.specs.SourcePosition.{scope_line}
use Rattle.inline_instances.specs.declared.table.InstanceTable.{InstanceTable}
use Rattle.inline_instances.specs.declared.instance.Instance.{Instance}
use Rattle.inline_instances.specs.Calls.{IsWay, AreCalls, AreCallsFrom, outer_call}
use Rattle.inline_instances.specs.Instances.{IsIndexOf, scope_in, scope_of_call}
use Rattle.inline_instances.specs.steps.Marks.{AreMarks}

-- the calls of instances
abbrev pub calls_in : List Instance → List ℕ
calls_in instances = map (λ i. i.call) instances

-- an instance is in that of the call through which its own call was inlined, which stands before it
pub record IsPlaced (meta : Maps) (calls : List ℕ) (k : ℕ) (i : Instance) : Type 0 where
  pub parent : IsIndexOf calls i.parent (outer_call meta i.call)
  pub earlier : IfSome i.parent (λ p. p < k)

-- the instances and the marks of nodes are right, but for the calls on a way, which have no instances yet
pub record IsTable (meta : Maps) (way : List ℕ) (t : InstanceTable) : Type 0 where
  pub marks : AreMarks meta (calls_in t.instances.items) way t.marks
  pub placed : (k : ℕ) (i : Instance) → slice_get t.instances.items k ≡ Some i → IsPlaced meta (calls_in t.instances.items) k i

-- the scope of the code at the end of a way through calls, which begins in a scope
abbrev pub scope_behind : Maps → (scope : Option ℕ) → (way : List ℕ) → Option ℕ
scope_behind meta scope [] = scope
scope_behind meta scope (n ∷ ns) = scope_behind meta (scope_of_call meta n) ns

-- instances with one more, which has this index
abbrev pub with_instance : (old : List Instance) → (call : ℕ) → (parent scope : Option ℕ) → (new : List Instance) → (index : ℕ) → Type 0
with_instance old call parent scope new index =
    (new ≡ old ++ record { call = call; parent = parent; scope = scope } ∷ []) × (index ≡ length old)

-- Instances are entered for the calls from one on, outer ones first, behind the old ones: those on the way are left, and the last one has this index.
pub record IsEntering (meta : Maps) (from scope : Option ℕ) (calls : List ℕ) (old : List Instance) (way : List ℕ) (outer : Option ℕ) (t : InstanceTable)
    : Type 0 where
  pub entered : List ℕ
  pub whole : calls ≡ way ++ entered
  pub at : Option ℕ
  pub left : IsWay meta from way at
  pub rest : AreCallsFrom meta at entered
  pub table : IsTable meta way t
  pub index : IsIndexOf (calls_in t.instances.items) outer at
  pub known : calls_in t.instances.items ≡ first_uses nat_eq (calls_in old) (reverse entered)
  pub added : List Instance
  pub kept : t.instances.items ≡ old ++ added
  pub scopes : (k : ℕ) (i : Instance) → length old ≤ k → slice_get t.instances.items k ≡ Some i → i.scope ≡ scope_in meta i.call scope calls

-- The calls of a debug location have their instances in the new table: those that had none stand behind the others, and the innermost one is found.
pub record IsInnermost (meta : Maps) (loc : Loc) (old : List Instance) (t : InstanceTable) (found : Option ℕ) : Type 0 where
  pub calls : List ℕ
  pub are : AreCalls meta (inlined_at meta loc) calls
  pub from : Option ℕ
  pub way : AreCallsFrom meta from calls
  pub index : IsIndexOf (calls_in t.instances.items) found from
  pub table : IsTable meta [] t
  pub known : calls_in t.instances.items ≡ first_uses nat_eq (calls_in old) (reverse calls)
  pub added : List Instance
  pub kept : t.instances.items ≡ old ++ added
  pub scopes : (k : ℕ) (i : Instance) → length old ≤ k → slice_get t.instances.items k ≡ Some i →
      i.scope ≡ scope_in meta i.call (scope_line meta loc).scope calls
