-- Which registers of a function get which physical registers.
use Rattle.std.specs.Prelude.{◌≡◌, ℕ, ◌+◌, List, length, count_by, Option, None, Bool, true, false, ◌&&◌, ◌||◌, nat_le, nat_lt}
use Rattle.std.specs.Prelude.{is_some, not}
use Rattle.std.specs.List.{list_any}
use Rattle.rv64_instr.specs.declared.operand.Operand.{Operand}
use Rattle.rv64_instr.specs.declared.operand.Operand.TheVariants.{Def, Use, ImplicitDef, ImplicitUse, Imm, Slot as OfSlot, Object as OfObject, Part}
use Rattle.rv64_instr.specs.declared.operand.Operand.TheVariants.{Block as OfBlock}
use Rattle.rv64_instr.specs.declared.operand.Operand.TheVariants.{Symbol, Mask, Outgoing, GlobalRegisters}
use Rattle.mir_func.specs.declared.item.ItemKind.{ItemKind}
use Rattle.mir_func.specs.declared.item.ItemKind.TheVariants.{Code, Mark, Phi}
use Rattle.mir_func.specs.Function.{Function}
use Rattle.mir_func.specs.Limits.{MAX_SLOTS}
use Rattle.mir_func.specs.Sound.{items_of}
use Rattle.scan_intervals.specs.pass_trait.Causes.{scratch_of}
use Rattle.spill_select.specs.spill_rule.Choice.{is_added, lacks_scratch}
use Rattle.scan_intervals.specs.declared.interval.LiveInterval.{LiveInterval}
use Rattle.scan_intervals.specs.Liveness.{Decides, at_starts}
use Rattle.scan_intervals.specs.Points.{CodePoint, points_of}
use Rattle.scan_intervals.specs.Intervals.{AreIntervals, is_clear}
use Rattle.scan_allocation.specs.declared.assignment.RegisterAssignment.{RegisterAssignment}
use Rattle.scan_allocation.specs.Walk.{order_without, walk, given_to}

-- an explicit operand is a virtual register
abbrev pub is_virtual : Operand → Bool
is_virtual (Def r) = nat_le 32 r
is_virtual (Use r) = nat_le 32 r
is_virtual (ImplicitDef r) = false
is_virtual (ImplicitUse r) = false
is_virtual (Imm i) = false
is_virtual (OfSlot n) = false
is_virtual (OfObject n) = false
is_virtual (Part half y) = false
is_virtual (Outgoing n) = false
is_virtual GlobalRegisters = false
is_virtual (OfBlock n) = false
is_virtual (Symbol name) = false
is_virtual Mask = false

-- code that names a virtual register
abbrev pub names_virtual : ItemKind → Bool
names_virtual (Code i k) = list_any is_virtual i.operands
names_virtual (Mark v m) = false
names_virtual (Phi p k) = false

-- some code that a pass added names a virtual register, as no function does that was read
abbrev pub adds_virtual : Function → Bool
adds_virtual f = list_any (λ i. is_added i.origin && names_virtual i.kind) (items_of f.blocks)

-- the entry is of a register that is left to a slot
abbrev pub is_left : RegisterAssignment → Bool
is_left x = not (is_some x.given)

-- the slots and stack objects of the function, if each register that is left gets a slot, are more than it may have
abbrev pub is_crowded : Function → List RegisterAssignment → Bool
is_crowded f assignments = nat_lt MAX_SLOTS (length f.slots + length f.objects + count_by is_left assignments)

-- the function stays as it is: fewer than two scratch registers are free, added code names a virtual register, or there would be too many slots
abbrev pub stays : Function → List RegisterAssignment → Bool
stays f assignments = lacks_scratch f || (adds_virtual f || is_crowded f assignments)

-- what the registers of these intervals get, by the walk
abbrev pub assignments_of : (reserve : List ℕ) → List CodePoint → List LiveInterval → Function → List RegisterAssignment
assignments_of reserve points intervals f = walk (is_clear points) (order_without reserve (scratch_of f)) (λ r. 0) intervals

-- the physical register that a register gets, if the function doesn't stay as it is
abbrev pub given_unless : (stays : Bool) → List RegisterAssignment → ℕ → Option ℕ
given_unless true assignments r = None
given_unless false assignments r = given_to assignments r

-- the allocation of a function: which physical register each register gets
pub record IsAllocation (reserve : List ℕ) (f : Function) (given : ℕ → Option ℕ) : Type 0 where
  pub live : ℕ → ℕ → Bool
  pub decides : Decides f live
  pub intervals : List LiveInterval
  pub are : AreIntervals (points_of (at_starts live) f.blocks) intervals
  pub is : given ≡ given_unless (stays f (assignments_of reserve (points_of (at_starts live) f.blocks) intervals f))
      (assignments_of reserve (points_of (at_starts live) f.blocks) intervals f)
