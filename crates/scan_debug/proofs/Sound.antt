-- The function stays sound.
use Rattle.std.proofs.Common.{ℕ, ◌≤◌, List, [], ◌∷◌, map, All, Option, Some, None, Bool, true, false, cond, sym, subst}
use Rattle.std.proofs.lemmas.List.{length-map}
use Rattle.std.proofs.lemmas.List.Elements.{All-nil, All-cons, All-head, All-tail, All-map, All-weaker}
use Rattle.rv64_instr.specs.declared.operand.Operand.{Operand}
use Rattle.rv64_instr.specs.declared.operand.Operand.TheVariants.{Def, Use, Outgoing}
use Rattle.rv64_instr.specs.declared.place.Place.{Place}
use Rattle.rv64_instr.specs.declared.place.Place.TheVariants.{Register, Slot, Const}
use Rattle.rv64_instr.specs.Row.{row_of}
use Rattle.mir_func.specs.declared.block.Block.{Block}
use Rattle.mir_func.specs.declared.debug_substitution.DebugSubstitution.{DebugSubstitution}
use Rattle.mir_func.specs.declared.item.Item.{Item}
use Rattle.mir_func.specs.declared.item.ItemKind.{ItemKind}
use Rattle.mir_func.specs.declared.item.ItemKind.TheVariants.{Code, Mark, Phi}
use Rattle.mir_func.specs.declared.object.Object.{Object}
use Rattle.mir_func.specs.declared.position.Origin.{Origin}
use Rattle.mir_func.specs.declared.position.Origin.TheVariants.{Kept, Before}
use Rattle.mir_func.specs.declared.position.Pos.{Pos}
use Rattle.mir_func.specs.Function.{Function}
use Rattle.mir_func.specs.Graph.{Program, program_of}
use Rattle.mir_func.specs.Limits.{MAX_BLOCKS}
use Rattle.mir_func.specs.Resolve.{resolve}
use Rattle.mir_func.specs.Sound.{AreApart, ids_of, ExitIn, TargetsIn, PlaceIn, SlotsIn, SlotIn, PassedIn, ObjectsIn, ObjectIn, IsNotPointer}
use Rattle.mir_func.specs.Sound.{LeavesPointer, OriginIn, EndsWell, PassesFirst, KindPassesFirst}
use Rattle.mir_func.specs.Sound.{IsSound}
use Rattle.scan_simulation.specs.spill_code.Rewrite.{renamed_operand}
use Rattle.scan_simulation.proofs.spill_proof.Sound.{slot_renamed, first_renamed, object_renamed}
use Rattle.scan_simulation.proofs.spill_simulation.Rows.{row_renamed}
use Rattle.scan_simulation.specs.scan_allocation.Coloring.{now, IsColoring}
use Rattle.scan_simulation.proofs.scan_allocation.Coloring.{is_coloring}
use Rattle.scan_debug.specs.Laws.{AllottedIsSound}
use Rattle.scan_simulation.specs.scan_rule.Rewrite.{place_now, kind_now, block_now, blocks_now, allotted}
use Rattle.scan_simulation.proofs.Following.{each_now}
use Rattle.scan_simulation.proofs.Renaming.{now_pointer, keeps_zero}
use Rattle.scan_simulation.proofs.Rows.{exit_now}
use Rattle.scan_debug.proofs.Lists.{numbers_once, ids_now, ends_well, last_closes}

module _ (f : Program) (given : ℕ → Option ℕ) (col : IsColoring f given) (silent : ℕ → Bool) where
  targets : (ids : List ℕ) (k : ItemKind) → TargetsIn ids k → TargetsIn ids (kind_now given silent k)
  targets ids k h = subst (ExitIn ids) (sym (exit_now f given col silent k)) h

  place_slots : (slots : List ℕ) (q : Option Place) → PlaceIn slots q → PlaceIn slots (place_now given silent q)
  place_slots slots None h = tt
  place_slots slots (Some (Slot n)) h = h
  place_slots slots (Some (Const z)) h = tt
  place_slots slots (Some (Register r)) h = by_test (silent r) where
    by_test : (z : Bool) → PlaceIn slots (cond z None (Some (Register (now given r))))
    by_test true = tt
    by_test false = tt

  passed_now : (slots : List ℕ) (o : Operand) → PassedIn slots o → PassedIn slots (renamed_operand (now given) (now given) o)
  passed_now slots (Outgoing n) h = h
  passed_now slots _ h = tt

  slots_in : (slots : List ℕ) (k : ItemKind) → SlotsIn slots k → SlotsIn slots (kind_now given silent k)
  slots_in slots (Code i n) h = (
    subst (SlotIn slots) (sym (row_renamed (now given) (now given) (keeps_zero f given col) i))
        (slot_renamed (now given) (now given) slots (row_of i) h.0),
    All-map (PassedIn slots) (renamed_operand (now given) (now given)) i.operands
        (All-weaker (PassedIn slots) (λ a. PassedIn slots (renamed_operand (now given) (now given) a)) (passed_now slots) i.operands h.1),
  )
  slots_in slots (Mark v m) h = tt
  slots_in slots (Phi q n) h = place_slots slots q h

  first_in : (slots : List ℕ) (k : ItemKind) → KindPassesFirst slots k → KindPassesFirst slots (kind_now given silent k)
  first_in slots (Code i n) h =
      subst (PassesFirst slots) (sym (row_renamed (now given) (now given) (keeps_zero f given col) i))
      (first_renamed (now given) (now given) slots (row_of i) h)
  first_in slots (Mark v m) h = tt
  first_in slots (Phi q n) h = tt

  objects_in : (objects : List Object) (k : ItemKind) → ObjectsIn objects k → ObjectsIn objects (kind_now given silent k)
  objects_in objects (Code i n) h =
      subst (ObjectIn objects) (sym (row_renamed (now given) (now given) (keeps_zero f given col) i))
      (object_renamed (now given) (now given) objects (row_of i) h)
  objects_in objects (Mark v m) h = tt
  objects_in objects (Phi q n) h = tt

  operand_leaves : (o : Operand) → IsNotPointer o → IsNotPointer (renamed_operand (now given) (now given) o)
  operand_leaves (Def r) h = λ e. h (now_pointer f given col r e)
  operand_leaves (Use r) h = λ e. h (now_pointer f given col r e)
  operand_leaves _ h = h

  operands_leave : (os : List Operand) → All IsNotPointer os → All IsNotPointer (map (renamed_operand (now given) (now given)) os)
  operands_leave [] h = All-nil IsNotPointer
  operands_leave (o ∷ os) h =
      All-cons IsNotPointer (renamed_operand (now given) (now given) o) (map (renamed_operand (now given) (now given)) os)
      (operand_leaves o (All-head IsNotPointer o os h)) (operands_leave os (All-tail IsNotPointer o os h))

  leaves : (k : ItemKind) → LeavesPointer k → LeavesPointer (kind_now given silent k)
  leaves (Code i n) h = operands_leave i.operands h
  leaves (Mark v m) h = tt
  leaves (Phi q n) h = tt

origin_in : (given : ℕ → Option ℕ) (silent : Pos → ℕ → Bool) (b : Block) (o : Origin) → OriginIn b o → OriginIn (block_now given silent b) o
origin_in given silent b (Kept p) h = h
origin_in given silent b (Before p) h = h

module _ (f : Function) (subs : List DebugSubstitution) (given : ℕ → Option ℕ) (silent : Pos → ℕ → Bool) (sound : IsSound f)
    (col : IsColoring (program_of false f.blocks (resolve subs)) given) where
  abbrev fp : Program
  fp = program_of false f.blocks (resolve subs)

  ends_now : (bs : List Block) → All (λ (b : Block). EndsWell b.items) bs → All (λ (b : Block). EndsWell b.items) (blocks_now given silent bs)
  ends_now [] all = All-nil (λ (b : Block). EndsWell b.items)
  ends_now (b ∷ bs) all =
      All-cons (λ (c : Block). EndsWell c.items) (block_now given silent b) (blocks_now given silent bs)
      (ends_well given silent fp col b.id 0 b.items (All-head (λ (c : Block). EndsWell c.items) b bs all))
      (ends_now bs (All-tail (λ (c : Block). EndsWell c.items) b bs all))

  pub sound_now : IsSound (allotted given silent f)
  sound_now = record {
    blocks_apart = subst AreApart (sym (ids_now given silent f.blocks)) sound.blocks_apart;
    slots_apart = sound.slots_apart;
    objects_apart = sound.objects_apart;
    few_blocks = subst (λ (n : ℕ). n ≤ MAX_BLOCKS) (sym (length-map f.blocks (block_now given silent))) sound.few_blocks;
    few_slots = sound.few_slots;
    each_object = sound.each_object;
    objects_laid = sound.objects_laid;
    targets = subst (λ (ids : List ℕ). All (λ (b : Block). All (λ (i : Item). TargetsIn ids i.kind) b.items) (blocks_now given silent f.blocks))
        (sym (ids_now given silent f.blocks))
        (each_now given silent (λ b i. TargetsIn (ids_of f.blocks) i.kind) (λ b i. TargetsIn (ids_of f.blocks) i.kind)
        (λ b p i h. targets fp given col (silent p) (ids_of f.blocks) i.kind h) f.blocks sound.targets);
    slots = each_now given silent (λ b i. SlotsIn f.slots i.kind) (λ b i. SlotsIn f.slots i.kind)
        (λ b p i h. slots_in fp given col (silent p) f.slots i.kind h) f.blocks sound.slots;
    passed = each_now given silent (λ b i. KindPassesFirst f.slots i.kind) (λ b i. KindPassesFirst f.slots i.kind)
        (λ b p i h. first_in fp given col (silent p) f.slots i.kind h) f.blocks sound.passed;
    objects = each_now given silent (λ b i. ObjectsIn f.objects i.kind) (λ b i. ObjectsIn f.objects i.kind)
        (λ b p i h. objects_in fp given col (silent p) f.objects i.kind h) f.blocks sound.objects;
    pointer = each_now given silent (λ b i. LeavesPointer i.kind) (λ b i. LeavesPointer i.kind)
        (λ b p i h. leaves fp given col (silent p) i.kind h) f.blocks sound.pointer;
    numbers = numbers_once given silent f.blocks sound.numbers;
    origins = each_now given silent (λ b i. OriginIn b i.origin) (λ b i. OriginIn b i.origin)
        (λ b p i h. origin_in given silent b i.origin h) f.blocks sound.origins;
    ends = ends_now f.blocks sound.ends;
    last = last_closes given silent fp col f.blocks sound.last;
  }

pub allotted_is_sound : AllottedIsSound
allotted_is_sound reserve f subs given silent may =
    sound_now f subs given silent may.sound (is_coloring reserve f (resolve subs) may.forms given may.allocation)
