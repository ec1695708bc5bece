-- The frame of a function without stack objects isn't above the limit: it has at most 224 slots and 13 saved registers. Passes keep the objects.
use Rattle.std.proofs.Common.{◌≡◌, ◌∙◌, ℕ, ◌+◌, ◌*◌, ◌<◌, ◌≤◌, max, List, [], ◌∷◌, Some, length, filter, count_by, All, refl, ap, subst, arith}
use Rattle.std.proofs.lemmas.List.Elements.{All-nil, All-cons, All-head, All-tail, All-contains}
use Rattle.std.proofs.lemmas.List.Sums.{length-filter, count_by-le-length}
use Rattle.rv64_instr.specs.Row.{row_of}
use Rattle.rv64_instr.specs.View.{Access, NoAccess, SlotAccess, MemoryAccess, ObjectAddress, access_of}
use Rattle.mir_exposure.specs.declared.exposure.Exposure.TheVariants.{Nothing}
use Rattle.mir_func.specs.declared.block.Block.{Block}
use Rattle.mir_func.specs.declared.item.Item.{Item}
use Rattle.mir_func.specs.declared.item.ItemKind.{ItemKind}
use Rattle.mir_func.specs.declared.item.ItemKind.TheVariants.{Code, Mark, Phi}
use Rattle.mir_func.specs.declared.object.Object.{Object}
use Rattle.mir_func.specs.Function.{Function}
use Rattle.mir_func.specs.Objects.{up_to, object_of, extent_of}
use Rattle.mir_func.specs.Sound.{AllItems, AccessIn, ObjectsIn, IsSound}
use Rattle.mir_func.specs.SoundFrame.{SAVED}
use Rattle.gen_function.specs.Generator.{generated}
use Rattle.frame_rule.specs.Rule.{is_set, saved_registers, own_size_of, access_end, kind_end, items_end, blocks_end, reach_of}
use Rattle.compile_program.specs.read_program.declared.closing.Parsed.{Parsed}
use Rattle.compile_program.specs.compile_theorem.Source.{SourceFunction}
use Rattle.compile_program.specs.Program.{ExposedSteps, HasLargeFrame, steps_of}
use Rattle.gen_sizes.specs.Laws.{GeneratedFramesAreSmall}

-- 13 registers may be saved
few_saved : (blocks : List Block) → length (saved_registers blocks) ≤ 13
few_saved blocks =
    let counted : length (filter (is_set blocks) SAVED) ≡ count_by (is_set blocks) SAVED = length-filter (is_set blocks) SAVED in
    let few : count_by (is_set blocks) SAVED ≤ 13 = count_by-le-length (is_set blocks) SAVED in
    omega (arith, counted, few)

up_to_small : (n : ℕ) → up_to 16 n ≤ n + 15
up_to_small n = omega arith

no_object : (n : ℕ) (o : Object) → object_of [] n ≡ Some o → ⊥
no_object n o is = absurd cc

-- where there is no object, code forms no address of one
module _ (own : ℕ) where
  access_none : (a : Access) → AccessIn [] a → access_end own [] a ≡ 0
  access_none NoAccess is = refl
  access_none (SlotAccess n) is = refl
  access_none (MemoryAccess base offset width) is = refl
  access_none (ObjectAddress n offset) is = absurd (no_object n is.0 is.1)

  kind_none : (k : ItemKind) → ObjectsIn [] k → kind_end own [] k ≡ 0
  kind_none (Code i n) is = access_none (access_of (row_of i)) is
  kind_none (Mark v m) is = refl
  kind_none (Phi p n) is = refl

  items_none : (m : ℕ) (items : List Item) → All (λ i. ObjectsIn [] i.kind) items → items_end own [] m items ≡ m
  unfolding items_end
  items_none m [] all = refl
  items_none m (i ∷ items) all =
      let same : max m (kind_end own [] i.kind) ≡ m = omega (arith, kind_none i.kind (All-head (λ (x : Item). ObjectsIn [] x.kind) i items all)) in
      ap (λ (n : ℕ). items_end own [] n items) same ∙ items_none m items (All-tail (λ (x : Item). ObjectsIn [] x.kind) i items all)

  blocks_none : (m : ℕ) (blocks : List Block) → AllItems (λ i. ObjectsIn [] i.kind) blocks → blocks_end own [] m blocks ≡ m
  unfolding blocks_end
  blocks_none m [] all = refl
  blocks_none m (b ∷ blocks) all =
      let P : Block → Type 0 = λ x. All (λ i. ObjectsIn [] i.kind) x.items in
      ap (λ (n : ℕ). blocks_end own [] n blocks) (items_none m b.items (All-head P b blocks all)) ∙ blocks_none m blocks (All-tail P b blocks all)

  none_ends : (os : List Object) (m : ℕ) (blocks : List Block) → os ≡ [] → AllItems (λ i. ObjectsIn os i.kind) blocks → blocks_end own os m blocks ≡ m
  none_ends os m blocks none all =
      ap (λ (s : List Object). blocks_end own s m blocks) none
      ∙ blocks_none m blocks (subst (λ (s : List Object). AllItems (λ i. ObjectsIn s i.kind) blocks) none all)

-- a sound function without objects has a frame of at most 1911 bytes
pub small_frame : (f : Function) → IsSound f → f.objects ≡ [] → reach_of f ≤ 2032
small_frame f sound none =
    let slots : length f.slots + length f.objects ≤ 224 = sound.few_slots in
    let saved : length (saved_registers f.blocks) ≤ 13 = few_saved f.blocks in
    let own : own_size_of f ≤ 8 * (length f.slots + length (saved_registers f.blocks)) + 15 =
    up_to_small (8 * (length f.slots + length (saved_registers f.blocks))) in
    let extent : extent_of f.objects ≡ 0 = ap (λ (os : List Object). extent_of os) none in
    let end : reach_of f ≡ own_size_of f + extent_of f.objects =
    none_ends (own_size_of f) f.objects (own_size_of f + extent_of f.objects) f.blocks none sound.objects in
    let fits : own_size_of f + extent_of f.objects ≤ 2032 =
    by_parts (own_size_of f) (extent_of f.objects) (length f.slots) (length f.objects) (length (saved_registers f.blocks)) slots saved own extent in
    low (reach_of f) (own_size_of f + extent_of f.objects) end fits where
      low : (n m : ℕ) → n ≡ m → m ≤ 2032 → n ≤ 2032
      low n m same fits = omega (arith, same, fits)

      by_parts : (size extent slots objects saved : ℕ) → slots + objects ≤ 224 → saved ≤ 13 → size ≤ 8 * (slots + saved) + 15 → extent ≡ 0 →
          size + extent ≤ 2032
      by_parts size extent slots objects saved few kept own none = omega (arith, few, kept, own, none)

-- so passes make no large frame of a function without objects
pub small_after : (steps : ExposedSteps) (q : Parsed) → q.func.objects ≡ [] → HasLargeFrame steps (q ∷ []) → ⊥
small_after steps q bare large =
    let P : Parsed → Type 0 = λ x. x.func.objects ≡ [] in
    let among : large.function.func.objects ≡ [] = All-contains P (q ∷ []) large.function (All-cons P q [] bare (All-nil P)) large.among in
    let read : large.passed.source.function.objects ≡ large.function.func.objects = ap (λ (s : SourceFunction). s.function.objects) large.source in
    let none : large.passed.function.objects ≡ [] = large.keeps.follower.objects ∙ (read ∙ among) in
    let fits : reach_of large.passed.function ≤ 2032 = small_frame large.passed.function large.keeps.follower.sound none in
    let above : 2032 < reach_of large.passed.function = large.large in
    apart (reach_of large.passed.function) fits above where
      apart : (n : ℕ) → n ≤ 2032 → 2032 < n → ⊥
      apart n low high = omega (arith, low, high)

pub generated_frames_are_small : GeneratedFramesAreSmall
generated_frames_are_small number count reserve passes large =
    small_after (steps_of reserve passes) (record { func = generated number count; subs = []; pool = []; exposure = Nothing }) refl large
