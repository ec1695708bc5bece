-- What is made by the frame is what the rule makes.
use Rattle.std.proofs.Common.{◌≡◌, ◌≤◌, ◌+◌, ℕ, zero, suc, List, [], ◌∷◌, ◌++◌, map, length, refl, sym, ap, subst, ◌∙◌, append_assoc, arith}
use Rattle.std.proofs.lemmas.List.{map-append}
use Rattle.rv64_instr.specs.Instruction.{Instruction}
use Rattle.mir_func.specs.declared.block.Block.{Block}
use Rattle.mir_func.specs.declared.framed.SavedRegister.{SavedRegister}
use Rattle.mir_func.specs.declared.framed.SlotPlace.{SlotPlace}
use Rattle.mir_func.specs.declared.item.Item.{Item}
use Rattle.mir_func.specs.declared.object.Object.{Object}
use Rattle.mir_func.specs.declared.position.Origin.{Origin}
use Rattle.mir_func.specs.declared.position.Origin.TheVariants.{Before}
use Rattle.mir_func.specs.declared.position.Pos.{Pos}
use Rattle.mir_func.specs.Function.{Function, FramedFunction}
use Rattle.mir_func.specs.Graph.{block_start}
use Rattle.mir_func.specs.Sound.{AllItems, IsSound}
use Rattle.mir_func.specs.SoundFrame.{adds_to_pointer, saves, restores, prologue_code, epilogue_code, HasPhysical, IsFramed}
use Rattle.mir_func.specs.Positions.{position_of}
use Rattle.std.specs.Prelude.{pos, ◌-ℤ◌}
use Rattle.frame_rule.specs.Rule.{added, added_all, framed_block, framed_blocks, slot_places, saved_of, size_of, framed_of}
use Rattle.frame_rule.proofs.Framed.{is_framed}
use Rattle.frame_lowering.specs.declared.frame.Frame.{Frame}
use Rattle.frame_lowering.specs.steps.Framing.{IsFrameOf, prologue_in, epilogue_in, framed_blocks_in}

-- ---- where there is a frame, and where there is none

pub none_added : (n : ℕ) (o : Origin) (code : List Instruction) → n ≡ 0 → added_all n o code ≡ []
none_added n o code e = ap (λ (m : ℕ). added_all m o code) e

pub all_added : (n : ℕ) (o : Origin) (code : List Instruction) → (n ≡ 0 → ⊥) → added_all n o code ≡ map (added o) code
all_added zero o code some = absurd (some refl)
all_added (suc n) o code some = refl

map_twice : (o : Origin) (h : SavedRegister → Instruction) (saved : List SavedRegister) → map (added o) (map h saved) ≡ map (λ s. added o (h s)) saved
map_twice o h [] = refl
map_twice o h (s ∷ saved) = ap (λ (is : List Item). added o (h s) ∷ is) (map_twice o h saved)

-- the prologue, as its loop leaves it
pub prologue_pushed : (frame : Frame) (first : ℕ) (saved : List SavedRegister) (none one all : List Item) (lowers : Item) → (frame.size ≡ 0 → ⊥) →
    saved ≡ frame.saved → none ≡ [] → lowers ≡ added (Before (block_start first)) (adds_to_pointer (pos 0 -ℤ pos frame.size)) → one ≡ none ++ lowers ∷ [] →
    all ≡ one ++ map (λ s. added (Before (block_start first)) (saves s)) saved → all ≡ prologue_in frame first
prologue_pushed frame first saved none one all lowers some same empty is pushed more =
    let o : Origin = Before (block_start first) in
    let begun : one ≡ lowers ∷ [] = pushed ∙ ap (λ (is : List Item). is ++ lowers ∷ []) empty in
    let rest = map_twice o saves frame.saved in
    let listed : all ≡ (lowers ∷ []) ++ map (λ s. added o (saves s)) frame.saved =
    more ∙ ((λ i. begun i ++ map (λ s. added o (saves s)) (same i))) in
    let code : added_all frame.size o (prologue_code frame.size frame.saved) ≡ map (added o) (prologue_code frame.size frame.saved) =
    all_added frame.size o (prologue_code frame.size frame.saved) some in
    listed ∙ ((λ i. is i ∷ sym rest i) ∙ sym code)

-- and the epilogue
pub epilogue_pushed : (frame : Frame) (o : Origin) (p : Pos) (saved : List SavedRegister) (before restored all : List Item) (raises : Item) →
    (frame.size ≡ 0 → ⊥) → p ≡ position_of o → saved ≡ frame.saved → restored ≡ before ++ map (λ s. added (Before p) (restores s)) saved →
    raises ≡ added (Before p) (adds_to_pointer (pos frame.size)) → all ≡ restored ++ raises ∷ [] → all ≡ before ++ epilogue_in frame o
epilogue_pushed frame o p saved before restored all raises some at same made is pushed =
    let here : Origin = Before (position_of o) in
    let last : raises ≡ added here (adds_to_pointer (pos frame.size)) = is ∙ ap (λ q. added (Before q) (adds_to_pointer (pos frame.size))) at in
    let loads : restored ≡ before ++ map (added here) (map restores frame.saved) =
    made ∙ ((λ i. before ++ map (λ s. added (Before (at i)) (restores s)) (same i)) ∙ ap (λ (is : List Item). before ++ is)
    (sym (map_twice here restores frame.saved))) in
    let joined : all ≡ (before ++ map (added here) (map restores frame.saved)) ++ added here (adds_to_pointer (pos frame.size)) ∷ [] =
    pushed ∙ (λ i. loads i ++ last i ∷ []) in
    let code : added_all frame.size here (epilogue_code frame.size frame.saved) ≡ map (added here) (map restores frame.saved) ++ added here
    (adds_to_pointer (pos frame.size)) ∷ [] =
    all_added frame.size here (epilogue_code frame.size frame.saved) some
    ∙ map-append (added here) (map restores frame.saved) (adds_to_pointer (pos frame.size) ∷ []) in
    joined ∙ (append_assoc before (map (added here) (map restores frame.saved)) (added here (adds_to_pointer (pos frame.size)) ∷ [])
    ∙ ap (λ (is : List Item). before ++ is) (sym code))

-- ---- the blocks

same_blocks : (f : Function) (bs : List Block) → framed_blocks_in (record { size = size_of f; slots = f.slots; saved = saved_of f }) bs ≡ framed_blocks f bs
same_blocks f [] = refl
same_blocks f (b ∷ bs) = refl

pub blocks_made : (f : Function) (frame : Frame) → IsFrameOf f frame → (bs : List Block) → framed_blocks_in frame bs ≡ framed_blocks f bs
blocks_made f frame is bs =
    let size = is.size in
    let slots = is.slots in
    let saved = is.saved in
    (λ i. framed_blocks_in (record { size = size i; slots = slots i; saved = saved i }) bs) ∙ same_blocks f bs

count_kept : (f : Function) (bs : List Block) → length (map (framed_block f) bs) ≡ length bs
count_kept f [] = refl
count_kept f (b ∷ bs) = ap suc (count_kept f bs)

one_more : (f : Function) (bs : List Block) → length (framed_blocks f bs) ≤ length bs + 1
one_more f [] = omega arith
one_more f (b ∷ bs) = let kept = count_kept f bs in omega (arith, kept)

pub blocks_few : (f : Function) (blocks : List Block) → blocks ≡ framed_blocks f f.blocks → length f.blocks ≤ 1024 → length blocks ≤ 1025
blocks_few f blocks made few =
    let count = ap length made in
    let more = one_more f f.blocks in
    omega (arith, count, more, few)

-- ---- the function

abbrev made_of : Frame → (name : List ℕ) → List SlotPlace → List Object → List Block → FramedFunction
made_of frame name offsets objects blocks = record {
  name = name;
  size = frame.size;
  offsets = offsets;
  saved = frame.saved;
  objects = objects;
  blocks = blocks;
}

pub function_made : (f : Function) (frame : Frame) → IsFrameOf f frame →
    (name : List ℕ) (offsets : List SlotPlace) (objects : List Object) (blocks : List Block) →
    name ≡ f.name → offsets ≡ slot_places 0 f.slots → objects ≡ f.objects → blocks ≡ framed_blocks_in frame f.blocks →
    made_of frame name offsets objects blocks ≡ framed_of f
function_made f frame is name offsets objects blocks n o os bs =
    let size = is.size in
    let saved = is.saved in
    let laid = bs ∙ blocks_made f frame is f.blocks in
    λ i. record { name = n i; size = size i; offsets = o i; saved = saved i; objects = os i; blocks = laid i }

pub made_is_framed : (f : Function) (frame : Frame) (made : FramedFunction) → IsFrameOf f frame → IsSound f → AllItems (λ i. HasPhysical i.kind) f.blocks →
    made ≡ framed_of f → IsFramed made
made_is_framed f frame made is sound physical same =
    subst IsFramed (sym same) (is_framed f sound is.reach physical)
