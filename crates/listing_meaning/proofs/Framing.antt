-- Of a function with its frame: where x2 is named, what its first word lowers, and so what frame its listing shows.
use Rattle.std.proofs.Common.{◌≡◌, ℕ, zero, suc, ◌-◌, ◌%◌, ◌^◌, ◌<◌, ◌≤◌, ℤ, pos, negsuc, ◌-ℤ◌, Bool, List, [], ◌∷◌, ◌++◌, Option, None, refl, ap}
use Rattle.std.proofs.Common.{sym, ◌∙◌, subst, arith}
use Rattle.std.specs.Prelude.{map, All}
use Rattle.std.specs.List.{flat_map}
use Rattle.std.proofs.lemmas.Int.{ints}
use Rattle.std.proofs.lemmas.Simd.{map-map}
use Rattle.std.proofs.lemmas.List.Elements.{All-head, All-tail, All-cons, All-append}
use Rattle.rv64_instr.specs.declared.op.Op.{Op}
use Rattle.rv64_instr.specs.declared.op.Op.TheVariants.{Immediate, Load, Store}
use Rattle.rv64_instr.specs.declared.operand.Operand.{Operand}
use Rattle.rv64_instr.specs.declared.operand.Operand.TheVariants.{Def, Use, Object as OfObject}
use Rattle.rv64_instr.specs.Arithmetic.{word}
use Rattle.rv64_instr.specs.Instruction.{Instruction}
use Rattle.rv64_instr.specs.Row.{add_row}
use Rattle.mir_func.specs.declared.block.Block.{Block}
use Rattle.mir_func.specs.declared.debug_substitution.DebugSubstitution.{DebugSubstitution}
use Rattle.mir_func.specs.declared.framed.SavedRegister.{SavedRegister}
use Rattle.mir_func.specs.declared.item.Item.{Item}
use Rattle.mir_func.specs.declared.item.ItemKind.{ItemKind}
use Rattle.mir_func.specs.declared.item.ItemKind.TheVariants.{Code, Mark, Phi}
use Rattle.mir_func.specs.Objects.{area_of}
use Rattle.mir_func.specs.Sound.{IsNotPointer, LeavesPointer, AllItems, SlotsIn, ObjectsIn, contents_of}
use Rattle.mir_func.specs.SoundFrame.{adds_to_pointer, saves, restores, prologue_code, epilogue_code, AreCode, IsBody, GivesBack, goes_on, returns, HasFrame}
use Rattle.mir_func.specs.SoundFrame.{NumberedAlike, IsFramed, slot_offsets}
use Rattle.emit_code.specs.Rule.{Layout, Form, OneWord, row_form, form_of, address_in, sites_in}
use Rattle.emit_code.specs.steps.Emitted.{IsFormed}
use Rattle.listing_text.specs.declared.output.Line.{Line}
use Rattle.listing_text.specs.declared.output.ListedBlock.{ListedBlock}
use Rattle.listing_text.specs.declared.output.ListedVariable.{ListedVariable}
use Rattle.listing_meaning.specs.Frame.{ShownFrame, object_shown, lowered_by, size_shown, frame_shown}
use Rattle.listing_meaning.specs.Program.{blocks_of, block_shown, first_id}
use Rattle.listing_meaning.specs.Listing.{form_lines, kind_lines, site_lines, items_listed, prologue_listed, body_listed, blocks_listed, object_listed}
use Rattle.listing_meaning.specs.Listing.{listing_of}
use Rattle.listing_meaning.specs.Settled.{frame_of, settled}
use Rattle.listing_meaning.specs.Laws.{ListingsShowTheFunction}
use Rattle.listing_meaning.proofs.Images.{areas_alike, objects_alike}
use Rattle.listing_meaning.proofs.Operands.{IsSteady}
use Rattle.listing_meaning.proofs.Shown.{SteadyKind, Good, blocks_back}

-- ---- where x2 is named

leaves : (op : Op) (os : List Operand) → All IsNotPointer os → IsSteady op os
leaves (Load op) (Def rd ∷ Use b ∷ rest) all = All-head IsNotPointer (Use b) rest (All-tail IsNotPointer (Def rd) (Use b ∷ rest) all)
leaves (Store op) (Use rs ∷ Use b ∷ rest) all = All-head IsNotPointer (Use b) rest (All-tail IsNotPointer (Use rs) (Use b ∷ rest) all)
leaves (Immediate op) (Def rd ∷ Use b ∷ rest) all =
    λ same. absurd (All-head IsNotPointer (Use b) rest (All-tail IsNotPointer (Def rd) (Use b ∷ rest) all) same)
leaves (Immediate op) (Def rd ∷ OfObject n ∷ rest) all = All-head IsNotPointer (Def rd) (OfObject n ∷ rest) all
leaves op os all = tt

leaves_kind : (kind : ItemKind) → LeavesPointer kind → SteadyKind kind
leaves_kind (Code c k) is = leaves c.op c.operands is
leaves_kind (Mark v m) is = tt
leaves_kind (Phi p k) is = tt

abbrev SteadyCode : Instruction → Type 0
SteadyCode c = IsSteady c.op c.operands

abbrev SteadyItem : Item → Type 0
SteadyItem i = SteadyKind i.kind

every : {X : Type 0} (P Q : X → Type 0) → ((x : X) → P x → Q x) → (xs : List X) → All P xs → All Q xs
every P Q each [] all = λ k d low. absurd (omega (arith, low))
every P Q each (x ∷ xs) all = All-cons Q x xs (each x (All-head P x xs all)) (every P Q each xs (All-tail P x xs all))

saves_steady : (saved : List SavedRegister) → All SteadyCode (map saves saved)
saves_steady [] = λ k d low. absurd (omega (arith, low))
saves_steady (s ∷ saved) = All-cons SteadyCode (saves s) (map saves saved) tt (saves_steady saved)

restores_steady : (saved : List SavedRegister) → All SteadyCode (map restores saved)
restores_steady [] = λ k d low. absurd (omega (arith, low))
restores_steady (s ∷ saved) = All-cons SteadyCode (restores s) (map restores saved) tt (restores_steady saved)

no_code : All SteadyCode []
no_code = λ k d low. absurd (omega (arith, low))

prologue_steady : (size : ℕ) (saved : List SavedRegister) → All SteadyCode (prologue_code size saved)
prologue_steady size saved = All-cons SteadyCode (adds_to_pointer (pos 0 -ℤ pos size)) (map saves saved) (λ same. refl) (saves_steady saved)

epilogue_steady : (size : ℕ) (saved : List SavedRegister) → All SteadyCode (epilogue_code size saved)
epilogue_steady size saved =
    All-append SteadyCode (map restores saved) (adds_to_pointer (pos size) ∷ []) (restores_steady saved)
    (All-cons SteadyCode (adds_to_pointer (pos size)) [] (λ same. refl) no_code)

code_steady : (items : List Item) (code : List Instruction) → AreCode items code → All SteadyCode code → All SteadyItem items
code_steady [] code are all = λ k d low. absurd (omega (arith, low))
code_steady (i ∷ items) [] are all = absurd cc
code_steady (i ∷ items) (c ∷ code) are all =
    let kind : Code c None ≡ i.kind = cc in
    let rest : AreCode items code = cc in
    All-cons SteadyItem i items (subst SteadyKind kind (All-head SteadyCode c code all)) (code_steady items code rest (All-tail SteadyCode c code all))

given_back : (epilogue : List Instruction) (items : List Item) → All SteadyCode epilogue → GivesBack epilogue items → All SteadyItem items
given_back epilogue items all (goes_on body) = every IsBody SteadyItem (λ i is. leaves_kind i.kind is.pointer) items body
given_back epilogue items all (returns body back last are code final pointer) =
    All-append SteadyItem (body ++ back) (last ∷ [])
    (All-append SteadyItem body back (every IsBody SteadyItem (λ i is. leaves_kind i.kind is.pointer) body are) (code_steady back epilogue code all))
    (All-cons SteadyItem last [] (leaves_kind last.kind pointer) (λ k d low. absurd (omega (arith, low))))

abbrev SteadyBlock : Block → Type 0
SteadyBlock b = All SteadyItem b.items

frame_steady : (size : ℕ) (saved : List SavedRegister) (blocks : List Block) → HasFrame size saved blocks → All SteadyBlock blocks
frame_steady size saved [] has = absurd has
frame_steady zero saved (p ∷ blocks) has =
    All-cons SteadyBlock p blocks (subst (All SteadyItem) (sym has.0) (λ k d low. absurd (omega (arith, low))))
    (every (λ b. All (λ i. LeavesPointer i.kind) b.items) SteadyBlock
    (λ b all. every (λ i. LeavesPointer i.kind) SteadyItem (λ i is. leaves_kind i.kind is) b.items all) blocks has.2)
frame_steady (suc n) saved (p ∷ blocks) has =
    All-cons SteadyBlock p blocks (code_steady p.items (prologue_code (suc n) saved) has.0 (prologue_steady (suc n) saved))
    (every (λ b. GivesBack (epilogue_code (suc n) saved) b.items) SteadyBlock
    (λ b gives. given_back (epilogue_code (suc n) saved) b.items (epilogue_steady (suc n) saved) gives) blocks has.1)

-- ---- what the first word lowers x2 by

one_word : (far : Bool) (x : ℕ) → row_form far (add_row 2 2 x) ≡ OneWord
one_word far zero = refl
one_word far (suc x) = refl

lowered_row : (x size : ℕ) → 0 < x → 2 ^ 64 - x ≡ size → lowered_by (add_row 2 2 x) ≡ size
lowered_row zero size some is = absurd (omega (arith, some))
lowered_row (suc x) size some is = is

lowered_word : (size : ℕ) → 0 < size → size ≤ 2032 → (0 < word (pos 0 -ℤ pos size)) × (2 ^ 64 - word (pos 0 -ℤ pos size) ≡ size)
lowered_word zero some small = absurd (omega (arith, some))
lowered_word (suc n) some small =
    let less : pos 0 -ℤ pos (suc n) ≡ negsuc n = grind (arith, ints) in
    let is : word (pos 0 -ℤ pos (suc n)) ≡ 2 ^ 64 - 1 - n % 2 ^ 64 = ap word less in
    (omega (arith, is, small), omega (arith, is, small))

module _ (l : Layout) where
  first_line : (a : ℕ) (i : Item) (k : Option ℕ) (x : ℤ) (f : Form) (rest : List Line) → f ≡ OneWord →
      size_shown (form_lines l a i (adds_to_pointer x) k f ++ rest) ≡ lowered_by (add_row 2 2 (word x))
  first_line a i k x f rest is = ap (λ (g : Form). size_shown (form_lines l a i (adds_to_pointer x) k g ++ rest)) is

  prologue_size : (size : ℕ) (saved : List SavedRegister) (items : List Item) → size ≤ 2032 → 0 < size → AreCode items (prologue_code size saved) →
      size_shown (items_listed l 0 items) ≡ size
  prologue_size size saved [] small some are = absurd cc
  prologue_size size saved (i ∷ items) small some are =
      let x = pos 0 -ℤ pos size in
      let rest = flat_map (site_lines l) (sites_in 0 1 items) in
      let kind : i.kind ≡ Code (adds_to_pointer x) None = cc in
      let low = lowered_word size some small in
      ap (λ (k : ItemKind). size_shown (kind_lines l (record { point = record { block = 0; item = 0 }; item = i }) k ++ rest)) kind ∙
      (first_line (address_in l (record { block = 0; item = 0 })) i None x (form_of (l.long (record { block = 0; item = 0 })) (Code
      (adds_to_pointer x) None)) rest
      (one_word (l.long (record { block = 0; item = 0 })) (word x)) ∙ lowered_row (word x) size low.0 low.1)

  size_by : (size : ℕ) (saved : List SavedRegister) (blocks : List Block) → size ≤ 2032 → HasFrame size saved blocks →
      size_shown (prologue_listed l blocks) ≡ size
  size_by size saved [] small has = absurd has
  size_by zero saved (p ∷ blocks) small has = ap (λ (items : List Item). size_shown (items_listed l 0 items)) has.0
  size_by (suc n) saved (p ∷ blocks) small has = prologue_size (suc n) saved p.items small (omega arith) has.0

  -- the frame that is shown
  pub frame_same : (variables : List ListedVariable) (substitutions : List DebugSubstitution) → IsFramed l.framed →
      frame_shown (listing_of l variables substitutions) ≡ frame_of l.framed
  frame_same variables substitutions framed =
      let size = size_by l.framed.size l.framed.saved l.framed.blocks framed.small framed.frame in
      let area = areas_alike l.framed.objects in
      let objects = ap (λ (n : ℕ). map (object_shown n) (map object_listed l.framed.objects)) area
      ∙ objects_alike (area_of l.framed.objects) l.framed.objects framed.objects_laid.fixed in
      λ k. record { below = size k - area k; objects = objects k }

  -- ---- all of it

  goods_in : (framed : IsFramed l.framed) (items : List Item) → All IsFormed items → All SteadyItem items →
      All (λ i. SlotsIn (slot_offsets l.framed) i.kind) items → All (λ i. ObjectsIn l.framed.objects i.kind) items → All (Good l framed) items
  goods_in framed [] forms steady slots objects = λ k d low. absurd (omega (arith, low))
  goods_in framed (i ∷ items) forms steady slots objects =
      All-cons (Good l framed) i items
      (record {
        form = All-head IsFormed i items forms;
        steady = All-head SteadyItem i items steady;
        slots = All-head (λ x. SlotsIn (slot_offsets l.framed) x.kind) i items slots;
        objects = All-head (λ x. ObjectsIn l.framed.objects x.kind) i items objects;
      })
      (goods_in framed items (All-tail IsFormed i items forms) (All-tail SteadyItem i items steady)
      (All-tail (λ x. SlotsIn (slot_offsets l.framed) x.kind) i items slots) (All-tail (λ x. ObjectsIn l.framed.objects x.kind) i items objects))

  goods : (framed : IsFramed l.framed) (blocks : List Block) → AllItems IsFormed blocks → All SteadyBlock blocks →
      AllItems (λ i. SlotsIn (slot_offsets l.framed) i.kind) blocks → AllItems (λ i. ObjectsIn l.framed.objects i.kind) blocks →
      All (λ b. All (Good l framed) b.items) blocks
  goods framed [] forms steady slots objects = λ k d low. absurd (omega (arith, low))
  goods framed (b ∷ blocks) forms steady slots objects =
      All-cons (λ x. All (Good l framed) x.items) b blocks
      (goods_in framed b.items (All-head (λ x. All IsFormed x.items) b blocks forms) (All-head SteadyBlock b blocks steady)
      (All-head (λ x. All (λ i. SlotsIn (slot_offsets l.framed) i.kind) x.items) b blocks slots)
      (All-head (λ x. All (λ i. ObjectsIn l.framed.objects i.kind) x.items) b blocks objects))
      (goods framed blocks (All-tail (λ x. All IsFormed x.items) b blocks forms) (All-tail SteadyBlock b blocks steady)
      (All-tail (λ x. All (λ i. SlotsIn (slot_offsets l.framed) i.kind) x.items) b blocks slots)
      (All-tail (λ x. All (λ i. ObjectsIn l.framed.objects i.kind) x.items) b blocks objects))

  whole_by : (blocks : List Block) → NumberedAlike blocks → record { id = first_id (body_listed l blocks); lines = prologue_listed l blocks } ∷
      body_listed l blocks ≡ blocks_listed l 0 blocks
  whole_by [] alike = absurd alike
  whole_by (p ∷ []) alike = absurd alike
  whole_by (p ∷ b ∷ rest) alike = ap (λ (n : ℕ). record { id = n; lines = items_listed l 0 p.items } ∷ blocks_listed l 1 (b ∷ rest)) (sym alike)

  -- the prologue and the blocks below it are listed one after the other
  pub blocks_whole : (variables : List ListedVariable) (substitutions : List DebugSubstitution) → IsFramed l.framed →
      blocks_of (listing_of l variables substitutions) ≡ blocks_listed l 0 l.framed.blocks
  blocks_whole variables substitutions framed = whole_by l.framed.blocks framed.number

pub function_shown : ListingsShowTheFunction
function_shown l variables substitutions framed formed =
    let listing = listing_of l variables substitutions in
    let frame = frame_same l variables substitutions framed in
    let blocks = blocks_whole l variables substitutions framed in
    let good = goods l framed l.framed.blocks formed (frame_steady l.framed.size l.framed.saved l.framed.blocks framed.frame) framed.slots framed.objects in
    ap (λ (bs : List ListedBlock). map contents_of (map (block_shown (frame_shown listing)) bs)) blocks ∙
    (ap (λ (f : ShownFrame). map contents_of (map (block_shown f) (blocks_listed l 0 l.framed.blocks))) frame ∙
    (map-map contents_of (block_shown (frame_of l.framed)) (blocks_listed l 0 l.framed.blocks) ∙
    (blocks_back l framed 0 l.framed.blocks good ∙ sym (map-map contents_of (settled l.framed) l.framed.blocks))))
