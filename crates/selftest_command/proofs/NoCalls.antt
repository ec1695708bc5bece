-- The machine code of what passes make of a function without calls has none: kept code keeps its class, and no call is added.
use Rattle.std.proofs.Common.{◌≡◌, ℕ, zero, suc, List, [], ◌∷◌, map, drop, All, Option, None, Bool, true, false, cond, refl, sym, ap, ◌∙◌, subst}
use Rattle.std.specs.Prelude.{ℤ, pos, ◌-ℤ◌}
use Rattle.std.proofs.lemmas.List.Elements.{All-nil, All-cons, All-head, All-tail, All-append, All-weaker, All-drop}
use Rattle.rv64_instr.specs.Arithmetic.{word}
use Rattle.rv64_instr.specs.Instruction.{Instruction}
use Rattle.rv64_instr.specs.LocationEffects.{is_call}
use Rattle.rv64_instr.specs.Row.{Row, Calls, row_of}
use Rattle.rv64_instr.specs.Row.{add_row}
use Rattle.emit_code.specs.declared.code.EncodedInstruction.{EncodedInstruction}
use Rattle.emit_code.specs.Laid.{LaidCode, IsCodeOf, IsOfItem}
use Rattle.emit_code.specs.Rule.{entries_of}
use Rattle.emit_code.proofs.Stand.{items_stand}
use Rattle.frame_rule.specs.Rule.{added, added_all, prologue, epilogue, renamed, renamed_kind, framed_item, framed_items, framed_block}
use Rattle.frame_rule.specs.Rule.{prologue_block}
use Rattle.frame_rule.specs.Rule.{framed_blocks, framed_of, size_of, saved_of}
use Rattle.frame_rule.proofs.Rows.{renamed_row, row_renamed}
use Rattle.gen_program.proofs.Steps.{IsMildRow, IsMild, item_in, fetched}
use Rattle.sem_machine.specs.MachineStep.{call_of}
use Rattle.selftest_proof.specs.sim_machine.Shown.{entry_call, fetch_call, kind_call}
use Rattle.selftest_proof.specs.Together.{HasNoCall}
use Rattle.mir_func.specs.declared.block.Block.{Block}
use Rattle.mir_func.specs.declared.debug_substitution.OperandPair.{OperandPair}
use Rattle.mir_func.specs.declared.framed.SavedRegister.{SavedRegister}
use Rattle.mir_func.specs.declared.item.Item.{Item}
use Rattle.mir_func.specs.declared.item.ItemKind.{ItemKind}
use Rattle.mir_func.specs.declared.item.ItemKind.TheVariants.{Code, Mark, Phi}
use Rattle.mir_func.specs.declared.position.Origin.{Origin}
use Rattle.mir_func.specs.declared.position.Origin.TheVariants.{Kept, Before}
use Rattle.mir_func.specs.Exits.{leads_back}
use Rattle.mir_func.specs.Function.{Function, FramedFunction}
use Rattle.mir_func.specs.Graph.{Fetch, Here, EndOfBlock, Outside, Program, block_start, program_of}
use Rattle.mir_func.specs.Sound.{AllItems}
use Rattle.mir_func.specs.SoundFrame.{adds_to_pointer, saves, restores, prologue_code, epilogue_code}
use Rattle.mir_func.specs.Positions.{position_of}
use Rattle.mir_func.specs.Calls.{is_call_kind}
use Rattle.sem_mir.specs.Follow.{MayAdd, ItemHasClass, HasClass, RowFits, KindFits, Shape}
use Rattle.rv64_instr.specs.View.{class_of, Call}

-- an item calls nothing
abbrev CallsNothing : Item → Type 0
CallsNothing i = is_call_kind i.kind ≡ false

abbrev CodeCallsNothing : Instruction → Type 0
CodeCallsNothing i = is_call (row_of i) ≡ false

-- ---- what passes keep and add

not_call : (r : Row) → IsMildRow r → class_of r ≡ Call → ⊥
not_call (Calls call) m e = m
not_call _ m e = cc

of_class : (r q : Row) → IsMildRow r → class_of r ≡ class_of q → is_call q ≡ false
of_class r (Calls call) m e = absurd (not_call r m e)
of_class r _ m e = refl

may_add : (q : Row) (item source_end : ℕ) → MayAdd q item source_end → is_call q ≡ false
may_add (Calls call) item source_end m = absurd m
may_add _ item source_end m = refl

module _ (source : List Block) (mild : AllItems (λ i. IsMild i.kind) source) (resolve : OperandPair → Option OperandPair) where
  abbrev src : Program
  src = program_of true source resolve

  of_kind : (q : Row) (kind : ItemKind) → IsMild kind → ItemHasClass q kind → is_call q ≡ false
  of_kind q (Code c k) m h = of_class (row_of c) q m h
  of_kind q (Mark v x) m h = absurd h
  of_kind q (Phi p k) m h = absurd h

  row_fits : (q : Row) (source_end : ℕ) (o : Origin) → RowFits src q source_end o → is_call q ≡ false
  row_fits q source_end (Kept p) h = by_fetch (src.fetch p) refl h where
    by_fetch : (x : Fetch) → src.fetch p ≡ x → HasClass q x → is_call q ≡ false
    by_fetch (Here i) e f = of_kind q i.kind (fetched (λ j. IsMild j.kind) source p.block p.item i e mild) f
    by_fetch (EndOfBlock k n) e f = absurd f
    by_fetch Outside e f = absurd f
  row_fits q source_end (Before p) h = may_add q p.item source_end h

  kind_fits : (kind : ItemKind) (source_end : ℕ) (o : Origin) → KindFits src kind source_end o → is_call_kind kind ≡ false
  kind_fits (Code c k) source_end o h = row_fits (row_of c) source_end o h
  kind_fits (Mark v m) source_end o h = refl
  kind_fits (Phi p k) source_end o h = refl

  -- so what follows the source calls nothing
  passed_calls_nothing : (f : List Block) (fp : Program) → Shape source f src fp → AllItems CallsNothing f
  passed_calls_nothing f fp shape =
      All-weaker (λ (b : Block). All (λ i. KindFits src i.kind b.source_end i.origin) b.items) (λ (b : Block). All CallsNothing b.items)
      (λ b h. All-weaker (λ (i : Item). KindFits src i.kind b.source_end i.origin) CallsNothing (λ i k. kind_fits i.kind b.source_end i.origin k) b.items h) f
      shape.items

-- ---- frames

call_same : (slots : List ℕ) (r : Row) → is_call (renamed_row slots r) ≡ is_call r
call_same slots (Calls call) = refl
call_same slots _ = refl

renamed_calls_nothing : (slots : List ℕ) (i : Item) → CallsNothing i → CallsNothing (renamed slots i)
renamed_calls_nothing slots i h = by_kind i.kind h where
  by_kind : (kind : ItemKind) → is_call_kind kind ≡ false → is_call_kind (renamed_kind slots kind) ≡ false
  by_kind (Code c k) g = ap is_call (row_renamed slots c) ∙ call_same slots (row_of c) ∙ g
  by_kind (Mark v m) g = refl
  by_kind (Phi p k) g = refl

adds_calls_nothing : (n : ℤ) → CodeCallsNothing (adds_to_pointer n)
adds_calls_nothing n = by_word (word n) where
  by_word : (x : ℕ) → is_call (add_row 2 2 x) ≡ false
  by_word zero = refl
  by_word (suc x) = refl

saves_nothing : (saved : List SavedRegister) → All CodeCallsNothing (map saves saved)
saves_nothing [] = All-nil CodeCallsNothing
saves_nothing (s ∷ saved) = All-cons CodeCallsNothing (saves s) (map saves saved) refl (saves_nothing saved)

restores_nothing : (saved : List SavedRegister) → All CodeCallsNothing (map restores saved)
restores_nothing [] = All-nil CodeCallsNothing
restores_nothing (s ∷ saved) = All-cons CodeCallsNothing (restores s) (map restores saved) refl (restores_nothing saved)

added_nothing : (o : Origin) (code : List Instruction) → All CodeCallsNothing code → All CallsNothing (map (added o) code)
added_nothing o [] h = All-nil CallsNothing
added_nothing o (c ∷ code) h =
    All-cons CallsNothing (added o c) (map (added o) code) (All-head CodeCallsNothing c code h) (added_nothing o code (All-tail CodeCallsNothing c code h))

added_all_nothing : (size : ℕ) (o : Origin) (code : List Instruction) → All CodeCallsNothing code → All CallsNothing (added_all size o code)
added_all_nothing zero o code h = All-nil CallsNothing
added_all_nothing (suc n) o code h = added_nothing o code h

module _ (f : Function) where
  prologue_nothing : (first : ℕ) → All CallsNothing (prologue f first)
  prologue_nothing first =
      added_all_nothing (size_of f) (Before (block_start first)) (prologue_code (size_of f) (saved_of f))
      (All-cons CodeCallsNothing (adds_to_pointer (pos 0 -ℤ pos (size_of f))) (map saves (saved_of f)) (adds_calls_nothing (pos 0 -ℤ pos (size_of f)))
      (saves_nothing (saved_of f)))

  epilogue_nothing : (o : Origin) → All CallsNothing (epilogue f o)
  epilogue_nothing o =
      added_all_nothing (size_of f) (Before (position_of o)) (epilogue_code (size_of f) (saved_of f))
      (All-append CodeCallsNothing (map restores (saved_of f)) (adds_to_pointer (pos (size_of f)) ∷ []) (restores_nothing (saved_of f))
      (All-cons CodeCallsNothing (adds_to_pointer (pos (size_of f))) [] (adds_calls_nothing (pos (size_of f))) (All-nil CodeCallsNothing)))

  item_nothing : (i : Item) → CallsNothing i → All CallsNothing (framed_item f i)
  item_nothing i h =
      All-append CallsNothing (cond (leads_back i.kind) (epilogue f i.origin) []) (renamed f.slots i ∷ []) (by_test (leads_back i.kind))
      (All-cons CallsNothing (renamed f.slots i) [] (renamed_calls_nothing f.slots i h) (All-nil CallsNothing)) where
        by_test : (t : Bool) → All CallsNothing (cond t (epilogue f i.origin) [])
        by_test true = epilogue_nothing i.origin
        by_test false = All-nil CallsNothing

  items_nothing : (items : List Item) → All CallsNothing items → All CallsNothing (framed_items f items)
  items_nothing [] h = All-nil CallsNothing
  items_nothing (i ∷ items) h =
      All-append CallsNothing (framed_item f i) (framed_items f items) (item_nothing i (All-head CallsNothing i items h))
      (items_nothing items (All-tail CallsNothing i items h))

  abbrev BlockCallsNothing : Block → Type 0
  BlockCallsNothing b = All CallsNothing b.items

  blocks_nothing : (bs : List Block) → All BlockCallsNothing bs → All BlockCallsNothing (map (framed_block f) bs)
  blocks_nothing [] h = All-nil BlockCallsNothing
  blocks_nothing (b ∷ bs) h =
      All-cons BlockCallsNothing (framed_block f b) (map (framed_block f) bs) (items_nothing b.items (All-head BlockCallsNothing b bs h))
      (blocks_nothing bs (All-tail BlockCallsNothing b bs h))

  framed_nothing : (bs : List Block) → All BlockCallsNothing bs → All BlockCallsNothing (framed_blocks f bs)
  framed_nothing [] h = All-nil BlockCallsNothing
  framed_nothing (b ∷ bs) h =
      All-cons BlockCallsNothing (prologue_block f b) (framed_block f b ∷ map (framed_block f) bs) (prologue_nothing b.id) (blocks_nothing (b ∷ bs) h)

-- ---- machine code

row_none : (r : Row) → is_call r ≡ false → call_of r ≡ None
row_none (Calls call) e = absurd cc
row_none _ e = refl

kind_none : (kind : ItemKind) → is_call_kind kind ≡ false → kind_call kind ≡ None
kind_none (Code c k) e = row_none (row_of c) e
kind_none (Mark v m) e = refl
kind_none (Phi p k) e = refl

entry_nothing : (f : FramedFunction) → AllItems CallsNothing f.blocks → (e : EncodedInstruction) → IsOfItem f e → entry_call f e ≡ None
entry_nothing f h e is =
    ap fetch_call is.stands
    ∙ kind_none is.item.kind (item_in CallsNothing (drop e.point.block f.blocks) e.point.item is.item is.stands
    (All-drop (λ (b : Block). All CallsNothing b.items) e.point.block f.blocks h))

pub code_calls_nothing : (source f : Function) (resolve : OperandPair → Option OperandPair) (fp : Program) → AllItems (λ i. IsMild i.kind) source.blocks →
    Shape source.blocks f.blocks (program_of true source.blocks resolve) fp → (base : ℕ) (c : LaidCode) → IsCodeOf (framed_of f) base c → HasNoCall c
code_calls_nothing source f resolve fp mild shape base c coded =
    let framed : AllItems CallsNothing (framed_of f).blocks =
    framed_nothing f f.blocks (passed_calls_nothing source.blocks mild resolve f.blocks fp shape) in
    let stand : All (IsOfItem (framed_of f)) (entries_of coded.layout) =
    subst (λ (g : FramedFunction). All (IsOfItem g) (entries_of coded.layout)) coded.of (items_stand coded.layout) in
    let P : FramedFunction → EncodedInstruction → Type 0 = λ g e. entry_call g e ≡ None in
    subst (λ (g : FramedFunction). All (P g) c.entries) (sym coded.framed)
    (subst (All (P (framed_of f))) (sym coded.entries)
    (All-weaker (IsOfItem (framed_of f)) (P (framed_of f)) (entry_nothing (framed_of f) framed) (entries_of coded.layout) stand))
