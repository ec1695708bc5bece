-- What holds of each item of a function, and of the code that its frame adds, holds of each item of the function with its frame. So marks are
-- of the same variables, and code has the form of its opcode: slots are renamed, and no form looks at a slot's number.
use Rattle.std.proofs.Common.{◌≡◌, ℕ, zero, suc, ◌≤◌, pos, ◌-ℤ◌, List, [], ◌∷◌, ◌++◌, map, Bool, true, false, cond, ◌&&◌, None, refl, ◌∙◌, arith}
use Rattle.std.specs.Prelude.{All, IsTrue}
use Rattle.std.proofs.lemmas.Bool.Decides.{nat_tests}
use Rattle.std.proofs.lemmas.Int.{ints}
use Rattle.std.proofs.lemmas.List.Elements.{All-nil, All-head, All-tail, All-cons, All-append}
use Rattle.rv64_instr.specs.Form.{has_12_bits}
use Rattle.mir_func.specs.declared.block.Block.{Block}
use Rattle.mir_func.specs.declared.framed.SavedRegister.{SavedRegister}
use Rattle.mir_func.specs.declared.item.Item.{Item}
use Rattle.mir_func.specs.declared.item.ItemKind.{ItemKind}
use Rattle.mir_func.specs.declared.item.ItemKind.TheVariants.{Code, Mark, Phi}
use Rattle.mir_func.specs.declared.position.Origin.{Origin}
use Rattle.mir_func.specs.declared.variable.VarId.{VarId}
use Rattle.mir_func.specs.Exits.{leads_back}
use Rattle.mir_func.specs.Function.{Function}
use Rattle.mir_func.specs.Limits.{MAX_FRAME}
use Rattle.mir_func.specs.Sound.{AllItems, HasForm}
use Rattle.mir_func.specs.SoundFrame.{adds_to_pointer, saves, restores, prologue_code, epilogue_code}
use Rattle.frame_rule.specs.Rule.{size_of, saved_of, added, added_all, prologue, epilogue, renamed_kind, renamed, framed_item}
use Rattle.frame_rule.specs.Rule.{framed_items, framed_block, framed_blocks}
use Rattle.frame_rule.proofs.Forms.{form_same}
use Rattle.emit_code.specs.steps.Emitted.{IsFormed}
use Rattle.compile_theorem.proofs.Variables.{MarkIn}

module _ (f : Function) (P : ItemKind → Type 0) (lowers : P (Code (adds_to_pointer (pos 0 -ℤ pos (size_of f))) None))
    (raises : P (Code (adds_to_pointer (pos (size_of f))) None)) (saving : (s : SavedRegister) → P (Code (saves s) None))
    (loading : (s : SavedRegister) → P (Code (restores s) None)) where
  abbrev Q : Item → Type 0
  Q i = P i.kind

  saved_all : (o : Origin) (saved : List SavedRegister) → All Q (map (added o) (map saves saved))
  saved_all o [] = All-nil Q
  saved_all o (s ∷ saved) = All-cons Q (added o (saves s)) (map (added o) (map saves saved)) (saving s) (saved_all o saved)

  loaded_all : (o : Origin) (saved : List SavedRegister) → All Q (map (added o) (map restores saved ++ adds_to_pointer (pos (size_of f)) ∷ []))
  loaded_all o [] = All-cons Q (added o (adds_to_pointer (pos (size_of f)))) [] raises (All-nil Q)
  loaded_all o (s ∷ saved) =
      All-cons Q (added o (restores s)) (map (added o) (map restores saved ++ adds_to_pointer (pos (size_of f)) ∷ [])) (loading s) (loaded_all o saved)

  prologue_all : (n : ℕ) (o : Origin) (saved : List SavedRegister) → All Q (added_all n o (prologue_code (size_of f) saved))
  prologue_all zero o saved = All-nil Q
  prologue_all (suc n) o saved =
      All-cons Q (added o (adds_to_pointer (pos 0 -ℤ pos (size_of f)))) (map (added o) (map saves saved)) lowers (saved_all o saved)

  epilogue_all : (n : ℕ) (o : Origin) (saved : List SavedRegister) → All Q (added_all n o (epilogue_code (size_of f) saved))
  epilogue_all zero o saved = All-nil Q
  epilogue_all (suc n) o saved = loaded_all o saved

  module _ (stays : (k : ItemKind) → P k → P (renamed_kind f.slots k)) where
    item_all : (i : Item) → Q i → All Q (framed_item f i)
    item_all i is =
        All-append Q (cond (leads_back i.kind) (epilogue f i.origin) []) (renamed f.slots i ∷ []) (by_exit (leads_back i.kind))
        (All-cons Q (renamed f.slots i) [] (stays i.kind is) (All-nil Q))
      where
        by_exit : (z : Bool) → All Q (cond z (epilogue f i.origin) [])
        by_exit true = epilogue_all (size_of f) _ (saved_of f)
        by_exit false = All-nil Q

    items_all : (items : List Item) → All Q items → All Q (framed_items f items)
    items_all [] all = All-nil Q
    items_all (i ∷ items) all =
        All-append Q (framed_item f i) (framed_items f items) (item_all i (All-head Q i items all)) (items_all items (All-tail Q i items all))

    abbrev OfBlocks : Block → Type 0
    OfBlocks b = All Q b.items

    blocks_all : (blocks : List Block) → AllItems Q blocks → AllItems Q (map (framed_block f) blocks)
    blocks_all [] all = All-nil OfBlocks
    blocks_all (b ∷ blocks) all =
        All-cons OfBlocks (framed_block f b) (map (framed_block f) blocks) (items_all b.items (All-head OfBlocks b blocks all))
        (blocks_all blocks (All-tail OfBlocks b blocks all))

    pub framed_all : (blocks : List Block) → AllItems Q blocks → AllItems Q (framed_blocks f blocks)
    framed_all [] all = All-nil OfBlocks
    framed_all (b ∷ blocks) all =
        All-cons OfBlocks (record { id = b.id; items = prologue f b.id; source_end = b.source_end }) (map (framed_block f) (b ∷ blocks))
        (prologue_all (size_of f) _ (saved_of f)) (blocks_all (b ∷ blocks) all)

-- ---- marks

pub marks_framed : (f : Function) (vs : List VarId) → AllItems (λ i. MarkIn vs i.kind) f.blocks → AllItems (λ i. MarkIn vs i.kind) (framed_blocks f f.blocks)
marks_framed f vs marks =
    framed_all f (MarkIn vs) tt tt (λ s. tt) (λ s. tt) stays f.blocks marks where
      stays : (k : ItemKind) → MarkIn vs k → MarkIn vs (renamed_kind f.slots k)
      stays (Mark v m) is = is
      stays (Code i k) is = tt
      stays (Phi p k) is = tt

-- ---- forms

adds_up : (n : ℕ) → n ≤ 2032 → has_12_bits (pos n) ≡ true
adds_up n small = grind (arith, nat_tests, ints)

adds_down : (n : ℕ) → n ≤ 2032 → has_12_bits (pos 0 -ℤ pos n) ≡ true
adds_down zero small = refl
adds_down (suc n) small = grind (arith, nat_tests, ints)

and_true : (b : Bool) → b ≡ true → IsTrue (b && true)
and_true true e = refl
and_true false e = cc

pub forms_framed : (f : Function) → size_of f ≤ MAX_FRAME → AllItems IsFormed f.blocks → AllItems IsFormed (framed_blocks f f.blocks)
forms_framed f small forms =
    framed_all f HasForm (and_true (has_12_bits (pos 0 -ℤ pos (size_of f))) (adds_down (size_of f) small))
    (and_true (has_12_bits (pos (size_of f))) (adds_up (size_of f) small)) (λ s. refl) (λ s. refl) stays f.blocks forms where
      stays : (k : ItemKind) → HasForm k → HasForm (renamed_kind f.slots k)
      stays (Code c k) is = form_same f.slots c.op c.operands ∙ is
      stays (Mark v m) is = tt
      stays (Phi p k) is = tt
