-- How long the text of a generated function is.
use Rattle.std.proofs.Common.{◌≡◌, ℕ, zero, suc, ◌+◌, ◌*◌, ◌<◌, ◌≤◌, List, [], ◌∷◌, ◌++◌, length, All, refl, sym, ap, subst, lit≤, length-append, arith}
use Rattle.std.specs.Prelude.{Bool, false, codes}
use Rattle.std.specs.List.{flat_map}
use Rattle.std.specs.Fmt.{decimal}
use Rattle.std.proofs.lemmas.Fmt.{length-decimal-le}
use Rattle.std.proofs.lemmas.List.Elements.{All-head, All-tail}
use Rattle.mir_func.specs.declared.block.Block.{Block}
use Rattle.mir_func.specs.declared.item.Item.{Item}
use Rattle.mir_func.specs.declared.item.ItemKind.{ItemKind}
use Rattle.mir_func.specs.declared.location.Loc.{Loc}
use Rattle.mir_printer.specs.Spelling.{register_text, kind_text, location_text, is_volatile_kind, with_memory_operand}
use Rattle.mir_func_printer.specs.FuncText.{name_text, item_line, block_text, func_text}
use Rattle.gen_function.specs.Draws.{Drawn}
use Rattle.gen_function.specs.Generator.{block_items, block_of, blocks_made, generated}
use Rattle.gen_text.specs.GeneratedText.{head_text, variable_line, metadata_text}
use Rattle.gen_program.proofs.Made.{IsMade, adds, copies, gives, sets, stores, loads, phis, marks, branches, jumps, returns, IsMadeItem, IsMadeBlock}
use Rattle.gen_program.proofs.Steps.{TOP, generated_made}
use Rattle.readback_items.proofs.Registers.{register_spelled}
use Rattle.theorem_gen_text.specs.Laws.{GeneratedTextsAreShort}

-- ---- texts, and how long they are at most

record Sized : Type 0 where
  text : List ℕ
  most : ℕ
  short : length text ≤ most

self : (n : ℕ) → n ≤ n
self n = omega arith

both_short : (xs ys : List ℕ) (m n : ℕ) → length xs ≤ m → length ys ≤ n → length (xs ++ ys) ≤ m + n
both_short xs ys m n p q = omega (arith, p, q, length-append xs ys)

abbrev word : List ℕ → Sized
word xs = record { text = xs; most = length xs; short = self (length xs) }

abbrev known : (text : List ℕ) (most : ℕ) → length text ≤ most → Sized
known text most short = record { text = text; most = most; short = short }

abbrev join : Sized → Sized → Sized
join a b = record { text = a.text ++ b.text; most = a.most + b.most; short = both_short a.text b.text a.most b.most a.short b.short }

within : (s : Sized) (m : ℕ) → s.most ≤ m → length s.text ≤ m
within s m most = let short = s.short in omega (arith, short, most)

decimal_short : (n : ℕ) → n ≤ TOP → length (decimal n) ≤ 4
decimal_short n small = length-decimal-le 4 n (omega arith) (omega (arith, small)) (omega (arith, small))

register_short : (r : ℕ) → r < 32 → length (register_text r) ≤ 6
register_short r small =
    let spelled : length (register_text r) ≡ length (codes "$x" ++ decimal r) = ap length (register_spelled r small) in
    let digits = decimal_short r (omega (arith, small)) in
    let two : length (codes "$x" ++ decimal r) ≡ suc (suc (length (decimal r))) = refl in
    omega (arith, spelled, digits, two)

abbrev number : (n : ℕ) → n ≤ TOP → Sized
number n small = known (decimal n) 4 (decimal_short n small)

abbrev register : (r : ℕ) → r < 32 → Sized
register r small = known (register_text r) 6 (register_short r small)

-- ---- items

low : (n m : ℕ) → n < m → m ≤ TOP → n ≤ TOP
low n m less small = omega (arith, less, small)

more : (n : ℕ) → n < 4 → 10 + n ≤ TOP
more n less = omega (arith, less)

-- the number behind an instruction
abbrev numbered : (k : ℕ) → k ≤ TOP → Sized
numbered k small = join (word (codes ", debug-instr-number ")) (number k small)

-- code that sets a register
abbrev sets_by : (rd : ℕ) → rd < 32 → (name : List ℕ) → Sized → Sized
sets_by rd small name uses = join (join (join (register rd small) (word (codes " = "))) (word name)) (join (word (codes " ")) uses)

-- code that sets none
abbrev uses_by : (name : List ℕ) → Sized → Sized
uses_by name uses = join (word name) (join (word (codes " ")) uses)

abbrev comma : Sized → Sized → Sized
comma a b = join (join a (word (codes ", "))) b

abbrev slot : (n : ℕ) → n ≤ TOP → Sized
slot n small = join (word (codes "%stack.")) (number n small)

kind_short : {kind : ItemKind} → IsMade TOP kind → length (kind_text kind) ≤ 100
kind_short (adds rd rs rt k a b c l) =
    within (join (sets_by rd a.1 (codes "ADD") (comma (register rs b.1) (register rt c.1))) (numbered k l)) 100 (lit≤ tt)
kind_short (copies rd rs k a b l) = within (join (sets_by rd a.1 (codes "COPY") (register rs b.1)) (numbered k l)) 100 (lit≤ tt)
kind_short gives = within (join (sets_by 10 (omega arith) (codes "COPY") (register 8 (omega arith))) (word [])) 100 (lit≤ tt)
kind_short (sets rd n k a l m) =
    within (join (sets_by rd a.1 (codes "ADDI") (comma (register 0 (omega arith)) (number n (low n 64 l (lit≤ tt))))) (numbered k m)) 100
    (lit≤ tt)
kind_short (stores rs n a l) =
    within (join (uses_by (codes "SD") (comma (register rs a.1) (comma (slot n (low n 4 l (lit≤ tt))) (number 0 (lit≤ tt))))) (word [])) 100
    (lit≤ tt)
kind_short (loads rd n k a l m) =
    within (join (sets_by rd a.1 (codes "LD") (comma (slot n (low n 4 l (lit≤ tt))) (number 0 (lit≤ tt)))) (numbered k m)) 100 (lit≤ tt)
kind_short (phis rs k a l) =
    within (join (join (join (word (codes "DBG_PHI ")) (register rs a.1)) (word (codes ", "))) (number k l)) 100 (lit≤ tt)
kind_short (marks n k l m) =
    within (join (join (join (join (join (join (join (join (word (codes "DBG_INSTR_REF !")) (number (10 + n) (more n l))) (word (codes ", ")))
    (word (codes "!DIExpression(DW_OP_LLVM_arg, 0)"))) (word (codes ", dbg-instr-ref("))) (number k m)) (word (codes ", "))) (number 0 (lit≤ tt)))
    (word (codes ")"))) 100 (lit≤ tt)
kind_short (branches rs n a l) =
    within (join (uses_by (codes "BEQ") (comma (register rs a.1) (comma (register 0 (omega arith))
    (join (word (codes "%bb.")) (number n l))))) (word [])) 100 (lit≤ tt)
kind_short (jumps n l) = within (join (uses_by (codes "PseudoBR") (join (word (codes "%bb.")) (number n l))) (word [])) 100 (lit≤ tt)
kind_short returns =
    within (join (uses_by (codes "PseudoRET") (join (word (codes "implicit ")) (register 10 (omega arith)))) (word [])) 100 (lit≤ tt)

-- a generated item isn't volatile
made_plain : {kind : ItemKind} → IsMade TOP kind → is_volatile_kind kind ≡ false
made_plain (adds rd rs rt k a b c l) = refl
made_plain (copies rd rs k a b l) = refl
made_plain gives = refl
made_plain (sets rd n k a l m) = refl
made_plain (stores rs n a l) = refl
made_plain (loads rd n k a l m) = refl
made_plain (phis rs k a l) = refl
made_plain (marks n k l m) = refl
made_plain (branches rs n a l) = refl
made_plain (jumps n l) = refl
made_plain returns = refl

line_short : (i : Item) → IsMadeItem TOP i → length (item_line i) ≤ 105
line_short i m =
    let kind = kind_short m.made in
    subst (λ (b : Bool). length (codes "    " ++ with_memory_operand b (kind_text i.kind ++ location_text i.loc) ++ 10 ∷ []) ≤ 105) (sym (made_plain m.made))
    (subst (λ (l : Loc). length (codes "    " ++ (kind_text i.kind ++ location_text l) ++ 10 ∷ []) ≤ 105) (sym m.absent)
    (within (join (join (word (codes "    ")) (join (known (kind_text i.kind) 100 kind) (word []))) (word (10 ∷ []))) 105 (lit≤ tt)))

lines_short : (items : List Item) → All (IsMadeItem TOP) items → length (flat_map item_line items) ≤ 105 * length items
lines_short [] all = omega arith
lines_short (i ∷ items) all =
    let first = line_short i (All-head (IsMadeItem TOP) i items all) in
    let rest = lines_short items (All-tail (IsMadeItem TOP) i items all) in
    one_more (length (item_line i ++ flat_map item_line items)) (length (item_line i)) (length (flat_map item_line items)) (length items)
    (length-append (item_line i) (flat_map item_line items)) first rest
  where
    one_more : (whole one rest n : ℕ) → whole ≡ one + rest → one ≤ 105 → rest ≤ 105 * n → whole ≤ 105 * suc n
    one_more whole one rest n is few more = omega (arith, is, few, more)

-- ---- blocks

block_short : (b : Block) → IsMadeBlock TOP b → length (block_text b) ≤ 2000
block_short b m =
    let lines = lines_short b.items m.items in
    let few = m.few in
    let id = m.low in
    within (join (join (join (word (codes "  bb.")) (number b.id (omega (arith, id)))) (word (codes ":" ++ 10 ∷ [])))
    (known (flat_map item_line b.items) 1890 (omega (arith, lines, few)))) 2000 (lit≤ tt)

blocks_short : (bs : List Block) → All (IsMadeBlock TOP) bs → length (flat_map block_text bs) ≤ 2000 * length bs
blocks_short [] all = omega arith
blocks_short (b ∷ bs) all =
    let first = block_short b (All-head (IsMadeBlock TOP) b bs all) in
    let rest = blocks_short bs (All-tail (IsMadeBlock TOP) b bs all) in
    one_more (length (block_text b ++ flat_map block_text bs)) (length (block_text b)) (length (flat_map block_text bs)) (length bs)
    (length-append (block_text b) (flat_map block_text bs)) first rest
  where
    one_more : (whole one rest n : ℕ) → whole ≡ one + rest → one ≤ 2000 → rest ≤ 2000 * n → whole ≤ 2000 * suc n
    one_more whole one rest n is few more = omega (arith, is, few, more)

how_many : (count n : ℕ) (d : Drawn) → length (blocks_made count n d).blocks ≡ n
unfolding blocks_made
how_many count zero d = refl
how_many count (suc n) d =
    let before = blocks_made count n d in
    let counted = how_many count n d in
    omega (arith, counted, length-append before.blocks (block_of n (block_items count n before.rest).kinds ∷ []))

-- ---- the document

slot_small : (n : ℕ) → n < 4 → n ≤ TOP
slot_small n less = omega (arith, less)

abbrev slot_sized : (n : ℕ) → n < 4 → Sized
slot_sized n less = join (join (word (codes "  - { id: ")) (number n (slot_small n less))) (word (codes ", size: 8 }" ++ 10 ∷ []))

abbrev stack_sized : Sized
stack_sized = join (join (join (word (codes "stack:")) (word (10 ∷ []))) (join (slot_sized 0 (omega arith)) (join (slot_sized 1 (omega arith))
    (join (slot_sized 2 (omega arith)) (join (slot_sized 3 (omega arith)) (word [])))))) (word [])

document_short : (seed count : ℕ) → count ≤ 512 → length (func_text (generated seed count) []) ≤ 1025000
unfolding func_text
document_short seed count few =
    let bs = (generated seed count).blocks in
    let blocks = blocks_short bs (generated_made seed count few) in
    let counted : length bs ≡ count = how_many count count (record { state = seed; given = 0 }) in
    within (join (join (join (join (join (join (join (join (join (word (codes "---")) (word (10 ∷ []))) (word (codes "name: ")))
    (word (name_text (codes "gen")))) (word (10 ∷ []))) stack_sized) (word [])) (word (codes "body: |" ++ 10 ∷ [])))
    (known (flat_map block_text bs) 1024000 (omega (arith, blocks, counted, few)))) (word (codes "..." ++ 10 ∷ []))) 1025000 (lit≤ tt)

-- ---- the metadata

variable_short : (n c : ℕ) → n ≤ TOP → length (variable_line n c) ≤ 100
unfolding variable_line
variable_short n c small =
    within (join (join (join (join (word (codes "  !")) (number n small)) (word (codes " = !DILocalVariable(name: \""))) (word (c ∷ [])))
    (word (codes "\", scope: !2, file: !1, line: 1)\n"))) 100 (lit≤ tt)

metadata_short : length metadata_text ≤ 1000
unfolding metadata_text head_text
metadata_short =
    within (join (join (join (join (join (word head_text) (known (variable_line 10 97) 100 (variable_short 10 97 (lit≤ tt))))
    (known (variable_line 11 98) 100 (variable_short 11 98 (lit≤ tt)))) (known (variable_line 12 99) 100 (variable_short 12 99 (lit≤ tt))))
    (known (variable_line 13 100) 100 (variable_short 13 100 (lit≤ tt)))) (word (codes "...\n"))) 1000 (lit≤ tt)

pub generated_texts_are_short : GeneratedTextsAreShort
generated_texts_are_short seed count few = record {
  document = let short = document_short seed count few in omega (arith, short);
  text =
      within (join (known metadata_text 1000 metadata_short) (known (func_text (generated seed count) []) 1025000 (document_short seed count few))) 2097152
      (lit≤ tt);
}
