-- A function isn't too long to be laid out: each item counts as one word, but a call as two, and a block's conditional branch or its callee at the end as
-- one more; with its frame it has at most fourteen words more for each of its blocks and for the prologue.
use Rattle.std.proofs.Common.{◌≡◌, ℕ, zero, suc, ℤ, pos, ◌-ℤ◌, ◌+◌, ◌*◌, ◌<◌, ◌≤◌, List, []}
use Rattle.std.proofs.Common.{◌∷◌, ◌++◌, map, length, Bool, true, false, cond, refl, sym, ap, ◌∙◌, arith, length-append, subst}
use Rattle.std.proofs.lemmas.List.Sums.{sum_by-cons, sum_by-append}
use Rattle.std.specs.Prelude.{All, sum_by, count_by, filter}
use Rattle.std.proofs.lemmas.List.Elements.{All-head, All-tail}
use Rattle.rv64_instr.specs.Arithmetic.{word}
use Rattle.rv64_instr.specs.Instruction.{Instruction}
use Rattle.rv64_instr.specs.Row.{Row, LoadsSlot, StoresSlot, Branches, Jumps, Calls, Returns, row_of, add_row}
use Rattle.rv64_instr.specs.LocationEffects.{is_call, has_site}
use Rattle.mir_func.specs.declared.block.Block.{Block}
use Rattle.mir_func.specs.declared.framed.SavedRegister.{SavedRegister}
use Rattle.mir_func.specs.declared.item.Item.{Item}
use Rattle.mir_func.specs.declared.item.ItemKind.{ItemKind}
use Rattle.mir_func.specs.declared.item.ItemKind.TheVariants.{Code, Mark, Phi}
use Rattle.mir_func.specs.declared.position.Origin.{Origin}
use Rattle.mir_func.specs.declared.position.Origin.TheVariants.{Before}
use Rattle.mir_func.specs.Calls.{is_call_kind}
use Rattle.mir_func.specs.Graph.{block_start}
use Rattle.mir_func.specs.declared.exit.Exit.{Exit}
use Rattle.mir_func.specs.declared.exit.Exit.TheVariants.{Onward, Perhaps, Always, Final}
use Rattle.mir_func.specs.Exits.{leads_back, row_exit, exit_of, IsAlways}
use Rattle.mir_func.specs.Function.{Function}
use Rattle.mir_func.specs.Sound.{items_of, IsJumpAtMost, MayFollow, EndsWell, IsSound}
use Rattle.mir_func.specs.SoundFrame.{SAVED, saves, restores, adds_to_pointer, prologue_code, epilogue_code}
use Rattle.mir_func.proofs.Leading.{leads_out}
use Rattle.mir_func.specs.Positions.{position_of}
use Rattle.emit_code.specs.Counts.{MAX_WORDS, row_words, kind_count, item_count, count_of}
use Rattle.frame_rule.specs.Rule.{size_of, saved_of, saved_places, saved_registers, is_set}
use Rattle.frame_rule.specs.Rule.{added, added_all, prologue, epilogue, renamed, renamed_kind, framed_item}
use Rattle.frame_rule.specs.Rule.{framed_items, framed_block, prologue_block, framed_blocks, framed_of}
use Rattle.frame_rule.proofs.Rows.{renamed_row, row_renamed}
use Rattle.pass_trait.specs.Sizes.{call_count}
use Rattle.compile_passes.specs.read_body.Limits.{MAX_ITEMS}
use Rattle.compile_passes.specs.Passed.{MAX_PASSED}

-- ---- the words of a row

-- a row that goes on has one word, but a call of a function of a name two; a conditional branch has two at most, and so has one that leaves the function
abbrev turning : Exit → ℕ
turning Onward = 0
turning (Perhaps n) = 1
turning (Always n) = 0
turning Final = 1

one_or_two : (b : Bool) → cond b 2 1 ≤ 2
one_or_two true = omega arith
one_or_two false = omega arith

row_few : (row : Row) → row_words row ≤ 1 + (cond (is_call row) 1 0 + turning (row_exit row))
row_few (Calls call) = one_or_two (has_site (Calls call))
row_few (Returns ending) = one_or_two (has_site (Returns ending))
row_few (Branches op a b target) = omega arith
row_few (Jumps target) = omega arith
row_few _ = omega arith

kind_few : (k : ItemKind) → kind_count k ≤ 1 + (cond (is_call_kind k) 1 0 + turning (exit_of k))
kind_few (Code i k) = row_few (row_of i)
kind_few (Mark v m) = omega arith
kind_few (Phi p k) = omega arith

-- slots named by their offsets change none of it
words_renamed : (slots : List ℕ) (row : Row) → row_words (renamed_row slots row) ≡ row_words row
words_renamed slots (LoadsSlot rd n) = refl
words_renamed slots (StoresSlot rs n) = refl
words_renamed slots _ = refl

kind_renamed : (slots : List ℕ) (k : ItemKind) → kind_count (renamed_kind slots k) ≡ kind_count k
kind_renamed slots (Code i k) = ap row_words (row_renamed slots i) ∙ words_renamed slots (row_of i)
kind_renamed slots (Mark v m) = refl
kind_renamed slots (Phi p k) = refl

-- ---- added code

sum_words : (n : ℕ) → row_words (add_row 2 2 n) ≡ 1
sum_words zero = refl
sum_words (suc n) = refl

adds_one : (n : ℤ) → row_words (row_of (adds_to_pointer n)) ≡ 1
adds_one n = sum_words (word n)

saves_one : (saved : List SavedRegister) → sum_by (λ i. row_words (row_of i)) (map saves saved) ≡ length saved
saves_one [] = refl
saves_one (s ∷ saved) =
    let split = sum_by-cons (λ (i : Instruction). row_words (row_of i)) (saves s) (map saves saved) in
    let one : row_words (row_of (saves s)) ≡ 1 = refl in
    omega (arith, split, one, saves_one saved)

restores_one : (saved : List SavedRegister) (size : ℕ) →
    sum_by (λ i. row_words (row_of i)) (map restores saved ++ adds_to_pointer (pos size) ∷ []) ≡ suc (length saved)
restores_one [] size =
    let split = sum_by-cons (λ (i : Instruction). row_words (row_of i)) (adds_to_pointer (pos size)) [] in
    let none : sum_by (λ (i : Instruction). row_words (row_of i)) [] ≡ 0 = refl in
    omega (arith, split, adds_one (pos size), none)
restores_one (s ∷ saved) size =
    let split = sum_by-cons (λ (i : Instruction). row_words (row_of i)) (restores s) (map restores saved ++ adds_to_pointer (pos size) ∷ []) in
    let one : row_words (row_of (restores s)) ≡ 1 = refl in
    omega (arith, split, one, restores_one saved size)

-- code is added where there is a frame
words_added : (o : Origin) (code : List Instruction) → sum_by item_count (map (added o) code) ≡ sum_by (λ i. row_words (row_of i)) code
words_added o [] = refl
words_added o (i ∷ code) =
    sum_by-cons item_count (added o i) (map (added o) code)
    ∙ ap (λ (n : ℕ). row_words (row_of i) + n) (words_added o code)
    ∙ sym (sum_by-cons (λ (i : Instruction). row_words (row_of i)) i code)

added_few : (n : ℕ) (o : Origin) (code : List Instruction) → sum_by item_count (added_all n o code) ≤ sum_by (λ i. row_words (row_of i)) code
added_few zero o code = omega arith
added_few (suc n) o code = omega (arith, words_added o code)

places_length : (o : ℕ) (rs : List ℕ) → length (saved_places o rs) ≡ length rs
places_length o [] = refl
places_length o (r ∷ rs) = ap (λ (n : ℕ). suc n) (places_length (o + 8) rs)

filter_few : (p : ℕ → Bool) (xs : List ℕ) → length (filter p xs) ≤ length xs
filter_few p [] = omega arith
filter_few p (x ∷ xs) = by (p x) (filter_few p xs) where
  by : (b : Bool) → length (filter p xs) ≤ length xs → length (cond b (x ∷ filter p xs) (filter p xs)) ≤ suc (length xs)
  by true rest = omega (arith, rest)
  by false rest = omega (arith, rest)

module _ (f : Function) where
  saved_few : length (saved_of f) ≤ 13
  saved_few =
      let same = places_length (8 * length f.slots) (saved_registers f.blocks) in
      let few : length (saved_registers f.blocks) ≤ 13 = filter_few (is_set f.blocks) SAVED in
      omega (arith, same, few)

  prologue_few : (first : ℕ) → sum_by item_count (prologue f first) ≤ 14
  prologue_few first =
      let few = added_few (size_of f) (Before (block_start first)) (prologue_code (size_of f) (saved_of f)) in
      let split = sum_by-cons (λ (i : Instruction). row_words (row_of i)) (adds_to_pointer (pos 0 -ℤ pos (size_of f))) (map saves (saved_of f)) in
      omega (arith, few, split, adds_one (pos 0 -ℤ pos (size_of f)), saves_one (saved_of f), saved_few)

  epilogue_few : (o : Origin) → sum_by item_count (epilogue f o) ≤ 14
  epilogue_few o =
      let few = added_few (size_of f) (Before (position_of o)) (epilogue_code (size_of f) (saved_of f)) in
      omega (arith, few, restores_one (saved_of f) (size_of f), saved_few)

  -- ---- blocks

  abbrev calls : List Item → ℕ
  calls items = count_by (λ i. is_call_kind i.kind) items

  -- what goes on, or always to a block, doesn't lead back to the caller
  stays : (k : ItemKind) (e : Exit) → exit_of k ≡ e → (e ≡ Final → ⊥) → leads_back k ≡ false
  stays k e is ne = by (leads_back k) refl where
    by : (b : Bool) → leads_back k ≡ b → b ≡ false
    by true back = absurd (ne (sym is ∙ leads_out k back))
    by false back = refl

  -- an item with its epilogue
  item_few : (i : Item) → sum_by item_count (framed_item f i) ≤ 1 + (cond (is_call_kind i.kind) 1 0 + 15)
  item_few i =
      let own : kind_count (renamed_kind f.slots i.kind) ≤ 1 + (cond (is_call_kind i.kind) 1 0 + turning (exit_of i.kind)) =
      subst (λ (n : ℕ). n ≤ 1 + (cond (is_call_kind i.kind) 1 0 + turning (exit_of i.kind))) (sym (kind_renamed f.slots i.kind)) (kind_few i.kind) in
      let both = sum_by-append item_count (cond (leads_back i.kind) (epilogue f i.origin) []) (renamed f.slots i ∷ []) in
      let last = sum_by-cons item_count (renamed f.slots i) [] in
      let none : sum_by item_count [] ≡ 0 = refl in
      let before = by (leads_back i.kind) in
      omega (arith, own, both, last, none, before, turning_few (exit_of i.kind)) where
        by : (b : Bool) → sum_by item_count (cond b (epilogue f i.origin) []) ≤ 14
        by true = epilogue_few i.origin
        by false = omega arith

        turning_few : (e : Exit) → turning e ≤ 1
        turning_few Onward = omega arith
        turning_few (Perhaps n) = omega arith
        turning_few (Always n) = omega arith
        turning_few Final = omega arith

  -- and one that stays in the function
  staying_few : (i : Item) (e : Exit) → exit_of i.kind ≡ e → (e ≡ Final → ⊥) →
      sum_by item_count (framed_item f i) ≤ 1 + (cond (is_call_kind i.kind) 1 0 + turning e)
  staying_few i e is ne =
      let own : kind_count (renamed_kind f.slots i.kind) ≤ 1 + (cond (is_call_kind i.kind) 1 0 + turning e) =
      subst (λ (n : ℕ). n ≤ 1 + (cond (is_call_kind i.kind) 1 0 + turning e)) (sym (kind_renamed f.slots i.kind))
      (subst (λ (x : Exit). kind_count i.kind ≤ 1 + (cond (is_call_kind i.kind) 1 0 + turning x)) is (kind_few i.kind)) in
      let alone : framed_item f i ≡ renamed f.slots i ∷ [] =
      ap (λ (b : Bool). cond b (epilogue f i.origin) [] ++ renamed f.slots i ∷ []) (stays i.kind e is ne) in
      let last = sum_by-cons item_count (renamed f.slots i) [] in
      let none : sum_by item_count [] ≡ 0 = refl in
      subst (λ (items : List Item). sum_by item_count items ≤ 1 + (cond (is_call_kind i.kind) 1 0 + turning e)) (sym alone)
      (omega (arith, own, last, none))

  -- a jump behind a conditional branch
  jump_few : (items : List Item) → IsJumpAtMost items → sum_by item_count (framed_items f items) ≤ length items + calls items
  jump_few [] jump = omega arith
  jump_few (i ∷ []) jump = by (exit_of i.kind) refl jump where
    by : (e : Exit) → exit_of i.kind ≡ e → IsAlways e → sum_by item_count (framed_items f (i ∷ [])) ≤ 1 + calls (i ∷ [])
    by (Always n) is always =
        let both = sum_by-append item_count (framed_item f i) [] in
        let counted = sum_by-cons (λ (x : Item). cond (is_call_kind x.kind) 1 0) i [] in
        let none : sum_by item_count [] ≡ 0 = refl in
        omega (arith, both, counted, none, staying_few i (Always n) is (λ bad. cc))
    by _ is always = absurd always
  jump_few (i ∷ j ∷ items) jump = absurd jump

  framed_few : (items : List Item) → EndsWell items → sum_by item_count (framed_items f items) ≤ length items + (calls items + 15)
  framed_few [] ends = omega arith
  framed_few (i ∷ items) ends =
      let both = sum_by-append item_count (framed_item f i) (framed_items f items) in
      let counted = sum_by-cons (λ (x : Item). cond (is_call_kind x.kind) 1 0) i items in
      let here = by (exit_of i.kind) refl ends.0 (framed_few items ends.1) in
      omega (arith, both, counted, here) where
        nothing : items ≡ [] → sum_by item_count (framed_items f items) ≡ 0
        nothing none = ap (λ (xs : List Item). sum_by item_count (framed_items f xs)) none

        by : (e : Exit) → exit_of i.kind ≡ e → MayFollow e items → sum_by item_count (framed_items f items) ≤ length items + (calls items + 15) →
            sum_by item_count (framed_item f i) + sum_by item_count (framed_items f items)
            ≤ suc (length items) + (cond (is_call_kind i.kind) 1 0 + (calls items + 15))
        by Onward is follows rest = omega (arith, staying_few i Onward is (λ bad. cc), rest)
        by (Perhaps n) is follows rest = omega (arith, staying_few i (Perhaps n) is (λ bad. cc), jump_few items follows)
        by (Always n) is follows rest = omega (arith, staying_few i (Always n) is (λ bad. cc), nothing follows)
        by Final is follows rest = omega (arith, item_few i, nothing follows)

  abbrev EndsBlock : Block → Type 0
  EndsBlock b = EndsWell b.items

  blocks_few : (bs : List Block) → All EndsBlock bs →
      count_of (map (framed_block f) bs) ≤ length (items_of bs) + (calls (items_of bs) + 15 * length bs)
  blocks_few [] ends = omega arith
  blocks_few (b ∷ bs) ends =
      let both = length-append b.items (items_of bs) in
      let called = sum_by-append (λ (x : Item). cond (is_call_kind x.kind) 1 0) b.items (items_of bs) in
      let split : count_of (map (framed_block f) (b ∷ bs)) ≡ sum_by item_count (framed_items f b.items) + count_of (map (framed_block f) bs) =
      sum_by-cons (λ (x : Block). sum_by item_count x.items) (framed_block f b) (map (framed_block f) bs) in
      let first = framed_few b.items (All-head EndsBlock b bs ends) in
      let rest = blocks_few bs (All-tail EndsBlock b bs ends) in
      omega (arith, split, both, called, first, rest)

  all_few : (bs : List Block) → All EndsBlock bs →
      count_of (framed_blocks f bs) ≤ 14 + (length (items_of bs) + (calls (items_of bs) + 15 * length bs))
  all_few [] ends = omega arith
  all_few (b ∷ bs) ends =
      let split : count_of (framed_blocks f (b ∷ bs)) ≡ sum_by item_count (prologue f b.id) + count_of (map (framed_block f) (b ∷ bs)) =
      sum_by-cons (λ (x : Block). sum_by item_count x.items) (prologue_block f b) (map (framed_block f) (b ∷ bs)) in
      omega (arith, split, prologue_few b.id, blocks_few (b ∷ bs) ends)

  -- few items and calls make few words
  pub few_words : IsSound f → length (items_of f.blocks) ≤ MAX_PASSED → call_count f ≤ MAX_ITEMS → count_of (framed_of f).blocks < MAX_WORDS
  few_words sound few called =
      let all = all_few f.blocks sound.ends in
      let blocks = sound.few_blocks in
      omega (arith, all, few, called, blocks)
