-- The call frame information of a laid-out function can be written.
use Rattle.std.specs.List.{flat_map}
use Rattle.std.proofs.Common.{◌≡◌, ℕ, zero, suc, ◌+◌, ◌-◌, ◌*◌, ◌%◌, ◌^◌, ◌<◌, ◌≤◌, Bool, true, false, cond, nat_eq, ◌||◌, ◌&&◌, List, [], ◌∷◌, ◌++◌}
use Rattle.std.proofs.Common.{map, length, drop, not, None, pos, ◌-ℤ◌, refl, sym, ap, ◌∙◌, subst, arith}
use Rattle.std.proofs.lemmas.Bool.{false≢true}
use Rattle.rv64_instr.specs.Instruction.{Instruction}
use Rattle.rv64_instr.specs.Row.{add_row}
use Rattle.rv64_instr.specs.LocationEffects.{has_site}
use Rattle.mir_func.specs.declared.block.Block.{Block}
use Rattle.mir_func.specs.declared.framed.SavedRegister.{SavedRegister}
use Rattle.mir_func.specs.declared.item.Item.{Item}
use Rattle.mir_func.specs.declared.item.ItemKind.TheVariants.{Code}
use Rattle.mir_func.specs.declared.position.Pos.{Pos}
use Rattle.mir_func.specs.Exits.{row_exit}
use Rattle.mir_func.specs.Function.{FramedFunction}
use Rattle.mir_func.specs.Graph.{fetch_in, is_return}
use Rattle.mir_func.specs.SoundFrame.{IsFramed, HasFrame, AreCode, prologue_code, adds_to_pointer}
use Rattle.mir_func.specs.Successors.{pos_in}
use Rattle.emit_code.specs.declared.code.EncodedInstruction.{EncodedInstruction}
use Rattle.emit_code.specs.Laid.{LaidCode, IsCode, IsCodeOf, StandFrom}
use Rattle.emit_code.specs.Rule.{Layout, OneWord, exit_form, form_of, form_entries, address_in, entry, entries_at, entries_of, sites_in, sites_from}
use Rattle.frame_proof.specs.Stands.{is_as_found}
use Rattle.dwarf_frame.specs.declared.table.Row.{Row}
use Rattle.dwarf_frame.specs.declared.table.FrameDescription.{FrameDescription}
use Rattle.dwarf_frame.specs.Rows.{Changes, NoEntry, Same, Other}
use Rattle.dwarf_frame.specs.Table.{initial, AreRows, IsDescription}
use Rattle.dwarf_frame.proofs.Entries.{initial_rules}
use Rattle.frame_table.specs.Table.{frame_row, position_of, entry_row, Describes}
use Rattle.frame_table.specs.Laws.{end_of}
use Rattle.frame_table.proofs.Said.{IsSaid, said}

-- ---- entries

least : (b : Bool) → 4 ≤ cond b 8 4
least true = omega arith
least false = omega arith

pub sized : (e : EncodedInstruction) → e.size ≡ cond e.call 8 4 → 4 ≤ e.size
sized e is = let four = least e.call in omega (arith, is, four)

whole_of : (b : Bool) → cond b 8 4 % 4 ≡ 0
whole_of true = refl
whole_of false = refl

pub stands_up : (a : ℕ) (es : List EncodedInstruction) (end : ℕ) → StandFrom a es end → a ≤ end
stands_up a [] end at = let same : a ≡ end = at in omega (arith, same)
stands_up a (x ∷ es) end (here, size, rest) = let low = stands_up (a + x.size) es end rest in omega (arith, low)

-- the rows after one before all of these entries
rows_are : (f : FramedFunction) → IsFramed f → (base end : ℕ) → end < base + 2 ^ 34 → (a : ℕ) (es : List EncodedInstruction) → StandFrom a es end
    → (before : Row) → base ≤ before.address → before.address < a → (a - before.address) % 4 ≡ 0 → IsSaid f before.rules
    → {rows : List Row} → Changes before.rules (map (entry_row f) es) rows → AreRows before rows end
rows_are f framed base end near a [] stand before low under whole is NoEntry = tt
rows_are f framed base end near a (e ∷ es) (here, size, rest) before low under whole is (Same same changes) =
    rows_are f framed base end near (a + e.size) es rest before low (omega (arith, under, sized e size))
    (let four = whole_of e.call in omega (arith, under, whole, size, four)) is changes
rows_are f framed base end near a (e ∷ es) (here, size, rest) before low under whole is (Other apart changes) =
    let is_new : IsSaid f (entry_row f e).rules = said f framed (position_of e.point) in
    let four = sized e size in
    let later = stands_up (a + e.size) es end rest in
    let by_four = whole_of e.call in (
      record {
        later = omega (arith, here, under);
        words = omega (arith, here, whole);
        near = omega (arith, here, near, low, later);
        inside = omega (arith, here, later, four);
        others = apart;
        keeps = λ was now. is_new.saved now ∙ sym (is.saved was);
      },
      is_new.are,
      rows_are f framed base end near (a + e.size) es rest (entry_row f e) (omega (arith, here, low, under)) (omega (arith, here, four))
          (omega (arith, here, size, by_four)) is_new changes,
    )

-- ---- the first entry

as_found_rules : (f : FramedFunction) (e : EncodedInstruction) (start : ℕ) → is_as_found f (position_of e.point) ≡ true
    → (entry_row f e).rules ≡ (initial start).rules
as_found_rules f e start found =
    ap (λ b. frame_row f (cond b (record { lowered = 0; saved = false })
    (record { lowered = f.size; saved = not (nat_eq e.point.block 0) }))) found

no_frame_found : (f : FramedFunction) (e : EncodedInstruction) → f.size ≡ 0 → is_as_found f (position_of e.point) ≡ true
no_frame_found f e none =
    ap (λ n. nat_eq n 0 || ((nat_eq e.point.block 0 && nat_eq e.point.item 0) || is_return (fetch_in (drop e.point.block f.blocks) e.point.item))) none

-- an addition of a number is one word
addition_form : (long : Bool) (rd r n : ℕ) → exit_form long (row_exit (add_row rd (suc r) n)) (has_site (add_row rd (suc r) n)) ≡ OneWord
addition_form long rd r zero = refl
addition_form long rd r (suc n) = refl

record StartsWith (l : Layout) : Type 0 where
  entry : EncodedInstruction
  others : List EncodedInstruction
  are : entries_of l ≡ entry ∷ others
  block : entry.point.block ≡ 0
  item : entry.point.item ≡ 0

first_item : (l : Layout) (p : Block) (more : List Block) (i : Item) (items : List Item) (c : Instruction) → l.framed.blocks ≡ p ∷ more → p.items ≡ i ∷ items
    → i.kind ≡ Code c None → form_of (l.long (pos_in 0 0)) (Code c None) ≡ OneWord → StartsWith l
first_item l p more i items c blocks_are items_are kind form = record {
  entry = entry (address_in l (pos_in 0 0)) 4 i.origin (pos_in 0 0) false;
  others = _;
  are =
      ap (λ bs. flat_map (entries_at l) (sites_from 0 bs)) blocks_are
      ∙ ap (λ is. flat_map (entries_at l) (sites_in 0 0 is ++ sites_from 1 more)) items_are
      ∙ ap (λ k. form_entries (address_in l (pos_in 0 0)) i.origin (pos_in 0 0) (form_of (l.long (pos_in 0 0)) k)
      ++ flat_map (entries_at l) (sites_in 0 1 items ++ sites_from 1 more)) kind
      ∙ ap (λ form. form_entries (address_in l (pos_in 0 0)) i.origin (pos_in 0 0) form
      ++ flat_map (entries_at l) (sites_in 0 1 items ++ sites_from 1 more)) form;
  block = refl;
  item = refl;
}

first_of_prologue : (l : Layout) (n : ℕ) (saved : List SavedRegister) (bs : List Block) → l.framed.blocks ≡ bs → HasFrame (suc n) saved bs → StartsWith l
first_of_prologue l n saved [] blocks_are h = absurd h
first_of_prologue l n saved (p ∷ more) blocks_are h = by_items p.items refl h.0 where
  by_items : (items : List Item) → p.items ≡ items → AreCode items (prologue_code (suc n) saved) → StartsWith l
  by_items [] e are = absurd cc
  by_items (i ∷ items) e are =
      let code : Instruction = adds_to_pointer (pos 0 -ℤ pos (suc n)) in
      let kind : i.kind ≡ Code (adds_to_pointer (pos 0 -ℤ pos (suc n))) None = cc in
      first_item l p more i items code blocks_are e kind (addition_form (l.long (pos_in 0 0)) 2 1 _)

head_same : (x y : EncodedInstruction) (xs ys : List EncodedInstruction) → x ∷ xs ≡ y ∷ ys → x ≡ y
head_same x y xs ys same = cc

-- at the first point of the prologue all is as at entry
entry_found : (f : FramedFunction) (p : Pos) → p.block ≡ 0 → p.item ≡ 0 → is_as_found f p ≡ true
entry_found f p block item = by (nat_eq f.size 0) where
  by : (b : Bool) → (b || ((nat_eq p.block 0 && nat_eq p.item 0) || is_return (fetch_in (drop p.block f.blocks) p.item))) ≡ true
  by true = refl
  by false =
      ap (λ n. (nat_eq n 0 && nat_eq p.item 0) || is_return (fetch_in (drop p.block f.blocks) p.item)) block
      ∙ ap (λ n. nat_eq n 0 || is_return (fetch_in (drop p.block f.blocks) p.item)) item

first_found : (c : LaidCode) (base : ℕ) → IsFramed c.framed → IsCodeOf c.framed base c → (e : EncodedInstruction) (es : List EncodedInstruction)
    → c.entries ≡ e ∷ es → is_as_found c.framed (position_of e.point) ≡ true
first_found c base framed is e es entries_are = by_size c.framed.size refl framed.frame where
  at_start : StartsWith is.layout → is_as_found c.framed (position_of e.point) ≡ true
  at_start first =
      let same : first.entry ≡ e = head_same first.entry e first.others es (sym first.are ∙ sym is.entries ∙ entries_are) in
      entry_found c.framed (position_of e.point) (ap (λ (x : EncodedInstruction). x.point.block) (sym same) ∙ first.block)
      (ap (λ (x : EncodedInstruction). x.point.item) (sym same) ∙ first.item)

  by_size : (n : ℕ) → c.framed.size ≡ n → HasFrame c.framed.size c.framed.saved c.framed.blocks → is_as_found c.framed (position_of e.point) ≡ true
  by_size zero none h = no_frame_found c.framed e none
  by_size (suc n) some h =
      at_start (first_of_prologue is.layout n c.framed.saved is.layout.framed.blocks refl
      (subst (λ (f : FramedFunction). HasFrame (suc n) c.framed.saved f.blocks) (sym is.of)
      (subst (λ k. HasFrame k c.framed.saved c.framed.blocks) some h)))

-- ---- all rows

initial_said : (f : FramedFunction) → IsFramed f → (start : ℕ) → IsSaid f (initial start).rules
initial_said f framed start = record {
  are = initial_rules start;
  saved = λ is. absurd (false≢true is);
}

rows_from_start : (c : LaidCode) (base : ℕ) → IsFramed c.framed → IsCodeOf c.framed base c → end_of c < c.base + 2 ^ 34
    → (es : List EncodedInstruction) → c.entries ≡ es → StandFrom c.base es (end_of c) → {rows : List Row}
    → Changes (initial c.base).rules (map (entry_row c.framed) es) rows → AreRows (initial c.base) rows (end_of c)
rows_from_start c base framed is near [] e stand NoEntry = tt
rows_from_start c base framed is near (x ∷ es) e (here, size, rest) (Same same changes) =
    let by_four = whole_of x.call in
    rows_are c.framed framed c.base (end_of c) near (c.base + x.size) es rest (initial c.base) (omega arith) (omega (arith, sized x size))
    (omega (arith, size, by_four)) (initial_said c.framed framed c.base) changes
rows_from_start c base framed is near (x ∷ es) e stand (Other apart changes) =
    absurd (apart (as_found_rules c.framed x c.base (first_found c base framed is x es e)))

pub description_writable : (c : LaidCode) (base : ℕ) (d : FrameDescription) → IsFramed c.framed → IsCode c → IsCodeOf c.framed base c → Describes c d
    → IsDescription d
description_writable c base d framed code is describes =
    let near : end_of c < c.base + 2 ^ 34 = omega (arith, code.few) in
    let rows : AreRows (initial c.base) d.rows (end_of c) = rows_from_start c base framed is near c.entries refl code.stand describes.rows in
    let top : c.base + 4 * length c.words ≤ 2 ^ 64 = omega (arith, code.few, code.low) in
    record {
      start = omega (arith, describes.start, code.low);
      size = omega (arith, describes.size, code.few);
      end = omega (arith, describes.start, describes.size, top);
      rows =
          subst (λ a. AreRows (initial a) d.rows (a + d.size)) (sym describes.start)
          (subst (λ n. AreRows (initial c.base) d.rows (c.base + n)) (sym describes.size) rows);
    }
