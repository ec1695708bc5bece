-- By the section of functions the rules of each entry's address are those of the frame's state at its point.
use Rattle.std.specs.List.{AllZip}
use Rattle.std.proofs.Common.{◌≡◌, ℕ, zero, suc, ◌+◌, ◌<◌, ◌≤◌, List, [], ◌∷◌, map, length, get_or, Contains, refl, sym, ap, subst, arith}
use Rattle.mir_func.specs.Function.{FramedFunction}
use Rattle.emit_code.specs.declared.code.EncodedInstruction.{EncodedInstruction}
use Rattle.emit_code.specs.Laid.{LaidCode, StandFrom}
use Rattle.dwarf_frame.specs.declared.table.Row.{Row}
use Rattle.dwarf_frame.specs.declared.table.FrameDescription.{FrameDescription}
use Rattle.dwarf_frame.specs.Rows.{AscendFrom, AreApart}
use Rattle.dwarf_frame.proofs.LastRow.{entry_rules}
use Rattle.frame_table.specs.Table.{entry_row, Describes}
use Rattle.frame_table.specs.Laws.{end_of, LieFrom, SectionsShowFrames}
use Rattle.frame_table.proofs.Writable.{sized, stands_up}

ascend_lower : (low from : ℕ) (rows : List Row) → low ≤ from → AscendFrom from rows → AscendFrom low rows
ascend_lower low from [] under ascend = tt
ascend_lower low from (r ∷ rows) under ascend = (omega (arith, under, ascend.0), ascend.1)

ascend : (f : FramedFunction) (a : ℕ) (es : List EncodedInstruction) (end : ℕ) → StandFrom a es end → AscendFrom a (map (entry_row f) es)
ascend f a [] end at = tt
ascend f a (e ∷ es) end (here, size, rest) = (
  omega (arith, here),
  ascend_lower (e.address + 1) (a + e.size) (map (entry_row f) es) (omega (arith, here, sized e size)) (ascend f (a + e.size) es end rest),
)

entry_inside : (a : ℕ) (es : List EncodedInstruction) (end : ℕ) → StandFrom a es end → (k : ℕ) (e : EncodedInstruction) → k < length es → get_or es k e ≡ e
    → e.address < end
entry_inside a [] end at k e inside is = absurd (omega (arith, inside))
entry_inside a (x ∷ es) end (here, size, rest) zero e inside is =
    subst (λ (y : EncodedInstruction). y.address < end) is (omega (arith, here, sized x size, stands_up (a + x.size) es end rest))
entry_inside a (x ∷ es) end (here, size, rest) (suc k) e inside is = entry_inside (a + x.size) es end rest k e (omega (arith, inside)) is

contains_map : {A B : Type 0} (g : A → B) (xs : List A) (x : A) → Contains xs x → Contains (map g xs) (g x)
contains_map g [] x (k, inside, is) = absurd (omega (arith, inside))
contains_map g (y ∷ xs) x (zero, inside, is) = (zero, omega arith, ap g is)
contains_map g (y ∷ xs) x (suc k, inside, is) =
    let more = contains_map g xs x (k, omega (arith, inside), is) in (suc more.0, omega (arith, more.1), more.2)

apart_lower : (low from : ℕ) (table : List FrameDescription) → low ≤ from → AreApart from table → AreApart low table
apart_lower low from [] under apart = tt
apart_lower low from (d ∷ table) under apart = (omega (arith, under, apart.0), apart.1)

apart : (base : ℕ) (codes : List LaidCode) (table : List FrameDescription) → LieFrom base codes → AllZip Describes codes table → AreApart base table
apart base [] [] lie each = tt
apart base [] (d ∷ table) lie each = absurd each
apart base (c ∷ codes) [] lie each = absurd each
apart base (c ∷ codes) (d ∷ table) lie each = (
  omega (arith, lie.0, each.0.start),
  apart_lower (d.start + d.size) (end_of c) table (omega (arith, each.0.start, each.0.size)) (apart (end_of c) codes table lie.2 each.1),
)

-- the description of a function's code
record HasDescription (table : List FrameDescription) (c : LaidCode) : Type 0 where
  description : FrameDescription
  listed : Contains table description
  describes : Describes c description
  stand : StandFrom c.base c.entries (end_of c)

described : (base : ℕ) (codes : List LaidCode) (table : List FrameDescription) → LieFrom base codes → AllZip Describes codes table → (k : ℕ) (c : LaidCode)
    → k < length codes → get_or codes k c ≡ c → HasDescription table c
described base [] table lie each k c inside is = absurd (omega (arith, inside))
described base (x ∷ codes) [] lie each k c inside is = absurd each
described base (x ∷ codes) (d ∷ table) lie each zero c inside is =
    subst (HasDescription (d ∷ table)) is
    (record { description = d; listed = (zero, omega arith, refl); describes = each.0; stand = lie.1 })
described base (x ∷ codes) (d ∷ table) lie each (suc k) c inside is =
    let more = described (end_of x) codes table lie.2 each.1 k c (omega (arith, inside)) is in
    record {
      description = more.description;
      listed = (suc more.listed.0, omega (arith, more.listed.1), more.listed.2);
      describes = more.describes;
      stand = more.stand;
    }

pub sections_show_frames : SectionsShowFrames
sections_show_frames undefined bytes codes table base lie each section c among e entered =
    let has = described base codes table lie each among.0 c among.1 among.2 in
    let d = has.description in
    entry_rules undefined bytes table d (map (entry_row c.framed) c.entries) (entry_row c.framed e) section
    (apart_lower 0 base table (omega arith) (apart base codes table lie each)) has.listed has.describes.rows
    (subst (λ a. AscendFrom a (map (entry_row c.framed) c.entries)) (sym has.describes.start) (ascend c.framed c.base c.entries (end_of c) has.stand))
    (contains_map (entry_row c.framed) c.entries e entered)
    (omega (
      arith,
      has.describes.start,
      has.describes.size,
      entry_inside c.base c.entries (end_of c) has.stand entered.0 e entered.1 entered.2,
    ))
