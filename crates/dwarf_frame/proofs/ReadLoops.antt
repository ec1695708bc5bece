-- How the loops of the reader go on and end.
use Rattle.std.specs.Prelude.{◌&&◌}
use Rattle.std.specs.Option.{option_or}
use Rattle.std.proofs.Common.{◌≡◌, ◌≢◌, ℕ, suc, ◌+◌, ◌*◌, ◌-◌, ◌/◌, ◌%◌, ◌<◌, ◌≤◌, Bool, true, false, cond, eqb, leb, ltb, List, [], ◌∷◌, ◌++◌}
use Rattle.std.proofs.Common.{replicate, Option, Some, None, Result, Ok, Err, arith, ap, subst, sym, ◌∙◌, refl, inl, inr, append_assoc, append-nil}
use Rattle.std.proofs.Common.{length, take, set, length-append}
use Rattle.std.proofs.lemmas.Bool.{cases_lt, and_from, le-leb, leb-true, lt-ltb, le-ltb}
use Rattle.std.proofs.lemmas.List.{take_all, take_more_set, nil_from_length, take-replicate}
use Rattle.std.specs.Int.{w32, to_le_bytes}
use Rattle.dwarf_line.specs.Fields.{◌>>=◌, constants_at}
use Rattle.dwarf_line.proofs.Groups.{chosen, not_ok, constants_take}
use Rattle.dwarf_line.proofs.Fixed.{IsBytes, IsBytes-behind}
use Rattle.dwarf_frame.specs.declared.table.FrameRow.{FrameRow}
use Rattle.dwarf_frame.specs.declared.table.Row.{Row}
use Rattle.dwarf_frame.specs.declared.table.FrameDescription.{FrameDescription}
use Rattle.dwarf_frame.specs.declared.read.Range.{Range}
use Rattle.dwarf_frame.specs.Table.{initial, AreRules}
use Rattle.dwarf_frame.specs.Spelling.{undefines, common_front, common_fields, advance, registers, row}
use Rattle.dwarf_frame.specs.FirstFault.{behind_common, save_at, saves_at, begins_row, padding_at, next_row_at, entry_at, range_at}
use Rattle.dwarf_frame.specs.FirstFault.{Rows, NoRow, NextRow, RowsFault, InPadding, InRow, InLaterRow, FunctionFault}
use Rattle.dwarf_frame.specs.FirstFault.{Functions, NoFunction, NextFunction, FunctionsFault, InLength, InFunction, InLaterFunction}
use Rattle.dwarf_frame.specs.FirstFault.{InCommon, InFunctions, FirstFault}
use Rattle.dwarf_frame.specs.Rows.{rules_after, rules_in}
use Rattle.dwarf_frame.specs.steps.Read.{RulesRead, FunctionRead, SectionRead}
use Rattle.dwarf_frame.proofs.Opcodes.{short_is, long_is}
use Rattle.dwarf_frame.proofs.OneRow.{change, row_append, row_takes}
use Rattle.dwarf_frame.proofs.Entries.{entry_takes, initial_rules, length-zeros}
use Rattle.dwarf_frame.proofs.Sections.{length-undefines}

-- ---- saved registers

-- distances before those that are read
abbrev pub front : List (Option ℕ) → Result (List (Option ℕ) × List ℕ) ℕ → Result (List (Option ℕ) × List ℕ) ℕ
front before (Ok read) = Ok (before ++ read.0, read.1)
front before (Err left) = Err left

abbrev joined : Option ℕ → List (Option ℕ) × List ℕ → Result (List (Option ℕ) × List ℕ) ℕ
joined o others = Ok (o ∷ others.0, others.1)

abbrev all_of : List (Option ℕ) → List ℕ → Result (List (Option ℕ) × List ℕ) ℕ
all_of saved rest = Ok (saved, rest)

front_joined : (before : List (Option ℕ)) (o : Option ℕ) (r : Result (List (Option ℕ) × List ℕ) ℕ)
    → front before (r >>= joined o) ≡ front (before ++ o ∷ []) r
front_joined before o (Ok read) = ap (λ xs. all_of xs read.1) (sym (append_assoc before (o ∷ []) read.0))
front_joined before o (Err left) = refl

pub front_nothing : (r : Result (List (Option ℕ) × List ℕ) ℕ) → r ≡ front [] r
front_nothing (Ok read) = refl
front_nothing (Err left) = refl

pub saves_more : (saved : List (Option ℕ)) (i : ℕ) (o : Option ℕ) (rest after bytes : List ℕ) → i < 32 → length saved ≡ 32
    → saves_at 32 0 bytes ≡ front (take i saved) (saves_at (32 - i) i rest) → save_at i rest ≡ Ok (o, after)
    → saves_at 32 0 bytes ≡ front (take (i + 1) (set saved i o)) (saves_at (32 - (i + 1)) (i + 1) after)
unfolding saves_at
saves_more saved i o rest after bytes inside count so_far read =
    let k : 32 - i ≡ suc (32 - (i + 1)) = omega arith in
    let next : suc i ≡ i + 1 = omega arith in
    let this : saves_at (32 - i) i rest ≡ (saves_at (32 - (i + 1)) (suc i) after >>= joined o) = rw (k, read) refl in
    so_far ∙ ap (front (take i saved)) this ∙ front_joined (take i saved) o (saves_at (32 - (i + 1)) (suc i) after)
    ∙ ap (λ xs. front xs (saves_at (32 - (i + 1)) (suc i) after)) (sym (take_more_set saved i o (omega (arith, count))))
    ∙ ap (λ n. front (take (i + 1) (set saved i o)) (saves_at (32 - (i + 1)) n after)) next

pub saves_fault : (saved : List (Option ℕ)) (i left : ℕ) (rest bytes : List ℕ) → i < 32
    → saves_at 32 0 bytes ≡ front (take i saved) (saves_at (32 - i) i rest) → save_at i rest ≡ Err left → saves_at 32 0 bytes ≡ Err left
unfolding saves_at
saves_fault saved i left rest bytes inside so_far read =
    let k : 32 - i ≡ suc (32 - (i + 1)) = omega arith in
    let this : saves_at (32 - i) i rest ≡ Err left = rw (k, read) refl in
    so_far ∙ ap (front (take i saved)) this

pub saves_done : (saved : List (Option ℕ)) (i : ℕ) (rest bytes : List ℕ) → 32 ≤ i → length saved ≡ 32
    → saves_at 32 0 bytes ≡ front (take i saved) (saves_at (32 - i) i rest) → saves_at 32 0 bytes ≡ Ok (saved, rest)
unfolding saves_at
saves_done saved i rest bytes past count so_far =
    let k : 32 - i ≡ 0 = omega arith in
    let this : saves_at (32 - i) i rest ≡ all_of [] rest = rw k refl in
    so_far ∙ ap (front (take i saved)) this
    ∙ ap (λ xs. all_of xs rest) (append-nil (take i saved) ∙ take_all i saved (omega (arith, count, past)))

-- ---- rows

advance_some : (words : ℕ) → 0 < length (advance words)
advance_some words =
    elim (cases_lt words 64) [
      | inl small ↦ omega (arith, ap length (short_is words small))
      | inr large ↦ omega (arith, ap length (long_is words large))
    ]

-- a row that is read leaves fewer bytes
pub row_smaller : (end : ℕ) (before r : Row) (rest after : List ℕ) → IsBytes rest → AreRules before.rules → next_row_at end before rest ≡ Ok (r, after)
    → length after < length rest
row_smaller end before r rest after are fits e =
    let is = row_takes end before rest r after are fits e in
    let words : ℕ = (r.address - before.address) / 4 in
    let offset : List ℕ = change before.rules.cfa_offset r.rules.cfa_offset in
    let saved : List ℕ = registers before.rules.saved r.rules.saved in
    omega (
      arith,
      ap length is.spelled,
      ap length (row_append before r after),
      length-append (advance words) (offset ++ (saved ++ after)),
      length-append offset (saved ++ after),
      length-append saved after,
      advance_some words,
    )

-- some rows of a function were read, and these are the rules of an address by them
pub record RowsGoing (range : Range) (bytes : List ℕ) (address : ℕ) (before : Row) (rest : List ℕ) (rules : FrameRow) : Type 0 where
  pub done : List Row
  pub are : IsBytes rest
  pub fits : AreRules before.rules
  pub reads : (rows : List Row) → Rows (range.start + range.size) before rest rows
      → Rows (range.start + range.size) (initial range.start) bytes (done ++ rows)
  pub faults : (left : ℕ) → RowsFault (range.start + range.size) before rest left
      → RowsFault (range.start + range.size) (initial range.start) bytes left
  pub is : rules ≡ rules_after (initial range.start).rules done address

pub rows_begin : (range : Range) (bytes : List ℕ) (address : ℕ) → IsBytes bytes
    → RowsGoing range bytes address (initial range.start) bytes (initial range.start).rules
rows_begin range bytes address are = record {
  done = [];
  are = are;
  fits = initial_rules range.start;
  reads = λ rows h. h;
  faults = λ left h. h;
  is = refl;
}

rules_push : (before : FrameRow) (rows : List Row) (r : Row) (address : ℕ)
    → rules_after before (rows ++ r ∷ []) address ≡ cond (leb r.address address) r.rules (rules_after before rows address)
rules_push before [] r address = refl
rules_push before (q ∷ rows) r address = rules_push (cond (leb q.address address) q.rules before) rows r address

pub rows_more : (range : Range) (bytes : List ℕ) (address : ℕ) (before r : Row) (rest after : List ℕ) (rules new : FrameRow)
    → RowsGoing range bytes address before rest rules → begins_row rest ≡ true
    → next_row_at (range.start + range.size) before rest ≡ Ok (r, after) → new ≡ cond (leb r.address address) r.rules rules
    → RowsGoing range bytes address r after new
rows_more range bytes address before r rest after rules new going begins e new_is =
    let end : ℕ = range.start + range.size in
    let is = row_takes end before rest r after going.are going.fits e in
    record {
      done = going.done ++ r ∷ [];
      are = IsBytes-behind rest (row before r) after is.spelled going.are;
      fits = is.rules;
      reads = λ rows h. subst (λ xs. Rows end (initial range.start) bytes xs) (sym (append_assoc going.done (r ∷ []) rows))
          (going.reads (r ∷ rows) (NextRow begins e h));
      faults = λ left h. going.faults left (InLaterRow begins e h);
      is =
          new_is ∙ ap (λ x. cond (leb r.address address) r.rules x) going.is
          ∙ sym (rules_push (initial range.start).rules going.done r address);
    }

pub row_fault : (range : Range) (bytes : List ℕ) (address : ℕ) (before : Row) (rest : List ℕ) (rules : FrameRow) (left : ℕ)
    → RowsGoing range bytes address before rest rules → begins_row rest ≡ true → next_row_at (range.start + range.size) before rest ≡ Err left
    → RowsFault (range.start + range.size) (initial range.start) bytes left
row_fault range bytes address before rest rules left going begins e = going.faults left (InRow begins e)

pub padding_fault : (range : Range) (bytes : List ℕ) (address : ℕ) (before : Row) (rest : List ℕ) (rules : FrameRow) (left : ℕ)
    → RowsGoing range bytes address before rest rules → begins_row rest ≡ false → padding_at rest ≡ Err left
    → RowsFault (range.start + range.size) (initial range.start) bytes left
padding_fault range bytes address before rest rules left going begins e = going.faults left (InPadding begins e)

abbrev passed : List ℕ → Result (List ℕ) ℕ
passed rest = Ok rest

abbrev refused : ℕ → Result (List ℕ) ℕ
refused left = Err left

-- nothing is after the padding
padding_ends : (bytes rest : List ℕ) → padding_at bytes ≡ Ok rest → rest ≡ []
unfolding padding_at
padding_ends bytes rest e =
    elim (chosen (ltb (length bytes) 8) (constants_at (replicate (length bytes) 0) bytes) (refused (length bytes)) (passed rest) e) [
      | inl short ↦
          (let spelled = constants_take (replicate (length bytes) 0) bytes rest short.1 in
          nil_from_length rest (omega (
            arith,
            ap length spelled,
            length-append (replicate (length bytes) 0) rest,
            length-zeros (length bytes),
          )))
      | inr long ↦ absurd (not_ok (length bytes) rest long.1)
    ]

pub padding_of : (bytes : List ℕ) → length bytes < 8 → constants_at (take (length bytes) (replicate 8 0)) bytes ≡ padding_at bytes
unfolding padding_at
padding_of bytes short =
    ap (λ x. constants_at x bytes) (take-replicate (length bytes) 8 0 (omega arith))
    ∙ sym (ap (λ b. cond b (constants_at (replicate (length bytes) 0) bytes) (refused (length bytes))) (lt-ltb (length bytes) 8 short))

pub rows_end : (range : Range) (bytes : List ℕ) (address : ℕ) (before : Row) (rest after : List ℕ) (rules : FrameRow)
    → RowsGoing range bytes address before rest rules → begins_row rest ≡ false → padding_at rest ≡ Ok after
    → RulesRead (range.start + range.size) (initial range.start) bytes address rules
rows_end range bytes address before rest after rules going begins e =
    let end : ℕ = range.start + range.size in
    let padding : padding_at rest ≡ Ok [] = e ∙ ap passed (padding_ends rest after e) in
    record {
      rows = going.done;
      reads = subst (λ xs. Rows end (initial range.start) bytes xs) (append-nil going.done) (going.reads [] (NoRow begins padding));
      is = going.is;
    }

-- ---- the common information entry

-- fields that begin with others
pub constants_append : (x y bytes : List ℕ) → constants_at (x ++ y) bytes ≡ (constants_at x bytes >>= constants_at y)
constants_append [] y bytes = refl
constants_append (n ∷ x) y [] = refl
constants_append (n ∷ x) y (b ∷ bytes) = choose (eqb b n) (constants_append x y bytes) where
  choose : (same : Bool) → constants_at (x ++ y) bytes ≡ (constants_at x bytes >>= constants_at y)
      → cond same (constants_at (x ++ y) bytes) (refused (length (b ∷ bytes)))
      ≡ (cond same (constants_at x bytes) (refused (length (b ∷ bytes))) >>= constants_at y)
  choose true others = others
  choose false others = refl

-- the number of bytes of the padding
abbrev pub nops : List ℕ → ℕ
nops undefined = (8 - length (common_front ++ undefines undefined) % 8) % 8

pub fields_are : (undefined bytes : List ℕ) → constants_at (common_fields undefined) bytes
    ≡ ((constants_at common_front bytes >>= constants_at (undefines undefined)) >>= constants_at (replicate (nops undefined) 0))
fields_are undefined bytes =
    constants_append (common_front ++ undefines undefined) (replicate (nops undefined) 0) bytes
    ∙ ap (λ r. r >>= constants_at (replicate (nops undefined) 0)) (constants_append common_front (undefines undefined) bytes)

pub nops_are : (undefined : List ℕ) → nops undefined ≡ (8 - (10 + 2 * length undefined) % 8) % 8
nops_are undefined =
    ap (λ n. (8 - n % 8) % 8)
    (length-append common_front (undefines undefined) ∙ ap (λ n. 10 + n) (length-undefines undefined))

-- the bytes behind the padding, read piece by piece
pub fields_end : (undefined bytes opcodes padded padding : List ℕ) → constants_at common_front bytes ≡ Ok opcodes
    → constants_at (undefines undefined) opcodes ≡ Ok padded → padding ≡ take ((8 - (10 + 2 * length undefined) % 8) % 8) (replicate 8 0)
    → constants_at padding padded ≡ constants_at (common_fields undefined) bytes
fields_end undefined bytes opcodes padded padding front more is =
    let few : (8 - (10 + 2 * length undefined) % 8) % 8 ≤ 8 = omega arith in
    ap (λ x. constants_at x padded)
    (is ∙ take-replicate ((8 - (10 + 2 * length undefined) % 8) % 8) 8 0 few ∙ ap (λ n. replicate n 0) (sym (nops_are undefined)))
    ∙ sym (fields_are undefined bytes
    ∙ ap (λ r. (r >>= constants_at (undefines undefined)) >>= constants_at (replicate (nops undefined) 0)) front
    ∙ ap (λ r. r >>= constants_at (replicate (nops undefined) 0)) more)

-- or up to a wrong field
pub fields_fault : (undefined bytes opcodes : List ℕ) (left : ℕ) → constants_at common_front bytes ≡ Ok opcodes
    → constants_at (undefines undefined) opcodes ≡ Err left → constants_at (common_fields undefined) bytes ≡ Err left
fields_fault undefined bytes opcodes left front wrong =
    fields_are undefined bytes
    ∙ ap (λ r. (r >>= constants_at (undefines undefined)) >>= constants_at (replicate (nops undefined) 0)) front
    ∙ ap (λ r. r >>= constants_at (replicate (nops undefined) 0)) wrong

-- ---- functions

abbrev function_of : Range → List Row → FrameDescription
function_of range rows = record { start = range.start; size = range.size; rows = rows }

-- a function was read, whether its code contains the address or not
pub function_found : (bytes : List ℕ) (address : ℕ) (range : Range) (opcodes : List ℕ) (rules : FrameRow)
    → range_at bytes ≡ Ok (range.start, range.size, opcodes) → RulesRead (range.start + range.size) (initial range.start) opcodes address rules
    → range.start ≤ address → address - range.start < range.size → FunctionRead bytes address (Some rules)
function_found bytes address range opcodes rules e read begins ends = record {
  function = function_of range read.rows;
  reads = record { opcodes = opcodes; range = e; rows = read.reads };
  is =
      ap Some read.is
      ∙ sym (ap (λ b. cond b (Some (rules_after (initial range.start).rules read.rows address)) None)
      (and_from (leb range.start address) (ltb address (range.start + range.size)) (le-leb range.start address begins)
      (lt-ltb address (range.start + range.size) (omega (arith, begins, ends)))));
}

pub function_none : (bytes : List ℕ) (address : ℕ) (range : Range) (opcodes : List ℕ) (rules : FrameRow)
    → range_at bytes ≡ Ok (range.start, range.size, opcodes) → RulesRead (range.start + range.size) (initial range.start) opcodes address rules
    → (range.start ≤ address → range.size ≤ address - range.start) → FunctionRead bytes address None
function_none bytes address range opcodes rules e read outside = record {
  function = function_of range read.rows;
  reads = record { opcodes = opcodes; range = e; rows = read.reads };
  is =
      sym (ap (λ b. cond b (Some (rules_after (initial range.start).rules read.rows address)) None) (out (leb range.start address) refl));
}
  where
    out : (b : Bool) → leb range.start address ≡ b → (b && ltb address (range.start + range.size)) ≡ false
    out false is = refl
    out true is =
        let begins : range.start ≤ address = leb-true range.start address is in
        le-ltb address (range.start + range.size) (omega (arith, begins, outside begins))

-- some functions of a section were read, and these are the rules of an address by them
pub record FunctionsGoing (undefined bytes : List ℕ) (address : ℕ) (rest : List ℕ) (found : Option FrameRow) : Type 0 where
  pub behind : List ℕ
  pub common : behind_common undefined bytes ≡ Ok behind
  pub done : List FrameDescription
  pub are : IsBytes rest
  pub reads : (functions : List FrameDescription) → Functions rest functions → Functions behind (done ++ functions)
  pub faults : (left : ℕ) → FunctionsFault rest left → FunctionsFault behind left
  pub is : found ≡ rules_in done address

pub functions_begin : (undefined bytes : List ℕ) (address : ℕ) (rest : List ℕ) → behind_common undefined bytes ≡ Ok rest → IsBytes rest
    → FunctionsGoing undefined bytes address rest None
functions_begin undefined bytes address rest e are = record {
  behind = rest;
  common = e;
  done = [];
  are = are;
  reads = λ functions h. h;
  faults = λ left h. h;
  is = refl;
}

rules_in_push : (functions : List FrameDescription) (f : FrameDescription) (address : ℕ)
    → rules_in (functions ++ f ∷ []) address ≡ option_or (rules_in functions address) (rules_in (f ∷ []) address)
rules_in_push [] f address = refl
rules_in_push (g ∷ functions) f address =
    choose (leb g.start address && ltb address (g.start + g.size)) (rules_after (initial g.start).rules g.rows address)
    (rules_in (functions ++ f ∷ []) address) (rules_in functions address) (rules_in (f ∷ []) address) (rules_in_push functions f address)
  where
    choose : (b : Bool) (rules : FrameRow) (all some last : Option FrameRow) → all ≡ option_or some last
        → cond b (Some rules) all ≡ option_or (cond b (Some rules) some) last
    choose true rules all some last e = refl
    choose false rules all some last e = e

pub functions_more : (undefined bytes : List ℕ) (address : ℕ) (rest body after : List ℕ) (found rules new : Option FrameRow)
    → FunctionsGoing undefined bytes address rest found → entry_at rest ≡ Ok (body, after) → FunctionRead body address rules → new ≡ option_or found rules
    → FunctionsGoing undefined bytes address after new
functions_more undefined bytes address rest body after found rules new going e read new_is =
    let f : FrameDescription = read.function in
    let is = entry_takes rest body after going.are e in
    let are : IsBytes (body ++ after) = IsBytes-behind rest (to_le_bytes w32 (length body)) (body ++ after) is.spelled going.are in
    record {
      behind = going.behind;
      common = going.common;
      done = going.done ++ f ∷ [];
      are = IsBytes-behind (body ++ after) body after refl are;
      reads = λ functions h. subst (λ xs. Functions going.behind xs) (sym (append_assoc going.done (f ∷ []) functions))
          (going.reads (f ∷ functions) (NextFunction e read.reads h));
      faults = λ left h. going.faults left (InLaterFunction e read.reads h);
      is =
          new_is ∙ ap (λ x. option_or x rules) going.is ∙ ap (option_or (rules_in going.done address)) read.is
          ∙ sym (rules_in_push going.done f address);
    }

pub entry_smaller : (rest body after : List ℕ) → IsBytes rest → entry_at rest ≡ Ok (body, after) → length after < length rest
entry_smaller rest body after are e =
    let is = entry_takes rest body after are e in
    omega (arith, ap length is.spelled, length-append body after)

pub functions_end : (undefined bytes : List ℕ) (address : ℕ) (rest : List ℕ) (found : Option FrameRow) → FunctionsGoing undefined bytes address rest found
    → length rest ≡ 0 → SectionRead undefined bytes address found
functions_end undefined bytes address rest found going ended = record {
  functions = going.done;
  behind = going.behind;
  common = going.common;
  reads = subst (λ xs. Functions going.behind xs) (append-nil going.done)
      (going.reads [] (subst (λ x. Functions x []) (sym (nil_from_length rest ended)) NoFunction));
  is = going.is;
}

no_more : (left : ℕ) → left + 0 ≡ left
no_more left = omega arith

pub length_fault : (undefined bytes : List ℕ) (address : ℕ) (rest : List ℕ) (found : Option FrameRow) (left at : ℕ)
    → FunctionsGoing undefined bytes address rest found
    → rest ≢ [] → entry_at rest ≡ Err left → at ≡ length bytes - (left + 0) → FirstFault undefined bytes at
length_fault undefined bytes address rest found left at going some e place = record {
  left = left;
  fault = InFunctions going.behind going.common (going.faults left (InLength some e));
  place = place ∙ ap (λ n. length bytes - n) (no_more left);
}

pub function_fault : (undefined bytes : List ℕ) (address : ℕ) (rest body after : List ℕ) (found : Option FrameRow) (left at : ℕ)
    → FunctionsGoing undefined bytes address rest found → entry_at rest ≡ Ok (body, after) → FunctionFault body left → at ≡ length bytes - (left + length after)
    → FirstFault undefined bytes at
function_fault undefined bytes address rest body after found left at going e fault place = record {
  left = left + length after;
  fault = InFunctions going.behind going.common (going.faults (left + length after) (InFunction e fault));
  place = place;
}

pub common_fault : (undefined bytes : List ℕ) (left at : ℕ) → behind_common undefined bytes ≡ Err left → at ≡ length bytes - (left + 0)
    → FirstFault undefined bytes at
common_fault undefined bytes left at e place = record { left = left; fault = InCommon e; place = place ∙ ap (λ n. length bytes - n) (no_more left) }
