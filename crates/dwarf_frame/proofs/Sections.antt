-- A section is read exactly where it is that of functions, and then its functions are read.
use Rattle.std.specs.Option.{option_map}
use Rattle.std.specs.List.{AllByRecursion, flat_map}
use Rattle.std.specs.Int.{w32, to_le_bytes}
use Rattle.std.proofs.Common.{◌≡◌, ℕ, ◌+◌, ◌*◌, ◌-◌, ◌%◌, ◌^◌, ◌<◌, List, [], ◌∷◌, ◌++◌, length, replicate, Option, Some, Result, Ok}
use Rattle.std.proofs.Common.{arith, ap, subst, sym, ◌∙◌, refl, append_assoc, length-append, lit<}
use Rattle.std.proofs.lemmas.Bool.{true≢false}
use Rattle.std.proofs.lemmas.List.Elements.{recursion_from_All, All-from_recursion}
use Rattle.dwarf_base.specs.Standard.{LENGTH_LIMIT}
use Rattle.dwarf_line.specs.Fields.{◌>>=◌, constants_at}
use Rattle.dwarf_line.proofs.Groups.{bind_ok, ok_is, not_ok, constants_take, constants_again, step}
use Rattle.dwarf_line.proofs.Fixed.{IsBytes, IsBytes-behind, wide32}
use Rattle.dwarf_line.proofs.Program.{no_fault}
use Rattle.dwarf_frame.specs.declared.table.FrameRow.{FrameRow}
use Rattle.dwarf_frame.specs.declared.table.Row.{Row}
use Rattle.dwarf_frame.specs.declared.table.FrameDescription.{FrameDescription}
use Rattle.dwarf_frame.specs.declared.table.UnwindingRules.{UnwindingRules}
use Rattle.dwarf_frame.specs.declared.fault.FrameFault.{FrameFault}
use Rattle.dwarf_frame.specs.Table.{initial, IsDescription, AreUndefined}
use Rattle.dwarf_frame.specs.Spelling.{rows_after, padded, undefines, common_front, common_fields, common_entry, instructions, fields, description}
use Rattle.dwarf_frame.specs.Spelling.{spelling}
use Rattle.dwarf_frame.specs.FirstFault.{value_at, behind_common, padding_at, next_row_at, entry_at, range_at}
use Rattle.dwarf_frame.specs.FirstFault.{Rows, NoRow, NextRow, RowsFault, InPadding, InRow, InLaterRow, FunctionAt, FunctionFault, InRange, InRows}
use Rattle.dwarf_frame.specs.FirstFault.{Functions, NoFunction, NextFunction, FunctionsFault, InLength, InFunction, InLaterFunction}
use Rattle.dwarf_frame.specs.FirstFault.{SectionFault, InCommon, InFunctions, FirstFault, HasSize, IsSection}
use Rattle.dwarf_frame.specs.Rows.{rules_in, unwinding, unwinding_in}
use Rattle.dwarf_frame.specs.steps.Read.{SectionRead}
use Rattle.dwarf_frame.proofs.Entries.{IsBytes-front, initial_rules, rows_take, rows_again, value_takes, value_again, range_bytes, range_takes, range_again}
use Rattle.dwarf_frame.proofs.Entries.{entry_takes, entry_again, length-zeros}

-- ---- a function

-- the bytes of a function's entry after its length
abbrev body_of : FrameDescription → List ℕ
body_of f = range_bytes f.start f.size (instructions f)

body_length : (f : FrameDescription) → length (body_of f) ≡ 20 + length (instructions f)
body_length f = omega arith

description_of : (f : FrameDescription) → to_le_bytes w32 (length (body_of f)) ++ body_of f ≡ description f
description_of f = ap (λ n. to_le_bytes w32 n ++ body_of f) (body_length f)

pub length-padded : (bytes : List ℕ) → length (padded bytes) ≡ length bytes + (8 - length bytes % 8) % 8
length-padded bytes =
    let n : ℕ = (8 - length bytes % 8) % 8 in length-append bytes (replicate n 0) ∙ ap (λ k. length bytes + k) (length-zeros n)

padded_whole : (bytes : List ℕ) → length (padded bytes) % 8 ≡ 0
padded_whole bytes = omega (arith, length-padded bytes)

padding_is : (size padding : ℕ) → padding < 8 → (20 + (size + padding) + 4) % 8 ≡ 0 → padding ≡ (8 - size % 8) % 8
padding_is size padding short whole = omega arith

-- what a function is that is read
record IsFunctionAt (bytes : List ℕ) (f : FrameDescription) : Type 0 where
  spelled : bytes ≡ body_of f
  is : IsDescription f

function_takes : (bytes : List ℕ) (f : FrameDescription) → IsBytes bytes → (length bytes + 4) % 8 ≡ 0 → FunctionAt bytes f → IsFunctionAt bytes f
function_takes bytes f are whole at =
    let range = range_takes bytes f.start f.size at.opcodes are at.range in
    let rows = rows_take range.are (initial_rules f.start) at.rows in
    let opcodes : List ℕ = rows_after (initial f.start) f.rows in
    let size : length bytes ≡ 20 + (length opcodes + rows.padding) =
    omega (arith, ap length range.spelled, ap length rows.spelled, length-append opcodes (replicate rows.padding 0), length-zeros rows.padding) in
    let padding : rows.padding ≡ (8 - length opcodes % 8) % 8 =
    padding_is (length opcodes) rows.padding rows.short (ap (λ n. (n + 4) % 8) (sym size) ∙ whole) in
    record {
      spelled =
          range.spelled
          ∙ ap (range_bytes f.start f.size) (rows.spelled ∙ ap (λ n. opcodes ++ replicate n 0) padding);
      is = record { start = range.start_fits; size = range.size_fits; end = range.end; rows = rows.are };
    }

function_again : (f : FrameDescription) → IsDescription f → FunctionAt (body_of f) f
function_again f is = record {
  opcodes = instructions f;
  range = range_again f.start f.size (instructions f) is.start is.size is.end;
  rows = rows_again (f.start + f.size) (initial f.start) f.rows ((8 - length (rows_after (initial f.start) f.rows) % 8) % 8)
      (initial_rules f.start) is.rows (omega arith);
}

-- ---- the functions

record AreFunctions (bytes : List ℕ) (functions : List FrameDescription) : Type 0 where
  spelled : bytes ≡ flat_map description functions
  are : AllByRecursion IsDescription functions
  sizes : AllByRecursion HasSize functions

functions_take : {bytes : List ℕ} {functions : List FrameDescription} → IsBytes bytes → Functions bytes functions → AreFunctions bytes functions
functions_take are NoFunction = record { spelled = refl; are = tt; sizes = tt }
functions_take {bytes} are (NextFunction {body = body} {rest = rest} {f = f} {functions = others} e at later) =
    let is = entry_takes bytes body rest are e in
    let are_body : IsBytes (body ++ rest) = IsBytes-behind bytes (to_le_bytes w32 (length body)) (body ++ rest) is.spelled are in
    let function = function_takes body f (IsBytes-front body rest are_body) is.whole at in
    let next = functions_take (IsBytes-behind (body ++ rest) body rest refl are_body) later in
    let front : to_le_bytes w32 (length body) ++ body ≡ description f =
    ap (λ x. to_le_bytes w32 (length x) ++ x) function.spelled ∙ description_of f in
    record {
      spelled =
          is.spelled ∙ sym (append_assoc (to_le_bytes w32 (length body)) body rest) ∙ ap (λ x. x ++ rest) front
          ∙ ap (λ x. description f ++ x) next.spelled;
      are = (function.is, next.are);
      sizes = (omega (arith, ap length front, is.limit), next.sizes);
    }

body_fits : (f : FrameDescription) → HasSize f → length (body_of f) < LENGTH_LIMIT
body_fits f size = omega (arith, ap length (description_of f), size)

functions_again : (functions : List FrameDescription) → AllByRecursion IsDescription functions → AllByRecursion HasSize functions
    → Functions (flat_map description functions) functions
functions_again [] are sizes = NoFunction
functions_again (f ∷ others) are sizes =
    let rest : List ℕ = flat_map description others in
    let front : description f ++ rest ≡ to_le_bytes w32 (length (body_of f)) ++ (body_of f ++ rest) =
    ap (λ x. x ++ rest) (sym (description_of f)) ∙ append_assoc (to_le_bytes w32 (length (body_of f))) (body_of f) rest in
    NextFunction
    (ap entry_at front
    ∙ entry_again (body_of f) rest (omega (arith, body_length f))
    (omega (arith, body_length f, padded_whole (rows_after (initial f.start) f.rows))) (body_fits f sizes.0))
    (function_again f are.0) (functions_again others are.1 sizes.1)

-- ---- a wrong field is none that is spelled, and what is read is one list alone

both : {A : Type 0} {B : Type 0} (r : Result (A × B) ℕ) (a b : A) (x y : B) → r ≡ Ok (a, x) → r ≡ Ok (b, y) → (a ≡ b) × (x ≡ y)
both {A} {B} r a b x y e d =
    let first : A × B = (a, x) in
    let second : A × B = (b, y) in
    let same = ok_is first second (sym e ∙ d) in (ap (λ (p : A × B). p.0) same, ap (λ (p : A × B). p.1) same)

rows_apart : {end : ℕ} {before : Row} {bytes : List ℕ} {left : ℕ} {rows : List Row} → RowsFault end before bytes left → Rows end before bytes rows → ⊥
rows_apart {bytes = bytes} {left = left} (InPadding b e) (NoRow c d) = no_fault (padding_at bytes) left [] e d
rows_apart (InPadding b e) (NextRow c d later) = true≢false (sym c ∙ b)
rows_apart (InRow b e) (NoRow c d) = true≢false (sym b ∙ c)
rows_apart {end} {before} {bytes} {left} (InRow b e) (NextRow {r = r} {after = after} c d later) =
    no_fault (next_row_at end before bytes) left (r, after) e d
rows_apart (InLaterRow b e fault) (NoRow c d) = true≢false (sym b ∙ c)
rows_apart {end} {before} {bytes} (InLaterRow {r = r} {after = x} b e fault) (NextRow {r = s} {after = y} {rows = others} c d later) =
    let same = both (next_row_at end before bytes) r s x y e d in
    rows_apart fault (subst (λ z. Rows end r z others) (sym same.1) (subst (λ q. Rows end q y others) (sym same.0) later))

rows_one : {end : ℕ} {before : Row} {bytes : List ℕ} {ps qs : List Row} → Rows end before bytes ps → Rows end before bytes qs → ps ≡ qs
rows_one (NoRow b e) (NoRow c d) = refl
rows_one (NoRow b e) (NextRow c d later) = absurd (true≢false (sym c ∙ b))
rows_one (NextRow b e later) (NoRow c d) = absurd (true≢false (sym b ∙ c))
rows_one {end} {before} {bytes} (NextRow {r = r} {after = x} {rows = ps} b e reads) (NextRow {r = s} {after = y} {rows = qs} c d reads') =
    let same = both (next_row_at end before bytes) r s x y e d in
    let next = rows_one reads (subst (λ z. Rows end r z qs) (sym same.1) (subst (λ q. Rows end q y qs) (sym same.0) reads')) in
    ap (λ q. q ∷ ps) same.0 ∙ ap (λ rs. s ∷ rs) next

abbrev range_of : (start size : ℕ) → List ℕ → ℕ × ℕ × List ℕ
range_of start size rest = (start, size, rest)

function_apart : (bytes : List ℕ) (left : ℕ) (f : FrameDescription) → FunctionFault bytes left → FunctionAt bytes f → ⊥
function_apart bytes left f (InRange e) at = no_fault (range_at bytes) left (f.start, f.size, at.opcodes) e at.range
function_apart bytes left f (InRows start size opcodes e fault) at =
    let same = ok_is (range_of f.start f.size at.opcodes) (range_of start size opcodes) (sym at.range ∙ e) in
    rows_apart fault (subst (λ (p : ℕ × ℕ × List ℕ). Rows (p.0 + p.1) (initial p.0) p.2 f.rows) same at.rows)

abbrev function_of : (start size : ℕ) → List Row → FrameDescription
function_of start size rows = record { start = start; size = size; rows = rows }

function_one : (bytes : List ℕ) (f g : FrameDescription) → FunctionAt bytes f → FunctionAt bytes g → f ≡ g
function_one bytes f g at at' =
    let same = ok_is (range_of f.start f.size at.opcodes) (range_of g.start g.size at'.opcodes) (sym at.range ∙ at'.range) in
    let rows = rows_one (subst (λ (p : ℕ × ℕ × List ℕ). Rows (p.0 + p.1) (initial p.0) p.2 f.rows) same at.rows) at'.rows in
    ap (λ (p : ℕ × ℕ × List ℕ). function_of p.0 p.1 f.rows) same ∙ ap (function_of g.start g.size) rows

nothing_entered : (body rest : List ℕ) → entry_at [] ≡ Ok (body, rest) → ⊥
unfolding entry_at
nothing_entered body rest e = not_ok 0 (body, rest) e

functions_apart : {bytes : List ℕ} {left : ℕ} {functions : List FrameDescription} → FunctionsFault bytes left → Functions bytes functions → ⊥
functions_apart (InLength some e) NoFunction = some refl
functions_apart {bytes} {left} (InLength some e) (NextFunction {body = body} {rest = rest} d at later) = no_fault (entry_at bytes) left (body, rest) e d
functions_apart (InFunction {body = body} {rest = rest} e fault) NoFunction = nothing_entered body rest e
functions_apart {bytes} (InFunction {body = a} {rest = x} {left = left} e fault) (NextFunction {body = b} {rest = y} {f = f} d at later) =
    function_apart a left f fault (subst (λ z. FunctionAt z f) (sym (both (entry_at bytes) a b x y e d).0) at)
functions_apart (InLaterFunction {body = body} {rest = rest} e at fault) NoFunction = nothing_entered body rest e
functions_apart {bytes} (InLaterFunction {body = a} {rest = x} e at fault) (NextFunction {body = b} {rest = y} {functions = others} d at' later) =
    functions_apart fault (subst (λ z. Functions z others) (sym (both (entry_at bytes) a b x y e d).1) later)

functions_one : {bytes : List ℕ} {fs gs : List FrameDescription} → Functions bytes fs → Functions bytes gs → fs ≡ gs
functions_one NoFunction NoFunction = refl
functions_one NoFunction (NextFunction {body = body} {rest = rest} d at later) = absurd (nothing_entered body rest d)
functions_one (NextFunction {body = body} {rest = rest} e at later) NoFunction = absurd (nothing_entered body rest e)
functions_one {bytes} (NextFunction {body = a} {rest = x} {f = f} {functions = fs} e at later)
    (NextFunction {body = b} {rest = y} {f = g} {functions = gs} d at' later') =
    let same = both (entry_at bytes) a b x y e d in
    let first = function_one a f g at (subst (λ z. FunctionAt z g) (sym same.0) at') in
    let next = functions_one later (subst (λ z. Functions z gs) (sym same.1) later') in
    ap (λ h. h ∷ fs) first ∙ ap (λ hs. g ∷ hs) next

-- ---- the common information entry

abbrev after_id : (undefined fields : List ℕ) → Result (List ℕ) ℕ
after_id undefined fields = constants_at (common_fields undefined) fields

abbrev after_length : (undefined id : List ℕ) → Result (List ℕ) ℕ
after_length undefined id = value_at w32 0xffffffff id >>= after_id undefined

abbrev common_length : (undefined : List ℕ) → ℕ
common_length undefined = 4 + length (common_fields undefined)

pub length-undefines : (undefined : List ℕ) → length (undefines undefined) ≡ 2 * length undefined
length-undefines [] = refl
length-undefines (register ∷ undefined) = omega (arith, length-undefines undefined)

pub common_is : (undefined : List ℕ)
    → common_length undefined ≡ 4 + (10 + 2 * length undefined) + (8 - (10 + 2 * length undefined) % 8) % 8
common_is undefined =
    let opcodes : length (common_front ++ undefines undefined) ≡ 10 + 2 * length undefined =
    omega (arith, length-append common_front (undefines undefined), length-undefines undefined) in
    omega (arith, length-padded (common_front ++ undefines undefined), opcodes)

common_fits : (undefined : List ℕ) → AreUndefined undefined → common_length undefined < 2 ^ 32
common_fits undefined lost = omega (arith, common_is undefined, lost.few)

common_takes : (undefined bytes rest : List ℕ) → IsBytes bytes → behind_common undefined bytes ≡ Ok rest
    → bytes ≡ common_entry undefined ++ rest
unfolding behind_common
common_takes undefined bytes rest are e =
    let n : ℕ = common_length undefined in
    let size = bind_ok (value_at w32 n bytes) (after_length undefined) rest e in
    let front = value_takes w32 (2 ^ 32) wide32 n bytes size.0 are size.1 in
    let are_id : IsBytes size.0 = IsBytes-behind bytes (to_le_bytes w32 n) size.0 front are in
    let id = bind_ok (value_at w32 0xffffffff size.0) (after_id undefined) rest size.2 in
    let middle = value_takes w32 (2 ^ 32) wide32 0xffffffff size.0 id.0 are_id id.1 in
    let last = constants_take (common_fields undefined) id.0 rest id.2 in
    front ∙ ap (λ x. to_le_bytes w32 n ++ x) (middle ∙ ap (λ x. to_le_bytes w32 0xffffffff ++ x) last)
    ∙ nested (to_le_bytes w32 n) (to_le_bytes w32 0xffffffff) (common_fields undefined) rest
  where
    nested : (a b c d : List ℕ) → a ++ (b ++ (c ++ d)) ≡ (a ++ b ++ c) ++ d
    nested a b c d = simp append_assoc

pub common_bytes : (undefined bytes rest : List ℕ) → IsBytes bytes → behind_common undefined bytes ≡ Ok rest → IsBytes rest
common_bytes undefined bytes rest are e =
    IsBytes-behind bytes (common_entry undefined) rest (common_takes undefined bytes rest are e) are

common_again : (undefined rest : List ℕ) → AreUndefined undefined → behind_common undefined (common_entry undefined ++ rest) ≡ Ok rest
unfolding behind_common
common_again undefined rest lost =
    let n : ℕ = common_length undefined in
    let fields : List ℕ = common_fields undefined ++ rest in
    let id : List ℕ = to_le_bytes w32 0xffffffff ++ fields in
    ap (behind_common undefined) (nested (to_le_bytes w32 n) (to_le_bytes w32 0xffffffff) (common_fields undefined) rest)
    ∙ step (value_at w32 n (to_le_bytes w32 n ++ id)) (after_length undefined) id (value_again w32 (2 ^ 32) wide32 n id (common_fits undefined lost))
    ∙ step (value_at w32 0xffffffff id) (after_id undefined) fields (value_again w32 (2 ^ 32) wide32 0xffffffff fields (lit< tt))
    ∙ constants_again (common_fields undefined) rest
  where
    nested : (a b c d : List ℕ) → (a ++ b ++ c) ++ d ≡ a ++ (b ++ (c ++ d))
    nested a b c d = simp append_assoc

-- ---- the section

pub section_found : (undefined bytes rest : List ℕ) (functions : List FrameDescription) → AreUndefined undefined → IsBytes bytes
    → behind_common undefined bytes ≡ Ok rest → Functions rest functions → IsSection undefined bytes functions
unfolding spelling
section_found undefined bytes rest functions lost are e reads =
    let front = common_takes undefined bytes rest are e in
    let is = functions_take (IsBytes-behind bytes (common_entry undefined) rest front are) reads in
    record {
      lost = lost;
      spelled = front ∙ ap (λ x. common_entry undefined ++ x) is.spelled;
      sizes = All-from_recursion HasSize functions is.sizes;
      are = All-from_recursion IsDescription functions is.are;
    }

section_common : (undefined bytes : List ℕ) (functions : List FrameDescription) → IsSection undefined bytes functions
    → behind_common undefined bytes ≡ Ok (flat_map description functions)
unfolding spelling
section_common undefined bytes functions is =
    ap (behind_common undefined) is.spelled ∙ common_again undefined (flat_map description functions) is.lost

section_functions : (undefined bytes : List ℕ) (functions : List FrameDescription) → IsSection undefined bytes functions
    → Functions (flat_map description functions) functions
section_functions undefined bytes functions is =
    functions_again functions (recursion_from_All IsDescription functions is.are) (recursion_from_All HasSize functions is.sizes)

section_apart : (undefined bytes : List ℕ) (left : ℕ) (functions : List FrameDescription) → SectionFault undefined bytes left
    → IsSection undefined bytes functions → ⊥
section_apart undefined bytes left functions (InCommon e) is =
    not_ok left (flat_map description functions) (sym e ∙ section_common undefined bytes functions is)
section_apart undefined bytes left functions (InFunctions rest e fault) is =
    let same : rest ≡ flat_map description functions =
    ok_is rest (flat_map description functions) (sym e ∙ section_common undefined bytes functions is) in
    functions_apart fault (subst (λ x. Functions x functions) (sym same) (section_functions undefined bytes functions is))

section_one : (undefined bytes rest : List ℕ) (fs gs : List FrameDescription) → behind_common undefined bytes ≡ Ok rest → Functions rest fs
    → IsSection undefined bytes gs → fs ≡ gs
section_one undefined bytes rest fs gs e reads is =
    let same : rest ≡ flat_map description gs = ok_is rest (flat_map description gs) (sym e ∙ section_common undefined bytes gs is) in
    functions_one reads (subst (λ x. Functions x gs) (sym same) (section_functions undefined bytes gs is))

pub one_section : (undefined bytes : List ℕ) (fs gs : List FrameDescription) → IsSection undefined bytes fs → IsSection undefined bytes gs → fs ≡ gs
one_section undefined bytes fs gs is is' =
    section_one undefined bytes (flat_map description fs) fs gs (section_common undefined bytes fs is) (section_functions undefined bytes fs is) is'

-- ---- the reader's result

abbrev pub found : Option UnwindingRules → Result (Option UnwindingRules) FrameFault
found rules = Ok rules

abbrev pub some : UnwindingRules → Option UnwindingRules
some rules = Some rules

pub read_found : (undefined bytes : List ℕ) (address : ℕ) (rules : Option FrameRow) → AreUndefined undefined → IsBytes bytes
    → SectionRead undefined bytes address rules → (functions : List FrameDescription) × IsSection undefined bytes functions
    × (option_map (unwinding undefined) rules ≡ unwinding_in undefined functions address)
read_found undefined bytes address rules lost are read = (
  read.functions,
  section_found undefined bytes read.behind read.functions lost are read.common read.reads,
  ap (option_map (unwinding undefined)) read.is,
)

pub read_only : (undefined bytes : List ℕ) (address : ℕ) (rules : Option FrameRow) (functions : List FrameDescription)
    → SectionRead undefined bytes address rules → IsSection undefined bytes functions
    → option_map (unwinding undefined) rules ≡ unwinding_in undefined functions address
read_only undefined bytes address rules functions read is =
    ap (option_map (unwinding undefined))
    (read.is ∙ ap (λ fs. rules_in fs address) (section_one undefined bytes read.behind read.functions functions read.common read.reads is))

pub not_faulty : (undefined bytes : List ℕ) (at : ℕ) (functions : List FrameDescription) → FirstFault undefined bytes at
    → IsSection undefined bytes functions → ⊥
not_faulty undefined bytes at functions fault is = section_apart undefined bytes fault.left functions fault.fault is
