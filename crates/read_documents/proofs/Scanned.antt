-- The scan gives the documents.
use Rattle.std.proofs.Common.{◌≡◌, ℕ, suc, ◌+◌, Bool, true, false, not, cond, ltb, List, [], ◌∷◌, ◌++◌, length, take, Option, Some, None, refl, sym, ap, ◌∙◌}
use Rattle.std.proofs.Common.{append_assoc, arith, inl, inr}
use Rattle.std.specs.List.{prefix_len}
use Rattle.std.specs.Str.Lines.{lines}
use Rattle.std.proofs.lemmas.Bool.{lt-ltb, le-ltb, cases_lt}
use Rattle.std.proofs.lemmas.List.{append-nil, length_push}
use Rattle.read_lexer.specs.declared.line.Line.{Line}
use Rattle.read_documents.specs.declared.parts.Documents.{Documents}
use Rattle.read_documents.specs.declared.parts.FunctionDocument.{FunctionDocument}
use Rattle.read_documents.specs.declared.open_function.OpenFunction.{OpenFunction}
use Rattle.read_documents.specs.declared.scan.Scan.{Scan}
use Rattle.read_documents.specs.Key.{is_close, is_passed, opens_block, opens_function}
use Rattle.read_documents.specs.Lines.{numbered, lines_of}
use Rattle.read_documents.specs.Documents.{lines_under, inside, is_closed, is_fault, is_complete, first_fault, fault_or, function_document, function_from}
use Rattle.read_documents.specs.Documents.{block_from, stops, documents_from, documents_of}
use Rattle.read_documents.specs.steps.Scan.{scan, scan_or_stop, start, just_opened, taken, can_close, can_not_take, closed_at}
use Rattle.read_documents.proofs.OneFunction.{opened_with, taken-is, can_not_take-is, can_close-is, closed_at-is}

-- ---- the first line of a document

one_more : (n : ℕ) → 1 + n ≡ suc n
one_more n = omega arith

ltb-suc : (n m : ℕ) → ltb (1 + n) (suc m) ≡ ltb n m
ltb-suc n m =
    elim (cases_lt n m) [
      | inl less ↦ lt-ltb (1 + n) (suc m) (omega arith) ∙ sym (lt-ltb n m less)
      | inr more ↦ le-ltb (1 + n) (suc m) (omega arith) ∙ sym (le-ltb n m more)
    ]

abbrev goes_past : Line → Bool
goes_past line = not (is_close line.text)

module _ (line : Line) (others : List Line) where
  front_len : (closes : Bool) → is_close line.text ≡ closes → prefix_len (λ l. not (is_close l.text)) (line ∷ others) ≡ cond (not closes) (1 + prefix_len (λ l.
      not (is_close l.text)) others) 0
  front_len closes is = ap (λ (b : Bool). cond (not b) (1 + prefix_len (λ l. not (is_close l.text)) others) 0) is

  pub inside-close : is_close line.text ≡ true → inside (line ∷ others) ≡ []
  unfolding inside
  inside-close is = ap (λ (n : ℕ). take n (line ∷ others)) (front_len true is)

  pub inside-other : is_close line.text ≡ false → inside (line ∷ others) ≡ line ∷ inside others
  unfolding inside
  inside-other is = ap (λ (n : ℕ). take n (line ∷ others)) (front_len false is ∙ one_more _)

  pub is_closed-close : is_close line.text ≡ true → is_closed (line ∷ others) ≡ true
  unfolding is_closed
  is_closed-close is = ap (λ (n : ℕ). ltb n (length (line ∷ others))) (front_len true is) ∙ lt-ltb 0 (length (line ∷ others)) (omega arith)

  pub is_closed-other : is_close line.text ≡ false → is_closed (line ∷ others) ≡ is_closed others
  unfolding is_closed
  is_closed-other is = ap (λ (n : ℕ). ltb n (length (line ∷ others))) (front_len false is) ∙ ltb-suc _ (length others)

-- ---- states

abbrev outside_state : (linked : Bool) → Bool → List Line → List FunctionDocument → Scan
outside_state linked had meta functions = record { linked = linked; had_block = had; in_block = false; function = None; meta = meta; functions = functions }

abbrev block_state : (linked : Bool) → List Line → List FunctionDocument → Scan
block_state linked meta functions = record { linked = linked; had_block = true; in_block = true; function = None; meta = meta; functions = functions }

abbrev function_state : (linked : Bool) → Bool → OpenFunction → List Line → List FunctionDocument → Scan
function_state linked had f meta functions = record {
  linked = linked;
  had_block = had;
  in_block = false;
  function = Some f;
  meta = meta;
  functions =
      functions;
}

-- what was read, and the documents behind it
abbrev join : List Line → List FunctionDocument → Documents → Documents
join meta functions d = record { meta = meta ++ d.meta; functions = functions ++ d.functions; bad = d.bad }

abbrev read_so_far : List Line → List FunctionDocument → Option ℕ → Documents
read_so_far meta functions bad = record { meta = meta; functions = functions; bad = bad }

nothing_more : (meta : List Line) (functions : List FunctionDocument) (bad : Option ℕ) → read_so_far meta functions bad ≡ join meta functions (read_so_far []
    [] bad)
nothing_more meta functions bad =
    let m = sym (append-nil meta) in
    let f = sym (append-nil functions) in
    λ i. read_so_far (m i) (f i) bad

-- a line more was read, or is read
line_more : (meta : List Line) (functions : List FunctionDocument) (line : Line) (m : List Line) (f : List FunctionDocument) (bad : Option ℕ) →
    join (meta ++ line ∷ []) functions (read_so_far m f bad) ≡ join meta functions (read_so_far (line ∷ m) f bad)
line_more meta functions line m f bad = let e = append_assoc meta (line ∷ []) m in λ i. read_so_far (e i) (functions ++ f) bad

function_more : (meta : List Line) (functions : List FunctionDocument) (g : FunctionDocument) (m : List Line) (f : List FunctionDocument) (bad : Option ℕ) →
    join meta (functions ++ g ∷ []) (read_so_far m f bad) ≡ join meta functions (read_so_far m (g ∷ f) bad)
function_more meta functions g m f bad = let e = append_assoc functions (g ∷ []) f in λ i. read_so_far (meta ++ m) (e i) bad

-- ---- documents from their parts

-- the block behind the lines that were read of it
abbrev block_with : List Line → Bool → ℕ → Documents → Documents
block_with inner closed last others = cond closed (record others { meta = inner ++ others.meta }) (record { meta = inner; functions = []; bad = Some last })

-- a function with these lines, where the text or the function ends
abbrev whole_function : (linked : Bool) → ℕ → List Line → ℕ → Bool → Documents → Documents
whole_function linked opened ls last closed others =
    cond (is_complete ls) (cond closed (record others { functions = function_document linked opened ls (opened + length ls + 1) ∷ others.functions }) (stops
    last))
    (stops opened)

-- the function whose lines so far are `e`
abbrev function_with : (linked : Bool) → ℕ → List Line → List Line → List Line → Bool → Documents → Documents
function_with linked opened e inner all closed others = fault_or (first_fault linked e inner) (whole_function linked opened (e ++ inner) (opened + length (e
    ++ all)) closed others)

abbrev function_rest : (linked : Bool) → ℕ → List Line → List Line → Documents → Documents
function_rest linked opened e ls others = function_with linked opened e (inside ls) ls (is_closed ls) others

function_from-is : (linked : Bool) (opened : ℕ) (ls : List Line) (others : Documents) →
    function_from linked opened ls others ≡ function_rest linked opened [] ls others
unfolding function_from
function_from-is linked opened ls others = refl

-- the scan and the documents agree from each state on
record Agrees (linked : Bool) (last : ℕ) (ls : List Line) : Type 0 where
  outside : (had : Bool) (meta : List Line) (functions : List FunctionDocument) → scan (outside_state linked had meta functions) last ls ≡ join meta functions
      (documents_from linked 0 had ls)
  block : (meta : List Line) (functions : List FunctionDocument) → scan (block_state linked meta functions) last ls ≡ join meta functions (block_from last ls
      (documents_from linked (suc (length (inside ls))) true ls))
  function : (had : Bool) (opened : ℕ) (e : List Line) (meta : List Line) (functions : List FunctionDocument) → last ≡ opened + length e
      → scan (function_state linked had (opened_with linked opened e) meta functions) last ls ≡ join meta functions (function_rest linked opened e ls
      (documents_from linked (suc (length
      (inside ls))) had ls))

-- ---- the end of a text

block_end : (last : ℕ) (meta : List Line) (functions : List FunctionDocument) (others : Documents) →
    read_so_far meta functions (Some last) ≡ join meta functions (block_from last [] others)
unfolding block_from is_closed inside
block_end last meta functions others = ap (λ (n : ℕ). read_so_far meta functions (Some n)) (omega arith) ∙ nothing_more meta functions (Some (last + 0))

function_end : (opened last : ℕ) (e : List Line) (meta : List Line) (functions : List FunctionDocument) (others : Documents) (complete : Bool) →
    last ≡ opened + length e → is_complete e ≡ complete
    → read_so_far meta functions (cond complete (Some last) (Some opened)) ≡ join meta functions (cond complete (stops (opened + length e)) (stops opened))
function_end opened last e meta functions others true at is = ap (λ (n : ℕ). read_so_far meta functions (Some n)) at ∙
    nothing_more meta functions (Some (opened + length e))
function_end opened last e meta functions others false at is = nothing_more meta functions (Some opened)

function_rest-end : (linked : Bool) (opened : ℕ) (e : List Line) (others : Documents) →
    function_rest linked opened e [] others ≡ cond (is_complete e) (stops (opened + length e)) (stops opened)
unfolding is_closed inside first_fault
function_rest-end linked opened e others = ap (λ (ls : List Line). cond (is_complete ls) (stops (opened + length ls)) (stops opened)) (append-nil e)

at_end : (linked : Bool) (last : ℕ) → Agrees linked last []
unfolding scan documents_from
at_end linked last = record {
  outside = λ had meta functions. nothing_more meta functions None;
  block = λ meta functions. block_end last meta functions _;
  function = λ had opened e meta functions at.
      let others = documents_from linked (suc (length (inside []))) had [] in
      ap (λ (b : Bool). read_so_far meta functions (cond b (Some last) (Some opened))) (can_close-is linked opened e)
      ∙ function_end opened last e meta functions others (is_complete e) at refl
      ∙ ap (join meta functions) (sym (function_rest-end linked opened e others));
}

-- ---- a line

module _ (linked : Bool) (last : ℕ) (line : Line) (others : List Line) (at : line.number ≡ last + 1) (later : Agrees linked line.number others) where
  -- ---- outside documents

  outside_line : (had : Bool) (meta : List Line) (functions : List FunctionDocument) (passed block function : Bool)
      → scan_or_stop (outside_state linked had meta functions)
      (cond passed None (cond block (cond had (Some line.number) None) (cond function None (Some line.number))))
      (scan (cond passed (outside_state linked had meta functions) (cond block (block_state linked meta functions) (cond function (function_state linked had
      (just_opened linked
      line.number) meta functions) (outside_state linked had meta functions)))) line.number others)
      ≡ join meta functions
      (cond passed (documents_from linked 0 had others)
      (cond block (cond had (stops line.number) (block_from line.number others (documents_from linked (suc (length (inside others))) true others)))
      (cond function (function_from linked line.number others (documents_from linked (suc (length (inside others))) had others)) (stops line.number))))
  unfolding lines_under
  outside_line had meta functions true block function = later.outside had meta functions
  outside_line true meta functions false true function = nothing_more meta functions (Some line.number)
  outside_line false meta functions false true function = later.block meta functions
  outside_line had meta functions false false true =
      later.function had line.number [] meta functions (omega arith)
      ∙ ap (join meta functions) (sym (function_from-is linked line.number others (documents_from linked (suc (length (inside others))) had others)))
  outside_line had meta functions false false false = nothing_more meta functions (Some line.number)

  -- ---- in the block

  block_line : (meta : List Line) (functions : List FunctionDocument) (closes : Bool) → is_close line.text ≡ closes
      → scan (cond closes (outside_state linked true meta functions) (block_state linked (meta ++ line ∷ []) functions)) line.number others
      ≡ join meta functions (block_from last (line ∷ others) (documents_from linked (suc (length (inside (line ∷ others)))) true (line ∷ others)))
  unfolding block_from documents_from
  block_line meta functions true is =
      let none = inside-close line others is in
      let closed = is_closed-close line others is in
      let parts : block_with [] true (last + length (line ∷ others)) (documents_from linked 0 true others) ≡ block_with (inside (line ∷ others)) (is_closed
      (line ∷
      others)) (last + length (line ∷ others)) (documents_from linked (length (inside (line ∷ others))) true others) =
      sym (λ i. block_with (none i) (closed i) (last + length (line ∷ others)) (documents_from linked (length (none i)) true others)) in
      later.outside true meta functions ∙ ap (join meta functions) parts
  block_line meta functions false is =
      let more = inside-other line others is in
      let closed = is_closed-other line others is in
      let d = documents_from linked (suc (length (inside others))) true others in
      let count : last + length (line ∷ others) ≡ line.number + length others = omega arith in
      let parts : block_with (inside (line ∷ others)) (is_closed (line ∷ others)) (last + length (line ∷ others)) (documents_from linked (length (inside (line ∷
      others))) true others) ≡ block_with (line ∷ inside others) (is_closed others) (line.number + length others) d =
      λ i. block_with (more i) (closed i) (count i) (documents_from linked (length (more i)) true others) in
      later.block (meta ++ line ∷ []) functions ∙ moved (is_closed others) ∙ ap (join meta functions) (sym parts)
    where
      moved : (closed : Bool) → join (meta ++ line ∷ []) functions (block_with (inside others) closed (line.number + length others) (documents_from linked (suc
          (length (inside others))) true others))
          ≡ join meta functions (block_with (line ∷ inside others) closed (line.number + length others) (documents_from linked (suc (length (inside others)))
          true
          others))
      moved true = line_more meta functions line (inside others ++ (documents_from linked (suc (length (inside others))) true others).meta) _ _
      moved false = line_more meta functions line (inside others) [] _

  -- ---- in a function

  -- the line that closes it
  closing_line : (had : Bool) (opened : ℕ) (e : List Line) (meta : List Line) (functions : List FunctionDocument) (complete : Bool)
      → scan_or_stop (function_state linked had (opened_with linked opened e) meta functions) (cond complete None (Some opened)) (scan (outside_state linked
      had meta (functions ++
      closed_at (opened_with linked opened e) line.number ∷ [])) line.number others)
      ≡ join meta functions (cond complete (record (documents_from linked 0 had others) {
        functions = function_document linked opened e line.number ∷ (documents_from linked 0 had
            others).functions;
      }) (stops opened))
  closing_line had opened e meta functions true =
      let d = documents_from linked 0 had others in
      later.outside had meta (functions ++ closed_at (opened_with linked opened e) line.number ∷ [])
      ∙ function_more meta functions (closed_at (opened_with linked opened e) line.number) d.meta d.functions d.bad
      ∙ ap (λ (g : FunctionDocument). join meta functions (read_so_far d.meta (g ∷ d.functions) d.bad)) (closed_at-is linked opened e line.number)
  closing_line had opened e meta functions false = nothing_more meta functions (Some opened)

  -- its documents, where no line of it is left
  closing_rest : (had : Bool) (opened : ℕ) (e : List Line) → last ≡ opened + length e → is_close line.text ≡ true
      → function_rest linked opened e (line ∷ others) (documents_from linked (suc (length (inside (line ∷ others)))) had (line ∷ others))
      ≡ cond (is_complete e) (record (documents_from linked 0 had others) {
        functions = function_document linked opened e line.number ∷ (documents_from linked 0 had
            others).functions;
      }) (stops opened)
  unfolding documents_from first_fault
  closing_rest had opened e count is =
      let none = inside-close line others is in
      let closed = is_closed-close line others is in
      let whole = append-nil e in
      let d = documents_from linked 0 had others in
      let number : opened + length e + 1 ≡ line.number = omega arith in
      let one : function_with linked opened e (inside (line ∷ others)) (line ∷ others) (is_closed (line ∷ others)) (documents_from linked (length (inside
      (line ∷ others)))
      had others) ≡ function_with linked opened e [] (line ∷ others) true d =
      λ i. function_with linked opened e (none i) (line ∷ others) (closed i) (documents_from linked (length (none i)) had others) in
      one ∙ (λ i. cond (is_complete (whole i)) (record d {
        functions = function_document linked opened (whole i) (opened + length (whole i) + 1) ∷ d.functions;
      })
      (stops opened))
      ∙ ap (λ (n : ℕ). cond (is_complete e) (record d { functions = function_document linked opened e n ∷ d.functions }) (stops opened)) number

  -- a line of it
  inner_line : (had : Bool) (opened : ℕ) (e : List Line) (meta : List Line) (functions : List FunctionDocument) → last ≡ opened + length e →
      is_close line.text ≡ false
      → (faulty : Bool) → is_fault linked e line ≡ faulty
      → scan_or_stop (function_state linked had (opened_with linked opened e) meta functions) (cond faulty (Some line.number) None) (scan (function_state
      linked had (opened_with linked
      opened (e ++ line ∷ [])) meta functions) line.number others)
      ≡ join meta functions (function_rest linked opened e (line ∷ others) (documents_from linked (suc (length (inside (line ∷ others)))) had (line ∷ others)))
  unfolding documents_from first_fault
  inner_line had opened e meta functions count is true faulty =
      let more = inside-other line others is in
      let closed = is_closed-other line others is in
      let one : function_with linked opened e (inside (line ∷ others)) (line ∷ others) (is_closed (line ∷ others)) (documents_from linked (length (inside
      (line ∷ others)))
      had others) ≡ function_with linked opened e (line ∷ inside others) (line ∷ others) (is_closed others) (documents_from linked (suc (length (inside
      others))) had
      others) =
      λ i. function_with linked opened e (more i) (line ∷ others) (closed i) (documents_from linked (length (more i)) had others) in
      let d = documents_from linked (suc (length (inside others))) had others in
      let stopped : function_with linked opened e (line ∷ inside others) (line ∷ others) (is_closed others) d ≡ stops line.number =
      ap (λ (b : Bool). fault_or (cond b (Some line.number) (first_fault linked (e ++ line ∷ []) (inside others))) (whole_function linked opened (e ++
      line ∷ inside others) (opened + length (e ++ line ∷ others)) (is_closed others) d)) faulty in
      nothing_more meta functions (Some line.number) ∙ ap (join meta functions) (sym (one ∙ stopped))
  inner_line had opened e meta functions count is false faulty =
      let more = inside-other line others is in
      let closed = is_closed-other line others is in
      let one : function_with linked opened e (inside (line ∷ others)) (line ∷ others) (is_closed (line ∷ others)) (documents_from linked (length (inside
      (line ∷ others)))
      had others) ≡ function_with linked opened e (line ∷ inside others) (line ∷ others) (is_closed others) (documents_from linked (suc (length (inside
      others))) had
      others) =
      λ i. function_with linked opened e (more i) (line ∷ others) (closed i) (documents_from linked (length (more i)) had others) in
      let d = documents_from linked (suc (length (inside others))) had others in
      let inner = append_assoc e (line ∷ []) (inside others) in
      let all = append_assoc e (line ∷ []) others in
      let passed : function_with linked opened e (line ∷ inside others) (line ∷ others) (is_closed others) d ≡ fault_or (first_fault linked (e ++
      line ∷ []) (inside others)) (whole_function linked opened (e ++ line ∷ inside others) (opened + length (e ++ line ∷ others)) (is_closed others) d) =
      ap (λ (b : Bool). fault_or (cond b (Some line.number) (first_fault linked (e ++ line ∷ []) (inside others))) (whole_function linked opened (e ++
      line ∷ inside others) (opened + length (e ++ line ∷ others)) (is_closed others) d)) faulty in
      let regrouped : function_rest linked opened (e ++ line ∷ []) others d ≡ fault_or (first_fault linked (e ++ line ∷ []) (inside others)) (whole_function
      linked opened (e ++
      line ∷ inside others) (opened + length (e ++ line ∷ others)) (is_closed others) d) =
      λ i. fault_or (first_fault linked (e ++ line ∷ []) (inside others)) (whole_function linked opened (inner i) (opened + length (all i)) (is_closed others)
      d) in
      later.function had opened (e ++ line ∷ []) meta functions (omega (arith, length_push e line))
      ∙ ap (join meta functions) (regrouped ∙ sym passed ∙ sym one)

  -- a line of the function, or the one that closes it
  function_line : (had : Bool) (opened : ℕ) (e : List Line) (meta : List Line) (functions : List FunctionDocument) → last ≡ opened + length e →
      (closes : Bool) → is_close line.text ≡ closes
      → scan_or_stop (function_state linked had (opened_with linked opened e) meta functions)
      (cond closes (cond (can_close (opened_with linked opened e)) None (Some opened)) (cond (can_not_take (opened_with linked opened e) line.text) (Some
      line.number) None))
      (scan (cond closes (outside_state linked had meta (functions ++ closed_at (opened_with linked opened e) line.number ∷ [])) (function_state linked had
      (taken (opened_with linked
      opened e) line) meta functions)) line.number others)
      ≡ join meta functions (function_rest linked opened e (line ∷ others) (documents_from linked (suc (length (inside (line ∷ others)))) had (line ∷ others)))
  function_line had opened e meta functions count true is =
      ap (λ (b : Bool). scan_or_stop (function_state linked had (opened_with linked opened e) meta functions) (cond b None (Some opened)) (scan (outside_state
      linked had meta
      (functions ++ closed_at (opened_with linked opened e) line.number ∷ [])) line.number others)) (can_close-is linked opened e)
      ∙ closing_line had opened e meta functions (is_complete e)
      ∙ ap (join meta functions) (sym (closing_rest had opened e count is))
  function_line had opened e meta functions count false is =
      let fault = can_not_take-is linked opened e line in
      let state = taken-is linked opened e line in
      (λ i. scan_or_stop (function_state linked had (opened_with linked opened e) meta functions) (cond (fault i) (Some line.number) None) (scan
      (function_state linked had (state
      i) meta functions) line.number others))
      ∙ inner_line had opened e meta functions count is (is_fault linked e line) refl

  at_line : Agrees linked last (line ∷ others)
  unfolding scan documents_from
  at_line = record {
    outside = λ had meta functions. outside_line had meta functions (is_passed line.text) (opens_block line.text) (opens_function line.text);
    block = λ meta functions. block_line meta functions (is_close line.text) refl;
    function = λ had opened e meta functions count. function_line had opened e meta functions count (is_close line.text) refl;
  }

agrees : (linked : Bool) (last : ℕ) (texts : List (List ℕ)) → Agrees linked last (numbered (last + 1) texts)
agrees linked last [] = at_end linked last
agrees linked last (text ∷ texts) = at_line linked last _ (numbered (last + 1 + 1) texts) refl (agrees linked (last + 1) texts)

pub scan-lines_of : (linked : Bool) (text : List ℕ) → scan (start linked) 0 (lines_of text) ≡ documents_of linked text
scan-lines_of linked text = (agrees linked 0 (lines text)).outside false [] []
