-- Documents behind the IR block.
use Rattle.std.proofs.Common.{◌≡◌, ℕ, zero, suc, ◌+◌, Bool, true, false, cond, eqb, List, [], ◌∷◌, ◌++◌, length, All, Some, None}
use Rattle.std.proofs.Common.{refl, sym, ap, ◌∙◌, arith, append-nil}
use Rattle.std.specs.Prelude.{codes}
use Rattle.std.specs.List.{flat_map}
use Rattle.std.specs.Str.{bytes_eq}
use Rattle.std.proofs.lemmas.Bool.{and_parts, eqb-true}
use Rattle.std.proofs.lemmas.List.Elements.{All-nil, All-cons, All-head, All-tail, All-append, All-weaker}
use Rattle.read_lexer.specs.declared.line.Line.{Line}
use Rattle.read_documents.specs.declared.key.Key.{Key}
use Rattle.read_documents.specs.declared.key.Key.TheVariants.{Name, Stack, DebugValueSubstitutions}
use Rattle.read_documents.specs.declared.parts.FunctionDocument.{FunctionDocument}
use Rattle.read_documents.specs.declared.parts.Documents.{Documents}
use Rattle.read_documents.specs.Key.{is_close, is_passed, opens_block, opens_function, heading}
use Rattle.read_documents.specs.Documents.{inside, is_closed, is_complete, is_fault, first_fault, fault_or, function_document, stops}
use Rattle.read_documents.specs.Documents.{block_from, function_from, documents_from, documents_of}
use Rattle.read_documents.proofs.Scanned.{inside-close, inside-other, is_closed-close, is_closed-other}
use Rattle.readback_functions.specs.Document.{IsLine, IsIndented, text_of_lines, lines_from, Document, behind_name, document_lines, IsSection, IsDocument}
use Rattle.readback_functions.specs.Document.{document_at, documents_at}
use Rattle.readback_functions.proofs.DocumentLines.{lines_are}
use Rattle.readback_functions.proofs.Scans.{documents_read_back}

-- ---- the lines before the one that closes a document

abbrev pub GoesOn : List ℕ → Type 0
GoesOn text = is_close text ≡ false

dots : is_close (codes "...") ≡ true
unfolding is_close
dots = refl

abbrev line_at : ℕ → List ℕ → Line
line_at n text = record { number = n; text = text }

inside_part : (n : ℕ) (texts rest : List (List ℕ)) → All GoesOn texts → inside (lines_from n (texts ++ codes "..." ∷ rest)) ≡ lines_from n texts
inside_part n [] rest all = inside-close (line_at n (codes "...")) (lines_from (n + 1) rest) dots
inside_part n (t ∷ ts) rest all =
    inside-other (line_at n t) (lines_from (n + 1) (ts ++ codes "..." ∷ rest)) (All-head GoesOn t ts all)
    ∙ ap (λ (ls : List Line). line_at n t ∷ ls) (inside_part (n + 1) ts rest (All-tail GoesOn t ts all))

closed_part : (n : ℕ) (texts rest : List (List ℕ)) → All GoesOn texts → is_closed (lines_from n (texts ++ codes "..." ∷ rest)) ≡ true
closed_part n [] rest all = is_closed-close (line_at n (codes "...")) (lines_from (n + 1) rest) dots
closed_part n (t ∷ ts) rest all =
    is_closed-other (line_at n t) (lines_from (n + 1) (ts ++ codes "..." ∷ rest)) (All-head GoesOn t ts all)
    ∙ closed_part (n + 1) ts rest (All-tail GoesOn t ts all)

passed_part : (had : Bool) (n : ℕ) (texts rest : List (List ℕ)) →
    documents_from false (suc (length (lines_from n texts))) had (lines_from n (texts ++ codes "..." ∷ rest))
    ≡ documents_from false 0 had (lines_from (n + length texts + 1) rest)
unfolding documents_from
passed_part had n [] rest = ap (λ (k : ℕ). documents_from false 0 had (lines_from k rest)) (let e : n + 1 ≡ n + 0 + 1 = omega arith in e)
passed_part had n (t ∷ ts) rest =
    passed_part had (n + 1) ts rest
    ∙ ap (λ (k : ℕ). documents_from false 0 had (lines_from k rest)) (let e : n + 1 + length ts + 1 ≡ n + suc (length ts) + 1 = omega arith in e)

-- the documents behind such a part
behind_part : (had : Bool) (n : ℕ) (texts rest : List (List ℕ)) → All GoesOn texts →
    documents_from false (suc (length (inside (lines_from n (texts ++ codes "..." ∷ rest))))) had (lines_from n (texts ++ codes "..." ∷ rest))
    ≡ documents_from false 0 had (lines_from (n + length texts + 1) rest)
behind_part had n texts rest all =
    ap (λ (ls : List Line). documents_from false (suc (length ls)) had (lines_from n (texts ++ codes "..." ∷ rest))) (inside_part n texts rest all)
    ∙ passed_part had n texts rest

-- ---- documents without a line that opens the block

abbrev NoBlock : List ℕ → Type 0
NoBlock text = opens_block text ≡ false

abbrev NoBlockLine : Line → Type 0
NoBlockLine line = NoBlock line.text

-- the documents from a line on that is part of none before
abbrev from_line : Line → List Line → (had opens : Bool) → (here block behind : Documents) → Documents
from_line line ls had opens here block behind =
    cond (is_passed line.text) here
    (cond opens (cond had (stops line.number) block) (cond (opens_function line.text) (function_from false line.number ls behind) (stops line.number)))

same_behind : (ls : List Line) → All NoBlockLine ls → (skipped : ℕ) → documents_from false skipped true ls ≡ documents_from false skipped false ls
unfolding documents_from
same_behind [] all zero = refl
same_behind [] all (suc k) = refl
same_behind (line ∷ ls) all (suc k) = same_behind ls (All-tail NoBlockLine line ls all) k
same_behind (line ∷ ls) all zero =
    let none = All-head NoBlockLine line ls all in
    let here = same_behind ls (All-tail NoBlockLine line ls all) 0 in
    let behind = same_behind ls (All-tail NoBlockLine line ls all) (suc (length (inside ls))) in
    let block : Documents = block_from line.number ls (documents_from false (suc (length (inside ls))) true ls) in
    ap (λ (b : Bool). from_line line ls true b (documents_from false 0 true ls) block (documents_from false (suc (length (inside ls))) true ls)) none
    ∙ (λ i. from_line line ls true false (here i) block (behind i))
    ∙ ap (λ (b : Bool). from_line line ls false b (documents_from false 0 false ls) block (documents_from false (suc (length (inside ls))) false ls)) (sym none)

no_block_lines : (n : ℕ) (texts : List (List ℕ)) → All NoBlock texts → All NoBlockLine (lines_from n texts)
no_block_lines n [] all = All-nil NoBlockLine
no_block_lines n (t ∷ ts) all =
    All-cons NoBlockLine (line_at n t) (lines_from (n + 1) ts) (All-head NoBlock t ts all) (no_block_lines (n + 1) ts (All-tail NoBlock t ts all))

bytes_are : (xs ys : List ℕ) → bytes_eq xs ys ≡ true → xs ≡ ys
bytes_are [] [] e = refl
bytes_are [] (y ∷ ys) e = absurd cc
bytes_are (x ∷ xs) [] e = absurd cc
bytes_are (x ∷ xs) (y ∷ ys) e = let parts = and_parts (eqb x y) (bytes_eq xs ys) e in λ i. eqb-true x y parts.0 i ∷ bytes_are xs ys parts.1 i

mark_is : (text : List ℕ) → opens_block text ≡ true → text ≡ codes "--- |"
unfolding opens_block
mark_is text opens = bytes_are text (codes "--- |") opens

mark_heads : heading (codes "--- |") ≡ None
unfolding heading
mark_heads = refl

key_opens_none : (text : List ℕ) (key : Key) → heading text ≡ Some key → NoBlock text
key_opens_none text key is = by (opens_block text) refl where
  by : (b : Bool) → opens_block text ≡ b → b ≡ false
  by true e = let both = sym is ∙ ap heading (mark_is text e) ∙ mark_heads in absurd cc
  by false e = refl

spaced_opens_none : (rest : List ℕ) → NoBlock (32 ∷ rest)
unfolding opens_block
spaced_opens_none rest = refl

indented_opens_none : (text : List ℕ) → IsIndented text → NoBlock text
indented_opens_none text is = ap opens_block is.1 ∙ spaced_opens_none is.0

section_opens_none : (key : Key) (texts : List (List ℕ)) → IsSection key texts → All NoBlock texts
section_opens_none key [] is = All-nil NoBlock
section_opens_none key (t ∷ ts) is =
    All-cons NoBlock t ts (key_opens_none t key is.0) (All-weaker IsIndented NoBlock indented_opens_none ts is.1)

function_opens_none : NoBlock (codes "---")
unfolding opens_block
function_opens_none = refl

body_opens_none : NoBlock (codes "body: |")
unfolding opens_block
body_opens_none = refl

close_opens_none : NoBlock (codes "...")
unfolding opens_block
close_opens_none = refl

document_opens_none : (d : Document) → IsDocument d → All NoBlock (document_lines d)
document_opens_none d is =
    let end = d.body ++ codes "..." ∷ [] in
    All-cons NoBlock (codes "---") (d.name ∷ behind_name d) function_opens_none
    (All-cons NoBlock d.name (behind_name d) (key_opens_none d.name Name is.name)
    (All-append NoBlock d.stack (d.substitutions ++ codes "body: |" ∷ end) (section_opens_none Stack d.stack is.stack)
    (All-append NoBlock d.substitutions (codes "body: |" ∷ end) (section_opens_none DebugValueSubstitutions d.substitutions is.substitutions)
    (All-cons NoBlock (codes "body: |") end body_opens_none
    (All-append NoBlock d.body (codes "..." ∷ []) (All-weaker IsIndented NoBlock indented_opens_none d.body is.body)
    (All-cons NoBlock (codes "...") [] close_opens_none (All-nil NoBlock)))))))

-- ---- a document that begins at line 10

-- a document of nine lines
abbrev nine : Document
nine = record { name = codes "name: x"; stack = []; substitutions = []; body = codes " x" ∷ codes " x" ∷ codes " x" ∷ codes " x" ∷ codes " x" ∷ [] }

-- its lines between the first and the last
abbrev inner : List (List ℕ)
inner = codes "name: x" ∷ codes "body: |" ∷ codes " x" ∷ codes " x" ∷ codes " x" ∷ codes " x" ∷ codes " x" ∷ []

two_goes_on : (All GoesOn (codes "name: x" ∷ codes "body: |" ∷ [])) × GoesOn (codes " x")
unfolding is_close
two_goes_on = (All-cons GoesOn (codes "name: x") (codes "body: |" ∷ []) refl (All-cons GoesOn (codes "body: |") [] refl (All-nil GoesOn)), refl)

five : (P : List ℕ → Type 0) → P (codes " x") → All P nine.body
five P is =
    let x = codes " x" in
    All-cons P x (x ∷ x ∷ x ∷ x ∷ []) is (All-cons P x (x ∷ x ∷ x ∷ []) is (All-cons P x (x ∷ x ∷ []) is (All-cons P x (x ∷ []) is
    (All-cons P x [] is (All-nil P)))))

inner_goes_on : All GoesOn inner
inner_goes_on = All-append GoesOn (codes "name: x" ∷ codes "body: |" ∷ []) nine.body two_goes_on.0 (five GoesOn two_goes_on.1)

name_heads : heading (codes "name: x") ≡ Some Name
unfolding heading
name_heads = refl

nine_is : IsDocument nine
nine_is = record {
  printed = All-cons IsLine (codes "---") (nine.name ∷ behind_name nine) (record { printed = refl; ends = refl })
      (All-cons IsLine nine.name (behind_name nine) (record { printed = refl; ends = refl })
      (All-cons IsLine (codes "body: |") (nine.body ++ codes "..." ∷ []) (record { printed = refl; ends = refl })
      (All-append IsLine nine.body (codes "..." ∷ []) (five IsLine (record { printed = refl; ends = refl }))
      (All-cons IsLine (codes "...") [] (record { printed = refl; ends = refl }) (All-nil IsLine)))));
  name = name_heads;
  stack = tt;
  substitutions = tt;
  body = five IsIndented (codes "x", refl);
}

abbrev but_first : List FunctionDocument → List FunctionDocument
but_first [] = []
but_first (d ∷ ds) = ds

-- the function at the first line, whose inner lines are these
abbrev function_with : (ls : List Line) (closed : Bool) (last : ℕ) → Documents → Documents
function_with ls closed last others =
    fault_or (first_fault false [] ls)
    (cond (is_complete ls)
    (cond closed (record others { functions = function_document false 1 ls (1 + length ls + 1) ∷ others.functions }) (stops last)) (stops 1))

first_function : (rest : List Line) → documents_from false 0 false (line_at 1 (codes "---") ∷ rest)
    ≡ function_with (inside rest) (is_closed rest) (1 + length rest) (documents_from false (suc (length (inside rest))) false rest)
unfolding documents_from opens_block opens_function function_from
first_function rest = refl

nine_taken : (last : ℕ) (others : Documents) → function_with (lines_from 2 inner) true last others
    ≡ record others { functions = function_document false 1 (lines_from 2 inner) 9 ∷ others.functions }
unfolding first_fault is_fault heading opens_block opens_function
nine_taken last others = refl

module _ (d : Document) (is : IsDocument d) where
  abbrev texts : List (List ℕ)
  texts = document_lines d ++ []

  abbrev rest : List Line
  rest = lines_from 2 (inner ++ codes "..." ∷ texts)

  abbrev tenth : Documents
  tenth = documents_from false 0 false (lines_from 10 texts)

  both_found : documents_from false 0 false (lines_from 1 (flat_map document_lines (nine ∷ d ∷ [])))
      ≡ record { meta = []; functions = document_at 1 nine ∷ document_at 10 d ∷ []; bad = None }
  unfolding documents_at
  both_found =
      let printed : All IsLine (flat_map document_lines (nine ∷ d ∷ [])) =
      All-append IsLine (document_lines nine) texts nine_is.printed (All-append IsLine (document_lines d) [] is.printed (All-nil IsLine)) in
      ap (documents_from false 0 false) (sym (lines_are (flat_map document_lines (nine ∷ d ∷ [])) printed))
      ∙ documents_read_back (nine ∷ d ∷ []) (All-cons IsDocument nine (d ∷ []) nine_is (All-cons IsDocument d [] is (All-nil IsDocument)))

  first_found : documents_from false 0 false (line_at 1 (codes "---") ∷ rest)
      ≡ record tenth { functions = function_document false 1 (lines_from 2 inner) 9 ∷ tenth.functions }
  first_found =
      let ins = inside_part 2 inner texts inner_goes_on in
      let closes = closed_part 2 inner texts inner_goes_on in
      let behind = behind_part false 2 inner texts inner_goes_on in
      first_function rest
      ∙ (λ i. function_with (ins i) (closes i) (1 + length rest) (behind i))
      ∙ nine_taken (1 + length rest) tenth

  same : record tenth { functions = function_document false 1 (lines_from 2 inner) 9 ∷ tenth.functions }
      ≡ record { meta = []; functions = document_at 1 nine ∷ document_at 10 d ∷ []; bad = None }
  same = sym first_found ∙ both_found

  tenth_is : tenth ≡ record { meta = []; functions = document_at 10 d ∷ []; bad = None }
  tenth_is =
      let meta : tenth.meta ≡ [] = ap (λ (x : Documents). x.meta) same in
      let functions : tenth.functions ≡ document_at 10 d ∷ [] = ap (λ (x : Documents). but_first x.functions) same in
      let bad : tenth.bad ≡ None = ap (λ (x : Documents). x.bad) same in
      λ i. record { meta = meta i; functions = functions i; bad = bad i }

  -- behind a block
  pub tenth_behind : documents_from false 0 true (lines_from 10 (document_lines d)) ≡ record { meta = []; functions = document_at 10 d ∷ []; bad = None }
  tenth_behind =
      same_behind (lines_from 10 (document_lines d)) (no_block_lines 10 (document_lines d) (document_opens_none d is)) 0
      ∙ ap (λ (ts : List (List ℕ)). documents_from false 0 false (lines_from 10 ts)) (sym (append-nil (document_lines d)))
      ∙ tenth_is

-- ---- the block

-- the documents of a block with these lines, before others
abbrev block_with : (ls : List Line) (closed : Bool) (last : ℕ) → Documents → Documents
block_with ls closed last others =
    cond closed (record others { meta = ls ++ others.meta }) (record { meta = ls; functions = []; bad = Some last })

first_block : (ls : List Line) → documents_from false 0 false (line_at 1 (codes "--- |") ∷ ls)
    ≡ block_with (inside ls) (is_closed ls) (1 + length ls) (documents_from false (suc (length (inside ls))) true ls)
unfolding documents_from opens_block block_from
first_block ls = refl

-- a block of seven lines, and a document behind it
pub documents_behind : (block : List (List ℕ)) (d : Document) → IsDocument d → All IsLine block → All GoesOn block → length block ≡ 7 →
    documents_of false (text_of_lines (codes "--- |" ∷ (block ++ codes "..." ∷ document_lines d)))
    ≡ record { meta = lines_from 2 block; functions = document_at 10 d ∷ []; bad = None }
documents_behind block d is printed goes seven =
    let behind = block ++ codes "..." ∷ document_lines d in
    let ls = lines_from 2 behind in
    let lines : All IsLine (codes "--- |" ∷ behind) =
    All-cons IsLine (codes "--- |") behind (record { printed = refl; ends = refl })
    (All-append IsLine block (codes "..." ∷ document_lines d) printed
    (All-cons IsLine (codes "...") (document_lines d) (record { printed = refl; ends = refl }) is.printed)) in
    let ins = inside_part 2 block (document_lines d) goes in
    let closes = closed_part 2 block (document_lines d) goes in
    let others = behind_part true 2 block (document_lines d) goes
    ∙ ap (λ (k : ℕ). documents_from false 0 true (lines_from (2 + k + 1) (document_lines d))) seven
    ∙ tenth_behind d is in
    ap (documents_from false 0 false) (lines_are (codes "--- |" ∷ behind) lines)
    ∙ first_block ls
    ∙ (λ i. block_with (ins i) (closes i) (1 + length ls) (others i))
    ∙ ap (λ (meta : List Line). record { meta = meta; functions = document_at 10 d ∷ []; bad = None }) (append-nil (lines_from 2 block))
