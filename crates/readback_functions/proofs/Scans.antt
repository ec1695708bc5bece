-- The scan over the lines of documents.
use Rattle.std.proofs.Common.{◌≡◌, ℕ, suc, ◌+◌, Bool, true, false, not, cond, eqb, ◌||◌, ◌&&◌, List, [], ◌∷◌, ◌++◌, length, All, Option, Some, None}
use Rattle.std.proofs.Common.{refl, sym, ap, subst, ◌∙◌, arith, append_assoc, append-nil}
use Rattle.std.specs.Prelude.{is_none, codes}
use Rattle.std.specs.List.{flat_map}
use Rattle.std.specs.Option.{option_map_or}
use Rattle.std.specs.Str.{bytes_eq}
use Rattle.std.proofs.lemmas.Bool.{and_parts, eqb-true}
use Rattle.std.proofs.lemmas.List.Elements.{All-nil, All-head, All-tail, All-append}
use Rattle.read_lexer.specs.declared.line.Line.{Line}
use Rattle.read_documents.specs.declared.key.Key.{Key}
use Rattle.read_documents.specs.declared.key.Key.TheVariants.{Name, Stack, FixedStack, DebugValueSubstitutions, Constants, ReturnsTwice, Body, Other}
use Rattle.read_documents.specs.declared.open_function.OpenFunction.{OpenFunction}
use Rattle.read_documents.specs.declared.scan.Scan.{Scan}
use Rattle.read_documents.specs.declared.parts.FunctionDocument.{FunctionDocument}
use Rattle.read_documents.specs.declared.parts.Documents.{Documents}
use Rattle.read_documents.specs.Key.{is_close, opens_block, opens_function, is_plain, heading}
use Rattle.read_documents.specs.steps.Scan.{just_opened, has, can_not_take, with_line, with_key, taken_under, taken, can_close, closed_at, start, scan}
use Rattle.read_documents.specs.steps.Scan.{scan_or_stop}
use Rattle.read_documents.proofs.Scanned.{scan-lines_of}
use Rattle.readback_functions.specs.Document.{IsLine, IsIndented, text_of_lines, lines_from, Document, behind_name, document_lines, IsSection, IsDocument}
use Rattle.readback_functions.specs.Document.{document_at, documents_at, DocumentsReadBack}
use Rattle.readback_functions.proofs.DocumentLines.{lines_are}

-- ---- which lines are marks

heading_close : heading (codes "...") ≡ None
unfolding heading
heading_close = refl

heading_block : heading (codes "--- |") ≡ None
unfolding heading
heading_block = refl

heading_open : heading (codes "---") ≡ None
unfolding heading
heading_open = refl

heading_body : heading (codes "body: |") ≡ Some Body
unfolding heading
heading_body = refl

heading_indented : (t : List ℕ) → heading (32 ∷ t) ≡ None
unfolding heading
heading_indented t = refl

pub same_if : (xs ys : List ℕ) → bytes_eq xs ys ≡ true → xs ≡ ys
same_if [] [] e = refl
same_if [] (y ∷ ys) e = absurd cc
same_if (x ∷ xs) [] e = absurd cc
same_if (x ∷ xs) (y ∷ ys) e = let parts = and_parts (eqb x y) (bytes_eq xs ys) e in λ i. eqb-true x y parts.0 i ∷ same_if xs ys parts.1 i

no_mark : (text mark : List ℕ) (key : Key) → heading mark ≡ None → heading text ≡ Some key → bytes_eq text mark ≡ false
no_mark text mark key none some = by (bytes_eq text mark) refl where
  by : (b : Bool) → bytes_eq text mark ≡ b → b ≡ false
  by true e = let both = sym some ∙ ap heading (same_if text mark e) ∙ none in absurd cc
  by false e = refl

pub record IsKeyLine (text : List ℕ) : Type 0 where
  pub close : is_close text ≡ false
  pub block : opens_block text ≡ false
  pub function : opens_function text ≡ false

key_line : (text : List ℕ) (key : Key) → heading text ≡ Some key → IsKeyLine text
unfolding is_close opens_block opens_function
key_line text key is = record {
  close = no_mark text (codes "...") key heading_close is;
  block = no_mark text (codes "--- |") key heading_block is;
  function = no_mark text (codes "---") key heading_open is;
}

indented_line : (t : List ℕ) → IsKeyLine (32 ∷ t)
unfolding is_close opens_block opens_function
indented_line t = record { close = refl; block = refl; function = refl }

-- ---- one line

module _ (fs : List FunctionDocument) where
  abbrev outside : Scan
  outside = record { linked = false; had_block = false; in_block = false; function = None; meta = []; functions = fs }

  abbrev within : OpenFunction → Scan
  within f = record { linked = false; had_block = false; in_block = false; function = Some f; meta = []; functions = fs }

  abbrev go : OpenFunction → ℕ → List (List ℕ) → Documents
  go f last texts = scan (within f) last (lines_from (last + 1) texts)

  abbrev line_at : ℕ → List ℕ → Line
  line_at last text = record { number = last + 1; text = text }

  one : (f : OpenFunction) (last : ℕ) (text : List ℕ) (texts : List (List ℕ)) → is_close text ≡ false → can_not_take f text ≡ false →
      go f last (text ∷ texts) ≡ go (taken f (line_at last text)) (last + 1) texts
  unfolding scan
  one f last text texts closes can =
      let line = line_at last text in
      let rest = lines_from (last + 1 + 1) texts in
      let closing : Scan = record {
        linked = false;
        had_block = false;
        in_block = false;
        function = None;
        meta = [];
        functions = fs ++ closed_at f (last + 1) ∷ [];
      } in
      ap (λ (b : Bool). scan_or_stop (within f) (cond b (cond (can_close f) None (Some f.opened)) (cond (can_not_take f text) (Some (last + 1)) None))
      (scan (cond b closing (within (taken f line))) (last + 1) rest)) closes
      ∙ ap (λ (b : Bool). scan_or_stop (within f) (cond b (Some (last + 1)) None) (scan (within (taken f line)) (last + 1) rest)) can

  can_indent : (f : OpenFunction) (t : List ℕ) → can_not_take f (32 ∷ t) ≡ false
  unfolding opens_block opens_function heading
  can_indent f t = refl

  indent_taken : (f : OpenFunction) (last : ℕ) (t : List ℕ) → taken f (line_at last (32 ∷ t)) ≡ with_line f f.key (line_at last (32 ∷ t))
  unfolding heading
  indent_taken f last t = refl

  can_key : (f : OpenFunction) (text : List ℕ) (key : Key) → heading text ≡ Some key → has f key ≡ false → can_not_take f text ≡ false
  can_key f text key is new =
      let marks = key_line text key is in
      (λ i. (marks.block i || marks.function i) || (option_map_or (λ k. has f k) (is i) false || (is_none (is i) && (not (is_plain text) && not f.has_body))))
      ∙ ap (λ (b : Bool). b || false) new

  key_taken : (f : OpenFunction) (last : ℕ) (text : List ℕ) (texts : List (List ℕ)) (key : Key) → heading text ≡ Some key → has f key ≡ false →
      go f last (text ∷ texts) ≡ go (with_key f key (line_at last text)) (last + 1) texts
  key_taken f last text texts key is new =
      one f last text texts (key_line text key is).close (can_key f text key is new)
      ∙ ap (λ (o : Option Key). go (taken_under f o (line_at last text)) (last + 1) texts) is

  -- ---- indented lines

  abbrev more : OpenFunction → Key → List Line → OpenFunction
  more f key [] = f
  more f key (line ∷ lines) = more (with_line f key line) key lines

  same_key : (f : OpenFunction) (key : Key) (line : Line) → (with_line f key line).key ≡ f.key
  same_key f Name line = refl
  same_key f Stack line = refl
  same_key f FixedStack line = refl
  same_key f DebugValueSubstitutions line = refl
  same_key f Constants line = refl
  same_key f ReturnsTwice line = refl
  same_key f Body line = refl
  same_key f Other line = refl

  indented : (f : OpenFunction) (key : Key) (last : ℕ) (texts rest : List (List ℕ)) → f.key ≡ key → All IsIndented texts →
      go f last (texts ++ rest) ≡ go (more f key (lines_from (last + 1) texts)) (last + length texts) rest
  indented f key last [] rest at all = ap (λ (n : ℕ). go f n rest) (let e : last ≡ last + 0 = omega arith in e)
  indented f key last (text ∷ texts) rest at all =
      let first = All-head IsIndented text texts all in
      let line = line_at last text in
      let step : go f last (text ∷ (texts ++ rest)) ≡ go (with_line f f.key line) (last + 1) (texts ++ rest) =
      subst (λ (t : List ℕ). go f last (t ∷ (texts ++ rest)) ≡ go (with_line f f.key (line_at last t)) (last + 1) (texts ++ rest)) (sym first.1)
      (one f last (32 ∷ first.0) (texts ++ rest) (indented_line first.0).close (can_indent f first.0)
      ∙ ap (λ (g : OpenFunction). go g (last + 1) (texts ++ rest)) (indent_taken f last first.0)) in
      step ∙ ap (λ (k : Key). go (with_line f k line) (last + 1) (texts ++ rest)) at
      ∙ indented (with_line f key line) key (last + 1) texts rest (same_key f key line ∙ at) (All-tail IsIndented text texts all)
      ∙ ap (λ (n : ℕ). go (more f key (lines_from (last + 1) (text ∷ texts))) n rest)
      (let e : last + 1 + length texts ≡ last + suc (length texts) = omega arith in e)

-- ---- states

abbrev state : (opened : ℕ) (key : Key) (has_body : Bool) (name stack substitutions body : List Line) → OpenFunction
state opened key has_body name stack substitutions body = record {
  opened = opened;
  linked = false;
  key = key;
  has_body = has_body;
  name = name;
  stack = stack;
  fixed = [];
  substitutions = substitutions;
  constants = [];
  twice = [];
  body = body;
}

module _ (fs : List FunctionDocument) (opened : ℕ) (name : List Line) where
  more_stack : (stack lines : List Line) → more fs (state opened Stack false name stack [] []) Stack lines ≡
      state opened Stack false name (stack ++ lines) [] []
  more_stack stack [] = ap (λ (l : List Line). state opened Stack false name l [] []) (sym (append-nil stack))
  more_stack stack (line ∷ lines) = more_stack (stack ++ line ∷ []) lines
      ∙ ap (λ (l : List Line). state opened Stack false name l [] []) (append_assoc stack (line ∷ []) lines)

  more_substitutions : (stack subs lines : List Line) → more fs (state opened DebugValueSubstitutions false name stack subs []) DebugValueSubstitutions lines ≡
      state opened DebugValueSubstitutions false name stack (subs ++ lines) []
  more_substitutions stack subs [] = ap (λ (l : List Line). state opened DebugValueSubstitutions false name stack l []) (sym (append-nil subs))
  more_substitutions stack subs (line ∷ lines) = more_substitutions stack (subs ++ line ∷ []) lines
      ∙ ap (λ (l : List Line). state opened DebugValueSubstitutions false name stack l []) (append_assoc subs (line ∷ []) lines)

  more_body : (stack subs body lines : List Line) → more fs (state opened Body true name stack subs body) Body lines ≡
      state opened Body true name stack subs (body ++ lines)
  more_body stack subs body [] = ap (λ (l : List Line). state opened Body true name stack subs l) (sym (append-nil body))
  more_body stack subs body (line ∷ lines) = more_body stack subs (body ++ line ∷ []) lines
      ∙ ap (λ (l : List Line). state opened Body true name stack subs l) (append_assoc body (line ∷ []) lines)

  -- the keys under which lines may stand before the body's
  abbrev behind : Key → List (List ℕ) → Key → Key
  behind key [] before = before
  behind key (l ∷ ls) before = key

  stack_section : (last : ℕ) (texts rest : List (List ℕ)) → IsSection Stack texts →
      go fs (state opened Name false name [] [] []) last (texts ++ rest)
      ≡ go fs (state opened (behind Stack texts Name) false name (lines_from (last + 1) texts) [] []) (last + length texts) rest
  stack_section last [] rest is = ap (λ (n : ℕ). go fs (state opened Name false name [] [] []) n rest) (let e : last ≡ last + 0 = omega arith in e)
  stack_section last (l ∷ ls) rest is =
      key_taken fs (state opened Name false name [] [] []) last l (ls ++ rest) Stack is.0 refl
      ∙ indented fs (state opened Stack false name (line_at fs last l ∷ []) [] []) Stack (last + 1) ls rest refl is.1
      ∙ ap (λ (f : OpenFunction). go fs f (last + 1 + length ls) rest) (more_stack (line_at fs last l ∷ []) (lines_from (last + 1 + 1) ls))
      ∙ ap (λ (n : ℕ). go fs (state opened Stack false name (lines_from (last + 1) (l ∷ ls)) [] []) n rest)
      (let e : last + 1 + length ls ≡ last + suc (length ls) = omega arith in e)

  substitutions_section : (key : Key) (stack : List Line) (last : ℕ) (texts rest : List (List ℕ)) → IsSection DebugValueSubstitutions texts →
      go fs (state opened key false name stack [] []) last (texts ++ rest)
      ≡ go fs (state opened (behind DebugValueSubstitutions texts key) false name stack (lines_from (last + 1) texts) []) (last + length texts) rest
  substitutions_section key stack last [] rest is =
      ap (λ (n : ℕ). go fs (state opened key false name stack [] []) n rest) (let e : last ≡ last + 0 = omega arith in e)
  substitutions_section key stack last (l ∷ ls) rest is =
      key_taken fs (state opened key false name stack [] []) last l (ls ++ rest) DebugValueSubstitutions is.0 refl
      ∙ indented fs (state opened DebugValueSubstitutions false name stack (line_at fs last l ∷ []) []) DebugValueSubstitutions (last + 1) ls rest refl is.1
      ∙ ap (λ (f : OpenFunction). go fs f (last + 1 + length ls) rest) (more_substitutions stack (line_at fs last l ∷ []) (lines_from (last + 1 + 1) ls))
      ∙ ap (λ (n : ℕ). go fs (state opened DebugValueSubstitutions false name stack (lines_from (last + 1) (l ∷ ls)) []) n rest)
      (let e : last + 1 + length ls ≡ last + suc (length ls) = omega arith in e)

  body_section : (key : Key) (stack subs : List Line) (last : ℕ) (texts rest : List (List ℕ)) → All IsIndented texts →
      go fs (state opened key false name stack subs []) last (codes "body: |" ∷ (texts ++ rest))
      ≡ go fs (state opened Body true name stack subs (lines_from (last + 2) texts)) (last + 1 + length texts) rest
  body_section key stack subs last texts rest is =
      key_taken fs (state opened key false name stack subs []) last (codes "body: |") (texts ++ rest) Body heading_body refl
      ∙ indented fs (state opened Body true name stack subs []) Body (last + 1) texts rest refl is
      ∙ ap (λ (f : OpenFunction). go fs f (last + 1 + length texts) rest) (more_body stack subs [] (lines_from (last + 1 + 1) texts)
      ∙ ap (λ (n : ℕ). state opened Body true name stack subs (lines_from n texts)) (let e : last + 1 + 1 ≡ last + 2 = omega arith in e))

-- ---- a document

module _ (fs : List FunctionDocument) (last : ℕ) where
  opens : (texts : List (List ℕ)) → scan (outside fs) last (lines_from (last + 1) (codes "---" ∷ texts)) ≡ go fs (just_opened false (last + 1)) (last + 1) texts
  unfolding scan opens_block opens_function
  opens texts = refl

  closes : (f : OpenFunction) (texts : List (List ℕ)) → can_close f ≡ true →
      go fs f last (codes "..." ∷ texts) ≡ scan (outside (fs ++ closed_at f (last + 1) ∷ [])) (last + 1) (lines_from (last + 1 + 1) texts)
  unfolding scan is_close
  closes f texts can = ap (λ (b : Bool). scan_or_stop (within fs f) (cond b None (Some f.opened)) (scan (outside (fs ++ closed_at f (last + 1) ∷ [])) (last + 1)
      (lines_from (last + 1 + 1) texts))) can

-- how many lines a document has
abbrev size_of : Document → ℕ
size_of d = 4 + length d.stack + length d.substitutions + length d.body

closed_is : (opened : ℕ) (key : Key) (d : Document) (a b c e : ℕ) → a ≡ opened + 2 → b ≡ opened + 2 + length d.stack →
    c ≡ opened + 3 + length d.stack + length d.substitutions → e ≡ opened + 3 + length d.stack + length d.substitutions + length d.body →
    closed_at (state opened key true (lines_from (opened + 1) (d.name ∷ [])) (lines_from a d.stack) (lines_from b d.substitutions) (lines_from c d.body)) e
    ≡ document_at opened d
closed_is opened key d a b c e p q r s = λ i. record {
  opened = opened;
  closed = s i;
  linked = false;
  name = lines_from (opened + 1) (d.name ∷ []);
  stack = lines_from (p i) d.stack;
  fixed = [];
  substitutions = lines_from (q i) d.substitutions;
  constants = [];
  twice = [];
  body = lines_from (r i) d.body;
}

one_document : (fs : List FunctionDocument) (last : ℕ) (d : Document) (rest : List (List ℕ)) → IsDocument d →
    scan (outside fs) last (lines_from (last + 1) (document_lines d ++ rest))
    ≡ scan (outside (fs ++ document_at (last + 1) d ∷ [])) (last + size_of d) (lines_from (last + size_of d + 1) rest)
one_document fs last d rest is =
    opens fs last (d.name ∷ (behind_name d ++ rest))
    ∙ key_taken fs (just_opened false opened) opened d.name (behind_name d ++ rest) Name is.name refl
    ∙ ap (go fs (state opened Name false name [] [] []) (opened + 1)) (append_assoc d.stack (d.substitutions ++ tail) rest
    ∙ ap (λ (l : List (List ℕ)). d.stack ++ l) (append_assoc d.substitutions tail rest
    ∙ ap (λ (l : List (List ℕ)). d.substitutions ++ codes "body: |" ∷ l) (append_assoc d.body (codes "..." ∷ []) rest)))
    ∙ stack_section fs opened name (opened + 1) d.stack (d.substitutions ++ codes "body: |" ∷ (d.body ++ codes "..." ∷ rest)) is.stack
    ∙ substitutions_section fs opened name key1 (lines_from (opened + 1 + 1) d.stack) (opened + 1 + length d.stack) d.substitutions
    (codes "body: |" ∷ (d.body ++ codes "..." ∷ rest)) is.substitutions
    ∙ body_section fs opened name key2 (lines_from (opened + 1 + 1) d.stack) (lines_from (opened + 1 + length d.stack + 1) d.substitutions) before_body
    d.body (codes "..." ∷ rest) is.body
    ∙ closes fs last_line whole rest refl
    ∙ (λ i. scan (outside (fs ++ same i ∷ [])) (count i) (lines_from (count i + 1) rest))
  where
    opened : ℕ
    opened = last + 1

    name : List Line
    name = lines_from (opened + 1) (d.name ∷ [])

    tail : List (List ℕ)
    tail = codes "body: |" ∷ (d.body ++ codes "..." ∷ [])

    key1 : Key
    key1 = behind fs opened name Stack d.stack Name

    key2 : Key
    key2 = behind fs opened name DebugValueSubstitutions d.substitutions key1

    before_body : ℕ
    before_body = opened + 1 + length d.stack + length d.substitutions

    last_line : ℕ
    last_line = before_body + 1 + length d.body

    whole : OpenFunction
    whole = state opened Body true name (lines_from (opened + 1 + 1) d.stack) (lines_from (opened + 1 + length d.stack + 1) d.substitutions)
        (lines_from (before_body + 2) d.body)

    same : closed_at whole (last_line + 1) ≡ document_at opened d
    same = closed_is opened Body d (opened + 1 + 1) (opened + 1 + length d.stack + 1) (before_body + 2) (last_line + 1) (omega arith) (omega arith)
        (omega arith)
        (omega arith)

    count : last_line + 1 ≡ last + size_of d
    count = omega arith

-- ---- all documents

all_documents : (ds : List Document) (fs : List FunctionDocument) (last : ℕ) → All IsDocument ds →
    scan (outside fs) last (lines_from (last + 1) (flat_map document_lines ds)) ≡ record { meta = []; functions = fs ++ documents_at (last + 1) ds; bad = None }
unfolding documents_at scan
all_documents [] fs last all = ap (λ (l : List FunctionDocument). record { meta = []; functions = l; bad = None }) (sym (append-nil fs))
all_documents (d ∷ ds) fs last all =
    one_document fs last d (flat_map document_lines ds) (All-head IsDocument d ds all)
    ∙ all_documents ds (fs ++ document_at (last + 1) d ∷ []) (last + size_of d) (All-tail IsDocument d ds all)
    ∙ ap (λ (l : List FunctionDocument). record { meta = []; functions = l; bad = None }) (append_assoc fs (document_at (last + 1) d ∷ [])
    (documents_at (last + size_of d + 1) ds)
    ∙ ap (λ (n : ℕ). fs ++ document_at (last + 1) d ∷ documents_at n ds)
    (let e : last + size_of d + 1 ≡ last + 1 + 4 + length d.stack + length d.substitutions + length d.body = omega arith in e))

all_lines : (ds : List Document) → All IsDocument ds → All IsLine (flat_map document_lines ds)
all_lines [] all = All-nil IsLine
all_lines (d ∷ ds) all = All-append IsLine (document_lines d) (flat_map document_lines ds) (All-head IsDocument d ds all).printed
    (all_lines ds (All-tail IsDocument d ds all))

pub documents_read_back : DocumentsReadBack
documents_read_back ds all =
    sym (scan-lines_of false (text_of_lines (flat_map document_lines ds)))
    ∙ ap (scan (start false) 0) (lines_are (flat_map document_lines ds) (all_lines ds all))
    ∙ all_documents ds [] 0 all
