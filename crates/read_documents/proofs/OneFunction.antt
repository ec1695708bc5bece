-- The lines of one function, one line after the other.
use Rattle.std.proofs.Common.{◌≡◌, ℕ, ◌==◌, Bool, true, false, not, ◌&&◌, ◌||◌, cond, List, [], ◌∷◌, ◌++◌, length, Option, Some, None, refl, sym, ap, ◌∙◌}
use Rattle.std.proofs.Common.{arith}
use Rattle.std.specs.Prelude.{filter, is_none, unwrap_or}
use Rattle.std.specs.Option.{option_map_or}
use Rattle.std.proofs.lemmas.Bool.{ne_eqb}
use Rattle.std.proofs.lemmas.List.{append-nil}
use Rattle.std.proofs.lemmas.List.Folds.{list_any-append}
use Rattle.std.proofs.lemmas.List.Elements.{filter-append}
use Rattle.read_lexer.specs.declared.line.Line.{Line}
use Rattle.read_documents.specs.declared.key.Key.{Key}
use Rattle.read_documents.specs.declared.key.Key.TheVariants.{Name, Stack, FixedStack, DebugValueSubstitutions, Constants, ReturnsTwice, Body, Other}
use Rattle.read_documents.specs.declared.open_function.OpenFunction.{OpenFunction}
use Rattle.read_documents.specs.Key.{heading, is_plain, opens_block, opens_function}
use Rattle.read_documents.specs.Documents.{same_key, begins, has_key, key_behind, lines_under, function_document, comes_once, is_fault, is_complete}
use Rattle.read_documents.specs.steps.Scan.{has, can_not_take, taken_under, taken, can_close, closed_at}

-- the key of the last of some lines, where `before` is that of the line before them
abbrev pub last_key : Key → List Line → Key
last_key before [] = before
last_key before (line ∷ lines) = last_key (key_behind before line) lines

abbrev body_lines : List Line → List Line
body_lines lines = filter (λ line. is_none (heading line.text)) lines

-- an open function whose lines so far are these
abbrev pub opened_with : (linked : Bool) → ℕ → List Line → OpenFunction
opened_with linked opened lines = record {
  opened = opened;
  linked = linked;
  key = last_key Other lines;
  has_body = has_key Body lines;
  name = lines_under Name Other lines;
  stack = lines_under Stack Other lines;
  fixed = lines_under FixedStack Other lines;
  substitutions = lines_under DebugValueSubstitutions Other lines;
  constants = lines_under Constants Other lines;
  twice = lines_under ReturnsTwice Other lines;
  body = body_lines (lines_under Body Other lines);
}

last_key-push : (before : Key) (lines : List Line) (line : Line) → last_key before (lines ++ line ∷ []) ≡ key_behind (last_key before lines) line
last_key-push before [] line = refl
last_key-push before (first ∷ lines) line = last_key-push (key_behind before first) lines line

-- a line alone under a key, or no line
abbrev alone : Key → Key → Line → List Line
alone key under line = cond (same_key key under) (line ∷ []) []

lines_under-one : (key before : Key) (line : Line) → lines_under key before (line ∷ []) ≡ alone key (key_behind before line) line
unfolding lines_under
lines_under-one key before line = refl

lines_under-front : (key before : Key) (first line : Line) (lines : List Line) (here : Bool) →
    lines_under key (key_behind before first) (lines ++ line ∷ []) ≡ lines_under key (key_behind before first) lines ++
    alone key (key_behind (last_key (key_behind before first) lines) line) line
    → cond here (first ∷ lines_under key (key_behind before first) (lines ++ line ∷ [])) (lines_under key (key_behind before first) (lines ++ line ∷ []))
    ≡ cond here (first ∷ lines_under key (key_behind before first) lines) (lines_under key (key_behind before first) lines) ++
    alone key (key_behind (last_key (key_behind before first) lines) line) line
lines_under-front key before first line lines true same = ap (λ (ls : List Line). first ∷ ls) same
lines_under-front key before first line lines false same = same

lines_under-push : (key before : Key) (lines : List Line) (line : Line) → lines_under key before (lines ++ line ∷ []) ≡ lines_under key before lines ++
    alone key (key_behind (last_key before lines) line) line
unfolding lines_under
lines_under-push key before [] line = refl
lines_under-push key before (first ∷ lines) line = lines_under-front key before first line lines (same_key key (key_behind before first)) (lines_under-push key
    (key_behind before first) lines line)

-- ---- a line is taken

-- the lines of an open function under each key
record Parts : Type 0 where
  name : List Line
  stack : List Line
  fixed : List Line
  substitutions : List Line
  constants : List Line
  twice : List Line
  body : List Line

-- an open function from its parts
abbrev made : (linked : Bool) → ℕ → Key → Bool → Parts → OpenFunction
made linked opened key has_body p = record {
  opened = opened;
  linked = linked;
  key = key;
  has_body = has_body;
  name = p.name;
  stack = p.stack;
  fixed = p.fixed;
  substitutions = p.substitutions;
  constants = p.constants;
  twice = p.twice;
  body = p.body;
}

made-same : (linked : Bool) (opened : ℕ) (key : Key) {h h' : Bool} {p p' : Parts} → h ≡ h' → p ≡ p' →
    made linked opened key h p ≡ made linked opened key h' p'
made-same linked opened key eh ep = λ i. made linked opened key (eh i) (ep i)

or_false : (b : Bool) → b ≡ (b || false)
or_false true = refl
or_false false = refl

or_true : (b : Bool) → true ≡ (b || true)
or_true true = refl
or_true false = refl

-- nothing more
as_was : (lines : List Line) → lines ≡ lines ++ []
as_was lines = sym (append-nil lines)

-- what the lines behind `body` get
abbrev body_alone : Option Key → Key → Line → List Line
body_alone here under line = cond (same_key Body under) (cond (is_none here) (line ∷ []) []) []

-- each part with what it gets of a line under a key
abbrev grown_parts : Option Key → Key → Parts → Line → Parts
grown_parts here under p line = record {
  name = p.name ++ alone Name under line;
  stack = p.stack ++ alone Stack under line;
  fixed = p.fixed ++ alone FixedStack under line;
  substitutions = p.substitutions ++ alone DebugValueSubstitutions under line;
  constants = p.constants ++ alone Constants under line;
  twice = p.twice ++ alone ReturnsTwice under line;
  body = p.body ++ body_alone here under line;
}

abbrev grown : (linked : Bool) → ℕ → Option Key → Key → Bool → Parts → Line → OpenFunction
grown linked opened here key h p line =
    made linked opened (unwrap_or here key) (h || (option_map_or (same_key Body) here false || false)) (grown_parts here (unwrap_or here key) p line)

-- the parts where each but one is as it was
parts_same : {n s f u c t b n' s' f' u' c' t' b' : List Line} → n ≡ n' → s ≡ s' → f ≡ f' → u ≡ u' → c ≡ c' → t ≡ t' → b ≡ b' →
    ◌≡◌ {A = Parts} (record { name = n; stack = s; fixed = f; substitutions = u; constants = c; twice = t; body = b })
    (record { name = n'; stack = s'; fixed = f'; substitutions = u'; constants = c'; twice = t'; body = b' })
parts_same en es ef eu ec et eb = λ i. record {
  name = en i;
  stack = es i;
  fixed = ef i;
  substitutions = eu i;
  constants = ec i;
  twice = et i;
  body = eb i;
}

taken_under-is : (linked : Bool) (opened : ℕ) (here : Option Key) (key : Key) (h : Bool) (p : Parts) (line : Line) →
    taken_under (made linked opened key h p) here line ≡ grown linked opened here key h p line
taken_under-is linked opened (Some Name) key h p line = made-same linked opened Name (or_false h) (parts_same refl (as_was p.stack) (as_was p.fixed) (as_was
    p.substitutions) (as_was p.constants) (as_was p.twice) (as_was p.body))
taken_under-is linked opened (Some Stack) key h p line = made-same linked opened Stack (or_false h) (parts_same (as_was p.name) refl (as_was p.fixed) (as_was
    p.substitutions) (as_was p.constants) (as_was p.twice) (as_was p.body))
taken_under-is linked opened (Some FixedStack) key h p line = made-same linked opened FixedStack (or_false h) (parts_same (as_was p.name) (as_was p.stack)
    refl (as_was p.substitutions) (as_was p.constants) (as_was p.twice) (as_was p.body))
taken_under-is linked opened (Some DebugValueSubstitutions) key h p line = made-same linked opened DebugValueSubstitutions (or_false h) (parts_same (as_was
    p.name) (as_was p.stack) (as_was p.fixed) refl (as_was p.constants) (as_was p.twice) (as_was p.body))
taken_under-is linked opened (Some Constants) key h p line = made-same linked opened Constants (or_false h) (parts_same (as_was p.name) (as_was p.stack)
    (as_was p.fixed) (as_was p.substitutions) refl (as_was p.twice) (as_was p.body))
taken_under-is linked opened (Some ReturnsTwice) key h p line = made-same linked opened ReturnsTwice (or_false h) (parts_same (as_was p.name) (as_was p.stack)
    (as_was p.fixed) (as_was p.substitutions) (as_was p.constants) refl (as_was p.body))
taken_under-is linked opened (Some Body) key h p line = made-same linked opened Body (or_true h) (parts_same (as_was p.name) (as_was p.stack) (as_was p.fixed)
    (as_was p.substitutions) (as_was p.constants) (as_was p.twice) (as_was p.body))
taken_under-is linked opened (Some Other) key h p line = made-same linked opened Other (or_false h) (parts_same (as_was p.name) (as_was p.stack) (as_was
    p.fixed) (as_was p.substitutions) (as_was p.constants) (as_was p.twice) (as_was p.body))
taken_under-is linked opened None Name h p line = made-same linked opened Name (or_false h) (parts_same refl (as_was p.stack) (as_was p.fixed) (as_was
    p.substitutions) (as_was p.constants) (as_was p.twice) (as_was p.body))
taken_under-is linked opened None Stack h p line = made-same linked opened Stack (or_false h) (parts_same (as_was p.name) refl (as_was p.fixed) (as_was
    p.substitutions) (as_was p.constants) (as_was p.twice) (as_was p.body))
taken_under-is linked opened None FixedStack h p line = made-same linked opened FixedStack (or_false h) (parts_same (as_was p.name) (as_was p.stack) refl
    (as_was p.substitutions) (as_was p.constants) (as_was p.twice) (as_was p.body))
taken_under-is linked opened None DebugValueSubstitutions h p line = made-same linked opened DebugValueSubstitutions (or_false h) (parts_same (as_was p.name)
    (as_was p.stack) (as_was p.fixed) refl (as_was p.constants) (as_was p.twice) (as_was p.body))
taken_under-is linked opened None Constants h p line = made-same linked opened Constants (or_false h) (parts_same (as_was p.name) (as_was p.stack) (as_was
    p.fixed) (as_was p.substitutions) refl (as_was p.twice) (as_was p.body))
taken_under-is linked opened None ReturnsTwice h p line = made-same linked opened ReturnsTwice (or_false h) (parts_same (as_was p.name) (as_was p.stack)
    (as_was p.fixed) (as_was p.substitutions) (as_was p.constants) refl (as_was p.body))
taken_under-is linked opened None Body h p line = made-same linked opened Body (or_false h) (parts_same (as_was p.name) (as_was p.stack) (as_was p.fixed)
    (as_was p.substitutions) (as_was p.constants) (as_was p.twice) refl)
taken_under-is linked opened None Other h p line = made-same linked opened Other (or_false h) (parts_same (as_was p.name) (as_was p.stack) (as_was p.fixed)
    (as_was p.substitutions) (as_was p.constants) (as_was p.twice) (as_was p.body))

body_lines-alone : (under : Key) (line : Line) (here : Bool) → same_key Body under ≡ here →
    body_lines (cond here (line ∷ []) []) ≡ cond here (cond (is_none (heading line.text)) (line ∷ []) []) []
body_lines-alone under line true is = refl
body_lines-alone under line false is = refl

body_lines-push : (lines : List Line) (line : Line) → body_lines (lines_under Body Other (lines ++ line ∷ [])) ≡ body_lines (lines_under Body Other lines) ++
    body_alone (heading line.text) (key_behind (last_key Other lines) line) line
body_lines-push lines line =
    ap (λ (ls : List Line). body_lines ls) (lines_under-push Body Other lines line) ∙ filter-append (λ l. is_none (heading l.text)) (lines_under Body Other
    lines) (alone Body (key_behind (last_key Other lines) line) line)
    ∙ ap (λ (more : List Line). body_lines (lines_under Body Other lines) ++ more) (body_lines-alone (key_behind (last_key Other lines) line) line _ refl)

-- the parts of the lines of a function
abbrev parts_of : List Line → Parts
parts_of lines = record {
  name = lines_under Name Other lines;
  stack = lines_under Stack Other lines;
  fixed = lines_under FixedStack Other lines;
  substitutions = lines_under DebugValueSubstitutions Other lines;
  constants = lines_under Constants Other lines;
  twice = lines_under ReturnsTwice Other lines;
  body = body_lines (lines_under Body Other lines);
}

-- a line of a function is one more of its lines
pub taken-is : (linked : Bool) (opened : ℕ) (lines : List Line) (line : Line) →
    taken (opened_with linked opened lines) line ≡ opened_with linked opened (lines ++ line ∷ [])
taken-is linked opened lines line =
    let key = last_key-push Other lines line in
    let body = list_any-append (begins Body) lines (line ∷ []) in
    let under = λ (k : Key). lines_under-push k Other lines line in
    let parts = parts_same (under Name) (under Stack) (under FixedStack) (under DebugValueSubstitutions) (under Constants) (under ReturnsTwice)
    (body_lines-push lines line) in
    taken_under-is linked opened (heading line.text) (last_key Other lines) (has_key Body lines) (parts_of lines) line
    ∙ sym (λ i. made linked opened (key i) (body i) (parts i))

-- ---- which keys were met

first_line : (key before : Key) (here : Option Key) (line : Line) (lines : List Line) → same_key key before ≡ false
    → ((k : Key) → same_key key k ≡ false → (length (lines_under key k lines) == 0) ≡ not (has_key key lines))
    → (length (cond (same_key key (unwrap_or here before)) (line ∷ lines_under key (unwrap_or here before) lines) (lines_under key (unwrap_or here before)
    lines)) == 0) ≡ not (option_map_or (same_key key) here false || has_key key lines)
first_line key before None line lines other later = rw other (later before other)
first_line key before (Some k) line lines other later = by_key (same_key key k) refl
  where
    by_key : (b : Bool) → same_key key k ≡ b → (length (cond b (line ∷ lines_under key k lines) (lines_under key k lines)) == 0) ≡ not (b || has_key key lines)
    by_key true is = ne_eqb (length (line ∷ lines_under key k lines)) 0 (λ e. omega arith)
    by_key false is = later k is

-- lines stand under a key where one begins with it
length-lines_under : (key before : Key) (lines : List Line) → same_key key before ≡ false →
    (length (lines_under key before lines) == 0) ≡ not (has_key key lines)
unfolding lines_under
length-lines_under key before [] other = refl
length-lines_under key before (line ∷ lines) other = first_line key before (heading line.text) line lines other (λ k is. length-lines_under key k lines is)

not_not : (b : Bool) → not (not b) ≡ b
not_not true = refl
not_not false = refl

has-one : (key : Key) (lines : List Line) → same_key key Other ≡ false → not (length (lines_under key Other lines) == 0) ≡ has_key key lines
has-one key lines other = ap not (length-lines_under key Other lines other) ∙ not_not (has_key key lines)

-- a key that may come once was met where one of the lines begins with it
has-is : (linked : Bool) (opened : ℕ) (lines : List Line) (key : Key) → has (opened_with linked opened lines) key ≡ (comes_once linked key && has_key key lines)
has-is linked opened lines Name = has-one Name lines refl
has-is linked opened lines Stack = has-one Stack lines refl
has-is linked opened lines FixedStack = has-one FixedStack lines refl
has-is linked opened lines DebugValueSubstitutions = has-one DebugValueSubstitutions lines refl
has-is linked opened lines Constants = ap (λ (b : Bool). linked && b) (has-one Constants lines refl)
has-is linked opened lines ReturnsTwice = ap (λ (b : Bool). linked && b) (has-one ReturnsTwice lines refl)
has-is linked opened lines Body = refl
has-is linked opened lines Other = refl

repeated-is : (linked : Bool) (opened : ℕ) (lines : List Line) (here : Option Key) →
    option_map_or (λ key. has (opened_with linked opened lines) key) here false ≡ option_map_or (λ key. comes_once linked key && has_key key lines) here false
repeated-is linked opened lines (Some key) = has-is linked opened lines key
repeated-is linked opened lines None = refl

-- a line can't be taken where it is a fault
pub can_not_take-is : (linked : Bool) (opened : ℕ) (lines : List Line) (line : Line) →
    can_not_take (opened_with linked opened lines) line.text ≡ is_fault linked lines line
unfolding is_fault
can_not_take-is linked opened lines line =
    ap (λ (b : Bool). (opens_block line.text || opens_function line.text) || (b || (is_none (heading line.text) && (not (is_plain line.text) && not (has_key
    Body lines))))) (repeated-is linked opened lines (heading line.text))

-- a function can be closed where its lines are complete
pub can_close-is : (linked : Bool) (opened : ℕ) (lines : List Line) → can_close (opened_with linked opened lines) ≡ is_complete lines
can_close-is linked opened lines = ap (λ (b : Bool). b && has_key Body lines) (has-one Name lines refl)

-- a function that is closed is its document
pub closed_at-is : (linked : Bool) (opened : ℕ) (lines : List Line) (closed : ℕ) →
    closed_at (opened_with linked opened lines) closed ≡ function_document linked opened lines closed
unfolding function_document
closed_at-is linked opened lines closed = refl
