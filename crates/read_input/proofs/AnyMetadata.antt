-- What is read of lines without debug values doesn't depend on the metadata of their text.
use Rattle.std.proofs.Common.{◌≡◌, ℕ, Bool, true, false, cond, List, [], ◌∷◌, ◌++◌, Option, Some, None, Result, Ok, Err, inl, inr, ◌⊎◌, refl, sym, ap, subst}
use Rattle.std.proofs.Common.{◌∙◌}
use Rattle.read_refusal.specs.declared.first.Refusal.{Refusal}
use Rattle.read_refusal.specs.declared.kind.RefusalKind.{RefusalKind}
use Rattle.read_refusal.specs.declared.kind.RefusalKind.TheVariants as kinds
use Rattle.mir_func.specs.declared.block.Block.{Block}
use Rattle.mir_func.specs.declared.item.ItemKind.{ItemKind}
use Rattle.mir_func.specs.declared.item.ItemKind.TheVariants.{Code, Mark, Phi}
use Rattle.mir_func.specs.declared.location.Loc.{Loc}
use Rattle.mir_func.specs.declared.variable.MarkValue.{MarkValue}
use Rattle.mir_func.specs.declared.variable.VarId.{VarId}
use Rattle.read_lexer.specs.declared.line.Line.{Line}
use Rattle.read_metadata.specs.Maps.{Maps}
use Rattle.read_line.specs.declared.form.BodyLine.{BodyLine}
use Rattle.read_line.specs.declared.form.BodyLine.TheVariants.{Passed, Closed, Label, Item}
use Rattle.read_line.specs.declared.form.ItemForm.{ItemForm}
use Rattle.read_line.specs.declared.form.FormError.{FormError}
use Rattle.read_line.specs.Body.{body_line_of}
use Rattle.read_item.specs.declared.debug.MarkForm.{MarkForm}
use Rattle.read_item.specs.declared.judged.Judged.{Judged}
use Rattle.read_item.specs.declared.judged.Judged.TheVariants as judged_as
use Rattle.read_item.specs.declared.judged.JudgedItem.{JudgedItem}
use Rattle.read_item.specs.declared.opcode.DebugOpcode.{DebugOpcode}
use Rattle.read_item.specs.declared.opcode.DebugOpcode.TheVariants as debug
use Rattle.read_item.specs.declared.opcode.Opcode.{Opcode}
use Rattle.read_item.specs.declared.opcode.Opcode.TheVariants as opcodes
use Rattle.read_item.specs.Code.{refusal_by}
use Rattle.read_item.specs.Debug.{inlined_at, value_mark, reference_mark, list_mark, mark_kind, debug_rules, kind_unless, debug_of}
use Rattle.read_item.specs.Judge.{item_of, judged_by, judged}
use Rattle.read_item.specs.Opcode.{opcode_of}
use Rattle.read_declarations.specs.declared.declarations.Declarations.{Declarations}
use Rattle.read_declarations.specs.Declarations.{declarations_of}
use Rattle.read_documents.specs.declared.parts.FunctionDocument.{FunctionDocument}
use Rattle.read_body.specs.declared.body.Body.{Body}
use Rattle.read_body.specs.FirstUseOrder.{is_known, known}
use Rattle.read_body.specs.Body.{nothing_read, constant_of, object_named, label_cause, with_label, with_number, with_constant, with_object, with_item}
use Rattle.read_body.specs.Body.{with_closed, item_cause, repeats}
use Rattle.read_program.specs.declared.closing.Parsed.{Parsed}
use Rattle.read_program.specs.Closing.{Closes, ParsesParts, Parses}
use Rattle.read_program.specs.BodyLines.{unless, one_said, second_said, label_said, judged_said, item_said, line_said, behind_line, and_then, body_behind}
use Rattle.read_program.specs.BodyLines.{lines_of_body, ended, body_of}
use Rattle.read_program.specs.Ends.{with_ends}

-- ---- one line by itself

-- a line is a debug value
abbrev IsMarked : ItemKind → Type 0
IsMarked (Code i number) = ⊥
IsMarked (Mark v m) = Unit {0}
IsMarked (Phi p number) = ⊥

abbrev Marks : Result Judged RefusalKind → Type 0
Marks (Ok judged_as.Passed) = ⊥
Marks (Ok (judged_as.Item j)) = IsMarked j.kind
Marks (Ok (judged_as.Two first second)) = ⊥
Marks (Err refusal) = ⊥

-- a line is judged the same, or is a debug value
abbrev Same : (one other : Result Judged RefusalKind) → Type 0
Same one other = (other ≡ one) ⊎ Marks one

module _ (line : ItemForm) where
  unrefused : (v w : VarId) (m : MarkValue) (refusal : Option RefusalKind) →
      Same (item_of line (kind_unless refusal (Some (Mark v m)))) (item_of line (kind_unless refusal (Some (Mark w m))))
  unrefused v w m (Some refusal) = inl refl
  unrefused v w m None = inr tt

  -- a debug value at a location that is inlined here, and at one that is inlined there
  by_mark : (here there : Option ℕ) (mark : Option MarkForm) →
      Same (item_of line (kind_unless (refusal_by (debug_rules (mark_kind here mark) line)) (mark_kind here mark)))
      (item_of line (kind_unless (refusal_by (debug_rules (mark_kind there mark) line)) (mark_kind there mark)))
  by_mark here there None = inl refl
  by_mark here there (Some m) =
      unrefused (record { node = m.node; inlined_at = here; fragment = m.fragment }) (record {
        node = m.node;
        inlined_at = there;
        fragment = m.fragment;
      }) m.value (refusal_by (debug_rules (mark_kind here (Some m)) line))

  module _ (meta other : Maps) where
    by_opcode : (op : DebugOpcode) → Same (item_of line (debug_of op meta line)) (item_of line (debug_of op other line))
    unfolding debug_of
    by_opcode debug.Value = by_mark (inlined_at meta line.loc) (inlined_at other line.loc) (value_mark line.operands)
    by_opcode debug.InstrRef = by_mark (inlined_at meta line.loc) (inlined_at other line.loc) (reference_mark line.operands)
    by_opcode debug.ValueList = by_mark (inlined_at meta line.loc) (inlined_at other line.loc) (list_mark line.operands)
    by_opcode debug.Phi = inl refl

    judged_same_by : (linked : Bool) (op : Option Opcode) → Same (judged_by linked op meta line) (judged_by linked op other line)
    judged_same_by linked None = inl refl
    judged_same_by linked (Some (opcodes.Code op)) = inl refl
    judged_same_by linked (Some opcodes.Address) = inl refl
    judged_same_by linked (Some (opcodes.Debug op)) = by_opcode op
    judged_same_by linked (Some opcodes.Label) = inl refl
    judged_same_by linked (Some opcodes.Pseudo) = inl refl
    judged_same_by linked (Some opcodes.CallFrame) = inl refl

    judged_same : (linked : Bool) → Same (judged linked meta line) (judged linked other line)
    unfolding judged
    judged_same linked = judged_same_by linked (opcode_of linked line.opcode)

-- ---- the variables of a body

known_by : (v : VarId) (vs : List VarId) (there : Bool) → (vs ≡ [] → there ≡ false) → cond there vs (vs ++ v ∷ []) ≡ [] → ⊥
known_by v [] true absent e = let wrong : true ≡ false = absent refl in absurd cc
known_by v [] false absent e = absurd cc
known_by v (w ∷ vs) true absent e = absurd cc
known_by v (w ∷ vs) false absent e = absurd cc

-- a set in which a variable was inserted isn't empty
known_some : (v : VarId) (vs : List VarId) → known v vs ≡ [] → ⊥
known_some v vs = known_by v vs (is_known v vs) (λ none. ap (is_known v) none)

number_same : (body : Body) (kind : ItemKind) → (with_number body kind).variables ≡ body.variables
number_same body (Code i None) = refl
number_same body (Code i (Some k)) = refl
number_same body (Mark v m) = refl
number_same body (Phi p k) = refl

constant_same : (body : Body) (n : Option ℕ) → (with_constant body n).variables ≡ body.variables
constant_same body None = refl
constant_same body (Some n) = refl

object_same : (body : Body) (n : Option ℕ) → (with_object body n).variables ≡ body.variables
object_same body None = refl
object_same body (Some n) = refl

-- the facts of an item but its variable leave the variables
facts_same : (body : Body) (kind : ItemKind) →
    (with_object (with_constant (with_number body kind) (constant_of kind)) (object_named kind)).variables ≡ body.variables
facts_same body kind =
    object_same (with_constant (with_number body kind) (constant_of kind)) (object_named kind)
    ∙ constant_same (with_number body kind) (constant_of kind) ∙ number_same body kind

-- without variables behind an item there were none before it
item_keeps : (body : Body) (kind : ItemKind) (loc : Loc) (entries : List ℕ) → (with_item body kind loc entries).variables ≡ [] → body.variables ≡ []
item_keeps body (Code i number) loc entries none = sym (facts_same body (Code i number)) ∙ none
item_keeps body (Mark v m) loc entries none =
    absurd (known_some v (with_object (with_constant (with_number body (Mark v m)) (constant_of (Mark v m))) (object_named (Mark v m))).variables none)
item_keeps body (Phi p number) loc entries none = sym (facts_same body (Phi p number)) ∙ none

-- ---- a line behind others

-- a line was refused, or was taken and left variables
abbrev LeavesVariables : Result Body RefusalKind → Type 0
LeavesVariables (Ok body) = body.variables ≡ [] → ⊥
LeavesVariables (Err refusal) = Unit {0}

-- without variables behind what was read there were none before it
abbrev Keeps : Body → Result Body RefusalKind → Type 0
Keeps before (Ok body) = body.variables ≡ [] → before.variables ≡ []
Keeps before (Err refusal) = Unit {0}

keeps_unless : (before body : Body) → (body.variables ≡ [] → before.variables ≡ []) → (cause : Option RefusalKind) → Keeps before (unless cause body)
keeps_unless before body keeps None = keeps
keeps_unless before body keeps (Some cause) = tt

keeps_one : (body : Body) (j : JudgedItem) → Keeps body (one_said body j)
keeps_one body j = keeps_unless body (with_item body j.kind j.loc j.entries) (item_keeps body j.kind j.loc j.entries) (item_cause body j.kind j.loc j.entries)

keeps_second : (before : Body) (first : Result Body RefusalKind) (j : JudgedItem) → Keeps before first → Keeps before (second_said first j)
keeps_second before (Ok body) j keeps = by (one_said body j) (keeps_one body j) where
  by : (said : Result Body RefusalKind) → Keeps body said → Keeps before said
  by (Ok behind) back = λ none. keeps (back none)
  by (Err refusal) back = tt
keeps_second before (Err refusal) j keeps = tt

leaves_unless : (body : Body) → (body.variables ≡ [] → ⊥) → (cause : Option RefusalKind) → LeavesVariables (unless cause body)
leaves_unless body some None = some
leaves_unless body some (Some cause) = tt

keeps_closed : (body : Body) (last : Option Block) → Keeps body (Ok (with_closed body last))
keeps_closed body None = λ none. none
keeps_closed body (Some b) = λ none. none

module _ (body : Body) (number : Option ℕ) where
  leaves_mark : (kind : ItemKind) (loc : Loc) (entries : List ℕ) → IsMarked kind →
      LeavesVariables (unless (item_cause body kind loc entries) (with_item body kind loc entries))
  leaves_mark (Code i k) loc entries marked = absurd marked
  leaves_mark (Mark v m) loc entries marked =
      leaves_unless (with_item body (Mark v m) loc entries)
      (known_some v (with_object (with_constant (with_number body (Mark v m)) (constant_of (Mark v m))) (object_named (Mark v m))).variables)
      (item_cause body (Mark v m) loc entries)
  leaves_mark (Phi p k) loc entries marked = absurd marked

  leaves : (one : Result Judged RefusalKind) → Marks one → LeavesVariables (judged_said body number one)
  leaves (Ok judged_as.Passed) marked = absurd marked
  leaves (Ok (judged_as.Item j)) marked = leaves_mark j.kind j.loc j.entries marked
  leaves (Ok (judged_as.Two first second)) marked = absurd marked
  leaves (Err refusal) marked = absurd marked

  said_same : (one other : Result Judged RefusalKind) → Same one other →
      (judged_said body number other ≡ judged_said body number one) ⊎ LeavesVariables (judged_said body number one)
  said_same one other (inl same) = inl (ap (judged_said body number) same)
  said_same one other (inr marked) = inr (leaves one marked)

  said_keeps : (one : Result Judged RefusalKind) → Keeps body (judged_said body number one)
  said_keeps (Ok judged_as.Passed) = λ none. none
  said_keeps (Ok (judged_as.Item j)) = keeps_one body j
  said_keeps (Ok (judged_as.Two first second)) = by (repeats body second.kind) where
    by : (twice : Bool) → Keeps body (cond twice (Err kinds.DuplicateNumber) (second_said (one_said body first) second))
    by true = tt
    by false = keeps_second body (one_said body first) second (keeps_one body first)
  said_keeps (Err refusal) = tt

module _ (linked : Bool) (meta other : Maps) (body : Body) where
  item_same : (last : Option Block) (form : ItemForm) → (item_said linked other body last form ≡ item_said linked meta body last form)
      ⊎ LeavesVariables (item_said linked meta body last form)
  item_same None form = inl refl
  item_same (Some b) form = said_same body form.number (judged linked meta form) (judged linked other form) (judged_same form meta other linked)

  line_same : (line : Result BodyLine FormError) → (line_said linked other body line ≡ line_said linked meta body line) ⊎ LeavesVariables (line_said linked
      meta body line)
  line_same (Ok Passed) = inl refl
  line_same (Ok Closed) = inl refl
  line_same (Ok (Label n)) = inl refl
  line_same (Ok (Item form)) = item_same body.last form
  line_same (Err e) = inl refl

  label_keeps : (n : Option ℕ) → Keeps body (label_said body n)
  label_keeps None = tt
  label_keeps (Some n) = keeps_unless body (with_label body n) (λ none. none) (label_cause body n)

  item_said_keeps : (last : Option Block) (form : ItemForm) → Keeps body (item_said linked meta body last form)
  item_said_keeps None form = tt
  item_said_keeps (Some b) form = said_keeps body form.number (judged linked meta form)

  line_keeps : (line : Result BodyLine FormError) → Keeps body (line_said linked meta body line)
  line_keeps (Ok Passed) = λ none. none
  line_keeps (Ok Closed) = keeps_closed body body.last
  line_keeps (Ok (Label n)) = label_keeps n
  line_keeps (Ok (Item form)) = item_said_keeps body.last form
  line_keeps (Err e) = tt

-- ---- all lines

-- the lines were taken in the same way, and there was no variable before them
abbrev IsSame : (linked : Bool) (other : Maps) (body : Body) (lines : List Line) (read : Body) → Type 0
IsSame linked other body lines read = (body_behind linked other body lines ≡ Ok read) × (body.variables ≡ [])

module _ (linked : Bool) (meta other : Maps) (body : Body) (line : Line) (lines : List Line) (read : Body)
    (later : (b : Body) → body_behind linked meta b lines ≡ Ok read → IsSame linked other b lines read) where
  taken : (said : Result Body RefusalKind) → behind_line linked meta body line.text ≡ said →
      (behind_line linked other body line.text ≡ said) ⊎ LeavesVariables said → Keeps body said →
      and_then line.number said (λ b. body_behind linked meta b lines) ≡ Ok read → IsSame linked other body (line ∷ lines) read
  unfolding body_behind
  taken (Ok b) is (inl same) keeps whole =
      let rest = later b whole in (
        ap (λ (r : Result Body RefusalKind). and_then line.number r (λ c. body_behind linked other c lines)) same ∙ rest.0,
        keeps rest.1,
      )
  taken (Ok b) is (inr some) keeps whole = absurd (some (later b whole).1)
  taken (Err refusal) is same keeps whole = absurd cc

  line_taken : (same : (behind_line linked other body line.text ≡ behind_line linked meta body line.text) ⊎ LeavesVariables (behind_line linked meta body
      line.text)) →
      and_then line.number (behind_line linked meta body line.text) (λ b. body_behind linked meta b lines) ≡ Ok read →
      IsSame linked other body (line ∷ lines) read
  line_taken same whole = taken (behind_line linked meta body line.text) refl same (line_keeps linked meta other body (body_line_of linked line.text)) whole

body_same : (linked : Bool) (meta other : Maps) (lines : List Line) (body read : Body) → body_behind linked meta body lines ≡ Ok read → read.variables ≡ [] →
    IsSame linked other body lines read
unfolding body_behind
body_same linked meta other [] body read whole none = let same : read ≡ body = cc in (whole, ap (λ (b : Body). b.variables) (sym same) ∙ none)
body_same linked meta other (line ∷ lines) body read whole none =
    line_taken linked meta other body line lines read (λ b rest. body_same linked meta other lines b read rest none) (line_same linked meta other body
    (body_line_of linked
    line.text)) whole

-- the ends of blocks don't depend on it
ended_same : (linked : Bool) (one other : Result Body Refusal) (read : Body) → ended linked one ≡ Ok read → read.variables ≡ [] →
    ((b : Body) → one ≡ Ok b → b.variables ≡ [] → other ≡ Ok b) → ended linked other ≡ Ok read
ended_same false one other read whole none same = same read whole none
ended_same true (Ok b) other read whole none same =
    let is : with_ends b ≡ read = cc in
    ap (ended true) (same b refl (ap (λ (x : Body). x.variables) is ∙ none)) ∙ ap (λ (x : Body). Ok x) is
ended_same true (Err refusal) other read whole none same = absurd cc

-- a body without variables is read the same whatever the metadata
pub body_of-unmarked : (linked : Bool) (meta other : Maps) (lines : List Line) (read : Body) → body_of linked meta lines ≡ Ok read → read.variables ≡ [] →
    body_of linked other lines ≡ Ok read
body_of-unmarked linked meta other lines read whole none =
    ended_same linked (lines_of_body linked meta lines) (lines_of_body linked other lines) read whole none
    (λ b is empty. (body_same linked meta other lines nothing_read b is empty).0)

-- the function of a document with these declarations and this body, which close as it
pub parses_of : (meta : Maps) (doc : FunctionDocument) (declared : Declarations) (body : Body) (p : Parsed) → declarations_of doc ≡ Ok declared →
    body_of doc.linked meta doc.body ≡ Ok body → Closes doc.linked doc.closed declared body (Ok p) → Parses meta doc (Ok p)
parses_of meta doc declared body p declares reads closes =
    subst (λ (d : Result Declarations Refusal). ParsesParts doc.linked doc.closed d (body_of doc.linked meta doc.body) (Ok p)) (sym declares)
    (subst (λ (b : Result Body Refusal). ParsesParts doc.linked doc.closed (Ok declared) b (Ok p)) (sym reads) closes)
