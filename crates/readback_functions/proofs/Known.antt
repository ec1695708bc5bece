-- What is known of a body is known behind each line more.
use Rattle.std.proofs.Common.{◌≡◌, ℕ, ◌≤◌, Bool, true, false, cond, ltb, ◌||◌, List, [], ◌∷◌, ◌++◌, length, map, All, Option, Some, None}
use Rattle.std.proofs.Common.{Result, Ok, Err}
use Rattle.std.proofs.Common.{refl, sym, ap, subst, ◌∙◌, arith, append_assoc, append-nil, inl, inr}
use Rattle.std.specs.Prelude.{Contains, IfSome, option_map}
use Rattle.std.specs.List.{list_any}
use Rattle.std.proofs.lemmas.Bool.{false≢true, or_parts, ltb-false, or_left, or_right, cases_Bool, cond-true, cond-false}
use Rattle.std.proofs.lemmas.List.Concat.{flat_map-append}
use Rattle.std.proofs.lemmas.List.Elements.{All-nil, All-head, All-tail, All-push, All-cons, All-weaker, All-same, All-contains_itself}
use Rattle.std.proofs.lemmas.List.Folds.{list_any-append}
use Rattle.read_refusal.specs.declared.kind.RefusalKind.{RefusalKind}
use Rattle.read_refusal.specs.declared.kind.RefusalKind.TheVariants as kinds
use Rattle.read_metadata.specs.Maps.{Maps}
use Rattle.read_lexer.specs.declared.line.Line.{Line}
use Rattle.mir_func.specs.declared.block.Block.{Block}
use Rattle.mir_func.specs.declared.item.Item.{Item}
use Rattle.mir_func.specs.declared.item.ItemKind.{ItemKind}
use Rattle.mir_func.specs.declared.item.ItemKind.TheVariants.{Code, Mark, Phi}
use Rattle.mir_func.specs.declared.location.Loc.{Loc}
use Rattle.mir_func.specs.declared.position.Origin.TheVariants.{Kept}
use Rattle.mir_func.specs.declared.variable.VarId.{VarId}
use Rattle.mir_func.specs.Sound.{items_of, number_of}
use Rattle.mir_func.specs.Variables.{is_same}
use Rattle.read_line.specs.declared.form.BodyLine.{BodyLine}
use Rattle.read_line.specs.declared.form.BodyLine.TheVariants as lines
use Rattle.read_line.specs.declared.form.ItemForm.{ItemForm}
use Rattle.read_line.specs.declared.form.FormError.{FormError}
use Rattle.read_line.specs.Body.{body_line_of}
use Rattle.read_item.specs.declared.judged.Judged.{Judged}
use Rattle.read_item.specs.declared.judged.Judged.TheVariants as judged_as
use Rattle.read_item.specs.Judge.{judged}
use Rattle.read_body.specs.declared.body.Body.{Body}
use Rattle.read_body.specs.Body.{constant_of, object_named, nothing_read, and_last, blocks_of, label_cause, with_label, repeats, block_with}
use Rattle.read_body.specs.Body.{with_closed, with_number, with_constant, with_variable}
use Rattle.read_body.specs.Body.{with_item, exceeds, item_cause}
use Rattle.read_body.specs.Limits.{MAX_ITEMS, MAX_VARIABLES, MAX_NUMBERS, MAX_CONSTANTS}
use Rattle.read_body.specs.FirstUseOrder.{is_met, met, is_known, known}
use Rattle.read_program.specs.BodyLines.{judged_said, item_said, line_said, behind_line, and_then, body_behind}
use Rattle.read_program.proofs.Bodies.{facts_apart, numbers_keep, unless_ok}
use Rattle.read_program.proofs.Judged.{two_is_linked}
use Rattle.read_program.proofs.Lists.{met_keeps, met_has}
use Rattle.readback_items.specs.Body.{VariableIn}
use Rattle.readback_items.proofs.Facts.{Facts, item_facts, objects_behind}
use Rattle.readback_items.proofs.Room.{part_itself}
use Rattle.readback_functions.specs.Known.{names, IsOfLine, IsKnown, BodiesAreKnown}

-- ---- the items behind a label and behind an item

items_labelled : (body : Body) (n : ℕ) → items_of (blocks_of (with_label body n)) ≡ items_of (blocks_of body)
items_labelled body n =
    flat_map-append (λ (b : Block). b.items) (blocks_of body) (record { id = n; items = []; source_end = 0 } ∷ []) ∙ append-nil (items_of (blocks_of body))

-- the item that a block gets
abbrev item_in : Block → ItemKind → Loc → Item
item_in b kind loc = record { kind = kind; origin = Kept (record { block = b.id; item = b.source_end }); loc = loc }

items_more : (body : Body) (b : Block) (kind : ItemKind) (loc : Loc) (entries : List ℕ) → body.last ≡ Some b →
    items_of (blocks_of (with_item body kind loc entries)) ≡ items_of (blocks_of body) ++ item_in b kind loc ∷ []
items_more body b kind loc entries last =
    let same = facts_apart body kind in
    let at = same.last ∙ last in
    let now : blocks_of (with_item body kind loc entries) ≡ body.before ++ block_with kind loc b ∷ [] =
    (λ i. and_last (same.before i) (option_map (block_with kind loc) (at i))) in
    let was : blocks_of body ≡ body.before ++ b ∷ [] = ap (and_last body.before) last in
    ap items_of now ∙ flat_map-append (λ (x : Block). x.items) body.before (block_with kind loc b ∷ [])
    ∙ ap (λ (l : List Item). items_of body.before ++ l) (append-nil (b.items ++ item_in b kind loc ∷ []))
    ∙ sym (append_assoc (items_of body.before) b.items (item_in b kind loc ∷ []))
    ∙ ap (λ (l : List Item). l ++ item_in b kind loc ∷ []) (sym (ap items_of was ∙ flat_map-append (λ (x : Block). x.items) body.before (b ∷ [])
    ∙ ap (λ (l : List Item). items_of body.before ++ l) (append-nil b.items)))

no_cause : (a b : Bool) (x y : RefusalKind) → cond a (Some x) (cond b (Some y) None) ≡ None → b ≡ false
no_cause true b x y e = absurd cc
no_cause false true x y e = absurd cc
no_cause false false x y e = refl

or_end : (b : Bool) → b ≡ (b || false)
or_end true = refl
or_end false = refl

-- ---- constants

constant_stays : (body : Body) (c : Option ℕ) (k : ℕ) → is_met k body.constants ≡ true → is_met k (with_constant body c).constants ≡ true
constant_stays body None k is = is
constant_stays body (Some n) k is = met_keeps k n body.constants is

constant_is_met : (body : Body) (c : Option ℕ) → IfSome c (λ k. is_met k (with_constant body c).constants ≡ true)
constant_is_met body None = tt
constant_is_met body (Some n) = met_has n body.constants

if_some_weaker : (c : Option ℕ) (P Q : ℕ → Type 0) → ((k : ℕ) → P k → Q k) → IfSome c P → IfSome c Q
if_some_weaker None P Q each is = tt
if_some_weaker (Some k) P Q each is = each k is

-- ---- numbers

number_is_met : (body : Body) (kind : ItemKind) → IfSome (number_of kind) (λ k. is_met k (with_number body kind).numbers ≡ true)
number_is_met body (Code i None) = tt
number_is_met body (Code i (Some n)) = met_has n body.numbers
number_is_met body (Mark v m) = tt
number_is_met body (Phi p n) = met_has n body.numbers

-- ---- variables

known_keeps : (v w : VarId) (vs : List VarId) → is_known v vs ≡ true → is_known v (known w vs) ≡ true
known_keeps v w vs is = elim (cases_Bool (is_known w vs)) [
  | inl there ↦ ap (λ (l : List VarId). is_known v l) (cond-true (is_known w vs) vs (vs ++ w ∷ []) there) ∙ is
  | inr none ↦ ap (λ (l : List VarId). is_known v l) (cond-false (is_known w vs) vs (vs ++ w ∷ []) none)
      ∙ list_any-append (λ (x : VarId). is_same v x) vs (w ∷ []) ∙ or_left (is_known v vs) (is_known v (w ∷ [])) is
]

known_has : (v : VarId) (vs : List VarId) → is_known v (known v vs) ≡ true
known_has v vs = elim (cases_Bool (is_known v vs)) [
  | inl there ↦ ap (λ (l : List VarId). is_known v l) (cond-true (is_known v vs) vs (vs ++ v ∷ []) there) ∙ there
  | inr none ↦ ap (λ (l : List VarId). is_known v l) (cond-false (is_known v vs) vs (vs ++ v ∷ []) none)
      ∙ list_any-append (λ (x : VarId). is_same v x) vs (v ∷ []) ∙ or_right (is_known v vs) (is_known v (v ∷ [])) (or_left (is_same v v) false (part_itself v))
]

variable_stays : (body : Body) (kind other : ItemKind) → VariableIn body.variables other → VariableIn (with_variable body kind).variables other
variable_stays body kind (Code i k) is = tt
variable_stays body kind (Phi p k) is = tt
variable_stays body (Code i k) (Mark v m) is = is
variable_stays body (Phi p k) (Mark v m) is = is
variable_stays body (Mark w n) (Mark v m) is = known_keeps v w body.variables is

variable_is_known : (body : Body) (kind : ItemKind) → VariableIn (with_variable body kind).variables kind
variable_is_known body (Code i k) = tt
variable_is_known body (Mark v m) = known_has v body.variables
variable_is_known body (Phi p k) = tt

-- ---- limits

record AreFew (body : Body) : Type 0 where
  variables : length body.variables ≤ MAX_VARIABLES
  numbers : length body.numbers ≤ MAX_NUMBERS
  constants : length body.constants ≤ MAX_CONSTANTS

are_few : (body : Body) → exceeds body ≡ false → AreFew body
are_few body within =
    let v = ltb MAX_VARIABLES (length body.variables) in
    let n = ltb MAX_NUMBERS (length body.numbers) in
    let c = ltb MAX_CONSTANTS (length body.constants) in
    let one = or_parts (ltb MAX_ITEMS body.items) (v || (n || c)) within in
    let two = or_parts v (n || c) one.1 in
    let three = or_parts n c two.1 in
    record {
      variables = ltb-false MAX_VARIABLES (length body.variables) two.0;
      numbers = ltb-false MAX_NUMBERS (length body.numbers) three.0;
      constants = ltb-false MAX_CONSTANTS (length body.constants) three.1;
    }

-- ---- steps

module _ (meta : Maps) (texts : List (List ℕ)) where
  abbrev Known : Body → Type 0
  Known body = IsKnown meta texts body

  abbrev HasConstant : List ℕ → Item → Type 0
  HasConstant constants i = IfSome (constant_of i.kind) (λ k. is_met k constants ≡ true)

  abbrev HasNumber : List ℕ → Item → Type 0
  HasNumber numbers i = IfSome (number_of i.kind) (λ k. is_met k numbers ≡ true)

  abbrev HasVariable : List VarId → Item → Type 0
  HasVariable variables i = VariableIn variables i.kind

  nothing_known : Known nothing_read
  nothing_known = record {
    each = All-nil (λ i. IsOfLine meta texts i.kind);
    objects = λ n. refl;
    constants = All-nil (HasConstant []);
    few = omega arith;
    numbers = All-nil (HasNumber []);
    few_numbers = omega arith;
    variables = All-nil (HasVariable []);
    few_variables = omega arith;
  }

  label_known : (body : Body) (n : ℕ) → Known body → Known (with_label body n)
  label_known body n is =
      let same = items_labelled body n in
      record {
        each = All-same (λ i. IsOfLine meta texts i.kind) (items_of (blocks_of (with_label body n))) (items_of (blocks_of body)) same is.each;
        objects = λ m. is.objects m ∙ ap (list_any (λ (i : Item). names m i.kind)) (sym same);
        constants = All-same (HasConstant body.constants) (items_of (blocks_of (with_label body n))) (items_of (blocks_of body)) same is.constants;
        few = is.few;
        numbers = All-same (HasNumber body.numbers) (items_of (blocks_of (with_label body n))) (items_of (blocks_of body)) same is.numbers;
        few_numbers = is.few_numbers;
        variables = All-same (HasVariable body.variables) (items_of (blocks_of (with_label body n))) (items_of (blocks_of body)) same is.variables;
        few_variables = is.few_variables;
      }

  item_known : (body : Body) (b : Block) (kind : ItemKind) (loc : Loc) (entries : List ℕ) → body.last ≡ Some b → IsOfLine meta texts kind →
      item_cause body kind loc entries ≡ None → Known body → Known (with_item body kind loc entries)
  item_known body b kind loc entries last from none is =
      record {
        each = All-same (λ i. IsOfLine meta texts i.kind) (items_of (blocks_of next)) (items ++ item ∷ []) same
            (All-push (λ i. IsOfLine meta texts i.kind) items item is.each from);
        objects = λ n. ap (is_met n) facts.objects ∙ objects_behind body (object_named kind) n
            ∙ (λ i. is.objects n i || or_end (names n kind) i)
            ∙ sym (ap (list_any (λ (x : Item). names n x.kind)) same ∙ list_any-append (λ (x : Item). names n x.kind) items (item ∷ []));
        constants = All-same (HasConstant next.constants) (items_of (blocks_of next)) (items ++ item ∷ []) same
            (All-push (HasConstant next.constants) items item
            (All-weaker (HasConstant body.constants) (HasConstant next.constants)
            (λ x has. if_some_weaker (constant_of x.kind) (λ k. is_met k body.constants ≡ true) (λ k. is_met k next.constants ≡ true)
            (λ k met. ap (is_met k) facts.constants ∙ constant_stays body (constant_of kind) k met) has) items is.constants)
            (if_some_weaker (constant_of kind) (λ k. is_met k (with_constant body (constant_of kind)).constants ≡ true) (λ k. is_met k next.constants ≡ true)
            (λ k met. ap (is_met k) facts.constants ∙ met) (constant_is_met body (constant_of kind))));
        few = few.constants;
        numbers = All-same (HasNumber next.numbers) (items_of (blocks_of next)) (items ++ item ∷ []) same
            (All-push (HasNumber next.numbers) items item
            (All-weaker (HasNumber body.numbers) (HasNumber next.numbers)
            (λ x has. if_some_weaker (number_of x.kind) (λ k. is_met k body.numbers ≡ true) (λ k. is_met k next.numbers ≡ true)
            (λ k met. ap (is_met k) facts.numbers ∙ numbers_keep body kind k met) has) items is.numbers)
            (if_some_weaker (number_of kind) (λ k. is_met k (with_number body kind).numbers ≡ true) (λ k. is_met k next.numbers ≡ true)
            (λ k met. ap (is_met k) facts.numbers ∙ met) (number_is_met body kind)));
        few_numbers = few.numbers;
        variables = All-same (HasVariable next.variables) (items_of (blocks_of next)) (items ++ item ∷ []) same
            (All-push (HasVariable next.variables) items item
            (All-weaker (HasVariable body.variables) (HasVariable next.variables)
            (λ x has. subst (λ (vs : List VarId). VariableIn vs x.kind) (sym facts.variables) (variable_stays body kind x.kind has)) items is.variables)
            (subst (λ (vs : List VarId). VariableIn vs kind) (sym facts.variables) (variable_is_known body kind)));
        few_variables = few.variables;
      }
    where
      next : Body
      next = with_item body kind loc entries

      items : List Item
      items = items_of (blocks_of body)

      item : Item
      item = item_in b kind loc

      same : items_of (blocks_of next) ≡ items ++ item ∷ []
      same = items_more body b kind loc entries last

      facts : Facts body next kind (constant_of kind) (object_named kind)
      facts = item_facts body kind loc entries

      few : AreFew next
      few = are_few next (no_cause (repeats body kind) (exceeds next) kinds.DuplicateNumber kinds.TooMany none)

  -- ---- lines

  judged_known : (body next : Body) (b : Block) (text : List ℕ) (form : ItemForm) → Contains texts text → body.last ≡ Some b →
      body_line_of false text ≡ Ok (lines.Item form) → (read : Result Judged RefusalKind) → judged false meta form ≡ read →
      judged_said body form.number read ≡ Ok next →
      Known body → Known next
  judged_known body next b text form there last says (Ok judged_as.Passed) is e known = let same : body ≡ next = cc in subst Known same known
  judged_known body next b text form there last says (Ok (judged_as.Item j)) is e known =
      let read = unless_ok (item_cause body j.kind j.loc j.entries) (with_item body j.kind j.loc j.entries) next e in
      subst Known read.1 (item_known body b j.kind j.loc j.entries last (record {
        text = text;
        there = there;
        form = form;
        says = says;
        item = j;
        means = is;
        is = refl;
      }) read.0 known)
  judged_known body next b text form there last says (Ok (judged_as.Two one two)) is e known = absurd (false≢true (two_is_linked false meta form one two is))
  judged_known body next b text form there last says (Err kind) is e known = absurd cc

  item_line_known : (body next : Body) (text : List ℕ) (form : ItemForm) → Contains texts text → body_line_of false text ≡ Ok (lines.Item form) →
      (last : Option Block) → body.last ≡ last → item_said false meta body last form ≡ Ok next → Known body → Known next
  item_line_known body next text form there says None last e known = absurd cc
  item_line_known body next text form there says (Some b) last e known = judged_known body next b text form there last says (judged false meta form) refl e
      known

  closed_known : (body : Body) (last : Option Block) → Known body → Known (with_closed body last)
  closed_known body None known = known
  closed_known body (Some b) known = record {
    each = known.each;
    objects = known.objects;
    constants = known.constants;
    few = known.few;
    numbers = known.numbers;
    few_numbers = known.few_numbers;
    variables = known.variables;
    few_variables = known.few_variables;
  }

  said_known : (body next : Body) (text : List ℕ) → Contains texts text → (read : Result BodyLine FormError) → body_line_of false text ≡ read →
      line_said false meta body read ≡ Ok next → Known body → Known next
  said_known body next text there (Ok lines.Passed) says e known = let same : body ≡ next = cc in subst Known same known
  said_known body next text there (Ok lines.Closed) says e known =
      let same : with_closed body body.last ≡ next = cc in subst Known same (closed_known body body.last known)
  said_known body next text there (Ok (lines.Label None)) says e known = absurd cc
  said_known body next text there (Ok (lines.Label (Some n))) says e known =
      let read = unless_ok (label_cause body n) (with_label body n) next e in subst Known read.1 (label_known body n known)
  said_known body next text there (Ok (lines.Item form)) says e known = item_line_known body next text form there says body.last refl e known
  said_known body next text there (Err kind) says e known = absurd cc

  lines_known_from : (end body : Body) (l : Line) (ls : List Line) → Contains texts l.text → Known body → (read : Result Body RefusalKind) →
      behind_line false meta body l.text ≡ read → ((next : Body) → Known next → body_behind false meta next ls ≡ Ok end → Known end) →
      and_then l.number read (λ b. body_behind false meta b ls) ≡ Ok end → Known end
  lines_known_from end body l ls there known (Ok next) is more e = more next (said_known body next l.text there (body_line_of false l.text) refl is known) e
  lines_known_from end body l ls there known (Err kind) is more e = absurd cc

  lines_known : (end body : Body) (ls : List Line) → All (λ l. Contains texts l.text) ls → Known body → body_behind false meta body ls ≡ Ok end → Known end
  unfolding body_behind
  lines_known end body [] there known e = let same : body ≡ end = cc in subst Known same known
  lines_known end body (l ∷ ls) there known e =
      lines_known_from end body l ls (All-head (λ (x : Line). Contains texts x.text) l ls there) known (behind_line false meta body l.text) refl
      (λ next k f. lines_known end next ls (All-tail (λ (x : Line). Contains texts x.text) l ls there) k f) e

texts_there : (all : List (List ℕ)) (ls : List Line) → All (Contains all) (map (λ (l : Line). l.text) ls) → All (λ l. Contains all l.text) ls
texts_there all [] each = All-nil (λ (l : Line). Contains all l.text)
texts_there all (l ∷ ls) each = All-cons (λ (x : Line). Contains all x.text) l ls (All-head (Contains all) l.text (map (λ (x : Line). x.text) ls) each)
    (texts_there all ls (All-tail (Contains all) l.text (map (λ (x : Line). x.text) ls) each))

pub bodies_are_known : BodiesAreKnown
bodies_are_known meta ls body e =
    let texts = map (λ (l : Line). l.text) ls in
    lines_known meta texts body nothing_read ls (texts_there texts ls (All-contains_itself texts)) (nothing_known meta texts) e
