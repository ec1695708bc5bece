-- What is met in a body stays met behind each of its lines.
use Rattle.std.proofs.Common.{◌≡◌, ℕ, Bool, true, false, cond, eqb, List, [], ◌∷◌, Option, Some, None, Result}
use Rattle.std.proofs.Common.{Ok, Err, refl, sym}
use Rattle.std.proofs.Common.{ap, subst, ◌∙◌}
use Rattle.std.proofs.lemmas.Bool.{or_left, or_right}
use Rattle.std.proofs.lemmas.List.Folds.{list_any-append}
use Rattle.read_refusal.specs.declared.kind.RefusalKind.{RefusalKind}
use Rattle.read_refusal.specs.declared.kind.RefusalKind.TheVariants as kinds
use Rattle.read_metadata.specs.Maps.{Maps}
use Rattle.read_lexer.specs.declared.line.Line.{Line}
use Rattle.mir_func.specs.declared.block.Block.{Block}
use Rattle.mir_func.specs.declared.item.Item.{Item}
use Rattle.mir_func.specs.declared.item.ItemKind.{ItemKind}
use Rattle.mir_func.specs.declared.item.ItemKind.TheVariants.{Code, Mark, Phi}
use Rattle.mir_func.specs.declared.location.Loc.{Loc}
use Rattle.read_line.specs.declared.form.BodyLine.{BodyLine}
use Rattle.read_line.specs.declared.form.BodyLine.TheVariants as lines
use Rattle.read_line.specs.declared.form.ItemForm.{ItemForm}
use Rattle.read_line.specs.declared.form.FormError.{FormError}
use Rattle.read_line.specs.Body.{body_line_of}
use Rattle.read_item.specs.declared.judged.Judged.{Judged}
use Rattle.read_item.specs.declared.judged.Judged.TheVariants as judged_as
use Rattle.read_item.specs.declared.judged.JudgedItem.{JudgedItem}
use Rattle.read_item.specs.Judge.{judged}
use Rattle.read_body.specs.declared.body.Body.{Body}
use Rattle.read_body.specs.FirstUseOrder.{is_met, met}
use Rattle.read_body.specs.Body.{label_cause, with_label, with_closed, repeats, constant_of, object_named}
use Rattle.read_body.specs.Body.{with_number, with_constant}
use Rattle.read_body.specs.Body.{with_object, with_variable, with_facts, with_item, item_cause}
use Rattle.read_program.specs.BodyLines.{one_said, second_said, two_said, judged_said, item_said, line_said, behind_line, and_then, body_behind}
use Rattle.read_program.proofs.Lists.{met_keeps, met_has}
use Rattle.read_program.proofs.Bodies.{facts_apart, unless_ok}

-- what is met in a body stays met
pub record Grows (a b : Body) : Type 0 where
  pub entries : (n : ℕ) → is_met n a.entries ≡ true → is_met n b.entries ≡ true
  pub objects : (n : ℕ) → is_met n a.objects ≡ true → is_met n b.objects ≡ true

grows_not : (a b : Body) → a.entries ≡ b.entries → a.objects ≡ b.objects → Grows a b
grows_not a b entries objects = record { entries = λ n e. ap (is_met n) (sym entries) ∙ e; objects = λ n e. ap (is_met n) (sym objects) ∙ e }

pub grows_on : (a b c : Body) → Grows a b → Grows b c → Grows a c
grows_on a b c g h = record { entries = λ n e. h.entries n (g.entries n e); objects = λ n e. h.objects n (g.objects n e) }

same_objects_number : (body : Body) (kind : ItemKind) → (with_number body kind).objects ≡ body.objects
same_objects_number body (Code i None) = refl
same_objects_number body (Code i (Some k)) = refl
same_objects_number body (Mark v m) = refl
same_objects_number body (Phi p k) = refl

same_objects_constant : (body : Body) (n : Option ℕ) → (with_constant body n).objects ≡ body.objects
same_objects_constant body None = refl
same_objects_constant body (Some n) = refl

same_objects_variable : (body : Body) (kind : ItemKind) → (with_variable body kind).objects ≡ body.objects
same_objects_variable body (Code i k) = refl
same_objects_variable body (Mark v m) = refl
same_objects_variable body (Phi p k) = refl

object_grows : (body : Body) (o : Option ℕ) (n : ℕ) → is_met n body.objects ≡ true → is_met n (with_object body o).objects ≡ true
object_grows body None n is = is
object_grows body (Some m) n is = met_keeps n m body.objects is

object_is_met : (body : Body) (o : Option ℕ) (n : ℕ) → o ≡ Some n → is_met n (with_object body o).objects ≡ true
object_is_met body None n e = absurd cc
object_is_met body (Some m) n e = let same : m ≡ n = cc in subst (λ (x : ℕ). is_met n (met x body.objects) ≡ true) (sym same) (met_has n body.objects)

-- what an item brings
pub record IsMetIn (kind : ItemKind) (named : List ℕ) (body : Body) : Type 0 where
  pub entries : (n : ℕ) → is_met n named ≡ true → is_met n body.entries ≡ true
  pub object : (n : ℕ) → object_named kind ≡ Some n → is_met n body.objects ≡ true

item_objects : (body : Body) (kind : ItemKind) (loc : Loc) (entries : List ℕ) (n : ℕ) →
    is_met n (with_object (with_constant (with_number body kind) (constant_of kind)) (object_named kind)).objects ≡ true →
    is_met n (with_item body kind loc entries).objects ≡ true
item_objects body kind loc entries n is =
    ap (is_met n) (same_objects_variable (with_object (with_constant (with_number body kind) (constant_of kind)) (object_named kind)) kind) ∙ is

item_grows : (body : Body) (kind : ItemKind) (loc : Loc) (entries : List ℕ) → Grows body (with_item body kind loc entries)
item_grows body kind loc entries = record {
  entries = λ n e. list_any-append (λ (m : ℕ). eqb n m) (with_facts body kind).entries entries
      ∙ or_left (is_met n (with_facts body kind).entries) (is_met n entries) (ap (is_met n) (facts_apart body kind).entries ∙ e);
  objects = λ n e. item_objects body kind loc entries n (object_grows (with_constant (with_number body kind) (constant_of kind)) (object_named kind) n
      (ap (is_met n) (same_objects_constant (with_number body kind) (constant_of kind) ∙ same_objects_number body kind) ∙ e));
}

pub item_is_met : (body : Body) (kind : ItemKind) (loc : Loc) (entries : List ℕ) → IsMetIn kind entries (with_item body kind loc entries)
item_is_met body kind loc entries = record {
  entries = λ n e. list_any-append (λ (m : ℕ). eqb n m) (with_facts body kind).entries entries
      ∙ or_right (is_met n (with_facts body kind).entries) (is_met n entries) e;
  object = λ n e. item_objects body kind loc entries n (object_is_met (with_constant (with_number body kind) (constant_of kind)) (object_named kind) n e);
}

-- two items of a line: the body between them
pub record BetweenTwo (body next : Body) (first second : JudgedItem) : Type 0 where
  pub mid : Body
  pub one : one_said body first ≡ Ok mid
  pub two : one_said mid second ≡ Ok next

second_ok : (body next : Body) (first second : JudgedItem) (read : Result Body RefusalKind) → one_said body first ≡ read → second_said read second ≡ Ok next →
    BetweenTwo body next first second
second_ok body next first second (Ok mid) is e = record { mid = mid; one = is; two = e }
second_ok body next first second (Err cause) is e = absurd cc

pub two_ok : (body next : Body) (first second : JudgedItem) → two_said body first second ≡ Ok next → BetweenTwo body next first second
two_ok body next first second e = by (repeats body second.kind) e where
  by : (b : Bool) → cond b (Err kinds.DuplicateNumber) (second_said (one_said body first) second) ≡ Ok next → BetweenTwo body next first second
  by true e = absurd cc
  by false e = second_ok body next first second (one_said body first) refl e

pub one_grows : (body next : Body) (j : JudgedItem) → one_said body j ≡ Ok next → Grows body next
one_grows body next j e =
    subst (Grows body) (unless_ok (item_cause body j.kind j.loc j.entries) (with_item body j.kind j.loc j.entries) next e).1
    (item_grows body j.kind j.loc j.entries)

judged_grows : (body next : Body) (number : Option ℕ) (read : Result Judged RefusalKind) → judged_said body number read ≡ Ok next → Grows body next
judged_grows body next number (Ok judged_as.Passed) e = let same : body ≡ next = cc in subst (Grows body) same (grows_not body body refl refl)
judged_grows body next number (Ok (judged_as.Item j)) e = one_grows body next j e
judged_grows body next number (Ok (judged_as.Two first second)) e =
    let between = two_ok body next first second e in
    grows_on body between.mid next (one_grows body between.mid first between.one) (one_grows between.mid next second between.two)
judged_grows body next number (Err kind) e = absurd cc

item_line_grows : (linked : Bool) (meta : Maps) (body next : Body) (form : ItemForm) (last : Option Block) →
    item_said linked meta body last form ≡ Ok next → Grows body next
item_line_grows linked meta body next form None e = absurd cc
item_line_grows linked meta body next form (Some b) e = judged_grows body next form.number (judged linked meta form) e

closed_grows : (body : Body) (last : Option Block) → Grows body (with_closed body last)
closed_grows body None = grows_not body body refl refl
closed_grows body (Some b) = grows_not body (with_closed body (Some b)) refl refl

said_grows : (linked : Bool) (meta : Maps) (body next : Body) (read : Result BodyLine FormError) → line_said linked meta body read ≡ Ok next → Grows body next
said_grows linked meta body next (Ok lines.Passed) e = let same : body ≡ next = cc in subst (Grows body) same (grows_not body body refl refl)
said_grows linked meta body next (Ok lines.Closed) e =
    let same : with_closed body body.last ≡ next = cc in subst (Grows body) same (closed_grows body body.last)
said_grows linked meta body next (Ok (lines.Label None)) e = absurd cc
said_grows linked meta body next (Ok (lines.Label (Some n))) e =
    subst (Grows body) (unless_ok (label_cause body n) (with_label body n) next e).1 (grows_not body (with_label body n) refl refl)
said_grows linked meta body next (Ok (lines.Item form)) e = item_line_grows linked meta body next form body.last e
said_grows linked meta body next (Err kind) e = absurd cc

lines_grow_from : (linked : Bool) (meta : Maps) (body : Body) (l : Line) (ls : List Line) (end : Body) (read : Result Body RefusalKind) →
    behind_line linked meta body l.text ≡ read →
    ((next : Body) → body_behind linked meta next ls ≡ Ok end → Grows next end) → and_then l.number read (λ b. body_behind linked meta b ls) ≡ Ok end →
    Grows body end
lines_grow_from linked meta body l ls end (Ok next) is more e = grows_on body next end (said_grows linked meta body next (body_line_of linked l.text) is)
    (more next e)
lines_grow_from linked meta body l ls end (Err kind) is more e = absurd cc

pub lines_grow : (linked : Bool) (meta : Maps) (body : Body) (ls : List Line) (end : Body) → body_behind linked meta body ls ≡ Ok end → Grows body end
unfolding body_behind
lines_grow linked meta body [] end e = let same : body ≡ end = cc in subst (Grows body) same (grows_not body body refl refl)
lines_grow linked meta body (l ∷ ls) end e = lines_grow_from linked meta body l ls end (behind_line linked meta body l.text) refl (λ next f. lines_grow linked
    meta next ls end f) e
