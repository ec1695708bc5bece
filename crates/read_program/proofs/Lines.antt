-- The lines of a body are read one after the other.
use Rattle.std.proofs.Common.{Bool, cond, ◌≡◌, ℕ, ◌+◌, ◌<◌, ◌≤◌, false, List, ◌∷◌, length, get_or, drop, Option, Some}
use Rattle.std.proofs.Common.{None, Result, Ok, Err, refl, sym, subst, ap, ◌∙◌, rules}
use Rattle.std.specs.Prelude.{IfOk, IsNone, is_none}
use Rattle.std.specs.declared.alloc.AllocError.{AllocError}
use Rattle.std.proofs.lemmas.List.{drop_more, drop_all}
use Rattle.read_refusal.specs.declared.kind.RefusalKind.{RefusalKind}
use Rattle.read_refusal.specs.declared.kind.RefusalKind.TheVariants as kinds
use Rattle.read_metadata.specs.Maps.{Maps}
use Rattle.read_lexer.specs.declared.line.Line.{Line}
use Rattle.mir_func.specs.declared.block.Block.{Block}
use Rattle.read_line.specs.declared.form.ItemForm.{ItemForm}
use Rattle.read_item.specs.declared.judged.Judged.TheVariants as judged_as
use Rattle.read_item.specs.declared.judged.JudgedItem.{JudgedItem}
use Rattle.read_item.specs.Judge.{judged}
use Rattle.read_body.specs.declared.body.Body.{Body}
use Rattle.read_body.specs.Body.{repeats, item_cause, with_item}
use Rattle.read_program.specs.BodyLines.{unless, one_said, second_said, two_said, judged_said, item_said, behind_line, and_then, body_behind}
use Rattle.read_program.specs.BodyLines.{lines_of_body, Reads}

in_block : (linked : Bool) (meta : Maps) (body : Body) (form : ItemForm) (last : Option Block) → is_none last ≡ false →
    item_said linked meta body last form ≡ judged_said body form.number (judged linked meta form)
in_block linked meta body form None e = absurd cc
in_block linked meta body form (Some b) e = refl

-- an item that was judged by itself
pub said_one : (body new : Body) (j : JudgedItem) (entries : List ℕ) (result : Result (Option RefusalKind) AllocError) → entries ≡ j.entries
    → IfOk result (λ cause. cause ≡ item_cause body j.kind j.loc entries)
    → IfOk result (λ cause. IsNone cause → new ≡ with_item body j.kind j.loc entries) → Reads result new (one_said body j)
said_one body new j entries (Err e) named cause added = tt
said_one body new j entries (Ok None) named cause added =
    ap (λ (es : List ℕ). unless (item_cause body j.kind j.loc es) (with_item body j.kind j.loc es)) (sym named)
    ∙ ap (λ (c : Option RefusalKind). unless c (with_item body j.kind j.loc entries)) (sym cause)
    ∙ ap (λ (b : Body). Ok b) (sym (added (search rules)))
said_one body new j entries (Ok (Some k)) named cause added =
    ap (λ (es : List ℕ). unless (item_cause body j.kind j.loc es) (with_item body j.kind j.loc es)) (sym named)
    ∙ ap (λ (c : Option RefusalKind). unless c (with_item body j.kind j.loc entries)) (sym cause)

-- the only item of a line
pub said_item : (linked : Bool) (meta : Maps) (body new : Body) (form : ItemForm) (j : JudgedItem) (result : Result (Option RefusalKind) AllocError) →
    is_none body.last ≡ false → judged linked meta form ≡ Ok (judged_as.Item j) → Reads result new (one_said body j) →
    Reads result new (item_said linked meta body body.last form)
said_item linked meta body new form j result there is said =
    subst (Reads result new) (sym (in_block linked meta body form body.last there ∙ ap (judged_said body form.number) is)) said

-- the second of two items, where the first is read
pub said_second : (body mid new : Body) (first second : JudgedItem) (result : Result (Option RefusalKind) AllocError) → repeats body second.kind ≡ false →
    one_said body first ≡ Ok mid → Reads result new (one_said mid second) → Reads result new (two_said body first second)
said_second body mid new first second result apart one said =
    subst (Reads result new) (sym (
    ap (λ (b : Bool). cond b (Err kinds.DuplicateNumber) (second_said (one_said body first) second)) apart
    ∙ ap (λ (r : Result Body RefusalKind). second_said r second) one
    )) said

-- the first of two items, where it is refused
pub said_first : (body new : Body) (first second : JudgedItem) (kind : RefusalKind) → repeats body second.kind ≡ false → one_said body first ≡ Err kind →
    Reads (Ok (Some kind)) new (two_said body first second)
said_first body new first second kind apart one =
    ap (λ (b : Bool). cond b (Err kinds.DuplicateNumber) (second_said (one_said body first) second)) apart
    ∙ ap (λ (r : Result Body RefusalKind). second_said r second) one

-- two items of a line
pub said_two : (linked : Bool) (meta : Maps) (body new : Body) (form : ItemForm) (first second : JudgedItem) (result : Result (Option RefusalKind) AllocError) →
    is_none body.last ≡ false → judged linked meta form ≡ Ok (judged_as.Two first second) → Reads result new (two_said body first second) →
    Reads result new (item_said linked meta body body.last form)
said_two linked meta body new form first second result there is said =
    subst (Reads result new) (sym (in_block linked meta body form body.last there ∙ ap (judged_said body form.number) is)) said

module _ (linked : Bool) (meta : Maps) (lines : List Line) (i : ℕ) (here : Line) (body : Body) where
  at_line : i < length lines → here ≡ get_or lines i here → body_behind linked meta body (drop i lines) ≡ lines_of_body linked meta lines
      → and_then here.number (behind_line linked meta body here.text) (λ b. body_behind linked meta b (drop (i + 1) lines)) ≡ lines_of_body linked meta lines
  unfolding body_behind
  at_line lt is read =
      let parts : drop i lines ≡ here ∷ drop (i + 1) lines = drop_more lines i here lt ∙ ap (λ (x : Line). x ∷ drop (i + 1) lines) (sym is) in
      ap (body_behind linked meta body) (sym parts) ∙ read

  -- a line that is refused
  pub stopped : (kind : RefusalKind) → i < length lines → here ≡ get_or lines i here →
      body_behind linked meta body (drop i lines) ≡ lines_of_body linked meta lines → behind_line linked meta body here.text ≡ Err kind →
      Err (record { line = here.number; kind = kind }) ≡ lines_of_body linked meta lines
  stopped kind lt is read said =
      ap (λ (r : Result Body RefusalKind). and_then here.number r (λ b. body_behind linked meta b (drop (i + 1) lines))) (sym said) ∙ at_line lt is read

  -- a line that is read
  pub goes_on : (next : Body) → i < length lines → here ≡ get_or lines i here → body_behind linked meta body (drop i lines) ≡ lines_of_body linked meta lines →
      behind_line linked meta body here.text ≡ Ok next → body_behind linked meta next (drop (i + 1) lines) ≡ lines_of_body linked meta lines
  goes_on next lt is read said =
      ap (λ (r : Result Body RefusalKind). and_then here.number r (λ b. body_behind linked meta b (drop (i + 1) lines))) (sym said) ∙ at_line lt is read

  -- no line is left
  pub all_read : length lines ≤ i → body_behind linked meta body (drop i lines) ≡ lines_of_body linked meta lines → Ok body ≡ lines_of_body linked meta lines
  unfolding body_behind
  all_read all read = ap (body_behind linked meta body) (sym (drop_all i lines all)) ∙ read
