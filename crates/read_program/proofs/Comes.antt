-- Each item of a body that was read comes from a line, or is a call that does and doesn't return.
use Rattle.std.proofs.Common.{◌≡◌, ◌⊎◌, ℕ, Bool, true, false, List, [], ◌∷◌, Option, Some, None, Result}
use Rattle.std.proofs.Common.{Ok, Err, refl, sym}
use Rattle.std.proofs.Common.{ap, subst, ◌∙◌, inl, inr}
use Rattle.std.specs.Prelude.{option_map}
use Rattle.read_refusal.specs.declared.first.Refusal.{Refusal}
use Rattle.read_refusal.specs.declared.kind.RefusalKind.{RefusalKind}
use Rattle.read_metadata.specs.Maps.{Maps}
use Rattle.read_lexer.specs.declared.line.Line.{Line}
use Rattle.mir_func.specs.declared.block.Block.{Block}
use Rattle.mir_func.specs.declared.item.ItemKind.{ItemKind}
use Rattle.mir_func.specs.declared.location.Loc.{Loc}
use Rattle.read_line.specs.declared.form.BodyLine.{BodyLine}
use Rattle.read_line.specs.declared.form.BodyLine.TheVariants as lines
use Rattle.read_line.specs.declared.form.ItemForm.{ItemForm}
use Rattle.read_line.specs.declared.form.FormError.{FormError}
use Rattle.read_line.specs.Body.{body_line_of}
use Rattle.read_item.specs.declared.judged.Judged.{Judged}
use Rattle.read_item.specs.declared.judged.Judged.TheVariants as judged_as
use Rattle.read_item.specs.declared.judged.JudgedItem.{JudgedItem}
use Rattle.read_item.specs.Judge.{judged}
use Rattle.read_body.specs.declared.body.Body.{Body}
use Rattle.read_body.specs.FirstUseOrder.{is_met}
use Rattle.read_body.specs.Body.{nothing_read, label_cause, with_label, with_closed, block_with, object_named}
use Rattle.read_body.specs.Body.{with_item, item_cause}
use Rattle.read_program.specs.Ends.{kind_not_returning, with_ends}
use Rattle.read_program.specs.BodyLines.{one_said, judged_said, item_said, line_said, behind_line, and_then, body_behind, lines_of_body, ended, body_of}
use Rattle.read_program.proofs.EndedBodies.{weaker_body, body_ended}
use Rattle.read_program.proofs.Judged.{Judges}
use Rattle.read_program.proofs.Bodies.{IsReadBody, nothing_is_read, label_reads, closed_reads, item_reads, facts_apart, unless_ok}
use Rattle.read_program.proofs.Grows.{Grows, IsMetIn, grows_on, item_is_met, two_ok, one_grows, lines_grow}

-- an item that comes from a line
pub record ComesFromLine (linked : Bool) (meta : Maps) (end : Body) (kind : ItemKind) (loc : Loc) : Type 0 where
  pub text : List ℕ
  pub form : ItemForm
  pub item : JudgedItem
  pub says : body_line_of linked text ≡ Ok (lines.Item form)
  pub judged : Judges (judged linked meta form) item
  pub kind_is : item.kind ≡ kind
  pub loc_is : item.loc ≡ loc
  pub entries : (n : ℕ) → is_met n item.entries ≡ true → is_met n end.entries ≡ true
  pub object : (n : ℕ) → object_named item.kind ≡ Some n → is_met n end.objects ≡ true

module _ (linked : Bool) (meta : Maps) (end : Body) where
  abbrev Reads : Body → Type 0
  Reads body = IsReadBody (ComesFromLine linked meta end) body

  -- an item of a line
  one_reads : (body next : Body) (b : Block) (text : List ℕ) (form : ItemForm) (j : JudgedItem) → body.last ≡ Some b →
      body_line_of linked text ≡ Ok (lines.Item form) → Judges (judged linked meta form) j → one_said body j ≡ Ok next → Grows next end → Reads body →
      Reads next
  one_reads body next b text form j last says is e grown reads =
      let read = unless_ok (item_cause body j.kind j.loc j.entries) (with_item body j.kind j.loc j.entries) next e in
      let brought = subst (IsMetIn j.kind j.entries) read.1 (item_is_met body j.kind j.loc j.entries) in
      subst Reads read.1 (item_reads (ComesFromLine linked meta end) body b j.kind j.loc j.entries last (record {
        text = text;
        form = form;
        item = j;
        says = says;
        judged = is;
        kind_is = refl;
        loc_is = refl;
        entries = λ n m. grown.entries n (brought.entries n m);
        object = λ n m. grown.objects n (brought.object n m);
      }) read.0 reads)

  -- the last block behind an item
  last_behind : (body next : Body) (b : Block) (j : JudgedItem) → body.last ≡ Some b → one_said body j ≡ Ok next →
      next.last ≡ Some (block_with j.kind j.loc b)
  last_behind body next b j last e =
      let read = unless_ok (item_cause body j.kind j.loc j.entries) (with_item body j.kind j.loc j.entries) next e in
      ap (λ (x : Body). x.last) (sym read.1) ∙ ap (option_map (block_with j.kind j.loc)) ((facts_apart body j.kind).last ∙ last)

  -- an item line
  judged_reads : (body next : Body) (b : Block) (text : List ℕ) (form : ItemForm) → body.last ≡ Some b → body_line_of linked text ≡ Ok (lines.Item form) →
      (read : Result Judged RefusalKind) → judged linked meta form ≡ read → judged_said body form.number read ≡ Ok next → Grows next end → Reads body →
      Reads next
  judged_reads body next b text form last says (Ok judged_as.Passed) is e grown reads = let same : body ≡ next = cc in subst Reads same reads
  judged_reads body next b text form last says (Ok (judged_as.Item j)) is e grown reads =
      one_reads body next b text form j last says (subst (λ (r : Result Judged RefusalKind). Judges r j) (sym is) refl) e grown reads
  judged_reads body next b text form last says (Ok (judged_as.Two first second)) is e grown reads =
      let between = two_ok body next first second e in
      let mid = between.mid in
      let here = one_reads body mid b text form first last says (subst (λ (r : Result Judged RefusalKind). Judges r first) (sym is) (inl refl)) between.one
      (grows_on mid next end (one_grows mid next second between.two) grown) reads in
      one_reads mid next (block_with first.kind first.loc b) text form second (last_behind body mid b first last between.one) says
      (subst (λ (r : Result Judged RefusalKind). Judges r second) (sym is) (inr refl)) between.two grown here
  judged_reads body next b text form last says (Err kind) is e grown reads = absurd cc

  item_line_reads : (body next : Body) (text : List ℕ) (form : ItemForm) → body_line_of linked text ≡ Ok (lines.Item form) →
      (last : Option Block) → body.last ≡ last → item_said linked meta body last form ≡ Ok next → Grows next end → Reads body → Reads next
  item_line_reads body next text form says None last e grown reads = absurd cc
  item_line_reads body next text form says (Some b) last e grown reads = judged_reads body next b text form last says (judged linked meta form) refl e grown
      reads

  said_reads : (body next : Body) (text : List ℕ) (read : Result BodyLine FormError) → body_line_of linked text ≡ read →
      line_said linked meta body read ≡ Ok next →
      Grows next end → Reads body → Reads next
  said_reads body next text (Ok lines.Passed) says e grown reads = let same : body ≡ next = cc in subst Reads same reads
  said_reads body next text (Ok lines.Closed) says e grown reads =
      let same : with_closed body body.last ≡ next = cc in
      subst Reads same (closed_reads (ComesFromLine linked meta end) body body.last reads)
  said_reads body next text (Ok (lines.Label None)) says e grown reads = absurd cc
  said_reads body next text (Ok (lines.Label (Some n))) says e grown reads =
      let read = unless_ok (label_cause body n) (with_label body n) next e in
      subst Reads read.1 (label_reads (ComesFromLine linked meta end) body n read.0 reads)
  said_reads body next text (Ok (lines.Item form)) says e grown reads = item_line_reads body next text form says body.last refl e grown reads
  said_reads body next text (Err kind) says e grown reads = absurd cc

  lines_read_from : (body : Body) (l : Line) (ls : List Line) → Reads body → (read : Result Body RefusalKind) → behind_line linked meta body l.text ≡ read →
      ((next : Body) → Reads next → body_behind linked meta next ls ≡ Ok end → Reads end) →
      and_then l.number read (λ b. body_behind linked meta b ls) ≡ Ok end → Reads end
  lines_read_from body l ls reads (Ok next) is more e =
      more next (said_reads body next l.text (body_line_of linked l.text) refl is (lines_grow linked meta next ls end e) reads) e
  lines_read_from body l ls reads (Err kind) is more e = absurd cc

  lines_read : (body : Body) (ls : List Line) → Reads body → body_behind linked meta body ls ≡ Ok end → Reads end
  unfolding body_behind
  lines_read body [] reads e = let same : body ≡ end = cc in subst Reads same reads
  lines_read body (l ∷ ls) reads e = lines_read_from body l ls reads (behind_line linked meta body l.text) refl (λ next r f. lines_read next ls r f) e

-- a body as its lines read it
lines_are_read : (linked : Bool) (meta : Maps) (ls : List Line) (body : Body) → lines_of_body linked meta ls ≡ Ok body →
    IsReadBody (ComesFromLine linked meta body) body
lines_are_read linked meta ls body e = lines_read linked meta body nothing_read ls (nothing_is_read (ComesFromLine linked meta body)) e

-- a body that was read in the language that isn't linked
pub plain_body_reads : (meta : Maps) (ls : List Line) (body : Body) → body_of false meta ls ≡ Ok body → IsReadBody (ComesFromLine false meta body) body
plain_body_reads meta ls body e = lines_are_read false meta ls body e

-- ---- the ends of blocks

-- an item that comes from a line, or a call that does and doesn't return
pub record EndsFromLine (linked : Bool) (meta : Maps) (end : Body) (kind : ItemKind) (loc : Loc) : Type 0 where
  pub read : ItemKind
  pub from : ComesFromLine linked meta end read loc
  pub is : (read ≡ kind) ⊎ ((linked ≡ true) × (kind_not_returning read ≡ kind))

as_read : (linked : Bool) (meta : Maps) (end : Body) (kind : ItemKind) (loc : Loc) → ComesFromLine linked meta end kind loc →
    EndsFromLine linked meta end kind loc
as_read linked meta end kind loc from = record { read = kind; from = from; is = inl refl }

not_returning : (meta : Maps) (end : Body) (kind : ItemKind) (loc : Loc) → ComesFromLine true meta end kind loc →
    EndsFromLine true meta end (kind_not_returning kind) loc
not_returning meta end kind loc from = record { read = kind; from = from; is = inr (refl, refl) }

-- what comes from a line may stand in another body that was met as much
in_ended : (linked : Bool) (meta : Maps) (body : Body) (kind : ItemKind) (loc : Loc) → EndsFromLine linked meta body kind loc →
    EndsFromLine linked meta (with_ends body) kind loc
in_ended linked meta body kind loc is =
    let from = is.from in
    record {
      read = is.read;
      from = record {
        text = from.text;
        form = from.form;
        item = from.item;
        says = from.says;
        judged = from.judged;
        kind_is = from.kind_is;
        loc_is = from.loc_is;
        entries = from.entries;
        object = from.object;
      };
      is = is.is;
    }

ended_reads : (linked : Bool) (meta : Maps) (ls : List Line) (read : Result Body Refusal) (body : Body) → lines_of_body linked meta ls ≡ read →
    ended linked read ≡ Ok body → IsReadBody (EndsFromLine linked meta body) body
ended_reads false meta ls read body is e =
    weaker_body (ComesFromLine false meta body) (EndsFromLine false meta body) body (as_read false meta body) (lines_are_read false meta ls body (is ∙ e))
ended_reads true meta ls (Err refusal) body is e = absurd cc
ended_reads true meta ls (Ok before) body is e =
    let same : with_ends before ≡ body = cc in
    subst (λ (b : Body). IsReadBody (EndsFromLine true meta b) b) same
    (body_ended (ComesFromLine true meta before) (EndsFromLine true meta (with_ends before))
    (λ kind loc from. in_ended true meta before kind loc (as_read true meta before kind loc from))
    (λ kind loc from. in_ended true meta before (kind_not_returning kind) loc (not_returning meta before kind loc from)) before
    (lines_are_read true meta ls before is))

-- a body that was read
pub body_reads : (linked : Bool) (meta : Maps) (ls : List Line) (body : Body) → body_of linked meta ls ≡ Ok body →
    IsReadBody (EndsFromLine linked meta body) body
body_reads linked meta ls body e = ended_reads linked meta ls (lines_of_body linked meta ls) body refl e
