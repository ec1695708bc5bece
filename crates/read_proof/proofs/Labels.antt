-- The numbers of a body's blocks are within their limit.
use Rattle.std.proofs.Common.{◌≡◌, ℕ, ◌≤◌, Bool, true, false, cond, ◌&&◌, ltb, List, [], ◌∷◌, ◌++◌, All, Option, Some, None, Result, Ok, Err}
use Rattle.std.proofs.Common.{refl, sym, subst, arith}
use Rattle.std.proofs.lemmas.Bool.{ltb-true}
use Rattle.std.proofs.lemmas.List.Elements.{All-nil, All-cons, All-head, All-tail, All-push}
use Rattle.read_refusal.specs.declared.first.Refusal.{Refusal}
use Rattle.read_refusal.specs.declared.kind.RefusalKind.{RefusalKind}
use Rattle.read_metadata.specs.Maps.{Maps}
use Rattle.read_lexer.specs.declared.fault.LexError.{LexError}
use Rattle.read_lexer.specs.declared.fault.LexError.TheVariants as lex
use Rattle.read_lexer.specs.declared.line.Line.{Line}
use Rattle.read_lexer.specs.declared.parts.Token.{Token}
use Rattle.read_lexer.specs.Line.{tokens_of}
use Rattle.read_token.specs.declared.lexeme.Lexeme.{Lexeme}
use Rattle.read_token.specs.declared.lexeme.Lexeme.TheVariants as lexemes
use Rattle.read_token.specs.declared.lexeme.Word.TheVariants as words
use Rattle.read_token.specs.Number.{BEYOND}
use Rattle.read_token.specs.Sentence.{lexemes_of}
use Rattle.mir_func.specs.declared.block.Block.{Block}
use Rattle.mir_func.specs.declared.item.ItemKind.{ItemKind}
use Rattle.mir_func.specs.declared.location.Loc.{Loc}
use Rattle.mir_func.specs.Sound.{ids_of}
use Rattle.base_ids.specs.Limits.{MAX_NUMBER}
use Rattle.read_program.specs.read_line.declared.form.BodyLine.{BodyLine}
use Rattle.read_program.specs.read_line.declared.form.BodyLine.TheVariants as lines
use Rattle.read_program.specs.read_line.declared.form.ItemForm.{ItemForm}
use Rattle.read_program.specs.read_line.declared.form.FormError.{FormError}
use Rattle.read_program.specs.read_line.declared.form.FormError.TheVariants as errors
use Rattle.read_program.specs.read_line.Body.{closes_block, listing_of, is_listing, code_of, label_of, is_colon, labelled, as_item, sentence_of, line_of_tokens}
use Rattle.read_program.specs.read_line.Body.{is_volatile, volatile_read, body_line_of}
use Rattle.read_program.specs.read_line.Bracket.{behind_bracket}
use Rattle.read_program.specs.read_line.Item.{item_of}
use Rattle.read_program.specs.read_item.declared.judged.Judged.{Judged}
use Rattle.read_program.specs.read_item.declared.judged.Judged.TheVariants as judged_as
use Rattle.read_program.specs.read_item.declared.judged.JudgedItem.{JudgedItem}
use Rattle.read_program.specs.read_item.Judge.{judged}
use Rattle.read_program.specs.read_body.declared.body.Body.{Body}
use Rattle.read_program.specs.read_body.Body.{nothing_read, label_cause, with_label, with_closed, item_cause, with_item}
use Rattle.read_program.specs.read_body.FirstUseOrder.{is_met}
use Rattle.read_program.specs.Objects.{blocks_as}
use Rattle.read_program.specs.BodyLines.{unless, one_said, judged_said, item_said, line_said, behind_line, and_then, body_behind, lines_of_body, ended, body_of}
use Rattle.read_program.specs.Ends.{with_ends}
use Rattle.read_program.proofs.Bodies.{facts_apart}
use Rattle.read_program.proofs.Grows.{two_ok}
use Rattle.read_program.proofs.Renamed.{ids_as}
use Rattle.read_proof.proofs.Nodes.{Small}

-- ---- labels

-- the number of a label is within the limit
abbrev HasSmallLabel : Result BodyLine FormError → Type 0
HasSmallLabel (Ok (lines.Label (Some n))) = n ≤ MAX_NUMBER
HasSmallLabel (Ok (lines.Label None)) = Unit {0}
HasSmallLabel (Ok lines.Passed) = Unit {0}
HasSmallLabel (Ok lines.Closed) = Unit {0}
HasSmallLabel (Ok (lines.Item form)) = Unit {0}
HasSmallLabel (Err e) = Unit {0}

either : (b : Bool) (x y : Result BodyLine FormError) → HasSmallLabel x → HasSmallLabel y → HasSmallLabel (cond b x y)
either true x y p q = p
either false x y p q = q

label_small : (b : Bool) (n : ℕ) → ltb n BEYOND ≡ b → HasSmallLabel (Ok (cond b (lines.Label (Some n)) (lines.Label None)))
label_small true n is = let less = ltb-true n BEYOND is in omega (arith, less)
label_small false n is = tt

labelled_small : (n : ℕ) (rest : Option (List Lexeme)) → HasSmallLabel (labelled n rest)
labelled_small n None = tt
labelled_small n (Some rest) = either (is_colon rest) (Ok (label_of n)) (Err errors.BadLine) (label_small (ltb n BEYOND) n refl) tt

as_item_small : (item : Option ItemForm) → HasSmallLabel (as_item item)
as_item_small None = tt
as_item_small (Some item) = tt

sentence_small : (linked : Bool) (line : List ℕ) (ts : List Lexeme) → HasSmallLabel (sentence_of linked line ts)
unfolding sentence_of
sentence_small linked line [] = tt
sentence_small linked line (lexemes.Word (words.Block n) t ∷ lexemes.Colon ∷ ts) = labelled_small n (Some (lexemes.Colon ∷ ts))
sentence_small linked line (lexemes.Word (words.Block n) t ∷ lexemes.Open ∷ ts) = labelled_small n (behind_bracket 0 ts)
sentence_small linked line (t ∷ ts) = as_item_small (item_of linked line (t ∷ ts))

tokens_small : (linked : Bool) (line : List ℕ) (read : Result (List Token) LexError) → HasSmallLabel (line_of_tokens linked line read)
tokens_small linked line (Ok ts) = sentence_small linked line (lexemes_of line ts)
tokens_small linked line (Err (lex.BadByte at)) = tt
tokens_small linked line (Err (lex.UnclosedString at)) = tt
tokens_small linked line (Err lex.Memory) = tt

listing_small : (b : Bool) → HasSmallLabel (Ok (cond b lines.Closed lines.Passed))
listing_small true = tt
listing_small false = tt

volatile_small : (read : Result BodyLine FormError) → HasSmallLabel read → HasSmallLabel (volatile_read read)
volatile_small (Ok (lines.Label (Some n))) small = small
volatile_small (Ok (lines.Label None)) small = tt
volatile_small (Ok lines.Passed) small = tt
volatile_small (Ok lines.Closed) small = tt
volatile_small (Ok (lines.Item form)) small = tt
volatile_small (Err e) small = tt

line_small : (linked : Bool) (text : List ℕ) → HasSmallLabel (body_line_of linked text)
unfolding body_line_of
line_small linked text =
    let read : Result BodyLine FormError = line_of_tokens linked (code_of text) (tokens_of linked (code_of text)) in
    let small = tokens_small linked (code_of text) (tokens_of linked (code_of text)) in
    either (is_listing text) (Ok (listing_of linked text)) (cond (linked && is_volatile text) (volatile_read read) read)
    (listing_small (linked && closes_block text))
    (either (linked && is_volatile text) (volatile_read read) read (volatile_small read small) small)

-- ---- bodies

abbrev HasSmallIds : Body → Type 0
HasSmallIds body = All Small body.ids

unless_ok : (cause : Option RefusalKind) (body next : Body) → unless cause body ≡ Ok next → HasSmallIds body → HasSmallIds next
unless_ok None body next e small = let same : body ≡ next = cc in subst HasSmallIds same small
unless_ok (Some kind) body next e small = absurd cc

met_small : (b : Bool) (n : ℕ) (ns : List ℕ) → n ≤ MAX_NUMBER → All Small ns → All Small (cond b ns (ns ++ n ∷ []))
met_small true n ns is all = all
met_small false n ns is all = All-push Small ns n all is

with_item_small : (body : Body) (kind : ItemKind) (loc : Loc) (entries : List ℕ) → HasSmallIds body → HasSmallIds (with_item body kind loc entries)
with_item_small body kind loc entries small = subst (λ (ns : List ℕ). All Small ns) (sym (facts_apart body kind).ids) small

one_small : (body next : Body) (j : JudgedItem) → one_said body j ≡ Ok next → HasSmallIds body → HasSmallIds next
one_small body next j e small =
    unless_ok (item_cause body j.kind j.loc j.entries) (with_item body j.kind j.loc j.entries) next e (with_item_small body j.kind j.loc j.entries small)

judged_small : (body next : Body) (number : Option ℕ) (read : Result Judged RefusalKind) → judged_said body number read ≡ Ok next → HasSmallIds body →
    HasSmallIds next
judged_small body next number (Ok judged_as.Passed) e small = let same : body ≡ next = cc in subst HasSmallIds same small
judged_small body next number (Ok (judged_as.Item j)) e small = one_small body next j e small
judged_small body next number (Ok (judged_as.Two first second)) e small =
    let between = two_ok body next first second e in
    one_small between.mid next second between.two (one_small body between.mid first between.one small)
judged_small body next number (Err kind) e small = absurd cc

item_small : (linked : Bool) (meta : Maps) (body next : Body) (form : ItemForm) (last : Option Block) → item_said linked meta body last form ≡ Ok next →
    HasSmallIds body →
    HasSmallIds next
item_small linked meta body next form None e small = absurd cc
item_small linked meta body next form (Some b) e small = judged_small body next form.number (judged linked meta form) e small

closed_small : (body : Body) (last : Option Block) → HasSmallIds body → HasSmallIds (with_closed body last)
closed_small body None small = small
closed_small body (Some b) small = small

said_small : (linked : Bool) (meta : Maps) (body next : Body) (read : Result BodyLine FormError) → HasSmallLabel read →
    line_said linked meta body read ≡ Ok next → HasSmallIds body →
    HasSmallIds next
said_small linked meta body next (Ok lines.Passed) label e small = let same : body ≡ next = cc in subst HasSmallIds same small
said_small linked meta body next (Ok lines.Closed) label e small =
    let same : with_closed body body.last ≡ next = cc in subst HasSmallIds same (closed_small body body.last small)
said_small linked meta body next (Ok (lines.Label None)) label e small = absurd cc
said_small linked meta body next (Ok (lines.Label (Some n))) label e small =
    unless_ok (label_cause body n) (with_label body n) next e (met_small (is_met n body.ids) n body.ids label small)
said_small linked meta body next (Ok (lines.Item form)) label e small = item_small linked meta body next form body.last e small
said_small linked meta body next (Err kind) label e small = absurd cc

lines_small_from : (linked : Bool) (meta : Maps) (body : Body) (l : Line) (ls : List Line) (end : Body) (read : Result Body RefusalKind) →
    behind_line linked meta body l.text ≡ read →
    ((next : Body) → HasSmallIds next → body_behind linked meta next ls ≡ Ok end → HasSmallIds end) → and_then l.number read (λ b. body_behind linked meta b
    ls) ≡ Ok end →
    HasSmallIds body → HasSmallIds end
lines_small_from linked meta body l ls end (Ok next) is more e small =
    more next (said_small linked meta body next (body_line_of linked l.text) (line_small linked l.text) is small) e
lines_small_from linked meta body l ls end (Err kind) is more e small = absurd cc

lines_small : (linked : Bool) (meta : Maps) (body : Body) (ls : List Line) (end : Body) → HasSmallIds body → body_behind linked meta body ls ≡ Ok end →
    HasSmallIds end
unfolding body_behind
lines_small linked meta body [] end small e = let same : body ≡ end = cc in subst HasSmallIds same small
lines_small linked meta body (l ∷ ls) end small e =
    lines_small_from linked meta body l ls end (behind_line linked meta body l.text) refl (λ next s f. lines_small linked meta next ls end s f) e small

-- the ends of its blocks leave them
ended_small : (linked : Bool) (read : Result Body Refusal) (body : Body) → ended linked read ≡ Ok body → ((b : Body) → read ≡ Ok b → HasSmallIds b) →
    HasSmallIds body
ended_small false read body e small = small body e
ended_small true (Ok b) body e small = let same : with_ends b ≡ body = cc in subst HasSmallIds same (small b refl)
ended_small true (Err r) body e small = absurd cc

-- the numbers of the blocks of a body that is read
pub ids_small : (linked : Bool) (meta : Maps) (ls : List Line) (body : Body) → body_of linked meta ls ≡ Ok body → All Small body.ids
ids_small linked meta ls body e =
    ended_small linked (lines_of_body linked meta ls) body e (λ b read. lines_small linked meta nothing_read ls b (All-nil Small) read)

numbers_small : (bs : List Block) → All Small (ids_of bs) → All (λ b. b.id ≤ MAX_NUMBER) bs
numbers_small [] all = All-nil (λ (b : Block). b.id ≤ MAX_NUMBER)
numbers_small (b ∷ bs) all =
    All-cons (λ (x : Block). x.id ≤ MAX_NUMBER) b bs (All-head Small b.id (ids_of bs) all) (numbers_small bs (All-tail Small b.id (ids_of bs) all))

-- they stay where stack entries are read as objects
pub blocks_small : (ids : List ℕ) (bs : List Block) → All Small (ids_of bs) → All (λ b. b.id ≤ MAX_NUMBER) (blocks_as ids bs)
blocks_small ids bs all = numbers_small (blocks_as ids bs) (subst (λ (ns : List ℕ). All Small ns) (sym (ids_as ids bs)) all)
