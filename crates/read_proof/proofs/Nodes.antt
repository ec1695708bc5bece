-- What the metadata of lines keeps: a location is inlined at a node whose number is within the limit.
use Rattle.std.proofs.Common.{◌≡◌, ℕ, ◌≤◌, Bool, true, false, cond, ◌&&◌, eqb, leb, List, [], ◌∷◌, All, Option, Some, None, Result, Ok, Err}
use Rattle.std.proofs.Common.{refl, sym, subst, arith}
use Rattle.std.specs.Prelude.{IfSome, codes}
use Rattle.std.specs.Str.{bytes_eq}
use Rattle.std.specs.Ordering.{nat_cmp, is_eq}
use Rattle.std.specs.Cmp.{nat_cmp_total}
use Rattle.std.specs.FinMap.{get, find, get-from_entries}
use Rattle.std.proofs.lemmas.Bool.{leb-true}
use Rattle.std.proofs.lemmas.List.Elements.{All-nil, All-cons, All-head, All-tail}
use Rattle.read_lexer.specs.declared.fault.LexError.{LexError}
use Rattle.read_lexer.specs.declared.line.Line.{Line}
use Rattle.read_lexer.specs.declared.parts.Token.{Token}
use Rattle.read_lexer.specs.Line.{tokens_of}
use Rattle.read_metadata.specs.declared.field.Field.{Field}
use Rattle.read_metadata.specs.declared.node.Node.{Node}
use Rattle.read_metadata.specs.declared.node.Node.TheVariants as nodes
use Rattle.read_metadata.specs.Field.{fields_of, only_value, read_as, there, as_node, number_at, node_at, text_at, word_at}
use Rattle.read_metadata.specs.Kind.{is_block, encoding_code, size_in_bytes, variable_with, location_with, file_with, base_type_with, and_read}
use Rattle.read_metadata.specs.Kind.{subprogram_with, block_with, variable_of, location_of, file_of, base_type_of, subprogram_of, block_of, node_of_kind}
use Rattle.read_metadata.specs.Line.{behind_spaces, behind_distinct, node_with, described, numbered, assigned, node_of_tokens, node_of_line}
use Rattle.read_metadata.specs.Metadata.{nodes_of, metadata_of}
use Rattle.read_metadata.specs.Number.{value_behind, spelled, node_number, zero_alone, unsigned_of, integer_of}
use Rattle.read_metadata.specs.Token.{is_byte, is_node, is_kind, text_of}
use Rattle.base_ids.specs.Limits.{MAX_NUMBER}

abbrev pub Small : ℕ → Type 0
Small n = n ≤ MAX_NUMBER

-- one of two
pub one_of : {A : Type 0} (P : A → Type 0) (b : Bool) (x y : Option A) → IfSome x P → IfSome y P → IfSome (cond b x y) P
one_of P true x y p q = p
one_of P false x y p q = q

-- ---- numbers

within_small : (b : Bool) (n : ℕ) → leb n MAX_NUMBER ≡ b → IfSome (cond b (Some n) None) Small
within_small true n is = leb-true n MAX_NUMBER is
within_small false n is = tt

pub spelled_small : (base : ℕ) (digits : List ℕ) → IfSome (spelled base digits) Small
unfolding spelled
spelled_small base digits = within_small (leb (value_behind base 0 digits) MAX_NUMBER) (value_behind base 0 digits) refl

zero_small : (o : Option ℕ) → IfSome (zero_alone o) Small
zero_small None = tt
zero_small (Some n) = one_of Small (eqb n 0) (Some 0) None (omega arith) tt

unsigned_small : (a : ℕ) (bs : List ℕ) → IfSome (unsigned_of a bs) Small
unsigned_small a [] = spelled_small 10 (a ∷ [])
unsigned_small a (b ∷ bs) =
    one_of Small (eqb a 48 && eqb b 120) (spelled 16 bs) (spelled 10 (a ∷ b ∷ bs)) (spelled_small 16 bs) (spelled_small 10 (a ∷ b ∷ bs))

-- the number of an integer's text
pub integer_small : (text : List ℕ) → IfSome (integer_of text) Small
integer_small [] = spelled_small 10 []
integer_small (a ∷ bs) =
    one_of Small (eqb a 45) (zero_alone (spelled 10 bs)) (unsigned_of a bs) (zero_small (spelled 10 bs)) (unsigned_small a bs)

node_number_small : (text : List ℕ) → IfSome (node_number text) Small
node_number_small [] = tt
node_number_small (b ∷ digits) = spelled_small 10 digits

-- ---- nodes

-- a number that may be missing is within the limit
abbrev MaySmall : Option ℕ → Type 0
MaySmall n = IfSome n Small

-- a location is inlined at a node within the limit
abbrev pub IsLimited : Node → Type 0
IsLimited (nodes.Location l) = MaySmall l.inlined_at
IsLimited (nodes.Variable v) = Unit {0}
IsLimited (nodes.File f) = Unit {0}
IsLimited (nodes.BaseType t) = Unit {0}
IsLimited (nodes.Subprogram s) = Unit {0}
IsLimited (nodes.Block b) = Unit {0}

there_small : (n : Option ℕ) → IfSome n Small → IfSome (there n) MaySmall
there_small None small = tt
there_small (Some n) small = small

value_small : (line : List ℕ) (value : Option (Option Token)) → IfSome (read_as None (as_node line) value) MaySmall
value_small line None = tt
value_small line (Some None) = tt
value_small line (Some (Some t)) =
    one_of MaySmall (is_node t) (there (node_number (text_of line t))) None (there_small (node_number (text_of line t)) (node_number_small (text_of line t))) tt

location_limited : (line column scope inlined_at : Option (Option ℕ)) → IfSome inlined_at MaySmall →
    IfSome (location_with line column scope inlined_at) IsLimited
location_limited (Some (Some line)) (Some column) (Some scope) (Some inlined_at) small = small
location_limited (Some (Some line)) (Some column) (Some scope) None small = tt
location_limited (Some (Some line)) (Some column) None inlined_at small = tt
location_limited (Some (Some line)) None scope inlined_at small = tt
location_limited (Some None) column scope inlined_at small = tt
location_limited None column scope inlined_at small = tt

variable_limited : (name : Option (List ℕ)) (arg base : Option (Option ℕ)) → IfSome (variable_with name arg base) IsLimited
variable_limited (Some name) (Some arg) (Some base) = tt
variable_limited (Some name) (Some arg) None = tt
variable_limited (Some name) None base = tt
variable_limited None arg base = tt

file_limited : (name dir : Option (List ℕ)) → IfSome (file_with name dir) IsLimited
file_limited (Some name) (Some dir) = tt
file_limited (Some name) None = tt
file_limited None dir = tt

base_type_limited : (name : Option (List ℕ)) (size encoding : Option ℕ) → IfSome (base_type_with name size encoding) IsLimited
base_type_limited (Some name) (Some size) (Some encoding) = tt
base_type_limited (Some name) (Some size) None = tt
base_type_limited (Some name) None encoding = tt
base_type_limited None size encoding = tt

subprogram_limited : (name : Option (List ℕ)) (file : Option (Option ℕ)) → IfSome (subprogram_with name file) IsLimited
subprogram_limited name None = tt
subprogram_limited name (Some file) = tt

block_limited : (scope file : Option (Option ℕ)) → IfSome (block_with scope file) IsLimited
block_limited scope None = tt
block_limited scope (Some file) = tt

kind_limited : (line kind : List ℕ) (fields : List Field) → IfSome (node_of_kind line kind fields) IsLimited
unfolding node_of_kind variable_of location_of file_of base_type_of subprogram_of block_of
kind_limited line kind fields =
    one_of IsLimited (bytes_eq kind (codes "!DILocalVariable")) _ _
    (variable_limited (text_at line (codes "name") fields) (number_at line (codes "arg") fields) (node_at line (codes "type") fields))
    (one_of IsLimited (bytes_eq kind (codes "!DILocation")) _ _
    (location_limited (number_at line (codes "line") fields) (number_at line (codes "column") fields) (node_at line (codes "scope") fields)
    (node_at line (codes "inlinedAt") fields) (value_small line (only_value line (codes "inlinedAt") fields)))
    (one_of IsLimited (bytes_eq kind (codes "!DIFile")) _ _
    (file_limited (text_at line (codes "filename") fields) (text_at line (codes "directory") fields))
    (one_of IsLimited (bytes_eq kind (codes "!DIBasicType")) _ _
    (base_type_limited (text_at line (codes "name") fields) (and_read (number_at line (codes "size") fields) size_in_bytes)
    (and_read (word_at line (codes "encoding") fields) encoding_code))
    (one_of IsLimited (bytes_eq kind (codes "!DISubprogram")) _ _
    (subprogram_limited (text_at line (codes "name") fields) (node_at line (codes "file") fields))
    (one_of IsLimited (is_block kind) _ None (block_limited (node_at line (codes "scope") fields) (node_at line (codes "file") fields)) tt)))))

-- ---- lines

with_limited : (line kind : List ℕ) (fields : Option (List Field)) → IfSome (node_with line kind fields) IsLimited
with_limited line kind None = tt
with_limited line kind (Some fields) = kind_limited line kind fields

described_limited : (line : List ℕ) (ts : List Token) → IfSome (described line ts) IsLimited
unfolding described
described_limited line [] = tt
described_limited line (kind ∷ []) = tt
described_limited line (kind ∷ open_bracket ∷ ts) =
    one_of IsLimited (is_kind kind && is_byte 40 open_bracket) (node_with line (text_of line kind) (fields_of ts)) None
    (with_limited line (text_of line kind) (fields_of ts)) tt

-- a node with its number
abbrev EntryIsLimited : ℕ × Node → Type 0
EntryIsLimited e = IsLimited e.1

numbered_limited : (n : Option ℕ) (node : Option Node) → IfSome node IsLimited → IfSome (numbered n node) EntryIsLimited
numbered_limited (Some n) (Some node) limited = limited
numbered_limited (Some n) None limited = tt
numbered_limited None other limited = tt

assigned_limited : (line : List ℕ) (ts : List Token) → IfSome (assigned line ts) EntryIsLimited
unfolding assigned
assigned_limited line [] = tt
assigned_limited line (number ∷ []) = tt
assigned_limited line (number ∷ equals ∷ ts) =
    one_of EntryIsLimited (is_node number && is_byte 61 equals) (numbered (node_number (text_of line number)) (described line (behind_distinct line ts))) None
    (numbered_limited (node_number (text_of line number)) (described line (behind_distinct line ts)) (described_limited line (behind_distinct line ts))) tt

tokens_limited : (line : List ℕ) (read : Result (List Token) LexError) → IfSome (node_of_tokens line read) EntryIsLimited
tokens_limited line (Ok ts) = assigned_limited line ts
tokens_limited line (Err e) = tt

line_limited : (line : List ℕ) → IfSome (node_of_line line) EntryIsLimited
unfolding node_of_line
line_limited [] = tt
line_limited (b ∷ bs) =
    one_of EntryIsLimited (eqb b 33) (node_of_tokens (b ∷ bs) (tokens_of false (b ∷ bs))) None (tokens_limited (b ∷ bs) (tokens_of false (b ∷ bs))) tt

-- ---- metadata

given_before : (o : Option (ℕ × Node)) (line : Line) (lines : List Line) → node_of_line (behind_spaces line.text) ≡ o → IfSome o EntryIsLimited →
    All EntryIsLimited (nodes_of lines) → All EntryIsLimited (nodes_of (line ∷ lines))
given_before None line lines is limited all = rw is all
given_before (Some e) line lines is limited all = rw is (All-cons EntryIsLimited e (nodes_of lines) limited all)

nodes_limited : (lines : List Line) → All EntryIsLimited (nodes_of lines)
nodes_limited [] = All-nil EntryIsLimited
nodes_limited (line ∷ lines) =
    given_before (node_of_line (behind_spaces line.text)) line lines refl (line_limited (behind_spaces line.text)) (nodes_limited lines)

find_limited : (es : List (ℕ × Node)) (n : ℕ) → All EntryIsLimited es → IfSome (find nat_cmp n es) IsLimited
find_limited [] n all = tt
find_limited (e ∷ es) n all = one_of IsLimited (is_eq (nat_cmp n e.0)) (Some e.1) (find nat_cmp n es) (All-head EntryIsLimited e es all)
    (find_limited es n (All-tail EntryIsLimited e es all))

-- at each number of a document's metadata
pub node_limited : (lines : List Line) (n : ℕ) → IfSome (get (metadata_of lines).nodes n) IsLimited
unfolding metadata_of
node_limited lines n = subst (λ (o : Option Node). IfSome o IsLimited) (sym (get-from_entries nat_cmp_total (nodes_of lines) n))
    (find_limited (nodes_of lines) n (nodes_limited lines))
