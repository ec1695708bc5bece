-- The lines of the documents of lines of bytes.
use Rattle.std.proofs.Common.{◌≡◌, refl, ℕ, zero, suc, ◌+◌, Bool, true, false, cond, List, [], ◌∷◌, ◌++◌, length, All, Option, Some, None}
use Rattle.std.specs.Prelude.{is_none}
use Rattle.std.specs.List.{position_or_len}
use Rattle.std.proofs.lemmas.List.Elements.{All-nil, All-cons, All-head, All-tail, All-take, All-filter}
use Rattle.read_lexer.specs.declared.line.Line.{Line}
use Rattle.read_documents.specs.declared.key.Key.{Key}
use Rattle.read_documents.specs.declared.key.Key.TheVariants.{Name, Body, Other}
use Rattle.read_documents.specs.declared.parts.Documents.{Documents}
use Rattle.read_documents.specs.declared.parts.FunctionDocument.{FunctionDocument}
use Rattle.read_documents.specs.Documents.{same_key, key_behind, lines_under, function_document, first_fault, is_complete, inside, is_closed, stops, block_from}
use Rattle.read_documents.specs.Documents.{fault_or, function_from, documents_from, documents_of}
use Rattle.read_documents.specs.Key.{is_close, opens_block, opens_function, is_passed, heading}
use Rattle.read_documents.specs.Lines.{lines_of}
use Rattle.readback_functions.specs.Bytes.{AreBytes}
use Rattle.readback_functions.proofs.NameLines.{LineBytes, lines_bytes}

-- a document that isn't of the linked language, whose name and body are of bytes
pub record DocBytes (doc : FunctionDocument) : Type 0 where
  pub plain : doc.linked ≡ false
  pub name : All LineBytes doc.name
  pub body : All LineBytes doc.body

abbrev AllBytes : Documents → Type 0
AllBytes docs = All DocBytes docs.functions

under_bytes : (key before : Key) (ls : List Line) → All LineBytes ls → All LineBytes (lines_under key before ls)
unfolding lines_under
under_bytes key before [] all = All-nil LineBytes
under_bytes key before (l ∷ ls) all = by (same_key key (key_behind before l)) (under_bytes key (key_behind before l) ls (All-tail LineBytes l ls all)) where
  by : (t : Bool) → All LineBytes (lines_under key (key_behind before l) ls) →
      All LineBytes (cond t (l ∷ lines_under key (key_behind before l) ls) (lines_under key (key_behind before l) ls))
  by true rest = All-cons LineBytes l (lines_under key (key_behind before l) ls) (All-head LineBytes l ls all) rest
  by false rest = rest

inside_bytes : (ls : List Line) → All LineBytes ls → All LineBytes (inside ls)
unfolding inside
inside_bytes ls all = All-take LineBytes (position_or_len (λ l. is_close l.text) ls) ls all

document_bytes : (opened : ℕ) (ls : List Line) (closed : ℕ) → All LineBytes ls → DocBytes (function_document false opened ls closed)
unfolding function_document
document_bytes opened ls closed all = record {
  plain = refl;
  name = under_bytes Name Other ls all;
  body = All-filter (λ (line : Line). is_none (heading line.text)) LineBytes (lines_under Body Other ls) (under_bytes Body Other ls all);
}

stopped : (n : ℕ) → AllBytes (stops n)
stopped n = All-nil DocBytes

block_bytes : (opened : ℕ) (ls : List Line) (others : Documents) → AllBytes others → AllBytes (block_from opened ls others)
unfolding block_from
block_bytes opened ls others all = by (is_closed ls) where
  by : (t : Bool) → AllBytes (cond t (record others { meta = inside ls ++ others.meta })
      (record { meta = inside ls; functions = []; bad = Some (opened + length ls) }))
  by true = all
  by false = All-nil DocBytes

function_bytes : (opened : ℕ) (ls : List Line) (others : Documents) → All LineBytes ls → AllBytes others → AllBytes (function_from false opened ls others)
unfolding function_from
function_bytes opened ls others lines all = by (first_fault false [] (inside ls)) (is_complete (inside ls)) (is_closed ls) where
  whole : FunctionDocument
  whole = function_document false opened (inside ls) (opened + length (inside ls) + 1)

  by : (fault : Option ℕ) (complete closed : Bool) →
      AllBytes (fault_or fault (cond complete (cond closed (record others { functions = whole ∷ others.functions }) (stops (opened + length ls)))
      (stops opened)))
  by (Some n) complete closed = All-nil DocBytes
  by None false closed = All-nil DocBytes
  by None true false = All-nil DocBytes
  by None true true = All-cons DocBytes whole others.functions (document_bytes opened (inside ls) (opened + length (inside ls) + 1) (inside_bytes ls lines)) all

from_bytes : (skipped : ℕ) (had : Bool) (ls : List Line) → All LineBytes ls → AllBytes (documents_from false skipped had ls)
unfolding documents_from
from_bytes zero had [] all = All-nil DocBytes
from_bytes (suc skipped) had [] all = All-nil DocBytes
from_bytes (suc skipped) had (l ∷ ls) all = from_bytes skipped had ls (All-tail LineBytes l ls all)
from_bytes zero had (l ∷ ls) all =
    by (is_passed l.text) (opens_block l.text) had (opens_function l.text) (from_bytes 0 had ls rest) (from_bytes (suc (length (inside ls))) true ls rest)
    (from_bytes (suc (length (inside ls))) had ls rest)
  where
    rest : All LineBytes ls
    rest = All-tail LineBytes l ls all

    by : (passed block twice function : Bool) → AllBytes (documents_from false 0 had ls) → AllBytes (documents_from false (suc (length (inside ls))) true ls) →
        AllBytes (documents_from false (suc (length (inside ls))) had ls) →
        AllBytes (cond passed (documents_from false 0 had ls)
        (cond block (cond twice (stops l.number) (block_from l.number ls (documents_from false (suc (length (inside ls))) true ls)))
        (cond function (function_from false l.number ls (documents_from false (suc (length (inside ls))) had ls)) (stops l.number))))
    by true block twice function a b c = a
    by false true true function a b c = All-nil DocBytes
    by false true false function a b c = block_bytes l.number ls (documents_from false (suc (length (inside ls))) true ls) b
    by false false twice true a b c = function_bytes l.number ls (documents_from false (suc (length (inside ls))) had ls) rest c
    by false false twice false a b c = All-nil DocBytes

pub documents_bytes : (text : List ℕ) → AreBytes text → All DocBytes (documents_of false text).functions
documents_bytes text bytes = from_bytes 0 false (lines_of text) (lines_bytes text bytes)
