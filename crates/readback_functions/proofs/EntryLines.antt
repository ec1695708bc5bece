-- The pieces of the lines of slots and objects: they are read, and what an entry says.
use Rattle.std.proofs.Common.{◌≡◌, ℕ, zero, suc, ◌<◌, ◌≤◌, negsuc, Bool, true, false, cond, not, ◌&&◌, eqb, leb, List, [], ◌∷◌, ◌++◌}
use Rattle.std.proofs.Common.{Option, Some, None, Ok, Err, refl, sym, ap, ◌∙◌, arith}
use Rattle.std.specs.Prelude.{codes, is_none}
use Rattle.std.specs.List.{list_all}
use Rattle.std.specs.Char.{is_ascii_digit}
use Rattle.std.specs.Fmt.{decimal}
use Rattle.std.proofs.lemmas.Bool.{and_parts, cond-true, cond-false, le-leb}
use Rattle.base_ids.specs.Limits.{MAX_NUMBER}
use Rattle.read_lexer.specs.declared.line.Line.{Line}
use Rattle.read_lexer.specs.declared.parts.Class.TheVariants as class
use Rattle.read_lexer.specs.declared.parts.Class.TheVariants.{Single}
use Rattle.read_lexer.specs.declared.parts.Token.{Token}
use Rattle.read_lexer.specs.Bytes.{is_blank, is_word_start, is_word_byte}
use Rattle.read_lexer.specs.Front.{token, token_at}
use Rattle.read_metadata.specs.Number.{within_limit, value_behind, spelled as spelt, integer_of, unsigned_of}
use Rattle.read_metadata.specs.Token.{text_of}
use Rattle.mir_func.specs.declared.object.Object.{Object}
use Rattle.mir_func.specs.Sound.{IsLocalOffset}
use Rattle.read_refusal.specs.declared.kind.RefusalKind.TheVariants.{StackObject}
use Rattle.read_declarations.specs.declared.entry.MappingField.{MappingField}
use Rattle.read_declarations.specs.declared.stack.StackEntry.{StackEntry}
use Rattle.read_declarations.specs.Field.{value_at, needed, given, positive, negated_of, negated, says}
use Rattle.read_declarations.specs.Stack.{is_alignment, entry_with, unsized, stack_entry_of}
use Rattle.read_declarations.specs.Stream.{piece_of, text_in, text_at}
use Rattle.readback_items.proofs.Cuts.{is_safe, AllPass, safe_passes, decimal_safe, semicolon_mark, semicolon_colon}
use Rattle.readback_items.proofs.Lexing.{Piece, spelled, AllRead}
use Rattle.readback_items.proofs.Numbers.{decimal_of, no_digit}
use Rattle.readback_items.proofs.Phrases.{piece}
use Rattle.readback_items.proofs.Tokens.{Ends, word_read, single_read, decimal_token, integer_token}
use Rattle.readback_functions.proofs.Listed.{Stands}

-- ---- numbers

pub digits_spelled : (a : ℕ) (bs : List ℕ) → list_all is_ascii_digit bs ≡ true → unsigned_of a bs ≡ spelt 10 (a ∷ bs)
digits_spelled a [] digits = refl
digits_spelled a (b ∷ bs) digits =
    let x = no_digit b 120 (and_parts (is_ascii_digit b) (list_all is_ascii_digit bs) digits).0 refl in
    by (eqb a 48) (eqb b 120) x where
      by : (s t : Bool) → t ≡ false → cond (s && t) (spelt 16 bs) (spelt 10 (a ∷ b ∷ bs)) ≡ spelt 10 (a ∷ b ∷ bs)
      by true false e = refl
      by false t e = refl
      by true true e = absurd cc

pub number_read : (n : ℕ) → n ≤ MAX_NUMBER → integer_of (decimal n) ≡ Some n
unfolding spelt
number_read n small =
    let is = decimal_of n (omega (arith, small)) in
    let minus = no_digit is.first 45 is.digit refl in
    ap integer_of is.parts
    ∙ (cond-false (eqb is.first 45) _ (unsigned_of is.first is.rest) minus
    ∙ (digits_spelled is.first is.rest is.digits
    ∙ (ap (λ (t : List ℕ). within_limit (value_behind 10 0 t)) (sym is.parts)
    ∙ (ap within_limit is.value ∙ cond-true (leb n MAX_NUMBER) (Some n) None (le-leb n MAX_NUMBER small)))))

-- a number after a minus sign
pub spelt_read : (n : ℕ) → n ≤ MAX_NUMBER → spelt 10 (decimal n) ≡ Some n
unfolding spelt
spelt_read n small =
    let is = decimal_of n (omega (arith, small)) in
    ap within_limit is.value ∙ cond-true (leb n MAX_NUMBER) (Some n) None (le-leb n MAX_NUMBER small)

pub positive_some : (n : ℕ) → 0 < n → positive (Some n) ≡ Some n
positive_some zero some = absurd (omega (arith, some))
positive_some (suc n) some = refl

pub negated_read : (n : ℕ) → IsLocalOffset (Some n) → negated_of (45 ∷ decimal n) ≡ Some n
negated_read n is = ap positive (spelt_read n is.1) ∙ positive_some n is.0

-- ---- pieces

abbrev pub mark : ℕ → ℕ → Piece
mark blanks b = piece blanks (class.Single b) (b ∷ [])

-- a field, and what follows it
abbrev pub field : (key : List ℕ) (k : ℕ) → List Piece → List Piece
field key k more = piece 1 class.Word key ∷ mark 0 58 ∷ piece 1 class.Integer (decimal k) ∷ more

-- an entry of two numbers, and one of three
abbrev pub slot_pieces : ℕ → List Piece
slot_pieces n = mark 2 45 ∷ mark 1 123 ∷ field (codes "id") n (mark 0 44 ∷ field (codes "size") 8 (mark 1 125 ∷ []))

-- the fields that each object has, and what follows them
abbrev pub numbers_pieces : (id size align : ℕ) → List Piece → List Piece
numbers_pieces id size align more =
    mark 2 45 ∷ mark 1 123 ∷ field (codes "id") id (mark 0 44 ∷ field (codes "size") size (mark 0 44 ∷ field (codes "alignment") align more))

-- the field of a local offset
abbrev pub local_field : ℕ → List Piece → List Piece
local_field k more = piece 1 class.Word (codes "local-offset") ∷ mark 0 58 ∷ piece 1 class.Integer (45 ∷ decimal k) ∷ more

abbrev pub end_pieces : Option ℕ → List Piece
end_pieces None = mark 1 125 ∷ []
end_pieces (Some k) = mark 0 44 ∷ local_field k (mark 1 125 ∷ [])

abbrev pub object_pieces : Object → List Piece
object_pieces o = numbers_pieces o.id o.size o.align (end_pieces o.local_offset)

-- read, without a comment
pub record IsRead (ps : List Piece) : Type 0 where
  pub all : AllRead ps
  pub passes : AllPass (59 ∷ []) ps

pub mark_reads : (blanks b : ℕ) (ps : List Piece) → ((at : ℕ) (after : List ℕ) → token_at false at b after ≡ token (Single b) at 1) → is_blank b ≡ false →
    is_safe b ≡ true → IsRead ps → IsRead (mark blanks b ∷ ps)
mark_reads blanks b ps alone visible safe is = record {
  all = (single_read b (spelled ps) alone visible, is.all);
  passes = (safe_passes (59 ∷ []) semicolon_mark (b ∷ []) (spelled ps) (ap (λ (t : Bool). t && true) safe), is.passes);
}

pub comma_reads : (ps : List Piece) → IsRead ps → IsRead (mark 0 44 ∷ ps)
unfolding token_at
comma_reads ps is = mark_reads 0 44 ps (λ at after. refl) refl refl is

pub close_reads : IsRead (mark 1 125 ∷ [])
unfolding token_at
close_reads = mark_reads 1 125 [] (λ at after. refl) refl refl (record { all = tt; passes = tt })

pub open_reads : (ps : List Piece) → IsRead ps → IsRead (mark 2 45 ∷ mark 1 123 ∷ ps)
unfolding token_at
open_reads ps is =
    let braced = mark_reads 1 123 ps (λ at after. refl) refl refl is in
    record {
      all = (record { first = 45; bytes = []; parts = refl; visible = refl; token = λ at. refl }, braced.all);
      passes = (safe_passes (59 ∷ []) semicolon_mark (45 ∷ []) (spelled (mark 1 123 ∷ ps)) refl, braced.passes);
    }

pub field_reads : (first : ℕ) (bytes : List ℕ) (k : ℕ) (ps : List Piece) → k ≤ MAX_NUMBER → is_word_start first ≡ true → is_blank first ≡ false →
    list_all is_word_byte bytes ≡ true → list_all is_safe (first ∷ bytes) ≡ true → Ends (spelled ps) → IsRead ps → IsRead (field (first ∷ bytes) k ps)
unfolding token_at
field_reads first bytes k ps small start visible word safe ends is = record {
  all = (
    word_read first bytes (spelled (mark 0 58 ∷ piece 1 class.Integer (decimal k) ∷ ps)) start visible word refl,
    (
      single_read 58 (spelled (piece 1 class.Integer (decimal k) ∷ ps)) (λ at after. refl) refl,
      (decimal_token k (spelled ps) (omega (arith, small)) ends, is.all),
    ),
  );
  passes = (
    safe_passes (59 ∷ []) semicolon_mark (first ∷ bytes) (spelled (mark 0 58 ∷ piece 1 class.Integer (decimal k) ∷ ps)) safe,
    (
      semicolon_colon (decimal k ++ spelled ps),
      (safe_passes (59 ∷ []) semicolon_mark (decimal k) (spelled ps) (decimal_safe k (omega (arith, small))), is.passes),
    ),
  );
}

pub slot_reads : (n : ℕ) → n ≤ MAX_NUMBER → IsRead (slot_pieces n)
slot_reads n small =
    open_reads (field (codes "id") n (mark 0 44 ∷ field (codes "size") 8 (mark 1 125 ∷ [])))
    (field_reads 105 (codes "d") n (mark 0 44 ∷ field (codes "size") 8 (mark 1 125 ∷ [])) small refl refl refl refl refl
    (comma_reads (field (codes "size") 8 (mark 1 125 ∷ [])) (field_reads 115 (codes "ize") 8 (mark 1 125 ∷ []) (omega arith) refl refl refl refl refl
    close_reads)))

pub local_reads : (k : ℕ) (ps : List Piece) → IsLocalOffset (Some k) → Ends (spelled ps) → IsRead ps → IsRead (local_field k ps)
unfolding token_at
local_reads zero ps small ends is = absurd (omega (arith, small.0))
local_reads (suc j) ps small ends is = record {
  all = (
    word_read 108 (codes "ocal-offset") (spelled (mark 0 58 ∷ piece 1 class.Integer (45 ∷ decimal (suc j)) ∷ ps)) refl refl refl refl,
    (
      single_read 58 (spelled (piece 1 class.Integer (45 ∷ decimal (suc j)) ∷ ps)) (λ at after. refl) refl,
      (integer_token (negsuc j) (spelled ps) (omega (arith, small.1)) ends, is.all),
    ),
  );
  passes = (
    safe_passes (59 ∷ []) semicolon_mark (codes "local-offset") (spelled (mark 0 58 ∷ piece 1 class.Integer (45 ∷ decimal (suc j)) ∷ ps)) refl,
    (
      semicolon_colon ((45 ∷ decimal (suc j)) ++ spelled ps),
      (safe_passes (59 ∷ []) semicolon_mark (45 ∷ decimal (suc j)) (spelled ps) (decimal_safe (suc j) (omega (arith, small.1))), is.passes),
    ),
  );
}

pub end_ends : (l : Option ℕ) → Ends (spelled (end_pieces l))
end_ends None = refl
end_ends (Some k) = refl

pub end_reads : (l : Option ℕ) → IsLocalOffset l → IsRead (end_pieces l)
end_reads None is = close_reads
end_reads (Some k) is = comma_reads (local_field k (mark 1 125 ∷ [])) (local_reads k (mark 1 125 ∷ []) is refl close_reads)

pub numbers_read : (id size align : ℕ) (l : Option ℕ) → id ≤ MAX_NUMBER → size ≤ MAX_NUMBER → align ≤ MAX_NUMBER → IsLocalOffset l →
    IsRead (numbers_pieces id size align (end_pieces l))
numbers_read id size align l id_small size_small align_small is =
    let end = end_pieces l in
    open_reads (field (codes "id") id (mark 0 44 ∷ field (codes "size") size (mark 0 44 ∷ field (codes "alignment") align end)))
    (field_reads 105 (codes "d") id (mark 0 44 ∷ field (codes "size") size (mark 0 44 ∷ field (codes "alignment") align end)) id_small
    refl refl refl refl refl
    (comma_reads (field (codes "size") size (mark 0 44 ∷ field (codes "alignment") align end))
    (field_reads 115 (codes "ize") size (mark 0 44 ∷ field (codes "alignment") align end) size_small refl refl refl refl refl
    (comma_reads (field (codes "alignment") align end)
    (field_reads 97 (codes "lignment") align end align_small refl refl refl refl (end_ends l) (end_reads l is))))))

-- ---- what an entry says

abbrev pub Means : List Line → List MappingField → StackEntry → Type 0
Means lines fields e = stack_entry_of lines fields ≡ Ok e

pub text_found : (lines : List Line) (at n : ℕ) (ps : List Piece) (t : Token) (text : List ℕ) → Stands lines at n ps → text_of (spelled ps) t ≡ text →
    text_at lines (piece_of at n t) ≡ text
text_found lines at n ps t text stands is = ap (λ (o : Option Line). text_in o t) stands.there ∙ is

pub says_entry : (lines : List Line) (fields : List MappingField) (id size align : ℕ) (local : Option ℕ) → value_at lines (codes "type") fields ≡ None →
    needed lines (codes "id") fields ≡ Some id → needed lines (codes "size") fields ≡ Some size → given lines (codes "alignment") 1 fields ≡ Some align →
    negated lines (codes "local-offset") fields ≡ local → is_alignment align ≡ true →
    stack_entry_of lines fields ≡ Ok (record { id = id; size = size; align = align; local_offset = local })
says_entry lines fields id size align local sized a b c d aligned =
    (λ i. cond (says lines (codes "variable-sized") (sized i) && is_none (value_at lines (codes "size") fields)) (unsized (needed lines (codes "id") fields))
    (entry_with (says lines (codes "variable-sized") (sized i)) (a i) (b i) (c i) (d i)))
    ∙ entry aligned
  where
    entry : is_alignment align ≡ true →
        entry_with false (Some id) (Some size) (Some align) local ≡ Ok (record { id = id; size = size; align = align; local_offset = local })
    entry is = ap (λ (t : Bool). cond (not t) (Err StackObject) (Ok (record { id = id; size = size; align = align; local_offset = local }))) is

-- the pieces of a field whose key's token is at a place
abbrev pub field_at : ℕ → ℕ → Token → Token → MappingField
field_at at n key value = record { key = piece_of at n key; value = piece_of at n value }
