-- The reader's pieces are the fields of the grammar.
use Rattle.std.proofs.Common.{◌≡◌, ◌⊎◌, inl, inr, ℕ, ◌==◌, ◌||◌, ◌&&◌, Bool, true, false, cond, List, [], ◌∷◌, ◌++◌, Option, Some, None}
use Rattle.std.proofs.Common.{refl, sym, ap, subst, ◌∙◌}
use Rattle.std.proofs.lemmas.Bool.{cases_Bool, and_parts, and_from, eqb-true, true≢false, false≢true}
use Rattle.read_lexer.specs.declared.parts.Class.{Class}
use Rattle.read_lexer.specs.declared.parts.Class.TheVariants.{Word, Register, Percent, Node, Kind, Symbol, Float, Integer, Text, Single}
use Rattle.read_lexer.specs.declared.parts.Token.{Token}
use Rattle.read_metadata.specs.declared.field.Field.{Field}
use Rattle.read_metadata.specs.Token.{is_byte, is_word, is_single_class}
use Rattle.read_metadata.specs.Field.{closes, is_end, ends_piece, depth_behind, in_piece, new_piece, pieces, field_of, before_fields, each_field}
use Rattle.read_metadata.specs.Field.{all_fields, fields_of}
use Rattle.read_metadata_proof.specs.Grammar.{lone, IsField, AreFields, last, more, IsFieldList, none, some}
use Rattle.read_metadata_proof.specs.Laws.{FieldsAreReadByTheirGrammar}
use Rattle.read_metadata_proof.proofs.Depths.{run, value_run, run_value, key_run}

-- ---- what pieces are

-- tokens up to the end of the first piece: a comma, behind which pieces follow, or the bracket that ends the node
record IsCut (d : ℕ) (ts : List Token) (ps : List (List Token)) : Type 0 where
  piece : List Token
  b : Token
  behind : List Token
  others : List (List Token)
  text : ts ≡ piece ++ b ∷ behind
  pieces_are : ps ≡ piece ∷ others
  runs : run d piece ≡ true
  rest : ((is_byte 44 b ≡ true) × (pieces 0 behind ≡ Some others)) ⊎ ((is_byte 41 b ≡ true) × (behind ≡ []) × (others ≡ []))

end_only : (t : Token) (ts : List Token) → is_end (t ∷ ts) ≡ true → (is_byte 41 t ≡ true) × (ts ≡ [])
end_only t [] e = (e, refl)
end_only t (u ∷ us) e = absurd (false≢true e)

cut : (d : ℕ) (ts : List Token) (ps : List (List Token)) → pieces d ts ≡ Some ps → IsCut d ts ps
unfolding pieces run
cut d [] ps e = absurd cc
cut d (t ∷ ts) ps e = elim (cases_Bool (ends_piece d t)) [
  | inl k ↦ at_end k (sym (ap (λ (z : Bool). cond z at_top onward) k) ∙ e)
  | inr k ↦ further k (cut (depth_behind d t) ts) (pieces (depth_behind d t) ts) refl (sym (ap (λ (z : Bool). cond z at_top onward) k) ∙ e)
] where
  at_top : Option (List (List Token))
  at_top = cond (is_byte 44 t) (new_piece (pieces 0 ts)) (cond (is_end (t ∷ ts)) (Some ([] ∷ [])) None)

  onward : Option (List (List Token))
  onward = in_piece t (pieces (depth_behind d t) ts)

  after_comma : ends_piece d t ≡ true → is_byte 44 t ≡ true → (o : Option (List (List Token))) → pieces 0 ts ≡ o → new_piece o ≡ Some ps → IsCut d (t ∷ ts) ps
  after_comma k c None o e = absurd cc
  after_comma k c (Some qs) o e = record {
    piece = [];
    b = t;
    behind = ts;
    others = qs;
    text = refl;
    pieces_are = cc;
    runs = (and_parts (d == 0) (is_byte 44 t || closes t) k).0;
    rest = inl (c, o);
  }

  at_end : ends_piece d t ≡ true → at_top ≡ Some ps → IsCut d (t ∷ ts) ps
  at_end k e = elim (cases_Bool (is_byte 44 t)) [
    | inl c ↦ after_comma k c (pieces 0 ts) refl
        (sym (ap (λ (z : Bool). cond z (new_piece (pieces 0 ts)) (cond (is_end (t ∷ ts)) (Some ([] ∷ [])) None)) c) ∙ e)
    | inr c ↦ elim (cases_Bool (is_end (t ∷ ts))) [
      | inl n ↦
          let it = end_only t ts n in
          let is : Some ([] ∷ []) ≡ Some ps =
          sym (ap (λ (z : Bool). cond z (new_piece (pieces 0 ts)) (cond (is_end (t ∷ ts)) (Some ([] ∷ [])) None)) c
          ∙ ap (λ (z : Bool). cond z (Some ([] ∷ [])) None) n) ∙ e in
          record {
            piece = [];
            b = t;
            behind = ts;
            others = [];
            text = refl;
            pieces_are = cc;
            runs = (and_parts (d == 0) (is_byte 44 t || closes t) k).0;
            rest = inr (it.0, it.1, refl);
          }
      | inr n ↦
          let is : None ≡ Some ps =
          sym (ap (λ (z : Bool). cond z (new_piece (pieces 0 ts)) (cond (is_end (t ∷ ts)) (Some ([] ∷ [])) None)) c
          ∙ ap (λ (z : Bool). cond z (Some ([] ∷ [])) None) n) ∙ e in
          absurd cc
    ]
  ]

  grown : ends_piece d t ≡ false → (qs : List (List Token)) → IsCut (depth_behind d t) ts qs → in_piece t (Some qs) ≡ Some ps → IsCut d (t ∷ ts) ps
  grown k [] c e = absurd (let no : [] ≡ c.piece ∷ c.others = c.pieces_are in cc)
  grown k (q ∷ qs) c e =
      let same : q ∷ qs ≡ c.piece ∷ c.others = c.pieces_are in
      let piece_is : q ≡ c.piece = cc in
      let others_are : qs ≡ c.others = cc in
      let is : Some ((t ∷ q) ∷ qs) ≡ Some ps = e in
      let ps_are : (t ∷ q) ∷ qs ≡ ps = cc in
      record {
        piece = t ∷ c.piece;
        b = c.b;
        behind = c.behind;
        others = c.others;
        text = ap (λ (z : List Token). t ∷ z) c.text;
        pieces_are = sym ps_are ∙ ap (λ (z : List Token). (t ∷ z) ∷ qs) piece_is ∙ ap (λ (z : List (List Token)). (t ∷ c.piece) ∷ z) others_are;
        runs = ap (λ (z : Bool). cond z false (run (depth_behind d t) c.piece)) k ∙ c.runs;
        rest = c.rest;
      }

  further : ends_piece d t ≡ false → ((qs : List (List Token)) → pieces (depth_behind d t) ts ≡ Some qs → IsCut (depth_behind d t) ts qs) →
      (o : Option (List (List Token))) → pieces (depth_behind d t) ts ≡ o → in_piece t o ≡ Some ps → IsCut d (t ∷ ts) ps
  further k again None o e = absurd cc
  further k again (Some qs) o e = grown k qs (again qs o) e

-- the pieces of what runs back to its depth, and then a comma
comma_cut : (d : ℕ) (p : List Token) (b : Token) (ts : List Token) (ps : List (List Token)) → run d p ≡ true → is_byte 44 b ≡ true → pieces 0 ts ≡ Some ps →
    pieces d (p ++ b ∷ ts) ≡ Some (p ∷ ps)
unfolding pieces run
comma_cut d [] b ts ps r c e =
    ap (λ (z : Bool). cond z at_top onward) (and_from (d == 0) (is_byte 44 b || closes b) r (ap (λ (z : Bool). z || closes b) c))
    ∙ ap (λ (z : Bool). cond z (new_piece (pieces 0 ts)) (cond (is_end (b ∷ ts)) (Some ([] ∷ [])) None)) c ∙ ap new_piece e where
      at_top : Option (List (List Token))
      at_top = cond (is_byte 44 b) (new_piece (pieces 0 ts)) (cond (is_end (b ∷ ts)) (Some ([] ∷ [])) None)

      onward : Option (List (List Token))
      onward = in_piece b (pieces (depth_behind d b) ts)
comma_cut d (t ∷ p) b ts ps r c e = elim (cases_Bool (ends_piece d t)) [
  | inl k ↦ absurd (true≢false (sym r ∙ ap (λ (z : Bool). cond z false (run (depth_behind d t) p)) k))
  | inr k ↦
      let runs : run (depth_behind d t) p ≡ true = sym (ap (λ (z : Bool). cond z false (run (depth_behind d t) p)) k) ∙ r in
      ap (λ (z : Bool). cond z (cond (is_byte 44 t) (new_piece (pieces 0 (p ++ b ∷ ts))) (cond (is_end (t ∷ p ++ b ∷ ts)) (Some ([] ∷ [])) None))
      (in_piece t (pieces (depth_behind d t) (p ++ b ∷ ts)))) k
      ∙ ap (in_piece t) (comma_cut (depth_behind d t) p b ts ps runs c e)
]

closing_class : (k : Class) → is_single_class 41 k ≡ true → is_single_class 44 k ≡ false
closing_class Word e = absurd (false≢true e)
closing_class Register e = absurd (false≢true e)
closing_class Percent e = absurd (false≢true e)
closing_class Node e = absurd (false≢true e)
closing_class Kind e = absurd (false≢true e)
closing_class Symbol e = absurd (false≢true e)
closing_class Float e = absurd (false≢true e)
closing_class Integer e = absurd (false≢true e)
closing_class Text e = absurd (false≢true e)
closing_class (Single b) e = subst (λ (n : ℕ). (n == 44) ≡ false) (sym (eqb-true b 41 e)) refl

-- the same behind which the bracket that ends the node stands
end_cut : (d : ℕ) (p : List Token) (b : Token) → run d p ≡ true → is_byte 41 b ≡ true → pieces d (p ++ b ∷ []) ≡ Some (p ∷ [])
unfolding pieces run
end_cut d [] b r c =
    ap (λ (z : Bool). cond z at_top onward) (and_from (d == 0) (is_byte 44 b || closes b) r
    (ap (λ (z : Bool). z || closes b) (closing_class b.class c) ∙ ap (λ (z : Bool). z || (is_byte 93 b || is_byte 125 b)) c))
    ∙ ap (λ (z : Bool). cond z (new_piece (pieces 0 [])) (cond (is_end (b ∷ [])) (Some ([] ∷ [])) None)) (closing_class b.class c)
    ∙ ap (λ (z : Bool). cond z (Some ([] ∷ [])) None) c where
      at_top : Option (List (List Token))
      at_top = cond (is_byte 44 b) (new_piece (pieces 0 [])) (cond (is_end (b ∷ [])) (Some ([] ∷ [])) None)

      onward : Option (List (List Token))
      onward = in_piece b (pieces (depth_behind d b) [])
end_cut d (t ∷ p) b r c = elim (cases_Bool (ends_piece d t)) [
  | inl k ↦ absurd (true≢false (sym r ∙ ap (λ (z : Bool). cond z false (run (depth_behind d t) p)) k))
  | inr k ↦
      let runs : run (depth_behind d t) p ≡ true = sym (ap (λ (z : Bool). cond z false (run (depth_behind d t) p)) k) ∙ r in
      ap (λ (z : Bool). cond z (cond (is_byte 44 t) (new_piece (pieces 0 (p ++ b ∷ []))) (cond (is_end (t ∷ p ++ b ∷ [])) (Some ([] ∷ [])) None))
      (in_piece t (pieces (depth_behind d t) (p ++ b ∷ [])))) k
      ∙ ap (in_piece t) (end_cut (depth_behind d t) p b runs c)
]

-- ---- a piece and its field

with_key : (key colon first : Token) (tail : List Token) (o : Option Token) (f : Field) → lone first tail ≡ o → run 0 (key ∷ colon ∷ first ∷ tail) ≡ true →
    cond (is_word key && is_byte 58 colon) (Some (record { key = key; value = o })) None ≡ Some f → IsField (key ∷ colon ∷ first ∷ tail) f
with_key key colon first tail o f l r e = elim (cases_Bool (is_word key && is_byte 58 colon)) [
  | inl k ↦
      let both = and_parts (is_word key) (is_byte 58 colon) k in
      let is : Some (record { key = key; value = o }) ≡ Some f = sym (ap (λ (z : Bool). cond z (Some (record { key = key; value = o })) None) k) ∙ e in
      let same : record { key = key; value = o } ≡ f = cc in
      record {
        key = key;
        colon = colon;
        first = first;
        more = tail;
        text = refl;
        word = both.0;
        parted = both.1;
        value = run_value (first ∷ tail) (sym (key_run key colon (first ∷ tail) both.0 both.1) ∙ r);
        field = sym same ∙ ap (λ (z : Option Token). record { key = key; value = z }) (sym l);
      }
  | inr k ↦ absurd (let no : None ≡ Some f = sym (ap (λ (z : Bool). cond z (Some (record { key = key; value = o })) None) k) ∙ e in cc)
]

field_is : (p : List Token) (f : Field) → run 0 p ≡ true → field_of p ≡ Some f → IsField p f
field_is [] f r e = absurd cc
field_is (key ∷ []) f r e = absurd cc
field_is (key ∷ colon ∷ []) f r e = absurd cc
field_is (key ∷ colon ∷ value ∷ []) f r e = with_key key colon value [] (Some value) f refl r e
field_is (key ∷ colon ∷ value ∷ t ∷ ts) f r e = with_key key colon value (t ∷ ts) None f refl r e

field_reads : (key colon first : Token) (tail : List Token) → is_word key ≡ true → is_byte 58 colon ≡ true →
    field_of (key ∷ colon ∷ first ∷ tail) ≡ Some (record { key = key; value = lone first tail })
field_reads key colon first [] w e = ap (λ (z : Bool). cond z (Some (record { key = key; value = Some first })) None)
    (and_from (is_word key) (is_byte 58 colon) w e)
field_reads key colon first (t ∷ ts) w e = ap (λ (z : Bool). cond z (Some (record { key = key; value = None })) None)
    (and_from (is_word key) (is_byte 58 colon) w e)

reads_field : (p : List Token) (f : Field) → IsField p f → field_of p ≡ Some f
reads_field p f is = ap field_of is.text ∙ field_reads is.key is.colon is.first is.more is.word is.parted ∙ ap (λ (z : Field). Some z) (sym is.field)

runs_field : (p : List Token) (f : Field) → IsField p f → run 0 p ≡ true
runs_field p f is = ap (run 0) is.text ∙ key_run is.key is.colon (is.first ∷ is.more) is.word is.parted ∙ value_run is.value

-- ---- fields

both_there : (o : Option Field) (r : Option (List Field)) (fs : List Field) → before_fields o r ≡ Some fs →
    (f : Field) × (gs : List Field) × (o ≡ Some f) × (r ≡ Some gs) × (fs ≡ f ∷ gs)
both_there None r fs e = absurd cc
both_there (Some f) None fs e = absurd cc
both_there (Some f) (Some gs) fs e = (f, gs, refl, refl, cc)

are_fields : (ps : List (List Token)) (ts : List Token) (fs : List Field) → pieces 0 ts ≡ Some ps → each_field ps ≡ Some fs → AreFields ts fs
are_fields [] ts fs e r = absurd (let c = cut 0 ts [] e in let no : [] ≡ c.piece ∷ c.others = c.pieces_are in cc)
are_fields (p ∷ ps) ts fs e r =
    let c = cut 0 ts (p ∷ ps) e in
    let h = both_there (field_of p) (each_field ps) fs r in
    let same : p ∷ ps ≡ c.piece ∷ c.others = c.pieces_are in
    let piece_is : p ≡ c.piece = cc in
    let others_are : ps ≡ c.others = cc in
    let field : IsField c.piece h.0 = field_is c.piece h.0 c.runs (sym (ap field_of piece_is) ∙ h.2) in
    elim c.rest [
      | inl it ↦
          let gs : AreFields c.behind h.1 = are_fields ps c.behind h.1 (it.1 ∙ ap (λ (z : List (List Token)). Some z) (sym others_are)) h.3 in
          subst (λ (z : List Token). AreFields z fs) (sym c.text)
          (subst (λ (z : List Field). AreFields (c.piece ++ c.b ∷ c.behind) z) (sym h.4) (more c.b field it.0 gs))
      | inr it ↦
          let none : each_field ps ≡ Some [] = ap each_field (others_are ∙ it.2) in
          let gs_are : Some h.1 ≡ Some [] = sym h.3 ∙ none in
          let no_more : h.1 ≡ [] = cc in
          subst (λ (z : List Token). AreFields z fs) (sym (c.text ∙ ap (λ (z : List Token). c.piece ++ c.b ∷ z) it.1))
          (subst (λ (z : List Field). AreFields (c.piece ++ c.b ∷ []) z) (sym (h.4 ∙ ap (λ (z : List Field). h.0 ∷ z) no_more)) (last c.b field it.0))
    ]

-- what fields are read as, in pieces
record AreRead (ts : List Token) (fs : List Field) : Type 0 where
  cut_in : List (List Token)
  pieces_are : pieces 0 ts ≡ Some cut_in
  each : each_field cut_in ≡ Some fs
  further : is_end ts ≡ false

not_end : (p : List Token) (f : Field) (b : Token) (us : List Token) → IsField p f → is_end (p ++ b ∷ us) ≡ false
not_end p f b us is = ap (λ (z : List Token). is_end (z ++ b ∷ us)) is.text

are_read : {ts : List Token} {fs : List Field} → AreFields ts fs → AreRead ts fs
are_read (last {ts} {f} b is e) = record {
  cut_in = ts ∷ [];
  pieces_are = end_cut 0 ts b (runs_field ts f is) e;
  each = ap (λ (z : Option Field). before_fields z (Some [])) (reads_field ts f is);
  further = not_end ts f b [] is;
}
are_read (more {ts} {us} {f} {fs} b is e others) =
    let r = are_read others in
    record {
      cut_in = ts ∷ r.cut_in;
      pieces_are = comma_cut 0 ts b us r.cut_in (runs_field ts f is) e r.pieces_are;
      each = ap (λ (z : Option Field). before_fields z (each_field r.cut_in)) (reads_field ts f is) ∙ ap (before_fields (Some f)) r.each;
      further = not_end ts f b us is;
    }

-- ---- the whole

listed : {ts : List Token} {fs : List Field} → IsFieldList ts fs → fields_of ts ≡ Some fs
listed (none b e) = ap (λ (z : Bool). cond z (Some []) (all_fields (pieces 0 (b ∷ [])))) e
listed (some {ts} {fs} are) =
    let r = are_read are in
    ap (λ (z : Bool). cond z (Some []) (all_fields (pieces 0 ts))) r.further ∙ ap all_fields r.pieces_are ∙ r.each

ends_list : (ts : List Token) → is_end ts ≡ true → IsFieldList ts []
ends_list [] e = absurd (false≢true e)
ends_list (t ∷ []) e = none t e
ends_list (t ∷ u ∷ us) e = absurd (false≢true e)

from_pieces : (ts : List Token) (o : Option (List (List Token))) (fs : List Field) → pieces 0 ts ≡ o → all_fields o ≡ Some fs → IsFieldList ts fs
from_pieces ts None fs o e = absurd cc
from_pieces ts (Some ps) fs o e = some (are_fields ps ts fs o e)

pub fields_by_grammar : FieldsAreReadByTheirGrammar
fields_by_grammar ts fs = (there, listed) where
  there : fields_of ts ≡ Some fs → IsFieldList ts fs
  there e = elim (cases_Bool (is_end ts)) [
    | inl k ↦
        let is : Some [] ≡ Some fs = sym (ap (λ (z : Bool). cond z (Some []) (all_fields (pieces 0 ts))) k) ∙ e in
        let same : [] ≡ fs = cc in
        subst (IsFieldList ts) same (ends_list ts k)
    | inr k ↦ from_pieces ts (pieces 0 ts) fs refl (sym (ap (λ (z : Bool). cond z (Some []) (all_fields (pieces 0 ts))) k) ∙ e)
  ]
