-- Lists of a printed line: operands, and the registers before the equals sign.
use Rattle.std.proofs.Common.{◌≡◌, ℕ, zero, suc, ◌<◌, ◌≤◌, Bool, true, false, cond, List, [], ◌∷◌, ◌++◌, length, map, replicate, Option, Some, None}
use Rattle.std.proofs.Common.{refl, sym, subst, ap, ◌∙◌, arith, append_assoc}
use Rattle.std.specs.Prelude.{codes}
use Rattle.std.proofs.lemmas.List.{length-append}
use Rattle.read_lexer.specs.declared.parts.Class.TheVariants as class
use Rattle.read_lexer.specs.Front.{token_at}
use Rattle.read_token.specs.declared.lexeme.Flag.TheVariants as flags
use Rattle.read_token.specs.declared.lexeme.Lexeme.{Lexeme}
use Rattle.read_token.specs.declared.lexeme.Lexeme.TheVariants as lexemes
use Rattle.read_token.specs.declared.lexeme.RegisterName.{RegisterName}
use Rattle.read_token.specs.Word.{case_of}
use Rattle.read_line.specs.declared.form.OperandForm.{OperandForm}
use Rattle.read_line.specs.declared.form.RegisterForm.{RegisterForm}
use Rattle.read_line.specs.Attribute.{begins_attribute}
use Rattle.read_line.specs.Item.{before, with_equals, definitions_at, behind_operand, operands_at, begins_operand}
use Rattle.read_line.specs.Operand.{operand_at}
use Rattle.read_line.specs.Read.{◌>>=◌, behind_comma}
use Rattle.read_line.specs.Register.{register_at, begins_register}
use Rattle.mir_printer.specs.Spelling.{comma_separated, register_text}
use Rattle.readback_items.specs.Forms.{register_name, register_form}
use Rattle.readback_items.proofs.Cuts.{IsMark, Passes, AllPass, safe_passes}
use Rattle.readback_items.proofs.Lexing.{Piece, spelled, AllRead, Lexed, Reads}
use Rattle.readback_items.proofs.Phrases.{piece, comma, comma_read, IsPlain, Phrase, AllNarrow, register_piece, register_safe, register_narrow}
use Rattle.readback_items.proofs.Phrases.{register_named}
use Rattle.readback_items.proofs.Registers.{register_token, register_lexeme}
use Rattle.readback_items.proofs.Tokens.{Ends, single_read}

pub lexed_length : (line : List ℕ) (ps : List Piece) (ls : List Lexeme) → Lexed line ps ls → length ls ≡ length ps
lexed_length line [] ls is = ap length is
lexed_length line (p ∷ ps) ls (t, rest, text, is, more) = ap length is ∙ ap (λ (n : ℕ). suc n) (lexed_length line ps rest more)

-- ---- operands

-- the pieces of operands with commas between them
abbrev pub pieces_of : ℕ → Phrase → List Phrase → List Piece
pieces_of n q [] = q.pieces n
pieces_of n q (r ∷ qs) = q.pieces n ++ (comma ∷ pieces_of 1 r qs)

abbrev pub texts : List Phrase → List (List ℕ)
texts qs = map (λ (q : Phrase). q.text) qs

abbrev pub forms : List Phrase → List OperandForm
forms qs = map (λ (q : Phrase). q.form) qs

comma_more : (t u : List ℕ) (rest : List (List ℕ)) → comma_separated (t ∷ u ∷ rest) ≡ t ++ (44 ∷ 32 ∷ comma_separated (u ∷ rest))
comma_more t u rest = append_assoc t (codes ", ") (comma_separated (u ∷ rest))

grouped : (n : ℕ) (a b c : List ℕ) → replicate n 32 ++ (a ++ (44 ∷ (replicate 1 32 ++ (b ++ c)))) ≡ replicate n 32 ++ ((a ++ (44 ∷ 32 ∷ b)) ++ c)
grouped n a b c = ap (λ (t : List ℕ). replicate n 32 ++ t) (sym (append_assoc a (44 ∷ 32 ∷ b) c))

pub spells_all : (n : ℕ) (q : Phrase) (qs : List Phrase) (ps : List Piece) →
    spelled (pieces_of n q qs ++ ps) ≡ replicate n 32 ++ (comma_separated (q.text ∷ texts qs) ++ spelled ps)
spells_all n q [] ps = q.spells n ps
spells_all n q (r ∷ qs) ps =
    ap spelled (append_assoc (q.pieces n) (comma ∷ pieces_of 1 r qs) ps)
    ∙ (q.spells n (comma ∷ (pieces_of 1 r qs ++ ps))
    ∙ (ap (λ (t : List ℕ). replicate n 32 ++ (q.text ++ (44 ∷ t))) (spells_all 1 r qs ps)
    ∙ (grouped n q.text (comma_separated (r.text ∷ texts qs)) (spelled ps)
    ∙ ap (λ (t : List ℕ). replicate n 32 ++ (t ++ spelled ps)) (sym (comma_more q.text r.text (texts qs))))))

module _ (P : List Piece → Type 0) where
  regroup : (xs ys ps : List Piece) → P (xs ++ (ys ++ ps)) → P ((xs ++ ys) ++ ps)
  regroup xs ys ps is = subst P (sym (append_assoc xs ys ps)) is

pub reads_all : (n : ℕ) (q : Phrase) (qs : List Phrase) (ps : List Piece) → Ends (spelled ps) → AllRead ps → AllRead (pieces_of n q qs ++ ps)
reads_all n q [] ps ends all = q.reads n ps ends all
reads_all n q (r ∷ qs) ps ends all =
    regroup AllRead (q.pieces n) (comma ∷ pieces_of 1 r qs) ps
    (q.reads n (comma ∷ (pieces_of 1 r qs ++ ps)) refl (comma_read (spelled (pieces_of 1 r qs ++ ps)), reads_all 1 r qs ps ends all))

pub narrow_all : (n : ℕ) (q : Phrase) (qs : List Phrase) (ps : List Piece) → AllNarrow ps → AllNarrow (pieces_of n q qs ++ ps)
narrow_all n q [] ps all = q.narrow n ps all
narrow_all n q (r ∷ qs) ps all =
    regroup AllNarrow (q.pieces n) (comma ∷ pieces_of 1 r qs) ps (q.narrow n (comma ∷ (pieces_of 1 r qs ++ ps)) ((λ t. refl), narrow_all 1 r qs ps all))

pub uncut_all : (mark : List ℕ) → IsMark mark → (n : ℕ) (q : Phrase) (qs : List Phrase) (ps : List Piece) → AllPass mark ps →
    AllPass mark (pieces_of n q qs ++ ps)
uncut_all mark is n q [] ps all = q.uncut mark is n ps all
uncut_all mark is n q (r ∷ qs) ps all =
    regroup (AllPass mark) (q.pieces n) (comma ∷ pieces_of 1 r qs) ps
    (q.uncut mark is n (comma ∷ (pieces_of 1 r qs ++ ps)) (
      safe_passes mark is (44 ∷ []) (spelled
          (pieces_of 1 r qs ++ ps)) refl,
      uncut_all mark is 1 r qs ps all,
    ))

-- what ends operands: nothing that would be read with one, and no further one
pub record IsEnd (ls : List Lexeme) : Type 0 where
  pub plain : IsPlain ls
  pub none : behind_operand ls ≡ None

pub record ListParsed (line : List ℕ) (ps : List Piece) (fuel : ℕ) (ls : List Lexeme) (fs : List OperandForm) : Type 0 where
  pub rest : List Lexeme
  pub is : operands_at false line fuel ls ≡ Some (fs, rest)
  pub lexed : Lexed line ps rest
  pub operand : begins_operand ls ≡ true
  pub attribute : begins_attribute ls ≡ false

comma_plain : (line : List ℕ) (ps : List Piece) (ls : List Lexeme) → Lexed line (comma ∷ ps) ls → IsPlain ls
comma_plain line ps ls (t, rest, text, is, more) = subst IsPlain (sym is) (record { classless = λ n. refl; tied = refl; mask = refl })

abbrev Rest : Type 0
Rest = OperandForm × List Lexeme

abbrev Several : Type 0
Several = Option (List OperandForm × List Lexeme)

last_operand : (line : List ℕ) (k : ℕ) (ls rest : List Lexeme) (f : OperandForm) → operand_at false line ls ≡ Some (f, rest) → behind_operand rest ≡ None →
    operands_at false line (suc k) ls ≡ Some (f ∷ [], rest)
unfolding operands_at
last_operand line k ls rest f is none =
    ap (λ (o : Option Rest). o >>= λ (x : Rest). case_of (behind_operand x.1) (λ more. before x.0 (operands_at false line k more)) (Some (x.0 ∷ [], x.1))) is
    ∙ ap (λ (o : Option (List Lexeme)). case_of o (λ more. before f (operands_at false line k more)) (Some (f ∷ [], rest))) none

more_operands : (line : List ℕ) (k : ℕ) (ls rest more last : List Lexeme) (f : OperandForm) (fs : List OperandForm) →
    operand_at false line ls ≡ Some (f, rest) →
    behind_operand rest ≡ Some more → operands_at false line k more ≡ Some (fs, last) → operands_at false line (suc k) ls ≡ Some (f ∷ fs, last)
unfolding operands_at
more_operands line k ls rest more last f fs is next others =
    ap (λ (o : Option Rest). o >>= λ (x : Rest). case_of (behind_operand x.1) (λ y. before x.0 (operands_at false line k y)) (Some (x.0 ∷ [], x.1))) is
    ∙ (ap (λ (o : Option (List Lexeme)). case_of o (λ y. before f (operands_at false line k y)) (Some (f ∷ [], rest))) next
    ∙ ap (λ (o : Several). before f o) others)

pub parses_all : (line : List ℕ) (n : ℕ) (q : Phrase) (qs : List Phrase) (ps : List Piece) (ls : List Lexeme) (fuel : ℕ) →
    ((rest : List Lexeme) → Lexed line ps rest → IsEnd rest) → suc (length qs) ≤ fuel → Lexed line (pieces_of n q qs ++ ps) ls →
    ListParsed line ps fuel ls (q.form ∷ forms qs)
parses_all line n q qs ps ls zero ending few lexed = absurd (omega (arith, few))
parses_all line n q [] ps ls (suc k) ending few lexed =
    let p = q.parses line n ps ls (λ rest l. (ending rest l).plain) lexed in
    record {
      rest = p.rest;
      is = last_operand line k ls p.rest q.form p.is (ending p.rest p.lexed).none;
      lexed = p.lexed;
      operand = p.operand;
      attribute = p.attribute;
    }
parses_all line n q (r ∷ qs) ps ls (suc k) ending few lexed =
    let behind = pieces_of 1 r qs ++ ps in
    let p = q.parses line n (comma ∷ behind) ls (comma_plain line behind)
    (subst (λ (xs : List Piece). Lexed line xs ls) (append_assoc (q.pieces n) (comma ∷ pieces_of 1 r qs) ps) lexed) in
    let more = p.lexed.1 in
    let next = parses_all line 1 r qs ps more k ending (omega (arith, few)) p.lexed.4 in
    let goes : behind_operand p.rest ≡ Some more =
    ap behind_operand p.lexed.3 ∙ ap (λ (b : Bool). cond b None (Some more)) next.attribute in
    record {
      rest = next.rest;
      is = more_operands line k ls p.rest more next.rest q.form (r.form ∷ forms qs) p.is goes next.is;
      lexed = next.lexed;
      operand = p.operand;
      attribute = p.attribute;
    }

-- there are as many pieces at least
pub enough : (n : ℕ) (q : Phrase) (qs : List Phrase) (ps : List Piece) → suc (length qs) ≤ length (pieces_of n q qs ++ ps)
enough n q [] ps = let one = q.some n in omega (arith, one, length-append (q.pieces n) ps)
enough n q (r ∷ qs) ps =
    let one = q.some n in
    let more = enough 1 r qs ps in
    omega (
      arith,
      one,
      more,
      length-append (q.pieces n ++ (comma ∷ pieces_of 1 r qs)) ps,
      length-append (q.pieces n) (comma ∷ pieces_of 1 r qs),
      length-append (pieces_of 1 r qs) ps,
    )

-- ---- definitions

abbrev equals : Piece
equals = piece 1 (class.Single 61) (61 ∷ [])

abbrev pub set_pieces : ℕ → ℕ → List ℕ → List Piece
set_pieces n r [] = register_piece n r ∷ equals ∷ []
set_pieces n r (s ∷ rs) = register_piece n r ∷ comma ∷ set_pieces 1 s rs

abbrev pub AreRegisters : List ℕ → Type 0
AreRegisters [] = Unit {0}
AreRegisters (r ∷ rs) = (r < 4128) × AreRegisters rs

abbrev set_texts : List ℕ → List (List ℕ)
set_texts rs = map register_text rs

pub spells_set : (n r : ℕ) (rs : List ℕ) (ps : List Piece) →
    spelled (set_pieces n r rs ++ ps) ≡ replicate n 32 ++ (comma_separated (set_texts (r ∷ rs)) ++ (32 ∷ 61 ∷ spelled ps))
spells_set n r [] ps = refl
spells_set n r (s ∷ rs) ps =
    ap (λ (t : List ℕ). replicate n 32 ++ (register_text r ++ (44 ∷ t))) (spells_set 1 s rs ps)
    ∙ (ap (λ (t : List ℕ). replicate n 32 ++ t) (sym (append_assoc (register_text r) (44 ∷ 32 ∷ comma_separated (set_texts (s ∷ rs))) (32 ∷ 61 ∷ spelled ps)))
    ∙ ap (λ (t : List ℕ). replicate n 32 ++ (t ++ (32 ∷ 61 ∷ spelled ps))) (sym (comma_more (register_text r) (register_text s) (set_texts rs))))

equals_read : (rest : List ℕ) → Reads (class.Single 61) (61 ∷ []) rest
unfolding token_at
equals_read rest = single_read 61 rest (λ at after. refl) refl

pub reads_set : (n r : ℕ) (rs : List ℕ) (ps : List Piece) → AreRegisters (r ∷ rs) → AllRead ps → AllRead (set_pieces n r rs ++ ps)
reads_set n r [] ps are all = (register_token r (32 ∷ 61 ∷ spelled ps) are.0 refl, (equals_read (spelled ps), all))
reads_set n r (s ∷ rs) ps are all =
    (register_token r (44 ∷ spelled (set_pieces 1 s rs ++ ps)) are.0 refl, (comma_read (spelled (set_pieces 1 s rs ++ ps)), reads_set 1 s rs ps are.1 all))

pub narrow_set : (n r : ℕ) (rs : List ℕ) (ps : List Piece) → AreRegisters (r ∷ rs) → AllNarrow ps → AllNarrow (set_pieces n r rs ++ ps)
narrow_set n r [] ps are all = (register_narrow r are.0, ((λ t. refl), all))
narrow_set n r (s ∷ rs) ps are all = (register_narrow r are.0, ((λ t. refl), narrow_set 1 s rs ps are.1 all))

register_passes : (mark : List ℕ) → IsMark mark → (r : ℕ) (rest : List ℕ) → r < 4128 → Passes mark (register_text r) rest
register_passes mark is r rest small = safe_passes mark is (register_text r) rest (register_safe r small)

pub uncut_set : (mark : List ℕ) → IsMark mark → (n r : ℕ) (rs : List ℕ) (ps : List Piece) → AreRegisters (r ∷ rs) → AllPass mark ps →
    AllPass mark (set_pieces n r rs ++ ps)
uncut_set mark is n r [] ps are all =
    (register_passes mark is r (32 ∷ 61 ∷ spelled ps) are.0, (safe_passes mark is (61 ∷ []) (spelled ps) refl, all))
uncut_set mark is n r (s ∷ rs) ps are all = (
  register_passes mark is r (44 ∷ spelled (set_pieces 1 s rs ++ ps)) are.0,
  (safe_passes mark is (44 ∷ []) (spelled (set_pieces 1 s rs ++ ps)) refl, uncut_set mark is 1 s rs ps are.1 all),
)

pub record SetParsed (line : List ℕ) (ps : List Piece) (fuel : ℕ) (ls : List Lexeme) (fs : List RegisterForm) : Type 0 where
  pub rest : List Lexeme
  pub is : definitions_at fuel ls ≡ Some (fs, rest)
  pub lexed : Lexed line ps rest
  pub begins : begins_register ls ≡ true

abbrev Sets : Type 0
Sets = RegisterForm × List Lexeme

one_set : (k r : ℕ) (behind : List Lexeme) → IsPlain behind → register_at flags.Plain (lexemes.Register (register_name r) ∷ behind) ≡ Some
    (register_form flags.Plain r, behind)
unfolding register_at
one_set k r behind plain = register_named flags.Plain r behind plain

last_set : (k r : ℕ) (rest : List Lexeme) → definitions_at (suc k) (lexemes.Register (register_name r) ∷ lexemes.Equals ∷ rest) ≡ Some
    (register_form flags.Plain r ∷ [], rest)
unfolding definitions_at
last_set k r rest =
    ap (λ (o : Option Sets). o >>= λ (d : Sets). case_of (behind_comma d.1) (λ more. before d.0 (definitions_at k more)) (with_equals (d.0 ∷ []) d.1))
    (one_set k r (lexemes.Equals ∷ rest) (record { classless = λ n. refl; tied = refl; mask = refl }))

more_set : (k r : ℕ) (more last : List Lexeme) (fs : List RegisterForm) → definitions_at k more ≡ Some (fs, last) →
    definitions_at (suc k) (lexemes.Register (register_name r) ∷ lexemes.Comma ∷ more) ≡ Some (register_form flags.Plain r ∷ fs, last)
unfolding definitions_at
more_set k r more last fs is =
    ap (λ (o : Option Sets). o >>= λ (d : Sets). case_of (behind_comma d.1) (λ x. before d.0 (definitions_at k x)) (with_equals (d.0 ∷ []) d.1))
    (one_set k r (lexemes.Comma ∷ more) (record { classless = λ n. refl; tied = refl; mask = refl }))
    ∙ ap (before (register_form flags.Plain r)) is

register_begins : (name : RegisterName) (xs : List Lexeme) → begins_register (lexemes.Register name ∷ xs) ≡ true
unfolding begins_register
register_begins name xs = refl

pub parses_set : (line : List ℕ) (n r : ℕ) (rs : List ℕ) (ps : List Piece) (ls : List Lexeme) (fuel : ℕ) → AreRegisters (r ∷ rs) → suc (length rs) ≤ fuel →
    Lexed line (set_pieces n r rs ++ ps) ls → SetParsed line ps fuel ls (map (register_form flags.Plain) (r ∷ rs))
parses_set line n r rs ps ls zero are few lexed = absurd (omega (arith, few))
parses_set line n r [] ps ls (suc k) are few (t, behind, text, is, (u, rest, text_too, is_too, more)) =
    subst (λ (xs : List Lexeme). SetParsed line ps (suc k) xs (register_form flags.Plain r ∷ []))
    (sym (is ∙ (ap (λ (l : Lexeme). l ∷ behind) (register_lexeme r t are.0)
    ∙ ap (λ (xs : List Lexeme). lexemes.Register (register_name r) ∷ xs) is_too)))
    (set_of (lexemes.Equals ∷ rest) (register_form flags.Plain r ∷ []) rest (last_set k r rest) more)
  where
    set_of : (xs : List Lexeme) (fs : List RegisterForm) (last : List Lexeme) →
        definitions_at (suc k) (lexemes.Register (register_name r) ∷ xs) ≡ Some (fs, last) → Lexed line ps last →
        SetParsed line ps (suc k) (lexemes.Register (register_name r) ∷ xs) fs
    set_of xs fs last says lexed = record { rest = last; is = says; lexed = lexed; begins = register_begins (register_name r) xs }
parses_set line n r (s ∷ rs) ps ls (suc k) are few (t, behind, text, is, (u, rest, text_too, is_too, more)) =
    let next = parses_set line 1 s rs ps rest k are.1 (omega (arith, few)) more in
    subst (λ (xs : List Lexeme). SetParsed line ps (suc k) xs (map (register_form flags.Plain) (r ∷ s ∷ rs)))
    (sym (is ∙ (ap (λ (l : Lexeme). l ∷ behind) (register_lexeme r t are.0)
    ∙ ap (λ (xs : List Lexeme). lexemes.Register (register_name r) ∷ xs) is_too)))
    (record {
      rest = next.rest;
      is = more_set k r rest next.rest (map (register_form flags.Plain) (s ∷ rs)) next.is;
      lexed = next.lexed;
      begins = register_begins (register_name r) (lexemes.Comma ∷ rest);
    })

pub enough_set : (n r : ℕ) (rs : List ℕ) (ps : List Piece) → suc (length rs) ≤ length (set_pieces n r rs ++ ps)
enough_set n r [] ps = omega arith
enough_set n r (s ∷ rs) ps = let more = enough_set 1 s rs ps in omega (arith, more)
