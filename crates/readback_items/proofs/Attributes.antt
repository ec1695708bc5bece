-- What ends a printed line: its debug instruction number and its debug location.
use Rattle.std.proofs.Common.{◌≡◌, ◌⊎◌, inl, inr, ℕ, pos, ◌^◌, ◌<◌, ◌≤◌, true, false, ◌||◌, List, [], ◌∷◌, ◌++◌, Option, Some, None}
use Rattle.std.proofs.Common.{refl, sym, subst, ap, ◌∙◌, arith, append_assoc, append-nil}
use Rattle.std.specs.Prelude.{codes, IfSome}
use Rattle.std.specs.List.{list_all}
use Rattle.std.specs.Fmt.{decimal}
use Rattle.mir_func.specs.declared.location.InlineLoc.{InlineLoc}
use Rattle.mir_func.specs.declared.location.Loc.{Loc}
use Rattle.mir_func.specs.declared.location.Loc.TheVariants as locs
use Rattle.base_ids.specs.Limits.{MAX_NUMBER}
use Rattle.read_lexer.specs.declared.parts.Class.TheVariants as class
use Rattle.read_lexer.specs.declared.parts.Token.{Token}
use Rattle.read_lexer.specs.Front.{token_at}
use Rattle.read_token.specs.declared.lexeme.Lexeme.{Lexeme}
use Rattle.read_token.specs.declared.lexeme.Lexeme.TheVariants as lexemes
use Rattle.read_token.specs.declared.lexeme.Number.{Number}
use Rattle.read_token.specs.declared.lexeme.Number.TheVariants.{Fits}
use Rattle.read_token.specs.declared.lexeme.Word.{Word}
use Rattle.read_token.specs.declared.lexeme.Word.TheVariants as words
use Rattle.read_token.specs.Number.{limited, number_of}
use Rattle.read_token.specs.Sentence.{kind_of}
use Rattle.read_token.specs.Word.{is_plain, flag_of, keyword_of, word_of}
use Rattle.read_line.specs.declared.attribute.Attributes.{Attributes}
use Rattle.read_line.specs.Attribute.{field_at, fields_at, location_at, ended, behind_number, behind_location, attributes_of, begins_attribute}
use Rattle.read_line.specs.Attribute.{attributes_behind}
use Rattle.read_line.specs.Exceeds.{is_some_beyond, loc_exceeds, attributes_exceed, is_wide}
use Rattle.read_line.specs.Item.{begins_operand}
use Rattle.read_line.specs.Operand.{capped}
use Rattle.read_line.specs.Read.{◌>>=◌}
use Rattle.read_program.specs.Limited.{LocIsLimited}
use Rattle.mir_printer.specs.Spelling.{number_text, inlined_at_text, location_text}
use Rattle.readback_items.proofs.Cuts.{is_safe, IsMark, Passes, AllPass, safe_passes, decimal_safe}
use Rattle.readback_items.proofs.Debug.{open_bracket, close_bracket, open_read, close_read, decimal_read, capped_is}
use Rattle.readback_items.proofs.Lexing.{Piece, spelled, Reads, AllRead, Lexed}
use Rattle.readback_items.proofs.Lists.{IsEnd}
use Rattle.readback_items.proofs.Numbers.{limited_decimal}
use Rattle.readback_items.proofs.Phrases.{piece, comma, comma_read, AllNarrow, within_number}
use Rattle.readback_items.proofs.Tokens.{Ends, word_read, kind_read, single_read, decimal_token, node_token}

abbrev colon : Piece
colon = piece 0 (class.Single 58) (58 ∷ [])

colon_read : (rest : List ℕ) → Reads (class.Single 58) (58 ∷ []) rest
unfolding token_at
colon_read rest = single_read 58 rest (λ at after. refl) refl

-- ---- words

number_is : word_of (codes "debug-instr-number") ≡ words.InstrNumber
unfolding word_of flag_of is_plain keyword_of
number_is = refl

location_is : word_of (codes "debug-location") ≡ words.Location
unfolding word_of flag_of is_plain keyword_of
location_is = refl

line_is : word_of (codes "line") ≡ words.Line
unfolding word_of flag_of is_plain keyword_of
line_is = refl

column_is : word_of (codes "column") ≡ words.Column
unfolding word_of flag_of is_plain keyword_of
column_is = refl

scope_is : word_of (codes "scope") ≡ words.Scope
unfolding word_of flag_of is_plain keyword_of
scope_is = refl

inlined_is : word_of (codes "inlinedAt") ≡ words.InlinedAt
unfolding word_of flag_of is_plain keyword_of
inlined_is = refl

written_is : kind_of (codes "!DILocation") ≡ lexemes.InlineLocation
unfolding kind_of
written_is = refl

-- ---- pieces

abbrev number : ℕ → ℕ → Piece
number n k = piece n class.Integer (decimal k)

abbrev node : ℕ → ℕ → Piece
node n k = piece n class.Node (33 ∷ decimal k)

abbrev inlined_pieces : Option ℕ → List Piece
inlined_pieces None = close_bracket ∷ []
inlined_pieces (Some n) = comma ∷ piece 1 class.Word (codes "inlinedAt") ∷ colon ∷ node 1 n ∷ close_bracket ∷ []

abbrev written_pieces : InlineLoc → List Piece
written_pieces l = piece 1 class.Kind (codes "!DILocation") ∷ open_bracket ∷ piece 0 class.Word (codes "line") ∷ colon ∷ number 1 l.line ∷ comma
    ∷ piece 1 class.Word (codes "column") ∷ colon ∷ number 1 l.column ∷ comma ∷ piece 1 class.Word (codes "scope") ∷ colon ∷ node 1 l.scope
    ∷ inlined_pieces l.inlined_at

abbrev loc_pieces : Loc → List Piece
loc_pieces locs.Absent = []
loc_pieces (locs.Node n) = comma ∷ piece 1 class.Word (codes "debug-location") ∷ node 1 n ∷ []
loc_pieces (locs.Inline l) = comma ∷ piece 1 class.Word (codes "debug-location") ∷ written_pieces l

-- the pieces of a number and a location
abbrev pub tail_pieces : Option ℕ → Loc → List Piece
tail_pieces None loc = loc_pieces loc
tail_pieces (Some k) loc = comma ∷ piece 1 class.Word (codes "debug-instr-number") ∷ number 1 k ∷ loc_pieces loc

-- ---- their text

inlined_spells : (o : Option ℕ) → spelled (inlined_pieces o) ≡ inlined_at_text o ++ codes ")"
inlined_spells None = refl
inlined_spells (Some n) = refl

loc_spells : (loc : Loc) → spelled (loc_pieces loc) ≡ location_text loc
loc_spells locs.Absent = refl
loc_spells (locs.Node n) = ap (λ (t : List ℕ). codes ", debug-location !" ++ t) (append-nil (decimal n))
loc_spells (locs.Inline l) =
    ap (λ (t : List ℕ). codes ", debug-location !DILocation(line: " ++ (decimal l.line ++ (codes ", column: " ++ (decimal l.column ++ (codes ", scope: !"
    ++ (decimal l.scope ++ t)))))) (inlined_spells l.inlined_at) ∙ grouped
  where
    grouped : codes ", debug-location !DILocation(line: " ++ (decimal l.line ++ (codes ", column: " ++ (decimal l.column ++ (codes ", scope: !"
        ++ (decimal l.scope ++ (inlined_at_text l.inlined_at ++ codes ")")))))) ≡ location_text (locs.Inline l)
    grouped = simp append_assoc

pub tail_spells : (k : Option ℕ) (loc : Loc) → spelled (tail_pieces k loc) ≡ number_text k ++ location_text loc
tail_spells None loc = loc_spells loc
tail_spells (Some k) loc = ap (λ (t : List ℕ). codes ", debug-instr-number " ++ (decimal k ++ t)) (loc_spells loc)

-- ---- how they are read

abbrev Small : Option ℕ → Type 0
Small k = IfSome k (λ n. n ≤ MAX_NUMBER)

wide : (n : ℕ) → n ≤ MAX_NUMBER → n < 2 ^ 64
wide n small = omega (arith, small)

deep : (n : ℕ) → n ≤ MAX_NUMBER → n < 2 ^ 63
deep n small = omega (arith, small)

inlined_reads : (o : Option ℕ) → Small o → AllRead (inlined_pieces o)
inlined_reads None small = (close_read [], tt)
inlined_reads (Some n) small =
    (comma_read _, (word_read 105 (codes "nlinedAt") _ refl refl refl refl, (colon_read _, (node_token n _ (wide n small) refl, (close_read [], tt)))))

inlined_ends : (o : Option ℕ) → Ends (spelled (inlined_pieces o))
inlined_ends None = refl
inlined_ends (Some n) = refl

loc_reads : (loc : Loc) → LocIsLimited loc → AllRead (loc_pieces loc)
loc_reads locs.Absent small = tt
loc_reads (locs.Node n) small =
    (comma_read _, (word_read 100 (codes "ebug-location") _ refl refl refl refl, (node_token n [] (wide n small) tt, tt)))
loc_reads (locs.Inline l) small = (
  comma_read _,
  (
    word_read 100 (codes "ebug-location") _ refl refl refl refl,
    (
      kind_read 68 (codes "ILocation") _ refl refl refl refl,
      (
        open_read _,
        (
          word_read 108 (codes "ine") _ refl refl refl refl,
          (
            colon_read _,
            (
              decimal_token l.line _ (deep l.line small.0) refl,
              (
                comma_read _,
                (
                  word_read 99 (codes "olumn") _ refl refl refl refl,
                  (
                    colon_read _,
                    (
                      decimal_token l.column _ (deep l.column small.1) refl,
                      (
                        comma_read _,
                        (
                          word_read 115 (codes "cope") _ refl refl refl refl,
                          (
                            colon_read _,
                            (
                              node_token l.scope _ (wide l.scope small.2) (inlined_ends l.inlined_at),
                              inlined_reads l.inlined_at small.3,
                            ),
                          ),
                        ),
                      ),
                    ),
                  ),
                ),
              ),
            ),
          ),
        ),
      ),
    ),
  ),
)

loc_ends : (loc : Loc) → Ends (spelled (loc_pieces loc))
loc_ends locs.Absent = tt
loc_ends (locs.Node n) = refl
loc_ends (locs.Inline l) = refl

pub tail_reads : (k : Option ℕ) (loc : Loc) → Small k → LocIsLimited loc → AllRead (tail_pieces k loc)
tail_reads None loc small at = loc_reads loc at
tail_reads (Some k) loc small at =
    (comma_read _, (word_read 100 (codes "ebug-instr-number") _ refl refl refl refl, (decimal_token k _ (deep k small) (loc_ends loc), loc_reads loc at)))

pub tail_ends : (k : Option ℕ) (loc : Loc) → Ends (spelled (tail_pieces k loc))
tail_ends None loc = loc_ends loc
tail_ends (Some k) loc = refl

-- ---- nothing is wide, and nothing is cut

narrow_number : (n : ℕ) → n ≤ MAX_NUMBER → (t : Token) → is_wide (lexemes.Integer (number_of (decimal n))) ≡ false
narrow_number n small t = ap (λ (k : Number). is_wide (lexemes.Integer k)) (decimal_read n (deep n small))

inlined_narrow : (o : Option ℕ) → AllNarrow (inlined_pieces o)
inlined_narrow None = ((λ t. refl), tt)
inlined_narrow (Some n) = ((λ t. refl), ((λ t. refl), ((λ t. refl), ((λ t. refl), ((λ t. refl), tt)))))

loc_narrow : (loc : Loc) → LocIsLimited loc → AllNarrow (loc_pieces loc)
loc_narrow locs.Absent small = tt
loc_narrow (locs.Node n) small = ((λ t. refl), ((λ t. refl), ((λ t. refl), tt)))
loc_narrow (locs.Inline l) small = (
  (λ t. refl),
  (
    (λ t. refl),
    (
      (λ t. ap is_wide written_is),
      (
        (λ t. refl),
        (
          (λ t. refl),
          (
            (λ t. refl),
            (
              narrow_number l.line small.0,
              (
                (λ t. refl),
                (
                  (λ t. refl),
                  (
                    (λ t. refl),
                    (
                      narrow_number l.column small.1,
                      (
                        (λ t. refl),
                        ((λ t. refl), ((λ t. refl), ((λ t. refl), inlined_narrow l.inlined_at))),
                      ),
                    ),
                  ),
                ),
              ),
            ),
          ),
        ),
      ),
    ),
  ),
)

pub tail_narrow : (k : Option ℕ) (loc : Loc) → Small k → LocIsLimited loc → AllNarrow (tail_pieces k loc)
tail_narrow None loc small at = loc_narrow loc at
tail_narrow (Some k) loc small at = ((λ t. refl), ((λ t. refl), (narrow_number k small, loc_narrow loc at)))

-- a mark, and a colon before a space is none
pub record IsUncut (mark : List ℕ) : Type 0 where
  pub is : IsMark mark
  pub colon : (rest : List ℕ) → Passes mark (58 ∷ []) (32 ∷ rest)

module _ (mark : List ℕ) (m : IsUncut mark) where
  node_uncut : (n : ℕ) (rest : List ℕ) → n ≤ MAX_NUMBER → Passes mark (33 ∷ decimal n) rest
  node_uncut n rest small = safe_passes mark m.is (33 ∷ decimal n) rest (decimal_safe n (wide n small))

  number_uncut : (n : ℕ) (rest : List ℕ) → n ≤ MAX_NUMBER → Passes mark (decimal n) rest
  number_uncut n rest small = safe_passes mark m.is (decimal n) rest (decimal_safe n (wide n small))

  literal : (text rest : List ℕ) → list_all is_safe text ≡ true → Passes mark text rest
  literal text rest safe = safe_passes mark m.is text rest safe

  inlined_uncut : (o : Option ℕ) → Small o → AllPass mark (inlined_pieces o)
  inlined_uncut None small = (literal (41 ∷ []) _ refl, tt)
  inlined_uncut (Some n) small =
      (literal (44 ∷ []) _ refl, (literal (codes "inlinedAt") _ refl, (m.colon _, (node_uncut n _ small, (literal (41 ∷ []) _ refl, tt)))))

  loc_uncut : (loc : Loc) → LocIsLimited loc → AllPass mark (loc_pieces loc)
  loc_uncut locs.Absent small = tt
  loc_uncut (locs.Node n) small = (literal (44 ∷ []) _ refl, (literal (codes "debug-location") _ refl, (node_uncut n [] small, tt)))
  loc_uncut (locs.Inline l) small = (
    literal (44 ∷ []) _ refl,
    (
      literal (codes "debug-location") _ refl,
      (
        literal (codes "!DILocation") _ refl,
        (
          literal (40 ∷ []) _ refl,
          (
            literal (codes "line") _ refl,
            (
              m.colon _,
              (
                number_uncut l.line _ small.0,
                (
                  literal (44 ∷ []) _ refl,
                  (
                    literal (codes "column") _ refl,
                    (
                      m.colon _,
                      (
                        number_uncut l.column _ small.1,
                        (
                          literal (44 ∷ []) _ refl,
                          (literal (codes "scope") _ refl, (m.colon _, (node_uncut l.scope _ small.2, inlined_uncut l.inlined_at small.3))),
                        ),
                      ),
                    ),
                  ),
                ),
              ),
            ),
          ),
        ),
      ),
    ),
  )

  pub tail_uncut : (k : Option ℕ) (loc : Loc) → Small k → LocIsLimited loc → AllPass mark (tail_pieces k loc)
  tail_uncut None loc small at = loc_uncut loc at
  tail_uncut (Some k) loc small at =
      (literal (44 ∷ []) _ refl, (literal (codes "debug-instr-number") _ refl, (number_uncut k _ small, loc_uncut loc at)))

-- ---- what they say

-- what lexemes say of a location: nothing, or the location behind its word
abbrev LocTail : List Lexeme → Loc → Type 0
LocTail ls loc = ((ls ≡ []) × (loc ≡ locs.Absent))
    ⊎ ((t : Token) × (ts : List Lexeme) × (ls ≡ lexemes.Comma ∷ lexemes.Word words.Location t ∷ ts) × (location_at ts ≡ Some (loc, [])))

abbrev written : (a b c : Token) → (line column scope : ℕ) → List Lexeme → List Lexeme
written a b c line column scope rest = lexemes.InlineLocation ∷ lexemes.Open ∷ lexemes.Word words.Line a ∷ lexemes.Colon ∷ lexemes.Integer (Fits (pos line))
    ∷ lexemes.Comma ∷ lexemes.Word words.Column b ∷ lexemes.Colon ∷ lexemes.Integer (Fits (pos column)) ∷ lexemes.Comma ∷ lexemes.Word words.Scope c ∷
    lexemes.Colon
    ∷ lexemes.Node scope ∷ rest

-- what lexemes say behind the scope
record InlinedIs (ls : List Lexeme) (o : Option ℕ) : Type 0 where
  says : (a b c : Token) (line column scope : ℕ) → location_at (written a b c line column scope ls) ≡ Some (
    locs.Inline
        (record { line = capped line; column = capped column; scope = scope; inlined_at = o }),
    [],
  )

inlined_parses : (line : List ℕ) (o : Option ℕ) (ls : List Lexeme) → Small o → Lexed line (inlined_pieces o) ls → InlinedIs ls o
unfolding location_at fields_at field_at
inlined_parses line None ls small (t, r, x, e, last) =
    subst (λ (xs : List Lexeme). InlinedIs xs None) (sym (e ∙ ap (λ (xs : List Lexeme). lexemes.Close ∷ xs) last)) (record { says = λ a b c l k s. refl })
inlined_parses line (Some n) ls small (t, r, x, e, (t2, r2, x2, e2, (t3, r3, x3, e3, (t4, r4, x4, e4, (t5, r5, x5, e5, last))))) =
    subst (λ (xs : List Lexeme). InlinedIs xs (Some n))
    (sym (e ∙ ap (λ (xs : List Lexeme). lexemes.Comma ∷ xs) (e2 ∙ (ap (λ (w : Word). lexemes.Word w t2 ∷ r2) inlined_is
    ∙ ap (λ (xs : List Lexeme). lexemes.Word words.InlinedAt t2 ∷ xs) (e3 ∙ ap (λ (xs : List Lexeme). lexemes.Colon ∷ xs)
    (e4 ∙ (ap (λ (m : ℕ). lexemes.Node m ∷ r4) (limited_decimal n small) ∙ ap (λ (xs : List Lexeme). lexemes.Node n ∷ xs)
    (e5 ∙ ap (λ (xs : List Lexeme). lexemes.Close ∷ xs) last))))))))
    (record { says = λ a b c l k s. refl })

integer_lexeme : (n : ℕ) (r : List Lexeme) → n ≤ MAX_NUMBER → lexemes.Integer (number_of (decimal n)) ∷ r ≡ lexemes.Integer (Fits (pos n)) ∷ r
integer_lexeme n r small = ap (λ (k : Number). lexemes.Integer k ∷ r) (decimal_read n (deep n small))

written_parses : (line : List ℕ) (l : InlineLoc) (ls : List Lexeme) → LocIsLimited (locs.Inline l) → Lexed line (written_pieces l) ls →
    location_at ls ≡ Some (locs.Inline l, [])
written_parses line l ls small (
  t1,
  r1,
  x1,
  e1,
  (
    t2,
    r2,
    x2,
    e2,
    (
      t3,
      r3,
      x3,
      e3,
      (
        t4,
        r4,
        x4,
        e4,
        (
          t5,
          r5,
          x5,
          e5,
          (
            t6,
            r6,
            x6,
            e6,
            (
              t7,
              r7,
              x7,
              e7,
              (t8, r8, x8, e8, (t9, r9, x9, e9, (t10, r10, x10, e10, (t11, r11, x11, e11, (t12, r12, x12, e12, (t13, r13, x13, e13, more)))))),
            ),
          ),
        ),
      ),
    ),
  ),
) =
    ap location_at
    (e1 ∙ (ap (λ (y : Lexeme). y ∷ r1) written_is ∙ ap (λ (xs : List Lexeme). lexemes.InlineLocation ∷ xs)
    (e2 ∙ ap (λ (xs : List Lexeme). lexemes.Open ∷ xs)
    (e3 ∙ (ap (λ (w : Word). lexemes.Word w t3 ∷ r3) line_is ∙ ap (λ (xs : List Lexeme). lexemes.Word words.Line t3 ∷ xs)
    (e4 ∙ ap (λ (xs : List Lexeme). lexemes.Colon ∷ xs)
    (e5 ∙ (integer_lexeme l.line r5 small.0 ∙ ap (λ (xs : List Lexeme). lexemes.Integer (Fits (pos l.line)) ∷ xs)
    (e6 ∙ ap (λ (xs : List Lexeme). lexemes.Comma ∷ xs)
    (e7 ∙ (ap (λ (w : Word). lexemes.Word w t7 ∷ r7) column_is ∙ ap (λ (xs : List Lexeme). lexemes.Word words.Column t7 ∷ xs)
    (e8 ∙ ap (λ (xs : List Lexeme). lexemes.Colon ∷ xs)
    (e9 ∙ (integer_lexeme l.column r9 small.1 ∙ ap (λ (xs : List Lexeme). lexemes.Integer (Fits (pos l.column)) ∷ xs)
    (e10 ∙ ap (λ (xs : List Lexeme). lexemes.Comma ∷ xs)
    (e11 ∙ (ap (λ (w : Word). lexemes.Word w t11 ∷ r11) scope_is ∙ ap (λ (xs : List Lexeme). lexemes.Word words.Scope t11 ∷ xs)
    (e12 ∙ ap (λ (xs : List Lexeme). lexemes.Colon ∷ xs)
    (e13 ∙ ap (λ (m : ℕ). lexemes.Node m ∷ r13) (limited_decimal l.scope small.2))))))))))))))))))))
    ∙ ((inlined_parses line l.inlined_at r13 small.3 more).says t3 t7 t11 l.line l.column l.scope
    ∙ (λ i. Some (
      locs.Inline (record {
        line = capped_is l.line small.0 i;
        column = capped_is l.column small.1 i;
        scope = l.scope;
        inlined_at = l.inlined_at;
      }),
      [],
    )))

loc_parses : (line : List ℕ) (loc : Loc) (ls : List Lexeme) → LocIsLimited loc → Lexed line (loc_pieces loc) ls → LocTail ls loc
unfolding location_at
loc_parses line locs.Absent ls small is = inl (is, refl)
loc_parses line (locs.Node n) ls small (t, r, x, e, (t2, r2, x2, e2, (t3, r3, x3, e3, last))) = inr (
  t2,
  r2,
  e ∙ ap (λ (xs : List Lexeme). lexemes.Comma ∷ xs) (e2 ∙ ap (λ (w : Word). lexemes.Word w t2 ∷ r2) location_is),
  ap location_at (e3 ∙ ap (λ (xs : List Lexeme). lexemes.Node (limited (decimal n)) ∷ xs) last) ∙ ap (λ (m : ℕ). Some (locs.Node m, []))
      (limited_decimal n small),
)
loc_parses line (locs.Inline l) ls small (t, r, x, e, (t2, r2, x2, e2, more)) = inr (
  t2,
  r2,
  e ∙ ap (λ (xs : List Lexeme). lexemes.Comma ∷ xs) (e2 ∙ ap (λ (w : Word). lexemes.Word w t2 ∷ r2) location_is),
  written_parses line l r2 small more,
)

-- what the end of a line says
pub record TailParsed (ls : List Lexeme) (k : Option ℕ) (loc : Loc) : Type 0 where
  pub end : IsEnd ls
  pub operand : begins_operand ls ≡ false
  pub attribute : begins_attribute ls ≡ false
  pub behind : attributes_behind ls ≡ Some (record { number = k; loc = loc })

abbrev attributes_are : Option ℕ → Loc → Attributes
attributes_are k loc = record { number = k; loc = loc }

abbrev Found : Type 0
Found = Loc × List Lexeme

loc_alone : (loc : Loc) (ls : List Lexeme) → LocTail ls loc → TailParsed ls None loc
unfolding attributes_of behind_location
loc_alone loc ls (inl (none, absent)) =
    subst (λ (x : Loc). TailParsed ls None x) (sym absent)
    (subst (λ (xs : List Lexeme). TailParsed xs None locs.Absent) (sym none)
    (record { end = record { plain = record { classless = λ n. refl; tied = refl; mask = refl }; none = refl }; operand = refl; attribute = refl; behind = refl }))
loc_alone loc ls (inr (t, ts, is, says)) =
    subst (λ (xs : List Lexeme). TailParsed xs None loc) (sym is) (record {
      end = record { plain = record { classless = λ n. refl; tied = refl; mask = refl }; none = refl };
      operand = refl;
      attribute = refl;
      behind = ap (λ (o : Option Found). o >>= λ (l : Found). behind_location l.0 l.1) says;
    })

number_then : (k : ℕ) (loc : Loc) (ls : List Lexeme) → LocTail ls loc → behind_number k ls ≡ Some (attributes_are (Some k) loc)
unfolding behind_number
number_then k loc ls (inl (none, absent)) = ap (behind_number k) none ∙ ap (λ (x : Loc). Some (attributes_are (Some k) x)) (sym absent)
number_then k loc ls (inr (t, ts, is, says)) =
    ap (behind_number k) is ∙ ap (λ (o : Option Found). o >>= λ (l : Found). ended (attributes_are (Some k) l.0) l.1) says

pub tail_parses : (line : List ℕ) (k : Option ℕ) (loc : Loc) (ls : List Lexeme) → Small k → LocIsLimited loc → Lexed line (tail_pieces k loc) ls →
    TailParsed ls k loc
unfolding attributes_of
tail_parses line None loc ls small at lexed = loc_alone loc ls (loc_parses line loc ls at lexed)
tail_parses line (Some k) loc ls small at (t, r, x, e, (t2, r2, x2, e2, (t3, r3, x3, e3, more))) =
    subst (λ (xs : List Lexeme). TailParsed xs (Some k) loc)
    (sym (e ∙ ap (λ (xs : List Lexeme). lexemes.Comma ∷ xs) (e2 ∙ (ap (λ (w : Word). lexemes.Word w t2 ∷ r2) number_is
    ∙ ap (λ (xs : List Lexeme). lexemes.Word words.InstrNumber t2 ∷ xs) (e3 ∙ integer_lexeme k r3 small)))))
    (record {
      end = record { plain = record { classless = λ n. refl; tied = refl; mask = refl }; none = refl };
      operand = refl;
      attribute = refl;
      behind = ap (λ (m : ℕ). behind_number m r3) (capped_is k small) ∙ number_then k loc r3 (loc_parses line loc r3 at more);
    })

-- nothing in it exceeds
some_within : (k : Option ℕ) → Small k → is_some_beyond k ≡ false
some_within None small = refl
some_within (Some k) small = within_number k small

loc_within : (loc : Loc) → LocIsLimited loc → loc_exceeds loc ≡ false
loc_within locs.Absent small = refl
loc_within (locs.Node n) small = within_number n small
loc_within (locs.Inline l) small = λ i. within_number l.line small.0 i || (within_number l.column small.1 i || (within_number l.scope small.2 i || some_within
    l.inlined_at small.3 i))

pub tail_within : (k : Option ℕ) (loc : Loc) → Small k → LocIsLimited loc → attributes_exceed (record { number = k; loc = loc }) ≡ false
tail_within k loc small at = λ i. some_within k small i || loc_within loc at i
