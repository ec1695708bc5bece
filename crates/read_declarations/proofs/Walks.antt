-- Fields and tokens are looked at one after the other.
use Rattle.std.proofs.Common.{◌≡◌, ℕ, ◌+◌, ◌<◌, ◌≤◌, Bool, true, false, ◌&&◌, cond, List, ◌∷◌, length, get_or, drop, Some, None, sym, ap, ◌∙◌}
use Rattle.std.proofs.lemmas.List.{drop_more, drop_all}
use Rattle.std.specs.Str.{bytes_eq}
use Rattle.read_lexer.specs.declared.line.Line.{Line}
use Rattle.read_declarations.specs.declared.stream.YamlToken.{YamlToken}
use Rattle.read_declarations.specs.declared.entry.MappingField.{MappingField}
use Rattle.read_declarations.specs.declared.entry.OpenList.{OpenList}
use Rattle.read_declarations.specs.Stream.{text_at}
use Rattle.read_declarations.specs.FlowMapping.{fits_at, line_at, behind, ended, bad_line, entries_from, entries_of}
use Rattle.read_declarations.specs.Field.{value_at}
use Rattle.read_lexer.specs.declared.parts.Token.{Token}
use Rattle.read_declarations.specs.Name.{is_single_at, are_single}
use Rattle.read_declarations.specs.declared.entry.MappingEntry.{MappingEntry}
use Rattle.read_declarations.specs.declared.stack.StackRead.{StackRead}
use Rattle.read_declarations.specs.declared.fixed.FixedRead.{FixedRead}
use Rattle.read_declarations.specs.declared.substitutions.SubstitutionsRead.{SubstitutionsRead}
use Rattle.read_declarations.specs.Fixed.{fixed_entry_of, fixed_judged, fixed_behind, fixed_read}
use Rattle.read_declarations.specs.Stack.{stack_entry_of, judged, stack_behind, stack_read}
use Rattle.read_declarations.specs.Substitutions.{substitution_of, substituted, substitutions_behind, substitutions_of}

module _ (lines : List Line) (key : List ℕ) (fs : List MappingField) (i : ℕ) (d : MappingField) where
  at_field : (same : Bool) → i < length fs → value_at lines key (drop i fs) ≡ value_at lines key fs →
      bytes_eq (text_at lines (get_or fs i d).key) key ≡ same →
      cond same (Some (get_or fs i d).value) (value_at lines key (drop (i + 1) fs)) ≡ value_at lines key fs
  unfolding value_at
  at_field same lt read is =
      ap (λ (b : Bool). cond b (Some (get_or fs i d).value) (value_at lines key (drop (i + 1) fs))) (sym is)
      ∙ ap (value_at lines key) (sym (drop_more fs i d lt)) ∙ read

  pub found : i < length fs → value_at lines key (drop i fs) ≡ value_at lines key fs → bytes_eq (text_at lines (get_or fs i d).key) key ≡ true
      → Some (get_or fs i d).value ≡ value_at lines key fs
  found lt read is = at_field true lt read is

  pub not_yet : i < length fs → value_at lines key (drop i fs) ≡ value_at lines key fs → bytes_eq (text_at lines (get_or fs i d).key) key ≡ false
      → value_at lines key (drop (i + 1) fs) ≡ value_at lines key fs
  not_yet lt read is = at_field false lt read is

  pub nowhere : length fs ≤ i → value_at lines key (drop i fs) ≡ value_at lines key fs → None ≡ value_at lines key fs
  unfolding value_at
  nowhere all read = ap (value_at lines key) (sym (drop_all i fs all)) ∙ read

module _ (lines : List Line) (cut : Bool) (ps : List YamlToken) (i : ℕ) (d : YamlToken) (so_far : OpenList) where
  abbrev here : YamlToken
  here = get_or ps i d

  at_piece : (fits : Bool) → i < length ps → entries_from lines cut so_far (drop i ps) ≡ entries_of lines cut ps →
      fits_at lines so_far.fields so_far.place here ≡ fits →
      cond fits (entries_from lines cut (behind so_far so_far.place here) (drop (i + 1) ps))
      (record { entries = so_far.entries; refused = Some (bad_line (line_at so_far.line so_far.place here)) }) ≡ entries_of lines cut ps
  unfolding entries_from
  at_piece fits lt read is =
      ap (λ (b : Bool). cond b (entries_from lines cut (behind so_far so_far.place here) (drop (i + 1) ps))
      (record { entries = so_far.entries; refused = Some (bad_line (line_at so_far.line so_far.place here)) })) (sym is)
      ∙ ap (entries_from lines cut so_far) (sym (drop_more ps i d lt)) ∙ read

  pub misplaced : i < length ps → entries_from lines cut so_far (drop i ps) ≡ entries_of lines cut ps → fits_at lines so_far.fields so_far.place here ≡ false
      → record { entries = so_far.entries; refused = Some (bad_line (line_at so_far.line so_far.place here)) } ≡ entries_of lines cut ps
  misplaced lt read is = at_piece false lt read is

  pub in_place : i < length ps → entries_from lines cut so_far (drop i ps) ≡ entries_of lines cut ps → fits_at lines so_far.fields so_far.place here ≡ true
      → entries_from lines cut (behind so_far so_far.place here) (drop (i + 1) ps) ≡ entries_of lines cut ps
  in_place lt read is = at_piece true lt read is

  pub none_left : length ps ≤ i → entries_from lines cut so_far (drop i ps) ≡ entries_of lines cut ps → ended cut so_far ≡ entries_of lines cut ps
  unfolding entries_from
  none_left all read = ap (entries_from lines cut so_far) (sym (drop_all i ps all)) ∙ read

module _ (lines : List Line) (es : List MappingEntry) (i : ℕ) (here : MappingEntry) where
  pub stack_more : (read next : StackRead) → i < length es → here ≡ get_or es i here → stack_behind lines read (drop i es) ≡ stack_read lines
      → next ≡ judged read here.line (stack_entry_of lines here.fields) → stack_behind lines next (drop (i + 1) es) ≡ stack_read lines
  unfolding stack_behind
  stack_more read next lt is so_far more =
      let parts : drop i es ≡ here ∷ drop (i + 1) es = drop_more es i here lt ∙ ap (λ (x : MappingEntry). x ∷ drop (i + 1) es) (sym is) in
      ap (λ (r : StackRead). stack_behind lines r (drop (i + 1) es)) more ∙ ap (stack_behind lines read) (sym parts) ∙ so_far

  pub stack_whole : (read : StackRead) → length es ≤ i → stack_behind lines read (drop i es) ≡ stack_read lines → read ≡ stack_read lines
  unfolding stack_behind
  stack_whole read all so_far = ap (stack_behind lines read) (sym (drop_all i es all)) ∙ so_far

  pub fixed_more : (room : ℕ) (read next : FixedRead) → i < length es → here ≡ get_or es i here →
      fixed_behind room lines read (drop i es) ≡ fixed_read room lines → next ≡ fixed_judged room read here.line (fixed_entry_of lines here.fields) →
      fixed_behind room lines next (drop (i + 1) es) ≡ fixed_read room lines
  unfolding fixed_behind
  fixed_more room read next lt is so_far more =
      let parts : drop i es ≡ here ∷ drop (i + 1) es = drop_more es i here lt ∙ ap (λ (x : MappingEntry). x ∷ drop (i + 1) es) (sym is) in
      ap (λ (r : FixedRead). fixed_behind room lines r (drop (i + 1) es)) more ∙ ap (fixed_behind room lines read) (sym parts) ∙ so_far

  pub fixed_whole : (room : ℕ) (read : FixedRead) → length es ≤ i → fixed_behind room lines read (drop i es) ≡ fixed_read room lines →
      read ≡ fixed_read room lines
  unfolding fixed_behind
  fixed_whole room read all so_far = ap (fixed_behind room lines read) (sym (drop_all i es all)) ∙ so_far

  pub substitutions_more : (read next : SubstitutionsRead) → i < length es → here ≡ get_or es i here →
      substitutions_behind lines read (drop i es) ≡ substitutions_of lines
      → next ≡ substituted read here.line (substitution_of lines here.fields) → substitutions_behind lines next (drop (i + 1) es) ≡ substitutions_of lines
  unfolding substitutions_behind
  substitutions_more read next lt is so_far more =
      let parts : drop i es ≡ here ∷ drop (i + 1) es = drop_more es i here lt ∙ ap (λ (x : MappingEntry). x ∷ drop (i + 1) es) (sym is) in
      ap (λ (r : SubstitutionsRead). substitutions_behind lines r (drop (i + 1) es)) more ∙ ap (substitutions_behind lines read) (sym parts) ∙ so_far

  pub substitutions_whole : (read : SubstitutionsRead) → length es ≤ i → substitutions_behind lines read (drop i es) ≡ substitutions_of lines
      → read ≡ substitutions_of lines
  unfolding substitutions_behind
  substitutions_whole read all so_far = ap (substitutions_behind lines read) (sym (drop_all i es all)) ∙ so_far

module _ (line : List ℕ) (start end : ℕ) (ts : List Token) (i : ℕ) (d : Token) where
  at_token : (fits : Bool) → i < length ts → are_single line end (drop i ts) ≡ are_single line start ts → is_single_at line end (get_or ts i d) ≡ fits →
      (fits && are_single line (get_or ts i d).end (drop (i + 1) ts)) ≡ are_single line start ts
  unfolding are_single
  at_token fits lt read is =
      ap (λ (b : Bool). b && are_single line (get_or ts i d).end (drop (i + 1) ts)) (sym is)
      ∙ ap (are_single line end) (sym (drop_more ts i d lt)) ∙ read

  pub not_single : i < length ts → are_single line end (drop i ts) ≡ are_single line start ts → is_single_at line end (get_or ts i d) ≡ false →
      false ≡ are_single line start ts
  not_single lt read is = at_token false lt read is

  pub single_so_far : i < length ts → are_single line end (drop i ts) ≡ are_single line start ts → is_single_at line end (get_or ts i d) ≡ true →
      are_single line (get_or ts i d).end (drop (i + 1) ts) ≡ are_single line start ts
  single_so_far lt read is = at_token true lt read is

  pub all_single : length ts ≤ i → are_single line end (drop i ts) ≡ are_single line start ts → true ≡ are_single line start ts
  unfolding are_single
  all_single all read = ap (are_single line end) (sym (drop_all i ts all)) ∙ read
