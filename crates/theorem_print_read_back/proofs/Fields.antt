-- The fields of an entry as they are printed: the steps in which an entry is read.
use Rattle.std.proofs.Common.{◌≡◌, ℕ, ◌+◌, Bool, true, false, not, ◌&&◌, ◌||◌, List, [], ◌∷◌, ◌++◌}
use Rattle.std.proofs.Common.{ap, ◌∙◌}
use Rattle.std.proofs.lemmas.Bool.{cond-true, cond-false}
use Rattle.read_lexer.specs.declared.line.Line.{Line}
use Rattle.read_metadata.specs.Token.{is_word}
use Rattle.read_declarations.specs.declared.stream.YamlToken as stream
use Rattle.read_declarations.specs.declared.entry.MappingField.{MappingField}
use Rattle.read_declarations.specs.declared.entry.MappingEntry.{MappingEntry}
use Rattle.read_declarations.specs.declared.entry.OpenList.{OpenList}
use Rattle.read_declarations.specs.declared.entry.ParserState.{ParserState}
use Rattle.read_declarations.specs.declared.entry.ParserState.TheVariants.{Outside, Key, Next}
use Rattle.read_declarations.specs.FlowMapping.{is_punctuation, is_value, has_key, entries_from}

-- a list of entries, one of which is open
abbrev pub opened : List MappingEntry → ParserState → ℕ → List MappingField → OpenList
opened es place line fields = record { entries = es; place = place; line = line; fields = fields }

module _ (lines : List Line) (cut : Bool) (es : List MappingEntry) where
  pub open_step : (last : ℕ) (a b : stream.YamlToken) (rest : List stream.YamlToken) → is_punctuation 45 a ≡ true → is_punctuation 123 b ≡ true →
      entries_from lines cut (opened es Outside last []) (a ∷ b ∷ rest) ≡ entries_from lines cut (opened es Key a.line []) rest
  unfolding entries_from
  open_step last a b rest dash brace = cond-true (is_punctuation 45 a) _ _ dash ∙ cond-true (is_punctuation 123 b) _ _ brace

  pub field_step : (n : ℕ) (fields : List MappingField) (key colon value : stream.YamlToken) (rest : List stream.YamlToken) → is_word key.token ≡ true →
      is_punctuation 58 colon ≡ true → (is_value value && not (has_key lines fields key)) ≡ true →
      entries_from lines cut (opened es Key n fields) (key ∷ colon ∷ value ∷ rest)
      ≡ entries_from lines cut (opened es Next n (fields ++ record { key = key; value = value } ∷ [])) rest
  unfolding entries_from
  field_step n fields key colon value rest word colons new =
      cond-true (is_word key.token) _ _ word
      ∙ (cond-true (is_punctuation 58 colon) _ _ colons ∙ cond-true (is_value value && not (has_key lines fields key)) _ _ new)

  pub comma_step : (n : ℕ) (fields : List MappingField) (comma : stream.YamlToken) (rest : List stream.YamlToken) → is_punctuation 44 comma ≡ true →
      entries_from lines cut (opened es Next n fields) (comma ∷ rest) ≡ entries_from lines cut (opened es Key n fields) rest
  unfolding entries_from
  comma_step n fields comma rest is =
      cond-true (is_punctuation 44 comma || is_punctuation 125 comma) _ _ (ap (λ (t : Bool). t || is_punctuation 125 comma) is)
      ∙ ap (λ (o : OpenList). entries_from lines cut o rest) (cond-true (is_punctuation 44 comma) _ _ is)

  pub close_step : (n : ℕ) (fields : List MappingField) (brace : stream.YamlToken) (rest : List stream.YamlToken) → is_punctuation 44 brace ≡ false →
      is_punctuation 125 brace ≡ true →
      entries_from lines cut (opened es Next n fields) (brace ∷ rest)
      ≡ entries_from lines cut (opened (es ++ record { line = n; fields = fields } ∷ []) Outside n []) rest
  unfolding entries_from
  close_step n fields brace rest other is =
      cond-true (is_punctuation 44 brace || is_punctuation 125 brace) _ _ (λ i. other i || is i)
      ∙ ap (λ (o : OpenList). entries_from lines cut o rest) (cond-false (is_punctuation 44 brace) _ _ other)
