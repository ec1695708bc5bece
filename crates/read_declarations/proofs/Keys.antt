-- The keys of fields, found by a set.
use Rattle.std.proofs.Common.{◌≡◌, ℕ, Bool, true, cond, List, [], ◌∷◌, ◌++◌, sym, ap, ◌∙◌}
use Rattle.std.specs.Borrow.{Bor}
use Rattle.std.specs.List.{list_any}
use Rattle.std.specs.Ordering.{nat_cmp}
use Rattle.std.specs.Cmp.Lexicographic.{slice_cmp}
use Rattle.std.specs.Str.{bytes_eq}
use Rattle.std.specs.BTreeSet.{BTreeSet, Updates}
use Rattle.std.proofs.lemmas.List.Folds.{list_any-append}
use Rattle.std.proofs.lemmas.Map.Text.{is_eq-slice_cmp}
use Rattle.read_lexer.specs.declared.line.Line.{Line}
use Rattle.read_declarations.specs.declared.entry.MappingField.{MappingField}
use Rattle.read_declarations.specs.Stream.{text_at}
use Rattle.read_declarations.specs.FlowMapping.{has_text, AreKeys}
use Rattle.read_declarations.proofs.Ids.{either}

-- a set with one key more
pub keys_more : (lines : List Line) (keys new : BTreeSet (Bor (List ℕ))) (fs more : List MappingField) (f : MappingField) (k : Bor (List ℕ)) →
    AreKeys lines keys fs
    → Updates (λ (x y : Bor (List ℕ)). slice_cmp nat_cmp x.now y.now) keys new k true → k.now ≡ text_at lines f.key
    → more ≡ fs ++ f ∷ [] → AreKeys lines new more
keys_more lines keys new fs more f k are updates is longer = λ t.
    updates.0 (record k { now = t })
    ∙ ap (λ (b : Bool). cond b true (has_text keys t)) (is_eq-slice_cmp k.now t ∙ ap (λ (s : List ℕ). bytes_eq s t) is)
    ∙ ap (λ (a : Bool). cond (bytes_eq (text_at lines f.key) t) true a) (are t)
    ∙ either (list_any (λ (x : MappingField). bytes_eq (text_at lines x.key) t) fs) (bytes_eq (text_at lines f.key) t)
    ∙ sym (ap (λ (l : List MappingField). list_any (λ (x : MappingField). bytes_eq (text_at lines x.key) t) l) longer
    ∙ list_any-append (λ (x : MappingField). bytes_eq (text_at lines x.key) t) fs (f ∷ []))
