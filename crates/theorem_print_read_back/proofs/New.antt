-- No pair has two substitutions among those that were read.
use Rattle.std.proofs.Common.{◌≡◌, ℕ, Bool, true, false, cond, List, [], ◌∷◌, ◌++◌, Option, Some, None, Ok, refl, sym, ap, subst, ◌∙◌}
use Rattle.std.proofs.Common.{append_assoc, append-nil}
use Rattle.std.specs.Prelude.{is_some}
use Rattle.read_lexer.specs.declared.line.Line.{Line}
use Rattle.read_documents.specs.declared.parts.FunctionDocument.{FunctionDocument}
use Rattle.mir_func.specs.declared.debug_substitution.DebugSubstitution as func
use Rattle.mir_func.specs.Resolve.{entry_of}
use Rattle.mir_substitution.specs.Added.{added}
use Rattle.read_declarations.specs.declared.declarations.Declarations.{Declarations}
use Rattle.read_declarations.specs.declared.entry.MappingEntry.{MappingEntry}
use Rattle.read_declarations.specs.declared.substitutions.SubstitutionsRead.{SubstitutionsRead}
use Rattle.read_declarations.specs.Declarations.{refusal_of, declared_of, declarations_of}
use Rattle.read_declarations.specs.List.{list_of}
use Rattle.read_declarations.specs.Substitutions.{substitution_of, substituted, substitutions_behind}
use Rattle.readback_functions.proofs.NameFunctions.{checked_is}
use Rattle.theorem_print_read_back.specs.Substitutions.{AreNew}

pushed : (front es : List func.DebugSubstitution) (e : func.DebugSubstitution) → AreNew front es → is_some (entry_of (front ++ es) e.src) ≡ false →
    AreNew front (es ++ e ∷ [])
pushed front [] e new none = (ap (λ (l : List func.DebugSubstitution). is_some (entry_of l e.src)) (sym (append-nil front)) ∙ none, tt)
pushed front (x ∷ es) e new none = (
  new.0,
  pushed (front ++ x ∷ []) es e new.1 (ap (λ (l : List func.DebugSubstitution). is_some (entry_of l e.src)) (append_assoc front (x ∷ []) es) ∙ none),
)

added_new : (es : List func.DebugSubstitution) (e : func.DebugSubstitution) → AreNew [] es → AreNew [] (added es e)
added_new es e new = by (is_some (entry_of es e.src)) refl where
  by : (b : Bool) → is_some (entry_of es e.src) ≡ b → AreNew [] (cond b es (es ++ e ∷ []))
  by true there = new
  by false none = pushed [] es e new none

one_new : (read : SubstitutionsRead) (line : ℕ) (e : Option func.DebugSubstitution) → AreNew [] read.entries → AreNew [] (substituted read line e).entries
one_new read line None new = new
one_new read line (Some e) new = added_new read.entries e new

all_new : (lines : List Line) (read : SubstitutionsRead) (entries : List MappingEntry) → AreNew [] read.entries →
    AreNew [] (substitutions_behind lines read entries).entries
unfolding substitutions_behind
all_new lines read [] new = new
all_new lines read (x ∷ xs) new =
    all_new lines (substituted read x.line (substitution_of lines x.fields)) xs (one_new read x.line (substitution_of lines x.fields) new)

-- the substitutions that a document declares
pub substitutions_new : (doc : FunctionDocument) (d : Declarations) → declarations_of doc ≡ Ok d → AreNew [] d.substitutions
substitutions_new doc d e =
    subst (λ (x : Declarations). AreNew [] x.substitutions) (checked_is (refusal_of doc) (declared_of doc) d e)
    (all_new doc.substitutions (record { entries = []; refused = (list_of doc.substitutions).refused }) (list_of doc.substitutions).entries tt)
