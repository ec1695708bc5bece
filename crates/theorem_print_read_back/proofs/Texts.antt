-- The lines of a function and its substitutions are those of a document, and its text is theirs.
use Rattle.std.proofs.Common.{◌≡◌, ℕ, ◌+◌, ◌<◌, ◌≤◌, List, [], ◌∷◌, ◌++◌, map, All, refl, ap, ◌∙◌, append_assoc, sym}
use Rattle.std.specs.Prelude.{codes}
use Rattle.std.specs.Fmt.{decimal}
use Rattle.std.specs.List.{flat_map}
use Rattle.std.proofs.lemmas.List.Elements.{All-nil, All-cons, All-append, All-map, All-weaker}
use Rattle.base_ids.specs.Limits.{MAX_NUMBER}
use Rattle.read_documents.specs.declared.key.Key.TheVariants.{DebugValueSubstitutions}
use Rattle.read_documents.specs.Key.{heading}
use Rattle.mir_func.specs.declared.block.Block.{Block}
use Rattle.mir_func.specs.declared.debug_substitution.DebugSubstitution.{DebugSubstitution}
use Rattle.mir_func.specs.Function.{Function}
use Rattle.mir_func.specs.Objects.{HasNoFixed}
use Rattle.mir_func.specs.Sound.{items_of}
use Rattle.mir_func_printer.specs.FuncText.{name_text, stack_text, entry_line as entry_text, some_substitutions, substitutions_text, block_text}
use Rattle.mir_func_printer.specs.FuncText.{document_with, stack_and_body, func_text}
use Rattle.read_proof.specs.Read.{EntryIsLimited}
use Rattle.readback_items.specs.Laws.{IsWritable}
use Rattle.readback_items.specs.Body.{body_lines}
use Rattle.readback_functions.specs.Document.{fed, text_of_lines, IsLine, IsIndented, IsSection, Document, document_lines, IsDocument}
use Rattle.readback_functions.specs.Declared.{name_line, stack_lines, entries_read, IsEntry}
use Rattle.theorem_print_read_back.specs.Substitutions.{entry_line, substitution_lines}
use Rattle.readback_functions.proofs.Declared.{declared_lines_are_printed}
use Rattle.readback_functions.proofs.Marks.{number_shows}
use Rattle.readback_functions.proofs.Texts.{Shows, shows_behind, line_of}
use Rattle.readback_functions.proofs.FunctionDocuments.{stack_printed, stack_section, blocks_printed, blocks_indented, name_heading}
use Rattle.readback_strip.proofs.Lines.{fed_both, fixed_none, stack_fed, blocks_fed}

-- the document of a function and its substitutions
abbrev pub document_of : Function → List DebugSubstitution → Document
document_of f es = record {
  name = name_line f.name;
  stack = stack_lines f.slots f.objects;
  substitutions = substitution_lines es;
  body = body_lines f.blocks;
}

-- ---- substitutions

entry_shows : (e : DebugSubstitution) → EntryIsLimited e → Shows (entry_line e)
entry_shows e is =
    let close : Shows (codes " }") = record { printed = refl; ends = λ so_far. refl } in
    let subreg = shows_behind (decimal e.subreg) (codes " }") (number_shows e.subreg is.subreg).printed close in
    let dstop = shows_behind (decimal e.dst.operand) _ (number_shows e.dst.operand is.dst.1).printed (shows_behind (codes ", subreg: ") _ refl subreg) in
    let dstinst = shows_behind (decimal e.dst.number) _ (number_shows e.dst.number is.dst.0).printed (shows_behind (codes ", dstop: ") _ refl dstop) in
    let srcop = shows_behind (decimal e.src.operand) _ (number_shows e.src.operand is.src.1).printed (shows_behind (codes ", dstinst: ") _ refl dstinst) in
    let srcinst = shows_behind (decimal e.src.number) _ (number_shows e.src.number is.src.0).printed (shows_behind (codes ", srcop: ") _ refl srcop) in
    shows_behind (codes "  - { srcinst: ") _ refl srcinst

entries_printed : (es : List DebugSubstitution) → All EntryIsLimited es → All IsLine (map entry_line es)
entries_printed es all = All-map IsLine entry_line es
    (All-weaker EntryIsLimited (λ e. IsLine (entry_line e)) (λ e is. line_of (entry_line e) (entry_shows e is)) es all)

substitutions_printed : (es : List DebugSubstitution) → All EntryIsLimited es → All IsLine (substitution_lines es)
substitutions_printed [] all = All-nil IsLine
substitutions_printed (e ∷ es) all =
    All-cons IsLine (codes "debugValueSubstitutions:") (map entry_line (e ∷ es)) (record { printed = refl; ends = refl }) (entries_printed (e ∷ es) all)

substitutions_section : (es : List DebugSubstitution) → IsSection DebugValueSubstitutions (substitution_lines es)
unfolding heading
substitutions_section [] = tt
substitutions_section (e ∷ es) = (refl, All-map IsIndented entry_line (e ∷ es) (λ k d lt. (_, refl)))

-- ---- the document

pub document_is : (f : Function) (es : List DebugSubstitution) → All (λ b. b < 256) f.name → All IsEntry (entries_read f.slots f.objects) →
    All EntryIsLimited es →
    All (λ (b : Block). b.id ≤ MAX_NUMBER) f.blocks → All IsWritable (items_of f.blocks) → IsDocument (document_of f es)
document_is f es bytes entries small ids items =
    let end = body_lines f.blocks ++ codes "..." ∷ [] in
    let below = substitution_lines es ++ codes "body: |" ∷ end in
    let behind = stack_lines f.slots f.objects ++ below in
    record {
      printed = All-cons IsLine (codes "---") (name_line f.name ∷ behind) (record { printed = refl; ends = refl })
          (All-cons IsLine (name_line f.name) behind (declared_lines_are_printed.names f.name bytes)
          (All-append IsLine (stack_lines f.slots f.objects) below (stack_printed f.slots f.objects entries)
          (All-append IsLine (substitution_lines es) (codes "body: |" ∷ end) (substitutions_printed es small)
          (All-cons IsLine (codes "body: |") end (record { printed = refl; ends = refl })
          (All-append IsLine (body_lines f.blocks) (codes "..." ∷ []) (blocks_printed f.blocks ids items)
          (All-cons IsLine (codes "...") [] (record { printed = refl; ends = refl }) (All-nil IsLine)))))));
      name = name_heading f.name;
      stack = stack_section f.slots f.objects;
      substitutions = substitutions_section es;
      body = blocks_indented f.blocks;
    }

-- ---- the text

pairs_regrouped : (a b c d e f g h i j k l : List ℕ) → (a ++ (b ++ (c ++ (d ++ (e ++ (f ++ (g ++ (h ++ (i ++ (j ++ k)))))))))) ++ l
    ≡ (a ++ b ++ c ++ d) ++ (e ++ f ++ g ++ h) ++ i ++ j ++ (k ++ l)
pairs_regrouped a b c d e f g h i j k l = simp append_assoc

entry_fed : (e : DebugSubstitution) → fed (entry_line e) ≡ entry_text e
unfolding entry_text
entry_fed e =
    pairs_regrouped (codes "  - { srcinst: ") (decimal e.src.number) (codes ", srcop: ") (decimal e.src.operand) (codes ", dstinst: ") (decimal e.dst.number)
    (codes ", dstop: ") (decimal e.dst.operand) (codes ", subreg: ") (decimal e.subreg) (codes " }") (10 ∷ [])

entries_fed : (es : List DebugSubstitution) → text_of_lines (map entry_line es) ≡ flat_map entry_text es
entries_fed [] = refl
entries_fed (e ∷ es) = λ i. entry_fed e i ++ entries_fed es i

substitutions_fed : (es : List DebugSubstitution) → text_of_lines (substitution_lines es) ≡ substitutions_text es
unfolding some_substitutions
substitutions_fed [] = refl
substitutions_fed (e ∷ es) = ap (λ (l : List ℕ). codes "debugValueSubstitutions:" ++ 10 ∷ [] ++ l) (entries_fed (e ∷ es))

regrouped : (a b c d e f g h : List ℕ) → a ++ ((b ++ c) ++ (d ++ (e ++ (f ++ (g ++ h))))) ≡ a ++ b ++ c ++ (d ++ e ++ f ++ g ++ h)
regrouped a b c d e f g h = simp append_assoc

pub function_fed : (f : Function) (es : List DebugSubstitution) → HasNoFixed f.objects → text_of_lines (document_lines (document_of f es)) ≡ func_text f es
unfolding func_text
function_fed f es unfixed =
    ap (λ (l : List ℕ). fed (codes "---") ++ (fed (name_line f.name) ++ l)) (fed_both (stack_lines f.slots f.objects) (substitution_lines es ++ behind)
    ∙ ((λ i. stack_fed f.slots f.objects unfixed i ++ fed_both (substitution_lines es) behind i)
    ∙ (λ i. stack_text f.slots f.objects ++ (substitutions_fed es i ++ (fed (codes "body: |") ++ ((fed_both (body_lines f.blocks) (codes "..." ∷ []) ∙
    ap (λ (l : List ℕ). l ++ text_of_lines (codes "..." ∷ [])) (blocks_fed f.blocks)) i))))))
    ∙ regrouped (codes "---" ++ 10 ∷ []) (codes "name: " ++ name_text f.name) (10 ∷ []) (stack_text f.slots f.objects) (substitutions_text es)
    (codes "body: |" ++ 10 ∷ []) (flat_map block_text f.blocks) (codes "..." ++ 10 ∷ [])
    ∙ ap (λ (l : List ℕ). document_with f (l ++ stack_and_body f es)) (sym (fixed_none f.objects unfixed))
  where
    behind : List (List ℕ)
    behind = codes "body: |" ∷ (body_lines f.blocks ++ codes "..." ∷ [])
