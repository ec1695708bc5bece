-- The lines of the metadata of a generated text.
use Rattle.std.proofs.Common.{◌≡◌, ℕ, ◌≤◌, List, [], ◌∷◌, ◌++◌, All, refl, sym, ◌∙◌, append_assoc, arith}
use Rattle.std.specs.Prelude.{codes}
use Rattle.std.specs.Fmt.{decimal}
use Rattle.std.proofs.lemmas.List.Elements.{All-nil, All-cons}
use Rattle.base_ids.specs.Limits.{MAX_NUMBER}
use Rattle.read_documents.specs.Key.{is_close}
use Rattle.readback_functions.specs.Document.{fed, text_of_lines, IsLine}
use Rattle.readback_functions.proofs.Marks.{number_shows}
use Rattle.readback_functions.proofs.Texts.{Printed, printed_both, shows_behind, line_of}
use Rattle.gen_text.specs.GeneratedText.{head_text, variable_line, metadata_text}
use Rattle.theorem_gen_text.specs.Laws.{variable_text, metadata_lines}
use Rattle.theorem_gen_text.proofs.Blocks.{GoesOn}

-- ---- the text of the lines

variable_fed : (n c : ℕ) → variable_line n c ≡ fed (variable_text n c)
unfolding variable_line
variable_fed n c =
    sym (append_assoc (codes "  !" ++ decimal n ++ codes " = !DILocalVariable(name: \"" ++ c ∷ []) (codes "\", scope: !2, file: !1, line: 1)") (10 ∷ []))

regrouped : (h a b c d e x : List ℕ) → (h ++ a ++ b ++ c ++ d ++ e) ++ x ≡ h ++ (a ++ (b ++ (c ++ (d ++ (e ++ x)))))
regrouped h a b c d e x = simp append_assoc

pub block_fed : (rest : List (List ℕ)) → metadata_text ++ text_of_lines rest ≡ text_of_lines (codes "--- |" ∷ (metadata_lines ++ codes "..." ∷ rest))
unfolding head_text metadata_text
block_fed rest =
    let x = text_of_lines rest in
    regrouped head_text (variable_line 10 97) (variable_line 11 98) (variable_line 12 99) (variable_line 13 100) (codes "...\n") x
    ∙ (λ i. head_text ++ (variable_fed 10 97 i ++ (variable_fed 11 98 i ++ (variable_fed 12 99 i ++ (variable_fed 13 100 i ++ (codes "...\n" ++ x))))))

-- ---- the lines

variable_is : (n c : ℕ) → n ≤ MAX_NUMBER → Printed (c ∷ []) → IsLine (variable_text n c)
variable_is n c small letter =
    let named = codes " = !DILocalVariable(name: \"" in
    line_of (variable_text n c)
    (shows_behind (codes "  !" ++ decimal n ++ named ++ c ∷ []) (codes "\", scope: !2, file: !1, line: 1)")
    (printed_both (codes "  !" ++ decimal n ++ named) (c ∷ [])
    (printed_both (codes "  !" ++ decimal n) named (printed_both (codes "  !") (decimal n) refl (number_shows n small).printed) refl) letter)
    (record { printed = refl; ends = λ so_far. refl }))

variable_goes_on : (n c : ℕ) → GoesOn (variable_text n c)
unfolding is_close
variable_goes_on n c = refl

-- what holds for each line
seven : (P : List ℕ → Type 0) → P (codes "  define void @gen() !dbg !2 { ret void }") →
    P (codes "  !1 = !DIFile(filename: \"gen.c\", directory: \"/gen\")") →
    P (codes "  !2 = distinct !DISubprogram(name: \"gen\", file: !1, line: 1)") →
    P (variable_text 10 97) → P (variable_text 11 98) → P (variable_text 12 99) → P (variable_text 13 100) → All P metadata_lines
seven P define file subprogram a b c d =
    let vd = variable_text 13 100 ∷ [] in
    let vc = variable_text 12 99 ∷ vd in
    let vb = variable_text 11 98 ∷ vc in
    let va = variable_text 10 97 ∷ vb in
    let two = codes "  !2 = distinct !DISubprogram(name: \"gen\", file: !1, line: 1)" ∷ va in
    let one = codes "  !1 = !DIFile(filename: \"gen.c\", directory: \"/gen\")" ∷ two in
    All-cons P (codes "  define void @gen() !dbg !2 { ret void }") one define
    (All-cons P (codes "  !1 = !DIFile(filename: \"gen.c\", directory: \"/gen\")") two file
    (All-cons P (codes "  !2 = distinct !DISubprogram(name: \"gen\", file: !1, line: 1)") va subprogram
    (All-cons P (variable_text 10 97) vb a (All-cons P (variable_text 11 98) vc b (All-cons P (variable_text 12 99) vd c
    (All-cons P (variable_text 13 100) [] d (All-nil P)))))))

pub lines_print : All IsLine metadata_lines
lines_print = seven IsLine (record { printed = refl; ends = refl }) (record { printed = refl; ends = refl }) (record { printed = refl; ends = refl })
    (variable_is 10 97 (omega arith) refl)
    (variable_is 11 98 (omega arith) refl)
    (variable_is 12 99 (omega arith) refl)
    (variable_is 13 100 (omega arith) refl)

heads_go_on : GoesOn (codes "  define void @gen() !dbg !2 { ret void }") × GoesOn (codes "  !1 = !DIFile(filename: \"gen.c\", directory: \"/gen\")")
    × GoesOn (codes "  !2 = distinct !DISubprogram(name: \"gen\", file: !1, line: 1)")
unfolding is_close
heads_go_on = (refl, refl, refl)

pub lines_go_on : All GoesOn metadata_lines
lines_go_on = seven GoesOn heads_go_on.0 heads_go_on.1 heads_go_on.2 (variable_goes_on 10 97) (variable_goes_on 11 98) (variable_goes_on 12 99)
    (variable_goes_on 13 100)
