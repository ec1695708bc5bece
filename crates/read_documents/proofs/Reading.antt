-- The scan over the lines of a text, as a loop does it.
use Rattle.std.proofs.Common.{◌≡◌, ℕ, ◌+◌, true, false, List, ◌∷◌, length, Option, Some, None, sym, ap, ◌∙◌}
use Rattle.std.specs.Prelude.{is_some}
use Rattle.std.specs.Str.Lines.{lines}
use Rattle.std.proofs.lemmas.List.{nil_from_length}
use Rattle.read_lexer.specs.declared.line.Line.{Line}
use Rattle.read_documents.specs.declared.scan.Scan.{Scan}
use Rattle.read_documents.specs.Lines.{trimmed, numbered}
use Rattle.read_documents.specs.steps.Scan.{scan, scan_or_stop, step, fault, fault_at_end, found}

-- the next line of a text
abbrev pub next : ℕ → List ℕ → Line
next last text = record { number = last + 1; text = text }

module _ (s : Scan) (last : ℕ) (rest line behind text : List ℕ) (cut : lines rest ≡ line ∷ lines behind) (without_spaces : text ≡ trimmed line) where
  one_line : scan s last (numbered (last + 1) (lines rest)) ≡ scan_or_stop s (fault s (next last text)) (scan (step s (next last text)) (last + 1) (numbered
      (last + 1 + 1) (lines behind)))
  unfolding scan
  one_line =
      ap (λ (texts : List (List ℕ)). scan s last (numbered (last + 1) texts)) cut
      ∙ ap (λ (t : List ℕ). scan s last (next last t ∷ numbered (last + 1 + 1) (lines behind))) (sym without_spaces)

  -- a line that shows a fault ends it
  pub stops : (bad : Option ℕ) → bad ≡ fault s (next last text) → is_some bad ≡ true → found s bad ≡ scan s last (numbered (last + 1) (lines rest))
  stops (Some n) is some = sym (one_line ∙ ap (λ (b : Option ℕ). scan_or_stop s b (scan (step s (next last text)) (last + 1) (numbered (last + 1 + 1) (lines
      behind)))) (sym is))
  stops None is some = absurd cc

  -- a line that shows none is taken
  pub goes_on : (bad : Option ℕ) → bad ≡ fault s (next last text) → is_some bad ≡ false →
      scan (step s (next last text)) (last + 1) (numbered (last + 1 + 1) (lines behind)) ≡ scan s last (numbered (last + 1) (lines rest))
  goes_on (Some n) is some = absurd cc
  goes_on None is some = sym (one_line ∙ ap (λ (b : Option ℕ). scan_or_stop s b (scan (step s (next last text)) (last + 1) (numbered (last + 1 + 1) (lines
      behind)))) (sym is))

-- the end of a text
pub ends : (s : Scan) (last : ℕ) (rest : List ℕ) → length rest ≡ 0 → found s (fault_at_end s s.function last) ≡ scan s last (numbered (last + 1) (lines rest))
unfolding scan
ends s last rest empty = sym (ap (λ (text : List ℕ). scan s last (numbered (last + 1) (lines text))) (nil_from_length rest empty))
