-- What a scan has found behind the block stays, whatever lines follow.
use Rattle.std.proofs.Common.{◌≡◌, ℕ, ◌+◌, Bool, true, false, cond, List, [], ◌∷◌, ◌++◌, Option, Some, None, refl, sym, ap, ◌∙◌, append_assoc}
use Rattle.std.proofs.lemmas.List.{append-nil}
use Rattle.read_lexer.specs.declared.line.Line.{Line}
use Rattle.read_documents.specs.declared.open_function.OpenFunction.{OpenFunction}
use Rattle.read_documents.specs.declared.parts.FunctionDocument.{FunctionDocument}
use Rattle.read_documents.specs.declared.parts.Documents.{Documents}
use Rattle.read_documents.specs.declared.scan.Scan.{Scan}
use Rattle.read_documents.specs.Key.{is_close, is_passed, opens_block, opens_function}
use Rattle.read_documents.specs.Lines.{trimmed, numbered}
use Rattle.read_documents.specs.steps.Scan.{scan, scan_or_stop, step, step_in, fault, fault_in, fault_at_end, found, just_opened, taken, closed_at, block_step}
use Rattle.read_documents.specs.steps.Scan.{outside_step}
use Rattle.read_input.specs.Reading.{scan_of}

-- a scan behind the block, from one to a later one
pub record Stays (s t : Scan) : Type 0 where
  pub had_block : t.had_block ≡ true
  pub in_block : t.in_block ≡ false
  pub meta : t.meta ≡ s.meta
  pub more : List FunctionDocument
  pub functions : t.functions ≡ s.functions ++ more

module _ (s : Scan) (line : Line) (had : s.had_block ≡ true) (out : s.in_block ≡ false) where
  same : Stays s s
  same = record { had_block = had; in_block = out; meta = refl; more = []; functions = sym (append-nil s.functions) }

  in_function : (f : OpenFunction) (closes : Bool) → Stays s (cond closes (record s {
    function = None;
    functions = s.functions ++ closed_at f line.number ∷ [];
  }) (record s { function = Some (taken f line) }))
  in_function f true = record { had_block = had; in_block = out; meta = refl; more = closed_at f line.number ∷ []; functions = refl }
  in_function f false = record { had_block = had; in_block = out; meta = refl; more = []; functions = sym (append-nil s.functions) }

  outside : (passed block function : Bool)
      → cond passed None (cond block (cond s.had_block (Some line.number) None) (cond function None (Some line.number))) ≡ None
      → Stays s (cond passed s (cond block (record s { had_block = true; in_block = true }) (cond function (record s {
        function = Some (just_opened s.linked line.number);
      }) s)))
  outside true block function none = same
  outside false true function none =
      let second : Some line.number ≡ None = sym (ap (λ (b : Bool). cond b (Some line.number) None) had) ∙ none in absurd cc
  outside false false true none =
      record { had_block = had; in_block = out; meta = refl; more = []; functions = sym (append-nil s.functions) }
  outside false false false none = same

  -- outside of documents
  between : (inside : Bool) → inside ≡ false
      → cond inside None (cond (is_passed line.text) None (cond (opens_block line.text) (cond s.had_block (Some line.number) None)
      (cond (opens_function line.text) None (Some line.number)))) ≡ None
      → Stays s (cond inside (cond (is_close line.text) (record s { in_block = false }) (record s { meta = s.meta ++ line ∷ [] })) (cond (is_passed
      line.text) s (cond (opens_block line.text) (record s { had_block = true; in_block = true }) (cond (opens_function line.text) (record s {
        function = Some (just_opened s.linked line.number);
      }) s))))
  between true is none = absurd cc
  between false is none = outside (is_passed line.text) (opens_block line.text) (opens_function line.text) none

  stays_in : (f : Option OpenFunction) → fault_in s f line ≡ None → Stays s (step_in s f line)
  stays_in (Some f) none = in_function f (is_close line.text)
  stays_in None none = between s.in_block out none

-- a line that is no fault
pub step-stays : (s : Scan) (line : Line) → s.had_block ≡ true → s.in_block ≡ false → fault s line ≡ None → Stays s (step s line)
step-stays s line had out none = stays_in s line had out s.function none

-- what is found in the end begins with what was found
pub record Begins (s : Scan) (d : Documents) : Type 0 where
  pub meta : d.meta ≡ s.meta
  pub more : List FunctionDocument
  pub functions : d.functions ≡ s.functions ++ more

begins_at : (s : Scan) (bad : Option ℕ) → Begins s (found s bad)
begins_at s bad = record { meta = refl; more = []; functions = sym (append-nil s.functions) }

begins_later : (s t : Scan) (d : Documents) → Stays s t → Begins t d → Begins s d
begins_later s t d one others = record {
  meta = others.meta ∙ one.meta;
  more = one.more ++ others.more;
  functions = others.functions ∙ ap (λ fs. fs ++ others.more) one.functions ∙ append_assoc s.functions one.more others.more;
}

module _ (s : Scan) (line : Line) (others : List Line)
    (later : (t : Scan) (n : ℕ) → t.had_block ≡ true → t.in_block ≡ false → Begins t (scan t n others)) (had : s.had_block ≡ true) (out : s.in_block ≡ false)
  where
    at_fault : (bad : Option ℕ) → fault s line ≡ bad → Begins s (scan_or_stop s bad (scan (step s line) line.number others))
    at_fault (Some n) is = begins_at s (Some n)
    at_fault None is =
        let one = step-stays s line had out is in
        begins_later s (step s line) (scan (step s line) line.number others) one (later (step s line) line.number one.had_block one.in_block)

pub scan-begins : (s : Scan) (last : ℕ) (ls : List Line) → s.had_block ≡ true → s.in_block ≡ false → Begins s (scan s last ls)
unfolding scan
scan-begins s last [] had out = begins_at s (fault_at_end s s.function last)
scan-begins s last (line ∷ others) had out = at_fault s line others (λ t n h o. scan-begins t n others h o) had out (fault s line) refl

-- ---- the scan that a reader no longer holds whole

abbrev Commutes : Scan → List Line → List FunctionDocument → Line → Type 0
Commutes s block done line = step (scan_of s block done) line ≡ scan_of (step s line) block done

module _ (s : Scan) (block : List Line) (done : List FunctionDocument) (line : Line) (out : s.in_block ≡ false) where
  closing : (f : OpenFunction) (closes : Bool)
      → cond closes (record (scan_of s block done) { function = None; functions = (done ++ s.functions) ++ closed_at f line.number ∷ [] }) (record (scan_of
      s block done) { function = Some (taken f line) })
      ≡ scan_of (cond closes (record s { function = None; functions = s.functions ++ closed_at f line.number ∷ [] }) (record s {
        function = Some (taken f line);
      })) block done
  closing f true =
      let e = append_assoc done s.functions (closed_at f line.number ∷ []) in
      λ i. record (scan_of s block done) { function = None; functions = e i }
  closing f false = refl

  opening : (passed opens function : Bool)
      → cond passed (scan_of s block done) (cond opens (record (scan_of s block done) { had_block = true; in_block = true }) (cond function (record (scan_of s
      block done) { function = Some (just_opened s.linked line.number) }) (scan_of s block done)))
      ≡ scan_of (cond passed s (cond opens (record s { had_block = true; in_block = true }) (cond function (record s {
        function = Some (just_opened s.linked line.number);
      }) s))) block done
  opening true opens function = refl
  opening false true function = refl
  opening false false true = refl
  opening false false false = refl

  outside_block : (inside : Bool) → inside ≡ false
      → cond inside (block_step (scan_of s block done) line) (outside_step (scan_of s block done) line)
      ≡ scan_of (cond inside (block_step s line) (outside_step s line)) block done
  outside_block true is = absurd cc
  outside_block false is = opening (is_passed line.text) (opens_block line.text) (opens_function line.text)

  commutes_in : (f : Option OpenFunction) → step_in (scan_of s block done) f line ≡ scan_of (step_in s f line) block done
  commutes_in (Some f) = closing f (is_close line.text)
  commutes_in None = outside_block s.in_block out

-- behind the block a line changes neither what was found before nor the block
pub step-scan_of : (s : Scan) (block : List Line) (done : List FunctionDocument) (line : Line) → s.in_block ≡ false → Commutes s block done line
step-scan_of s block done line out = commutes_in s block done line out s.function

fault_in-scan_of : (s : Scan) (block : List Line) (done : List FunctionDocument) (line : Line) (f : Option OpenFunction) →
    fault_in (scan_of s block done) f line
    ≡ fault_in s f line
fault_in-scan_of s block done line (Some f) = refl
fault_in-scan_of s block done line None = refl

-- nor whether it is a fault
pub fault-scan_of : (s : Scan) (block : List Line) (done : List FunctionDocument) (line : Line) → fault (scan_of s block done) line ≡ fault s line
fault-scan_of s block done line = fault_in-scan_of s block done line s.function

-- the next line, with its number
abbrev pub next : ℕ → List ℕ → Line
next n text = record { number = n + 1; text = trimmed text }

-- a line that is no fault is taken
pub scan-takes : (s : Scan) (n : ℕ) (text : List ℕ) (behind : List (List ℕ)) → fault s (next n text) ≡ None →
    scan s n (numbered (n + 1) (text ∷ behind)) ≡ scan (step s (next n text)) (n + 1) (numbered (n + 1 + 1) behind)
unfolding scan
scan-takes s n text behind none =
    ap (λ (bad : Option ℕ). scan_or_stop s bad (scan (step s (next n text)) (n + 1) (numbered (n + 1 + 1) behind))) none

module _ (s : Scan) (block : List Line) (done : List FunctionDocument) (n : ℕ) (text : List ℕ) (behind : List (List ℕ)) where
  -- a line that is a fault ends the scan
  pub scan-stops : (bad : ℕ) → fault s (next n text) ≡ Some bad →
      scan (scan_of s block done) n (numbered (n + 1) (text ∷ behind)) ≡ found (scan_of s block done) (Some bad)
  unfolding scan
  scan-stops bad is =
      ap (λ (b : Option ℕ). scan_or_stop (scan_of s block done) b (scan (step (scan_of s block done) (next n text)) (n + 1) (numbered (n + 1 + 1) behind)))
      (fault-scan_of s block done (next n text) ∙ is)

  -- one behind the block that is none is taken
  pub scan_of-takes : s.in_block ≡ false → fault s (next n text) ≡ None → scan (scan_of s block done) n (numbered (n + 1) (text ∷ behind)) ≡
      scan (scan_of (step s (next n text)) block done) (n + 1) (numbered (n + 1 + 1) behind)
  scan_of-takes out none =
      scan-takes (scan_of s block done) n text behind (fault-scan_of s block done (next n text) ∙ none)
      ∙ ap (λ (t : Scan). scan t (n + 1) (numbered (n + 1 + 1) behind)) (step-scan_of s block done (next n text) out)

-- ---- the scan whose block is held, and whose functions aren't all

-- before the block has closed only functions are no longer held
abbrev pub scan_behind : Scan → List FunctionDocument → Scan
scan_behind s done = scan_of s s.meta done

module _ (s : Scan) (done : List FunctionDocument) (line : Line) where
  closes_behind : (f : OpenFunction) (closes : Bool)
      → cond closes (record (scan_behind s done) { function = None; functions = (done ++ s.functions) ++ closed_at f line.number ∷ [] }) (record (scan_behind s
      done) { function = Some (taken f line) })
      ≡ scan_behind (cond closes (record s { function = None; functions = s.functions ++ closed_at f line.number ∷ [] }) (record s {
        function = Some (taken f line);
      })) done
  closes_behind f true =
      let e = append_assoc done s.functions (closed_at f line.number ∷ []) in
      λ i. record (scan_behind s done) { function = None; functions = e i }
  closes_behind f false = refl

  opens_behind : (passed opens function : Bool)
      → cond passed (scan_behind s done) (cond opens (record (scan_behind s done) { had_block = true; in_block = true }) (cond function (record (scan_behind s
      done) { function = Some (just_opened s.linked line.number) }) (scan_behind s done)))
      ≡ scan_behind (cond passed s (cond opens (record s { had_block = true; in_block = true }) (cond function (record s {
        function = Some (just_opened s.linked line.number);
      }) s))) done
  opens_behind true opens function = refl
  opens_behind false true function = refl
  opens_behind false false true = refl
  opens_behind false false false = refl

  in_block_behind : (closes : Bool)
      → cond closes (record (scan_behind s done) { in_block = false }) (record (scan_behind s done) { meta = s.meta ++ line ∷ [] })
      ≡ scan_behind (cond closes (record s { in_block = false }) (record s { meta = s.meta ++ line ∷ [] })) done
  in_block_behind true = refl
  in_block_behind false = refl

  between_behind : (inside : Bool)
      → cond inside (block_step (scan_behind s done) line) (outside_step (scan_behind s done) line)
      ≡ scan_behind (cond inside (block_step s line) (outside_step s line)) done
  between_behind true = in_block_behind (is_close line.text)
  between_behind false = opens_behind (is_passed line.text) (opens_block line.text) (opens_function line.text)

  steps_behind : (f : Option OpenFunction) → step_in (scan_behind s done) f line ≡ scan_behind (step_in s f line) done
  steps_behind (Some f) = closes_behind f (is_close line.text)
  steps_behind None = between_behind s.in_block

-- a line that is no fault is taken in front of the block too
pub scan_behind-takes : (s : Scan) (done : List FunctionDocument) (n : ℕ) (text : List ℕ) (behind : List (List ℕ)) → fault s (next n text) ≡ None →
    scan (scan_behind s done) n (numbered (n + 1) (text ∷ behind)) ≡
    scan (scan_behind (step s (next n text)) done) (n + 1) (numbered (n + 1 + 1) behind)
scan_behind-takes s done n text behind none =
    scan-takes (scan_behind s done) n text behind (fault-scan_of s s.meta done (next n text) ∙ none)
    ∙ ap (λ (t : Scan). scan t (n + 1) (numbered (n + 1 + 1) behind)) (steps_behind s done (next n text) s.function)

fault_at_end_in : (s : Scan) (block : List Line) (done : List FunctionDocument) (n : ℕ) (f : Option OpenFunction) →
    fault_at_end (scan_of s block done) f n ≡ fault_at_end s f n
fault_at_end_in s block done n (Some f) = refl
fault_at_end_in s block done n None = refl

-- the end of the lines
pub scan_of-ends : (s : Scan) (block : List Line) (done : List FunctionDocument) (n : ℕ) →
    scan (scan_of s block done) n [] ≡ found (scan_of s block done) (fault_at_end s s.function n)
unfolding scan
scan_of-ends s block done n = ap (found (scan_of s block done)) (fault_at_end_in s block done n s.function)
