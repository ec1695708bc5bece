-- The lines of a text of bytes are of bytes.
use Rattle.std.proofs.Common.{ℕ, ◌+◌, ◌-◌, ◌<◌, Bool, true, false, cond, eqb, List, [], ◌∷◌, length, take, All, get_or}
use Rattle.std.specs.List.{slice_split, onto_first, suffix_len}
use Rattle.std.specs.Str.Lines.{lines, lines_of_parts, strip_carriage_return}
use Rattle.std.proofs.lemmas.List.Elements.{All-nil, All-cons, All-head, All-tail, All-take}
use Rattle.read_lexer.specs.declared.line.Line.{Line}
use Rattle.read_documents.specs.Lines.{trimmed, numbered, lines_of}
use Rattle.readback_functions.specs.Bytes.{AreBytes}

abbrev IsByte : ℕ → Type 0
IsByte b = b < 256

first_bytes : (b : ℕ) (parts : List (List ℕ)) → b < 256 → All AreBytes parts → All AreBytes (onto_first b parts)
first_bytes b [] byte all = All-cons AreBytes (b ∷ []) [] (All-cons IsByte b [] byte (All-nil IsByte)) (All-nil AreBytes)
first_bytes b (p ∷ ps) byte all = All-cons AreBytes (b ∷ p) ps (All-cons IsByte b p byte (All-head AreBytes p ps all)) (All-tail AreBytes p ps all)

one_part : (t : Bool) (b : ℕ) (parts : List (List ℕ)) → b < 256 → All AreBytes parts → All AreBytes (cond t ([] ∷ parts) (onto_first b parts))
one_part true b parts byte all = All-cons AreBytes [] parts (All-nil IsByte) all
one_part false b parts byte all = first_bytes b parts byte all

split_bytes : (p : ℕ → Bool) (text : List ℕ) → AreBytes text → All AreBytes (slice_split p text)
split_bytes p [] bytes = All-cons AreBytes [] [] (All-nil IsByte) (All-nil AreBytes)
split_bytes p (b ∷ bs) bytes = one_part (p b) b (slice_split p bs) (All-head IsByte b bs bytes) (split_bytes p bs (All-tail IsByte b bs bytes))

stripped_bytes : (line : List ℕ) → AreBytes line → AreBytes (strip_carriage_return line)
stripped_bytes line bytes = by (eqb (get_or line (length line - 1) 0) 13) where
  by : (t : Bool) → AreBytes (cond t (take (length line - 1) line) line)
  by true = All-take IsByte (length line - 1) line bytes
  by false = bytes

parts_bytes : (parts : List (List ℕ)) → All AreBytes parts → All AreBytes (lines_of_parts parts)
parts_bytes [] all = All-nil AreBytes
parts_bytes (x ∷ []) all = by (eqb (length x) 0) where
  by : (t : Bool) → All AreBytes (cond t [] (x ∷ []))
  by true = All-nil AreBytes
  by false = all
parts_bytes (x ∷ y ∷ more) all = All-cons AreBytes (strip_carriage_return x) (lines_of_parts (y ∷ more))
    (stripped_bytes x (All-head AreBytes x (y ∷ more) all)) (parts_bytes (y ∷ more) (All-tail AreBytes x (y ∷ more) all))

-- a line of bytes
abbrev pub LineBytes : Line → Type 0
LineBytes l = AreBytes l.text

numbered_bytes : (n : ℕ) (texts : List (List ℕ)) → All AreBytes texts → All LineBytes (numbered n texts)
numbered_bytes n [] all = All-nil LineBytes
numbered_bytes n (t ∷ ts) all = All-cons LineBytes (record { number = n; text = trimmed t }) (numbered (n + 1) ts)
    (All-take IsByte (length t - suffix_len (λ b. eqb b 32) t) t (All-head AreBytes t ts all)) (numbered_bytes (n + 1) ts (All-tail AreBytes t ts all))

pub lines_bytes : (text : List ℕ) → AreBytes text → All LineBytes (lines_of text)
lines_bytes text bytes = numbered_bytes 1 (lines text) (parts_bytes (slice_split (λ b. eqb b 10) text) (split_bytes (λ b. eqb b 10) text bytes))
