-- What is known of an input by the pieces that were read of it.
use Rattle.std.proofs.Common.{◌≡◌, Bool, ℕ, ◌+◌, ◌<◌, ◌≤◌, List, [], ◌++◌, length, take, Option, Result, Ok, Err, All, refl, ◌∙◌, length-append, arith}
use Rattle.std.proofs.lemmas.List.{length-take-le}
use Rattle.std.proofs.lemmas.List.Elements.{All-nil, All-append, All-take}
use Rattle.base_io.specs.Told.{Takes, TakesCount, TakesAtMost, IsAtEnd}
use Rattle.base_io.proofs.ToldLemmas.{Takes-none, Takes-more}
use Rattle.read_program.specs.declared.program.Program.{Program}
use Rattle.read_input.specs.declared.error.InputError.{InputError}
use Rattle.read_input.specs.declared.error.InputError.TheVariants.{Failed, TooLong, Refused, Memory}
use Rattle.read_input.specs.declared.reader.ProgramReader.{ProgramReader}
use Rattle.read_input.specs.Reading.{IsReadingOf}
use Rattle.read_input.specs.Input.{AnswersText, Answers}

-- the answer for an input that was read whole
pub whole : (linked : Bool) (before after : Option (List ℕ)) (faults_before faults_after limit : ℕ) (text : List ℕ) (answer : Result Program InputError) →
    Takes before after text → IsAtEnd after → length text ≤ limit → All (λ b. b < 256) text → faults_after ≡ faults_before → AnswersText linked text answer →
    Answers linked before after faults_before faults_after limit answer
whole linked before after faults_before faults_after limit text (Ok program) takes ended within bytes steady said =
    (record { text = text; takes = takes; ended = ended; within = within; bytes = bytes; reads = said }, steady)
whole linked before after faults_before faults_after limit text (Err (Refused r)) takes ended within bytes steady said =
    (record { text = text; takes = takes; ended = ended; within = within; bytes = bytes; reads = said }, steady)
whole linked before after faults_before faults_after limit text (Err Memory) takes ended within bytes steady said =
    (text, omega (arith, within), takes)
whole linked before after faults_before faults_after limit text (Err Failed) takes ended within bytes steady said = absurd said
whole linked before after faults_before faults_after limit text (Err TooLong) takes ended within bytes steady said = absurd said

-- what was taken of an input, and read
abbrev pub IsFront : (linked : Bool) → (before now : Option (List ℕ)) → ProgramReader → (taken : ℕ) → Type 0
IsFront linked before now reader taken =
    (text : List ℕ) × (length text ≡ taken) × All (λ b. b < 256) text × Takes before now text × IsReadingOf linked reader text

-- before the first piece
pub front-none : (linked : Bool) (before : Option (List ℕ)) (reader : ProgramReader) → IsReadingOf linked reader [] → IsFront linked before before reader 0
front-none linked before reader reading = ([], refl, All-nil (λ (b : ℕ). b < 256), Takes-none before, reading)

-- no more than so many bytes
pub front-within : (linked : Bool) (before now : Option (List ℕ)) (reader : ProgramReader) (taken most : ℕ) → taken ≤ most →
    IsFront linked before now reader taken →
    TakesAtMost before now most
front-within linked before now reader taken most within (text, long, all, took, reading) = (text, omega (arith, long, within), took)

-- one byte more than the limit
pub front-too_long : (linked : Bool) (before now : Option (List ℕ)) (reader : ProgramReader) (taken count : ℕ) → taken ≡ count →
    IsFront linked before now reader taken →
    TakesCount before now count
front-too_long linked before now reader taken count same (text, long, all, took, reading) = (text, long ∙ same, took)

-- the answer at the end of the input
pub front-whole : (linked : Bool) (before now : Option (List ℕ)) (faults_before faults_now limit taken : ℕ) (reader : ProgramReader)
    (answer : Result Program InputError) →
    IsAtEnd now → taken ≤ limit → faults_now ≡ faults_before → ((text : List ℕ) → IsReadingOf linked reader text → AnswersText linked text answer) →
    IsFront linked before now reader taken → Answers linked before now faults_before faults_now limit answer
front-whole linked before now faults_before faults_now limit taken reader answer ended within steady answers (text, long, all, took, reading) =
    whole linked before now faults_before faults_now limit text answer took ended (omega (arith, long, within)) all steady (answers text reading)

-- no more than so many bytes, with one piece more
pub front-most : (linked : Bool) (before now next : Option (List ℕ)) (reader : ProgramReader) (taken count most : ℕ) (piece : List ℕ) → count ≤ length piece →
    taken + count ≤ most → Takes now next (take count piece) → IsFront linked before now reader taken → TakesAtMost before next most
front-most linked before now next reader taken count most piece within fits takes (text, long, all, took, reading) =
    let piece_long = length-take-le count piece within in (
      text ++ take count piece,
      omega (arith, length-append text (take count piece), piece_long, long, fits),
      Takes-more before now next text (take count piece) took takes,
    )

-- with one piece more
pub front-more : (linked : Bool) (before now next : Option (List ℕ)) (reader after : ProgramReader) (taken count : ℕ) (piece : List ℕ) → count ≤ length piece →
    All (λ b. b < 256) piece → Takes now next (take count piece) →
    ((front : List ℕ) → IsReadingOf linked reader front → IsReadingOf linked after (front ++ take count piece)) → IsFront linked before now reader taken →
    IsFront linked before next after (taken + count)
front-more linked before now next reader after taken count piece within bytes takes reads (text, long, all, took, reading) =
    let piece_long = length-take-le count piece within in (
      text ++ take count piece,
      omega (arith, length-append text (take count piece), piece_long, long),
      All-append (λ b. b < 256) text (take count piece) all (All-take (λ b. b < 256) count piece bytes),
      Takes-more before now next text (take count piece) took takes,
      reads text reading,
    )
