-- The program that is read from an input.
use Rattle.std.specs.Prelude.{◌≡◌, Bool, ℕ, ◌+◌, ◌<◌, ◌≤◌, List, length, Option, Result, Ok, Err, All}
use Rattle.base_io.specs.Faults.{CountRose}
use Rattle.base_io.specs.Told.{Takes, TakesCount, TakesAtMost, IsAtEnd}
use Rattle.read_program.specs.declared.program.Program.{Program}
use Rattle.read_program.specs.declared.error.ParseError.{ParseError}
use Rattle.read_program.specs.declared.error.ParseError.TheVariants as errors
use Rattle.read_program.specs.Program.{ReadsText}
use Rattle.read_input.specs.declared.error.InputError.{InputError}
use Rattle.read_input.specs.declared.error.InputError.TheVariants.{Failed, TooLong, Refused, Memory}

-- the answer for a whole text; `linked` is whether the linked language is read
abbrev pub AnswersText : (linked : Bool) → (text : List ℕ) → Result Program InputError → Type 0
AnswersText linked text (Ok program) = ReadsText linked text (Ok program)
AnswersText linked text (Err (Refused r)) = ReadsText linked text (Err (errors.Refused r))
AnswersText linked text (Err Memory) = Unit {0}
AnswersText linked text (Err Failed) = ⊥
AnswersText linked text (Err TooLong) = ⊥

-- all bytes left were taken: a text within the limit that is answered so
pub record IsReadWhole (linked : Bool) (before after : Option (List ℕ)) (limit : ℕ) (answer : Result Program ParseError) : Type 0 where
  pub text : List ℕ
  pub takes : Takes before after text
  pub ended : IsAtEnd after
  pub within : length text ≤ limit
  pub bytes : All (λ b. b < 256) text
  pub reads : ReadsText linked text answer

-- The answer for an input: that for its text, which was read whole; or one byte more than the limit was taken; or a read failed, or memory ran out, and
-- no more than one byte beyond the limit was taken.
abbrev pub Answers : (linked : Bool) → (before after : Option (List ℕ)) → (faults_before faults_after : ℕ) → (limit : ℕ) → Result Program InputError → Type 0
Answers linked before after faults_before faults_after limit (Ok program) =
    IsReadWhole linked before after limit (Ok program) × (faults_after ≡ faults_before)
Answers linked before after faults_before faults_after limit (Err (Refused r)) =
    IsReadWhole linked before after limit (Err (errors.Refused r)) × (faults_after ≡ faults_before)
Answers linked before after faults_before faults_after limit (Err TooLong) = TakesCount before after (limit + 1) × (faults_after ≡ faults_before)
Answers linked before after faults_before faults_after limit (Err Failed) =
    TakesAtMost before after (limit + 1) × CountRose faults_before faults_after
Answers linked before after faults_before faults_after limit (Err Memory) = TakesAtMost before after (limit + 1)
