-- The slots that a call passes are declared where its operands' are, and lie one behind the other where they are the first.
use Rattle.std.proofs.Common.{◌≡◌, ℕ, ◌+◌, List, [], ◌∷◌, ◌++◌, All, Contains, refl, sym, ◌∙◌, subst}
use Rattle.std.proofs.lemmas.List.Elements.{All-nil, All-cons, All-head, All-tail}
use Rattle.rv64_instr.specs.declared.operand.Operand.{Operand}
use Rattle.rv64_instr.specs.declared.operand.Operand.TheVariants.{Outgoing}
use Rattle.rv64_instr.specs.Instruction.{Instruction}
use Rattle.rv64_instr.specs.Row.{Row, Calls, row_of, outgoing_words}
use Rattle.rv64_instr.proofs.Passed.{outgoing_are}
pub use Rattle.rv64_instr.proofs.Passed.{passed_by}
use Rattle.mir_func.specs.Sound.{PassedIn, BeginWith, PassesFirst}
use Rattle.mir_func.specs.SoundFrame.{AreDoublewords}

-- the slots that a row passes to a callee
abbrev pub slots_passed : Row → List ℕ
slots_passed (Calls call) = call.outgoing
slots_passed _ = []

module _ (slots : List ℕ) where
  words_in : (os : List Operand) → All (PassedIn slots) os → All (Contains slots) (outgoing_words os)
  words_in [] h = All-nil (Contains slots)
  words_in (Outgoing n ∷ os) h =
      All-cons (Contains slots) n (outgoing_words os) (All-head (PassedIn slots) (Outgoing n) os h) (words_in os (All-tail (PassedIn slots) (Outgoing n) os h))
  words_in (o ∷ os) h = words_in os (All-tail (PassedIn slots) o os h)

  pub passed_slots : (i : Instruction) → All (PassedIn slots) i.operands → All (Contains slots) (slots_passed (row_of i))
  passed_slots i h = by_row (row_of i) refl where
    by_row : (r : Row) → row_of i ≡ r → All (Contains slots) (slots_passed r)
    by_row (Calls call) e = subst (All (Contains slots)) (sym (outgoing_are i call e)) (words_in i.operands h)
    by_row _ e = All-nil (Contains slots)

-- ---- the first ones

-- code whose operands pass the first slots, or none
pub passes_by : (slots : List ℕ) (i : Instruction) → BeginWith slots (outgoing_words i.operands) → PassesFirst slots (row_of i)
passes_by slots i h = by_row (row_of i) refl where
  by_row : (r : Row) → row_of i ≡ r → PassesFirst slots r
  by_row (Calls call) e = subst (BeginWith slots) (sym (outgoing_are i call e)) h
  by_row _ e = tt

pub passes_none : (slots : List ℕ) (i : Instruction) → outgoing_words i.operands ≡ [] → PassesFirst slots (row_of i)
passes_none slots i none = passes_by slots i (subst (BeginWith slots) (sym none) tt)

-- numbers that begin with some begin with those also if more come behind them
pub begin_longer : (ns more ms : List ℕ) → BeginWith ns ms → BeginWith (ns ++ more) ms
begin_longer ns more [] h = tt
begin_longer [] more (m ∷ ms) h = absurd h
begin_longer (n ∷ ns) more (m ∷ ms) h = (h.0, begin_longer ns more ms h.1)

pub passes_longer : (slots more : List ℕ) (r : Row) → PassesFirst slots r → PassesFirst (slots ++ more) r
passes_longer slots more (Calls call) h = begin_longer slots more call.outgoing h
passes_longer slots more _ h = tt

-- the first of doublewords that lie one behind the other lie so
pub first_doublewords : (o : ℕ) (ns ms : List ℕ) → AreDoublewords o ns → BeginWith ns ms → AreDoublewords o ms
first_doublewords o ns [] laid h = tt
first_doublewords o [] (m ∷ ms) laid h = absurd h
first_doublewords o (n ∷ ns) (m ∷ ms) laid h = (sym h.0 ∙ laid.0, first_doublewords (o + 8) ns ms laid.1 h.1)
