-- Pending extents, as they are stepped over code from the end of the text upwards.
use Rattle.std.proofs.Common.{◌≡◌, ℕ, zero, suc, ◌+◌, ◌-◌, ◌<◌, ◌≤◌, List, [], ◌∷◌, drop, drop-cons, get_or, length, slice_index_or, Option, Some, None, is_some}
use Rattle.std.proofs.Common.{Bool, true, false, cond, not, ◌&&◌, ◌||◌, nat_eq, refl, sym, ap, ◌∙◌, arith}
use Rattle.std.specs.Prelude.{IsTrue}
use Rattle.rv64_instr.specs.declared.operand.Operand.{Operand}
use Rattle.rv64_instr.specs.declared.place.Place.TheVariants.{Register}
use Rattle.rv64_instr.specs.Form.{has_form}
use Rattle.rv64_instr.specs.Instruction.{Instruction}
use Rattle.rv64_instr.specs.LocationEffects.{has_implicit_uses, uses_of, defines_of}
use Rattle.rv64_instr.specs.Row.{row_of}
use Rattle.mir_func.specs.declared.item.ItemKind.TheVariants.{Code}
use Rattle.pass_trait.specs.Causes.{names}
use Rattle.pass_liveness.proofs.Places.{and_true}
use Rattle.scan_intervals.specs.Points.{CodePoint}
use Rattle.scan_intervals.specs.Intervals.{touches}
use Rattle.scan_liveness.specs.declared.extents.Extent.{Extent}
use Rattle.scan_liveness.specs.Described.{stepped_at}
use Rattle.scan_liveness.specs.Extents.{from_here, widened, stepped}
use Rattle.scan_liveness.specs.Registers.{register_of}
use Rattle.scan_liveness.proofs.Named.{among, named_among, code_among, set_among}

-- ---- one extent

some_again : (n m : ℕ) (o : Option Extent) → is_some o ≡ true → from_here n o ≡ from_here n (from_here m o)
some_again n m None e = cc
some_again n m (Some x) e = refl

here_again : (n : ℕ) (o : Option Extent) → from_here n (from_here n o) ≡ from_here n o
here_again n None = refl
here_again n (Some x) = refl

here_some : (n : ℕ) (o : Option Extent) → is_some (from_here n o) ≡ true
here_some n None = refl
here_some n (Some x) = refl

-- what is pending after a step, widened up to the point, is what was pending, widened up to the point behind, and then by the point itself
pub step_right : (s b t : Bool) (n m : ℕ) (o x : Option Extent) → (b ≡ true → t ≡ true) → (s ≡ true → is_some o ≡ true) → m ≡ n - 1 →
    widened s m o ≡ x → widened b n (stepped s b t n o) ≡ widened t n x
step_right true true true n m o x live begun last e = some_again n m o (begun refl) ∙ ap (from_here n) e
step_right true true false n m o x live begun last e = let bad : false ≡ true = live refl in cc
step_right true false true n m o x live begun last e = some_again n m o (begun refl) ∙ ap (from_here n) e
step_right true false false n m o x live begun last e = ap (λ (k : ℕ). from_here k o) (sym last) ∙ e
step_right false true true n m o x live begun last e = here_again n o ∙ ap (from_here n) e
step_right false true false n m o x live begun last e = let bad : false ≡ true = live refl in cc
step_right false false t n m o x live begun last e = ap (widened t n) e

-- what is pending after a step has begun
pub step_begun : (s b t : Bool) (n : ℕ) (o : Option Extent) → (b ≡ true → t ≡ true) → (s ≡ true → is_some o ≡ true) → b ≡ true →
    is_some (stepped s b t n o) ≡ true
step_begun true true t n o live begun e = begun refl
step_begun false true true n o live begun e = here_some n o
step_begun false true false n o live begun e = let bad : false ≡ true = live refl in cc
step_begun true false t n o live begun e = cc
step_begun false false t n o live begun e = cc

-- a second step changes nothing more
step_again : (s b t : Bool) (n : ℕ) (o : Option Extent) → stepped s b t n (stepped s b t n o) ≡ stepped s b t n o
step_again true true t n o = refl
step_again true false true n o = here_again n o
step_again true false false n o = here_again (n - 1) o
step_again false b true n o = here_again n o
step_again false b false n o = refl

-- nor does one over a point that touches the register exactly if it was pending and still is
step_nothing : (s b t : Bool) (n : ℕ) (o : Option Extent) → s ≡ b → t ≡ b → stepped s b t n o ≡ o
step_nothing true true t n o e f = refl
step_nothing true false t n o e f = cc
step_nothing false true t n o e f = cc
step_nothing false false true n o e f = cc
step_nothing false false false n o e f = refl

-- ---- the operands that are left

module _ (change : ℕ → Option Extent → Option Extent) (operands : List Operand) (old : List (Option Extent)) where
  -- once the extents of the rest are changed, those of all are
  pub record Finishes (rest : List Operand) (now : List (Option Extent)) : Type 0 where
    pub long : length now ≡ length old
    pub all : (k : ℕ) → k < length old → cond (among (k + 32) rest) (change k (slice_index_or now k None)) (slice_index_or now k None) ≡
        cond (among (k + 32) operands) (change k (slice_index_or old k None)) (slice_index_or old k None)

  first_all : (os : List Operand) → drop 0 os ≡ os
  first_all [] = refl
  first_all (o ∷ os) = refl

  pub finishes_begin : Finishes (drop 0 operands) old
  finishes_begin = record {
    long = refl;
    all = λ k lt. ap (λ (os : List Operand). cond (among (k + 32) os) (change k (slice_index_or old k None)) (slice_index_or old k None)) (first_all operands);
  }

  finish : (k : ℕ) → ((o : Option Extent) → change k (change k o) ≡ change k o) → (h a : Bool) (x y : Option Extent) → y ≡ cond h (change k x) x →
      cond a (change k y) y ≡ cond (h || a) (change k x) x
  finish k again true true x y e = ap (change k) e ∙ again x
  finish k again true false x y e = e
  finish k again false true x y e = ap (change k) e
  finish k again false false x y e = e

  pub finishes_go_on : {now : List (Option Extent)} {j : ℕ} → ((k : ℕ) (o : Option Extent) → change k (change k o) ≡ change k o) →
      Finishes (drop j operands) now → (o : Operand) → j < length operands → o ≡ get_or operands j o → (more : List (Option Extent)) →
      length more ≡ length now → ((k : ℕ) → k < length now → slice_index_or more k None ≡
      cond (nat_eq (register_of o) (k + 32)) (change k (slice_index_or now k None)) (slice_index_or now k None)) → Finishes (drop (j + 1) operands) more
  finishes_go_on {now} {j} again w o lt at more long each =
      let next : j + 1 ≡ suc j = omega arith in
      let split : drop j operands ≡ o ∷ drop (j + 1) operands = drop-cons operands j o lt ∙ (λ t. sym at t ∷ drop (sym next t) operands) in
      record {
        long = long ∙ w.long;
        all = λ k less.
            finish k (again k) (nat_eq (register_of o) (k + 32)) (among (k + 32) (drop (j + 1) operands)) (slice_index_or now k None)
            (slice_index_or more k None) (each k (let same = w.long in omega (arith, less, same))) ∙
            ap (λ (os : List Operand). cond (among (k + 32) os) (change k (slice_index_or now k None)) (slice_index_or now k None)) (sym split) ∙
            w.all k less;
      }

  past : (os : List Operand) (n : ℕ) → length os ≤ n → drop n os ≡ []
  past [] zero le = refl
  past [] (suc n) le = refl
  past (o ∷ os) zero le = absurd (omega (arith, le))
  past (o ∷ os) (suc n) le = past os n (omega (arith, le))

  pub finishes_end : {now : List (Option Extent)} {j : ℕ} → Finishes (drop j operands) now → length operands ≤ j → (k : ℕ) → k < length old →
      slice_index_or now k None ≡ cond (among (k + 32) operands) (change k (slice_index_or old k None)) (slice_index_or old k None)
  finishes_end {now} {j} w le k lt =
      ap (λ (os : List Operand). cond (among (k + 32) os) (change k (slice_index_or now k None)) (slice_index_or now k None)) (sym (past operands j le)) ∙
      w.all k lt

-- ---- code

or_false_parts : (x y z : Bool) → (x || (y || z)) ≡ false → (x ≡ false) × (y ≡ false) × (z ≡ false)
or_false_parts true y z e = cc
or_false_parts false true z e = cc
or_false_parts false false z e = (refl, refl, e)

pub or_same : (x : Bool) → (x || x) ≡ x
or_same true = refl
or_same false = refl

module _ (s b a : ℕ → Bool) (i : Instruction) (at : ℕ) where
  abbrev pub here : CodePoint
  here = record { code = i; before = b; after = a }

  pub again : (k : ℕ) (o : Option Extent) → stepped_at s here at (k + 32) (stepped_at s here at (k + 32) o) ≡ stepped_at s here at (k + 32) o
  again k o = step_again (s (k + 32)) (b (k + 32)) (touches (k + 32) here) at o

  module _ (form : IsTrue (has_form i.op i.operands))
      (up : (r : ℕ) → b r ≡ (uses_of i (Register r) || (a r && not (defines_of (row_of i) (Register r))))) where
    -- a virtual register that no operand is stays live, and the code touches it only if it is
    module _ (r : ℕ) (low : 32 ≤ r) (unnamed : among r i.operands ≡ false) where
      unused : uses_of i (Register r) ≡ false
      unused = by_test (uses_of i (Register r)) refl where
        by_test : (z : Bool) → uses_of i (Register r) ≡ z → z ≡ false
        by_test false e = refl
        by_test true e = let bad : among r i.operands ≡ true = code_among i r form low e in cc

      kept : defines_of (row_of i) (Register r) ≡ false
      kept = by_test (defines_of (row_of i) (Register r)) refl where
        by_test : (z : Bool) → defines_of (row_of i) (Register r) ≡ z → z ≡ false
        by_test false e = refl
        by_test true e = let bad : among r i.operands ≡ true = set_among i r form low e in cc

      no_name : names r (Code i None) ≡ false
      no_name = by_test (names r (Code i None)) refl where
        by_test : (z : Bool) → names r (Code i None) ≡ z → z ≡ false
        by_test false e = refl
        by_test true e = let bad : among r i.operands ≡ true = named_among (has_implicit_uses (row_of i)) i.operands r e in cc

      same_live : b r ≡ a r
      same_live = up r ∙ (λ t. unused t || (a r && not (kept t))) ∙ and_true (a r)

      touched_live : touches r here ≡ a r
      touched_live = (λ t. no_name t || (same_live t || a r)) ∙ or_same (a r)

      quiet_step : s r ≡ a r → (o : Option Extent) → stepped_at s here at r o ≡ o
      quiet_step e o = step_nothing (s r) (b r) (touches r here) at o (e ∙ sym same_live) (touched_live ∙ sym same_live)

      far_step : (s r || (b r || a r)) ≡ false → (o : Option Extent) → stepped_at s here at r o ≡ o
      far_step e o =
          let parts = or_false_parts (s r) (b r) (a r) e in
          step_nothing (s r) (b r) (touches r here) at o (parts.0 ∙ sym parts.1) (touched_live ∙ sym same_live)

    any_step : (k : ℕ) (z : Bool) (o : Option Extent) →
        stepped_at s here at (k + 32) (cond z (stepped_at s here at (k + 32) o) o) ≡ stepped_at s here at (k + 32) o
    any_step k true o = again k o
    any_step k false o = refl

    -- the registers that are near are stepped, unless it is quiet, and then those of operands
    pub both_steps : (k : ℕ) (quiet : Bool) → (quiet ≡ true → (r : ℕ) → s r ≡ a r) → (x y z : Option Extent) →
        y ≡ cond (not quiet && (s (k + 32) || (b (k + 32) || a (k + 32)))) (stepped_at s here at (k + 32) x) x →
        z ≡ cond (among (k + 32) i.operands) (stepped_at s here at (k + 32) y) y → z ≡ stepped_at s here at (k + 32) x
    both_steps k quiet settled x y z e f =
        by_cases quiet (s (k + 32) || (b (k + 32) || a (k + 32))) (among (k + 32) i.operands) settled refl refl e f where
          by_cases : (q n m : Bool) → (q ≡ true → (r : ℕ) → s r ≡ a r) → (s (k + 32) || (b (k + 32) || a (k + 32))) ≡ n → among (k + 32) i.operands ≡ m →
              y ≡ cond (not q && n) (stepped_at s here at (k + 32) x) x → z ≡ cond m (stepped_at s here at (k + 32) y) y →
              z ≡ stepped_at s here at (k + 32) x
          by_cases q n true so near named e f = f ∙ ap (stepped_at s here at (k + 32)) e ∙ any_step k (not q && n) x
          by_cases true n false so near named e f = f ∙ e ∙ sym (quiet_step (k + 32) (omega arith) named (so refl (k + 32)) x)
          by_cases false true false so near named e f = f ∙ e
          by_cases false false false so near named e f = f ∙ e ∙ sym (far_step (k + 32) (omega arith) named near x)
