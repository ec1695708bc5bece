use Rattle.std.proofs.Common.{ℕ, Bool, true, nat_lt, ◌≡◌, ◌+◌, ◌-◌, ◌^◌, ◌<◌, ◌∷◌, ◌∙◌, ap, arith}
use Rattle.std.proofs.lemmas.Bool.Decides.{nat_tests}
use Rattle.dwarf_loclists.proofs.SplitLemmas.{gap_front}
use Rattle.dwarf_loclists.proofs.split.split_gap.Goals as goal
use Rattle.dwarf_loclists.proofs.split.split_gap.Goals.{then-size-eq0, else-size-eq0}

pub returns-then-size-from-clause-none : goal.returns-then-size-from-clause-none
returns-then-size-from-clause-none c = λ offset rest onward small plain e.
    let first = c.in-Some.ensures.cases.0 ∙ ap (λ (b : ℕ). b ∷ c.in-Some.after.now) c.if-operation.false in
    let f = gap_front c.args.from c.in_ok-size.size offset c.args.bytes.now c.in-Some.after.now c.in_ok-size.rest.now rest first c.in_ok-size.ensures.some
    onward plain e in
    elim c.if-size-eq0.branch [
      | then-size-eq0 w ↦ let zero = w.if-size-eq0.true in omega (arith, f.0, f.1, zero)
      | else-size-eq0 w ↦ too_large c.args.from c.in_ok-size.size offset _ w.value-is c.if-size-from.true f.1 small
    ]
  where
    too_large : (from size offset : ℕ) (b : Bool) → b ≡ nat_lt (4294967295 - from) size → b ≡ true → offset ≡ from + size → offset < 2 ^ 32 → ⊥
    too_large from size offset b is large at small = grind (arith, nat_tests)

pub returns-else-size-from-clause-only : goal.returns-else-size-from-clause-only
returns-else-size-from-clause-only c = λ offset rest onward plain e.
    let first = c.in-Some.ensures.cases.0 ∙ ap (λ (b : ℕ). b ∷ c.in-Some.after.now) c.if-operation.false in
    let f = gap_front c.args.from c.in_ok-size.size offset c.args.bytes.now c.in-Some.after.now c.in_ok-size.rest.now rest first c.in_ok-size.ensures.some
    onward plain e in
    (f.1, f.2)
