use Rattle.std.proofs.Common.{ℕ, ◌≤◌, List, length, Option, sym, ap, ◌∙◌, subst}
use Rattle.rv64_instr.specs.DefsAndUses.{caller_saved}
use Rattle.scan_choice.specs.Given.{given_by}
use Rattle.scan_stale.specs.Flow.{taken_by}
use Rattle.scan_stale.specs.Shared.{is_sharing}
use Rattle.scan_stale.specs.Written.{AreReal}
use Rattle.scan_stale.proofs.places.GivenPlaces.new.Goals as goal

pub all_sharing-requires : goal.all_sharing-requires
all_sharing-requires c = subst (λ (table : List (Option ℕ)). length table ≤ 4096) (sym (c.as_slice.ensures ∙ c.in_ok-table.ensures)) c.requires.few

pub taken_by_calls-calls-requires-clause-few : goal.taken_by_calls-calls-requires-clause-few
taken_by_calls-calls-requires-clause-few c =
    subst (λ (table : List (Option ℕ)). length table ≤ 4096) (sym (c.as_slice-2.ensures ∙ c.in_ok-table.ensures)) c.requires.few

pub taken_by_calls-calls-requires-clause-real : goal.taken_by_calls-calls-requires-clause-real
taken_by_calls-calls-requires-clause-real c =
    subst (λ (table : List (Option ℕ)). AreReal (given_by table)) (sym (c.as_slice-2.ensures ∙ c.in_ok-table.ensures)) c.requires.real

pub invariant_of-result : goal.invariant_of-result
invariant_of-result c = record {
  few = subst (λ (table : List (Option ℕ)). length table ≤ 4096) (sym c.in_ok-table.ensures) c.requires.few;
  real = subst (λ (table : List (Option ℕ)). AreReal (given_by table)) (sym c.in_ok-table.ensures) c.requires.real;
  long = c.in_ok-shared.ensures.long;
  each = λ q lt slots x few. c.in_ok-shared.ensures.each q lt slots x few ∙
      ap (λ (table : List (Option ℕ)). is_sharing (given_by table) q x) c.as_slice.ensures;
  called = λ slots x few. c.taken_by_calls-calls.ensures slots x few ∙
      ap (λ (table : List (Option ℕ)). taken_by (given_by table) caller_saved x) c.as_slice-2.ensures;
}
