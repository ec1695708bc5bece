use Rattle.std.proofs.Common.{rules, ◌≡◌, ℕ, ◌^◌, ◌≤◌, ◌↔◌, length, arith, refl, ap, sym, ◌∙◌, subst, List}
use Rattle.std.specs.Prelude.{IfOk, IsNone}
use Rattle.dwarf_info.specs.Inlined.{inlined_spelling}
use Rattle.dwarf_info.specs.steps.Front.{HasLength}
use Rattle.dwarf_info.proofs.InlinedLemmas.{length-inlined, front_written, bytes_same}
use Rattle.dwarf_info.proofs.inlined_write.write_inlined_info.Goals as goal

pub returns-then-front_len-ge-SECTION_LIMIT-clause-none : goal.returns-then-front_len-ge-SECTION_LIMIT-clause-none
returns-then-front_len-ge-SECTION_LIMIT-clause-none c =
    let large : 2 ^ 31 ≤ length (inlined_spelling c.args.u.now) =
    omega (arith, length-inlined c.args.u.now, c.front_len.ensures, c.if-front_len-ge-SECTION_LIMIT.true) in
    (λ none. large, λ long. refl)

pub returns-then-not-branch-clause-none : goal.returns-then-not-branch-clause-none
returns-then-not-branch-clause-none c =
    let front =
    front_written c.args.u.now _ _ _ _ _ _ _ _ _ _ _ _ c.new-out.ensures.items c.in_ok-push_header.ensures c.in_ok-push_unit.ensures c.as_slice.ensures
    c.in_ok-push_types.ensures.bytes c.in_ok-push_types.ensures.offsets (sym c.deref.ensures.value) c.as_slice-2.ensures
    c.in_ok-push_abstracts.ensures.bytes c.in_ok-push_abstracts.ensures.origins (sym c.deref-2.ensures.value) c.as_slice-3.ensures c.requires in
    let large : 2 ^ 31 ≤ length (inlined_spelling c.args.u.now) = front.large (2 ^ 31) (c.in_ok-push_functions.ensures.large (search rules)) in
    (λ none. large, λ long. refl)

pub returns-clause-none : goal.returns-clause-none
returns-clause-none c =
    let front =
    front_written c.args.u.now _ _ _ _ _ _ _ _ _ _ _ _ c.new-out.ensures.items c.in_ok-push_header.ensures c.in_ok-push_unit.ensures c.as_slice.ensures
    c.in_ok-push_types.ensures.bytes c.in_ok-push_types.ensures.offsets (sym c.deref.ensures.value) c.as_slice-2.ensures
    c.in_ok-push_abstracts.ensures.bytes c.in_ok-push_abstracts.ensures.origins (sym c.deref-2.ensures.value) c.as_slice-3.ensures c.requires in
    let size = front.length_is _ _ (c.in_ok-push_functions.ensures.written (search rules)) c.in_ok-push.ensures.items in
    let same = ap (λ (xs : List ℕ). length xs) c.as_slice-4.ensures.value ∙ size in
    subst (λ (n : ℕ). IfOk c.with_length.result (λ o. IsNone o ↔ (2 ^ 31 ≤ n))) same c.with_length.ensures.none

pub returns-clause-bytes : goal.returns-clause-bytes
returns-clause-bytes c =
    let front =
    front_written c.args.u.now _ _ _ _ _ _ _ _ _ _ _ _ c.new-out.ensures.items c.in_ok-push_header.ensures c.in_ok-push_unit.ensures c.as_slice.ensures
    c.in_ok-push_types.ensures.bytes c.in_ok-push_types.ensures.offsets (sym c.deref.ensures.value) c.as_slice-2.ensures
    c.in_ok-push_abstracts.ensures.bytes c.in_ok-push_abstracts.ensures.origins (sym c.deref-2.ensures.value) c.as_slice-3.ensures c.requires in
    bytes_same c.with_length.result (HasLength c.as_slice-4.result.now) (λ bytes. bytes ≡ inlined_spelling c.args.u.now)
    (λ bytes has. front.spelled _ _ (c.in_ok-push_functions.ensures.written (search rules)) c.in_ok-push.ensures.items bytes
    (subst (λ (section : List ℕ). HasLength section bytes) c.as_slice-4.ensures.value has)) c.with_length.ensures.bytes
