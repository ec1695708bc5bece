use Rattle.std.specs.Option.{option_copied}
use Rattle.std.proofs.Common.{◌≡◌, ℕ, ◌∷◌, Some, length, refl, arith, ap, ◌∙◌, inl, inr}
use Rattle.std.proofs.lemmas.Result.{err_from_is_err_and}
use Rattle.dwarf_loclists.proofs.ListLemmas.{kind_none, kind_pair, list_end, no_ranges, range_more}
use Rattle.dwarf_loclists.proofs.list_reader.read_list.Goals as goal
use Rattle.dwarf_loclists.proofs.list_reader.read_list.Goals.{else-entry-address-via-then-entry-address+else-address-entry}
use Rattle.dwarf_loclists.proofs.list_reader.read_list.Goals.{else-entry-address-via-else-entry-address}

pub loop-kind-init : goal.loop-kind-init
loop-kind-init c = record {
  short = c.requires;
  so_far = λ n done s. no_ranges c.args.bytes.now n done c.args.address c.args.start.now s;
}

pub returns-in_err-kind-clause-err : goal.returns-in_err-kind-clause-err
returns-in_err-kind-clause-err c =
    let p = err_from_is_err_and c.from_residual.result c.from_residual.ensures.1 in
    rw (p.1, p.2) (λ n done s.
    let r = c.loop-kind.invariant.so_far n done s in
    kind_none c.args.bytes.now n done r.ranges c.loop-kind.rest.now _ r.stands c.in_err-kind.ensures.at c.in_err-kind.ensures.no_end
    c.in_err-kind.ensures.no_pair)

pub returns-then-kind-eq-DW_LLE_end_of_list-clause-ok : goal.returns-then-kind-eq-DW_LLE_end_of_list-clause-ok
returns-then-kind-eq-DW_LLE_end_of_list-clause-ok c = λ n done s.
    let r = c.loop-kind.invariant.so_far n done s in
    list_end c.args.bytes.now n done c.args.address c.loop-kind.last.hi c.loop-kind.last.expression.now _ c.loop-kind.rest.now c.in_ok-kind.after.now r
    (c.in_ok-kind.ensures.front ∙ ap (λ (b : ℕ). b ∷ c.in_ok-kind.after.now) c.if-kind-eq-DW_LLE_end_of_list.true)

pub returns-in_err-entry-clause-err : goal.returns-in_err-entry-clause-err
returns-in_err-entry-clause-err c =
    let p = err_from_is_err_and c.from_residual-in_err-entry.result c.from_residual-in_err-entry.ensures.1 in
    let four : c.in_ok-kind.kind ≡ 4 = elim c.in_ok-kind.ensures.kind [ inl zero ↦ absurd (c.if-kind-eq-DW_LLE_end_of_list.false zero) | inr is ↦ is ] in
    rw (p.1, p.2) (λ n done s.
    let r = c.loop-kind.invariant.so_far n done s in
    let k = kind_pair c.args.bytes.now n done r.ranges c.loop-kind.rest.now c.in_ok-kind.after.now r.stands
    (c.in_ok-kind.ensures.front ∙ ap (λ (b : ℕ). b ∷ c.in_ok-kind.after.now) four) in
    c.in_err-entry.ensures.err n done r.ranges k r.last)

pub loop-kind-preserved : goal.loop-kind-preserved
loop-kind-preserved c =
    let four : c.in_ok-kind.kind ≡ 4 = elim c.in_ok-kind.ensures.kind [ inl zero ↦ absurd (c.if-kind-eq-DW_LLE_end_of_list.false zero) | inr is ↦ is ] in
    record {
      short = omega (arith, c.in_ok-entry.ensures.shorter, c.loop-kind.invariant.short, ap length c.in_ok-kind.ensures.front);
      so_far = λ n done s.
          let r = c.loop-kind.invariant.so_far n done s in
          let k = kind_pair c.args.bytes.now n done r.ranges c.loop-kind.rest.now c.in_ok-kind.after.now r.stands
          (c.in_ok-kind.ensures.front ∙ ap (λ (b : ℕ). b ∷ c.in_ok-kind.after.now) four) in
          range_more c.args.bytes.now n done c.args.address c.loop-kind.last.hi c.loop-kind.last.expression.now _ c.loop-kind.rest.now c.in_ok-kind.after.now
          c.in_ok-entry.after.now
          c.in_ok-entry.entry.lo c.in_ok-entry.entry.hi c.in_ok-entry.entry.expression.now r (c.in_ok-entry.ensures.ok n done r.ranges k r.last)
          (option_copied c.loop-kind.found)
          (inr (
            (λ from below.
                elim c.else-entry-address.branch [
                  | else-entry-address-via-then-entry-address+else-address-entry w ↦ omega (arith, w.if-address-entry.false)
                  | else-entry-address-via-else-entry-address w ↦ omega (arith, w.if-entry-address.false)
                ]),
            refl,
          ));
    }

pub loop-kind-preserved-then-address-entry : goal.loop-kind-preserved-then-address-entry
loop-kind-preserved-then-address-entry c =
    let four : c.in_ok-kind.kind ≡ 4 = elim c.in_ok-kind.ensures.kind [ inl zero ↦ absurd (c.if-kind-eq-DW_LLE_end_of_list.false zero) | inr is ↦ is ] in
    record {
      short = omega (arith, c.in_ok-entry.ensures.shorter, c.loop-kind.invariant.short, ap length c.in_ok-kind.ensures.front);
      so_far = λ n done s.
          let r = c.loop-kind.invariant.so_far n done s in
          let k = kind_pair c.args.bytes.now n done r.ranges c.loop-kind.rest.now c.in_ok-kind.after.now r.stands
          (c.in_ok-kind.ensures.front ∙ ap (λ (b : ℕ). b ∷ c.in_ok-kind.after.now) four) in
          range_more c.args.bytes.now n done c.args.address c.loop-kind.last.hi c.loop-kind.last.expression.now _ c.loop-kind.rest.now c.in_ok-kind.after.now
          c.in_ok-entry.after.now
          c.in_ok-entry.entry.lo c.in_ok-entry.entry.hi c.in_ok-entry.entry.expression.now r (c.in_ok-entry.ensures.ok n done r.ranges k r.last)
          (Some c.in_ok-entry.entry.expression.now)
          (inl (c.if-entry-address.true, c.if-address-entry.true, refl));
    }
