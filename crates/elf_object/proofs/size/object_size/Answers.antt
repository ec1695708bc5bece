use Rattle.std.specs.Prelude.{codes}
use Rattle.std.proofs.Common.{◌≡◌, ◌+◌, ◌*◌, ◌∷◌, ◌++◌, [], length, arith, ap, refl, ◌∙◌, inl, inr}
use Rattle.elf_object.specs.Spelling.{aligned, names_of, string_table, contents, spelling}
use Rattle.elf_object.proofs.SpellingLemmas.{size_of, names_below, contents_below}
use Rattle.elf_object.proofs.size.object_size.Goals as goal

pub returns-in_err-names-clause-none : goal.returns-in_err-names-clause-none
returns-in_err-names-clause-none c = (
  (λ _. inl (omega (
    arith,
    names_below c.args.o.now,
    ap (λ ss. length (string_table (names_of ss ++ codes ".shstrtab" ∷ []))) c.as_slice-sections.ensures,
    c.in_err-names.ensures.none.0 refl,
  ))),
  λ _. rw c.from_residual.ensures refl,
)

pub returns-in_err-end-clause-none : goal.returns-in_err-end-clause-none
returns-in_err-end-clause-none c = (
  (λ _. inl (omega (
    arith,
    contents_below c.args.o.now,
    ap (λ ss. length (contents 64 ss)) c.as_slice-sections.ensures,
    c.in_err-end.ensures.none.0 refl,
  ))),
  λ _. rw c.from_residual-in_err-end.ensures refl,
)

pub returns-then-size-lt-SECTION_LIMIT-clause-size : goal.returns-then-size-lt-SECTION_LIMIT-clause-size
returns-then-size-lt-SECTION_LIMIT-clause-size c =
    size_of c.args.o.now c.in_ok-end.end c.in_ok-names.names _
    (c.in_ok-end.ensures.end ∙ ap (λ ss. 64 + length (contents 64 ss)) c.as_slice-sections.ensures)
    (c.in_ok-names.ensures.len ∙ ap (λ ss. length (string_table (names_of ss ++ codes ".shstrtab" ∷ []))) c.as_slice-sections.ensures)
    (ap (λ n. n + 64 * (length c.as_slice-sections.result.now + 2))
    (c.aligned-2.ensures ∙ ap (λ n. aligned (n + c.in_ok-names.names)) c.aligned.ensures)
    ∙ ap (λ ss. aligned (aligned c.in_ok-end.end + c.in_ok-names.names) + 64 * (length ss + 2)) c.as_slice-sections.ensures)

pub returns-then-size-lt-SECTION_LIMIT-clause-below : goal.returns-then-size-lt-SECTION_LIMIT-clause-below
returns-then-size-lt-SECTION_LIMIT-clause-below c =
    omega (arith, returns-then-size-lt-SECTION_LIMIT-clause-size c, c.if-size-lt-SECTION_LIMIT.true)

pub returns-then-size-lt-SECTION_LIMIT-clause-none : goal.returns-then-size-lt-SECTION_LIMIT-clause-none
returns-then-size-lt-SECTION_LIMIT-clause-none c = (
  (λ e. absurd cc),
  λ either. absurd (elim either [
    | inl above ↦ omega (arith, above, returns-then-size-lt-SECTION_LIMIT-clause-size c, c.if-size-lt-SECTION_LIMIT.true)
    | inr above ↦ omega (arith, above, c.if-sections.false, ap length c.as_slice-sections.ensures)
  ]),
)

pub returns-else-size-lt-SECTION_LIMIT-clause-none : goal.returns-else-size-lt-SECTION_LIMIT-clause-none
returns-else-size-lt-SECTION_LIMIT-clause-none c =
    let size : c.aligned-2.result + 64 * (length c.as_slice-sections.result.now + 2) ≡ length (spelling c.args.o.now) =
    size_of c.args.o.now c.in_ok-end.end c.in_ok-names.names _
    (c.in_ok-end.ensures.end ∙ ap (λ ss. 64 + length (contents 64 ss)) c.as_slice-sections.ensures)
    (c.in_ok-names.ensures.len ∙ ap (λ ss. length (string_table (names_of ss ++ codes ".shstrtab" ∷ []))) c.as_slice-sections.ensures)
    (ap (λ n. n + 64 * (length c.as_slice-sections.result.now + 2))
    (c.aligned-2.ensures ∙ ap (λ n. aligned (n + c.in_ok-names.names)) c.aligned.ensures)
    ∙ ap (λ ss. aligned (aligned c.in_ok-end.end + c.in_ok-names.names) + 64 * (length ss + 2)) c.as_slice-sections.ensures) in
    ((λ _. inl (omega (arith, size, c.if-size-lt-SECTION_LIMIT.false))), λ _. refl)
