use Rattle.std.proofs.Common.{◌≡◌, List, ℕ, ◌++◌, sym, ap, ◌∙◌, Some, None}
use Rattle.std.specs.Int.{w64}
use mir.Val.{to_z, of_z}
use Rattle.std.proofs.lemmas.Int.{to_z-of_z}
use Rattle.std.proofs.lemmas.Bool.Decides.{Decides-eqb}
use Rattle.std.proofs.lemmas.Slice.Eq.{strip_prefix_is}
use Rattle.dwarf_base.specs.Leb.{sleb_of}
use Rattle.dwarf_base.proofs.FrontLemmas.{reads_sleb}
use Rattle.dwarf_base.proofs.front.split_sleb.Goals as goal

pub returns-in_err-value-clause-none : goal.returns-in_err-value-clause-none
returns-in_err-value-clause-none c = rw c.from_residual.ensures
    (λ v rest fits e.
    let some : None ≡ Some v = reads_sleb c.args.bytes.now _ _ v rest c.in_err-value.ensures c.min.ensures fits e in cc)

pub returns-in_err-rest-clause-none : goal.returns-in_err-rest-clause-none
returns-in_err-rest-clause-none c = rw c.from_residual-in_err-rest.ensures
    (λ v rest fits e.
    let some : Some c.in_ok-value.value ≡ Some v = reads_sleb c.args.bytes.now _ _ v rest c.in_ok-value.ensures c.min.ensures fits e in
    let same : v ≡ c.in_ok-value.value = cc in
    let spelled : sleb_of v ≡ c.as_slice.result.now = ap sleb_of (sym (to_z-of_z w64 v fits) ∙ ap (λ x. to_z w64 (of_z w64 x)) same)
    ∙ sym c.sleb-spelled.ensures.bytes ∙ sym c.as_slice.ensures in
    strip_prefix_is Decides-eqb c.args.bytes.now c.as_slice.result.now None c.in_err-rest.ensures.cases rest (e ∙ ap (λ (xs : List ℕ). xs ++ rest) spelled))

pub returns-clause-some : goal.returns-clause-some
returns-clause-some c =
    strip_prefix_is Decides-eqb c.args.bytes.now c.as_slice.result.now (Some c.in_ok-rest.rest) c.in_ok-rest.ensures.cases
    ∙ ap (λ (xs : List ℕ). xs ++ c.in_ok-rest.rest.now) (c.as_slice.ensures ∙ c.sleb-spelled.ensures.bytes)
