use Rattle.std.proofs.Common.{List, ℕ, ◌++◌, ◌∙◌, ap, None, Some}
use Rattle.std.proofs.lemmas.Bool.Decides.{Decides-eqb}
use Rattle.std.proofs.lemmas.Slice.Eq.{strip_prefix_is}
use Rattle.dwarf_loclists.proofs.ReaderLemmas.{step, stuck}
use Rattle.dwarf_loclists.proofs.header.expect.Goals as goal

pub returns-in-Some-clause-ok : goal.returns-in-Some-clause-ok
returns-in-Some-clause-ok c = λ f next s may place.
    step c.args.bytes.now f next c.args.field.now c.args.rest.now c.in-Some.after.now s
    (strip_prefix_is Decides-eqb c.args.rest.now c.args.field.now (Some c.in-Some.after) c.in-Some.ensures.cases) may place

pub returns-in-None-clause-err : goal.returns-in-None-clause-err
returns-in-None-clause-err c = λ f s goes only.
    stuck c.args.bytes.now f c.args.rest.now _ s goes c.at.ensures
    (λ here after next e may.
    strip_prefix_is Decides-eqb c.args.rest.now c.args.field.now None c.in-None.ensures.cases after
    (e ∙ ap (λ (xs : List ℕ). xs ++ after) (only here next may)))

pub returns-in-Some-clause-front : goal.returns-in-Some-clause-front
returns-in-Some-clause-front c = strip_prefix_is Decides-eqb c.args.rest.now c.args.field.now (Some c.in-Some.after) c.in-Some.ensures.cases
