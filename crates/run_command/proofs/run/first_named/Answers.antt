use Rattle.std.proofs.Common.{◌≢◌, subst, refl}
use Rattle.std.proofs.lemmas.List.{take_all}
use Rattle.std.proofs.lemmas.List.Elements.{All-more}
use Rattle.std.proofs.lemmas.Option.{slice_get_read}
use Rattle.listing_text.specs.declared.output.ListedFunction.{ListedFunction}
use Rattle.run_command.specs.Runs.{HasNone}
use Rattle.run_command.proofs.run.first_named.Goals as goal

pub returns-then-is_named : goal.returns-then-is_named
returns-then-is_named c = record {
  function = c.index-functions-number.result;
  stands = slice_get_read c.args.functions.now _ c.loop-number.number c.index-functions-number.result refl c.loop-number-test.true
      c.index-functions-number.is;
  named = c.is_named.ensures.0 c.if-is_named.true;
  first = c.loop-number.invariant;
}

pub loop-number-preserved : goal.loop-number-preserved
loop-number-preserved c =
    let P : ListedFunction → Type 0 = λ f. f.name ≢ c.args.name.now in
    let here : P c.index-functions-number.result = λ same. let named = c.is_named.ensures.1 same in cc in
    All-more P c.args.functions.now c.loop-number.number c.index-functions-number.result c.loop-number-test.true c.loop-number.invariant
    (subst P c.index-functions-number.is here)

pub returns : goal.returns
returns c =
    subst (HasNone c.args.name.now) (take_all c.loop-number.number c.args.functions.now c.loop-number-test.false) c.loop-number.invariant
