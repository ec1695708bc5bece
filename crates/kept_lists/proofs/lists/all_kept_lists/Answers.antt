use Rattle.std.proofs.Common.{◌≡◌, ℕ, suc, ◌+◌, List, ◌∷◌, drop, arith, sym, ◌∙◌, ap, subst}
use Rattle.std.specs.Prelude.{All}
use Rattle.std.proofs.Math.Seq.{drop-cons}
use Rattle.std.proofs.lemmas.List.Elements.{All-nil}
use Rattle.dwarf_loclists.specs.Ranges.{Ascend, ArePlaces}
use Rattle.listing_text.specs.declared.output.ListedFunction.{ListedFunction}
use Rattle.compile_function.specs.declared.compiled_function.CompiledFunction.{CompiledFunction}
use Rattle.compile_function.specs.Emitted.{AreWritable}
use Rattle.kept_lists.proofs.Appended.{AreBefore, none_before, more_before, all_before, writable_more, none_left}
use Rattle.kept_lists.proofs.lists.all_kept_lists.Goals as goal

pub loop-k-init : goal.loop-k-init
loop-k-init c = record {
  before = subst (AreBefore c.args.functions.now c.args.listed.now 0) (sym c.new-lists.ensures) (none_before c.args.functions.now c.args.listed.now);
  writable = subst AreWritable (sym c.new-lists.ensures) (record { ascend = All-nil Ascend; places = All-nil ArePlaces });
}

pub loop-k-preserved : goal.loop-k-preserved
loop-k-preserved c =
    let k = c.loop-k.k in
    let cs = c.args.functions.now in
    let fs = c.args.listed.now in
    let x = c.index-functions-k.result in
    let y = c.index-listed-k.result in
    let at_c : drop k cs ≡ x ∷ drop (suc k) cs = drop-cons cs k x c.loop-k-test.true
    ∙ ap (λ (z : CompiledFunction). z ∷ drop (suc k) cs) (sym c.index-functions-k.is) in
    let at_f : drop k fs ≡ y ∷ drop (suc k) fs = drop-cons fs k y (omega (arith, c.loop-k-test.true, c.requires))
    ∙ ap (λ (z : ListedFunction). z ∷ drop (suc k) fs) (sym c.index-listed-k.is) in
    let is = c.in_ok-push_lists.ensures in
    let one : suc k ≡ k + 1 = omega arith in
    record {
      before = subst (λ (n : ℕ). AreBefore cs fs n c.push_lists.new.lists) one
          (more_before cs fs k x y c.loop-k.lists c.push_lists.new.lists at_c at_f is c.loop-k.invariant.before);
      writable = writable_more c.loop-k.lists is.own c.push_lists.new.lists c.loop-k.invariant.writable is.writable is.appended;
    }

pub returns-clause-kept : goal.returns-clause-kept
returns-clause-kept c =
    all_before c.args.functions.now c.args.listed.now c.loop-k.k c.loop-k.lists (none_left c.args.functions.now c.loop-k.k (omega arith))
    c.loop-k.invariant.before
