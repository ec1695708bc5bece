use Rattle.std.proofs.Common.{◌≡◌, ◌++◌, List, ◌∙◌, ap, subst}
use Rattle.mir_func.specs.declared.debug_substitution.OperandPair.{OperandPair}
use Rattle.mir_func.specs.declared.variable.VarId.{VarId}
use Rattle.mir_func.specs.Graph.{block_start, framed_program}
use Rattle.mir_func.specs.Resolve.{resolve}
use Rattle.std.specs.Prelude.{Option}
use Rattle.dwarf_loclists.specs.declared.range.Range.{Range}
use Rattle.kept_ranges.specs.Lists.{AreKeptListsOf}
use Rattle.kept_lists.proofs.Appended.{places}
use Rattle.kept_lists.proofs.lists.push_lists.Goals as goal

pub returns : goal.returns
returns c =
    let function = c.args.function.now in
    let own = c.in_ok-own.own in
    let same : resolve c.in_ok-subs.subs ≡ resolve c.args.listed.now.substitutions = c.in_ok-subs.ensures ∙ ap resolve c.as_slice.ensures in
    let by_resolve = subst (λ (r : OperandPair → Option OperandPair).
    AreKeptListsOf (framed_program function.code.framed.blocks r) (block_start 0) function.code.entries c.as_slice-2.result.now own) same
    c.in_ok-own.ensures.exact in
    let are = subst (λ (vs : List VarId).
    AreKeptListsOf (framed_program function.code.framed.blocks (resolve c.args.listed.now.substitutions)) (block_start 0) function.code.entries vs own)
    c.as_slice-2.ensures by_resolve in
    record {
      own = own;
      are = are;
      writable = record {
        ascend = c.in_ok-own.ensures.ascend;
        places = places (framed_program function.code.framed.blocks (resolve c.args.listed.now.substitutions)) function.code.entries function.variables own are;
      };
      appended = c.in_ok-push_copies.ensures ∙ ap (λ (xs : List (List Range)). c.args.lists.now ++ xs) c.as_slice-3.ensures;
    }
