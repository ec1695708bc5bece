use Rattle.std.proofs.Common.{◌≡◌, ℕ, List, ◌∷◌, Bool, sym, ap, ◌∙◌, subst}
use Rattle.std.specs.Prelude.{OnOk}
use Rattle.rv64_instr.specs.declared.place.Place.{Place}
use Rattle.rv64_instr.specs.declared.place.Place.TheVariants.{Register}
use Rattle.mir_func.specs.declared.item.ItemKind.{ItemKind}
use Rattle.pass_liveness.specs.Sets.{has}
use Rattle.pass_liveness.specs.Walk.{live_before}
use Rattle.scan_intervals.specs.Points.{CodePoint, with_point}
use Rattle.scan_liveness.specs.Described.{DescribesPending, is_in, point_of}
use Rattle.scan_liveness.proofs.walk.push_item.Goals as goal

pub push_code-requires-clause-up : goal.push_code-requires-clause-up
push_code-requires-clause-up c r =
    let slots : List ℕ = c.args.numbers.now.slots in
    c.requires.up (Register r) ∙
    ap (λ (k : ItemKind). live_before k (has slots c.args.after.now (Register r)) (Register r)) c.in-Code.is

pub returns-in_ok-push_code-in-Code-clause-quiet : goal.returns-in_ok-push_code-in-Code-clause-quiet
returns-in_ok-push_code-in-Code-clause-quiet c e r =
    ap (λ (words : List ℕ). is_in c.args.numbers.now.slots words r) c.in_ok-push_code-in-Code.ensures.pending

pub returns-in_ok-push_code-in-Code-clause-described : goal.returns-in_ok-push_code-in-Code-clause-described
returns-in_ok-push_code-in-Code-clause-described c points d =
    let slots : List ℕ = c.args.numbers.now.slots in
    subst (λ (k : ItemKind). DescribesPending (with_point k (point_of slots c.args.before.now c.args.after.now) points) c.push_code.new.masks.items
    (is_in slots c.push_code.new.pending) c.push_code.new.extents.items) (sym c.in-Code.is)
    (subst (λ (words : List ℕ). DescribesPending (point_of slots c.args.before.now c.args.after.now c.in-Code.i ∷ points) c.push_code.new.masks.items
    (is_in slots words) c.push_code.new.extents.items) (sym c.in_ok-push_code-in-Code.ensures.pending) (c.in_ok-push_code-in-Code.ensures.described points d))
