use Rattle.std.proofs.Common.{◌≡◌, ◌<◌, ◌+◌, ◌&&◌, ◌∙◌, ℕ, List, Bool, true, false, Some, length, get_or, sym, subst, arith}
use Rattle.std.specs.Prelude.{slice_get}
use Rattle.rv64_instr.specs.declared.place.Place.{Place}
use Rattle.mir_func.specs.declared.exit.Exit.{Exit}
use Rattle.mir_func.specs.declared.item.Item.{Item}
use Rattle.mir_func.specs.Exits.{exit_of}
use Rattle.mir_func.specs.Sound.{SlotsIn}
use Rattle.mir_func.proofs.Ways.{IsOut}
use Rattle.pass_liveness.specs.Sets.{has}
use Rattle.dce_analysis.specs.dce_rule.Dead.{Places}
use Rattle.dce_stale.specs.Flow.{wrong_past, goes_on, IsHanded}
use Rattle.dce_stale.specs.Sets.{Handed}
use Rattle.dce_stale.proofs.Steps.{get_item, step_at, handed_item_grows, handed_item_stays}
use Rattle.dce_stale.proofs.walk.walk_items.Goals as goal
use Rattle.dce_stale.proofs.walk.walk_items.Goals.{then-hand_out, else-hand_out}

pub loop-at-preserved : goal.loop-at-preserved
loop-at-preserved c =
    let slots : List ℕ = c.args.names.now.slots in
    let ids : List ℕ = c.args.names.now.blocks in
    let items : List Item = c.args.items.now in
    let dead : List Bool = c.args.dead.now in
    let at : ℕ = c.loop-at.at in
    let i : Item = c.index-items-at.result in
    let start : Places = has c.args.names.now.slots c.args.set.now in
    let here : Places = has c.args.names.now.slots c.loop-at.set in
    let past : Places = has c.args.names.now.slots c.step_down.new.set in
    let lt : at < length items = omega arith in
    let got : slice_get items at ≡ Some i = get_item items at i lt c.index-items-at.is in
    let there : i ≡ get_or items at i = c.index-items-at.is in
    let named : SlotsIn slots (get_or items at i).kind = c.requires.slots at i lt in
    let is : past ≡ wrong_past i.kind (get_or dead at false) here =
    (λ z x. c.step_down.ensures named x z) ∙ (λ z. wrong_past (sym there z).kind (c.verdict.ensures z) here) in
    let out : c.exit-in-loop-at.result ≡ exit_of i.kind = c.exit-in-loop-at.ensures ∙ (λ z. exit_of (sym there z).kind) in
    let away : c.exit.result ≡ exit_of i.kind = c.exit.ensures ∙ (λ z. exit_of (sym there z).kind) in
    let next : has slots c.go_on.new.set ≡ (λ (x : Place). goes_on (exit_of i.kind) && wrong_past i.kind (get_or dead at false) here x) =
    (λ z x. c.go_on.ensures x z) ∙ (λ z x. goes_on (out z) && is z x) in
    let hand : Handed slots ids c.loop-at.starts.items c.hand_out.new.starts.items (λ n x. IsOut (exit_of i.kind) n × (past x ≡ true)) c.hand_out.result =
    subst (λ (e : Exit). Handed slots ids c.loop-at.starts.items c.hand_out.new.starts.items (λ n x. IsOut e n × (past x ≡ true)) c.hand_out.result)
    away c.hand_out.ensures in
    let H : Bool → Type 0 = λ g. Handed slots ids c.args.starts.now.items c.hand_out.new.starts.items (IsHanded items dead start (at + 1)) g in
    record {
      set = step_at items dead at i start here (has slots c.go_on.new.set) got c.loop-at.invariant.set next;
      starts = elim c.if-hand_out.branch [
        | then-hand_out w ↦ subst H (sym w.grown-is)
            (handed_item_grows items dead start at i got here past c.loop-at.invariant.set is c.loop-at.invariant.starts w.if-hand_out.true hand)
        | else-hand_out w ↦ subst H (sym w.grown-is)
            (handed_item_stays items dead start at i got here past c.loop-at.invariant.set is c.loop-at.invariant.starts w.if-hand_out.false hand)
      ];
    }
