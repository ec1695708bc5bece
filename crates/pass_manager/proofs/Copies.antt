-- The phis that stand for copies ask for registers that are copied, and no copy moves x0.
use Rattle.std.proofs.Common.{◌≡◌, ℕ, zero, suc, ◌<◌, List, [], ◌∷◌, length, get_or, Option, Some, None, Bool, true, false, cond, nat_eq, sym, subst, arith}
use Rattle.std.proofs.Common.{refl}
use Rattle.std.specs.Prelude.{All}
use Rattle.std.proofs.lemmas.List.Elements.{All-nil, All-cons, All-head, All-tail, All-append, All-get_or}
use Rattle.std.proofs.lemmas.Option.{slice_get_within, get_or_from_slice_get}
use Rattle.rv64_instr.specs.declared.place.Place.{Place}
use Rattle.rv64_instr.specs.Instruction.{Instruction}
use Rattle.rv64_instr.specs.Row.{row_of}
use Rattle.mir_func.specs.declared.block.Block.{Block}
use Rattle.mir_func.specs.declared.item.Item.{Item}
use Rattle.mir_func.specs.declared.item.ItemKind.{ItemKind}
use Rattle.mir_func.specs.declared.item.ItemKind.TheVariants.{Code, Mark, Phi}
use Rattle.mir_func.specs.declared.position.Pos.{Pos}
use Rattle.pass_trait.specs.Change.{Change}
use Rattle.spill_pass.specs.pass_salvage.declared.salvage_action.SalvageAction.{SalvageAction}
use Rattle.spill_pass.specs.pass_salvage.declared.salvage_action.SalvageAction.TheVariants.{HasEntry, GetsEntry, GetsPhi}
use Rattle.spill_pass.specs.pass_salvage.SalvageAction.{salvage_action}
use Rattle.spill_pass.specs.pass_salvage.Salvage.{put_for}
use Rattle.copyprop_pass.specs.copyprop_block.declared.copies.CopyAction.{CopyAction}
use Rattle.copyprop_pass.specs.copyprop_block.declared.copies.CopyAction.TheVariants.{Stays, Goes, GoesWith}
use Rattle.copyprop_pass.specs.copyprop_block.declared.roots.Root.{Root}
use Rattle.copyprop_pass.specs.copyprop_block.Roots.{known_source}
use Rattle.copyprop_pass.specs.copyprop_block.Copied.{SoFar, BlocksSoFar, renamed_item, goes_by, fate_of, next_item, at_block, next_block}
use Rattle.rv64_instr.proofs.Moves.{moves_by}
use Rattle.copyprop_pass.proofs.copyprop_rule.Sizes.{known_moves}
use Rattle.copyprop_pass.specs.copyprop_rule.Rule.{begins}
use Rattle.copyprop_pass.specs.copyprop_proof.Ledger.{Line, numbered_in, numbered_line, lines_above, phi_of, line, lines_by_fate, next_lines, over_lines, lines_in, ledger}
use Rattle.copyprop_pass.specs.copyprop_proof.Rule.{copy_step}
use Rattle.pass_manager.specs.Shown.{IsGiven}

-- the register of its phi isn't x0
abbrev HasReal : Line → Type 0
HasReal l = (s : ℕ) → l.phi ≡ Some s → 0 < s

no_phi : (now : List Item) → HasReal (line now None)
no_phi now s e = cc

module _ (n : ℕ) where
  numbered_one : (now : List Item) (d : ℕ) (l : Line) (ls : List Line) (further : ℕ → List Line) → HasReal l → All HasReal ls →
      ((e : ℕ) → All HasReal (further e)) → All HasReal (numbered_in now d n l ls further)
  numbered_one [] d l ls further h rest more = All-cons HasReal l (further d) h (more d)
  numbered_one (y ∷ ys) zero l ls further h rest more = All-cons HasReal _ ls h rest
  numbered_one (y ∷ ys) (suc d) l ls further h rest more = All-cons HasReal l (further d) h (more d)

  numbered_all : (d : ℕ) (ls : List Line) → All HasReal ls → All HasReal (numbered_line d n ls)
  numbered_all d [] h = All-nil HasReal
  numbered_all d (l ∷ ls) h =
      numbered_one l.now d l ls (λ e. numbered_line e n ls) (All-head HasReal l ls h) (All-tail HasReal l ls h)
      (λ e. numbered_all e ls (All-tail HasReal l ls h))

above : (w : SalvageAction) (ls : List Line) → All HasReal ls → All HasReal (lines_above w ls)
above HasEntry ls h = h
above (GetsEntry d o n) ls h = numbered_all n d ls h
above GetsPhi ls h = h

phi_real : (w : SalvageAction) (s : ℕ) (now : List Item) → 0 < s → HasReal (line now (phi_of w s))
phi_real HasEntry s now real t e = cc
phi_real (GetsEntry d o n) s now real t e = cc
phi_real GetsPhi s now real t e = let same : s ≡ t = cc in subst (λ (z : ℕ). 0 < z) same real

-- a copy that goes with its number copies another register than x0
abbrev IsReal : CopyAction → Type 0
IsReal Stays = Unit {0}
IsReal Goes = Unit {0}
IsReal (GoesWith k s) = 0 < s

by_source : (e : List Root) (i : Instruction) (n s : Option ℕ) → known_source e (row_of i) ≡ s → IsReal (goes_by n s)
by_source e i n None is = tt
by_source e i None (Some s) is = tt
by_source e i (Some k) (Some s) is =
    let m = known_moves e (row_of i) s is in
    let w = moves_by i (suc m.0) s m.1 in
    let real : s ≡ suc w.real.0 = w.real.1 in
    omega (arith, real)

fate_real : (e : List Root) (kind : ItemKind) → IsReal (fate_of e kind)
fate_real e (Code i n) = by_source e i n (known_source e (row_of i)) refl
fate_real e (Mark v m) = tt
fate_real e (Phi p n) = tt

by_fate : (ls : List Line) (a : SoFar) (x : Item) (fate : CopyAction) → IsReal fate → All HasReal ls → All HasReal (lines_by_fate ls a x fate)
by_fate ls a x Stays real h = All-append HasReal ls (line (x ∷ []) None ∷ []) h (All-cons HasReal _ [] (no_phi (x ∷ [])) (All-nil HasReal))
by_fate ls a x Goes real h = All-append HasReal ls (line [] None ∷ []) h (All-cons HasReal _ [] (no_phi []) (All-nil HasReal))
by_fate ls a x (GoesWith k s) real h =
    let w : SalvageAction = salvage_action [] a.subs a.fresh k s a.done in
    All-append HasReal (lines_above w ls) (line (put_for w k s x.origin) (phi_of w s) ∷ []) (above w ls h)
    (All-cons HasReal _ [] (phi_real w s (put_for w k s x.origin) real) (All-nil HasReal))

over_all : (xs : List Item) (ls : List Line) (a : SoFar) → All HasReal ls → All HasReal (over_lines ls a xs)
over_all [] ls a h = h
over_all (x ∷ xs) ls a h =
    over_all xs (next_lines ls a x) (next_item a x)
    (by_fate ls a (renamed_item a.roots x) (fate_of a.roots (renamed_item a.roots x).kind) (fate_real a.roots (renamed_item a.roots x).kind) h)

in_all : (bs : List Block) (a : BlocksSoFar) (n : ℕ) → All HasReal (lines_in a bs n)
in_all [] a n = All-nil HasReal
in_all (b ∷ bs) a n =
    by_test (nat_eq b.id n) (over_all b.items [] (at_block a.subs a.fresh) (All-nil HasReal)) (in_all bs (next_block a b) n) where
      by_test : (z : Bool) → All HasReal (over_lines [] (at_block a.subs a.fresh) b.items) → All HasReal (lines_in (next_block a b) bs n) →
          All HasReal (cond z (over_lines [] (at_block a.subs a.fresh) b.items) (lines_in (next_block a b) bs n))
      by_test true here later = here
      by_test false here later = later

pub phis_given : (c : Change) (at : Pos) (p : Place) → copy_step.debug.salvages c at p → IsGiven p
phis_given c at p (l, s, has, phi, is) =
    let ls : List Line = ledger c.old c.old_subs at.block in
    let all : All HasReal ls = in_all c.old.blocks (begins c.old c.old_subs) at.block in
    let within : at.item < length ls = slice_get_within ls at.item l has.stands in
    let there : get_or ls at.item l ≡ l = get_or_from_slice_get ls at.item l l has.stands in
    let real : 0 < s = subst HasReal there (All-get_or HasReal ls at.item l within all) s phi in
    subst IsGiven (sym is) real
