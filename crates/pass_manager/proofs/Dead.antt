-- The phis that stand for dead copies ask for registers that are copied, and no copy moves x0.
use Rattle.std.proofs.Common.{◌≡◌, ℕ, zero, suc, ◌<◌, List, [], ◌∷◌, length, take, drop, get_or, Option, Some, None, Bool, true, false, cond, nat_eq}
use Rattle.std.proofs.Common.{refl, sym, subst, arith}
use Rattle.std.specs.Prelude.{All, slice_get, slice_index_or}
use Rattle.std.proofs.lemmas.List.Elements.{All-nil, All-cons, All-append, All-get_or}
use Rattle.std.proofs.lemmas.Option.{slice_get_within, get_or_from_slice_get}
use Rattle.rv64_instr.specs.declared.place.Place.{Place}
use Rattle.rv64_instr.specs.Instruction.{Instruction}
use Rattle.rv64_instr.specs.Row.{Row, Moves, row_of}
use Rattle.mir_func.specs.declared.block.Block.{Block}
use Rattle.mir_func.specs.declared.item.Item.{Item}
use Rattle.mir_func.specs.declared.item.ItemKind.{ItemKind}
use Rattle.mir_func.specs.declared.item.ItemKind.TheVariants.{Code, Mark, Phi}
use Rattle.mir_func.specs.declared.position.Pos.{Pos}
use Rattle.pass_trait.specs.Change.{Change}
use Rattle.spill_pass.specs.pass_salvage.declared.salvage_action.SalvageAction.{SalvageAction}
use Rattle.spill_pass.specs.pass_salvage.declared.salvage_action.SalvageAction.TheVariants.{HasEntry, GetsEntry, GetsPhi}
use Rattle.spill_pass.specs.pass_salvage.SalvageAction.{salvage_action}
use Rattle.rv64_instr.proofs.Moves.{moves_by}
use Rattle.dce_pass.specs.dce_salvage.declared.salvage_numbers.Copied.{Copied}
use Rattle.dce_pass.specs.dce_salvage.SalvageNumbers.{copied_by, numbered_copy, SoFar, salvage_at}
use Rattle.spill_pass.specs.pass_salvage.SalvageAction.{going_from}
use Rattle.dce_pass.specs.dce_salvage.SalvageBlocks.{BlocksSoFar, in_block, salvage_blocks}
use Rattle.dce_pass.specs.dce_salvage_proof.SalvageLaws.{begins_off}
use Rattle.dce_pass.specs.SalvageLedger.{Line, line_by, line_of, line_of_copy, lines_of, lines_down, lines_in, ledger}
use Rattle.dce_pass.specs.DebugRule.{dead_rule}
use Rattle.pass_manager.specs.Shown.{IsGiven}

-- the register of its phi isn't x0
abbrev HasReal : Line → Type 0
HasReal l = (s : ℕ) → l.phi ≡ Some s → 0 < s

-- a copy copies another register than x0
abbrev IsReal : Option Copied → Type 0
IsReal None = Unit {0}
IsReal (Some c) = 0 < c.source

copied_real : (i : Instruction) (k : ℕ) (r : Row) → row_of i ≡ r → IsReal (copied_by r k)
copied_real i k (Moves (suc rd) s) is = let w = moves_by i (suc rd) s is in let real : s ≡ suc w.real.0 = w.real.1 in omega (arith, real)
copied_real i k (Moves zero s) is = tt
copied_real i k _ is = tt

numbered_real : (k : ItemKind) → IsReal (numbered_copy k)
numbered_real (Code i (Some k)) = copied_real i k (row_of i) refl
numbered_real (Code i None) = tt
numbered_real (Mark v m) = tt
numbered_real (Phi p k) = tt

no_phi : (x : Item) → HasReal (line_of x)
no_phi x s e = cc

by_way : (w : SalvageAction) (c : Copied) (x : Item) → 0 < c.source → HasReal (line_by w c x)
by_way HasEntry c x real s e = cc
by_way (GetsEntry d o n) c x real s e = cc
by_way GetsPhi c x real s e = let same : c.source ≡ s = cc in subst (λ (z : ℕ). 0 < z) same real

module _ (removed : List ℕ) where
  of_copy : (at : ℕ) (a : SoFar) (x : Item) (c : Option Copied) → IsReal c → HasReal (line_of_copy removed at a x c)
  of_copy at a x (Some c) real = by_way (salvage_action removed a.subs a.fresh c.number c.source (take at a.items)) c x real
  of_copy at a x None real = no_phi x

  here : (at : ℕ) (goes : Bool) (a : SoFar) (o : Option Item) → All HasReal (lines_of removed at goes a o)
  here at true a (Some x) = All-cons HasReal _ [] (of_copy at a x (numbered_copy x.kind) (numbered_real x.kind)) (All-nil HasReal)
  here at false a (Some x) = All-cons HasReal _ [] (no_phi x) (All-nil HasReal)
  here at true a None = All-nil HasReal
  here at false a None = All-nil HasReal

  down : (dead : List Bool) (n : ℕ) (a : SoFar) → All HasReal (lines_down removed dead n a)
  down dead zero a = All-nil HasReal
  down dead (suc n) a =
      let goes : Bool = slice_index_or dead n false in
      All-append HasReal (lines_down removed dead n (salvage_at removed n goes a)) (lines_of removed n goes a (slice_get a.items n))
      (down dead n (salvage_at removed n goes a)) (here n goes a (slice_get a.items n))

in_all : (dead : List (List Bool)) (bs : List Block) (a : BlocksSoFar) (n : ℕ) → All HasReal (lines_in dead bs a n)
in_all dead [] a n = All-nil HasReal
in_all dead (b ∷ bs) a n =
    let own : List Bool = slice_index_or dead 0 [] in
    let first : List Line = lines_down (going_from 0 own) own (length b.items) (in_block b (salvage_blocks (drop 1 dead) bs a)) in
    by_test (nat_eq b.id n) first (lines_in (drop 1 dead) bs a n)
    (down (going_from 0 own) own (length b.items) (in_block b (salvage_blocks (drop 1 dead) bs a))) (in_all (drop 1 dead) bs a n) where
      by_test : (z : Bool) (xs ys : List Line) → All HasReal xs → All HasReal ys → All HasReal (cond z xs ys)
      by_test true xs ys here later = here
      by_test false xs ys here later = later

pub dead_phis_given : (c : Change) (at : Pos) (p : Place) → dead_rule.salvages c at p → IsGiven p
dead_phis_given c at p (l, has, s, phi, is) =
    let ls : List Line = ledger c.old c.old_subs has.dead at.block in
    let all : All HasReal ls = in_all has.dead c.old.blocks (begins_off c.old c.old_subs) at.block in
    let within : at.item < length ls = slice_get_within ls at.item l has.stands in
    let there : get_or ls at.item l ≡ l = get_or_from_slice_get ls at.item l l has.stands in
    let real : 0 < s = subst HasReal there (All-get_or HasReal ls at.item l within all) s phi in
    subst IsGiven (sym is) real
