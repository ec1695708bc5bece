-- What followed a source follows it when calls and ends read the global registers.
use Rattle.std.proofs.Common.{◌≡◌, ℕ, Bool, List, [], ◌∷◌, map, Option, Some, None, true, false, refl, sym, ap, ◌∙◌, subst}
use Rattle.rv64_instr.specs.Instruction.{Instruction}
use Rattle.rv64_instr.specs.Row.{Row, row_of}
use Rattle.rv64_instr.specs.LocationEffects.{is_call}
use Rattle.mir_func.specs.declared.debug_substitution.DebugSubstitution.{DebugSubstitution}
use Rattle.mir_func.specs.declared.block.Block.{Block}
use Rattle.mir_func.specs.declared.item.Item.{Item}
use Rattle.mir_func.specs.declared.item.ItemKind.{ItemKind}
use Rattle.mir_func.specs.declared.item.ItemKind.TheVariants.{Code, Mark, Phi}
use Rattle.mir_func.specs.Function.{Function}
use Rattle.mir_func.specs.Sound.{IsSound}
use Rattle.mir_func.specs.Resolve.{resolve}
use Rattle.mir_func.specs.Graph.{Program, program_of}
use Rattle.sem_mir.specs.State.{Core, updated}
use Rattle.sem_mir.specs.Step.{Outcome, Falls, Goes, Gives, Traps, Asks, Breaks, act, given, numbered, with_core, do_item}
use Rattle.sem_mir.specs.Effects.{EndAlike}
use Rattle.sem_mir.specs.Follow.{OnRow, Counts}
use Rattle.sem_mir.proofs.Told.{TellsLess, SeesLess, tells_itself, item_less}
use Rattle.sem_simulation.specs.MatchStates.{OutcomesAlike}
use Rattle.pass_trait.specs.Change.{change}
use Rattle.pass_trait.specs.Simulation.{PreservesSimulation}
use Rattle.pass_salvage.proofs.Kin.{RowKin, Kin, code_kin, row_itself, kin_itself}
use Rattle.pass_salvage.proofs.Edits.{Edits, Edited, over, pair, BlocksEdited, no_blocks, next_block}
use Rattle.pass_salvage.proofs.EditRuns.{Keeps}
use Rattle.pass_salvage.proofs.EditFollows.{Allows, follows_edited}
use Rattle.global_registers.specs.Shared.{code_by, kind_by, item_by, block_by, function_by}
use Rattle.global_registers.proofs.Behind.{row_shared, defined_shared}

-- the same kind of code stands there
kin_shared : (shares : Bool) (k : ItemKind) → Kin k (kind_by shares k)
kin_shared shares (Code i n) = code_kin (subst (RowKin (row_of i)) (sym (row_shared shares i)) (row_itself (row_of i))) refl
kin_shared shares (Mark v m) = kin_itself (Mark v m)
kin_shared shares (Phi p n) = kin_itself (Phi p n)

numbered_shared : (sp shares : Bool) (i : Instruction) (n : Option ℕ) (e : Core) →
    numbered sp (is_call (row_of (code_by shares i))) n (code_by shares i).operands e ≡ numbered sp (is_call (row_of i)) n i.operands e
numbered_shared sp shares i None e = refl
numbered_shared sp shares i (Some k) e =
    let row = row_shared shares i in
    let defined_as = λ (o : ℕ). defined_shared shares (is_call (row_of i)) i o in
    ap (λ (r : Row). numbered sp (is_call r) (Some k) (code_by shares i).operands e) row
    ∙ (λ t. record e { pairs = updated k (λ o. given sp (defined_as o t) (e.pairs k o) e) e.pairs })

-- and does what it did
does_the_same : (g : Program) (shares : Bool) (k : ItemKind) (d : Core) → do_item g (kind_by shares k) d ≡ do_item g k d
does_the_same g shares (Code i n) d =
    let numbers = numbered_shared g.sees_pointer shares i n in
    let acts : act (row_of (code_by shares i)) d ≡ act (row_of i) d = ap (λ (r : Row). act r d) (row_shared shares i) in
    λ t. with_core (λ e. numbers e t) (acts t)
does_the_same g shares (Mark v m) d = refl
does_the_same g shares (Phi p n) d = refl

-- the edits of the pass, which has one stage
abbrev pub shared_edits : (shares : Bool) → Edits
shared_edits shares = record {
  Stage = Unit {0};
  entry = λ n. tt;
  IsOver = λ s. Unit {0};
  Pair = λ s next x y. y.kind ≡ kind_by shares x.kind;
  Out = λ s next x. ⊥;
  Put = λ s next y. ⊥;
}

items_edited : (shares : Bool) (xs : List Item) → Edited (shared_edits shares) tt xs (map (item_by shares) xs)
items_edited shares [] = over tt
items_edited shares (x ∷ xs) = pair refl (kin_shared shares x.kind) refl (items_edited shares xs)

blocks_edited : (shares : Bool) (bs : List Block) → BlocksEdited (shared_edits shares) bs (map (block_by shares) bs)
blocks_edited shares [] = no_blocks
blocks_edited shares (b ∷ bs) = next_block refl refl (items_edited shares b.items) (blocks_edited shares bs)

abbrev Cores : Unit {0} → Core → Core → Type 0
Cores s c d = TellsLess c d

outcomes : (x y : Outcome) → EndAlike TellsLess x y → OutcomesAlike (Cores tt) (λ i. Cores tt) x y
outcomes (Falls c) (Falls d) h = h
outcomes (Goes m c) (Goes n d) h = h
outcomes (Gives v) (Gives w) h = h
outcomes Traps Traps h = tt
outcomes Asks Asks h = tt
outcomes Breaks Breaks h = tt
outcomes _ _ h = absurd h

module _ (shares : Bool) (f g : Program) (less : SeesLess f g) where
  alike : (x y : Item) → y.kind ≡ kind_by shares x.kind → (c d : Core) → TellsLess c d → EndAlike TellsLess (do_item f x.kind c) (do_item g y.kind d)
  alike x y e c d q =
      subst (λ (k : ItemKind). EndAlike TellsLess (do_item f x.kind c) (do_item g k d)) (sym e)
      (subst (EndAlike TellsLess (do_item f x.kind c)) (sym (does_the_same g shares x.kind d)) (item_less f g less x.kind c d q))

  shared_keeps : Keeps (shared_edits shares) Cores f g
  shared_keeps = record {
    code = λ s next x y e is is' c d q. outcomes (do_item f x.kind c) (do_item g y.kind d) (alike x y e c d q);
    debug = λ s next x y e is is' c d q. alike x y e c d q;
    out_code = λ s next x h. absurd h;
    out_stays = λ s next x h. absurd h;
    outs = λ s next x h. absurd h;
    puts = λ s next y h. absurd h;
    ends = λ s n c d over q. q;
    shows = λ s c d q. record { events = ap (λ (z : Core). z.events) (sym q.same); told = q.marks };
  }

shared_allows : (shares : Bool) → Allows (shared_edits shares)
shared_allows shares = record {
  empty = λ n. tt;
  falls = λ s next x h. absurd h;
  no_goes = λ s next x h. absurd h;
  no_end = λ s next x h. absurd h;
  kept = λ s next x h. absurd h;
  marks = λ s next y h. absurd h;
}

counts_in : (shares : Bool) (k : ItemKind) → OnRow Counts k → OnRow Counts (kind_by shares k)
counts_in shares (Code i n) h = subst Counts (sym (row_shared shares i)) h
counts_in shares (Mark v m) h = h
counts_in shares (Phi p n) h = h

pub shared_follows : (shares : Bool) (f : Function) (subs : List DebugSubstitution) → IsSound f → IsSound (function_by shares f) →
    PreservesSimulation false true (change f subs (function_by shares f) subs)
shared_follows shares f subs sound sound' =
    let less : SeesLess (program_of false f.blocks (resolve subs)) (program_of false (map (block_by shares) f.blocks) (resolve subs)) =
    record { sees = λ r c v e. e; resolve = λ q. refl } in
    follows_edited (shared_edits shares) Cores (shared_allows shares) f (function_by shares f) sound sound' subs subs refl (blocks_edited shares f.blocks)
    (shared_keeps shares (program_of false f.blocks (resolve subs)) (program_of false (map (block_by shares) f.blocks) (resolve subs)) less)
    (λ n c h. tells_itself c) (λ s next x h. absurd h)
    (λ s next x y e h. subst (OnRow Counts) (sym e) (counts_in shares x.kind h))
