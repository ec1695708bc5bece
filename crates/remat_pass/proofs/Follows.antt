-- What followed a source follows it with constants set again.
use Rattle.std.proofs.Common.{◌≡◌, List, [], ◌∷◌, All, true, false, refl, sym, ap, subst}
use Rattle.std.proofs.lemmas.List.Elements.{All-head, All-tail}
use Rattle.mir_func.specs.declared.debug_substitution.DebugSubstitution.{DebugSubstitution}
use Rattle.mir_func.specs.declared.block.Block.{Block}
use Rattle.mir_func.specs.declared.item.Item.{Item}
use Rattle.mir_func.specs.declared.item.ItemKind.{ItemKind}
use Rattle.mir_func.specs.declared.item.ItemKind.TheVariants.{Code, Mark, Phi}
use Rattle.mir_func.specs.Function.{Function}
use Rattle.mir_func.specs.Sound.{AllItems, IsSound, HasForm}
use Rattle.mir_func.specs.Resolve.{resolve}
use Rattle.mir_func.specs.Graph.{Program, program_of}
use Rattle.sem_mir.specs.State.{Core}
use Rattle.sem_mir.specs.Step.{Outcome, Falls, Goes, Gives, Traps, Asks, Breaks, do_item}
use Rattle.sem_mir.specs.Effects.{OnCore, EndAlike}
use Rattle.sem_mir.specs.Follow.{OnRow, Counts}
use Rattle.sem_mir.proofs.Told.{TellsLess, SeesLess, tells_itself, item_less}
use Rattle.sem_simulation.specs.MatchStates.{OutcomesAlike}
use Rattle.pass_trait.specs.Change.{change}
use Rattle.pass_trait.specs.Simulation.{PreservesSimulation}
use Rattle.pass_salvage.proofs.Edits.{Edits, Edited, over, pair, BlocksEdited, no_blocks, next_block}
use Rattle.pass_salvage.proofs.EditRuns.{Keeps}
use Rattle.pass_salvage.proofs.EditFollows.{Allows, follows_edited}
use Rattle.remat_pass.specs.Known.{Known, nothing_known, known_past}
use Rattle.remat_pass.specs.Remat.{constant_for, set_or_same, set_in, set_items, set_blocks, rematerialized}
use Rattle.remat_pass.proofs.Replaced.{replaced, row_replaced, kin_set}
use Rattle.remat_pass.proofs.Runs.{AreConstants, Holds, past_constants, does_the_same, holds_past}

-- an item where so much is known, with its constant set, and what is known past it
pub record IsSetAt (known next : Known) (x y : Item) : Type 0 where
  pub form : HasForm x.kind
  pub constants : AreConstants known
  pub kind : y.kind ≡ set_in known x.kind
  pub past : next ≡ known_past y.kind known

-- the edits of the pass: a stage is what is known
abbrev pub set_edits : Edits
set_edits = record {
  Stage = Known;
  entry = λ n. nothing_known;
  IsOver = λ known. Unit {0};
  Pair = λ known next x y. IsSetAt known next x y;
  Out = λ known next x. ⊥;
  Put = λ known next y. ⊥;
}

items_edited : (known : Known) → AreConstants known → (xs : List Item) → All (λ (i : Item). HasForm i.kind) xs → Edited set_edits known xs (set_items known xs)
items_edited known h [] forms = over tt
items_edited known h (x ∷ xs) forms =
    let form = All-head (λ (i : Item). HasForm i.kind) x xs forms in
    pair refl (kin_set known x.kind) (record { form = form; constants = h; kind = refl; past = refl })
    (items_edited (known_past (set_in known x.kind) known) (past_constants known x.kind h form) xs (All-tail (λ (i : Item). HasForm i.kind) x xs forms))

nothing_constant : AreConstants nothing_known
nothing_constant x n e = cc

blocks_edited : (bs : List Block) → AllItems (λ i. HasForm i.kind) bs → BlocksEdited set_edits bs (set_blocks bs)
blocks_edited [] forms = no_blocks
blocks_edited (b ∷ bs) forms =
    next_block refl refl (items_edited nothing_known nothing_constant b.items (All-head (λ (c : Block). All (λ (i : Item). HasForm i.kind) c.items) b bs forms))
    (blocks_edited bs (All-tail (λ (c : Block). All (λ (i : Item). HasForm i.kind) c.items) b bs forms))

-- the second run tells no more, and what is known holds in it
abbrev pub SetCores : Known → Core → Core → Type 0
SetCores known c d = TellsLess c d × Holds known d

nothing_holds : (d : Core) → Holds nothing_known d
nothing_holds d x n e = cc

outcomes : (known : Known) (x y : Outcome) → EndAlike TellsLess x y → OnCore (Holds known) y →
    OutcomesAlike (SetCores known) (λ i. SetCores nothing_known) x y
outcomes known (Falls c) (Falls d) h k = (h, k)
outcomes known (Goes m c) (Goes n d) h k = (h.0, (h.1, nothing_holds d))
outcomes known (Gives v) (Gives w) h k = h
outcomes known Traps Traps h k = tt
outcomes known Asks Asks h k = tt
outcomes known Breaks Breaks h k = tt
outcomes known _ _ h k = absurd h

alike_and : (known : Known) (x y : Outcome) → EndAlike TellsLess x y → OnCore (Holds known) y → EndAlike (SetCores known) x y
alike_and known (Falls c) (Falls d) h k = (h, k)
alike_and known (Goes m c) (Goes n d) h k = (h.0, (h.1, k))
alike_and known (Gives v) (Gives w) h k = h
alike_and known Traps Traps h k = tt
alike_and known Asks Asks h k = tt
alike_and known Breaks Breaks h k = tt
alike_and known _ _ h k = absurd h

module _ (f g : Program) (less : SeesLess f g) where
  ends_alike : (known : Known) (x : Item) → HasForm x.kind → AreConstants known → (c d : Core) → SetCores known c d →
      EndAlike TellsLess (do_item f x.kind c) (do_item g (set_in known x.kind) d)
  ends_alike known x form constants c d q =
      subst (EndAlike TellsLess (do_item f x.kind c)) (sym (does_the_same g known d constants q.1 x.kind form)) (item_less f g less x.kind c d q.0)

  code_set : (known next : Known) (x y : Item) → IsSetAt known next x y → (c d : Core) → SetCores known c d →
      OutcomesAlike (SetCores next) (λ i. SetCores nothing_known) (do_item f x.kind c) (do_item g y.kind d)
  code_set known next x y s c d q =
      subst (λ (after : Known). OutcomesAlike (SetCores after) (λ i. SetCores nothing_known) (do_item f x.kind c) (do_item g y.kind d)) (sym s.past)
      (outcomes (known_past y.kind known) (do_item f x.kind c) (do_item g y.kind d)
      (subst (λ (k : ItemKind). EndAlike TellsLess (do_item f x.kind c) (do_item g k d)) (sym s.kind) (ends_alike known x s.form s.constants c d q))
      (holds_past g known y.kind d q.1))

  debug_set : (known next : Known) (x y : Item) → IsSetAt known next x y → (c d : Core) → SetCores known c d →
      EndAlike (SetCores next) (do_item f x.kind c) (do_item g y.kind d)
  debug_set known next x y s c d q =
      subst (λ (after : Known). EndAlike (SetCores after) (do_item f x.kind c) (do_item g y.kind d)) (sym s.past)
      (alike_and (known_past y.kind known) (do_item f x.kind c) (do_item g y.kind d)
      (subst (λ (k : ItemKind). EndAlike TellsLess (do_item f x.kind c) (do_item g k d)) (sym s.kind) (ends_alike known x s.form s.constants c d q))
      (holds_past g known y.kind d q.1))

  set_keeps : Keeps set_edits SetCores f g
  set_keeps = record {
    code = λ known next x y s is is' c d q. code_set known next x y s c d q;
    debug = λ known next x y s is is' c d q. debug_set known next x y s c d q;
    out_code = λ known next x h. absurd h;
    out_stays = λ known next x h. absurd h;
    outs = λ known next x h. absurd h;
    puts = λ known next y h. absurd h;
    ends = λ known n c d over q. (q.0, nothing_holds d);
    shows = λ known c d q. record { events = ap (λ (z : Core). z.events) (sym q.0.same); told = q.0.marks };
  }

set_allows : Allows set_edits
set_allows = record {
  empty = λ n. tt;
  falls = λ known next x h. absurd h;
  no_goes = λ known next x h. absurd h;
  no_end = λ known next x h. absurd h;
  kept = λ known next x h. absurd h;
  marks = λ known next y h. absurd h;
}

counts_in : (known : Known) (k : ItemKind) → OnRow Counts k → OnRow Counts (set_in known k)
counts_in known (Code i n) h =
    row_replaced Counts (λ rd m. tt) known i (set_or_same (constant_for known i) i) (replaced known i) h
counts_in known (Mark v m) h = h
counts_in known (Phi p n) h = h

pub rematerialized_follows : (f : Function) (subs : List DebugSubstitution) → IsSound f → IsSound (rematerialized f) → AllItems (λ i. HasForm i.kind) f.blocks →
    PreservesSimulation false true (change f subs (rematerialized f) subs)
rematerialized_follows f subs sound sound' forms =
    let less : SeesLess (program_of false f.blocks (resolve subs)) (program_of false (set_blocks f.blocks) (resolve subs)) =
    record { sees = λ r c v e. e; resolve = λ q. refl } in
    follows_edited set_edits SetCores set_allows f (rematerialized f) sound sound' subs subs refl (blocks_edited f.blocks forms)
    (set_keeps (program_of false f.blocks (resolve subs)) (program_of false (set_blocks f.blocks) (resolve subs)) less)
    (λ n c h. (tells_itself c, nothing_holds c)) (λ known next x h. absurd h)
    (λ known next x y s h. subst (OnRow Counts) (sym s.kind) (counts_in known x.kind h))
