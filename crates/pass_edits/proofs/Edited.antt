-- What followed a source loosely follows it loosely after its blocks are edited item by item.
use Rattle.std.proofs.Common.{◌≡◌, ℕ, List, [], get_or, All, None, true, false, refl, sym, ap, ◌∙◌, subst}
use Rattle.mir_func.specs.declared.debug_substitution.DebugSubstitution.{DebugSubstitution}
use Rattle.mir_func.specs.declared.position.Pos.{Pos}
use Rattle.mir_func.specs.declared.block.Block.{Block}
use Rattle.mir_func.specs.declared.object.Object.{Object}
use Rattle.mir_func.specs.declared.item.Item.{Item}
use Rattle.mir_func.specs.declared.item.ItemKind.{ItemKind}
use Rattle.mir_func.specs.Function.{Function}
use Rattle.mir_func.specs.Sound.{IsSound}
use Rattle.mir_func.specs.Resolve.{resolve}
use Rattle.mir_func.specs.Graph.{Here, Program, program_of}
use Rattle.pass_salvage.specs.sem_mir.State.{Core, State}
use Rattle.pass_salvage.specs.sem_mir.Align.{is_jump, moves_on, Count, ByItems, ByEnds, sync_point_at, AnyOrigin, RunsMatch, since_of, waits_at}
use Rattle.pass_salvage.specs.sem_mir.InitialState.{first_of, IsInitialState}
use Rattle.pass_salvage.specs.sem_mir.Follow.{KindFits, StaysVolatile, MarkFits, OnRow, IsEnd}
use Rattle.pass_salvage.specs.sem_mir.Follow.{EndIsKept, EndComesFrom}
use Rattle.pass_salvage.specs.pass_trait.Change.{change}
use Rattle.pass_salvage.proofs.pass_trait.NopFollows.{moves_after}
use Rattle.pass_salvage.proofs.Kin.{kin_fits, kin_volatile, kin_marks, kin_goes, kin_end, kin_is_end}
use Rattle.pass_salvage.proofs.Edits.{Edits, BlocksEdited, item_back, item_on}
use Rattle.pass_salvage.proofs.EditRuns.{Keeps, IsSteady, runs_edited}
use Rattle.pass_salvage.proofs.EditFollows.{Allows, each_edited, end_is_code, debug_fits, debug_volatile, among_edited, first_edited, length_edited, order_of}
use Rattle.pass_edits.specs.WeakSimulation.{LooseShape, PreservesWeakSimulation}

module _ (E : Edits) (Q : E.Stage → Core → Core → Type 0) (allows : Allows E) (old new : Function) (sound : IsSound old) (sound' : IsSound new)
    (subs subs' : List DebugSubstitution) (objects : new.objects ≡ old.objects) (edited : BlocksEdited E old.blocks new.blocks)
    (keeps : Keeps E Q (program_of false old.blocks (resolve subs)) (program_of false new.blocks (resolve subs')))
    (itself : (n : ℕ) (c : Core) → ((k o : ℕ) → c.pairs k o ≡ None) → Q (E.entry n) c c) where
  abbrev fp : Program
  fp = program_of false old.blocks (resolve subs)

  abbrev gp : Program
  gp = program_of false new.blocks (resolve subs')

  module _ (src : List Block) (srcp : Program) (shape : LooseShape src old.blocks srcp fp) where
    shape_edited : LooseShape src new.blocks srcp gp
    shape_edited = record {
      among = among_edited E edited shape.among;
      first = first_edited E old.blocks new.blocks edited ∙ shape.first;
      back = λ q leads edge. (let w = shape.back q leads edge in
          let at = item_on E old.blocks new.blocks edited false (resolve subs) (resolve subs') w.0 w.1 w.2
          (λ k k' how. allows.no_goes k k' w.1 how (first_of src) w.3) in
          (at.0, at.1, at.3, kin_goes w.1.kind at.1.kind at.5 (first_of src) w.3));
      order = order_of E old.blocks new.blocks edited shape.order;
      items = each_edited E (λ b i. KindFits srcp i.kind b.source_end i.origin)
          (λ a b x y s origin kin h. subst (λ (n : ℕ). KindFits srcp y.kind n y.origin) (sym s)
          (subst (λ o. KindFits srcp y.kind a.source_end o) origin (kin_fits srcp x.kind y.kind kin a.source_end x.origin h)))
          (λ k k' b x y how no_code. debug_fits srcp y.kind b.source_end y.origin no_code) old.blocks new.blocks edited shape.items;
      volatile = each_edited E (λ b i. StaysVolatile srcp i.kind i.origin)
          (λ a b x y s origin kin h. subst (λ o. StaysVolatile srcp y.kind o) origin (kin_volatile srcp x.kind y.kind kin x.origin h))
          (λ k k' b x y how no_code. debug_volatile srcp y.kind y.origin no_code) old.blocks new.blocks edited shape.volatile;
      marks = each_edited E (λ b i. MarkFits i.kind i.origin)
          (λ a b x y s origin kin h. subst (λ o. MarkFits y.kind o) origin (kin_marks x.kind y.kind kin x.origin h))
          (λ k k' b x y how no_code. allows.marks k k' y how no_code) old.blocks new.blocks edited shape.marks;
    }

    steady : (ct : Count) → ((k : ItemKind) → moves_on ct k ≡ is_jump k) →
        All (λ (b : Block). All (IsSteady E Q old.blocks new.blocks edited (resolve subs) (resolve subs') ct) b.items) old.blocks
    steady ct counts k d lt j e within =
        let b : Block = get_or old.blocks k d in
        let x : Item = get_or b.items j e in
        let fits = shape.items k d lt j e within in
        record {
          moves = λ c c' n go. moves_after ct srcp fp x.kind x.origin b.source_end counts fits c c' n go;
          gone = λ s s' how. (let w = allows.kept s s' x how srcp b.source_end fits in
              ap (λ o. since_of (waits_at (moves_on ct x.kind) o)) w.1);
        }

    runs_new : (ct : Count) (first : ℕ) (stack : List Object) → ((k : ItemKind) → moves_on ct k ≡ is_jump k) →
        ((s : State) → IsInitialState stack first s → RunsMatch srcp fp (sync_point_at ct fp) (AnyOrigin (sync_point_at ct fp)) s s) →
        (s : State) → IsInitialState stack first s → RunsMatch srcp gp (sync_point_at ct gp) (AnyOrigin (sync_point_at ct gp)) s s
    runs_new ct first stack counts runs s start =
        runs_edited E Q old.blocks new.blocks edited (resolve subs) (resolve subs') ct counts srcp s keeps allows.empty (steady ct counts) sound.blocks_apart
        shape.order (order_of E old.blocks new.blocks edited shape.order) sound.origins sound'.origins (ap (λ (p : Pos). p.item) start.pos)
        (itself s.pos.block s.core start.pairs) (runs s start)

    ends_kept : ((p : Pos) (i : Item) → srcp.fetch p ≡ Here i → OnRow IsEnd i.kind → EndIsKept fp p i) → (p : Pos) (i : Item) → srcp.fetch p ≡ Here i →
        OnRow IsEnd i.kind → EndIsKept gp p i
    ends_kept kept p i at end =
        let w = kept p i at end in
        let there = item_on E old.blocks new.blocks edited false (resolve subs) (resolve subs') w.0 w.1 w.2
        (λ k k' how. allows.no_end k k' w.1 how i.kind w.4) in
        (there.0, there.1, there.3, sym there.4 ∙ w.3, kin_end i.kind w.1.kind there.1.kind there.5 w.4)

    ends_only : ((q : Pos) (j : Item) → fp.fetch q ≡ Here j → OnRow IsEnd j.kind → EndComesFrom srcp j) → (q : Pos) (j : Item) → gp.fetch q ≡ Here j →
        OnRow IsEnd j.kind → EndComesFrom srcp j
    ends_only only q j at end =
        let w = item_back E old.blocks new.blocks edited false (resolve subs) (resolve subs') q j at (end_is_code j.kind end) in
        let r = only w.0 w.1 w.3 (kin_is_end w.1.kind j.kind w.5 end) in
        (r.0, r.1, r.2, sym w.4 ∙ r.3, kin_end r.1.kind w.1.kind j.kind w.5 r.4)

  pub edited_loosely : PreservesWeakSimulation (change old subs new subs')
  edited_loosely = record {
    follows = λ source fol. (let srcp : Program = program_of true source.function.blocks (resolve source.subs) in
        record {
          objects = objects ∙ fol.objects;
          shape = shape_edited source.function.blocks srcp fol.shape;
          runs = runs_new source.function.blocks srcp fol.shape ByItems (first_of source.function.blocks) source.function.objects (λ k. refl) fol.runs;
        });
    ends = λ source fol whole. (let srcp : Program = program_of true source.function.blocks (resolve source.subs) in
        record {
          blocks = length_edited E old.blocks new.blocks edited ∙ whole.blocks;
          kept = ends_kept source.function.blocks srcp fol.shape whole.kept;
          only = ends_only source.function.blocks srcp fol.shape whole.only;
          runs = runs_new source.function.blocks srcp fol.shape ByEnds (first_of source.function.blocks) source.function.objects (λ k. refl) whole.runs;
        });
  }
