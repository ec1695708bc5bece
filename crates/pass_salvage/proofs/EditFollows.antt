-- What followed a source follows it after its blocks are edited item by item.
use Rattle.std.proofs.Common.{◌≡◌, ℕ, zero, suc, List, [], ◌∷◌, length, get_or, All, Contains, None}
use Rattle.std.proofs.Common.{true, false}
use Rattle.std.proofs.Common.{refl, sym, ap, ◌∙◌, subst, arith}
use Rattle.std.proofs.lemmas.List.Elements.{All-cons, All-head, All-tail}
use Rattle.mir_func.specs.declared.debug_substitution.DebugSubstitution.{DebugSubstitution}
use Rattle.mir_func.specs.declared.object.Object.{Object}
use Rattle.mir_func.specs.declared.position.Pos.{Pos}
use Rattle.mir_func.specs.declared.position.Origin.{Origin}
use Rattle.mir_func.specs.declared.position.Origin.TheVariants.{Kept, Before}
use Rattle.mir_func.specs.declared.block.Block.{Block}
use Rattle.mir_func.specs.declared.item.Item.{Item}
use Rattle.mir_func.specs.declared.item.ItemKind.{ItemKind}
use Rattle.mir_func.specs.declared.item.ItemKind.TheVariants.{Code, Mark, Phi}
use Rattle.mir_func.specs.Function.{Function}
use Rattle.mir_func.specs.Sound.{IsSound}
use Rattle.mir_func.specs.Resolve.{resolve}
use Rattle.rv64_instr.specs.LocationEffects.{IsSlotStore}
use Rattle.mir_func.specs.Graph.{Here, Program, KindEdge, below, program_of}
use Rattle.sem_agreement.specs.sem_mir.State.{Core, State}
use Rattle.sem_agreement.specs.sem_mir.Align.{is_code, is_jump, moves_on, Count, ByItems, ByEnds, sync_point_at, AnyOrigin, RunsMatch, since_of, waits_at}
use Rattle.sem_agreement.specs.sem_mir.InitialState.{first_of, IsInitialState}
use Rattle.sem_agreement.specs.sem_mir.Follow.{KindFits, StaysVolatile, MarkFits, InOrder, Among, none, same, left, OnRow, GoesTo, Counts, Shape, IsEnd}
use Rattle.sem_agreement.specs.sem_mir.Follow.{KindsEndAlike}
use Rattle.sem_agreement.specs.sem_mir.Follow.{EndIsKept, EndComesFrom, IsMetApart}
use Rattle.pass_trait.specs.Change.{change}
use Rattle.pass_trait.specs.Simulation.{PreservesSimulation}
use Rattle.pass_trait.proofs.NopFollows.{moves_after}
use Rattle.pass_salvage.proofs.Kin.{Kin, kin_fits, kin_volatile, kin_marks, kin_goes, kin_end, kin_is_end}
use Rattle.pass_salvage.proofs.Edits.{Edits, Edited, over, pair, out, put, BlocksEdited, no_blocks, next_block, order_edited, item_back, item_on}
use Rattle.pass_salvage.proofs.EditRuns.{Keeps, IsSteady, runs_edited}
use Rattle.pass_salvage.proofs.EditPaths.{stores_on}

pub all_none : {A : Type 0} (P : A → Type 0) → All P []
all_none P k d lt = absurd (omega (arith, lt))

pub end_is_code : (k : ItemKind) → OnRow IsEnd k → is_code k ≡ true
end_is_code (Code i n) h = refl
end_is_code (Mark v m) h = absurd h
end_is_code (Phi p n) h = absurd h

module _ (E : Edits) where
  pub among_edited : {fs gs src : List Block} → BlocksEdited E fs gs → Among fs src → Among gs src
  among_edited no_blocks none = none
  among_edited (next_block id source_end items rest) (same e s more) = same (id ∙ e) (source_end ∙ s) (among_edited rest more)
  among_edited b (left more) = left (among_edited b more)

  pub first_edited : (fs gs : List Block) → BlocksEdited E fs gs → first_of gs ≡ first_of fs
  first_edited fs gs no_blocks = refl
  first_edited (a ∷ fs) (b ∷ gs) (next_block id source_end items rest) = id

  pub length_edited : (fs gs : List Block) → BlocksEdited E fs gs → length gs ≡ length fs
  length_edited fs gs no_blocks = refl
  length_edited (a ∷ fs) (b ∷ gs) (next_block id source_end items rest) = ap suc (length_edited fs gs rest)

  pub order_of : (fs gs : List Block) → BlocksEdited E fs gs → All (λ (b : Block). InOrder b.id 0 b.items) fs → All (λ (b : Block). InOrder b.id 0 b.items) gs
  order_of fs gs no_blocks h = all_none (λ (b : Block). InOrder b.id 0 b.items)
  order_of (a ∷ fs) (b ∷ gs) (next_block id source_end items rest) h =
      All-cons (λ (c : Block). InOrder c.id 0 c.items) b gs
      (subst (λ (n : ℕ). InOrder n 0 b.items) (sym id)
      (order_edited E a.id 0 0 a.items b.items refl items (All-head (λ (c : Block). InOrder c.id 0 c.items) a fs h)))
      (order_of fs gs rest (All-tail (λ (c : Block). InOrder c.id 0 c.items) a fs h))

  -- what holds of each item of f and hangs on its kind and origin, holds of each of g
  module _ (P : Block → Item → Type 0) (pairs : (a b : Block)
      (x y : Item) → b.source_end ≡ a.source_end → x.origin ≡ y.origin → Kin x.kind y.kind → P a x → P b y)
      (puts : (k k' : E.Stage) (b : Block) (x y : Item) → E.Put k k' y → is_code y.kind ≡ false → P b y) where
    each_in : {k : E.Stage} (a b : Block) (xs ys : List Item) → b.source_end ≡ a.source_end → Edited E k xs ys → All (P a) xs → All (P b) ys
    each_in a b xs ys s (over done) h = all_none (P b)
    each_in a b (x ∷ xs) (y ∷ ys) s (pair origin kin how rest) h =
        All-cons (P b) y ys (pairs a b x y s origin kin (All-head (P a) x xs h)) (each_in a b xs ys s rest (All-tail (P a) x xs h))
    each_in a b (x ∷ xs) ys s (out how rest) h = each_in a b xs ys s rest (All-tail (P a) x xs h)
    each_in {k} a b (x ∷ xs) (y ∷ ys) s (put {k' = l} no_code origin how rest) h =
        All-cons (P b) y ys (puts k l b x y how no_code) (each_in a b (x ∷ xs) ys s rest h)

    pub each_edited : (fs gs : List Block) → BlocksEdited E fs gs → All (λ (b : Block). All (P b) b.items) fs → All (λ (b : Block). All (P b) b.items) gs
    each_edited fs gs no_blocks h = all_none (λ (b : Block). All (P b) b.items)
    each_edited (a ∷ fs) (b ∷ gs) (next_block id source_end items rest) h =
        All-cons (λ (c : Block). All (P c) c.items) b gs (each_in a b a.items b.items source_end items (All-head (λ (c : Block). All (P c) c.items) a fs h))
        (each_edited fs gs rest (All-tail (λ (c : Block). All (P c) c.items) a fs h))

-- the facts of lists that a change by such edits owes
pub record Allows (E : Edits) : Type 0 where
  pub empty : (n : ℕ) → E.IsOver (E.entry n)
  -- what is taken out falls through, ends no block, and is kept where the source is
  pub falls : (k k' : E.Stage) (x : Item) → E.Out k k' x → (p q : Pos) → KindEdge (λ n. n) x.kind p q → q ≡ below p
  pub no_goes : (k k' : E.Stage) (x : Item) → E.Out k k' x → (n : ℕ) → OnRow (GoesTo n) x.kind → ⊥
  pub no_end : (k k' : E.Stage) (x : Item) → E.Out k k' x → (i : ItemKind) → KindsEndAlike i x.kind → ⊥
  pub kept : (k k' : E.Stage) (x : Item) → E.Out k k' x → (src : Program) (source_end : ℕ) → KindFits src x.kind source_end x.origin →
      (p : Pos) × (x.origin ≡ Kept p)
  -- a mark that is put assigns nothing
  pub marks : (k k' : E.Stage) (y : Item) → E.Put k k' y → is_code y.kind ≡ false → MarkFits y.kind y.origin

pub debug_fits : (src : Program) (k : ItemKind) (source_end : ℕ) (o : Origin) → is_code k ≡ false → KindFits src k source_end o
debug_fits src (Code i n) source_end o e = cc
debug_fits src (Mark v m) source_end o e = tt
debug_fits src (Phi p n) source_end o e = tt

pub debug_volatile : (src : Program) (k : ItemKind) (o : Origin) → is_code k ≡ false → StaysVolatile src k o
debug_volatile src (Code i n) o e = cc
debug_volatile src (Mark v m) o e = tt
debug_volatile src (Phi p n) o e = tt

module _ (E : Edits) (Q : E.Stage → Core → Core → Type 0) (allows : Allows E) (old new : Function) (sound : IsSound old) (sound' : IsSound new)
    (subs subs' : List DebugSubstitution) (objects : new.objects ≡ old.objects) (edited : BlocksEdited E old.blocks new.blocks)
    (keeps : Keeps E Q (program_of false old.blocks (resolve subs)) (program_of false new.blocks (resolve subs')))
    (itself : (n : ℕ) (c : Core) → ((k o : ℕ) → c.pairs k o ≡ None) → Q (E.entry n) c c) where
  abbrev fp : Program
  fp = program_of false old.blocks (resolve subs)

  abbrev gp : Program
  gp = program_of false new.blocks (resolve subs')

  -- a slot store at a block's end meets other code still
  abbrev pub StoresMeet : Type 0
  StoresMeet = (b source_end : ℕ) (p : Pos) (i : Item) → p.block ≡ b → gp.fetch p ≡ Here i → OnRow IsSlotStore i.kind →
      i.origin ≡ Before (record { block = b; item = source_end }) → (q : Pos) × (j : Item) × IsMetApart gp p source_end q j

  module _ (src : List Block) (srcp : Program) (shape : Shape src old.blocks srcp fp)
      (meet : (b : Block) → Contains new.blocks b → (p : Pos) (i : Item) → p.block ≡ b.id →
      gp.fetch p ≡ Here i → OnRow IsSlotStore i.kind → i.origin ≡ Before (record { block = b.id; item = b.source_end }) →
      (q : Pos) × (j : Item) × IsMetApart gp p
      b.source_end q j) where
    pub shape_edited : Shape src new.blocks srcp gp
    shape_edited = record {
      among = among_edited E edited shape.among;
      first = first_edited E old.blocks new.blocks edited ∙ shape.first;
      back = λ q leads edge. (let w = shape.back q leads edge in
          let at = item_on E old.blocks new.blocks edited false (resolve subs) (resolve subs') w.0 w.1 w.2
          (λ k k' how. allows.no_goes k k' w.1 how (first_of src) w.3) in
          (at.0, at.1, at.3, kin_goes w.1.kind at.1.kind at.5 (first_of src) w.3));
      order = order_of E old.blocks new.blocks edited shape.order;
      items = each_edited E (λ b i. KindFits srcp i.kind b.source_end i.origin)
          (λ a b x y s origin kin h. subst (λ (n : ℕ). KindFits srcp y.kind n y.origin) (sym s)
          (subst (λ o. KindFits srcp y.kind a.source_end o) origin (kin_fits srcp x.kind y.kind kin a.source_end x.origin h)))
          (λ k k' b x y how no_code. debug_fits srcp y.kind b.source_end y.origin no_code) old.blocks new.blocks edited shape.items;
      volatile = each_edited E (λ b i. StaysVolatile srcp i.kind i.origin)
          (λ a b x y s origin kin h. subst (λ o. StaysVolatile srcp y.kind o) origin (kin_volatile srcp x.kind y.kind kin x.origin h))
          (λ k k' b x y how no_code. debug_volatile srcp y.kind y.origin no_code) old.blocks new.blocks edited shape.volatile;
      stores = meet;
      marks = each_edited E (λ b i. MarkFits i.kind i.origin)
          (λ a b x y s origin kin h. subst (λ o. MarkFits y.kind o) origin (kin_marks x.kind y.kind kin x.origin h))
          (λ k k' b x y how no_code. allows.marks k k' y how no_code) old.blocks new.blocks edited shape.marks;
    }

    steady : (ct : Count) → ((k : ItemKind) → moves_on ct k ≡ is_jump k) →
        All (λ (b : Block). All (IsSteady E Q old.blocks new.blocks edited (resolve subs) (resolve subs') ct) b.items) old.blocks
    steady ct counts k d lt j e within =
        let b : Block = get_or old.blocks k d in
        let x : Item = get_or b.items j e in
        let fits = shape.items k d lt j e within in
        record {
          moves = λ c c' n go. moves_after ct srcp fp x.kind x.origin b.source_end counts fits c c' n go;
          gone = λ s s' how. (let w = allows.kept s s' x how srcp b.source_end fits in
              ap (λ o. since_of (waits_at (moves_on ct x.kind) o)) w.1);
        }

    pub runs_new : (ct : Count) (first : ℕ) (stack : List Object) → ((k : ItemKind) → moves_on ct k ≡ is_jump k) →
        ((s : State) → IsInitialState stack first s → RunsMatch srcp fp (sync_point_at ct fp) (AnyOrigin (sync_point_at ct fp)) s s) →
        (s : State) → IsInitialState stack first s → RunsMatch srcp gp (sync_point_at ct gp) (AnyOrigin (sync_point_at ct gp)) s s
    runs_new ct first stack counts runs s start =
        runs_edited E Q old.blocks new.blocks edited (resolve subs) (resolve subs') ct counts srcp s keeps allows.empty (steady ct counts) sound.blocks_apart
        shape.order
        (order_of E old.blocks new.blocks edited shape.order) sound.origins sound'.origins (ap (λ (p : Pos). p.item) start.pos)
        (itself s.pos.block s.core start.pairs) (runs s start)

    pub ends_kept : ((p : Pos) (i : Item) → srcp.fetch p ≡ Here i → OnRow IsEnd i.kind → EndIsKept fp p i) → (p : Pos) (i : Item) → srcp.fetch p ≡ Here i →
        OnRow IsEnd i.kind → EndIsKept gp p i
    ends_kept kept p i at end =
        let w = kept p i at end in
        let there = item_on E old.blocks new.blocks edited false (resolve subs) (resolve subs') w.0 w.1 w.2
        (λ k k' how. allows.no_end k k' w.1 how i.kind w.4) in
        (there.0, there.1, there.3, sym there.4 ∙ w.3, kin_end i.kind w.1.kind there.1.kind there.5 w.4)

    pub ends_only : ((q : Pos) (j : Item) → fp.fetch q ≡ Here j → OnRow IsEnd j.kind → EndComesFrom srcp j) → (q : Pos) (j : Item) → gp.fetch q ≡ Here j →
        OnRow IsEnd j.kind → EndComesFrom srcp j
    ends_only only q j at end =
        let w = item_back E old.blocks new.blocks edited false (resolve subs) (resolve subs') q j at (end_is_code j.kind end) in
        let r = only w.0 w.1 w.3 (kin_is_end w.1.kind j.kind w.5 end) in
        (r.0, r.1, r.2, sym w.4 ∙ r.3, kin_end r.1.kind w.1.kind j.kind w.5 r.4)

  -- where what slot stores meet stays and counts
  pub follows_edited : ((k k' : E.Stage) (x : Item) → E.Out k k' x → OnRow Counts x.kind → ⊥) →
      ((k k' : E.Stage) (x y : Item) → E.Pair k k' x y → OnRow Counts x.kind → OnRow Counts y.kind) →
      PreservesSimulation false true (change old subs new subs')
  follows_edited gone counts = record {
    follows = λ source fol ends. (let srcp : Program = program_of true source.function.blocks (resolve source.subs) in
        record {
          objects = objects ∙ fol.objects;
          follows = record {
            shape = shape_edited source.function.blocks srcp fol.follows.shape (meet srcp source.function.blocks fol.follows.shape);
            runs = runs_new source.function.blocks srcp fol.follows.shape (meet srcp source.function.blocks fol.follows.shape) ByItems
                (first_of source.function.blocks) source.function.objects (λ k. refl) fol.follows.runs;
          };
        });
    ends = λ keeps source fol whole. (let srcp : Program = program_of true source.function.blocks (resolve source.subs) in
        let m = meet srcp source.function.blocks fol.follows.shape in
        record {
          blocks = length_edited E old.blocks new.blocks edited ∙ whole.blocks;
          kept = ends_kept source.function.blocks srcp fol.follows.shape m whole.kept;
          only = ends_only source.function.blocks srcp fol.follows.shape m whole.only;
          runs = runs_new source.function.blocks srcp fol.follows.shape m ByEnds (first_of source.function.blocks) source.function.objects (λ k. refl)
              whole.runs;
        });
  } where
    old_block : (b : Block) → Contains new.blocks b → (a : Block) × Contains old.blocks a × (a.id ≡ b.id) × (a.source_end ≡ b.source_end)
    old_block b h = by_blocks old.blocks new.blocks edited h where
      by_blocks : (fs gs : List Block) → BlocksEdited E fs gs → Contains gs b → (a : Block) × Contains fs a × (a.id ≡ b.id) × (a.source_end ≡ b.source_end)
      by_blocks fs gs no_blocks h = absurd (let lt = h.1 in omega (arith, lt))
      by_blocks (a ∷ fs) (c ∷ gs) (next_block id source_end items rest) (zero, lt, e) =
          (a, (0, omega arith, refl), sym id ∙ ap (λ (z : Block). z.id) e, sym source_end ∙ ap (λ (z : Block). z.source_end) e)
      by_blocks (a ∷ fs) (c ∷ gs) (next_block id source_end items rest) (suc m, lt, e) =
          let r = by_blocks fs gs rest (m, omega (arith, lt), e) in
          let k = r.1 in
          let less = k.1 in
          (r.0, (suc k.0, omega (arith, less), k.2), r.2, r.3)

    meet : (srcp : Program) (src : List Block) → Shape src old.blocks srcp fp → (b : Block) → Contains new.blocks b → (p : Pos) (i : Item) → p.block ≡ b.id →
        gp.fetch p ≡ Here i → OnRow IsSlotStore i.kind → i.origin ≡ Before (record { block = b.id; item = b.source_end }) →
        (q : Pos) × (j : Item) × IsMetApart gp
        p b.source_end q j
    meet srcp src shape b member p i at here save o =
        let a = old_block b member in
        stores_on E old.blocks new.blocks edited (resolve subs) (resolve subs') allows.empty allows.falls gone counts
        b.id b.source_end
        (λ q j at' here' save' o'. (let origin : j.origin ≡ Before (record { block = a.0.id; item = a.0.source_end }) =
        o' ∙ (λ z. Before (record { block = sym a.2 z; item = sym a.3 z })) in
        let w = shape.stores a.0 a.1 q j (at' ∙ sym a.2) here' save' origin in
        subst (λ (n : ℕ). (r : Pos) × (t : Item) × IsMetApart fp q n r t) a.3 w))
        p i at here save o
