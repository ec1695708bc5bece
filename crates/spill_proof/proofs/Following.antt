-- What followed a source follows it where marks ask by phis.
use Rattle.std.proofs.Common.{◌≡◌, ◌⊎◌, inl, inr, ℕ, zero, suc, ◌<◌, List, ◌∷◌, length, All, Contains, true, false, refl}
use Rattle.std.proofs.Common.{sym, ap, ◌∙◌}
use Rattle.std.proofs.Common.{subst, arith}
use Rattle.std.proofs.lemmas.List.Elements.{All-cons, All-head, All-tail}
use Rattle.std.specs.Prelude.{IsTrue}
use Rattle.rv64_instr.specs.LocationEffects.{IsSlotStore}
use Rattle.mir_func.specs.declared.block.Block.{Block}
use Rattle.mir_func.specs.declared.debug_substitution.DebugSubstitution.{DebugSubstitution}
use Rattle.mir_func.specs.declared.item.Item.{Item}
use Rattle.mir_func.specs.declared.item.ItemKind.{ItemKind}
use Rattle.mir_func.specs.declared.item.ItemKind.TheVariants.{Mark}
use Rattle.mir_func.specs.declared.position.Origin.{Origin}
use Rattle.mir_func.specs.declared.position.Origin.TheVariants.{Kept, Before}
use Rattle.mir_func.specs.declared.position.Pos.{Pos}
use Rattle.mir_func.specs.declared.variable.MarkValue.TheVariants.{At, Pair}
use Rattle.mir_func.specs.declared.variable.VarId.{VarId}
use Rattle.mir_func.specs.Function.{Function}
use Rattle.mir_func.specs.Graph.{Program, Here, program_of, Leads}
use Rattle.mir_func.specs.Resolve.{resolve}
use Rattle.mir_func.specs.Sound.{AllItems, IsSound}
use Rattle.sem_mir.specs.Align.{ByItems, ByEnds}
use Rattle.sem_mir.specs.InitialState.{first_of}
use Rattle.sem_mir.specs.Follow.{Among, none, left, InOrder, next_rank, KindFits, StaysVolatile, MarkFits, OnRow, Counts, GoesTo, IsMetApart}
use Rattle.sem_mir.specs.Follow.{Shape, Follows}
use Rattle.sem_mir.specs.Follow.{IsEnd, EndIsKept, HasWholeEnds}
use Rattle.sem_mir.specs.Follow.Among.{same as still}
use Rattle.pass_trait.specs.Change.{change}
use Rattle.pass_trait.specs.Simulation.{PreservesSimulation}
use Rattle.pass_trait.specs.Rule.{item, first_operand}
use Rattle.spill_debug.specs.RewrittenDebugItems.{blocks_asked, asked}
use Rattle.spill_debug.specs.Laws.{AreBelow}
use Rattle.spill_debug.proofs.AskedSound.{asked_is_sound}
use Rattle.spill_proof.specs.Follows.{AskedFollows}
use Rattle.spill_proof.proofs.Low.{Low, LowEntries, low_function, low_number}
use Rattle.spill_proof.proofs.Put.{blocks_put, with_phis}
use Rattle.spill_proof.proofs.Silent.{phis_follow}
use Rattle.spill_proof.proofs.Remarked.{Reasks, no_items, same, asks, BlocksReask, over, further, blocks_reask, sound_back}
use Rattle.spill_proof.proofs.Reasked.{code_on, code_back, leads_on, on_code, end_code}
use Rattle.spill_proof.proofs.Steps.{runs_on}

module _ (least : ℕ) where
  among_on : {fs gs src : List Block} → BlocksReask least fs gs → Among fs src → Among gs src
  among_on over none = none
  among_on (further id source_end items rest) (still e s more) = still (id ∙ e) (source_end ∙ s) (among_on rest more)
  among_on b (left more) = left (among_on b more)

  first_on : (fs gs : List Block) → BlocksReask least fs gs → first_of gs ≡ first_of fs
  first_on fs gs over = refl
  first_on (a ∷ fs) (b ∷ gs) (further id source_end items rest) = id

  length_on : (fs gs : List Block) → BlocksReask least fs gs → length gs ≡ length fs
  length_on fs gs over = refl
  length_on (a ∷ fs) (b ∷ gs) (further id source_end items rest) = ap suc (length_on fs gs rest)

  order_in : (b n : ℕ) (xs ys : List Item) → Reasks least xs ys → InOrder b n xs → InOrder b n ys
  order_in b n xs ys no_items h = h
  order_in b n (x ∷ xs) (y ∷ ys) (same rest) h = (h.0, h.1, order_in b (next_rank x.origin) xs ys rest h.2)
  order_in b n (x ∷ z ∷ xs) (y ∷ w ∷ ys) (asks le rest) h =
      (h.0, h.1, (h.2.0, h.2.1, order_in b (next_rank z.origin) xs ys rest h.2.2))

  order_on : (fs gs : List Block) → BlocksReask least fs gs → All (λ (b : Block). InOrder b.id 0 b.items) fs → All (λ (b : Block). InOrder b.id 0 b.items) gs
  order_on fs gs over h = h
  order_on (a ∷ fs) (b ∷ gs) (further id source_end items rest) h =
      All-cons (λ (c : Block). InOrder c.id 0 c.items) b gs
      (subst (λ (n : ℕ). InOrder n 0 b.items) (sym id) (order_in a.id 0 a.items b.items items (All-head (λ (c : Block). InOrder c.id 0 c.items) a fs h)))
      (order_on fs gs rest (All-tail (λ (c : Block). InOrder c.id 0 c.items) a fs h))

  -- what holds of each item, and of a mark of a number where it holds of one of a register
  module _ (P : ℕ → ItemKind → Origin → Type 0) (marks : (n : ℕ) (v : VarId) (r k : ℕ) (o : Origin) → P n (Mark v (At r)) o → P n
      (Mark v (Pair (first_operand k))) o) where
    abbrev Each : ℕ → Item → Type 0
    Each n i = P n i.kind i.origin

    each_in : (n : ℕ) (xs ys : List Item) → Reasks least xs ys → All (Each n) xs → All (Each n) ys
    each_in n xs ys no_items h = h
    each_in n (x ∷ xs) (y ∷ ys) (same rest) h = All-cons (Each n) x ys (All-head (Each n) x xs h) (each_in n xs ys rest (All-tail (Each n) x xs h))
    each_in n (x ∷ z ∷ xs) (y ∷ w ∷ ys) (asks {v} {r} {k} {o} {l} le rest) h =
        let later = All-tail (Each n) x (z ∷ xs) h in
        All-cons (Each n) x (w ∷ ys) (All-head (Each n) x (z ∷ xs) h)
        (All-cons (Each n) w ys (marks n v r k o (All-head (Each n) z xs later)) (each_in n xs ys rest (All-tail (Each n) z xs later)))

    each_on : (fs gs : List Block) → BlocksReask least fs gs → All (λ (b : Block). All (Each b.source_end) b.items) fs → All
        (λ (b : Block). All (Each b.source_end) b.items) gs
    each_on fs gs over h = h
    each_on (a ∷ fs) (b ∷ gs) (further id source_end items rest) h =
        All-cons (λ (c : Block). All (Each c.source_end) c.items) b gs
        (subst (λ (n : ℕ). All (Each n) b.items) (sym source_end) (each_in a.source_end a.items b.items items
        (All-head (λ (c : Block). All (Each c.source_end) c.items) a fs h)))
        (each_on fs gs rest (All-tail (λ (c : Block). All (Each c.source_end) c.items) a fs h))

  mark_fits : (n : ℕ) (v : VarId) (r k : ℕ) (o : Origin) → MarkFits (Mark v (At r)) o → MarkFits (Mark v (Pair (first_operand k))) o
  mark_fits n v r k (Kept p) h = tt
  mark_fits n v r k (Before p) h = absurd h

  old_block : (fs gs : List Block) → BlocksReask least fs gs → (b : Block) → Contains gs b →
      (a : Block) × Contains fs a × (a.id ≡ b.id) × (a.source_end ≡ b.source_end)
  old_block fs gs over b h = absurd (let lt = h.1 in omega (arith, lt))
  old_block (a ∷ fs) (c ∷ gs) (further id source_end items rest) b (zero, lt, e) =
      (a, (0, omega arith, refl), sym id ∙ ap (λ (z : Block). z.id) e, sym source_end ∙ ap (λ (z : Block). z.source_end) e)
  old_block (a ∷ fs) (c ∷ gs) (further id source_end items rest) b (suc m, lt, e) =
      let r = old_block fs gs rest b (m, omega (arith, lt), e) in
      let k = r.1 in
      let less = k.1 in
      (r.0, (suc k.0, omega (arith, less), k.2), r.2, r.3)

  module _ (fs gs : List Block) (rel : BlocksReask least fs gs) (subs : List DebugSubstitution) (low : LowEntries least subs) where
    abbrev fp : Program
    fp = program_of false fs (resolve subs)

    abbrev gp : Program
    gp = program_of false gs (resolve subs)

    met_on : (p : Pos) (n : ℕ) (q : Pos) (j : Item) → IsMetApart fp p n q j → IsMetApart gp p n q j
    met_on p n q j (at, counts, apart, way) = (code_on least fs gs rel (resolve subs) q j at (on_code Counts j.kind counts), counts, apart, by_way way) where
      by_way : ((q.block ≡ p.block) × (q.item < p.item)) ⊎ Leads fp p q → ((q.block ≡ p.block) × (q.item < p.item)) ⊎ Leads gp p q
      by_way (inl up) = inl up
      by_way (inr leads) = inr (leads_on least fs gs rel (resolve subs) leads)

    module _ (src : List Block) (srcp : Program) where
      shape_on : Shape src fs srcp fp → Shape src gs srcp gp
      shape_on shape = record {
        among = among_on rel shape.among;
        first = first_on fs gs rel ∙ shape.first;
        back = λ q leads edge. (let w = shape.back q leads edge in
            (w.0, w.1, code_on least fs gs rel (resolve subs) w.0 w.1 w.2 (on_code (GoesTo (first_of src)) w.1.kind w.3), w.3));
        order = order_on fs gs rel shape.order;
        items = each_on (λ n kind o. KindFits srcp kind n o) (λ n v r k o h. tt) fs gs rel shape.items;
        volatile = each_on (λ n kind o. StaysVolatile srcp kind o) (λ n v r k o h. tt) fs gs rel shape.volatile;
        stores = λ b member p i home at save o. stores_on b member p i home at save o;
        marks = each_on (λ n kind o. MarkFits kind o) mark_fits fs gs rel shape.marks;
      } where
        stores_on : (b : Block) → Contains gs b → (p : Pos) (i : Item) → p.block ≡ b.id → gp.fetch p ≡ Here i → OnRow IsSlotStore i.kind →
            i.origin ≡ Before (record { block = b.id; item = b.source_end }) → (q : Pos) × (j : Item) × IsMetApart gp p b.source_end q j
        stores_on b member p i home at save o =
            let a = old_block fs gs rel b member in
            let origin : i.origin ≡ Before (record { block = a.0.id; item = a.0.source_end }) = o ∙
            (λ z. Before (record { block = sym a.2 z; item = sym a.3 z })) in
            let w = shape.stores a.0 a.1 p i (home ∙ sym a.2) (code_back least fs gs rel (resolve subs) p i at (on_code IsSlotStore i.kind save)) save origin in
            let met : IsMetApart fp p b.source_end w.0 w.1 = subst (λ (n : ℕ). IsMetApart fp p n w.0 w.1) a.3 w.2 in
            (w.0, w.1, met_on p b.source_end w.0 w.1 met)

      kept_on : (p : Pos) (i : Item) → EndIsKept fp p i → EndIsKept gp p i
      kept_on p i (q, j, at, origin, ends) = (q, j, code_on least fs gs rel (resolve subs) q j at (end_code i.kind j.kind ends), origin, ends)

    pub keeps_on : (old new : Function) → old.blocks ≡ fs → new.blocks ≡ gs → new.objects ≡ old.objects →
        PreservesSimulation false true (change old subs new subs)
    keeps_on old new is is' objects = record {
      follows = λ source fol ends. (let srcp : Program = program_of true source.function.blocks (resolve source.subs) in
          let h = subst (λ (bs : List Block). Follows source.function.objects source.function.blocks bs (resolve source.subs) (resolve subs)) is fol.follows in
          record {
            objects = objects ∙ fol.objects;
            follows = subst (λ (bs : List Block). Follows source.function.objects source.function.blocks bs (resolve source.subs) (resolve subs)) (sym is')
                (record {
                  shape = shape_on source.function.blocks srcp h.shape;
                  runs = λ s start. runs_on least fs gs rel subs low ByItems srcp (first_of source.function.blocks) s start.pos (h.runs s start);
                });
          });
      ends = λ keeps source fol whole. (let srcp : Program = program_of true source.function.blocks (resolve source.subs) in
          let h = subst (λ (bs : List Block). HasWholeEnds source.function.objects source.function.blocks bs (resolve source.subs) (resolve subs)) is whole in
          subst (λ (bs : List Block). HasWholeEnds source.function.objects source.function.blocks bs (resolve source.subs) (resolve subs)) (sym is') (record {
            blocks = length_on fs gs rel ∙ h.blocks;
            kept = λ p i at end. kept_on source.function.blocks srcp p i (h.kept p i at end);
            only = λ q j at end. h.only q j (code_back least fs gs rel (resolve subs) q j at (on_code IsEnd j.kind end)) end;
            runs = λ s start. runs_on least fs gs rel subs low ByEnds srcp (first_of source.function.blocks) s start.pos (h.runs s start);
          }));
    }

no_false : IsTrue false → ⊥
no_false e = cc

-- one after the other
pub both : (c d e : Function) (subs : List DebugSubstitution) → PreservesSimulation false true (change c subs d subs) →
    PreservesSimulation false true (change d subs e subs) →
    PreservesSimulation false true (change c subs e subs)
both c d e subs h k = record {
  follows = λ src fol ends. k.follows src (h.follows src fol (λ none. absurd (no_false none))) (λ none. absurd (no_false none));
  ends = λ keeps src fol whole. k.ends keeps src (h.follows src fol (λ none. absurd (no_false none))) (h.ends keeps src fol whole);
}

pub all_numbers : (k : ℕ) (f : Function) → AllItems (λ i. Low k i.kind) f.blocks → AreBelow k f
all_numbers k f low j d lt m e within n is = low_number k _ (low j d lt m e within) n is

pub asked_follows : AskedFollows
asked_follows s k f subs sound below =
    let low = low_function k f subs below in
    let rel : BlocksReask k (blocks_put s k f.blocks) (blocks_asked s k f.blocks) = blocks_reask k s k (omega arith) f.blocks in
    let sound' : IsSound (with_phis s k f) = sound_back k (asked s k f) (blocks_put s k f.blocks) rel (asked_is_sound s k f sound (all_numbers k f low.0)) in
    both f (with_phis s k f) (asked s k f) subs (phis_follow k s f subs sound sound' low.0 low.1)
    (keeps_on k (blocks_put s k f.blocks) (blocks_asked s k f.blocks) rel subs low.1 (with_phis s k f) (asked s k f) refl refl refl)
