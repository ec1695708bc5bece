-- The law.
use Rattle.std.proofs.Common.{◌≡◌, ◌⊎◌, inl, inr, ℕ, zero, suc, ◌+◌, ◌<◌, List, [], ◌∷◌, length, All, Some, slice_get, true, false}
use Rattle.std.proofs.Common.{refl, sym, ap, ◌∙◌, subst, arith}
use Rattle.std.specs.Prelude.{slice_index_or}
use Rattle.std.proofs.lemmas.List.Elements.{All-contains}
use Rattle.mir_func.specs.declared.block.Block.{Block}
use Rattle.mir_func.specs.declared.item.Item.{Item}
use Rattle.mir_func.specs.declared.item.ItemKind.{ItemKind}
use Rattle.mir_func.specs.declared.item.ItemKind.TheVariants.{Mark}
use Rattle.mir_func.specs.declared.position.Origin.{Origin}
use Rattle.mir_func.specs.declared.position.Origin.TheVariants.{Kept}
use Rattle.mir_func.specs.declared.position.Pos.{Pos}
use Rattle.mir_func.specs.declared.variable.MarkValue.{MarkValue}
use Rattle.mir_func.specs.declared.variable.VarId.{VarId}
use Rattle.mir_func.specs.Function.{Function}
use Rattle.mir_func.specs.Graph.{Here, fetch_in, from_block}
use Rattle.mir_func.specs.Positions.{position_of}
use Rattle.sem_mir.specs.Align.{is_code}
use Rattle.sem_mir.specs.Follow.{InOrder, IsRead}
use Rattle.sem_mir.proofs.Reading.{found_in, front_item, within_list}
use Rattle.pass_trait.specs.Change.{change}
use Rattle.pass_trait.specs.declared.loss.Loss.{Loss}
use Rattle.listing_text.specs.declared.output.ListedFunction.{ListedFunction}
use Rattle.pass_trait.specs.Rule.{StandsAt}
use Rattle.read_metadata.specs.Maps.{Maps}
use Rattle.read_program.specs.declared.closing.Parsed.{Parsed}
use Rattle.run_command.specs.compile_theorem.Source.{PassedFunction}
use Rattle.pass_list.specs.declared.kind.PassKind.{PassKind}
use Rattle.run_command.specs.pass_manager.Exposed.{left_exposed}
use Rattle.run_command.specs.Program.{CompiledFunction, ArePassed, AreCompiledAs, names_of, passes_of}
use Rattle.theorem_marks.specs.Stand.{IsNotDropped, KeepsDebugValue, MarksStand, AllStand, CompiledMarksStand}
use Rattle.theorem_marks.proofs.Marks.{IsMark, HaveMark, untold_left, passes_keep}
use Rattle.theorem_marks.proofs.Order.{at_least, kept_later}

index_or : {A : Type 0} (xs : List A) (k : ℕ) (x : A) → slice_get xs k ≡ Some x → slice_index_or xs k x ≡ x
index_or [] k x e = cc
index_or (y ∷ ys) zero x e = let same : y ≡ x = cc in same
index_or (y ∷ ys) (suc k) x e = index_or ys k x e

got : {A : Type 0} (xs : List A) (k : ℕ) (x : A) → k < length xs → slice_index_or xs k x ≡ x → slice_get xs k ≡ Some x
got [] k x lt e = absurd (omega (arith, lt))
got (y ∷ ys) zero x lt e = ap Some e
got (y ∷ ys) (suc k) x lt e = got ys k x (omega (arith, lt)) e

-- a mark that was read is one of the source
read_mark : (f : Function) → IsRead f.blocks → (at : Pos) (i : Item) (v : VarId) (m : MarkValue) → StandsAt f at i → i.kind ≡ Mark v m → HaveMark at v f.blocks
read_mark f read at i v m stands is = by_blocks (from_block f.blocks at.block) refl stands where
  by_blocks : (bs : List Block) → from_block f.blocks at.block ≡ bs → fetch_in bs at.item ≡ Here i → HaveMark at v f.blocks
  by_blocks [] g e = cc
  by_blocks (b ∷ bs) g e =
      let w = found_in f.blocks at.block b bs g in
      let there : slice_get b.items at.item ≡ Some i = front_item b.items at.item b.source_end bs i e in
      let own : i.origin ≡ Kept (record { block = b.id; item = at.item }) = All-contains
      (λ (c : Block). (k : ℕ) (j : Item) → slice_get c.items k ≡ Some j → j.origin ≡ Kept (record { block = c.id; item = k })) f.blocks b read.items w.0
      at.item i there in
      record {
        block = b;
        among = w.0;
        mark = (
          i,
          (at.item, within_list b.items at.item i there, index_or b.items at.item i there),
          record {
            marks = (m, is);
            kept = own ∙ ap (λ (n : ℕ). Kept (record { block = n; item = at.item })) w.1;
          },
        );
      }

mark_no_code : (k : ItemKind) (v : VarId) (m : MarkValue) → k ≡ Mark v m → is_code k ≡ true → ⊥
mark_no_code k v m e h = let no : is_code k ≡ false = ap is_code e in cc

which : (j k : ℕ) → (j < k) ⊎ ((j ≡ k) ⊎ (k < j))
which zero zero = inr (inl refl)
which zero (suc k) = inl (omega arith)
which (suc j) zero = inr (inr (omega arith))
which (suc j) (suc k) = elim (which j k) [
  | inl lt ↦ inl (omega (arith, lt))
  | inr (inl e) ↦ inr (inl (ap suc e))
  | inr (inr gt) ↦ inr (inr (omega (arith, gt)))
]

-- the mark where it stands now
stands_now : (f : Function) → All (λ (b : Block). InOrder b.id 0 b.items) f.blocks → (p : Pos) (v : VarId) → HaveMark p v f.blocks → KeepsDebugValue f p v
stands_now f order p v h =
    let b : Block = h.block in
    let mark : Item = h.mark.0 in
    let index : ℕ = h.mark.1.0 in
    let is : IsMark p v mark = h.mark.2 in
    let in_order : InOrder b.id 0 b.items = All-contains (λ (c : Block). InOrder c.id 0 c.items) f.blocks b order h.among in
    let there : slice_get b.items index ≡ Some mark = got b.items index mark h.mark.1.1 h.mark.1.2 in
    let own : p.block ≡ b.id = sym (ap (λ (o : Origin). (position_of o).block) is.kept) ∙ (at_least b.id b.items 0 index mark in_order there).0 in
    record {
      block = b;
      among = h.among;
      number = sym own;
      index = index;
      mark = mark;
      stands = there;
      marks = is.marks;
      kept = is.kept;
      beside = λ k i q at code kept. (
        sym (ap (λ (o : Origin). (position_of o).block) kept) ∙ (at_least b.id b.items 0 k i in_order at).0 ∙ sym own,
        (
          λ lt. kept_later b.id b.items 0 k index i mark q p in_order at there kept is.kept lt,
          λ lt. by_place b k index mark i q p is in_order there at code kept (which k index) lt,
        ),
      );
    } where
      by_place : (b : Block) (k index : ℕ) (mark i : Item) (q p : Pos) → IsMark p v mark → InOrder b.id 0 b.items → slice_get b.items index ≡ Some mark →
          slice_get b.items k ≡ Some i → is_code i.kind ≡ true → i.origin ≡ Kept q → (k < index) ⊎ ((k ≡ index) ⊎ (index < k)) → q.item < p.item → k < index
      by_place b k index mark i q p is in_order there at code kept (inl before) lt = before
      by_place b k index mark i q p is in_order there at code kept (inr (inl same)) lt =
          let one : Some i ≡ Some mark = sym at ∙ ap (slice_get b.items) same ∙ there in
          let it : i ≡ mark = cc in
          absurd (mark_no_code i.kind v is.marks.0 (ap (λ (z : Item). z.kind) it ∙ is.marks.1) code)
      by_place b k index mark i q p is in_order there at code kept (inr (inr behind)) lt =
          let up : p.item < q.item = kept_later b.id b.items 0 index k mark i p q in_order there at is.kept kept behind in
          absurd (omega (arith, up, lt))

pub marks_stand : MarksStand
marks_stand reserve passes p told passed made at i v m stands is untold =
    let f : Function = p.source.function in
    let g : Function = p.function in
    stands_now g passed.follower.follows.shape.order at v
    (passes_keep at v (passes_of reserve passes p.source.exposure) (change f p.source.substitutions g p.substitutions) made.of_steps made.kept
    (untold_left at v made.of_steps (left_exposed reserve passes p.source.exposure g) (subst (λ (ls : List Loss). IsNotDropped ls at) made.are untold))
    (read_mark f passed.follower.read at i v m stands is))

all_stand : (names : ℕ → List ℕ) (reserve : List ℕ) (passes : List PassKind) (meta : Maps) (base first : ℕ) (read : List Parsed) (ps : List PassedFunction)
    (fs : List ListedFunction) (cs : List CompiledFunction) → ArePassed meta read ps → AreCompiledAs names reserve passes base first ps fs cs → AllStand ps cs
all_stand names reserve passes meta base first read [] [] [] passed are = tt
all_stand names reserve passes meta base first read [] [] (c ∷ cs) passed are = are
all_stand names reserve passes meta base first read [] (f ∷ fs) cs passed are = absurd are
all_stand names reserve passes meta base first read (p ∷ ps) [] cs passed are = absurd are
all_stand names reserve passes meta base first read (p ∷ ps) (f ∷ fs) [] passed are = are
all_stand names reserve passes meta base first [] (p ∷ ps) (f ∷ fs) (c ∷ cs) passed are = absurd passed
all_stand names reserve passes meta base first (q ∷ qs) (p ∷ ps) (f ∷ fs) (c ∷ cs) passed are = (
  marks_stand reserve passes p c.losses passed.1.passed are.0.lost,
  all_stand names reserve passes meta f.high (first + length c.lists) qs ps fs cs passed.2 are.1,
)

pub compiled_stand : CompiledMarksStand
compiled_stand reserve passes p c is =
    all_stand (names_of p.meta) reserve passes p.meta 0 0 p.functions is.functions c.output.functions c.functions is.passed is.compiled
