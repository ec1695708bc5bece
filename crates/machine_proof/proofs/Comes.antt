-- What stands in a function with its frame, and where it comes from in the source.
use Rattle.std.proofs.Common.{◌≡◌, ◌⊎◌, ℕ, zero, suc, ◌+◌, ◌*◌, ◌<◌, ◌≤◌, List, [], ◌∷◌, drop, length, All, Contains, slice_get, Option, Some, None}
use Rattle.std.proofs.Common.{true}
use Rattle.std.proofs.Common.{IsSome, refl, sym, ap, ◌∙◌, subst, inl, inr, arith}
use Rattle.std.proofs.lemmas.List.Elements.{All-contains}
use Rattle.rv64_instr.specs.Instruction.{Instruction}
use Rattle.rv64_instr.specs.LocationEffects.{is_call}
use Rattle.rv64_instr.specs.Row.{Row, Fixes, Moves, Sets, Addresses, Loads, Stores, LoadsSlot, StoresSlot, Branches, Jumps, Calls, Returns, Unfit, add_row}
use Rattle.rv64_instr.specs.Row.{row_of}
use Rattle.rv64_instr.specs.Arithmetic.{word}
use Rattle.mir_func.specs.declared.block.Block.{Block}
use Rattle.mir_func.specs.declared.debug_substitution.OperandPair.{OperandPair}
use Rattle.mir_func.specs.declared.exit.Exit.{Exit}
use Rattle.mir_func.specs.declared.exit.Exit.TheVariants.{Onward, Perhaps, Final}
use Rattle.mir_func.specs.declared.item.Item.{Item}
use Rattle.mir_func.specs.declared.item.ItemKind.{ItemKind}
use Rattle.mir_func.specs.declared.item.ItemKind.TheVariants.{Code, Mark, Phi}
use Rattle.mir_func.specs.declared.position.Origin.{Origin}
use Rattle.mir_func.specs.declared.position.Origin.TheVariants.{Kept, Before}
use Rattle.mir_func.specs.declared.position.Pos.{Pos}
use Rattle.mir_func.specs.Exits.{row_exit, exit_of}
use Rattle.mir_func.specs.Function.{Function}
use Rattle.mir_func.specs.Graph.{Fetch, Here, EndOfBlock, Outside, Program, below, front, fetch_in, from_block, program_of}
use Rattle.mir_func.specs.Sound.{ids_of}
use Rattle.mir_func.specs.SoundFrame.{IsFramed}
use Rattle.mir_func.specs.Positions.{position_of}
use Rattle.sem_mir.specs.Align.{is_code}
use Rattle.sem_mir.specs.Follow.{MayAdd, ItemHasClass, HasClass, RowFits, KindFits, next_rank, InOrder, Among, none}
use Rattle.rv64_instr.specs.View.{class_of, Class, Return, Odd}
use Rattle.sem_mir.specs.Follow.{same, left}
use Rattle.sem_mir.specs.State.{Core, content}
use Rattle.sem_mir.specs.Step.{Outcome, Falls, Goes, Gives, Traps, Asks, Breaks, Faulted, act, does, numbered, with_core, do_item, do_fetch, moved}
use Rattle.sem_mir.specs.Step.{step, result_at}
use Rattle.sem_mir.proofs.Reading.{found_in, front_item}
use Rattle.sem_simulation.proofs.Order.{rank_high}
use Rattle.machine_steps_proof.specs.Laid.{fetched}
use Rattle.machine_steps_proof.proofs.Points.{got, dropped}
use Rattle.machine_steps_proof.proofs.Rows.{acts}
use Rattle.machine_proof.specs.Runs.{NeverFaults, IsHarmless, FallsTo, past_item, past_end}
use Rattle.machine_proof.specs.Runs as runs
use Rattle.frame_rule.specs.Rule.{size_of, saved_of, framed_items, framed_of, renamed_code}
use Rattle.machine_proof.specs.Framing.{ResultsArePhysical, KindReturnsPhysical, IsMadeFrom}
use Rattle.frame_rule.proofs.Rows.{renamed_row, row_renamed}
use Rattle.machine_proof.proofs.Framed.{IsFrameCode, adds, stores, loads, prologue_is, epilogue_is, frame_onward, IsFramedItem, own, gives_back}
use Rattle.machine_proof.proofs.Framed.{framed_item_is}
use Rattle.machine_proof.proofs.Framed.{InPrologue, InBlock, point_of, in_order_get, in_order_below, framed_order}

-- ---- rows

adds_harmless : (n : ℕ) → IsHarmless (add_row 2 2 n)
adds_harmless zero = tt
adds_harmless (suc n) = tt

frame_harmless : (c : Instruction) → IsFrameCode c → IsHarmless (row_of c)
frame_harmless c (adds z e) = subst (λ (x : Instruction). IsHarmless (row_of x)) (sym e) (adds_harmless (word z))
frame_harmless c (stores s e) = subst (λ (x : Instruction). IsHarmless (row_of x)) (sym e) tt
frame_harmless c (loads s e) = subst (λ (x : Instruction). IsHarmless (row_of x)) (sym e) tt

-- added code is harmless once its slot is named by its offset, or a jump at the end of its block
added_row : (slots : List ℕ) (r : Row) (k source_end : ℕ) → MayAdd r k source_end → IsHarmless (renamed_row slots r) ⊎ (k ≡ source_end)
added_row slots (LoadsSlot rd n) k source_end h = inl tt
added_row slots (Fixes rd n) k source_end h = inl tt
added_row slots (StoresSlot rs n) k source_end h = inl tt
added_row slots (Jumps target) k source_end h = inr h
added_row slots _ k source_end h = absurd h

renamed_exit : (slots : List ℕ) (r : Row) → row_exit (renamed_row slots r) ≡ row_exit r
renamed_exit slots (LoadsSlot rd n) = refl
renamed_exit slots _ = refl

-- a return, or no code
final_class : (r : Row) → row_exit r ≡ Final → (class_of r ≡ Return) ⊎ (class_of r ≡ Odd)
final_class (Returns ending) e = inl refl
final_class Unfit e = inr refl
final_class _ e = cc

pub final_not_added : (r : Row) (k source_end : ℕ) → row_exit r ≡ Final → MayAdd r k source_end → ⊥
final_not_added (Returns ending) k source_end e h = h
final_not_added Unfit k source_end e h = h
final_not_added (Fixes rd n) k source_end e h = cc
final_not_added (LoadsSlot rd n) k source_end e h = cc
final_not_added (StoresSlot rs n) k source_end e h = cc
final_not_added (Jumps t) k source_end e h = cc
final_not_added _ k source_end e h = h

branch_not_added : (r : Row) (k source_end n : ℕ) → row_exit r ≡ Perhaps n → MayAdd r k source_end → ⊥
branch_not_added (Branches op a b t) k source_end n e h = h
branch_not_added (Fixes rd m) k source_end n e h = cc
branch_not_added (LoadsSlot rd m) k source_end n e h = cc
branch_not_added (StoresSlot rs m) k source_end n e h = cc
branch_not_added (Jumps t) k source_end n e h = cc
branch_not_added _ k source_end n e h = h

-- a return of physical registers, or no code, doesn't stop on a frame fault
return_goes : (r : Row) (c : Core) → (class_of r ≡ Return) ⊎ (class_of r ≡ Odd) → ResultsArePhysical r → ((q : ℕ) → q < 32 → IsSome (content c.regs q)) →
    act r c ≡ Traps → ⊥
unfolding does
return_goes (Returns ending) c k p w e = let bad : Gives (result_at c ending) ≡ Traps = sym (acts (Returns ending) c w p) ∙ e in cc
return_goes Unfit c k p w e = let bad : Breaks ≡ Traps = sym (acts Unfit c w (Rattle.std.proofs.lemmas.List.Elements.All-nil (λ (r : ℕ). r < 32))) ∙ e in cc
return_goes (Fixes rd n) c (inl k) p w e = cc
return_goes (Fixes rd n) c (inr k) p w e = cc
return_goes (Moves rd rs) c (inl k) p w e = cc
return_goes (Moves rd rs) c (inr k) p w e = cc
return_goes (Sets rd op a b) c (inl k) p w e = cc
return_goes (Sets rd op a b) c (inr k) p w e = cc
return_goes (Addresses rd n o) c (inl k) p w e = cc
return_goes (Addresses rd n o) c (inr k) p w e = cc
return_goes (Loads rd op base o) c (inl k) p w e = cc
return_goes (Loads rd op base o) c (inr k) p w e = cc
return_goes (Stores op rs base o) c (inl k) p w e = cc
return_goes (Stores op rs base o) c (inr k) p w e = cc
return_goes (LoadsSlot rd n) c (inl k) p w e = cc
return_goes (LoadsSlot rd n) c (inr k) p w e = cc
return_goes (StoresSlot rs n) c (inl k) p w e = cc
return_goes (StoresSlot rs n) c (inr k) p w e = cc
return_goes (Branches op a b t) c (inl k) p w e = cc
return_goes (Branches op a b t) c (inr k) p w e = cc
return_goes (Jumps t) c (inl k) p w e = cc
return_goes (Jumps t) c (inr k) p w e = cc
return_goes (Calls call) c (inl k) p w e = cc
return_goes (Calls call) c (inr k) p w e = cc

with_traps : (j : Core → Core) (x : Outcome) → with_core j x ≡ Traps → x ≡ Traps
with_traps j Traps e = refl
with_traps j (Falls c) e = cc
with_traps j (Goes n c) e = cc
with_traps j (Gives v) e = cc
with_traps j Asks e = cc
with_traps j Breaks e = cc

-- ---- the source

-- where no item stands it doesn't stop on a frame fault
no_item : (src : Program) (q : Pos) → ((i : Item) → src.fetch q ≡ Here i → ⊥) → NeverFaults src q
no_item src q h s at w e = by_fetch (src.fetch s.pos) refl e where
  by_fetch : (x : Fetch) → src.fetch s.pos ≡ x → moved src.enter s.pos (do_fetch src x s.core) ≡ Faulted → ⊥
  by_fetch (Here i) f k = h i (ap src.fetch (sym at) ∙ f)
  by_fetch (EndOfBlock j n) f k = cc
  by_fetch Outside f k = cc

-- a block's end has no item
past_items : (xs : List Item) (k : ℕ) (bs : List Block) (i : Item) → front (drop (length xs) xs) k bs ≡ Here i → ⊥
past_items xs k bs i e = none_at xs (front_item xs (length xs) k bs i e) where
  none_at : (xs : List Item) → slice_get xs (length xs) ≡ Some i → ⊥
  none_at [] h = cc
  none_at (x ∷ xs) h = none_at xs h

-- the source has each block of f, with its silent index
among_has : {fs bs : List Block} → Among fs bs → (b : Block) → Contains fs b → (c : Block) × Contains bs c × (c.id ≡ b.id) × (c.source_end ≡ b.source_end)
among_has none b (k, lt, e) = absurd (omega (arith, lt))
among_has (same {a} {b} {rest} {bs} id source_end more) x (zero, lt, e) =
    (b, Rattle.sem_mir.proofs.Places.contains_head b bs, sym id ∙ ap (λ (z : Block). z.id) e, sym source_end ∙ ap (λ (z : Block). z.source_end) e)
among_has (same {a} {b} {rest} {bs} id source_end more) x (suc k, lt, e) =
    let h = among_has more x (k, omega (arith, lt), e) in
    (h.0, Rattle.sem_mir.proofs.Places.contains_tail b h.0 bs h.1, h.2, h.3)
among_has (left {b} {rest} {bs} more) x m = let h = among_has more x m in (h.0, Rattle.sem_mir.proofs.Places.contains_tail b h.0 bs h.1, h.2, h.3)

module _ (source f : Function) (resolve fresolve : OperandPair → Option OperandPair) (made : IsMadeFrom source f resolve fresolve) where
  abbrev src : Program
  src = program_of true source.blocks resolve

  -- at the silent position of a block of f the source has no item
  pub silent_never : (b : Block) → Contains f.blocks b → (q : Pos) → q.block ≡ b.id → q.item ≡ b.source_end → (i : Item) → src.fetch q ≡ Here i → ⊥
  silent_never b member q at item i e =
      let a = among_has made.shape.among b member in
      let fd = Rattle.sem_mir.proofs.Reading.found source.blocks made.read.apart a.0 a.1 in
      let len : a.0.source_end ≡ length a.0.items = All-contains (λ (c : Block). c.source_end ≡ length c.items) source.blocks a.0 made.read.source_end a.1 in
      let from : from_block source.blocks q.block ≡ a.0 ∷ fd.rest = ap (from_block source.blocks) (at ∙ sym a.2) ∙ fd.at in
      let k : q.item ≡ length a.0.items = item ∙ sym a.3 ∙ len in
      past_items a.0.items a.0.source_end fd.rest i
      (ap (λ (n : ℕ). front (drop n a.0.items) a.0.source_end fd.rest) (sym k) ∙ ap (λ (bs : List Block). fetch_in bs q.item) (sym from) ∙ e)

  -- at a return, or at what is no code, it doesn't stop on a frame fault
  returns_never : (r : Row) (q : Pos) → (class_of r ≡ Return) ⊎ (class_of r ≡ Odd) → HasClass r (src.fetch q) → NeverFaults src q
  returns_never r q k h s at w e = by_fetch (src.fetch q) refl h where
    by_kind : (i : Item) → src.fetch q ≡ Here i → (x : ItemKind) → i.kind ≡ x → ItemHasClass r x → ⊥
    by_kind i f (Code c n) ek hc =
        let kinds = subst (λ (z : Class). (z ≡ Return) ⊎ (z ≡ Odd)) (sym hc) k in
        let j = numbered true (is_call (row_of c)) n c.operands in
        let here : src.fetch s.pos ≡ Here i = ap src.fetch at ∙ f in
        let go : step src s ≡ moved src.enter s.pos (with_core j (act (row_of c) s.core)) =
        ap (λ (x : Fetch). moved src.enter s.pos (do_fetch src x s.core)) here ∙ ap (λ (x : ItemKind). moved src.enter s.pos (do_item src x s.core)) ek in
        let physical = subst KindReturnsPhysical ek (of_source q i f) in
        return_goes (row_of c) s.core kinds physical w
        (with_traps j (act (row_of c) s.core) (Rattle.sem_simulation.proofs.Outcomes.faults_traps src.enter s.pos (with_core j (act (row_of c) s.core))
        (sym go ∙
        e))) where
          of_source : (q : Pos) (i : Item) → src.fetch q ≡ Here i → KindReturnsPhysical i.kind
          of_source q i e = by_blocks (from_block source.blocks q.block) refl e where
            by_blocks : (bs : List Block) → from_block source.blocks q.block ≡ bs → fetch_in bs q.item ≡ Here i → KindReturnsPhysical i.kind
            by_blocks [] d h = cc
            by_blocks (b ∷ rest) d h =
                let fd = found_in source.blocks q.block b rest d in
                All-contains (λ (j : Item). KindReturnsPhysical j.kind) b.items i
                (All-contains (λ (b : Block). All (λ (j : Item). KindReturnsPhysical j.kind) b.items) source.blocks b made.returns fd.0)
                (got b.items q.item i (front_item b.items q.item b.source_end rest i h))
    by_kind i f (Mark v m) ek hc = absurd hc
    by_kind i f (Phi p n) ek hc = absurd hc

    by_fetch : (x : Fetch) → src.fetch q ≡ x → HasClass r x → ⊥
    by_fetch (Here i) f hc = by_kind i f i.kind refl hc
    by_fetch (EndOfBlock j n) f hc = absurd hc
    by_fetch Outside f hc = absurd hc

  -- ---- points

  -- an item of f, in its block
  pub record IsOf (b : Block) (x : Item) : Type 0 where
    pub member : Contains f.blocks b
    pub home : (position_of x.origin).block ≡ b.id
    pub fits : KindFits src x.kind b.source_end x.origin

  pub of_f : (j : ℕ) (b : Block) (rest : List Block) → drop j f.blocks ≡ b ∷ rest → (n : ℕ) (x : Item) → slice_get b.items n ≡ Some x → IsOf b x
  of_f j b rest d n x e =
      let m = got f.blocks j b (dropped f.blocks j b rest d) in
      record {
        member = m;
        home = (in_order_get b.id 0 b.items (All-contains (λ (c : Block). InOrder c.id 0 c.items) f.blocks b made.shape.order m) n x e).0;
        fits = All-contains (λ (i : Item). KindFits src i.kind b.source_end i.origin) b.items x
            (All-contains (λ (c : Block). All (λ (i : Item). KindFits src i.kind c.source_end i.origin) c.items) f.blocks b made.shape.items m)
            (got b.items n x e);
      }

  pub code_same : (a : Instruction) (m : Option ℕ) (b : Instruction) (n : Option ℕ) → Code a m ≡ Code b n → a ≡ b
  code_same a m b n e = cc

  origin_same : (p q : Pos) → Before p ≡ Before q → p ≡ q
  origin_same p q e = cc

  -- code of the function is code of f, its slots named by their offsets
  pub own_code : (x : Item) (c : Instruction) (k : Option ℕ) → Rattle.frame_rule.specs.Rule.renamed_kind f.slots x.kind ≡ Code c k →
      (d : Instruction) × (x.kind ≡ Code d k) × (c ≡ renamed_code f.slots d)
  own_code x c k e = by_kind x.kind refl e where
    by_kind : (z : ItemKind) → x.kind ≡ z → Rattle.frame_rule.specs.Rule.renamed_kind f.slots z ≡ Code c k →
        (d : Instruction) × (x.kind ≡ Code d k) × (c ≡ renamed_code f.slots d)
    by_kind (Code d m) q h = let one : renamed_code f.slots d ≡ c = cc in let two : m ≡ k = cc in (d, q ∙ ap (Code d) two, sym one)
    by_kind (Mark v m) q h = cc
    by_kind (Phi p n) q h = cc

  pub own_exit : (x : Item) → exit_of (Rattle.frame_rule.specs.Rule.renamed_kind f.slots x.kind) ≡ exit_of x.kind
  own_exit x = by_kind x.kind where
    by_kind : (z : ItemKind) → exit_of (Rattle.frame_rule.specs.Rule.renamed_kind f.slots z) ≡ exit_of z
    by_kind (Code d m) = ap row_exit (row_renamed f.slots d) ∙ renamed_exit f.slots (row_of d)
    by_kind (Mark v m) = refl
    by_kind (Phi p n) = refl

  pub fits_before : (b : Block) (x : Item) (d : Instruction) (k : Option ℕ) (q : Pos) → x.kind ≡ Code d k → x.origin ≡ Before q →
      KindFits src x.kind b.source_end x.origin →
      MayAdd (row_of d) q.item b.source_end
  fits_before b x d k q ek eo h = subst (RowFits src (row_of d) b.source_end) eo (subst (λ (z : ItemKind). KindFits src z b.source_end x.origin) ek h)

  module _ (framed : IsFramed (framed_of f)) where
    pub added_at : (p : Pos) (i : Item) (c : Instruction) (k : Option ℕ) (q : Pos) → fetched (framed_of f) p ≡ Here i → i.kind ≡ Code c k →
        i.origin ≡ Before q → IsHarmless (row_of c) ⊎ NeverFaults src q
    added_at p i c k q e kind origin = elim (point_of f p i e) as (λ _. IsHarmless (row_of c) ⊎ NeverFaults src q) [
      | inl pro ↦ inl (subst (λ (x : Instruction). IsHarmless (row_of x)) (code_same pro.is.instruction None c k (sym pro.is.kind ∙ kind))
          (frame_harmless pro.is.instruction (prologue_is (size_of f) (saved_of f) pro.is.instruction pro.is.member)))
      | inr blk ↦ by_item blk (framed_item_is f blk.block.items p.item i blk.stands)
    ] where
      by_item : (blk : InBlock f p i) → IsFramedItem f blk.block.items p.item i → IsHarmless (row_of c) ⊎ NeverFaults src q
      by_item blk (gives_back n x at final is) = inl (subst (λ (x : Instruction). IsHarmless (row_of x)) (code_same is.instruction None c k (sym is.kind
          ∙ kind))
          (frame_harmless is.instruction (epilogue_is (size_of f) (saved_of f) is.instruction is.member)))
      by_item blk (own n x at made_of ix) =
          let o = of_f blk.index blk.block blk.rest blk.found n x at in
          let code = own_code x c k (ap (λ (z : Item). z.kind) (sym made_of) ∙ kind) in
          let eo : x.origin ≡ Before q = ap (λ (z : Item). z.origin) (sym made_of) ∙ origin in
          let may = fits_before blk.block x code.0 k q code.1 eo o.fits in
          elim (added_row f.slots (row_of code.0) q.item blk.block.source_end may) as (λ _. IsHarmless (row_of c) ⊎ NeverFaults src q) [
            | inl h ↦ inl (subst IsHarmless (sym (ap row_of code.2 ∙ row_renamed f.slots code.0)) h)
            | inr z ↦ inr (no_item src q (silent_never blk.block o.member q (ap (λ (w : Origin). (position_of w).block) (sym eo) ∙ o.home) z))
          ]

    pub returns_at : (p : Pos) (i : Item) → fetched (framed_of f) p ≡ Here i → exit_of i.kind ≡ Final → NeverFaults src (position_of i.origin)
    returns_at p i e final = elim (point_of f p i e) as (λ _. NeverFaults src (position_of i.origin)) [
      | inl pro ↦ absurd (not_onward (ap exit_of (sym pro.is.kind) ∙ final)
          (frame_onward pro.is.instruction (prologue_is (size_of f) (saved_of f) pro.is.instruction pro.is.member)))
      | inr blk ↦ by_item blk (framed_item_is f blk.block.items p.item i blk.stands)
    ] where
      not_onward : {x : Exit} → x ≡ Final → x ≡ Onward → ⊥
      not_onward a b = let bad : Onward ≡ Final = sym b ∙ a in cc

      by_item : (blk : InBlock f p i) → IsFramedItem f blk.block.items p.item i → NeverFaults src (position_of i.origin)
      by_item blk (gives_back n x at fin is) = absurd (not_onward (ap exit_of (sym is.kind) ∙ final)
          (frame_onward is.instruction (epilogue_is (size_of f) (saved_of f) is.instruction is.member)))
      by_item blk (own n x at made_of ix) =
          let o = of_f blk.index blk.block blk.rest blk.found n x at in
          let ex : exit_of x.kind ≡ Final = sym (own_exit x) ∙ ap (λ (z : Item). exit_of z.kind) (sym made_of) ∙ final in
          subst (λ (z : Item). NeverFaults src (position_of z.origin)) (sym made_of) (by_kind x o x.kind refl ex) where
            by_kind : (x : Item) (o : IsOf blk.block x) (z : ItemKind) → x.kind ≡ z → exit_of x.kind ≡ Final → NeverFaults src (position_of x.origin)
            by_kind x o (Mark v m) ek ex = let bad : Onward ≡ Final = ap exit_of (sym ek) ∙ ex in cc
            by_kind x o (Phi q n) ek ex = let bad : Onward ≡ Final = ap exit_of (sym ek) ∙ ex in cc
            by_kind x o (Code d n) ek ex = by_origin x.origin refl where
              row : row_exit (row_of d) ≡ Final
              row = ap exit_of (sym ek) ∙ ex

              by_origin : (w : Origin) → x.origin ≡ w → NeverFaults src (position_of w)
              by_origin (Before q) eo = absurd (final_not_added (row_of d) q.item blk.block.source_end row (fits_before blk.block x d n q ek eo o.fits))
              by_origin (Kept q) eo = returns_never (row_of d) q (final_class (row_of d) row)
                  (subst (RowFits src (row_of d) blk.block.source_end) eo (subst (λ (z : ItemKind). KindFits src z blk.block.source_end x.origin) ek o.fits))

    -- ---- the order

    -- the way goes down the text
    pub falls_down : {p q : Pos} → FallsTo (framed_of f) p q → ((q.block ≡ p.block) × (p.item ≤ q.item)) ⊎ (p.block < q.block)
    falls_down runs.here = inl (refl, omega arith)
    falls_down (past_item {p} {q} i h plain rest) = elim (falls_down rest) as (λ _. ((q.block ≡ p.block) × (p.item ≤ q.item)) ⊎ (p.block < q.block)) [
      | inl k ↦ inl (k.0, (let a = k.1 in omega (arith, a)))
      | inr k ↦ inr k
    ]
    falls_down (past_end {p} {q} k n h rest) = elim (falls_down rest) as (λ _. ((q.block ≡ p.block) × (p.item ≤ q.item)) ⊎ (p.block < q.block)) [
      | inl a ↦ inr (let b = a.0 in omega (arith, b))
      | inr a ↦ inr (let b = a in omega (arith, b))
    ]

    pub block_order : (b : Block) → Contains f.blocks b → InOrder b.id 0 (framed_items f b.items)
    block_order b m = framed_order f b.id 0 b.items refl (All-contains (λ (c : Block). InOrder c.id 0 c.items) f.blocks b made.shape.order m)

    -- an item of a block comes from the block with its number
    pub home_of : (p : Pos) (i : Item) (blk : InBlock f p i) → (position_of i.origin).block ≡ blk.block.id
    home_of p i blk = (in_order_get blk.block.id 0 (framed_items f blk.block.items) (block_order blk.block (got f.blocks blk.index blk.block
        (dropped f.blocks blk.index blk.block blk.rest blk.found))) p.item i blk.stands).0

    id_at : (bs : List Block) (k : ℕ) (d : Block) → slice_get bs k ≡ Some d → slice_get (ids_of bs) k ≡ Some d.id
    id_at [] k d e = cc
    id_at (b ∷ bs) zero d e = let one : b ≡ d = cc in ap (λ (x : Block). Some x.id) one
    id_at (b ∷ bs) (suc k) d e = id_at bs k d e

    -- and of two blocks the numbers differ
    pub index_of_home : (p q : Pos) (i j : Item) (a : InBlock f p i) (b : InBlock f q j) → a.block.id ≡ b.block.id → a.index ≡ b.index
    index_of_home p q i j a b e =
        made.sound.blocks_apart a.index b.index b.block.id (id_at f.blocks a.index a.block (dropped f.blocks a.index a.block a.rest a.found) ∙ ap Some e)
        (id_at f.blocks b.index b.block (dropped f.blocks b.index b.block b.rest b.found))

    pub branch_kept : (p : Pos) (i : Item) (n : ℕ) (blk : InBlock f p i) → exit_of i.kind ≡ Perhaps n → IsFramedItem f blk.block.items p.item i →
        (q : Pos) × (i.origin ≡ Kept q)
    branch_kept p i n blk exit (gives_back m x at fin is) =
        let bad : Onward ≡ Perhaps n = sym (frame_onward is.instruction (epilogue_is (size_of f) (saved_of f) is.instruction is.member))
        ∙ ap exit_of (sym is.kind) ∙ exit in cc
    branch_kept p i n blk exit (own m x at made_of ix) =
        let o = of_f blk.index blk.block blk.rest blk.found m x at in
        let ex : exit_of x.kind ≡ Perhaps n = sym (own_exit x) ∙ ap (λ (z : Item). exit_of z.kind) (sym made_of) ∙ exit in
        let h = by_kind x o x.kind refl ex in
        (h.0, ap (λ (z : Item). z.origin) made_of ∙ h.1) where
          by_kind : (x : Item) (o : IsOf blk.block x) (z : ItemKind) → x.kind ≡ z → exit_of x.kind ≡ Perhaps n → (q : Pos) × (x.origin ≡ Kept q)
          by_kind x o (Mark v m) ek ex = let bad : Onward ≡ Perhaps n = ap exit_of (sym ek) ∙ ex in cc
          by_kind x o (Phi q m) ek ex = let bad : Onward ≡ Perhaps n = ap exit_of (sym ek) ∙ ex in cc
          by_kind x o (Code d m) ek ex = by_origin x.origin refl where
            by_origin : (w : Origin) → x.origin ≡ w → (q : Pos) × (x.origin ≡ Kept q)
            by_origin (Kept q) eo = (q, eo)
            by_origin (Before q) eo = absurd (branch_not_added (row_of d) q.item blk.block.source_end n (ap exit_of (sym ek)
                ∙ ex) (fits_before blk.block x d m q ek eo o.fits))

    pub apart_at : (p q : Pos) (i j : Item) (n : ℕ) → fetched (framed_of f) p ≡ Here i → exit_of i.kind ≡ Perhaps n → FallsTo (framed_of f) (below p) q →
        fetched (framed_of f) q ≡ Here j → is_code j.kind ≡ true → position_of j.origin ≡ position_of i.origin → ⊥
    apart_at p q i j n e exit way g code eq = by_points (point_of f p i e) (point_of f q j g) where
      by_points : InPrologue f p i ⊎ InBlock f p i → InPrologue f q j ⊎ InBlock f q j → ⊥
      by_points (inl pro) b =
          let bad : Onward ≡ Perhaps n = sym (frame_onward pro.is.instruction (prologue_is (size_of f) (saved_of f) pro.is.instruction pro.is.member))
          ∙ ap exit_of (sym pro.is.kind) ∙ exit in cc
      by_points (inr a) (inl pro) = by_way (falls_down way) where
        by_way : ((q.block ≡ p.block) × (p.item + 1 ≤ q.item)) ⊎ (p.block < q.block) → ⊥
        by_way (inl k) = let x = a.at in let y = pro.at in let z = k.0 in omega (arith, x, y, z)
        by_way (inr k) = let x = a.at in let y = pro.at in omega (arith, x, y, k)
      by_points (inr a) (inr b) = by_way (falls_down way) where
        ids : a.block.id ≡ b.block.id
        ids = sym (home_of p i a) ∙ ap (λ (z : Pos). z.block) (sym eq) ∙ home_of q j b

        indices : a.index ≡ b.index
        indices = index_of_home p q i j a b ids

        blocks : a.block ≡ b.block
        blocks = let w : a.block ∷ a.rest ≡ b.block ∷ b.rest = sym a.found ∙ ap (λ (z : ℕ). drop z f.blocks) indices ∙ b.found in cc

        by_way : ((q.block ≡ p.block) × (p.item + 1 ≤ q.item)) ⊎ (p.block < q.block) → ⊥
        by_way (inr k) = let x = a.at in let y = b.at in let z = indices in omega (arith, x, y, z, k)
        by_way (inl k) =
            let kept = branch_kept p i n a exit (framed_item_is f a.block.items p.item i a.stands) in
            let m = got f.blocks a.index a.block (dropped f.blocks a.index a.block a.rest a.found) in
            let stands : slice_get (framed_items f a.block.items) q.item ≡ Some j = ap (λ (z : Block). slice_get (framed_items f z.items) q.item) blocks
            ∙ b.stands in
            let lt = k.1 in
            let below_it = in_order_below a.block.id 0 (framed_items f a.block.items) (block_order a.block m) p.item q.item i j a.stands stands (omega
            (arith, lt)) in
            let up = rank_high j.origin in
            let two : next_rank i.origin ≡ 2 * kept.0.item + 2 = ap next_rank kept.1 in
            let item : (position_of j.origin).item ≡ kept.0.item = ap (λ (z : Pos). z.item) (eq ∙ ap position_of kept.1) in
            omega (arith, below_it, up, two, item)
