-- A function with its frame has plain turns.
use Rattle.std.proofs.Common.{◌≡◌, ◌⊎◌, ℕ, suc, ◌<◌, ◌≤◌, List, [], ◌∷◌, drop, Contains, slice_get, Option}
use Rattle.std.proofs.Common.{Some, true, false}
use Rattle.std.proofs.Common.{refl, sym, ap, ◌∙◌, subst, inl, inr, arith}
use Rattle.std.proofs.lemmas.Bool.{cases_lt}
use Rattle.std.proofs.lemmas.List.Elements.{All-contains}
use Rattle.rv64_instr.specs.Instruction.{Instruction}
use Rattle.rv64_instr.specs.LocationEffects.{IsSlotStore}
use Rattle.rv64_instr.specs.Row.{Row, StoresSlot, Jumps, row_of}
use Rattle.mir_func.specs.declared.block.Block.{Block}
use Rattle.mir_func.specs.declared.debug_substitution.OperandPair.{OperandPair}
use Rattle.mir_func.specs.declared.exit.Exit.TheVariants.{Onward, Always, Final}
use Rattle.mir_func.specs.declared.item.Item.{Item}
use Rattle.mir_func.specs.declared.item.ItemKind.{ItemKind}
use Rattle.mir_func.specs.declared.item.ItemKind.TheVariants.{Code, Mark, Phi}
use Rattle.mir_func.specs.declared.position.Origin.{Origin}
use Rattle.mir_func.specs.declared.position.Origin.TheVariants.{Kept, Before}
use Rattle.mir_func.specs.declared.position.Pos.{Pos}
use Rattle.mir_func.specs.Exits.{exit_of, leads_back}
use Rattle.mir_func.specs.Function.{Function}
use Rattle.mir_func.specs.Graph.{Fetch, Here, EndOfBlock, Outside, Program, below, block_start, fetch_in, program_of, framed_program, Leads}
use Rattle.mir_func.specs.Sound.{EndsWell}
use Rattle.mir_func.specs.SoundFrame.{body_of, IsFramed}
use Rattle.sem_mir.specs.Align.{is_code, is_jump, is_jump_row}
use Rattle.sem_mir.specs.Follow.{OnRow, KindFits, RowFits, HasClass, rank, next_rank, InOrder}
use Rattle.sem_mir.specs.State.{State}
use Rattle.sem_mir.specs.Step.{Outcome, Falls, Goes, Gives, Traps, Asks, Breaks, Went, do_fetch, moved, step}
use Rattle.sem_mir.proofs.Reading.{item_front}
use Rattle.sem_simulation.specs.Words.{IsAddedJump, HasPlainTurns}
use Rattle.sem_simulation.proofs.Order.{rank_high, same_pos}
use Rattle.machine_steps_proof.proofs.Points.{got, dropped, StandsAt, stands_at}
use Rattle.frame_rule.specs.Rule.{size_of, saved_of, framed_items, framed_of, renamed, renamed_code}
use Rattle.machine_proof.specs.Framing.{IsMadeFrom, IsInner, FramedHasPlainTurns}
use Rattle.machine_proof.proofs.Ways.{items_in, image_of, IsHead, head_at, leads_image}
use Rattle.mir_func.specs.Graph.{from_block}
use Rattle.mir_func.specs.Positions.{position_of}
use Rattle.sem_mir.specs.Follow.{IsMetApart}
use Rattle.sem_mir.proofs.Reading.{FoundAt, found, front_item}
use Rattle.sem_simulation.proofs.Laid.{from_home}
use Rattle.frame_rule.specs.Rule.{renamed_kind}
use Rattle.machine_proof.proofs.Framed.{index_in}
use Rattle.frame_rule.proofs.Rows.{renamed_row, row_renamed}
use Rattle.machine_proof.proofs.Framed.{prologue_is, epilogue_is, frame_onward, IsFramedItem, own, gives_back, framed_item_is, InPrologue, InBlock}
use Rattle.machine_proof.proofs.Framed.{point_of, in_order_below}
use Rattle.machine_proof.proofs.Comes.{IsOf, of_f, own_code, own_exit, fits_before, block_order, silent_never, home_of, index_of_home}
use Rattle.machine_proof.proofs.Ends.{jump_always, onward_always, ends_last, lower, next_low, added_of, jump_may, end_row, final_row, row_goes}
use Rattle.machine_proof.proofs.Ends.{store_code, counts_code}

module _ (source f : Function) (resolve fresolve : OperandPair →
    Option OperandPair) (made : IsMadeFrom source f resolve fresolve) (framed : IsFramed (framed_of f)) where
  abbrev G : Program
  G = framed_program (framed_of f).blocks fresolve

  abbrev src : Program
  src = program_of true source.blocks resolve

  abbrev fp : Program
  fp = program_of false f.blocks fresolve

  -- where a block of the framed function has an item at an index
  fetch_at : (p : Pos) (i : Item) (s : StandsAt (framed_of f) p i) (k : ℕ) (j : Item) → slice_get s.block.items k ≡ Some j →
      (q : Pos) → q.block ≡ p.block → q.item ≡ k → G.fetch q ≡ Here j
  fetch_at p i s k j e q b n =
      ap (λ (x : ℕ). fetch_in (drop x (framed_of f).blocks) q.item) b ∙ ap (λ (bs : List Block). fetch_in bs q.item) s.found
      ∙ item_front s.block.items q.item s.block.source_end s.rest j (ap (slice_get s.block.items) n ∙ e)

  same_stands : (p q : Pos) (i j : Item) (s : StandsAt (framed_of f) p i) (t : StandsAt (framed_of f) q j) → p.block ≡ q.block → s.block ≡ t.block
  same_stands p q i j s t b =
      let w : s.block ∷ s.rest ≡ t.block ∷ t.rest = sym s.found ∙ ap (λ (x : ℕ). drop x (framed_of f).blocks) b ∙ t.found in cc

  pro_onward : (p : Pos) (i : Item) → InPrologue f p i → exit_of i.kind ≡ Onward
  pro_onward p i pro = ap exit_of pro.is.kind ∙ frame_onward pro.is.instruction (prologue_is (size_of f) (saved_of f) pro.is.instruction pro.is.member)

  jumps_inner : (p : Pos) (i : Item) → G.fetch p ≡ Here i → is_jump i.kind ≡ true → InBlock f p i
  jumps_inner p i e j = elim (point_of f p i e) as (λ _. InBlock f p i) [
    | inl pro ↦ absurd (onward_always (pro_onward p i pro) (jump_always i.kind j).1)
    | inr blk ↦ blk
  ]

  jumps : (p : Pos) (i : Item) → G.fetch p ≡ Here i → is_jump i.kind ≡ true → IsInner p
  jumps p i e j = let b = (jumps_inner p i e j).at in omega (arith, b)

  on : (s u : State) → IsInner s.pos → step G s ≡ Went u → IsInner u.pos
  on s u h e = by_outcome (do_fetch G (G.fetch s.pos) s.core) e where
    by_outcome : (x : Outcome) → moved G.enter s.pos x ≡ Went u → IsInner u.pos
    by_outcome (Falls c) e =
        let to : State = record { pos = below s.pos; core = c } in let same : to ≡ u = cc in subst (λ (z : State). IsInner z.pos) same h
    by_outcome (Goes n c) e =
        let to : State = record { pos = block_start (G.enter n); core = c } in let same : to ≡ u = cc in
        subst (λ (z : State). IsInner z.pos) same (omega arith)
    by_outcome (Gives v) e = cc
    by_outcome Traps e = cc
    by_outcome Asks e = cc
    by_outcome Breaks e = cc

  inner_block : (p : Pos) (i : Item) → IsInner p → G.fetch p ≡ Here i → InBlock f p i
  inner_block p i h e = elim (point_of f p i e) as (λ _. InBlock f p i) [
    | inl pro ↦ (let z = pro.at in absurd (omega (arith, z, h)))
    | inr blk ↦ blk
  ]

  home : (p q : Pos) (i j : Item) → IsInner p → IsInner q → G.fetch p ≡ Here i → G.fetch q ≡ Here j →
      (position_of i.origin).block ≡ (position_of j.origin).block →
      p.block ≡ q.block
  home p q i j hp hq e g eq =
      let a = inner_block p i hp e in
      let b = inner_block q j hq g in
      let ids : a.block.id ≡ b.block.id = sym (home_of source f resolve fresolve made framed p i a) ∙ eq
      ∙ home_of source f resolve fresolve made framed q j b in
      a.at ∙ ap suc (index_of_home source f resolve fresolve made framed p q i j a b ids) ∙ sym b.at

  same_block : (p q : Pos) (i j : Item) (a : InBlock f p i) (b : InBlock f q j) → p.block ≡ q.block → a.block ≡ b.block
  same_block p q i j a b e =
      let x = a.at in
      let y = b.at in
      let n : a.index ≡ b.index = omega (arith, x, y, e) in
      let w : a.block ∷ a.rest ≡ b.block ∷ b.rest = sym a.found ∙ ap (λ (z : ℕ). drop z f.blocks) n ∙ b.found in cc

  last : (p q : Pos) (i j : Item) → G.fetch p ≡ Here i → is_jump i.kind ≡ true → G.fetch q ≡ Here j → p.block ≡ q.block → p.item < q.item → ⊥
  last p q i j e jump g b lt =
      let s = stands_at (framed_of f) p i e in
      let t = stands_at (framed_of f) q j g in
      let inner = (jumps_inner p i e jump).at in
      let member = in_body (framed_of f).blocks p.block (jumps_inner p i e jump).index s.block s.rest inner s.found in
      ends_last s.block.items (All-contains (λ (x : Block). EndsWell x.items) (body_of (framed_of f).blocks) s.block framed.ends member) p.item q.item i j
      (jump_always i.kind jump).0 s.at (jump_always i.kind jump).1
      (ap (λ (x : Block). slice_get x.items q.item) (same_stands p q i j s t b) ∙ t.at) lt where
        in_body : (bs : List Block) (n k : ℕ) (c : Block) (rest : List Block) → n ≡ suc k → drop n bs ≡ c ∷ rest → Contains (body_of bs) c
        in_body [] n k c rest e d = let h : drop (suc k) [] ≡ c ∷ rest = ap (λ (x : ℕ). drop x []) (sym e) ∙ d in cc
        in_body (b ∷ bs) n k c rest e d = got bs k c (dropped bs k c rest (ap (λ (x : ℕ). drop x (b ∷ bs)) (sym e) ∙ d))

  filled : (p q : Pos) (i : Item) → G.fetch p ≡ Here i → q.block ≡ p.block → q.item < p.item → (j : Item) × (G.fetch q ≡ Here j)
  filled p q i e b lt =
      let s = stands_at (framed_of f) p i e in
      let l = lower s.block.items p.item q.item i s.at lt in
      (l.0, fetch_at p i s q.item l.0 l.1 q b refl)

  pro_position : (p : Pos) (i : Item) (a : InPrologue f p i) → position_of i.origin ≡ block_start a.first.id
  pro_position p i a = ap position_of a.is.origin

  order : (p q : Pos) (i j : Item) → G.fetch p ≡ Here i → G.fetch q ≡ Here j → p.block ≡ q.block → p.item ≤ q.item →
      ((position_of i.origin).block ≡ (position_of j.origin).block) × ((position_of i.origin).item ≤ (position_of j.origin).item)
  order p q i j e g b le = by_points (point_of f p i e) (point_of f q j g) where
    by_points : InPrologue f p i ⊎ InBlock f p i → InPrologue f q j ⊎ InBlock f q j →
        ((position_of i.origin).block ≡ (position_of j.origin).block) × ((position_of i.origin).item ≤ (position_of j.origin).item)
    by_points (inl x) (inl y) =
        let w : x.first ∷ x.rest ≡ y.first ∷ y.rest = sym x.blocks ∙ y.blocks in
        let first : x.first ≡ y.first = cc in
        let eq = pro_position p i x ∙ ap (λ (z : Block). block_start z.id) first ∙ sym (pro_position q j y) in
        (ap (λ (z : Pos). z.block) eq, (let k = ap (λ (z : Pos). z.item) eq in omega (arith, k)))
    by_points (inl x) (inr y) = let k = x.at in let l = y.at in absurd (omega (arith, k, l, b))
    by_points (inr x) (inl y) = let k = x.at in let l = y.at in absurd (omega (arith, k, l, b))
    by_points (inr x) (inr y) =
        let same = same_block p q i j x y b in
        let stands : slice_get (framed_items f x.block.items) q.item ≡ Some j = ap (λ (z : Block). slice_get (framed_items f z.items) q.item) same ∙ y.stands in
        let m = got f.blocks x.index x.block (dropped f.blocks x.index x.block x.rest x.found) in (
          home_of source f resolve fresolve made framed p i x ∙ ap (λ (z : Block). z.id) same ∙ sym (home_of source f resolve fresolve made framed q j y),
          elim (cases_lt p.item q.item) as (λ _. (position_of i.origin).item ≤ (position_of j.origin).item) [
            | inl lt ↦
                let k = in_order_below x.block.id 0 (framed_items f x.block.items) (block_order source f resolve fresolve made framed x.block m) p.item
                q.item i j x.stands stands lt in
                let up = rank_high j.origin in
                let low = next_low i.origin in
                omega (arith, k, up, low)
            | inr ge ↦
                let n : p.item ≡ q.item = omega (arith, le, ge) in
                let one : Some i ≡ Some j = sym x.stands ∙ ap (slice_get (framed_items f x.block.items)) n ∙ stands in
                let item : i ≡ j = cc in
                let k = ap (λ (z : Item). (position_of z.origin).item) item in
                omega (arith, k)
          ],
        )

  -- an added jump is one of f at the end of its block
  record IsEndJump (p : Pos) (i : Item) : Type 0 where
    blk : InBlock f p i
    at : (position_of i.origin).item ≡ blk.block.source_end
    pos : Pos
    before : i.origin ≡ Before pos

  end_jump : (p : Pos) (i : Item) → G.fetch p ≡ Here i → IsAddedJump i → IsEndJump p i
  end_jump p i e j = by_item (framed_item_is f b.block.items p.item i b.stands) where
    b : InBlock f p i
    b = jumps_inner p i e j.0

    w : (q : Pos) × (i.origin ≡ Before q)
    w = added_of i.origin j.1

    ex : (n : ℕ) × (exit_of i.kind ≡ Always n)
    ex = jump_always i.kind j.0

    by_item : IsFramedItem f b.block.items p.item i → IsEndJump p i
    by_item (gives_back n x at fin is) =
        absurd (onward_always (ap exit_of is.kind ∙ frame_onward is.instruction (epilogue_is (size_of f) (saved_of f) is.instruction is.member)) ex.1)
    by_item (own n x at made_of ix) = by_kind x.kind refl where
      o : IsOf source f resolve fresolve made b.block x
      o = of_f source f resolve fresolve made b.index b.block b.rest b.found n x at

      exit : exit_of x.kind ≡ Always ex.0
      exit = sym (own_exit source f resolve fresolve made x) ∙ ap (λ (z : Item). exit_of z.kind) (sym made_of) ∙ ex.1

      by_kind : (z : ItemKind) → x.kind ≡ z → IsEndJump p i
      by_kind (Mark v m) ek = absurd (onward_always refl (ap exit_of (sym ek) ∙ exit))
      by_kind (Phi q m) ek = absurd (onward_always refl (ap exit_of (sym ek) ∙ exit))
      by_kind (Code d m) ek =
          let eo : x.origin ≡ Before w.0 = ap (λ (z : Item). z.origin) (sym made_of) ∙ w.1 in
          let may = fits_before source f resolve fresolve made b.block x d m w.0 ek eo o.fits in
          record {
            blk = b;
            at = ap (λ (z : Origin). (position_of z).item) w.1 ∙ jump_may (row_of d) w.0.item b.block.source_end ex.0 (ap exit_of (sym ek) ∙ exit) may;
            pos = w.0;
            before = w.1;
          }

  has_item : (r : Row) (x : Fetch) → HasClass r x → (i : Item) × (x ≡ Here i)
  has_item r (Here i) h = (i, refl)
  has_item r (EndOfBlock k n) h = absurd h
  has_item r Outside h = absurd h

  -- what f has at the silent position of a block was added before it
  end_code : (b : Block) (x : Item) → IsOf source f resolve fresolve made b x → (d : Instruction) (k : Option ℕ) → x.kind ≡ Code d k →
      (position_of x.origin).item ≡ b.source_end → (q : Pos) × (x.origin ≡ Before q) × (IsSlotStore (row_of d) ⊎ (is_jump_row (row_of d) ≡ true))
  end_code b x o d k ek at = by_origin x.origin refl where
    by_origin : (w : Origin) → x.origin ≡ w → (q : Pos) × (x.origin ≡ Before q) × (IsSlotStore (row_of d) ⊎ (is_jump_row (row_of d) ≡ true))
    by_origin (Before q) eo = (
      q,
      eo,
      end_row (row_of d) q.item b.source_end (ap (λ (w : Origin). (position_of w).item) (sym eo)
          ∙ at) (fits_before source f resolve fresolve made b x d k q ek eo o.fits),
    )
    by_origin (Kept q) eo =
        let h = subst (RowFits src (row_of d) b.source_end) eo (subst (λ (z : ItemKind). KindFits src z b.source_end x.origin) ek o.fits) in
        let i = has_item (row_of d) (src.fetch q) h in
        absurd (silent_never source f resolve fresolve made b o.member q (ap (λ (w : Origin). (position_of w).block) (sym eo) ∙ o.home)
        (ap (λ (w : Origin). (position_of w).item) (sym eo) ∙ at) i.0 i.1)

  -- code that stands at the position of an added jump in its block is an item of f
  record IsEndCode (q : Pos) (j : Item) (b : Block) : Type 0 where
    index : ℕ
    item : Item
    stands : slice_get b.items index ≡ Some item
    of_it : IsOf source f resolve fresolve made b item
    is : j ≡ renamed f.slots item
    code : Instruction
    number : Option ℕ
    kind : item.kind ≡ Code code number
    pos : Pos
    before : item.origin ≡ Before pos
    at : pos.item ≡ b.source_end
    row : IsSlotStore (row_of code) ⊎ (is_jump_row (row_of code) ≡ true)
    place : q.item ≡ index_in f b.items index

  end_item : (p q : Pos) (i j : Item) → q.block ≡ p.block → G.fetch p ≡ Here i → IsAddedJump i → G.fetch q ≡ Here j → is_code j.kind ≡ true →
      position_of j.origin ≡ position_of i.origin → (b : InBlock f q j) × IsEndCode q j b.block
  end_item p q i j same e jump g code eq = (b, by_item (framed_item_is f b.block.items q.item j b.stands)) where
    ej : IsEndJump p i
    ej = end_jump p i e jump

    b : InBlock f q j
    b = inner_block q j (let k = ej.blk.at in omega (arith, same, k)) g

    blocks : ej.blk.block ≡ b.block
    blocks = same_block p q i j ej.blk b (sym same)

    at_silent : (position_of j.origin).item ≡ b.block.source_end
    at_silent = ap (λ (z : Pos). z.item) eq ∙ ej.at ∙ ap (λ (z : Block). z.source_end) blocks

    not_final_debug : (x : Item) → exit_of x.kind ≡ Final → (d : Instruction) × (m : Option ℕ) × (x.kind ≡ Code d m)
    not_final_debug x fin = by_kind x.kind refl fin where
      by_kind : (k : ItemKind) → x.kind ≡ k → exit_of k ≡ Final → (d : Instruction) × (m : Option ℕ) × (x.kind ≡ Code d m)
      by_kind (Code d m) q h = (d, m, q)
      by_kind (Mark v m) q h = cc
      by_kind (Phi r m) q h = cc

    as_code : (k : ItemKind) → is_code k ≡ true → (d : Instruction) × (m : Option ℕ) × (k ≡ Code d m)
    as_code (Code d m) h = (d, m, refl)
    as_code (Mark v m) h = cc
    as_code (Phi r m) h = cc

    by_item : IsFramedItem f b.block.items q.item j → IsEndCode q j b.block
    by_item (gives_back n x at fin is) =
        let o = of_f source f resolve fresolve made b.index b.block b.rest b.found n x at in
        let k = not_final_debug x fin in
        let here : (position_of x.origin).item ≡ b.block.source_end =
        ap (λ (z : Origin). (position_of z).item) (sym is.origin) ∙ at_silent in
        absurd (final_row (row_of k.0) (ap exit_of (sym k.2) ∙ fin) (end_code b.block x o k.0 k.1 k.2 here).2)
    by_item (own n x at made_of ix) =
        let o = of_f source f resolve fresolve made b.index b.block b.rest b.found n x at in
        let c = as_code j.kind code in
        let d = own_code source f resolve fresolve made x c.0 c.1 (ap (λ (z : Item). z.kind) (sym made_of) ∙ c.2) in
        let here : (position_of x.origin).item ≡ b.block.source_end = ap (λ (z : Item). (position_of z.origin).item) (sym made_of) ∙ at_silent in
        let ec = end_code b.block x o d.0 c.1 d.1 here in
        record {
          index = n;
          item = x;
          stands = at;
          of_it = o;
          is = made_of;
          code = d.0;
          number = c.1;
          kind = d.1;
          pos = ec.0;
          before = ec.1;
          at = ap (λ (z : Origin). (position_of z).item) (sym ec.1) ∙ here;
          row = ec.2;
          place = ix (ap leads_back d.1 ∙ row_goes (row_of d.0) ec.2);
        }

  store_named : (r : Row) → IsSlotStore r → IsSlotStore (renamed_row f.slots r)
  store_named (StoresSlot rs n) h = tt
  store_named _ h = absurd h

  store_of : (r : Row) → IsSlotStore (renamed_row f.slots r) → IsSlotStore r
  store_of (StoresSlot rs n) h = tt
  store_of _ h = h

  jump_named : (r : Row) → is_jump_row r ≡ true → is_jump_row (renamed_row f.slots r) ≡ true
  jump_named (Jumps t) h = refl
  jump_named _ h = cc

  kind_named : (q : Pos) (j : Item) (b : Block) (c : IsEndCode q j b) → j.kind ≡ Code (renamed_code f.slots c.code) c.number
  kind_named q j b c = ap (λ (z : Item). z.kind) c.is ∙ ap (renamed_kind f.slots) c.kind

  source_end : (p q : Pos) (i j : Item) → q.block ≡ p.block → G.fetch p ≡ Here i → IsAddedJump i → G.fetch q ≡ Here j → is_code j.kind ≡ true →
      position_of j.origin ≡ position_of i.origin → OnRow IsSlotStore j.kind ⊎ (is_jump j.kind ≡ true)
  source_end p q i j same e jump g code eq =
      let z = end_item p q i j same e jump g code eq in
      let c = z.1 in
      let k = kind_named q j z.0.block c in
      elim c.row as (λ _. OnRow IsSlotStore j.kind ⊎ (is_jump j.kind ≡ true)) [
        | inl s ↦ inl (subst (OnRow IsSlotStore) (sym k) (subst IsSlotStore (sym (row_renamed f.slots c.code)) (store_named (row_of c.code) s)))
        | inr t ↦ inr (ap is_jump k ∙ ap is_jump_row (row_renamed f.slots c.code) ∙ jump_named (row_of c.code) t)
      ]

  stores : (p q : Pos) (i j : Item) → q.block ≡ p.block → G.fetch p ≡ Here i → IsAddedJump i → G.fetch q ≡ Here j → OnRow IsSlotStore j.kind →
      position_of j.origin ≡ position_of i.origin →
      (r : Pos) × (k : Item) × (G.fetch r ≡ Here k) × (is_code k.kind ≡ true) × (position_of k.origin ≡ position_of i.origin → ⊥) ×
      (((r.block ≡ q.block) × (r.item < q.item)) ⊎ Leads G q r)
  stores p q i j same e jump g store eq = (r, hd.0, hd.1, hd.2.code (counts_code z.1.kind z.2.1), differs, way z.2.3) where
    ei : (b : InBlock f q j) × IsEndCode q j b.block
    ei = end_item p q i j same e jump g (store_code j.kind store) eq

    b : Block
    b = ei.0.block

    c : IsEndCode q j b
    c = ei.1

    member : Contains f.blocks b
    member = c.of_it.member

    pf : Pos
    pf = record { block = b.id; item = c.index }

    fd : FoundAt f.blocks b
    fd = found f.blocks made.sound.blocks_apart b member

    fetch_f : fp.fetch pf ≡ Here c.item
    fetch_f = ap (λ (bs : List Block). fetch_in bs c.index) fd.at ∙ item_front b.items c.index b.source_end fd.rest c.item c.stands

    -- the store's position
    end : Pos
    end = record { block = b.id; item = b.source_end }

    at_end : c.pos ≡ end
    at_end = same_pos c.pos end (ap (λ (w : Origin). (position_of w).block) (sym c.before) ∙ c.of_it.home) c.at

    store_row : OnRow IsSlotStore c.item.kind
    store_row = subst (OnRow IsSlotStore) (sym c.kind) (store_of (row_of c.code)
        (subst IsSlotStore (row_renamed f.slots c.code) (subst (OnRow IsSlotStore) (kind_named q j b c) store)))

    z : (q' : Pos) × (j' : Item) × IsMetApart fp pf b.source_end q' j'
    z = made.shape.stores b member pf c.item refl fetch_f store_row (c.before ∙ ap Before at_end)

    r : Pos
    r = image_of f z.0

    hd : (y : Item) × (G.fetch (image_of f z.0) ≡ Here y) × IsHead f z.1 y
    hd = head_at f fresolve z.0 z.1 z.2.0

    j_at : position_of j.origin ≡ end
    j_at = ap (λ (w : Item). position_of w.origin) c.is ∙ ap position_of c.before ∙ at_end

    differs : position_of hd.0.origin ≡ position_of i.origin → ⊥
    differs h = z.2.2 (sym hd.2.position ∙ h ∙ sym eq ∙ j_at)

    home_f : (w : Pos) (x : Item) → fp.fetch w ≡ Here x → (position_of x.origin).block ≡ w.block
    home_f w x h = from_home false f.blocks fresolve made.sound.origins w x h

    inner_r : IsInner r
    inner_r = omega arith

    inner_q : IsInner q
    inner_q = let k = ei.0.at in omega (arith, k)

    way : ((z.0.block ≡ pf.block) × (z.0.item < pf.item)) ⊎ Leads fp pf z.0 → ((r.block ≡ q.block) × (r.item < q.item)) ⊎ Leads G q r
    way (inr l) = inr (subst (λ (w : Pos). Leads G w r) at_q (leads_image f fresolve l)) where
      head : (y : Item) × (G.fetch (image_of f pf) ≡ Here y) × IsHead f c.item y
      head = head_at f fresolve pf c.item fetch_f

      at_q : image_of f pf ≡ q
      at_q = same_pos (image_of f pf) q
          (home (image_of f pf) q head.0 j (omega arith) inner_q head.1 g (ap (λ (w : Pos). w.block) (head.2.position
          ∙ ap (λ (w : Item). position_of w.origin) (sym c.is))))
          (ap (λ (bs : List Block). index_in f (items_in bs) c.index) fd.at ∙ sym c.place)
    way (inl l) =
        let block_y : (position_of hd.0.origin).block ≡ (position_of j.origin).block =
        ap (λ (w : Pos). w.block) hd.2.position ∙ home_f z.0 z.1 z.2.0 ∙ l.0 ∙ ap (λ (w : Pos). w.block) (sym j_at) in
        let blocks = home r q hd.0 j inner_r inner_q hd.1 g block_y in
        elim (cases_lt r.item q.item) as (λ _. ((r.block ≡ q.block) × (r.item < q.item)) ⊎ Leads G q r) [
          | inl lt ↦ inl (blocks, lt)
          | inr ge ↦
              let o = order q r j hd.0 g hd.1 (sym blocks) ge in
              let below_x : next_rank z.1.origin ≤ rank c.item.origin =
              in_order_below b.id 0 b.items (All-contains (λ (w : Block). InOrder w.id 0 w.items) f.blocks b made.shape.order member) z.0.item c.index z.1
              c.item
              (front_item b.items z.0.item b.source_end fd.rest z.1
              (ap (λ (bs : List Block). fetch_in bs z.0.item) (sym (ap (from_block f.blocks) l.0 ∙ fd.at)) ∙ z.2.0)) c.stands l.1 in
              let up = rank_high c.item.origin in
              let low = next_low z.1.origin in
              let x_item : (position_of c.item.origin).item ≡ (position_of j.origin).item = ap (λ (w : Item). (position_of w.origin).item) (sym c.is) in
              let y_item : (position_of hd.0.origin).item ≡ (position_of z.1.origin).item = ap (λ (w : Pos). w.item) hd.2.position in
              let items : (position_of hd.0.origin).item ≡ (position_of j.origin).item = (let k = o.1 in omega (arith, below_x, up, low, x_item, y_item, k)) in
              absurd (differs (same_pos (position_of hd.0.origin) (position_of j.origin) block_y items ∙ eq))
        ]

  pub plain_turns : HasPlainTurns G IsInner
  plain_turns = record {
    jumps = jumps;
    on = on;
    home = home;
    last = last;
    filled = filled;
    order = order;
    source_end = source_end;
    stores = stores;
  }

pub framed_has_plain_turns : FramedHasPlainTurns
framed_has_plain_turns source f resolve fresolve made framed = plain_turns source f resolve fresolve made framed
