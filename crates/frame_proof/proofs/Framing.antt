-- The run of a function with its frame beside the run without it, as added code: a prologue before the first block, and an
-- epilogue before each return. Stages: x2 is lowered; registers are saved; the body; registers are restored, and x2 is raised;
-- the return. In the body all registers but x2 are alike, before a return those that it may give; slots lie at their offsets.
use Rattle.std.proofs.Common.{◌≡◌, ◌⊎◌, ℕ, zero, suc, ◌<◌, pos, ◌-ℤ◌, List, [], ◌∷◌, ◌++◌, map, drop, All, Contains, Option, Some, None}
use Rattle.std.proofs.Common.{IsSome, Bool, true, false, cond, refl, sym, ap, ◌∙◌, subst, inl, inr, append_assoc, arith}
use Rattle.std.proofs.lemmas.List.Concat.{flat_map-cons}
use Rattle.std.proofs.lemmas.List.Elements.{All-head, All-tail}
use Rattle.rv64_instr.specs.Arithmetic.{word}
use Rattle.rv64_instr.specs.Instruction.{Instruction}
use Rattle.rv64_instr.specs.Row.{Row, row_of}
use Rattle.mir_func.specs.declared.block.Block.{Block}
use Rattle.mir_func.specs.declared.debug_substitution.OperandPair.{OperandPair}
use Rattle.mir_func.specs.declared.exit.Exit.TheVariants.{Final}
use Rattle.mir_func.specs.declared.framed.SavedRegister.{SavedRegister}
use Rattle.mir_func.specs.declared.item.Item.{Item}
use Rattle.mir_func.specs.declared.item.ItemKind.{ItemKind}
use Rattle.mir_func.specs.declared.item.ItemKind.TheVariants.{Code, Mark, Phi}
use Rattle.mir_func.specs.declared.position.Origin.{Origin}
use Rattle.mir_func.specs.declared.position.Origin.TheVariants.{Before}
use Rattle.mir_func.specs.declared.position.Pos.{Pos}
use Rattle.mir_func.specs.Exits.{exit_of, leads_back}
use Rattle.mir_func.specs.Function.{Function}
use Rattle.mir_func.specs.Graph.{Program, EndOfBlock, block_start, fetch_in, front, from_block, index_of, program_of, framed_program, rest_in, rest_of}
use Rattle.mir_func.specs.Sound.{SlotsIn, LeavesPointer}
use Rattle.mir_func.specs.SoundFrame.{adds_to_pointer, saves, restores, prologue_code, epilogue_code, body_of}
use Rattle.mir_func.proofs.Leading.{leads_out}
use Rattle.mir_func.specs.Positions.{position_of}
use Rattle.sem_mir.specs.State.{Core, State, updated, content, put, assigned}
use Rattle.sem_mir.specs.Step.{Falls, Goes, act, read, set_register, with_core, do_item}
use Rattle.sem_mir.specs.Align.{is_code, waits_at, ByItems, ByEnds, sync_point_at, IsOrigin, After, since_of, First}
use Rattle.sem_mir.specs.Align.{AnyOrigin}
use Rattle.sem_mir.specs.Align.{RunsMatch}
use Rattle.sem_mir.specs.Effects.{EndAlike}
use Rattle.sem_mir.proofs.Outcomes.{alike_with}
use Rattle.sem_mir.proofs.Places.{contains_head, contains_tail, updated_same, updated_other, put_other}
use Rattle.sem_simulation.specs.MatchStates.{Sides, ShowsSame, since_item}
use Rattle.sem_simulation.specs.Added.{Standing, Opening, Level, Ahead, AddedMatchStates, MayCome, DoAlike, View, ended, both, before, opening, entering}
use Rattle.sem_simulation.specs.Added.{paired}
use Rattle.sem_simulation.specs.Added.{Adds, Begins, opens}
use Rattle.sem_simulation.proofs.Laid.{laid_out, laid_out_framed}
use Rattle.sem_simulation.proofs.Added.{added_follows}
use Rattle.frame_rule.specs.Rule.{slot_offset, saved_of, size_of, added, added_all, prologue, epilogue, renamed_code, renamed_kind, renamed}
use Rattle.frame_rule.specs.Rule.{framed_item, framed_items, framed_block, framed_blocks, prologue_block}
use Rattle.frame_rule.proofs.Rows.{renamed_row, row_renamed, IsOther}
use Rattle.frame_proof.proofs.Cores.{Beside, put_written, updated_written, slots_below}
use Rattle.frame_proof.proofs.ItemsAlike.{item_near, final_near}
use Rattle.frame_proof.proofs.Fits.{IsResult, ReadsResults}
use Rattle.frame_rule.proofs.Saved.{saved_above, saved_given, none_saved, passed_two}
use Rattle.frame_proof.proofs.FrameCode.{adds_no_jump, kind_jump, kind_code, final_code, to_outcomes, to_final, adds_does}
use Rattle.frame_proof.proofs.FrameCode.{store_does}
use Rattle.frame_proof.proofs.FrameCode.{load_does}
use Rattle.frame_proof.proofs.Blocks.{from_index, items_from, ends_alike, drop_zero}

pub data Stage : Type 0 where
  Lowering : Stage
  Saving : List SavedRegister → Stage
  Body : Stage
  Loading : Pos → List SavedRegister → Stage
  Loaded : Pos → Stage

abbrev stands : Stage → Standing
stands Lowering = Opening
stands (Saving todo) = Opening
stands Body = Level
stands (Loading q todo) = Ahead q
stands (Loaded q) = Ahead q

module _ (fn : Function) (resolve : OperandPair → Option OperandPair) (src : Program) (s0 : State) where
  abbrev f : Program
  f = program_of false fn.blocks resolve

  abbrev framed : List Block
  framed = framed_blocks fn fn.blocks

  abbrev g : Program
  g = framed_program framed resolve

  abbrev rf : Pos → List Item
  rf = rest_of fn.blocks

  abbrev rg : Pos → List Item
  rg p = rest_in (drop p.block framed) p.item

  abbrev g0 : State
  g0 = record { pos = block_start 0; core = s0.core }

  abbrev sides : Sides
  sides = record { old = record { program = f; rest = rf; start = s0 }; new = record { program = g; rest = rg; start = g0 } }

  abbrev saved : List SavedRegister
  saved = saved_of fn

  -- what the frame needs of an item
  pub record IsFit (x : Item) : Type 0 where
    pub pointer : LeavesPointer x.kind
    pub slots : SlotsIn fn.slots x.kind
    pub moves : (c e : Core) (n : ℕ) → do_item f x.kind c ≡ Goes n e → since_item ByItems x ≡ After
    pub results : leads_back x.kind ≡ true → ReadsResults x.kind

  abbrev AreSaved : List SavedRegister → Type 0
  AreSaved todo = (s : SavedRegister) → Contains todo s → Contains saved s

  -- the epilogue that is left of an item
  abbrev left : Origin → List SavedRegister → List Item
  left o todo = map (added (Before (position_of o))) (map restores todo ++ adds_to_pointer (pos (size_of fn)) ∷ [])

  abbrev start_code : List Instruction → List Item
  start_code code = map (added (Before s0.pos)) code

  pub record IsLoading (q : Pos) (todo : List SavedRegister) (xs ys : List Item) : Type 0 where
    pub item : Item
    pub rest : List Item
    pub here : xs ≡ item ∷ rest
    pub at : position_of item.origin ≡ q
    pub final : leads_back item.kind ≡ true
    pub these : ys ≡ left item.origin todo ++ renamed fn.slots item ∷ framed_items fn rest
    pub fits : All IsFit (item ∷ rest)
    pub all : AreSaved todo

  pub record IsLoaded (q : Pos) (xs ys : List Item) : Type 0 where
    pub item : Item
    pub rest : List Item
    pub here : xs ≡ item ∷ rest
    pub at : position_of item.origin ≡ q
    pub final : leads_back item.kind ≡ true
    pub these : ys ≡ renamed fn.slots item ∷ framed_items fn rest
    pub fits : All IsFit (item ∷ rest)

  abbrev MatchItems : Stage → ℕ → List Item → List Item → Type 0
  MatchItems Lowering b xs ys = (b ≡ s0.pos.block) × (xs ≡ rf (block_start b)) × (ys ≡ start_code (prologue_code (size_of fn) saved))
  MatchItems (Saving todo) b xs ys = (b ≡ s0.pos.block) × (xs ≡ rf (block_start b)) × (ys ≡ start_code (map saves todo)) × AreSaved todo
  MatchItems Body b xs ys = (ys ≡ framed_items fn xs) × All IsFit xs
  MatchItems (Loading q todo) b xs ys = IsLoading q todo xs ys
  MatchItems (Loaded q) b xs ys = IsLoaded q xs ys

  abbrev MatchCores : Stage → ℕ → List Item → List Item → Core → Core → Type 0
  MatchCores Lowering b xs ys c d = Beside fn.slots saved IsOther saved c d
  MatchCores (Saving todo) b xs ys c d = Beside fn.slots saved IsOther todo c d
  MatchCores Body b xs ys c d = Beside fn.slots saved IsOther [] c d
  MatchCores (Loading q todo) b xs ys c d = Beside fn.slots saved IsResult [] c d
  MatchCores (Loaded q) b xs ys c d = Beside fn.slots saved IsResult [] c d

  abbrev pub match_states : AddedMatchStates
  match_states = record {
    match_states = record { Stage = Stage; entry = λ n. Body; MatchItems = MatchItems; MatchCores = MatchCores };
    standing = stands;
    Stops = First;
    Extra = λ p. ⊥;
    Reach = λ p. Unit {0};
  }

  abbrev Seen : (b : ℕ) → Stage → List Item → List Item → Type 0
  Seen b k xs ys = View ByItems src sides match_states b k xs ys

  -- ---- one step of each

  raised : (P : ℕ → Type 0) (todo : List SavedRegister) (v : ℕ) (c d : Core) → (P 2 → ⊥) → Beside fn.slots saved P todo c d →
      Beside fn.slots saved P todo c (set_register 2 v d)
  raised P todo v c d far h = record {
    same = λ i. record (h.same i) { regs = put 2 v d.regs };
    regs = λ r k. put_other 2 r v d.regs (λ e. far (subst P e k)) ∙ h.regs r k;
    kept = h.kept;
    held = h.held;
    written = λ r lt. put_written 2 v r d.regs (h.written r lt);
  }

  no_member : {A : Type 0} (x : A) → Contains [] x → ⊥
  no_member x (k, lt, e) = absurd (omega (arith, lt))

  head_or_tail : (s : SavedRegister) (todo : List SavedRegister) (q : SavedRegister) → Contains (s ∷ todo) q → (s ≡ q) ⊎ Contains todo q
  head_or_tail s todo q (zero, lt, e) = inl e
  head_or_tail s todo q (suc k, lt, e) = inr (k, omega (arith, lt), e)

  saving : (s : SavedRegister) (todo : List SavedRegister) (v : ℕ) (c d : Core) → Contains saved s → Beside fn.slots saved IsOther (s ∷ todo) c d →
      Beside fn.slots saved IsOther todo c (record d { slots = updated s.offset (Some v) d.slots })
  saving s todo v c d k h = record {
    same = λ i. record (h.same i) { slots = updated s.offset (Some v) d.slots };
    regs = h.regs;
    kept = λ n j. (let a = saved_above fn s k in let b = slots_below fn.slots n j in
        updated_other s.offset (slot_offset fn.slots n) (Some v) d.slots (λ e. omega (arith, a, b, e)) ∙ h.kept n j);
    held = λ q j. elim (h.held q j) [
      | inl w ↦ inl (updated_written s.offset v q.offset d.slots w)
      | inr w ↦ elim (head_or_tail s todo q w) [
        | inl e ↦ inl (subst (λ (z : SavedRegister). IsSome (updated s.offset (Some v) d.slots z.offset)) e
            (subst IsSome (sym (updated_same s.offset (Some v) d.slots)) refl))
        | inr z ↦ inr z
      ]
    ];
    written = h.written;
  }

  loading : (s : SavedRegister) (v : ℕ) (c d : Core) → Contains saved s → Beside fn.slots saved IsResult [] c d →
      Beside fn.slots saved IsResult [] c (set_register s.register v d)
  loading s v c d k h = record {
    same = λ i. record (h.same i) { regs = put s.register v d.regs };
    regs = λ r j. (let far = (saved_given fn s k).1 in
        put_other s.register r v d.regs (λ e. far (subst IsResult e j)) ∙ h.regs r j);
    kept = h.kept;
    held = h.held;
    written = λ r lt. put_written s.register v r d.regs (h.written r lt);
  }

  results_too : (c d : Core) → Beside fn.slots saved IsOther [] c d → Beside fn.slots saved IsResult [] c d
  results_too c d h = record {
    same = h.same;
    regs = λ r j. h.regs r (passed_two r j);
    kept = h.kept;
    held = h.held;
    written =
        h.written;
  }

  held_now : (P : ℕ → Type 0) (c d : Core) → Beside fn.slots saved P [] c d → (s : SavedRegister) → Contains saved s → IsSome (d.slots s.offset)
  held_now P c d h s k = elim (h.held s k) [ inl w ↦ w | inr z ↦ absurd (no_member s z) ]

  two_is_low : 2 < 32
  two_is_low = omega arith

  not_result : IsResult 2 → ⊥
  not_result j = passed_two 2 j refl

  -- ---- the epilogue

  module _ (b : ℕ) (x : Item) (rest : List Item) (fits : All IsFit (x ∷ rest)) (final : leads_back x.kind ≡ true) where
    abbrev here_after : List Item
    here_after = renamed fn.slots x ∷ framed_items fn rest

    loads : (k : Stage) → MayCome (stands k) (position_of x.origin) →
        ((ys : List Item) (c d : Core) → MatchCores k b (x ∷ rest) ys c d → Beside fn.slots saved IsResult [] c d) →
        (todo : List SavedRegister) → AreSaved todo → Seen b k (x ∷ rest) (left x.origin todo ++ here_after)
    loads k come near [] all =
        before {k' = Loaded (position_of x.origin)} come (final_code x.kind (leads_out x.kind final)) refl refl
        (ap (λ (z : Bool). since_of (waits_at z (Before (position_of x.origin)))) (adds_no_jump (word (pos (size_of fn))))) refl
        (record { item = x; rest = rest; here = refl; at = refl; final = final; these = refl; fits = fits })
        (λ c d h. (let w = near _ c d h in let a = adds_does (word (pos (size_of fn))) d (w.written 2 two_is_low) in
        inl (set_register 2 a.0 d, ap (with_core (λ z. z)) a.1, raised IsResult [] a.0 c d not_result w)))
    loads k come near (s ∷ todo) all =
        before {k' = Loading (position_of x.origin) todo} come (final_code x.kind (leads_out x.kind final)) refl refl refl refl
        (record { item = x; rest = rest; here = refl; at = refl; final = final; these = refl; fits = fits; all = λ q j. all q (contains_tail s q todo j) })
        (λ c d h. (let w = near _ c d h in let m = all s (contains_head s todo) in let a = load_does s d (held_now IsResult c d w s m) in
        inl (set_register s.register a.0 d, ap (with_core (λ z. z)) a.1, loading s a.0 c d m w)))

    -- what leads back to the caller reads registers that the epilogue leaves alone
    ends_loaded : (q : Pos) → position_of x.origin ≡ q → Seen b (Loaded q) (x ∷ rest) here_after
    ends_loaded q at =
        both {k' = Body} at (final_code x.kind (leads_out x.kind final)) (kind_code fn.slots x.kind ∙ final_code x.kind (leads_out x.kind final)) refl
        (ap (λ (z : Bool). since_of (waits_at z x.origin)) (sym (kind_jump fn.slots x.kind))) (λ s u e w none. absurd none)
        (refl, All-tail IsFit x rest fits)
        (λ c d h. by_kind x.kind (leads_out x.kind final) ((All-head IsFit x rest fits).results final) c d h) where
          by_kind : (k : ItemKind) → exit_of k ≡ Final → ReadsResults k → (c d : Core) → Beside fn.slots saved IsResult [] c d →
              DoAlike ByItems src sides match_states b rest (framed_items fn rest) (since_item ByItems x) Body (do_item f k c) (do_item g
              (renamed_kind fn.slots k)
              d)
          by_kind (Mark v m) e r c d h = cc
          by_kind (Phi p m) e r c d h = cc
          by_kind (Code i m) e r c d h =
              let core : EndAlike (λ (z w : Core). ⊥) (act (row_of i) c) (act (renamed_row fn.slots (row_of i)) d) =
              final_near fn.slots saved IsResult [] (λ z w. ⊥) c d h (row_of i) e r in
              let named : EndAlike (λ (z w : Core). ⊥) (act (row_of i) c) (act (row_of (renamed_code fn.slots i)) d) =
              subst (λ (z : Row). EndAlike (λ (z w : Core). ⊥) (act (row_of i) c) (act z d)) (sym (row_renamed fn.slots i)) core in
              to_final _ _ _ _ (alike_with (λ z w. ⊥) (λ z w. ⊥) _ _ (λ z w k. k) (act (row_of i) c) (act (row_of (renamed_code fn.slots i)) d) named)

  -- ---- the body

  in_body : (b : ℕ) (x : Item) (rest : List Item) → All IsFit (x ∷ rest) → Seen b Body (x ∷ rest) (renamed fn.slots x ∷ framed_items fn rest)
  in_body b x rest fits = by_kind (is_code x.kind) refl where
    near : (c d : Core) → Beside fn.slots saved IsOther [] c d → EndAlike (λ c d. Beside fn.slots saved IsOther [] c d)
        (do_item f x.kind c) (do_item g (renamed_kind fn.slots x.kind) d)
    near c d h = let fit = All-head IsFit x rest fits in item_near fn.slots saved [] f g refl refl refl (saved_above fn) x.kind c d fit.pointer fit.slots h

    by_debug : (k : ItemKind) → is_code k ≡ false → (c d : Core) → EndAlike (λ c d. Beside fn.slots saved IsOther [] c d)
        (do_item f k c) (do_item g (renamed_kind fn.slots k) d) →
        (e e' : Core) × (do_item f k c ≡ Falls e) × (do_item g (renamed_kind fn.slots k) d ≡ Falls e') × Beside fn.slots saved IsOther [] e e'
    by_debug (Code i m) z c d h = cc
    by_debug (Mark v m) z c d h = (_, _, refl, refl, h)
    by_debug (Phi p m) z c d h = (_, _, refl, refl, h)

    by_kind : (z : Bool) → is_code x.kind ≡ z → Seen b Body (x ∷ rest) (renamed fn.slots x ∷ framed_items fn rest)
    by_kind true z =
        both {k' = Body} tt z (kind_code fn.slots x.kind ∙ z) refl
        (ap (λ (z : Bool). since_of (waits_at z x.origin)) (sym (kind_jump fn.slots x.kind))) (λ s u e w none. absurd none)
        (refl, All-tail IsFit x rest fits)
        (λ c d h. to_outcomes (λ c d. Beside fn.slots saved IsOther [] c d) (since_item ByItems x) (Level ≡ Level) refl (do_item f x.kind c)
        (do_item g (renamed_kind fn.slots x.kind) d) (λ n e go. (All-head IsFit x rest fits).moves c e n go) (near c d h))
    by_kind false z =
        paired {k' = Body} tt refl z (kind_code fn.slots x.kind ∙ z) (refl, All-tail IsFit x rest fits)
        (λ c d h. by_debug x.kind z c d (near c d h))

  view_body : (b : ℕ) (xs : List Item) → All IsFit xs → Seen b Body xs (framed_items fn xs)
  view_body b [] fits = ended refl
  view_body b (x ∷ rest) fits =
      subst (Seen b Body (x ∷ rest)) (sym (flat_map-cons (framed_item fn) x rest)) (by_exit (leads_back x.kind) refl) where
        by_size : leads_back x.kind ≡ true → (n : ℕ) → size_of fn ≡ n →
            Seen b Body (x ∷ rest) ((added_all n (Before (position_of x.origin)) (epilogue_code (size_of fn) saved) ++ renamed fn.slots x ∷ []) ++
            framed_items fn rest)
        by_size final zero e = in_body b x rest fits
        by_size final (suc n) e =
            subst (Seen b Body (x ∷ rest)) (sym (append_assoc (left x.origin saved) (renamed fn.slots x ∷ []) (framed_items fn rest)))
            (loads b x rest fits final Body tt (λ ys c d h. results_too c d h) saved (λ s k. k))

        by_exit : (z : Bool) → leads_back x.kind ≡ z →
            Seen b Body (x ∷ rest) ((cond z (epilogue fn x.origin) [] ++ renamed fn.slots x ∷ []) ++ framed_items fn rest)
        by_exit false e = in_body b x rest fits
        by_exit true e = by_size e (size_of fn) refl

  -- ---- the whole

  module _ (fits : (n : ℕ) → All IsFit (rf (block_start n))) (at : s0.pos ≡ block_start s0.pos.block) (b0 : Block) (more : List Block)
      (blocks : fn.blocks ≡ b0 ∷ more) (first : b0.id ≡ s0.pos.block)
      (regs : (r : ℕ) → r < 32 → IsSome (content s0.core.regs r)) (slots : (n : ℕ) → s0.core.slots n ≡ None) where
    started : (n : ℕ) → rg (block_start (suc (index_of (body_of framed) n))) ≡ framed_items fn (rf (block_start n))
    started n = ap (λ (bs : List Block). rest_in bs 0) (from_index fn fn.blocks n) ∙ items_from fn (from_block fn.blocks n)

    view_start : (todo : List SavedRegister) (b : ℕ) (xs ys : List Item) → MatchItems (Saving todo) b xs ys → Seen b (Saving todo) xs ys
    view_start [] b xs ys h =
        subst (Seen b (Saving []) xs) (sym h.2)
        (entering {k' = Body} refl (λ e. by_items e) refl
        (started b ∙ ap (framed_items fn) (sym h.1), subst (All IsFit) (sym h.1) (fits b)) (λ c d k. k) (λ p o e. subst (IsOrigin (sync_point_at ByItems f))
        (sym
        e) o)
        (λ q j n e none go. leads q j n e none go)) where
          by_items : ByItems ≡ ByEnds → ⊥
          by_items e = cc

          leads : (q : Pos) (j n : ℕ) → q.block ≡ 0 → rg q ≡ [] → g.fetch q ≡ EndOfBlock j n → n ≡ s0.pos.block
          leads q j n e none go =
              let w : drop q.block framed ≡ prologue_block fn b0 ∷ framed_block fn b0 ∷ map (framed_block fn) more =
              λ i. drop (e i) (framed_blocks fn (blocks i)) in
              let none' : drop q.item (prologue fn b0.id) ≡ [] = sym (ap (λ (bs : List Block). rest_in bs q.item) w) ∙ none in
              let go' : front (drop q.item (prologue fn b0.id)) b0.source_end (framed_block fn b0 ∷ map (framed_block fn) more) ≡ EndOfBlock j n =
              sym (ap (λ (bs : List Block). fetch_in bs q.item) w) ∙ go in
              let end : EndOfBlock b0.source_end b0.id ≡ EndOfBlock j n =
              sym (ap (λ (z : List Item). front z b0.source_end (framed_block fn b0 ∷ map (framed_block fn) more)) none') ∙ go' in
              let same : b0.id ≡ n = cc in
              sym same ∙ first
    view_start (s ∷ todo) b xs ys h =
        subst (Seen b (Saving (s ∷ todo)) xs) (sym h.2)
        (opening {k' = Saving todo} refl refl refl refl tt (h.0, h.1, refl, λ q k. h.3 q (contains_tail s q todo k))
        (λ c d k. (let m = h.3 s (contains_head s todo) in
        let w = store_does s d (k.written s.register (saved_given fn s m).0) in
        (record d { slots = updated s.offset (Some (read d s.register)) d.slots }, ap (with_core (λ z. z)) w, saving s todo (read d s.register) c d m k))))

    view : (k : Stage) (b : ℕ) (xs ys : List Item) → MatchItems k b xs ys → Seen b k xs ys
    view Lowering b xs ys h =
        subst (Seen b Lowering xs) (sym h.2)
        (opening {k' = Saving saved} refl refl refl
        (ap (λ (z : Bool). since_of (waits_at z (Before s0.pos))) (adds_no_jump (word (pos 0 -ℤ pos (size_of fn))))) tt
        (h.0, h.1, refl, λ q k. k)
        (λ c d k. (let a = adds_does (word (pos 0 -ℤ pos (size_of fn))) d (k.written 2 two_is_low) in
        (set_register 2 a.0 d, ap (with_core (λ z. z)) a.1, raised IsOther saved a.0 c d (λ j. j refl) k))))
    view (Saving todo) b xs ys h = view_start todo b xs ys h
    view Body b xs ys h = subst (Seen b Body xs) (sym h.0) (view_body b xs h.1)
    view (Loading q todo) b xs ys h =
        subst (λ (z : List Item). Seen b (Loading q todo) z ys) (sym h.here) (subst (Seen b (Loading q todo) (h.item ∷ h.rest)) (sym h.these)
        (loads b h.item h.rest h.fits h.final (Loading q todo) h.at (λ ys c d k. k) todo h.all))
    view (Loaded q) b xs ys h =
        subst (λ (z : List Item). Seen b (Loaded q) z ys) (sym h.here) (subst (Seen b (Loaded q) (h.item ∷ h.rest)) (sym h.these)
        (ends_loaded b h.item h.rest h.fits h.final q h.at))

    not_by_ends : {P : Type 0} → ByItems ≡ ByEnds → P
    not_by_ends e = cc

    shows_same : (P : ℕ → Type 0) (todo : List SavedRegister) (c d : Core) → Beside fn.slots saved P todo c d → ShowsSame c d
    shows_same P todo c d h = record {
      events = ap (λ (z : Core). z.events) (sym h.same);
      told = λ v x e. ap (λ (z : Core). assigned v z.marks) h.same ∙ e;
    }

    shows : (k : Stage) (b : ℕ) (xs ys : List Item) (c d : Core) → MatchCores k b xs ys c d → ShowsSame c d
    shows Lowering b xs ys c d h = shows_same IsOther saved c d h
    shows (Saving todo) b xs ys c d h = shows_same IsOther todo c d h
    shows Body b xs ys c d h = shows_same IsOther [] c d h
    shows (Loading q todo) b xs ys c d h = shows_same IsResult [] c d h
    shows (Loaded q) b xs ys c d h = shows_same IsResult [] c d h

    ends : (k : Stage) (p : Pos) (n : ℕ) (c d : Core) → stands k ≡ Level → MatchCores k p.block [] [] c d → MatchCores Body n (rf (block_start n))
        (rg (block_start (suc (index_of (body_of framed) n)))) c d
    ends Body p n c d e h = h
    ends Lowering p n c d e h = cc
    ends (Saving todo) p n c d e h = cc
    ends (Loading q todo) p n c d e h = cc
    ends (Loaded q) p n c d e h = cc

    onward : (p q : Pos) (k n : ℕ) → q.block ≡ suc (index_of (body_of framed) p.block) → rf p ≡ [] → rg q ≡ [] → g.fetch q ≡ EndOfBlock k n →
        f.fetch p ≡ EndOfBlock k n
    onward p q k n e none none' go =
        let w : drop q.block framed ≡ map (framed_block fn) (from_block fn.blocks p.block) =
        ap (λ (m : ℕ). drop m framed) e ∙ from_index fn fn.blocks p.block in
        ends_alike fn (from_block fn.blocks p.block) p.item q.item k n none (sym (ap (λ (bs : List Block). rest_in bs q.item) w) ∙ none')
        (sym (ap (λ (bs : List Block). fetch_in bs q.item) w) ∙ go)

    adds : Adds ByItems src sides match_states
    adds = record {
      more = record {
        stops = λ p q o e. inl (subst (IsOrigin (sync_point_at ByItems f)) (sym e) o);
        own = λ p o. refl;
        below = λ p x. absurd x;
        on =
            λ s u r e. tt;
      };
      laid_f = laid_out false fn.blocks resolve;
      laid_g = laid_out_framed framed resolve;
      enter_f = λ n. refl;
      view = view;
      entry_level = λ n. refl;
      starts = λ p n e. (started n, fits n);
      onward = onward;
      same_blocks = λ e n. not_by_ends e;
      end_stands = λ p k n e. not_by_ends e;
      ends = λ k p j n c d e none go rests h. ends k p n c d e h;
      shows = shows;
    }

    at_first : (n : ℕ) → rg (block_start 0) ≡ added_all (size_of fn) (Before s0.pos) (prologue_code (size_of fn) saved)
    at_first n =
        let w : drop 0 framed ≡ prologue_block fn b0 ∷ framed_block fn b0 ∷ map (framed_block fn) more = λ i. drop 0 (framed_blocks fn (blocks i)) in
        let o : block_start b0.id ≡ s0.pos = ap block_start first ∙ sym at in
        ap (λ (bs : List Block). rest_in bs 0) w ∙ drop_zero (prologue fn b0.id) ∙
        ap (λ (z : Pos). added_all (size_of fn) (Before z) (prologue_code (size_of fn) saved)) o

    start_beside : (todo : List SavedRegister) → ((s : SavedRegister) → Contains saved s → Contains todo s) →
        Beside fn.slots saved IsOther todo s0.core s0.core
    start_beside todo all = record {
      same = refl;
      regs = λ r k. refl;
      kept = λ n k. slots (slot_offset fn.slots n) ∙ sym (slots n);
      held = λ s k. inr (all s k);
      written = regs;
    }

    begins : Begins ByItems src sides match_states
    begins = by_size (size_of fn) refl (at_first 0) where
      by_size : (n : ℕ) → size_of fn ≡ n → rg (block_start 0) ≡ added_all n (Before s0.pos) (prologue_code (size_of fn) saved) →
          Begins ByItems src sides match_states
      by_size zero e w =
          opens (Saving []) refl (refl, ap rf at, w, λ s k. absurd (no_member s k))
          (start_beside [] (λ s k. subst (λ (z : List SavedRegister). Contains z s) (none_saved fn e) k))
      by_size (suc n) e w = opens Lowering refl (refl, ap rf at, w) (start_beside saved (λ s k. k))

    pub framing_follows : RunsMatch src f (sync_point_at ByItems f) (AnyOrigin (sync_point_at ByItems f)) s0 s0 →
        RunsMatch src g (sync_point_at ByItems g) First s0 g0
    framing_follows runs = added_follows match_states ByItems src sides adds tt begins runs
