-- The frame stands at each state of each run of a function with its frame. By induction on the run's steps: in which part of
-- prologue, body or epilogue it stands is told by the items that are left of its block.
use Rattle.std.proofs.Common.{◌≡◌, ◌⊎◌, ℕ, zero, suc, ◌+◌, ◌-◌, ◌*◌, ◌%◌, ◌^◌, ◌<◌, ◌≤◌, pos, ◌-ℤ◌, List, [], ◌∷◌, ◌++◌, map, drop, length, All, Contains}
use Rattle.std.proofs.Common.{Option}
use Rattle.std.proofs.Common.{Some, None, Bool, true, false, cond, refl, sym, ap, ◌∙◌, subst, inl, inr, append_assoc, arith}
use Rattle.std.proofs.lemmas.Bool.{cases_eq}
use Rattle.std.proofs.lemmas.List.Concat.{flat_map-cons}
use Rattle.std.proofs.lemmas.List.Elements.{All-head, All-tail, All-contains}
use Rattle.rv64_instr.specs.Arithmetic.{word}
use Rattle.rv64_instr.specs.Instruction.{Instruction}
use Rattle.rv64_instr.specs.Row.{Row, LoadsSlot, StoresSlot, Returns, Unfit, row_of}
use Rattle.rv64_instr.specs.Row.{add_row}
use Rattle.rv64_instr.specs.DefsAndUses.{reads}
use Rattle.mir_func.specs.declared.block.Block.{Block}
use Rattle.mir_func.specs.declared.debug_substitution.OperandPair.{OperandPair}
use Rattle.mir_func.specs.declared.exit.Exit.TheVariants.{Final}
use Rattle.mir_func.specs.declared.framed.SavedRegister.{SavedRegister}
use Rattle.mir_func.specs.declared.item.Item.{Item}
use Rattle.mir_func.specs.declared.item.ItemKind.{ItemKind}
use Rattle.mir_func.specs.declared.item.ItemKind.TheVariants.{Code, Mark, Phi}
use Rattle.mir_func.specs.declared.position.Origin.{Origin}
use Rattle.mir_func.specs.declared.position.Origin.TheVariants.{Before}
use Rattle.mir_func.specs.declared.position.Pos.{Pos}
use Rattle.mir_func.specs.Exits.{row_exit, exit_of, leads_back}
use Rattle.mir_func.specs.Function.{Function}
use Rattle.mir_func.specs.Graph.{Program, Fetch, Here, EndOfBlock, Outside, below, block_start, from_block, index_of, framed_program, rest_in, rest_of}
use Rattle.mir_func.specs.Sound.{SlotsIn}
use Rattle.mir_func.specs.SoundFrame.{SAVED, adds_to_pointer, saves, restores, prologue_code, epilogue_code, body_of}
use Rattle.mir_func.proofs.Leading.{leads_out}
use Rattle.mir_func.specs.Positions.{position_of}
use Rattle.sem_mir.specs.State.{Core, State, content, put, updated}
use Rattle.sem_mir.specs.Step.{Next, Went, Returned, Faulted, Waits, Lost, after, run, Outcome, Falls, Goes, Gives, Traps, Asks, Breaks, act, does}
use Rattle.sem_mir.specs.Step.{set_register, are_written, result_at}
use Rattle.sem_mir.specs.Step.{with_core, moved, do_item, do_fetch, step}
use Rattle.sem_mir.specs.Effects.{OnCore}
use Rattle.sem_mir.proofs.Outcomes.{on_either}
use Rattle.sem_mir.proofs.Places.{put_same, put_other, updated_same, updated_other, contains_head, contains_tail}
use Rattle.sem_simulation.specs.MatchStates.{Laid, IsPastItems}
use Rattle.sem_simulation.proofs.Laid.{laid_out_framed}
use Rattle.frame_rule.specs.Rule.{saved_places, saved_registers, saved_of, size_of, sets_register, added, added_all, prologue}
use Rattle.frame_rule.specs.Rule.{epilogue, renamed, renamed_code, renamed_kind, framed_item, framed_items, framed_block, framed_blocks}
use Rattle.frame_rule.specs.Rule.{prologue_block}
use Rattle.frame_proof.specs.Stands.{IsEntered}
use Rattle.frame_rule.proofs.Rows.{renamed_row, row_renamed}
use Rattle.frame_proof.proofs.Cores.{slots_below}
use Rattle.frame_rule.proofs.Saved.{IsGivenBack, saved_above, saved_given, saved_in, none_saved}
use Rattle.frame_proof.proofs.Blocks.{from_index, items_from, drop_zero}
use Rattle.frame_proof.proofs.Holding.{Holds, lowers_to, raises_to, adds_to, leaves_register, leaves_place, still_holds}

exit_same : (slots : List ℕ) (r : Row) → row_exit (renamed_row slots r) ≡ row_exit r
exit_same slots (LoadsSlot rd n) = refl
exit_same slots _ = refl

pub kind_exit : (slots : List ℕ) (k : ItemKind) → exit_of (renamed_kind slots k) ≡ exit_of k
kind_exit slots (Code i n) = ap row_exit (row_renamed slots i) ∙ exit_same slots (row_of i)
kind_exit slots (Mark v m) = refl
kind_exit slots (Phi p n) = refl

-- code that returns, or is none, goes nowhere
row_ends : (r : Row) (c : Core) → row_exit r ≡ Final → OnCore (λ d. ⊥) (act r c)
unfolding act does
row_ends (Returns ending) c h = on_either (λ d. ⊥) (are_written c (reads (Returns ending))) (Gives (result_at c ending)) Traps tt tt
row_ends Unfit c h = tt
row_ends _ c h = cc

nowhere : (j : Core → Core) (x : Outcome) → OnCore (λ d. ⊥) x → OnCore (λ d. ⊥) (with_core j x)
nowhere j (Falls c) h = h
nowhere j (Goes n c) h = h
nowhere j (Gives v) h = tt
nowhere j Traps h = tt
nowhere j Asks h = tt
nowhere j Breaks h = tt

final_ends : (slots : List ℕ) (g : Program) (k : ItemKind) (c : Core) → exit_of k ≡ Final → OnCore (λ d. ⊥) (do_item g (renamed_kind slots k) c)
final_ends slots g (Code i n) c h =
    nowhere _ (act (row_of (renamed_code slots i)) c) (row_ends (row_of (renamed_code slots i)) c (kind_exit slots (Code i n) ∙ h))
final_ends slots g (Mark v m) c h = cc
final_ends slots g (Phi p n) c h = cc

store_traps : (r o : ℕ) (d : Core) → content d.regs r ≡ None → act (StoresSlot r o) d ≡ Traps
unfolding act does
store_traps r o d e = rw e refl

store_falls : (r o x : ℕ) (d : Core) → content d.regs r ≡ Some x → act (StoresSlot r o) d ≡ Falls (record d { slots = updated o (Some x) d.slots })
unfolding act does
store_falls r o x d e = rw e refl

load_traps : (r o : ℕ) (d : Core) → d.slots o ≡ None → act (LoadsSlot r o) d ≡ Traps
unfolding act does
load_traps r o d e = rw e refl

load_falls : (r o v : ℕ) (d : Core) → d.slots o ≡ Some v → act (LoadsSlot r o) d ≡ Falls (set_register r v d)
unfolding act does
load_falls r o v d e = rw e refl

module _ (fn : Function) (resolve : OperandPair → Option OperandPair) (e : Core) where
  abbrev pub framed : List Block
  framed = framed_blocks fn fn.blocks

  abbrev g : Program
  g = framed_program framed resolve

  abbrev rf : Pos → List Item
  rf = rest_of fn.blocks

  abbrev rg : Pos → List Item
  rg p = rest_in (drop p.block framed) p.item

  abbrev saved : List SavedRegister
  saved = saved_of fn

  abbrev size : ℕ
  size = size_of fn

  abbrev Has : List SavedRegister → ℕ → Type 0
  Has ss r = (s : SavedRegister) × Contains ss s × (s.register ≡ r)

  -- what the frame needs of an item: x2 isn't set, slots are declared, and registers that it sets are saved
  pub record IsTame (x : Item) : Type 0 where
    pub pointer : sets_register 2 x.kind ≡ false
    pub slots : SlotsIn fn.slots x.kind
    pub saves : (r : ℕ) → Contains SAVED r → (Has saved r → ⊥) → sets_register r x.kind ≡ false

  -- the epilogue that is left of an item
  abbrev left : Origin → List SavedRegister → List Item
  left o todo = map (added (Before (position_of o))) (map restores todo ++ adds_to_pointer (pos size) ∷ [])

  abbrev start_code : Origin → List Instruction → List Item
  start_code o code = map (added o) code

  -- the registers that are as at entry where these are still to be restored
  abbrev Unchanged : List SavedRegister → ℕ → Type 0
  Unchanged todo r = Contains SAVED r × (Has todo r → ⊥)

  abbrev InAll : SavedRegister → Type 0
  InAll s = Contains saved s

  -- where a run stands, and what the frame holds there
  pub data Part (p : Pos) (d : Core) : Type 0 where
    lowering : (o : Origin) → p ≡ block_start 0 → (size ≡ 0 → ⊥) → rg p ≡ start_code o (prologue_code size saved) →
        Holds e e.entry (λ s. ⊥) (Contains SAVED) d → Part p d
    saving : (o : Origin) (from : ℕ) (rs : List ℕ) → p.block ≡ 0 → (p.item ≡ 0 → size ≡ 0) → rg p ≡ start_code o (map saves (saved_places from rs)) →
        ((s : SavedRegister) → Contains saved s → (s.offset < from) ⊎ Contains (saved_places from rs) s) →
        ((s : SavedRegister) → Contains (saved_places from rs) s → Contains saved s) →
        Holds e (e.entry - size) (λ s. Contains saved s × (s.offset < from)) (Contains SAVED) d → Part p d
    body : (xs : List Item) → (p.block ≡ 0 → ⊥) → rg p ≡ framed_items fn xs → All IsTame xs →
        Holds e (e.entry - size) InAll (Unchanged saved) d → Part p d
    loading : (x : Item) (rest : List Item) (todo : List SavedRegister) → (p.block ≡ 0 → ⊥) → (size ≡ 0 → ⊥) → leads_back x.kind ≡ true →
        rg p ≡ left x.origin todo ++ renamed fn.slots x ∷ framed_items fn rest → ((s : SavedRegister) → Contains todo s → Contains saved s) →
        Holds e (e.entry - size) InAll (Unchanged todo) d → Part p d
    loaded : (x : Item) (rest : List Item) → (p.block ≡ 0 → ⊥) → leads_back x.kind ≡ true → rg p ≡ renamed fn.slots x ∷ framed_items fn rest →
        Holds e e.entry (λ s. ⊥) (Contains SAVED) d → Part p d

  -- ---- small facts

  no_member : {A : Type 0} (x : A) → Contains [] x → ⊥
  no_member x (k, lt, e) = absurd (omega (arith, lt))

  head_or_tail : {A : Type 0} (s : A) (todo : List A) (q : A) → Contains (s ∷ todo) q → (s ≡ q) ⊎ Contains todo q
  head_or_tail s todo q (zero, lt, e) = inl e
  head_or_tail s todo q (suc k, lt, e) = inr (k, omega (arith, lt), e)

  places_above : (o : ℕ) (rs : List ℕ) (s : SavedRegister) → Contains (saved_places o rs) s → o ≤ s.offset
  places_above o [] s h = absurd (no_member s h)
  places_above o (r ∷ rs) s (zero, lt, w) = subst (λ (z : SavedRegister). o ≤ z.offset) w (omega arith)
  places_above o (r ∷ rs) s (suc k, lt, w) = let a = places_above (o + 8) rs s (k, omega (arith, lt), w) in omega (arith, a)

  module _ (entered : IsEntered e) (small : size ≤ 2032) (tame : (n : ℕ) → All IsTame (rf (block_start n))) (b0 : Block) (more : List Block)
      (blocks : fn.blocks ≡ b0 ∷ more) (given : All IsGivenBack SAVED) where
    started : (n : ℕ) → rg (block_start (suc (index_of (body_of framed) n))) ≡ framed_items fn (rf (block_start n))
    started n = ap (λ (bs : List Block). rest_in bs 0) (from_index fn fn.blocks n) ∙ items_from fn (from_block fn.blocks n)

    at_block : (n : ℕ) (d : Core) → Holds e (e.entry - size) InAll (Unchanged saved) d → Part (block_start (suc (index_of (body_of framed) n))) d
    at_block n d h = body (rf (block_start n)) (λ z. omega (arith, z)) (started n) (tame n) h

    laid : Laid g rg
    laid = laid_out_framed framed resolve

    -- a register that is given back isn't x2, nor x0
    given_not : (r : ℕ) → Contains SAVED r → IsGivenBack r
    given_not r k = All-contains IsGivenBack SAVED r given k

    -- from an item a run falls below it, or goes to a block
    on_step : (P : Core → Type 0) (p : Pos) (x : Outcome) (u : State) → OnCore P x → ((c : Core) → P c → Part (below p) c) →
        ((n : ℕ) (c : Core) → P c → Part (block_start (suc (index_of (body_of framed) n))) c) → moved g.enter p x ≡ Went u → Part u.pos u.core
    on_step P p (Falls c) u h down off w =
        let made : State = record { pos = below p; core = c } in let q : made ≡ u = cc in subst (λ (z : State). Part z.pos z.core) q (down c h)
    on_step P p (Goes n c) u h down off w =
        let made : State = record { pos = block_start (g.enter n); core = c } in let q : made ≡ u = cc in subst (λ (z : State). Part z.pos z.core) q (off n c h)
    on_step P p (Gives v) u h down off w = cc
    on_step P p Traps u h down off w = cc
    on_step P p Asks u h down off w = cc
    on_step P p Breaks u h down off w = cc

    falls_on : (p : Pos) (x : Outcome) (c : Core) (u : State) → x ≡ Falls c → Part (below p) c → moved g.enter p x ≡ Went u → Part u.pos u.core
    falls_on p x c u same h w =
        let made : State = record { pos = below p; core = c } in
        let q : Went made ≡ Went u = sym (ap (moved g.enter p) same) ∙ w in
        let z : made ≡ u = cc in subst (λ (z : State). Part z.pos z.core) z h

    item_step : (t : State) (y : Item) (ys : List Item) (u : State) → rg t.pos ≡ y ∷ ys → step g t ≡ Went u →
        moved g.enter t.pos (do_item g y.kind t.core) ≡ Went u
    item_step t y ys u w go = sym (ap (λ (z : Fetch). moved g.enter t.pos (do_fetch g z t.core)) (laid.cons t.pos y ys w).0) ∙ go

    rest_below : (p : Pos) (y : Item) (ys : List Item) → rg p ≡ y ∷ ys → rg (below p) ≡ ys
    rest_below p y ys w = (laid.cons p y ys w).1

    -- past the end of a block
    end_step : (t u : State) → rg t.pos ≡ [] → Holds e (e.entry - size) InAll (Unchanged saved) t.core → step g t ≡ Went u → Part u.pos u.core
    end_step t u w h go = by_fetch (g.fetch t.pos) (laid.nil t.pos w).0 go where
      by_fetch : (x : Fetch) → IsPastItems x → moved g.enter t.pos (do_fetch g x t.core) ≡ Went u → Part u.pos u.core
      by_fetch (Here i) past go = absurd past
      by_fetch (EndOfBlock k n) past go =
          let made : State = record { pos = block_start (g.enter n); core = t.core } in
          let q : made ≡ u = cc in subst (λ (z : State). Part z.pos z.core) q (at_block n t.core h)
      by_fetch Outside past go = cc

    -- ---- the prologue

    lower_step : (o : Origin) (t u : State) → t.pos ≡ block_start 0 → (size ≡ 0 → ⊥) → rg t.pos ≡ start_code o (prologue_code size saved) →
        Holds e e.entry (λ s. ⊥) (Contains SAVED) t.core → step g t ≡ Went u → Part u.pos u.core
    lower_step o t u at made w h go =
        let n : ℕ = word (pos 0 -ℤ pos size) in
        let top = entered.top in
        let room = entered.room in
        let v : (e.entry + n) % 2 ^ 64 ≡ e.entry - size = by_size size refl in
        let a : act (add_row 2 2 n) t.core ≡ Falls (set_register 2 (e.entry - size) t.core) =
        adds_to n t.core e.entry h.pointer top ∙ ap (λ (x : ℕ). Falls (set_register 2 x t.core)) v in
        falls_on t.pos _ (set_register 2 (e.entry - size) t.core) u (ap (with_core (λ z. z)) a)
        (saving o (8 * length fn.slots) (saved_registers fn.blocks) (ap (λ (p : Pos). p.block) at) (λ z. absurd (omega (arith, z)))
        (rest_below t.pos _ _ w) (λ s k. inr k) (λ s k. k) (record {
          pointer = put_same 2 (e.entry - size) t.core.regs (λ z. omega (arith, z));
          places = λ s k. (let a = saved_above fn s k.0 in let b = k.1 in absurd (omega (arith, a, b)));
          same = λ r k. put_other 2 r (e.entry - size) t.core.regs (given_not r k).3 ∙ h.same r k;
        })) (item_step t _ _ u w go) where
          by_size : (m : ℕ) → size ≡ m → (e.entry + word (pos 0 -ℤ pos size)) % 2 ^ 64 ≡ e.entry - size
          by_size zero z = absurd (made z)
          by_size (suc m) z = lowers_to e.entry size m z small entered.room entered.top

    save_step : (o : Origin) (from : ℕ) (rs : List ℕ) (t u : State) → t.pos.block ≡ 0 → (t.pos.item ≡ 0 → size ≡ 0) →
        rg t.pos ≡ start_code o (map saves (saved_places from rs)) →
        ((s : SavedRegister) → Contains saved s → (s.offset < from) ⊎ Contains (saved_places from rs) s) →
        ((s : SavedRegister) → Contains (saved_places from rs) s → Contains saved s) →
        Holds e (e.entry - size) (λ s. Contains saved s × (s.offset < from)) (Contains SAVED) t.core → step g t ≡ Went u → Part u.pos u.core
    save_step o from [] t u zero_block first w split within h go = end_step t u w (record {
      pointer = h.pointer;
      places = λ s k. h.places s (k, elim (split s k) [ inl a ↦ a | inr b ↦ absurd (no_member s b) ]);
      same = λ r k. h.same r k.0;
    }) go
    save_step o from (r ∷ rs) t u zero_block first w split within h go =
        by_content (content t.core.regs r) refl (item_step t _ _ u w go) where
          head : SavedRegister
          head = record { register = r; offset = from }

          is_member : Contains saved head
          is_member = within head (contains_head head (saved_places (from + 8) rs))

          next : (x : ℕ) → content t.core.regs r ≡ Some x → Part (below t.pos) (record t.core { slots = updated from (Some x) t.core.slots })
          next x c =
              saving o (from + 8) rs zero_block (λ z. omega (arith, z)) (rest_below t.pos _ _ w)
              (λ s k. elim (split s k) [
                | inl a ↦ inl (omega (arith, a))
                | inr b ↦ elim (head_or_tail head (saved_places (from + 8) rs) s b) [
                  | inl same ↦ inl (subst (λ (z : SavedRegister). z.offset < from + 8) same (omega arith))
                  | inr later ↦ inr later
                ]
              ])
              (λ s k. within s (contains_tail head s (saved_places (from + 8) rs) k))
              (record {
                pointer = h.pointer;
                places = λ s k. elim (split s k.0) [
                  | inl a ↦ updated_other from s.offset (Some x) t.core.slots (λ z. omega (arith, a, z)) ∙ h.places s (k.0, a)
                  | inr b ↦ elim (head_or_tail head (saved_places (from + 8) rs) s b) [
                    | inl same ↦ subst (λ (z : SavedRegister). updated from (Some x) t.core.slots z.offset ≡ content e.regs z.register) same
                        (updated_same from (Some x) t.core.slots ∙ sym c ∙ h.same r (saved_in fn head is_member))
                    | inr later ↦ (let a = places_above (from + 8) rs s later in let b = k.1 in absurd (omega (arith, a, b)))
                  ]
                ];
                same = h.same;
              })

          by_content : (x : Option ℕ) → content t.core.regs r ≡ x → moved g.enter t.pos (do_item g (Code (saves head) None) t.core) ≡ Went u → Part u.pos u.core
          by_content None c go =
              let traps : act (StoresSlot r from) t.core ≡ Traps = store_traps r from t.core c in
              let q : moved g.enter t.pos Traps ≡ Went u = sym (ap (λ (x : Outcome). moved g.enter t.pos (with_core (λ z. z) x)) traps) ∙ go in cc
          by_content (Some x) c go =
              falls_on t.pos _ (record t.core { slots = updated from (Some x) t.core.slots }) u (ap (with_core (λ z. z)) (store_falls r from x t.core c))
              (next x c) go

    -- ---- the epilogue

    load_step : (x : Item) (rest : List Item) (todo : List SavedRegister) (t u : State) → (t.pos.block ≡ 0 → ⊥) → (size ≡ 0 → ⊥) →
        leads_back x.kind ≡ true → rg t.pos ≡ left x.origin todo ++ renamed fn.slots x ∷ framed_items fn rest →
        ((s : SavedRegister) → Contains todo s → Contains saved s) → Holds e (e.entry - size) InAll (Unchanged todo) t.core → step g t ≡ Went u →
        Part u.pos u.core
    load_step x rest [] t u inside made final w within h go =
        let n : ℕ = word (pos size) in
        let top = entered.top in
        let room = entered.room in
        let v : ((e.entry - size) + n) % 2 ^ 64 ≡ e.entry = raises_to e.entry size small room top in
        let a : act (add_row 2 2 n) t.core ≡ Falls (set_register 2 e.entry t.core) =
        adds_to n t.core (e.entry - size) h.pointer (omega (arith, top)) ∙ ap (λ (x : ℕ). Falls (set_register 2 x t.core)) v in
        falls_on t.pos _ (set_register 2 e.entry t.core) u (ap (with_core (λ z. z)) a)
        (loaded x rest inside final (rest_below t.pos _ _ w) (record {
          pointer = put_same 2 e.entry t.core.regs (λ z. omega (arith, z));
          places = λ s k. absurd k;
          same = λ r k. put_other 2 r e.entry t.core.regs (given_not r k).3 ∙ h.same r (k, λ s. no_member s.0 s.1);
        })) (item_step t _ _ u w go)
    load_step x rest (s ∷ todo) t u inside made final w within h go =
        by_content (t.core.slots s.offset) refl (item_step t _ _ u w go) where
          is_member : Contains saved s
          is_member = within s (contains_head s todo)

          next : (v : ℕ) → t.core.slots s.offset ≡ Some v → Part (below t.pos) (set_register s.register v t.core)
          next v c =
              loading x rest todo inside made final (rest_below t.pos _ _ w) (λ q k. within q (contains_tail s q todo k)) (record {
                pointer = put_other s.register 2 v t.core.regs (λ z. (saved_given fn s is_member).3 (sym z)) ∙ h.pointer;
                places = h.places;
                same = λ r k. elim (cases_eq r s.register) [
                  | inl z ↦ subst (λ (q : ℕ). content (put s.register v t.core.regs) q ≡ content e.regs q) (sym z)
                      (put_same s.register v t.core.regs (saved_given fn s is_member).2 ∙ sym c ∙ h.places s is_member)
                  | inr ne ↦ put_other s.register r v t.core.regs ne ∙
                      h.same r (
                        k.0,
                        λ q. elim (head_or_tail s todo q.0 q.1) [
                          | inl z ↦ ne (sym q.2 ∙ ap (λ (y : SavedRegister). y.register) (sym z))
                          | inr z ↦ k.1 (q.0, z, q.2)
                        ],
                      )
                ];
              })

          by_content : (v : Option ℕ) → t.core.slots s.offset ≡ v → moved g.enter t.pos (do_item g (Code (restores s) None) t.core) ≡ Went u → Part u.pos u.core
          by_content None c go =
              let traps : act (LoadsSlot s.register s.offset) t.core ≡ Traps = load_traps s.register s.offset t.core c in
              let q : moved g.enter t.pos Traps ≡ Went u = sym (ap (λ (x : Outcome). moved g.enter t.pos (with_core (λ z. z) x)) traps) ∙ go in cc
          by_content (Some v) c go =
              falls_on t.pos _ (set_register s.register v t.core) u (ap (with_core (λ z. z)) (load_falls s.register s.offset v t.core c)) (next v c) go

    -- ---- the body

    item_holds : (x : Item) (d : Core) → IsTame x → Holds e (e.entry - size) InAll (Unchanged saved) d →
        OnCore (Holds e (e.entry - size) InAll (Unchanged saved)) (do_item g (renamed_kind fn.slots x.kind) d)
    item_holds x d tame h =
        still_holds g (renamed_kind fn.slots x.kind) e (e.entry - size) InAll (Unchanged saved) d h
        (leaves_register fn.slots x.kind 2 tame.pointer)
        (λ s k. leaves_place fn.slots x.kind s.offset tame.slots (λ n c z. (let a = saved_above fn s k in let b = slots_below fn.slots n c in
        omega (arith, a, b, z))))
        (λ r k. leaves_register fn.slots x.kind r (tame.saves r k.0 k.1))

    plain_step : (x : Item) (rest : List Item) (t u : State) → (t.pos.block ≡ 0 → ⊥) → rg t.pos ≡ renamed fn.slots x ∷ framed_items fn rest →
        All IsTame (x ∷ rest) → Holds e (e.entry - size) InAll (Unchanged saved) t.core → step g t ≡ Went u → Part u.pos u.core
    plain_step x rest t u inside w fits h go =
        on_step (Holds e (e.entry - size) InAll (Unchanged saved)) t.pos (do_item g (renamed_kind fn.slots x.kind) t.core) u
        (item_holds x t.core (All-head IsTame x rest fits) h)
        (λ c k. body rest inside (rest_below t.pos _ _ w) (All-tail IsTame x rest fits) k) (λ n c k. at_block n c k) (item_step t _ _ u w go)

    body_step : (xs : List Item) (t u : State) → (t.pos.block ≡ 0 → ⊥) → rg t.pos ≡ framed_items fn xs → All IsTame xs →
        Holds e (e.entry - size) InAll (Unchanged saved) t.core → step g t ≡ Went u → Part u.pos u.core
    body_step [] t u inside w fits h go = end_step t u w h go
    body_step (x ∷ rest) t u inside w fits h go =
        by_exit (leads_back x.kind) refl (w ∙ flat_map-cons (framed_item fn) x rest) where
          by_size : leads_back x.kind ≡ true → (n : ℕ) → size ≡ n →
              rg t.pos ≡ (added_all n (Before (position_of x.origin)) (epilogue_code size saved) ++ renamed fn.slots x ∷ []) ++ framed_items fn rest →
              Part u.pos u.core
          by_size final zero z k = plain_step x rest t u inside k fits h go
          by_size final (suc n) z k =
              load_step x rest saved t u inside (λ y. omega (arith, y, z)) final
              (k ∙ append_assoc (left x.origin saved) (renamed fn.slots x ∷ []) (framed_items fn rest)) (λ s c. c) h go

          by_exit : (z : Bool) → leads_back x.kind ≡ z →
              rg t.pos ≡ (cond z (epilogue fn x.origin) [] ++ renamed fn.slots x ∷ []) ++ framed_items fn rest → Part u.pos u.core
          by_exit false z k = plain_step x rest t u inside k fits h go
          by_exit true z k = by_size z size refl k

    pub part_step : (t u : State) → Part t.pos t.core → step g t ≡ Went u → Part u.pos u.core
    part_step t u (lowering o at made w h) go = lower_step o t u at made w h go
    part_step t u (saving o from rs zero_block first w split within h) go = save_step o from rs t u zero_block first w split within h go
    part_step t u (body xs inside w fits h) go = body_step xs t u inside w fits h go
    part_step t u (loading x rest todo inside made final w within h) go = load_step x rest todo t u inside made final w within h go
    part_step t u (loaded x rest inside final w h) go =
        on_step (λ c. ⊥) t.pos (do_item g (renamed_kind fn.slots x.kind) t.core) u (final_ends fn.slots g x.kind t.core (leads_out x.kind final))
        (λ c k. absurd k) (λ n c k. absurd k) (item_step t _ _ u w go)

    pub part_after : (n : ℕ) (s t : State) → Part s.pos s.core → run g n s ≡ Went t → Part t.pos t.core
    part_after zero s t h go = let q : s ≡ t = cc in subst (λ (z : State). Part z.pos z.core) q h
    part_after (suc n) s t h go = by_next (step g s) refl go (part_after n) where
      by_next : (x : Next) → step g s ≡ x → after x (run g n) ≡ Went t → ((s t : State) → Part s.pos s.core → run g n s ≡ Went t → Part t.pos t.core) →
          Part t.pos t.core
      by_next (Went u) w go more = more u t (part_step s u h w) go
      by_next (Returned v) w go more = cc
      by_next Faulted w go more = cc
      by_next Waits w go more = cc
      by_next Lost w go more = cc

    at_first : rg (block_start 0) ≡ added_all size (Before (block_start b0.id)) (prologue_code size saved)
    at_first =
        let w : drop 0 framed ≡ prologue_block fn b0 ∷ framed_block fn b0 ∷ map (framed_block fn) more = λ i. drop 0 (framed_blocks fn (blocks i)) in
        ap (λ (bs : List Block). rest_in bs 0) w ∙ drop_zero (prologue fn b0.id)

    pub part_start : Part (block_start 0) e
    part_start = by_size size refl at_first where
      by_size : (n : ℕ) → size ≡ n → rg (block_start 0) ≡ added_all n (Before (block_start b0.id)) (prologue_code size saved) → Part (block_start 0) e
      by_size zero z w =
          let none : (s : SavedRegister) → Contains saved s → ⊥ = λ s k. no_member s (subst (λ (y : List SavedRegister). Contains y s) (none_saved fn z) k) in
          let same : e.entry ≡ e.entry - size = omega (arith, z) in
          saving (Before (block_start b0.id)) 0 [] refl (λ y. z) w (λ s k. absurd (none s k)) (λ s k. absurd (no_member s k)) (record {
            pointer = entered.pointer ∙ ap Some same;
            places = λ s k. absurd (none s k.0);
            same = λ r k. refl;
          })
      by_size (suc n) z w =
          lowering (Before (block_start b0.id)) refl (λ y. omega (arith, y, z)) w
          (record { pointer = entered.pointer; places = λ s k. absurd k; same = λ r k. refl })
