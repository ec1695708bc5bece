-- The two runs side by side, item by item.
--
-- Level with each other, every spilled register's slot holds what the register holds where it is live. Before code come the loads of
-- the slots that it reads, and behind a definition the store that is owed. At the function's start come the stores of registers that
-- are live there. After code that was added before a position the second run stays ahead there, if more code of that position comes.
use Rattle.std.proofs.Common.{◌≡◌, ◌⊎◌, ℕ, zero, suc, ◌+◌, ◌-◌, ◌*◌, ◌<◌, ◌≤◌, List, [], ◌∷◌, ◌++◌, drop, All, Contains, Option, Some, None, IsSome}
use Rattle.std.proofs.Common.{Bool, true, false, cond, refl, sym, ap, ◌∙◌, subst, inl, inr, slice_get, arith}
use Rattle.std.proofs.lemmas.Bool.{cases_eq, cases_lt}
use Rattle.std.proofs.lemmas.List.Concat.{flat_map-cons}
use Rattle.std.proofs.lemmas.List.Elements.{All-contains}
use Rattle.rv64_instr.specs.declared.place.Place.TheVariants.{Register}
use Rattle.rv64_instr.specs.DefsAndUses.{caller_saved, reads, sets}
use Rattle.rv64_instr.specs.Instruction.{Instruction}
use Rattle.rv64_instr.specs.LocationEffects.{has_implicit_uses}
use Rattle.rv64_instr.specs.Row.{Row, Fixes, LoadsSlot, StoresSlot, Jumps, row_of}
use Rattle.mir_func.specs.declared.debug_substitution.OperandPair.{OperandPair}
use Rattle.mir_func.specs.declared.position.Pos.{Pos}
use Rattle.mir_func.specs.declared.position.Origin.{Origin}
use Rattle.mir_func.specs.declared.position.Origin.TheVariants.{Kept, Before}
use Rattle.mir_func.specs.declared.location.Loc.{Loc}
use Rattle.mir_func.specs.declared.block.Block.{Block}
use Rattle.mir_func.specs.declared.item.Item.{Item}
use Rattle.mir_func.specs.declared.item.ItemKind.{ItemKind}
use Rattle.mir_func.specs.declared.item.ItemKind.TheVariants.{Code, Mark, Phi}
use Rattle.mir_func.specs.Graph.{Program, Here, below, block_start, program_of, Edge, Leads, rest_in, rest_of}
use Rattle.mir_func.specs.Sound.{SlotsIn, OriginIn}
use Rattle.mir_func.specs.Positions.{position_of}
use Rattle.sem_mir.specs.Align.{is_code, is_jump, is_jump_row, Count, moves_on, waits_at, sync_point_at, IsOrigin, Since, Same, After, since_of}
use Rattle.sem_mir.specs.Effects.{EndAlike}
use Rattle.sem_mir.specs.InitialState.{first_of}
use Rattle.sem_mir.specs.Follow.{MayAdd, KindFits, RowFits, HasClass, InOrder, next_rank, rank}
use Rattle.rv64_instr.specs.View.{Plain, class_of}
use Rattle.sem_mir.specs.Live.{Live}
use Rattle.sem_mir.specs.State.{Core, State, content, updated}
use Rattle.sem_mir.specs.Step.{Outcome, Falls, Goes, Gives, Traps, Asks, Breaks, with_core, do_item, set_register}
use Rattle.sem_mir.proofs.Edges.{step_from_before}
use Rattle.sem_mir.proofs.Places.{put_same, put_other, contains_head, contains_tail}
use Rattle.sem_simulation.specs.Added.{Standing, IsPlain, IsQuiet, Opening, Level, Ahead, Owing, MayStand}
use Rattle.sem_simulation.specs.Added.{MayCome, AddedMatchStates, View, ended, both, before, opening, behind, paired}
use Rattle.sem_simulation.specs.MatchStates.{Sides, since_item, Does, OutcomesAlike}
use Rattle.sem_simulation.proofs.Laid.{laid_out}
use Rattle.sem_simulation.proofs.Order.{cases_waiting}
use Rattle.sem_simulation.proofs.Stations.{moves_on_less}
use Rattle.spill_code.specs.declared.spilling.SlotAssignment.{SlotAssignment}
use Rattle.spill_code.specs.declared.spilling.Spilling.{Spilling}
use Rattle.spill_code.specs.Rewrite.{slot_of, or_else, set_in, use_now, def_now, first_used, other_used}
use Rattle.spill_code.specs.Rewrite.{first_defined, spilled_code, load, store, added, loads, stores, two_loads}
use Rattle.spill_code.specs.Rewrite.{code_items, kind_items, spilled_item, spilled_items, entry_stores, spilled_blocks}
use Rattle.spill_simulation.specs.MaySpill.{uses_in, defs_in, FitsCode, Fits, AreHomes, IsUntouched}
use Rattle.spill_simulation.proofs.Explicit.{explicit, explicit_reads, first_from, other_from, used_is, other_is, defined_is, first_of as first_among}
use Rattle.spill_simulation.proofs.Items.{After as Passed, code_after, after_near, near_on, near_load, near_store}
use Rattle.spill_simulation.proofs.Items.{load_does, load_traps, store_does, act_traps, debug_near, debug_now}
use Rattle.spill_simulation.proofs.Items.{LoadedFirst, LoadedSecond, loaded_of}
use Rattle.spill_simulation.proofs.Near.{none_in, no_zero_saved, Near, keeps_zero, implicit_sets}
use Rattle.spill_simulation.proofs.Places.{Stands, stands_at, holds_at, same_stands, order_apart, kept_once, next_code, next_code_at}
use Rattle.spill_simulation.proofs.Rows.{row_renamed}
use Rattle.spill_simulation.proofs.Steps.{falls_edge, goes_edge, debug_edge, live_on, live_used}
use Rattle.spill_simulation.proofs.Steps.{debug_defines, not_defined, setting_plain, sets_one, plain_quiet, quiet_falls}
use Rattle.spill_simulation.proofs.Steps.{quiet_goes, source_plain, jump_renamed}

-- the stages: at the start, with stores to come; level at an index of the block; ahead at a position; with a second load to come; with all
-- loads done; and with a store owed
pub data Stage : Type 0 where
  Opened : SlotAssignment → List SlotAssignment → Stage
  Evenly : (index : ℕ) → Stage
  Early : (index : ℕ) → Pos → Stage
  Half : (index : ℕ) → Pos → (slot : ℕ) → Stage
  Ready : (index : ℕ) → Pos → Stage
  Owes : (index : ℕ) → Pos → (r slot : ℕ) → Stage

abbrev pub stands : Stage → Standing
stands (Opened h hs) = Opening
stands (Evenly i) = Level
stands (Early i p) = Ahead p
stands (Half i p n) = Ahead p
stands (Ready i p) = Ahead p
stands (Owes i p r n) = Owing p

-- the next items of a block begin with code
abbrev OnHead : (Instruction → Type 0) → List Item → Type 0
OnHead P [] = ⊥
OnHead P (x ∷ xs) = on_kind x.kind where
  on_kind : ItemKind → Type 0
  on_kind (Code i k) = P i
  on_kind (Mark v m) = ⊥
  on_kind (Phi p k) = ⊥

outcomes_of : (P : Core → Core → Type 0) (J : ℕ → Core → Core → Type 0) (R : Core → Core → Type 0) (x y : Outcome) → EndAlike R x y →
    ((c d : Core) → x ≡ Falls c → R c d → P c d) → ((n : ℕ) (c d : Core) → x ≡ Goes n c → R c d → J n c d) → OutcomesAlike P J x y
outcomes_of P J R (Falls c) (Falls d) h p j = p c d refl h
outcomes_of P J R (Goes m c) (Goes n d) h p j = (h.0, j m c d refl h.1)
outcomes_of P J R (Gives v) (Gives w) h p j = h
outcomes_of P J R Traps Traps h p j = tt
outcomes_of P J R Asks Asks h p j = tt
outcomes_of P J R Breaks Breaks h p j = tt
outcomes_of P J R _ _ h p j = absurd h

order_drop : (b n : ℕ) (xs : List Item) (j : ℕ) (x : Item) → InOrder b n xs → slice_get xs j ≡ Some x → InOrder b (next_rank x.origin) (drop (suc j) xs)
order_drop b n [] j x o e = cc
order_drop b n (y ∷ xs) zero x o e =
    let z : y ≡ x = cc in
    subst (λ (w : Item). InOrder b (next_rank w.origin) (drop 0 xs)) z (subst (InOrder b (next_rank y.origin)) (sym (drop_zero xs)) o.2) where
      drop_zero : (xs : List Item) → drop 0 xs ≡ xs
      drop_zero [] = refl
      drop_zero (x ∷ xs) = refl
order_drop b n (y ∷ xs) (suc j) x o e = order_drop b (next_rank y.origin) xs j x o.2 e

get_drop : (xs : List Item) (n m : ℕ) (y : Item) → slice_get xs (n + m) ≡ Some y → slice_get (drop n xs) m ≡ Some y
get_drop [] n m y e = cc
get_drop (x ∷ xs) zero m y e = let z : 0 + m ≡ m = omega arith in subst (λ (k : ℕ). slice_get (x ∷ xs) k ≡ Some y) z e
get_drop (x ∷ xs) (suc n) m y e =
    let z : suc n + m ≡ suc (n + m) = omega arith in
    get_drop xs n m y (subst (λ (k : ℕ). slice_get (x ∷ xs) k ≡ Some y) z e)

pub none_of : (homes : List SlotAssignment) (rs : List ℕ) (r : ℕ) → first_among homes rs ≡ None → Contains rs r → slot_of homes r ≡ None
none_of homes [] r e k = absurd (none_in r k)
none_of homes (q ∷ rs) r e (zero, lt, z) = by_slot (slot_of homes q) refl e where
  by_slot : (x : Option ℕ) → slot_of homes q ≡ x → or_else x (first_among homes rs) ≡ None → slot_of homes r ≡ None
  by_slot None s e = ap (slot_of homes) (sym z) ∙ s
  by_slot (Some n) s e = cc
none_of homes (q ∷ rs) r e (suc k, lt, z) = by_slot (slot_of homes q) e (λ w. none_of homes rs r w (k, omega (arith, lt), z)) where
  by_slot : (x : Option ℕ) → or_else x (first_among homes rs) ≡ None → (first_among homes rs ≡ None → slot_of homes r ≡ None) → slot_of homes r ≡ None
  by_slot None e more = more e
  by_slot (Some n) e more = cc

module _ (s : Spilling) (slots : List ℕ) (homes : AreHomes s slots) (entry : List SlotAssignment) (blocks : List Block)
    (resolve : OperandPair → Option OperandPair) where
  abbrev pub f : Program
  f = program_of false blocks resolve

  abbrev pub g : Program
  g = program_of false (spilled_blocks s entry blocks) resolve

  abbrev pub rf : Pos → List Item
  rf = rest_of blocks

  abbrev pub rg : Pos → List Item
  rg = rest_of (spilled_blocks s entry blocks)

  abbrev pub at : (b i : ℕ) → Pos
  at b i = record { block = b; item = i }

  -- the register is live at an index of a block
  abbrev pub Alive : (b i : ℕ) → ℕ → Type 0
  Alive b i r = Live f (Register r) (at b i)

  abbrev pub SpillsDef : ItemKind → Type 0
  SpillsDef (Code i k) = (n : ℕ) × (first_defined s.homes i.operands ≡ Some n)
  SpillsDef (Mark v m) = ⊥
  SpillsDef (Phi p k) = ⊥

  -- right below a spilled definition that is kept
  pub record Extra (q : Pos) : Type 0 where
    pub place : Pos
    pub item : Item
    pub pos : Pos
    pub at : f.fetch place ≡ Here item
    pub kept : item.origin ≡ Kept pos
    pub defines : SpillsDef item.kind
    pub under : q ≡ below pos

  -- ---- items and cores at a stage

  abbrev main : Instruction → Option ℕ → Origin → Loc → Item
  main ins num o l = record { kind = Code (spilled_code s ins) num; origin = o; loc = l }

  abbrev old : Instruction → Option ℕ → Origin → Loc → Item
  old ins num o l = record { kind = Code ins num; origin = o; loc = l }

  -- code, what is stored behind it, and the rest of the block
  abbrev tail : Instruction → Option ℕ → Origin → Loc → List Item → List Item
  tail ins num o l rest = (main ins num o l ∷ stores (below (position_of o)) s.first (first_defined s.homes ins.operands)) ++ spilled_items s rest

  pub record AtCode (b i : ℕ) (p : Pos) (xs : List Item) : Type 0 where
    pub ins : Instruction
    pub num : Option ℕ
    pub o : Origin
    pub l : Loc
    pub rest : List Item
    pub here : xs ≡ old ins num o l ∷ rest
    pub stands : rf (at b i) ≡ xs
    pub pos : position_of o ≡ p

  abbrev pub AreLive : List SlotAssignment → Type 0
  AreLive hs = (h : SlotAssignment) → Contains hs h → (slot_of s.homes h.register ≡ Some h.slot) × (h.register < 32)

  abbrev pub MatchItems : Stage → ℕ → List Item → List Item → Type 0
  MatchItems (Opened h hs) b xs ys = (b ≡ first_of blocks) × (rf (block_start b) ≡ xs) × (ys ≡ entry_stores b (h ∷ hs) ++ spilled_items s xs) × AreLive (h ∷ hs)
  MatchItems (Evenly i) b xs ys = (rf (at b i) ≡ xs) × (ys ≡ spilled_items s xs)
  MatchItems (Early i p) b xs ys = (rf (at b i) ≡ xs) × (ys ≡ spilled_items s xs) × (next_code xs ≡ Some p)
  MatchItems (Half i p n) b xs ys = (w : AtCode b i p xs) × (ys ≡ added (position_of w.o) (load s.second n) ∷ tail w.ins w.num w.o w.l w.rest) ×
      ((m : ℕ) × (first_used s.homes w.ins.operands ≡ Some m) × (other_used s.homes m w.ins.operands ≡ Some n))
  MatchItems (Ready i p) b xs ys = (w : AtCode b i p xs) × (ys ≡ tail w.ins w.num w.o w.l w.rest)
  MatchItems (Owes i p r n) b xs ys = (rf (at b i) ≡ xs) × (ys ≡ added (below p) (store s.first n) ∷ spilled_items s xs) × (slot_of s.homes r ≡ Some n)

  -- at the start no register differs yet, and some slots are owed
  pub record Begun (b : ℕ) (hs : List SlotAssignment) (c d : Core) : Type 0 where
    pub near : Near s slots (Alive b 0) (λ q. (h : SlotAssignment) × Contains hs h × (h.register ≡ q)) c d
    pub regs : (r : ℕ) → content c.regs r ≡ content d.regs r
    pub written : (r : ℕ) → r < 32 → IsSome (content c.regs r)

  abbrev pub MatchCores : Stage → ℕ → List Item → List Item → Core → Core → Type 0
  MatchCores (Opened h hs) b xs ys c d = Begun b (h ∷ hs) c d
  MatchCores (Evenly i) b xs ys c d = Near s slots (Alive b i) (λ _. ⊥) c d
  MatchCores (Early i p) b xs ys c d = Near s slots (Alive b i) (λ _. ⊥) c d
  MatchCores (Half i p n) b xs ys c d = Near s slots (Alive b i) (λ _. ⊥) c d × OnHead (λ ins. LoadedFirst s slots homes resolve ins c d) xs
  MatchCores (Ready i p) b xs ys c d = Near s slots (Alive b i) (λ _. ⊥) c d ×
      OnHead (λ ins. LoadedFirst s slots homes resolve ins c d × LoadedSecond s slots homes resolve ins c d) xs
  MatchCores (Owes i p r n) b xs ys c d =
      Near s slots (Alive b i) (λ q. q ≡ r) c d × (content c.regs r ≡ content d.regs s.first) × IsSome (content c.regs r)

  -- what each item of the function keeps
  pub record IsGood (src : Program) (b : Block) (x : Item) : Type 0 where
    pub fits : Fits s x.kind x.origin
    pub held : SlotsIn slots x.kind
    pub kind : KindFits src x.kind b.source_end x.origin
    pub inside : OriginIn b x.origin

  module _ (count : Count) (counts : (k : ItemKind) → moves_on count k ≡ is_jump k) (src : Program) (s0 : State)
      (goods : All (λ (b : Block). All (IsGood src b) b.items) blocks) (order : All (λ (b : Block). InOrder b.id 0 b.items) blocks) where
    abbrev pub sides : Sides
    sides = record { old = record { program = f; rest = rf; start = s0 }; new = record { program = g; rest = rg; start = s0 } }

    abbrev pub Reach : Pos → Type 0
    Reach p = Leads src s0.pos p

    abbrev pub match_states : AddedMatchStates
    match_states = record {
      match_states = record { Stage = Stage; entry = λ n. Evenly 0; MatchItems = MatchItems; MatchCores = MatchCores };
      standing = stands;
      Stops = λ p q. IsOrigin (sync_point_at count g) q;
      Extra = Extra;
      Reach = Reach;
    }

    abbrev pub Seen : ℕ → Stage → List Item → List Item → Type 0
    Seen b k xs ys = View count src sides match_states b k xs ys

    good_at : (q : Pos) (x : Item) (w : Stands blocks q x) → IsGood src w.block x
    good_at q x w = holds_at (IsGood src) blocks goods q x w

    origin_home : (b : Block) (o : Origin) → OriginIn b o → (position_of o).block ≡ b.id
    origin_home b (Kept p) h = h.0
    origin_home b (Before p) h = h.0

    home_of : (q : Pos) (x : Item) → f.fetch q ≡ Here x → (position_of x.origin).block ≡ q.block
    home_of q x e =
        let w = stands_at false blocks resolve q x e in
        origin_home w.block x.origin (good_at q x w).inside ∙ w.id

    order_of : (q : Pos) (x : Item) (w : Stands blocks q x) → InOrder w.block.id 0 w.block.items
    order_of q x w = All-contains (λ (b : Block). InOrder b.id 0 b.items) blocks w.block order w.member

    -- ---- where level is right

    -- no spilled definition is kept of the item's position
    abbrev IsClear : Item → Type 0
    IsClear x = (w : Pos) (y : Item) → f.fetch w ≡ Here y → y.origin ≡ Kept (position_of x.origin) → SpillsDef y.kind → ⊥

    may_level : (x : Item) → IsClear x → MayStand count src sides match_states Level x
    may_level x clear st u from went extra =
        let back : st.pos ≡ extra.pos = step_from_before src st u extra.pos.block extra.pos.item went extra.under in
        let z : extra.pos ≡ position_of x.origin = sym back ∙ from in
        absurd (clear extra.place extra.item extra.at (extra.kept ∙ ap Kept z) extra.defines)

    -- the same block
    met : (q w : Pos) (x y : Item) → f.fetch q ≡ Here x → f.fetch w ≡ Here y → y.origin ≡ Kept (position_of x.origin) → q.block ≡ w.block
    met q w x y e e' k = sym (home_of q x e) ∙ sym (ap (λ (o : Origin). (position_of o).block) k) ∙ home_of w y e'

    clear_kept : (q : Pos) (x : Item) (p : Pos) → f.fetch q ≡ Here x → x.origin ≡ Kept p → (SpillsDef x.kind → ⊥) → IsClear x
    clear_kept q x p e k none w y e' k' defines =
        let v = stands_at false blocks resolve q x e in
        let v' = stands_at false blocks resolve w y e' in
        let b = same_stands blocks q w x y v v' (met q w x y e e' k') in
        let same : y ≡ x = kept_once v.block.id 0 v.block.items w.item q.item y x p (order_of q x v)
        (ap (λ (z : Block). slice_get z.items w.item) b ∙ v'.at) v.at (k' ∙ ap (λ (o : Origin). Kept (position_of o)) k) k in
        none (subst (λ (i : Item). SpillsDef i.kind) same defines)

    spills_code : (k : ItemKind) → SpillsDef k → is_code k ≡ true
    spills_code (Code i n) h = refl
    spills_code (Mark v m) h = absurd h
    spills_code (Phi p n) h = absurd h

    clear_before : (q : Pos) (x : Item) (p : Pos) (rest : List Item) → f.fetch q ≡ Here x → x.origin ≡ Before p → rf (below q) ≡ rest →
        (next_code rest ≡ Some p → ⊥) → IsClear x
    clear_before q x p rest e k next none w y e' k' defines =
        by_place (stands_at false blocks resolve q x e) (stands_at false blocks resolve w y e') where
          kp : y.origin ≡ Kept p
          kp = k' ∙ ap (λ (o : Origin). Kept (position_of o)) k

          later_code : (v : Stands blocks q x) → slice_get v.block.items w.item ≡ Some y → q.item < w.item → next_code rest ≡ Some p
          later_code v there lt =
              let m : ℕ = w.item - suc q.item in
              let sum : suc q.item + m ≡ w.item = omega (arith, lt) in
              let is : rest ≡ drop (suc q.item) v.block.items =
              sym next ∙ ap (λ (bs : List Block). rest_in bs (q.item + 1)) v.found ∙
              ap (λ (j : ℕ). drop j v.block.items) (let j : q.item + 1 ≡ suc q.item = omega arith in j) in
              let low : 2 * p.item ≤ next_rank x.origin = subst (λ (z : Origin). 2 * p.item ≤ next_rank z) (sym k) (omega arith) in
              ap next_code is ∙ next_code_at v.block.id (next_rank x.origin) (drop (suc q.item) v.block.items) m y p
              (order_drop v.block.id 0 v.block.items q.item x (order_of q x v) v.at) low
              (get_drop v.block.items (suc q.item) m y (ap (slice_get v.block.items) sum ∙ there)) (spills_code y.kind defines) kp
              (sym (ap (λ (z : Origin). (position_of z).block) k) ∙ origin_home v.block x.origin (good_at q x v).inside)

          by_place : Stands blocks q x → Stands blocks w y → ⊥
          by_place v v' =
              let b = same_stands blocks q w x y v v' (met q w x y e e' k') in
              let there : slice_get v.block.items w.item ≡ Some y = ap (λ (z : Block). slice_get z.items w.item) b ∙ v'.at in
              elim (cases_lt w.item q.item) as (λ _. ⊥) [
                | inl lt ↦
                    (let h = order_apart v.block.id 0 v.block.items w.item q.item y x (order_of q x v) there v.at lt in
                    let a : 2 * p.item + 2 ≤ rank x.origin = subst (λ (z : Origin). next_rank z ≤ rank x.origin) kp h in
                    let c : 2 * p.item + 2 ≤ 2 * p.item = subst (λ (z : Origin). 2 * p.item + 2 ≤ rank z) k a in
                    omega (arith, c))
                | inr ge ↦ elim (cases_eq w.item q.item) as (λ _. ⊥) [
                  | inl same ↦
                      (let z : Some y ≡ Some x = sym there ∙ ap (slice_get v.block.items) same ∙ v.at in
                      let yx : y ≡ x = cc in
                      let bad : Kept p ≡ Before p = sym kp ∙ ap (λ (i : Item). i.origin) yx ∙ k in
                      cc)
                  | inr ne ↦ none (later_code v there (omega (arith, ge, ne)))
                ]
              ]

    jump_at_end : (k : ItemKind) (p : Pos) (source_end : ℕ) → KindFits src k source_end (Before p) → is_jump k ≡ true → p.item ≡ source_end
    jump_at_end (Code i n) p source_end h j = by_row (row_of i) h j where
      by_row : (r : Row) → MayAdd r p.item source_end → is_jump_row r ≡ true → p.item ≡ source_end
      by_row (Jumps t) h j = h
      by_row _ h j = cc
    jump_at_end (Mark v m) p source_end h j = cc
    jump_at_end (Phi q n) p source_end h j = cc

    clear_jump : (q : Pos) (x : Item) (p : Pos) → f.fetch q ≡ Here x → x.origin ≡ Before p → is_jump x.kind ≡ true → IsClear x
    clear_jump q x p e k j w y e' k' defines =
        let v = stands_at false blocks resolve q x e in
        let v' = stands_at false blocks resolve w y e' in
        let b = same_stands blocks q w x y v v' (met q w x y e e' k') in
        let end = jump_at_end x.kind p v.block.source_end (subst (KindFits src x.kind v.block.source_end) k (good_at q x v).kind) j in
        let inside : OriginIn v'.block (Kept p) =
        subst (OriginIn v'.block) (k' ∙ ap (λ (z : Origin). Kept (position_of z)) k) (good_at w y v').inside in
        let lt = inside.1 in
        let same : v.block.source_end ≡ v'.block.source_end = ap (λ (z : Block). z.source_end) b in
        omega (arith, lt, same, end)

    -- ---- code

    module _ (b i : ℕ) (ins : Instruction) (num : Option ℕ) (o : Origin) (l : Loc) (rest : List Item) (here : rf (at b i) ≡ old ins num o l ∷ rest) where
      abbrev x : Item
      x = old ins num o l

      abbrev p : Pos
      p = position_of o

      stood : f.fetch (at b i) ≡ Here x
      stood = ((laid_out false blocks resolve).cons (at b i) x rest here).0

      next : rf (at b (i + 1)) ≡ rest
      next = ((laid_out false blocks resolve).cons (at b i) x rest here).1

      placed : Stands blocks (at b i) x
      placed = stands_at false blocks resolve (at b i) x stood

      good : IsGood src placed.block x
      good = good_at (at b i) x placed

      fits : FitsCode s ins o
      fits = good.fits

      held : SlotsIn slots (Code ins None)
      held = good.held

      -- a spilled register that is used is read, and so is live here
      used_read : (r n : ℕ) → Contains (uses_in ins.operands) r → slot_of s.homes r ≡ Some n →
          Contains (explicit_reads (row_of ins)) r × Contains (reads (row_of ins)) r
      used_read r n k e = ((explicit ins fits.form).used_explicit r k not_zero, (explicit ins fits.form).used_reads r k not_zero) where
        not_zero : r ≡ 0 → ⊥
        not_zero z = let bad : None ≡ Some n = sym homes.no_zero ∙ ap (slot_of s.homes) (sym z) ∙ e in cc

      used_live : (r n : ℕ) → Contains (uses_in ins.operands) r → slot_of s.homes r ≡ Some n → Alive b i r
      used_live r n k e = let w = used_read r n k e in live_used f r (at b i) x ins num stood refl w.0

      -- a load of its slot, which stops where the code does
      load_step : (into r n : ℕ) → Contains (uses_in ins.operands) r → slot_of s.homes r ≡ Some n → (P : Core → Type 0) (c d : Core) →
          Near s slots (Alive b i) (λ _. ⊥) c d → ((v : ℕ) → content c.regs r ≡ Some v → P (set_register into v d)) →
          Does g (added p (load into n)) d P ⊎ ((do_item g (Code (load into n) None) d ≡ Traps) × (do_item f x.kind c ≡ Traps))
      load_step into r n k e P c d near h = by_slot (d.slots n) refl where
        same : d.slots n ≡ content c.regs r
        same = near.alive r n e (λ z. z) (used_live r n k e)

        by_slot : (y : Option ℕ) → d.slots n ≡ y →
            Does g (added p (load into n)) d P ⊎ ((do_item g (Code (load into n) None) d ≡ Traps) × (do_item f x.kind c ≡ Traps))
        by_slot (Some v) z = inl (set_register into v d, load_does s slots homes resolve g into n v d z, h v (sym same ∙ z))
        by_slot None z = inr (
          load_traps s slots homes resolve g into n d z,
          ap (with_core _) (act_traps (row_of ins) c r (used_read r n k e).1 (sym same ∙ z)),
        )

      -- ---- behind code

      none_set : first_defined s.homes ins.operands ≡ None → (r n : ℕ) → slot_of s.homes r ≡ Some n → Contains (sets (row_of ins)) r → ⊥
      none_set none r n e k = by_row (has_implicit_uses (row_of ins)) refl where
        by_row : (z : Bool) → has_implicit_uses (row_of ins) ≡ z → ⊥
        by_row true z = homes.kept r n e (implicit_sets (row_of ins) z r k)
        by_row false z =
            let m : slot_of s.homes r ≡ None = none_of s.homes (defs_in ins.operands) r (sym (defined_is s.homes ins.operands) ∙ none)
            (subst (λ (xs : List ℕ). Contains xs r) ((explicit ins fits.form).sets_defs z) k) in
            let bad : None ≡ Some n = sym m ∙ e in
            cc

      abbrev IsLoaded : Core → Core → Type 0
      IsLoaded c d = Near s slots (Alive b i) (λ _. ⊥) c d × LoadedFirst s slots homes resolve ins c d × LoadedSecond s slots homes resolve ins c d

      abbrev HasPassed : Core → Core → Core → Core → Type 0
      HasPassed c d c' d' = Passed s slots homes resolve ins o fits held (first_used s.homes ins.operands) c d c' d'

      passed : (c d : Core) → IsLoaded c d → EndAlike (HasPassed c d) (do_item f (Code ins num) c) (do_item g (Code (spilled_code s ins) num) d)
      passed c d h =
          code_after s slots homes resolve ins o fits held (first_used s.homes ins.operands) (Alive b i) (λ _. ⊥) c d h.0 f g refl refl num
          (loaded_of s slots homes resolve ins o fits held (Alive b i) (λ _. ⊥) c d h.0 h.1 h.2)

      abbrev LiveAt : Pos → ℕ → Type 0
      LiveAt q r = Live f (Register r) q

      -- what is set is owed
      near_owing : (q : Pos) → Edge f (at b i) q → (c d c' d' : Core) → IsLoaded c d → HasPassed c d c' d' →
          Near s slots (LiveAt q) (λ r. Contains (sets (row_of ins)) r) c' d'
      near_owing q edge c d c' d' h p =
          after_near s slots homes resolve ins o fits held (first_used s.homes ins.operands) (Alive b i) (LiveAt q) c d c' d' h.0 p
          (λ r n e out live. live_on f r (at b i) q x stood (not_defined ins num r out) edge live)

      near_next : first_defined s.homes ins.operands ≡ None → (q : Pos) → Edge f (at b i) q → (c d c' d' : Core) → IsLoaded c d → HasPassed c d c' d' →
          Near s slots (LiveAt q) (λ _. ⊥) c' d'
      near_next none q edge c d c' d' h p =
          near_on s slots homes resolve (LiveAt q) (λ r. Contains (sets (row_of ins)) r) (LiveAt q) (λ _. ⊥) c' d' (near_owing q edge c d c' d' h p)
          (λ r n e out. (none_set none r n e, λ z. z))

      added_plain : (r : Row) (k source_end : ℕ) → MayAdd r k source_end → (class_of r ≡ Plain) ⊎ (is_jump_row r ≡ true)
      added_plain (LoadsSlot rd n) k source_end m = inl refl
      added_plain (Fixes rd n) k source_end m = inl refl
      added_plain (StoresSlot rs n) k source_end m = inl refl
      added_plain (Jumps t) k source_end m = inr refl
      added_plain _ k source_end m = absurd m

      -- code goes elsewhere only where the source moves on after it
      moves : (c c' : Core) (n : ℕ) → do_item f (Code ins num) c ≡ Goes n c' → since_item count x ≡ After
      moves c c' n went = by_origin o refl where
        by_origin : (z : Origin) → o ≡ z → since_item count x ≡ After
        by_origin (Kept q) e = ap (λ (z : Origin). since_of (waits_at (moves_on count (Code ins num)) z)) e
        by_origin (Before q) e =
            elim (added_plain (row_of ins) q.item placed.block.source_end (subst (RowFits src (row_of ins) placed.block.source_end) e good.kind))
            as (λ _. since_item count x ≡ After) [
              | inl plain ↦ absurd (quiet_goes c c' n (do_item f (Code ins num) c) (plain_quiet f ins num c plain) went)
              | inr jump ↦
                  ap (λ (z : Origin). since_of (waits_at (moves_on count (Code ins num)) z)) e ∙
                  ap (λ (t : Bool). since_of (waits_at t (Before q))) (counts (Code ins num) ∙ jump)
            ]

      since_same : since_item count x ≡ since_item count (main ins num o l)
      since_same =
          let u = first_used s.homes ins.operands in
          let same : is_jump_row (row_of (spilled_code s ins)) ≡ is_jump_row (row_of ins) =
          ap is_jump_row (row_renamed (use_now s u) (def_now s) (keeps_zero s slots homes u) ins) ∙ jump_renamed (use_now s u) (def_now s) (row_of ins) in
          ap (λ (t : Bool). since_of (waits_at t o)) (counts (Code ins num) ∙ sym same ∙ sym (counts (Code (spilled_code s ins) num)))

      -- code that sets nothing spilled
      after_view : (k k' : Stage) → MayCome (stands k) p → ((ys : List Item) (c d : Core) → MatchCores k b (x ∷ rest) ys c d → IsLoaded c d) →
          first_defined s.homes ins.operands ≡ None →
          ((ys : List Item) (c d : Core) → Near s slots (Alive b (i + 1)) (λ _. ⊥) c d → MatchCores k' b rest ys c d) →
          ((c c' : Core) (n : ℕ) → do_item f (Code ins num) c ≡ Goes n c' → stands k' ≡ Level) →
          MayStand count src sides match_states (stands k') x → MatchItems k' b rest (spilled_items s rest) →
          Seen b k (x ∷ rest) (main ins num o l ∷ spilled_items s rest)
      after_view k k' come loaded none falls goes may rests =
          both {k' = k'} come refl refl refl since_same may rests
          (λ c d h. outcomes_of (MatchCores k' b rest (spilled_items s rest))
          (λ j c' d'. (since_item count x ≡ After) × (stands k' ≡ Level) × MatchCores (Evenly 0) j (rf (block_start j)) (rg (block_start j)) c' d')
          (HasPassed c d) (do_item f (Code ins num) c) (do_item g (Code (spilled_code s ins) num) d)
          (passed c d (loaded (main ins num o l ∷ spilled_items s rest) c d h))
          (λ c' d' fell r. falls (spilled_items s rest) c' d'
          (near_next none (below (at b i)) (falls_edge f (at b i) x stood c c' fell) c d c' d' (loaded _ c d h) r))
          (λ n c' d' went r. (
            moves c c' n went,
            goes c c' n went,
            near_next none (block_start n) (goes_edge f (at b i) x stood c n c' went) c d c' d' (loaded _ c d h) r,
          )))

      plain_view : (k : Stage) → MayCome (stands k) p → ((ys : List Item) (c d : Core) → MatchCores k b (x ∷ rest) ys c d → IsLoaded c d) →
          first_defined s.homes ins.operands ≡ None → Seen b k (x ∷ rest) (main ins num o l ∷ spilled_items s rest)
      plain_view k come loaded none = by_origin o refl where
        evenly : IsClear x → Seen b k (x ∷ rest) (main ins num o l ∷ spilled_items s rest)
        evenly clear = after_view k (Evenly (i + 1)) come loaded none (λ ys c d h. h) (λ c c' n went. refl) (may_level x clear) (next, refl)

        sets_none : SpillsDef (Code ins num) → ⊥
        sets_none h = let bad : None ≡ Some h.0 = sym none ∙ h.1 in cc

        stays : (q : Pos) → o ≡ Before q → is_jump_row (row_of ins) ≡ false → since_item count x ≡ Same
        stays q e j =
            ap (λ (z : Origin). since_of (waits_at (moves_on count (Code ins num)) z)) e ∙
            ap (λ (t : Bool). since_of (waits_at t (Before q))) (counts (Code ins num) ∙ j)

        never : {P : Type 0} → (m : Since) → m ≡ Same → m ≡ After → P
        never m e e' = let bad : Same ≡ After = sym e ∙ e' in cc

        by_jump : (q : Pos) → o ≡ Before q → (t : Bool) → is_jump_row (row_of ins) ≡ t → Seen b k (x ∷ rest) (main ins num o l ∷ spilled_items s rest)
        by_jump q e true j = evenly (clear_jump (at b i) x q stood e j)
        by_jump q e false j =
            elim (cases_waiting (next_code rest) q) as (λ _. Seen b k (x ∷ rest) (main ins num o l ∷ spilled_items s rest)) [
              | inl more ↦
                  after_view k (Early (i + 1) q) come loaded none (λ ys c d h. h) (λ c c' n went. never (since_item count x) (stays q e j) (moves c c' n went))
                  (ap position_of e, stays q e j) (next, refl, more)
              | inr out ↦ evenly (clear_before (at b i) x q rest stood e next out)
            ]

        by_origin : (z : Origin) → o ≡ z → Seen b k (x ∷ rest) (main ins num o l ∷ spilled_items s rest)
        by_origin (Kept q) e = evenly (clear_kept (at b i) x q stood e sets_none)
        by_origin (Before q) e = by_jump q e (is_jump_row (row_of ins)) refl

      -- code that sets a spilled register: its store is owed
      owing_view : (k : Stage) → MayCome (stands k) p → ((ys : List Item) (c d : Core) → MatchCores k b (x ∷ rest) ys c d → IsLoaded c d) →
          (n : ℕ) → first_defined s.homes ins.operands ≡ Some n →
          Seen b k (x ∷ rest) (main ins num o l ∷ added (below p) (store s.first n) ∷ spilled_items s rest)
      owing_view k come loaded n some = by_register (first_from s.homes (defs_in ins.operands) n (sym (defined_is s.homes ins.operands) ∙ some)) where
        by_register : (r : ℕ) × Contains (defs_in ins.operands) r × (slot_of s.homes r ≡ Some n) →
            Seen b k (x ∷ rest) (main ins num o l ∷ added (below p) (store s.first n) ∷ spilled_items s rest)
        by_register (r, defined, home) =
            both {k' = Owes (i + 1) p r n} come refl refl refl since_same
            (refl, after, source, λ c e fell. quiet_falls c e (do_item f (Code ins num) c) (plain_quiet f ins num c plain) fell)
            (next, refl, home)
            (λ c d h. outcomes_of (MatchCores (Owes (i + 1) p r n) b rest (added (below p) (store s.first n) ∷ spilled_items s rest))
            (λ j c' d'. (since_item count x ≡ After) × (Owing p ≡ Level) × MatchCores (Evenly 0) j (rf (block_start j)) (rg (block_start j)) c' d')
            (HasPassed c d) (do_item f (Code ins num) c) (do_item g (Code (spilled_code s ins) num) d)
            (passed c d (loaded _ c d h))
            (λ c' d' fell q. (
              near_on s slots homes resolve (LiveAt (below (at b i))) (λ r. Contains (sets (row_of ins)) r) (LiveAt (below (at b i))) (λ q. q ≡ r) c' d'
                  (near_owing (below (at b i)) (falls_edge f (at b i) x stood c c' fell) c d c' d' (loaded _ c d h) q)
                  (λ q m e out. (λ k. out (sets_one (row_of ins) q r explicit_only k is_set), λ z. z)),
              q.set explicit_only r is_set ∙ ap (content d'.regs) (ap (set_in s r) home),
              q.written explicit_only r is_set,
            ))
            (λ n c' d' went q. absurd (quiet_goes c c' n (do_item f (Code ins num) c) (plain_quiet f ins num c plain) went))) where
              explicit_only : has_implicit_uses (row_of ins) ≡ false
              explicit_only = by_row (has_implicit_uses (row_of ins)) refl where
                by_row : (z : Bool) → has_implicit_uses (row_of ins) ≡ z → has_implicit_uses (row_of ins) ≡ false
                by_row false z = z
                by_row true z = absurd (none_in r (subst (λ (xs : List ℕ). Contains xs r) ((explicit ins fits.form).implicit_none z) defined))

              is_set : Contains (sets (row_of ins)) r
              is_set = subst (λ (xs : List ℕ). Contains xs r) (sym ((explicit ins fits.form).sets_defs explicit_only)) defined

              plain : class_of (row_of ins) ≡ Plain
              plain = setting_plain (row_of ins) r explicit_only is_set

              is_kept : (q : Pos) × (o ≡ Kept q)
              is_kept = by_origin o refl where
                by_origin : (z : Origin) → o ≡ z → (q : Pos) × (o ≡ Kept q)
                by_origin (Kept q) e = (q, e)
                by_origin (Before q) e = let bad : None ≡ Some n = sym (fits.kept q e r (inr defined)) ∙ home in cc

              after : since_item count x ≡ After
              after = ap (λ (z : Origin). since_of (waits_at (moves_on count (Code ins num)) z)) is_kept.1

              source : IsPlain src p
              source = source_plain src p (row_of ins) plain
                  (subst (λ (q : Pos). HasClass (row_of ins) (src.fetch q)) (sym (ap position_of is_kept.1))
                  (subst (RowFits src (row_of ins) placed.block.source_end) is_kept.1 good.kind))

      tail_view : (k : Stage) → MayCome (stands k) p → ((ys : List Item) (c d : Core) → MatchCores k b (x ∷ rest) ys c d → IsLoaded c d) →
          Seen b k (x ∷ rest) (tail ins num o l rest)
      tail_view k come loaded = by_slot (first_defined s.homes ins.operands) refl where
        by_slot : (z : Option ℕ) → first_defined s.homes ins.operands ≡ z →
            Seen b k (x ∷ rest) ((main ins num o l ∷ stores (below p) s.first z) ++ spilled_items s rest)
        by_slot None e = plain_view k come loaded e
        by_slot (Some n) e = owing_view k come loaded n e

      -- ---- loads before it

      abbrev at_code : AtCode b i p (x ∷ rest)
      at_code = record { ins = ins; num = num; o = o; l = l; rest = rest; here = refl; stands = here; pos = refl }

      load_since : (into n : ℕ) → since_item count (added p (load into n)) ≡ Same
      load_since into n = ap (λ (t : Bool). since_of (waits_at t (Before p))) (moves_on_less count (Code (load into n) None) refl)

      untouched_first : (q : ℕ) → IsUntouched s q → q ≡ s.first → ⊥
      untouched_first q h e = h.1.0 e

      untouched_second : (q : ℕ) → IsUntouched s q → q ≡ s.second → ⊥
      untouched_second q h e = h.1.1 e

      same_slot : (m n : ℕ) (z : Option ℕ) → z ≡ Some m → z ≡ Some n → n ≡ m
      same_slot m n z e e' = let w : Some n ≡ Some m = sym e' ∙ e in cc

      -- the first slot's register holds what the scratch register gets
      first_loaded : (n r v : ℕ) (c d : Core) → first_used s.homes ins.operands ≡ Some n → slot_of s.homes r ≡ Some n → content c.regs r ≡ Some v →
          LoadedFirst s slots homes resolve ins c (set_register s.first v d)
      first_loaded n r v c d is home e q m is' home' =
          let mn : m ≡ n = same_slot n m (first_used s.homes ins.operands) is is' in
          let qr : q ≡ r = homes.own q r n (home' ∙ ap Some mn) home in
          ap (content c.regs) qr ∙ e ∙ sym (put_same s.first v d.regs (λ z. no_zero_saved (subst (λ (k : ℕ). Contains caller_saved k) z homes.first)))

      ready_of : (k : Stage) (h : MayCome (stands k) p) (n : ℕ) → first_used s.homes ins.operands ≡ Some n → other_used s.homes n ins.operands ≡ None →
          ((ys : List Item) (c d : Core) → MatchCores k b (x ∷ rest) ys c d → Near s slots (Alive b i) (λ _. ⊥) c d) →
          Seen b k (x ∷ rest) (added p (load s.first n) ∷ tail ins num o l rest)
      ready_of k come n is none near = by_register (first_from s.homes (uses_in ins.operands) n (sym (used_is s.homes ins.operands) ∙ is)) where
        by_register : (r : ℕ) × Contains (uses_in ins.operands) r × (slot_of s.homes r ≡ Some n) →
            Seen b k (x ∷ rest) (added p (load s.first n) ∷ tail ins num o l rest)
        by_register (r, used, home) =
            before {k' = Ready i p} {y = added p (load s.first n)} come refl refl refl (load_since s.first n) refl (at_code, refl)
            (λ c d h. load_step s.first r n used home
            (λ e. Near s slots (Alive b i) (λ _. ⊥) c e × (LoadedFirst s slots homes resolve ins c e × LoadedSecond s slots homes resolve ins c e)) c d
            (near _ c d h) (λ v e. (
              near_load s slots homes resolve (Alive b i) (λ _. ⊥) s.first v c d untouched_first (near _ c d h),
              (
                first_loaded n r v c d is home e,
                λ q m j is' other home'. (let mn : m ≡ n = same_slot n m (first_used s.homes ins.operands) is is' in
                    let bad : None ≡ Some j = sym none ∙ ap (λ (z : ℕ). other_used s.homes z ins.operands) (sym mn) ∙ other in cc),
              ),
            )))

      half_of : (k : Stage) (h : MayCome (stands k) p) (n m : ℕ) → first_used s.homes ins.operands ≡ Some n → other_used s.homes n ins.operands ≡ Some m →
          ((ys : List Item) (c d : Core) → MatchCores k b (x ∷ rest) ys c d → Near s slots (Alive b i) (λ _. ⊥) c d) →
          Seen b k (x ∷ rest) (added p (load s.first n) ∷ added p (load s.second m) ∷ tail ins num o l rest)
      half_of k come n m is other near = by_register (first_from s.homes (uses_in ins.operands) n (sym (used_is s.homes ins.operands) ∙ is)) where
        by_register : (r : ℕ) × Contains (uses_in ins.operands) r × (slot_of s.homes r ≡ Some n) →
            Seen b k (x ∷ rest) (added p (load s.first n) ∷ added p (load s.second m) ∷ tail ins num o l rest)
        by_register (r, used, home) =
            before {k' = Half i p m} {y = added p (load s.first n)} come refl refl refl (load_since s.first n) refl (at_code, refl, (n, is, other))
            (λ c d h. load_step s.first r n used home
            (λ e. Near s slots (Alive b i) (λ _. ⊥) c e × LoadedFirst s slots homes resolve ins c e) c d
            (near _ c d h) (λ v e. (
              near_load s slots homes resolve (Alive b i) (λ _. ⊥) s.first v c d untouched_first (near _ c d h),
              first_loaded n r v c d is home e,
            )))

      -- the second load
      second_of : (k : Stage) (h : MayCome (stands k) p) (n m : ℕ) → first_used s.homes ins.operands ≡ Some n → other_used s.homes n ins.operands ≡ Some m →
          ((ys : List Item) (c d : Core) → MatchCores k b (x ∷ rest) ys c d →
          Near s slots (Alive b i) (λ _. ⊥) c d × LoadedFirst s slots homes resolve ins c d) →
          Seen b k (x ∷ rest) (added p (load s.second m) ∷ tail ins num o l rest)
      second_of k come n m is other near = by_register (other_from s.homes n (uses_in ins.operands) m (sym (other_is s.homes n ins.operands) ∙ other)) where
        by_register : (r : ℕ) × Contains (uses_in ins.operands) r × (slot_of s.homes r ≡ Some m) × (n ≡ m → ⊥) →
            Seen b k (x ∷ rest) (added p (load s.second m) ∷ tail ins num o l rest)
        by_register (r, used, home, ne) =
            before {k' = Ready i p} {y = added p (load s.second m)} come refl refl refl (load_since s.second m) refl (at_code, refl)
            (λ c d h. load_step s.second r m used home
            (λ e. Near s slots (Alive b i) (λ _. ⊥) c e × (LoadedFirst s slots homes resolve ins c e × LoadedSecond s slots homes resolve ins c e)) c d
            (near _ c d h).0 (λ v e. (
              near_load s slots homes resolve (Alive b i) (λ _. ⊥) s.second v c d untouched_second (near _ c d h).0,
              (
                λ q j is' home'. (near _ c d h).1 q j is' home' ∙ sym (put_other s.second s.first v d.regs homes.apart),
                λ q j j' is' other' home'.
                    (let jn : j ≡ n = same_slot n j (first_used s.homes ins.operands) is is' in
                    let jm : j' ≡ m = same_slot m j' (other_used s.homes n ins.operands) other
                    (ap (λ (z : ℕ). other_used s.homes z ins.operands) (sym jn) ∙ other') in
                    let qr : q ≡ r = homes.own q r m (home' ∙ ap Some jm) home in
                    ap (content c.regs) qr ∙ e ∙
                    sym (put_same s.second v d.regs (λ z. no_zero_saved (subst (λ (k : ℕ). Contains caller_saved k) z homes.second)))),
              ),
            )))

      abbrev behind_loads : List Item
      behind_loads = main ins num o l ∷ stores (below p) s.first (first_defined s.homes ins.operands)

      code_view : (k : Stage) → MayCome (stands k) p →
          ((ys : List Item) (c d : Core) → MatchCores k b (x ∷ rest) ys c d → Near s slots (Alive b i) (λ _. ⊥) c d) →
          Seen b k (x ∷ rest) (code_items s ins num o l ++ spilled_items s rest)
      code_view k come near = by_first (first_used s.homes ins.operands) refl where
        by_other : (n : ℕ) → first_used s.homes ins.operands ≡ Some n → (z : Option ℕ) → other_used s.homes n ins.operands ≡ z →
            Seen b k (x ∷ rest) (((added p (load s.first n) ∷ loads p s.second z) ++ behind_loads) ++ spilled_items s rest)
        by_other n is None e = ready_of k come n is e near
        by_other n is (Some m) e = half_of k come n m is e near

        by_first : (z : Option ℕ) → first_used s.homes ins.operands ≡ z →
            Seen b k (x ∷ rest) ((two_loads s p ins.operands z ++ behind_loads) ++ spilled_items s rest)
        by_first None e = tail_view k come (λ ys c d h. (
          near ys c d h,
          λ r n is home. (let bad : None ≡ Some n = sym e ∙ is in cc),
          λ r m n is other home. (let bad : None ≡ Some m = sym e ∙ is in cc),
        ))
        by_first (Some n) e = by_other n e (other_used s.homes n ins.operands) refl

    -- ---- debug items

    debug_falls : (b i : ℕ) (x : Item) (rest : List Item) → rf (at b i) ≡ x ∷ rest → is_code x.kind ≡ false → (c d : Core) →
        Near s slots (Alive b i) (λ _. ⊥) c d →
        (e e' : Core) × (do_item f x.kind c ≡ Falls e) × (do_item g (debug_now s slots homes resolve x.kind) d ≡ Falls e') ×
        Near s slots (Alive b (i + 1)) (λ _. ⊥) e e'
    debug_falls b i x rest here z c d near =
        let stood = ((laid_out false blocks resolve).cons (at b i) x rest here).0 in
        let good = good_at (at b i) x (stands_at false blocks resolve (at b i) x stood) in
        let w = debug_near s slots homes resolve f g refl refl (λ q. refl) (Alive b i) x.kind x.origin c d z near good.fits good.held in (
          w.0,
          w.1,
          w.2,
          w.3,
          near_on s slots homes resolve (Alive b i) (λ _. ⊥) (Alive b (i + 1)) (λ _. ⊥) w.0 w.1 w.4
              (λ r n e out. (
                λ z. z,
                λ live. live_on f r (at b i) (below (at b i)) x stood (debug_defines x.kind (Register r) z)
                    (debug_edge f (at b i) x stood z) live,
              )),
        )

    debug_next : (b i : ℕ) (x : Item) (rest : List Item) → rf (at b i) ≡ x ∷ rest → rf (at b (i + 1)) ≡ rest
    debug_next b i x rest here = ((laid_out false blocks resolve).cons (at b i) x rest here).1

    -- the same standing, one index further
    debug_view : (b i : ℕ) (k k' : Stage) (x : Item) (rest : List Item) → rf (at b i) ≡ x ∷ rest → is_code x.kind ≡ false → IsQuiet (stands k) →
        stands k' ≡ stands k → MatchItems k' b rest (spilled_items s rest) →
        ((ys : List Item) (c d : Core) → MatchCores k b (x ∷ rest) ys c d → Near s slots (Alive b i) (λ _. ⊥) c d) →
        ((ys : List Item) (c d : Core) → Near s slots (Alive b (i + 1)) (λ _. ⊥) c d → MatchCores k' b rest ys c d) →
        Seen b k (x ∷ rest) (spilled_item s x ++ spilled_items s rest)
    debug_view b i k k' x rest here z quiet same rests near nears = by_kind x.kind refl where
      by_kind : (y : ItemKind) → x.kind ≡ y → Seen b k (x ∷ rest) (kind_items s y x.origin x.loc ++ spilled_items s rest)
      by_kind (Code ins n) e = let bad : false ≡ true = sym z ∙ ap is_code e in cc
      by_kind (Mark v m) e =
          paired {k' = k'} quiet same z refl rests
          (λ c d h. (let w = debug_falls b i x rest here z c d (near _ c d h) in
          (w.0, w.1, w.2, ap (λ (t : ItemKind). do_item g (debug_now s slots homes resolve t) d) (sym e) ∙ w.3, nears _ w.0 w.1 w.4)))
      by_kind (Phi q n) e =
          paired {k' = k'} quiet same z refl rests
          (λ c d h. (let w = debug_falls b i x rest here z c d (near _ c d h) in
          (w.0, w.1, w.2, ap (λ (t : ItemKind). do_item g (debug_now s slots homes resolve t) d) (sym e) ∙ w.3, nears _ w.0 w.1 w.4)))

    -- ---- all stages

    next_of : (x : Item) (xs : List Item) (t : Bool) → is_code x.kind ≡ t → next_code (x ∷ xs) ≡ cond t (Some (position_of x.origin)) (next_code xs)
    next_of x xs t e = ap (λ (z : Bool). cond z (Some (position_of x.origin)) (next_code xs)) e

    evenly_view : (b i : ℕ) (xs : List Item) → rf (at b i) ≡ xs → Seen b (Evenly i) xs (spilled_items s xs)
    evenly_view b i [] here = ended refl
    evenly_view b i (x ∷ rest) here =
        subst (Seen b (Evenly i) (x ∷ rest)) (sym (flat_map-cons (spilled_item s) x rest)) (by_kind x.kind refl) where
          by_kind : (y : ItemKind) → x.kind ≡ y → Seen b (Evenly i) (x ∷ rest) (spilled_item s x ++ spilled_items s rest)
          by_kind (Code ins num) e =
              let is : x ≡ old ins num x.origin x.loc = ap (λ (y : ItemKind). record { kind = y; origin = x.origin; loc = x.loc }) e in
              subst (λ (z : Item). Seen b (Evenly i) (z ∷ rest) (spilled_item s z ++ spilled_items s rest)) (sym is)
              (code_view b i ins num x.origin x.loc rest (here ∙ ap (λ (z : Item). z ∷ rest) is) (Evenly i) tt (λ ys c d h. h))
          by_kind (Mark v m) e =
              debug_view b i (Evenly i) (Evenly (i + 1)) x rest here (ap is_code e) tt refl (debug_next b i x rest here, refl) (λ ys c d h. h) (λ ys c d h. h)
          by_kind (Phi q n) e =
              debug_view b i (Evenly i) (Evenly (i + 1)) x rest here (ap is_code e) tt refl (debug_next b i x rest here, refl) (λ ys c d h. h) (λ ys c d h. h)

    early_view : (b i : ℕ) (p : Pos) (xs : List Item) → rf (at b i) ≡ xs → next_code xs ≡ Some p → Seen b (Early i p) xs (spilled_items s xs)
    early_view b i p [] here more = cc
    early_view b i p (x ∷ rest) here more =
        subst (Seen b (Early i p) (x ∷ rest)) (sym (flat_map-cons (spilled_item s) x rest)) (by_kind x.kind refl) where
          by_kind : (y : ItemKind) → x.kind ≡ y → Seen b (Early i p) (x ∷ rest) (spilled_item s x ++ spilled_items s rest)
          by_kind (Code ins num) e =
              let is : x ≡ old ins num x.origin x.loc = ap (λ (y : ItemKind). record { kind = y; origin = x.origin; loc = x.loc }) e in
              let w : Some (position_of x.origin) ≡ Some p = sym (next_of x rest true (ap is_code e)) ∙ more in
              let there : position_of x.origin ≡ p = cc in
              subst (λ (z : Item). Seen b (Early i p) (z ∷ rest) (spilled_item s z ++ spilled_items s rest)) (sym is)
              (code_view b i ins num x.origin x.loc rest (here ∙ ap (λ (z : Item). z ∷ rest) is) (Early i p) there (λ ys c d h. h))
          by_kind (Mark v m) e =
              debug_view b i (Early i p) (Early (i + 1) p) x rest here (ap is_code e) tt refl
              (debug_next b i x rest here, refl, sym (next_of x rest false (ap is_code e)) ∙ more) (λ ys c d h. h) (λ ys c d h. h)
          by_kind (Phi q n) e =
              debug_view b i (Early i p) (Early (i + 1) p) x rest here (ap is_code e) tt refl
              (debug_next b i x rest here, refl, sym (next_of x rest false (ap is_code e)) ∙ more) (λ ys c d h. h) (λ ys c d h. h)

    -- ---- stores

    some_is : (y : Option ℕ) → IsSome y → (v : ℕ) × (y ≡ Some v)
    some_is None h = cc
    some_is (Some v) h = (v, refl)

    store_since : (q : Pos) (r n : ℕ) → since_item count (added q (store r n)) ≡ Same
    store_since q r n = ap (λ (t : Bool). since_of (waits_at t (Before q))) (moves_on_less count (Code (store r n) None) refl)

    owed_view : (b i : ℕ) (p : Pos) (r n : ℕ) (xs : List Item) → rf (at b i) ≡ xs → slot_of s.homes r ≡ Some n →
        Seen b (Owes i p r n) xs (added (below p) (store s.first n) ∷ spilled_items s xs)
    owed_view b i p r n xs here home =
        behind {k' = Evenly i} {p = p} {y = added (below p) (store s.first n)} refl refl refl (store_since (below p) s.first n) refl (here, refl)
        (λ c d h. (let v = some_is (content c.regs r) h.2 in (
          record d { slots = updated n (Some v.0) d.slots },
          store_does s slots homes resolve g s.first n v.0 d (sym h.1 ∙ v.1),
          near_store s slots homes resolve (Alive b i) (λ q. q ≡ r) (λ _. ⊥) r n v.0 c d home v.1 (λ q out ne same. ne same) h.0,
        )))

    begun_store : (b : ℕ) (h : SlotAssignment) (hs : List SlotAssignment) (c d : Core) → slot_of s.homes h.register ≡ Some h.slot →
        h.register < 32 → Begun b (h ∷ hs) c d → (e : Core) × (do_item g (Code (store h.register h.slot) None) d ≡ Falls e) × Begun b hs c e
    begun_store b h hs c d home lt begun =
        let v = some_is (content c.regs h.register) (begun.written h.register lt) in (
          record d { slots = updated h.slot (Some v.0) d.slots },
          store_does s slots homes resolve g h.register h.slot v.0 d (sym (begun.regs h.register) ∙ v.1),
          record {
            near = near_store s slots homes resolve (Alive b 0) (λ q. (j : SlotAssignment) × Contains (h ∷ hs) j × (j.register ≡ q))
                (λ q. (j : SlotAssignment) × Contains hs j × (j.register ≡ q)) h.register h.slot v.0 c d home v.1 owes begun.near;
            regs = begun.regs;
            written = begun.written;
          },
        ) where
          owes : (q : ℕ) → ((j : SlotAssignment) × Contains hs j × (j.register ≡ q) → ⊥) → (q ≡ h.register → ⊥) →
              (j : SlotAssignment) × Contains (h ∷ hs) j × (j.register ≡ q) → ⊥
          owes q out ne (j, (zero, lt, e), is) = ne (sym (ap (λ (z : SlotAssignment). z.register) e ∙ is))
          owes q out ne (j, (suc k, lt, e), is) = out (j, (k, omega (arith, lt), e), is)

    module _ (start : s0.pos ≡ block_start (first_of blocks)) where
      opened_view : (b : ℕ) (h : SlotAssignment) (hs : List SlotAssignment) (xs : List Item) → b ≡ first_of blocks → rf (block_start b) ≡ xs →
          AreLive (h ∷ hs) →
          Seen b (Opened h hs) xs (added (block_start b) (store h.register h.slot) ∷ (entry_stores b hs ++ spilled_items s xs))
      opened_view b h [] xs first here live =
          opening {k' = Evenly 0} {y = added (block_start b) (store h.register h.slot)} refl refl (ap block_start first ∙ sym start)
          (store_since (block_start b) h.register h.slot) refl (here, refl)
          (λ c d k. (let w = begun_store b h [] c d (live h (contains_head h [])).0 (live h (contains_head h [])).1 k in (
            w.0,
            w.1,
            near_on s slots homes resolve (Alive b 0) (λ q. (j : SlotAssignment) × Contains [] j × (j.register ≡ q)) (Alive b 0) (λ _. ⊥) c w.0 w.2.near
                (λ r n e out. (λ owed. (let lt = owed.1.1 in omega (arith, lt)), λ z. z)),
          )))
      opened_view b h (h' ∷ hs) xs first here live =
          opening {k' = Opened h' hs} {y = added (block_start b) (store h.register h.slot)} refl refl (ap block_start first ∙ sym start)
          (store_since (block_start b) h.register h.slot) tt (first, here, refl, λ j k. live j (contains_tail h j (h' ∷ hs) k))
          (λ c d k. (let here = live h (contains_head h (h' ∷ hs)) in begun_store b h (h' ∷ hs) c d here.0 here.1 k))

      pub view : (k : Stage) (b : ℕ) (xs ys : List Item) → MatchItems k b xs ys → Seen b k xs ys
      view (Opened h hs) b xs ys w = subst (Seen b (Opened h hs) xs) (sym w.2) (opened_view b h hs xs w.0 w.1 w.3)
      view (Evenly i) b xs ys w = subst (Seen b (Evenly i) xs) (sym w.1) (evenly_view b i xs w.0)
      view (Early i p) b xs ys w = subst (Seen b (Early i p) xs) (sym w.1) (early_view b i p xs w.0 w.2)
      view (Half i p n) b xs ys w =
          let a = w.0 in
          subst (λ (z : List Item). Seen b (Half i p n) z ys) (sym a.here)
          (subst (Seen b (Half i p n) (old a.ins a.num a.o a.l ∷ a.rest)) (sym w.1)
          (second_of b i a.ins a.num a.o a.l a.rest (a.stands ∙ a.here) (Half i p n) a.pos w.2.0 n w.2.1 w.2.2 (λ ys c d h. h)))
      view (Ready i p) b xs ys w =
          let a = w.0 in
          subst (λ (z : List Item). Seen b (Ready i p) z ys) (sym a.here)
          (subst (Seen b (Ready i p) (old a.ins a.num a.o a.l ∷ a.rest)) (sym w.1)
          (tail_view b i a.ins a.num a.o a.l a.rest (a.stands ∙ a.here) (Ready i p) a.pos (λ ys c d h. (h.0, h.1.0, h.1.1))))
      view (Owes i p r n) b xs ys w = subst (Seen b (Owes i p r n) xs) (sym w.1) (owed_view b i p r n xs w.0 w.2)
