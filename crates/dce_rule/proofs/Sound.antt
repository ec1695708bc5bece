-- A function without its dead code is a function still, and its code has the form of its opcodes.
use Rattle.std.proofs.Common.{◌≡◌, ℕ, zero, suc, ◌≤◌, List, [], ◌∷◌, ◌++◌, map, All, Some, Bool, true, false, cond, slice_get}
use Rattle.std.proofs.Common.{not, ◌&&◌, refl, sym, ap, ◌∙◌, subst, arith}
use Rattle.std.proofs.lemmas.List.{length-map}
use Rattle.std.proofs.lemmas.List.Elements.{All-map, All-weaker}
use Rattle.rv64_instr.specs.Instruction.{is_volatile_load}
use Rattle.rv64_instr.specs.Row.{Row, Jumps, Returns, Unfit, row_of}
use Rattle.mir_func.specs.declared.position.Pos.{Pos}
use Rattle.mir_func.specs.declared.position.Origin.{Origin}
use Rattle.mir_func.specs.declared.position.Origin.TheVariants.{Kept, Before}
use Rattle.mir_func.specs.declared.block.Block.{Block}
use Rattle.mir_func.specs.declared.item.Item.{Item}
use Rattle.mir_func.specs.declared.item.ItemKind.{ItemKind}
use Rattle.mir_func.specs.declared.item.ItemKind.TheVariants.{Code, Mark, Phi}
use Rattle.mir_func.specs.Function.{Function}
use Rattle.mir_func.specs.Sound.{AreApart, AllItems, ids_of, items_of, number_of, code_number, HasForm, KindPassesFirst}
use Rattle.mir_func.specs.Sound.{NumbersOnce, OriginIn, TargetsIn, SlotsIn, ObjectsIn, LeavesPointer}
use Rattle.mir_func.specs.Sound.{IsJumpAtMost, MayFollow, EndsWell, Closes, LastCloses, IsSound}
use Rattle.mir_func.specs.declared.exit.Exit.{Exit}
use Rattle.mir_func.specs.declared.exit.Exit.TheVariants.{Onward, Perhaps, Always, Final}
use Rattle.mir_func.specs.Exits.{row_exit, exit_of, IsAlways, Leaves}
use Rattle.mir_func.specs.Limits.{MAX_BLOCKS}
use Rattle.mir_func.specs.Successors.{pos_in}
use Rattle.pass_trait.proofs.NopSound.{always_leaves}
use Rattle.pass_edits.proofs.Numbers.{once_tail}
use Rattle.dce_rule.specs.Dead.{Places, Ends, is_dead_row, is_dead, needed_at}
use Rattle.dce_rule.specs.Wrong.{silenced, silenced_left, taken_out}
use Rattle.dce_rule.proofs.Lists.{quiet, quiet_is, taken}
use Rattle.dce_rule.proofs.Follows.{each_left}

-- ---- some of the items, silenced perhaps

-- some of the items, in their order, each silenced perhaps
pub data Left : List Item → List Item → Type 0 where
  none : Left [] []
  kept : {xs ys : List Item} (x : Item) (w : Places) → Left xs ys → Left (x ∷ xs) (quiet w x ∷ ys)
  gone : {xs ys : List Item} (x : Item) → Left xs ys → Left (x ∷ xs) ys

pub left_of : (wrong : ℕ → Places) (n : ℕ) (xs : List Item) (needed : Places) → Left xs (silenced_left wrong n xs needed)
left_of wrong n [] needed = none
left_of wrong n (x ∷ xs) needed = by_test (is_dead x.kind (needed_at xs needed)) (left_of wrong (suc n) xs needed) where
  by_test : (z : Bool) → Left xs (silenced_left wrong (suc n) xs needed) →
      Left (x ∷ xs) (cond z (silenced_left wrong (suc n) xs needed) (quiet (wrong n) x ∷ silenced_left wrong (suc n) xs needed))
  by_test true h = gone x h
  by_test false h = kept x (wrong n) h

left_append : {xs ys us vs : List Item} → Left xs ys → Left us vs → Left (xs ++ us) (ys ++ vs)
left_append none b = b
left_append (kept x w a) b = kept x w (left_append a b)
left_append (gone x a) b = gone x (left_append a b)

pub left_items : (wrong : Pos → Places) (ends : Ends) (bs : List Block) → Left (items_of bs) (items_of (map (taken wrong ends) bs))
left_items wrong ends [] = none
left_items wrong ends (b ∷ bs) = left_append (left_of (λ n. wrong (pos_in b.id n)) 0 b.items (ends b.id)) (left_items wrong ends bs)

-- ---- numbers

pub quiet_number : (w : Places) (k : ItemKind) → number_of (silenced w k) ≡ number_of k
quiet_number w k = quiet_is (λ z. number_of z ≡ number_of k) w k refl (λ v r e. sym (ap number_of e)) (λ y n e. sym (ap number_of e))

quiet_code_number : (w : Places) (k : ItemKind) → code_number (silenced w k) ≡ code_number k
quiet_code_number w k = quiet_is (λ z. code_number z ≡ code_number k) w k refl (λ v r e. sym (ap code_number e)) (λ y n e. sym (ap code_number e))

-- an item that is left stood somewhere
record Was (xs : List Item) (y : Item) : Type 0 where
  index : ℕ
  item : Item
  at : slice_get xs index ≡ Some item
  number : number_of y.kind ≡ number_of item.kind
  code : code_number y.kind ≡ code_number item.kind

was : {xs ys : List Item} → Left xs ys → (k : ℕ) (y : Item) → slice_get ys k ≡ Some y → Was xs y
was none k y e = cc
was (kept {xs = xs} x w more) zero y e =
    let same : quiet w x ≡ y = cc in
    record {
      index = 0;
      item = x;
      at = refl;
      number = sym (ap (λ (z : Item). number_of z.kind) same) ∙ quiet_number w x.kind;
      code = sym (ap (λ (z : Item). code_number z.kind) same) ∙ quiet_code_number w x.kind;
    }
was (kept x w more) (suc k) y e = let h = was more k y e in record { index = suc h.index; item = h.item; at = h.at; number = h.number; code = h.code }
was (gone x more) k y e = let h = was more k y e in record { index = suc h.index; item = h.item; at = h.at; number = h.number; code = h.code }

pub once_left : {xs ys : List Item} → Left xs ys → NumbersOnce xs → NumbersOnce ys
once_left none once = once
once_left (gone {xs = xs} x more) once = once_left more (once_tail x xs once)
once_left (kept {xs = xs} {ys = ys} x w more) once = by_index (once_left more (once_tail x xs once)) where
  by_index : NumbersOnce ys → NumbersOnce (quiet w x ∷ ys)
  by_index rest zero zero y z k at c at' n = refl
  by_index rest (suc i) (suc j) y z k at c at' n = let e = rest i j y z k at c at' n in omega (arith, e)
  by_index rest zero (suc j) y z k at c at' n =
      let same : quiet w x ≡ y = cc in
      let h = was more j z at' in
      let e : zero ≡ suc h.index = once zero (suc h.index) x h.item k refl
      (sym (quiet_code_number w x.kind) ∙ ap (λ (i : Item). code_number i.kind) same ∙ c) h.at (sym h.number ∙ n) in
      absurd (omega (arith, e))
  by_index rest (suc i) zero y z k at c at' n =
      let same : quiet w x ≡ z = cc in
      let h = was more i y at in
      let e : suc h.index ≡ zero = once (suc h.index) zero h.item x k h.at (sym h.code ∙ c) refl
      (sym (quiet_number w x.kind) ∙ ap (λ (i : Item). number_of i.kind) same ∙ n) in
      absurd (omega (arith, e))

-- ---- ends of blocks

leaving_stays : (k : ItemKind) (needed : Places) → Leaves (exit_of k) → is_dead k needed ≡ false
leaving_stays (Code i n) needed h = by_row (row_of i) h where
  by_row : (r : Row) → Leaves (row_exit r) → (is_dead_row r needed && not (is_volatile_load i)) ≡ false
  by_row (Jumps t) h = refl
  by_row (Returns v) h = refl
  by_row Unfit h = refl
  by_row _ h = absurd h
leaving_stays (Mark v m) needed h = absurd h
leaving_stays (Phi p m) needed h = absurd h

quiet_exit : (w : Places) (k : ItemKind) → exit_of (silenced w k) ≡ exit_of k
quiet_exit w k = quiet_is (λ z. exit_of z ≡ exit_of k) w k refl (λ v r e. sym (ap exit_of e)) (λ y n e. sym (ap exit_of e))

module _ (needed : Places) where
  -- the last item of a block stays where control leaves there
  alone : (wrong : ℕ → Places) (n : ℕ) (x : Item) → Leaves (exit_of x.kind) → silenced_left wrong n (x ∷ []) needed ≡ quiet (wrong n) x ∷ []
  alone wrong n x h = ap (λ (z : Bool). cond z [] (quiet (wrong n) x ∷ [])) (leaving_stays x.kind needed h)

  may_follow : (wrong : ℕ → Places) (n : ℕ) (e : Exit) (xs : List Item) → MayFollow e xs → MayFollow e (silenced_left wrong n xs needed)
  may_follow wrong n Onward xs h = tt
  may_follow wrong n (Perhaps m) [] h = tt
  may_follow wrong n (Perhaps m) (x ∷ []) h = subst IsJumpAtMost (sym (alone wrong n x (always_leaves (exit_of x.kind) h)))
      (subst IsAlways (sym (quiet_exit (wrong n) x.kind)) h)
  may_follow wrong n (Perhaps m) (x ∷ y ∷ rest) h = absurd h
  may_follow wrong n (Always m) xs h = ap (λ (ys : List Item). silenced_left wrong n ys needed) h
  may_follow wrong n Final xs h = ap (λ (ys : List Item). silenced_left wrong n ys needed) h

  ends_left : (wrong : ℕ → Places) (n : ℕ) (xs : List Item) → EndsWell xs → EndsWell (silenced_left wrong n xs needed)
  ends_left wrong n [] h = tt
  ends_left wrong n (x ∷ xs) h = by_test (is_dead x.kind (needed_at xs needed)) (ends_left wrong (suc n) xs h.1) where
    by_test : (z : Bool) → EndsWell (silenced_left wrong (suc n) xs needed) →
        EndsWell (cond z (silenced_left wrong (suc n) xs needed) (quiet (wrong n) x ∷ silenced_left wrong (suc n) xs needed))
    by_test true k = k
    by_test false k = (
      subst (λ (e : Exit). MayFollow e (silenced_left wrong (suc n) xs needed)) (sym (quiet_exit (wrong n) x.kind))
          (may_follow wrong (suc n) (exit_of x.kind) xs h.0),
      k,
    )

  closes_more : (x : Item) (ys : List Item) → Closes ys → Closes (x ∷ ys)
  closes_more x [] h = absurd h
  closes_more x (y ∷ ys) h = h

  closes_left : (wrong : ℕ → Places) (n : ℕ) (xs : List Item) → Closes xs → Closes (silenced_left wrong n xs needed)
  closes_left wrong n [] h = absurd h
  closes_left wrong n (x ∷ []) h = subst Closes (sym (alone wrong n x h)) (subst Leaves (sym (quiet_exit (wrong n) x.kind)) h)
  closes_left wrong n (x ∷ y ∷ rest) h = by_test (is_dead x.kind (needed_at (y ∷ rest) needed)) (closes_left wrong (suc n) (y ∷ rest) h) where
    by_test : (z : Bool) → Closes (silenced_left wrong (suc n) (y ∷ rest) needed) →
        Closes (cond z (silenced_left wrong (suc n) (y ∷ rest) needed) (quiet (wrong n) x ∷ silenced_left wrong (suc n) (y ∷ rest) needed))
    by_test true k = k
    by_test false k = closes_more (quiet (wrong n) x) (silenced_left wrong (suc n) (y ∷ rest) needed) k

module _ (wrong : Pos → Places) (ends : Ends) where
  pub ids_taken : (bs : List Block) → ids_of (map (taken wrong ends) bs) ≡ ids_of bs
  ids_taken [] = refl
  ids_taken (b ∷ bs) = ap (λ (ns : List ℕ). b.id ∷ ns) (ids_taken bs)

  last_left : (bs : List Block) → LastCloses bs → LastCloses (map (taken wrong ends) bs)
  last_left [] h = absurd h
  last_left (b ∷ []) h = closes_left (ends b.id) (λ n. wrong (pos_in b.id n)) 0 b.items h
  last_left (b ∷ c ∷ rest) h = last_left (c ∷ rest) h

  -- what holds of a kind of item whatever a mark or a phi asks for
  each_kind : (P : ItemKind → Type 0) → ((w : Places) (k : ItemKind) → P k → P (silenced w k)) → (bs : List Block) → AllItems (λ i. P i.kind) bs →
      AllItems (λ i. P i.kind) (map (taken wrong ends) bs)
  each_kind P f bs h = each_left wrong ends (λ b i. P i.kind) (λ b i. P i.kind) (λ b w x k. f w x.kind k) bs h

  origin_taken : (b : Block) (o : Origin) → OriginIn b o → OriginIn (taken wrong ends b) o
  origin_taken b (Kept p) h = h
  origin_taken b (Before p) h = h

  pub sound_taken : (f : Function) → IsSound f → IsSound (taken_out wrong ends f)
  sound_taken f s =
      let new : List Block = map (taken wrong ends) f.blocks in
      let ids : ids_of new ≡ ids_of f.blocks = ids_taken f.blocks in
      record {
        blocks_apart = subst (λ (ns : List ℕ). AreApart ns) (sym ids) s.blocks_apart;
        slots_apart = s.slots_apart;
        objects_apart = s.objects_apart;
        few_blocks = subst (λ (n : ℕ). n ≤ MAX_BLOCKS) (sym (length-map f.blocks (taken wrong ends))) s.few_blocks;
        few_slots = s.few_slots;
        each_object = s.each_object;
        objects_laid = s.objects_laid;
        targets = subst (λ (ns : List ℕ). All (λ (b : Block). All (λ (i : Item). TargetsIn ns i.kind) b.items) new) (sym ids)
            (each_kind (TargetsIn (ids_of f.blocks)) (λ w k h. quiet_is (TargetsIn (ids_of f.blocks)) w k h (λ v r e. tt) (λ y n e. tt)) f.blocks s.targets);
        slots = each_kind (SlotsIn f.slots) (λ w k h. quiet_is (SlotsIn f.slots) w k h (λ v r e. tt) (λ y n e. tt)) f.blocks s.slots;
        passed = each_kind (KindPassesFirst f.slots) (λ w k h. quiet_is (KindPassesFirst f.slots) w k h (λ v r e. tt) (λ y n e. tt)) f.blocks s.passed;
        objects = each_kind (ObjectsIn f.objects) (λ w k h. quiet_is (ObjectsIn f.objects) w k h (λ v r e. tt) (λ y n e. tt)) f.blocks s.objects;
        pointer = each_kind LeavesPointer (λ w k h. quiet_is LeavesPointer w k h (λ v r e. tt) (λ y n e. tt)) f.blocks s.pointer;
        numbers = once_left (left_items wrong ends f.blocks) s.numbers;
        origins = each_left wrong ends (λ b i. OriginIn b i.origin) (λ b i. OriginIn b i.origin) (λ b w x h. origin_taken b x.origin h) f.blocks s.origins;
        ends = All-map (λ (b : Block). EndsWell b.items) (taken wrong ends) f.blocks
            (All-weaker (λ (b : Block). EndsWell b.items) (λ (b : Block). EndsWell (silenced_left (λ n. wrong (pos_in b.id n)) 0 b.items (ends b.id)))
            (λ b h. ends_left (ends b.id) (λ n. wrong (pos_in b.id n)) 0 b.items h) f.blocks s.ends);
        last = last_left f.blocks s.last;
      }

  pub forms_taken : (f : Function) → AllItems (λ i. HasForm i.kind) f.blocks → AllItems (λ i. HasForm i.kind) (taken_out wrong ends f).blocks
  forms_taken f h = each_kind HasForm (λ w k g. quiet_is HasForm w k g (λ v r e. tt) (λ y n e. tt)) f.blocks h
