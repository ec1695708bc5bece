-- How the blocks of a function with its frame end, and how they give the frame back.
use Rattle.std.proofs.Common.{◌≡◌, ℕ, zero, suc, ◌+◌, ◌*◌, ◌<◌, pos, List, [], ◌∷◌, ◌++◌, map, length, All, slice_index, None}
use Rattle.std.proofs.Common.{Bool, true, false, cond, nat_lt, ◌&&◌, refl, sym, ap, ◌∙◌, subst, append_assoc, append-nil, arith}
use Rattle.std.specs.List.Sorted.{IsStrictlyIncreasing}
use Rattle.std.proofs.lemmas.Bool.{and_parts, ltb-true}
use Rattle.std.proofs.lemmas.List.Concat.{flat_map-cons}
use Rattle.std.proofs.lemmas.List.Kept.{IsStrictlyIncreasing-filter}
use Rattle.std.proofs.lemmas.List.Elements.{All-nil, All-cons, All-head, All-tail, All-append}
use Rattle.rv64_instr.specs.Arithmetic.{word}
use Rattle.rv64_instr.specs.Instruction.{Instruction}
use Rattle.rv64_instr.specs.Row.{Row, Jumps, row_of}
use Rattle.mir_func.specs.declared.block.Block.{Block}
use Rattle.mir_func.specs.declared.exit.Exit.{Exit}
use Rattle.mir_func.specs.declared.exit.Exit.TheVariants.{Onward, Perhaps, Always, Final}
use Rattle.mir_func.specs.declared.framed.SavedRegister.{SavedRegister}
use Rattle.mir_func.specs.declared.item.Item.{Item}
use Rattle.mir_func.specs.declared.item.ItemKind.{ItemKind}
use Rattle.mir_func.specs.declared.item.ItemKind.TheVariants.{Code, Mark, Phi}
use Rattle.mir_func.specs.declared.position.Origin.{Origin}
use Rattle.mir_func.specs.declared.position.Origin.TheVariants.{Before}
use Rattle.mir_func.specs.Exits.{exit_of, IsAlways, Leaves, row_exit, row_leads_back, leads_back}
use Rattle.mir_func.specs.Function.{Function}
use Rattle.mir_func.specs.Sound.{IsNotPointer, LeavesPointer, IsJumpAtMost, MayFollow, EndsWell, Closes, LastCloses}
use Rattle.mir_func.specs.SoundFrame.{SAVED, adds_to_pointer, restores, epilogue_code, AreCode, IsBody, GivesBack, goes_on, returns}
use Rattle.mir_func.proofs.Leading.{leads_out}
use Rattle.mir_func.specs.Positions.{position_of}
use Rattle.frame_rule.specs.Rule.{saved_places, saved_registers, is_set, saved_of, size_of, added, added_all, renamed_operand, renamed_kind}
use Rattle.frame_rule.specs.Rule.{renamed, framed_item, framed_items, framed_block}
use Rattle.frame_rule.proofs.Parts.{kind_exit, operand_apart, mapped, adds_exit, kind_leads}

-- ---- saved registers ascend

rises : List ℕ → Bool
rises [] = true
rises (x ∷ []) = true
rises (x ∷ y ∷ rest) = nat_lt x y && rises (y ∷ rest)

by_rising : (xs : List ℕ) → rises xs ≡ true → IsStrictlyIncreasing xs
unfolding rises
by_rising [] h k lt = absurd (omega (arith, lt))
by_rising (x ∷ []) h k lt = absurd (omega (arith, lt))
by_rising (x ∷ y ∷ rest) h zero lt = ltb-true x y (and_parts (nat_lt x y) (rises (y ∷ rest)) h).0
by_rising (x ∷ y ∷ rest) h (suc k) lt =
    let e : suc k + 1 ≡ suc (k + 1) = omega arith in
    let more = by_rising (y ∷ rest) (and_parts (nat_lt x y) (rises (y ∷ rest)) h).1 k (omega (arith, lt)) in
    subst (λ (n : ℕ). slice_index (y ∷ rest) k < slice_index (x ∷ y ∷ rest) n) (sym e) more

saved_rise : IsStrictlyIncreasing SAVED
unfolding rises
saved_rise = by_rising SAVED refl

registers_are : (o : ℕ) (rs : List ℕ) → map (λ s. s.register) (saved_places o rs) ≡ rs
registers_are o [] = refl
registers_are o (r ∷ rs) = ap (λ (z : List ℕ). r ∷ z) (registers_are (o + 8) rs)

pub saved_ascend : (f : Function) → IsStrictlyIncreasing (map (λ s. s.register) (saved_of f))
saved_ascend f =
    subst IsStrictlyIncreasing (sym (registers_are (8 * length f.slots) (saved_registers f.blocks))) (IsStrictlyIncreasing-filter (is_set f.blocks) SAVED
    saved_rise)

-- ---- code that is added

pub are_code : (o : Origin) (code : List Instruction) → AreCode (map (added o) code) code
are_code o [] = refl
are_code o (c ∷ code) = let w = are_code o code in λ i. Code c None ∷ w i

closes_last : (ys : List Item) (y : Item) → Leaves (exit_of y.kind) → Closes (ys ++ y ∷ [])
closes_last [] y h = h
closes_last (x ∷ []) y h = h
closes_last (x ∷ z ∷ ys) y h = closes_last (z ∷ ys) y h

closes_before : (ys zs : List Item) → Closes zs → Closes (ys ++ zs)
closes_before [] zs h = h
closes_before (y ∷ []) [] h = absurd h
closes_before (y ∷ []) (z ∷ zs) h = h
closes_before (y ∷ x ∷ ys) zs h = closes_before (x ∷ ys) zs h

ends_from : (o : Origin) (n : ℕ) (ss : List SavedRegister) (ys : List Item) → EndsWell ys →
    EndsWell (map (added o) (map restores ss ++ adds_to_pointer (pos n) ∷ []) ++ ys)
ends_from o n [] ys h = (subst (λ (e : Exit). MayFollow e ys) (sym (adds_exit (word (pos n)))) tt, h)
ends_from o n (s ∷ ss) ys h = (tt, ends_from o n ss ys h)

prepends : (code : List Instruction) (y : Item) (ys : List Item) → IsBody y → GivesBack code ys → GivesBack code (y ∷ ys)
prepends code y ys h (goes_on all) = goes_on (All-cons IsBody y ys h all)
prepends code y ys h (returns body given last all are final leaves) = returns (y ∷ body) given last (All-cons IsBody y body h all) are final leaves

leaves_still : (slots : List ℕ) (k : ItemKind) → LeavesPointer k → LeavesPointer (renamed_kind slots k)
leaves_still slots (Code i n) h = mapped IsNotPointer (renamed_operand slots) (operand_apart slots) i.operands h
leaves_still slots (Mark v m) h = tt
leaves_still slots (Phi p n) h = tt

module _ (f : Function) where
  abbrev size : ℕ
  size = size_of f

  abbrev saved : List SavedRegister
  saved = saved_of f

  abbrev left : Origin → List Item
  left o = added_all size (Before (position_of o)) (epilogue_code size saved)

  -- how an item begins the items of a block: itself, or with the epilogue before it
  cons_is : (x : Item) (xs : List Item) → framed_items f (x ∷ xs) ≡ (cond (leads_back x.kind) (left x.origin) [] ++ renamed f.slots x ∷ []) ++
      framed_items f xs
  cons_is x xs = flat_map-cons (framed_item f) x xs

  plain_is : (x : Item) (xs : List Item) → leads_back x.kind ≡ false → framed_items f (x ∷ xs) ≡ renamed f.slots x ∷ framed_items f xs
  plain_is x xs h = cons_is x xs ∙ ap (λ (b : Bool). (cond b (left x.origin) [] ++ renamed f.slots x ∷ []) ++ framed_items f xs) h

  final_is : (x : Item) (xs : List Item) → leads_back x.kind ≡ true → framed_items f (x ∷ xs) ≡ left x.origin ++ renamed f.slots x ∷ framed_items f xs
  final_is x xs h =
      cons_is x xs ∙ ap (λ (b : Bool). (cond b (left x.origin) [] ++ renamed f.slots x ∷ []) ++ framed_items f xs) h
      ∙ append_assoc (left x.origin) (renamed f.slots x ∷ []) (framed_items f xs)

  -- ---- ends

  ends_all : (n : ℕ) (o : Origin) (ys : List Item) → EndsWell ys → EndsWell (added_all n o (epilogue_code size saved) ++ ys)
  ends_all zero o ys h = h
  ends_all (suc n) o ys h = ends_from o size saved ys h

  jump_at_most : (xs : List Item) → IsJumpAtMost xs → IsJumpAtMost (framed_items f xs)
  jump_at_most [] h = tt
  jump_at_most (j ∷ []) h = subst IsJumpAtMost (sym (plain_is j [] (by_exit j.kind h))) (subst IsAlways (sym (kind_exit f.slots j.kind)) h) where
    by_row : (r : Row) → IsAlways (row_exit r) → row_leads_back r ≡ false
    by_row (Jumps target) h = refl
    by_row _ h = absurd h

    by_exit : (k : ItemKind) → IsAlways (exit_of k) → leads_back k ≡ false
    by_exit (Code c n) h = by_row (row_of c) h
    by_exit (Mark v m) h = absurd h
    by_exit (Phi p n) h = absurd h
  jump_at_most (j ∷ k ∷ rest) h = absurd h

  may_follow : (e : Exit) (xs : List Item) → MayFollow e xs → MayFollow e (framed_items f xs)
  may_follow Onward xs h = tt
  may_follow (Perhaps n) xs h = jump_at_most xs h
  may_follow (Always n) xs h = ap (framed_items f) h
  may_follow Final xs h = ap (framed_items f) h

  pub ends_well : (xs : List Item) → EndsWell xs → EndsWell (framed_items f xs)
  ends_well [] h = tt
  ends_well (x ∷ xs) h = by_exit (leads_back x.kind) refl (ends_well xs h.1) where
    next : EndsWell (framed_items f xs) → EndsWell (renamed f.slots x ∷ framed_items f xs)
    next more = (subst (λ (e : Exit). MayFollow e (framed_items f xs)) (sym (kind_exit f.slots x.kind)) (may_follow (exit_of x.kind) xs h.0), more)

    by_exit : (z : Bool) → leads_back x.kind ≡ z → EndsWell (framed_items f xs) → EndsWell (framed_items f (x ∷ xs))
    by_exit false z more = subst EndsWell (sym (plain_is x xs z)) (next more)
    by_exit true z more = subst EndsWell (sym (final_is x xs z)) (ends_all size (Before (position_of x.origin)) (renamed f.slots x ∷ framed_items f xs) (next
        more))

  closes : (xs : List Item) → Closes xs → Closes (framed_items f xs)
  closes [] h = absurd h
  closes (x ∷ []) h =
      subst Closes (sym (cons_is x [])) (subst Closes (sym (append-nil (cond (leads_back x.kind) (left x.origin) [] ++ renamed f.slots x ∷ [])))
      (closes_last (cond (leads_back x.kind) (left x.origin) []) (renamed f.slots x) (subst Leaves (sym (kind_exit f.slots x.kind)) h)))
  closes (x ∷ y ∷ rest) h =
      subst Closes (sym (cons_is x (y ∷ rest)))
      (closes_before (cond (leads_back x.kind) (left x.origin) [] ++ renamed f.slots x ∷ []) (framed_items f (y ∷ rest)) (closes (y ∷ rest) h))

  pub last_closes : (bs : List Block) → LastCloses bs → LastCloses (map (framed_block f) bs)
  last_closes [] h = h
  last_closes (b ∷ []) h = closes b.items h
  last_closes (b ∷ c ∷ rest) h = last_closes (c ∷ rest) h

  -- ---- the frame is given back

  body_is : (x : Item) → LeavesPointer x.kind → leads_back x.kind ≡ false → IsBody (renamed f.slots x)
  body_is x h z = record {
    pointer = leaves_still f.slots x.kind h;
    stays = kind_leads f.slots x.kind ∙ z;
  }

  pub gives_back : (n : ℕ) → size ≡ suc n → (xs : List Item) → All (λ i. LeavesPointer i.kind) xs → EndsWell xs →
      GivesBack (epilogue_code size saved) (framed_items f xs)
  gives_back n made [] leaves ends = goes_on (All-nil IsBody)
  gives_back n made (x ∷ xs) leaves ends =
      by_exit (leads_back x.kind) refl (gives_back n made xs (All-tail (λ (i : Item). LeavesPointer i.kind) x xs leaves) ends.1) where
        here : LeavesPointer x.kind
        here = All-head (λ (i : Item). LeavesPointer i.kind) x xs leaves

        by_exit : (z : Bool) → leads_back x.kind ≡ z → GivesBack (epilogue_code size saved) (framed_items f xs) →
            GivesBack (epilogue_code size saved) (framed_items f (x ∷ xs))
        by_exit false z more = subst (GivesBack (epilogue_code size saved)) (sym (plain_is x xs z)) (prepends (epilogue_code size saved) _ _ (body_is x here z)
            more)
        by_exit true z more =
            let final : exit_of x.kind ≡ Final = leads_out x.kind z in
            let over : xs ≡ [] = subst (λ (e : Exit). MayFollow e xs) final ends.0 in
            let code : List Item = map (added (Before (position_of x.origin))) (epilogue_code size saved) in
            let is_left : left x.origin ≡ code = ap (λ (m : ℕ). added_all m (Before (position_of x.origin)) (epilogue_code size saved)) made in
            let e : framed_items f (x ∷ xs) ≡ code ++ renamed f.slots x ∷ [] =
            final_is x xs z ∙ (λ i. is_left i ++ renamed f.slots x ∷ framed_items f (over i)) in
            subst (GivesBack (epilogue_code size saved)) (sym e)
            (returns [] code (renamed f.slots x) (All-nil IsBody) (are_code (Before (position_of x.origin)) (epilogue_code size saved))
            (kind_leads f.slots x.kind ∙ z) (leaves_still f.slots x.kind here))

  pub leaves_all : (xs : List Item) → size ≡ 0 → All (λ i. LeavesPointer i.kind) xs → All (λ i. LeavesPointer i.kind) (framed_items f xs)
  leaves_all [] none h = All-nil (λ (i : Item). LeavesPointer i.kind)
  leaves_all (x ∷ xs) none h =
      let P : Item → Type 0 = λ i. LeavesPointer i.kind in
      subst (All P) (sym (cons_is x xs)) (All-append P (cond (leads_back x.kind) (left x.origin) [] ++ renamed f.slots x ∷ []) (framed_items f xs)
      (All-append P (cond (leads_back x.kind) (left x.origin) []) (renamed f.slots x ∷ []) (by_exit (leads_back x.kind))
      (All-cons P (renamed f.slots x) [] (leaves_still f.slots x.kind (All-head P x xs h)) (All-nil P))) (leaves_all xs none (All-tail P x xs h))) where
        by_exit : (z : Bool) → All (λ i. LeavesPointer i.kind) (cond z (left x.origin) [])
        by_exit false = All-nil (λ (i : Item). LeavesPointer i.kind)
        by_exit true =
            subst (All (λ (i : Item). LeavesPointer i.kind))
            (sym (ap (λ (m : ℕ). added_all m (Before (position_of x.origin)) (epilogue_code size saved)) none)) (All-nil (λ (i : Item). LeavesPointer i.kind))
