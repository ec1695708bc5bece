-- What becomes of an item.
use Rattle.std.proofs.Common.{◌≡◌, ℕ, suc, ◌+◌, ◌<◌, List, [], ◌∷◌, ◌++◌, Option, Some, None, Bool, true, false, cond, refl, sym, ap, ◌∙◌, subst}
use Rattle.std.proofs.Common.{append-nil, append_assoc}
use Rattle.std.proofs.lemmas.List.Concat.{flat_map-cons}
use Rattle.rv64_instr.specs.declared.operand.Operand.{Operand}
use Rattle.rv64_instr.specs.declared.place.Place.{Place}
use Rattle.rv64_instr.specs.declared.place.Place.TheVariants.{Register, Slot, Const}
use Rattle.rv64_instr.specs.Instruction.{Instruction}
use Rattle.mir_func.specs.declared.debug_substitution.DebugSubstitution.{DebugSubstitution}
use Rattle.mir_func.specs.declared.item.Item.{Item}
use Rattle.mir_func.specs.declared.item.ItemKind.{ItemKind}
use Rattle.mir_func.specs.declared.item.ItemKind.TheVariants.{Code, Mark, Phi}
use Rattle.mir_func.specs.declared.location.Loc.{Loc}
use Rattle.mir_func.specs.declared.position.Origin.{Origin}
use Rattle.mir_func.specs.declared.position.Origin.TheVariants.{Before}
use Rattle.mir_func.specs.declared.position.Pos.{Pos}
use Rattle.mir_func.specs.declared.variable.MarkValue.TheVariants.{Nothing, Constant, At, Pair}
use Rattle.mir_func.specs.declared.variable.VarId.{VarId}
use Rattle.mir_func.specs.Function.{Function}
use Rattle.mir_func.specs.Graph.{below}
use Rattle.mir_func.specs.Positions.{position_of}
use Rattle.sem_mir.specs.Align.{is_code}
use Rattle.pass_trait.specs.declared.loss.Loss.{Loss}
use Rattle.pass_trait.specs.declared.loss.Reason.{Reason}
use Rattle.pass_trait.specs.declared.loss.Reason.TheVariants.{Scratch}
use Rattle.pass_trait.specs.Change.{Change, change}
use Rattle.pass_trait.specs.Debug.{RegisterStays, Becomes, mark_stays, phi_stays, code_stays, code_unnumbered, mark_silenced, phi_silenced}
use Rattle.pass_trait.specs.Debug.{mark_spilled, phi_spilled}
use Rattle.pass_trait.specs.Debug.{BecomeAll, next, added_before, added_after}
use Rattle.pass_trait.specs.Rule.{Rule, item, item_before, first_operand, number_lost, mark_lost, StandsAt}
use Rattle.spill_code.specs.declared.spilling.SlotAssignment.{SlotAssignment}
use Rattle.spill_code.specs.declared.spilling.Spilling.{Spilling}
use Rattle.spill_code.specs.Rewrite.{slot_of, first_used, other_used, first_defined, spilled_code, load, store, added, loads, two_loads, stores, code_items}
use Rattle.spill_code.specs.Rewrite.{place_in, spilled_place, spilled_item, spilled_items}
use Rattle.spill_debug.specs.RewrittenDebugItems.{is_scratch, value_left, place_left, mark_asked, kind_asked}
use Rattle.spill_debug.specs.Lost.{LosesScratch, is_silent}
use Rattle.pass_trait.specs.Causes.{IsMore}
use Rattle.spill_proof.specs.Step.{AsksForHome, number_at}
use Rattle.spill_proof.proofs.Ruled.{IsRuled}
use Rattle.spill_proof.proofs.More.{count, Grows, Adds, one_added, more_loaded, more_behind_code}

module _ (rule : Rule) (f : Function) (subs : List DebugSubstitution) (new : Function) (s : Spilling) (first : ℕ)
    (ruled : IsRuled rule (change f subs new subs) s first) where
  abbrev pub c : Change
  c = change f subs new subs

  abbrev homes : List SlotAssignment
  homes = s.homes

  loses_by : (at : Pos) (x : ItemKind) (o : Origin) (l : Loc) (loss : Loss) → StandsAt f at (item x o l) → rule.loses c at loss → LosesScratch s x o loss
  loses_by = ruled.loses_by

  no_number : (at : Pos) (x : ItemKind) (o : Origin) (l : Loc) → StandsAt f at (item x o l) → (AsksForHome homes x → ⊥) → (n : ℕ) → rule.numbers c at n → ⊥
  no_number = ruled.no_number

  register_stays : (r : ℕ) → slot_of homes r ≡ None → RegisterStays rule c r
  register_stays = ruled.register_stays

  -- ---- code

  module _ (block n : ℕ) (xs : List Item) where
    abbrev Rest : ℕ → List Item → List Item → Type 0
    Rest m zs ys = BecomeAll rule c block m zs ys

    add_two : (m : ℕ) (zs : List Item) (y : Item) (ys : List Item) (os : List Operand) (z : Option ℕ) → is_code y.kind ≡ true →
        Adds c (two_loads s (position_of y.origin) os z) → Rest m zs (y ∷ ys) → Rest m zs (two_loads s (position_of y.origin) os z ++ (y ∷ ys))
    add_two m zs y ys os None code more h = h
    add_two m zs y ys os (Some k) code more h = by_second (other_used s.homes k os) more where
      p : Pos
      p = position_of y.origin

      head : Item
      head = added p (load s.first k)

      by_second : (z : Option ℕ) → Adds c (head ∷ loads p s.second z) → Rest m zs (head ∷ (loads p s.second z ++ (y ∷ ys)))
      by_second None grows = added_before {y = y} code (grows (Before p) (one_added p (load s.first k) [])) h
      by_second (Some j) grows =
          let second : Item = added p (load s.second j) in
          let more : IsMore c is_code (Before p) = grows (Before p) (one_added p (load s.first k) (second ∷ [])) in
          added_before {y = second} refl more (added_before {y = y} code more h)

    abbrev at : Pos
    at = record { block = block; item = n }

    code_becomes : (i j : Instruction) (k : Option ℕ) (o : Origin) (l : Loc) → StandsAt f at (item (Code i k) o l) →
        Becomes rule c at (item (Code i k) o l) (item (Code j k) o l ∷ [])
    code_becomes i j None o l there = code_unnumbered (no_number at (Code i None) o l there (λ h. h))
    code_becomes i j (Some k) o l there = code_stays (λ why h. loses_by at (Code i (Some k)) o l (number_lost k why) there h)

    -- the code itself, with its store
    code_stored : (i : Instruction) (k : Option ℕ) (o : Origin) (l : Loc) (ys : List Item) (z : Option ℕ) → StandsAt f at (item (Code i k) o l) →
        Adds c (stores (below (position_of o)) s.first z) → Rest (suc n) xs ys →
        Rest n (item (Code i k) o l ∷ xs) (item (Code (spilled_code s i) k) o l ∷ (stores (below (position_of o)) s.first z ++ ys))
    code_stored i k o l ys None there more rest = next (code_becomes i (spilled_code s i) k o l there) rest
    code_stored i k o l ys (Some d) there more rest =
        let p : Pos = below (position_of o) in
        added_after {y = item (Code (spilled_code s i) k) o l} refl (more (Before p) (one_added p (store s.first d) []))
        (code_becomes i (spilled_code s i) k o l there) rest

    code_all : (i : Instruction) (k : Option ℕ) (o : Origin) (l : Loc) (ys : List Item) → StandsAt f at (item (Code i k) o l) →
        Grows c (code_items s i k o l) (item (Code i k) o l ∷ []) → Rest (suc n) xs ys →
        Rest n (item (Code i k) o l ∷ xs) (code_items s i k o l ++ ys)
    code_all i k o l ys there more rest =
        let before : List Item = two_loads s (position_of o) i.operands (first_used s.homes i.operands) in
        let after : List Item = stores (below (position_of o)) s.first (first_defined s.homes i.operands) in
        let now : Item = item (Code (spilled_code s i) k) o l in
        subst (Rest n (item (Code i k) o l ∷ xs)) (sym (append_assoc before (now ∷ after) ys))
        (add_two n (item (Code i k) o l ∷ xs) now (after ++ ys) i.operands (first_used s.homes i.operands) refl
        (λ q lt. more q (more_loaded s q i k o l lt))
        (code_stored i k o l ys (first_defined s.homes i.operands) there
        (λ q lt. more q (more_behind_code s q i k o l lt)) rest))

    -- ---- debug items

    module _ (some : homes ≡ [] → ⊥) where
      -- what is lost of the item that stands there
      silenced : (x : ItemKind) (o : Origin) (l : Loc) (loss : Loss) → StandsAt f at (item x o l) → LosesScratch s x o loss → rule.loses c at loss
      silenced x o l loss there lost = ruled.silenced some at x o l loss there lost

      spilled_at : (r slot : ℕ) → slot_of homes r ≡ Some slot → rule.spills c r slot
      spilled_at r slot e = ruled.spilled_at r slot e

      mark_by : (v : VarId) (r : ℕ) (o : Origin) (l : Loc) (z : Bool) → is_scratch s r ≡ z → slot_of homes r ≡ None → StandsAt f at (item (Mark v (At r)) o l) →
          Becomes rule c at (item (Mark v (At r)) o l) (item (Mark v (cond z Nothing (At r))) o l ∷ [])
      mark_by v r o l true e none there =
          mark_silenced Scratch refl (silenced (Mark v (At r)) o l (mark_lost o Scratch) there (ap (is_silent s r) none ∙ e, refl))
      mark_by v r o l false e none there = mark_stays (λ why h.
          (let w = loses_by at (Mark v (At r)) o l (mark_lost o why) there h in
          let bad : true ≡ false = sym w.0 ∙ ap (is_silent s r) none ∙ e in cc)) (register_stays r none)

      phi_by : (r k : ℕ) (o : Origin) (l : Loc) (z : Bool) (home : Option ℕ) → is_scratch s r ≡ z → slot_of homes r ≡ home →
          StandsAt f at (item (Phi (Some (Register r)) k) o l) →
          Becomes rule c at (item (Phi (Some (Register r)) k) o l) (item (Phi (spilled_place homes (cond z None (Some (Register r)))) k) o l ∷ [])
      phi_by r k o l true home e is there =
          phi_silenced Scratch refl (silenced (Phi (Some (Register r)) k) o l (number_lost k Scratch) there (e, refl))
      phi_by r k o l false home e is there =
          subst (λ (h : Option ℕ). Becomes rule c at (item (Phi (Some (Register r)) k) o l) (item (Phi (Some (place_in r h)) k) o l ∷ [])) (sym is)
          (by_home home is) where
            kept : (why : Reason) → rule.loses c at (number_lost k why) → ⊥
            kept why h = (let w = loses_by at (Phi (Some (Register r)) k) o l (number_lost k why) there h in let bad : true ≡ false = sym w.0 ∙ e in cc)

            by_home : (h : Option ℕ) → slot_of homes r ≡ h → Becomes rule c at (item (Phi (Some (Register r)) k) o l)
                (item (Phi (Some (place_in r h)) k) o l ∷ [])
            by_home None is = phi_stays kept (register_stays r is)
            by_home (Some slot) is = phi_spilled kept (spilled_at r slot is)

      mark_two : (v : VarId) (r slot k : ℕ) (o : Origin) (l : Loc) → slot_of homes r ≡ Some slot → StandsAt f at (item (Mark v (At r)) o l) →
          k ≡ number_at homes first f.blocks at →
          Becomes rule c at (item (Mark v (At r)) o l) (item_before (Phi (Some (Slot slot)) k) o ∷ item (Mark v (Pair (first_operand k))) o l ∷ [])
      mark_two v r slot k o l is there number = mark_spilled
          (λ why h. (let w = loses_by at (Mark v (At r)) o l (mark_lost o why) there h in let bad : true ≡ false = sym w.0 ∙ ap (is_silent s r) is in cc))
          (spilled_at r slot is)
          (ruled.numbered at (Mark v (At r)) o l k there (slot, is) number)

      -- ---- all

      one_item : (x : Item) → spilled_items s (x ∷ []) ≡ spilled_item s x
      one_item x = flat_map-cons (spilled_item s) x [] ∙ append-nil (spilled_item s x)

      one_all : (x : ItemKind) (o : Origin) (l : Loc) (y : Item) (ys : List Item) → Becomes rule c at (item x o l) (spilled_item s y) → Rest (suc n) xs ys →
          Rest n (item x o l ∷ xs) (spilled_items s (y ∷ []) ++ ys)
      one_all x o l y ys how rest =
          subst (λ (zs : List Item). Rest n (item x o l ∷ xs) (zs ++ ys)) (sym (one_item y)) (next how rest)

      mark_all : (v : VarId) (r k : ℕ) (home : Option ℕ) (o : Origin) (l : Loc) (ys : List Item) → slot_of homes r ≡ home → StandsAt f at
          (item (Mark v (At r)) o l) →
          k ≡ number_at homes first f.blocks at → Rest (suc n) xs ys →
          Rest n (item (Mark v (At r)) o l ∷ xs) (spilled_items s (mark_asked s k v r home o l) ++ ys)
      mark_all v r k None o l ys is there number rest =
          one_all (Mark v (At r)) o l (item (Mark v (value_left s r)) o l) ys (mark_by v r o l (is_scratch s r) refl is there) rest
      mark_all v r k (Some slot) o l ys is there number rest =
          let phi : Item = item_before (Phi (Some (Register r)) k) o in
          let mark : Item = item (Mark v (Pair (first_operand k))) o l in
          let made : spilled_items s (phi ∷ mark ∷ []) ≡ item_before (Phi (Some (Slot slot)) k) o ∷ mark ∷ [] =
          flat_map-cons (spilled_item s) phi (mark ∷ []) ∙ (λ i. item_before (Phi (Some (place_in r (is i))) k) o ∷ one_item mark i) in
          subst (λ (zs : List Item). Rest n (item (Mark v (At r)) o l ∷ xs) (zs ++ ys)) (sym made) (next (mark_two v r slot k o l is there number) rest)

      phi_all : (p : Option Place) (k : ℕ) (o : Origin) (l : Loc) (ys : List Item) → StandsAt f at (item (Phi p k) o l) → Rest (suc n) xs ys →
          Rest n (item (Phi p k) o l ∷ xs) (spilled_items s (item (Phi (place_left s p) k) o l ∷ []) ++ ys)
      phi_all None k o l ys there rest =
          one_all (Phi None k) o l (item (Phi None k) o l) ys (phi_stays (λ why h. loses_by at (Phi None k) o l (number_lost k why) there h) tt) rest
      phi_all (Some (Register r)) k o l ys there rest =
          one_all (Phi (Some (Register r)) k) o l (item (Phi (place_left s (Some (Register r))) k) o l) ys
          (phi_by r k o l (is_scratch s r) (slot_of homes r) refl refl there) rest
      phi_all (Some (Slot m)) k o l ys there rest =
          one_all (Phi (Some (Slot m)) k) o l (item (Phi (Some (Slot m)) k) o l) ys
          (phi_stays (λ why h. loses_by at (Phi (Some (Slot m)) k) o l (number_lost k why) there h) tt) rest
      phi_all (Some (Const z)) k o l ys there rest =
          one_all (Phi (Some (Const z)) k) o l (item (Phi (Some (Const z)) k) o l) ys
          (phi_stays (λ why h. loses_by at (Phi (Some (Const z)) k) o l (number_lost k why) there h) tt) rest

      pub kind_all : (k : ℕ) (x : ItemKind) (o : Origin) (l : Loc) (ys : List Item) → StandsAt f at (item x o l) →
          k ≡ number_at homes first f.blocks at → Grows c (spilled_items s (kind_asked s k x o l)) (item x o l ∷ []) →
          Rest (suc n) xs ys → Rest n (item x o l ∷ xs) (spilled_items s (kind_asked s k x o l) ++ ys)
      kind_all k (Code i m) o l ys there number more rest =
          let x : Item = item (Code i m) o l in
          subst (λ (zs : List Item). Rest n (x ∷ xs) (zs ++ ys)) (sym (one_item x))
          (code_all i m o l ys there (λ q lt. more q (subst (λ (zs : List Item). count q (x ∷ []) < count q zs) (sym (one_item x)) lt)) rest)
      kind_all k (Phi p m) o l ys there number more rest = phi_all p m o l ys there rest
      kind_all k (Mark v Nothing) o l ys there number more rest =
          one_all (Mark v Nothing) o l (item (Mark v Nothing) o l) ys (mark_stays (λ why h. loses_by at (Mark v Nothing) o l (mark_lost o why) there h) tt) rest
      kind_all k (Mark v (Constant z)) o l ys there number more rest =
          one_all (Mark v (Constant z)) o l (item (Mark v (Constant z)) o l) ys
          (mark_stays (λ why h. loses_by at (Mark v (Constant z)) o l (mark_lost o why) there h) tt) rest
      kind_all k (Mark v (Pair q)) o l ys there number more rest =
          one_all (Mark v (Pair q)) o l (item (Mark v (Pair q)) o l) ys (mark_stays (λ why h. loses_by at (Mark v (Pair q)) o l (mark_lost o why) there h) tt)
          rest
      kind_all k (Mark v (At r)) o l ys there number more rest = mark_all v r k (slot_of homes r) o l ys refl there number rest
