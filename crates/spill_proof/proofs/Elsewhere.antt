-- Where marks ask by phis, no mark asks for a register that goes elsewhere, and no phi for a scratch register.
use Rattle.std.proofs.Common.{◌≡◌, ℕ, List, [], ◌∷◌, All, Option, Some, None, Bool, true, false, cond, ◌||◌, nat_eq, eq-eqb, refl, sym}
use Rattle.std.proofs.Common.{◌∙◌}
use Rattle.std.proofs.lemmas.List.Elements.{All-nil, All-cons, All-append}
use Rattle.rv64_instr.specs.declared.place.Place.{Place}
use Rattle.rv64_instr.specs.declared.place.Place.TheVariants.{Register, Slot, Const}
use Rattle.mir_func.specs.declared.block.Block.{Block}
use Rattle.mir_func.specs.declared.item.Item.{Item}
use Rattle.mir_func.specs.declared.item.ItemKind.{ItemKind}
use Rattle.mir_func.specs.declared.item.ItemKind.TheVariants.{Code, Mark, Phi}
use Rattle.mir_func.specs.declared.location.Loc.{Loc}
use Rattle.mir_func.specs.declared.position.Origin.{Origin}
use Rattle.mir_func.specs.declared.variable.MarkValue.TheVariants.{Nothing, Constant, At, Pair}
use Rattle.mir_func.specs.declared.variable.VarId.{VarId}
use Rattle.mir_func.specs.Sound.{AllItems, HasForm}
use Rattle.pass_trait.specs.Rule.{item, item_before, first_operand}
use Rattle.spill_code.specs.declared.spilling.Spilling.{Spilling}
use Rattle.spill_code.specs.Rewrite.{slot_of}
use Rattle.spill_debug.specs.RewrittenDebugItems.{is_scratch, is_scratch_place, place_left, mark_asked}
use Rattle.spill_debug.specs.RewrittenDebugItems.{kind_asked, next_number, number_behind, items_asked, blocks_asked}
use Rattle.spill_debug.proofs.AskedSound.{each_block}
use Rattle.spill_select.specs.spill_simulation.MaySpill.{IsNoScratch}
use Rattle.spill_select.specs.spill_rule.Chosen.{AsksElsewhere}

module _ (s : Spilling) (apart : (r n : ℕ) → slot_of s.homes r ≡ Some n → IsNoScratch s r) where
  or_left : (a b : Bool) → (a || b) ≡ false → a ≡ false
  or_left true b e = cc
  or_left false b e = refl

  or_right : (a b : Bool) → (a || b) ≡ false → b ≡ false
  or_right true b e = cc
  or_right false b e = e

  none_of : (r q : ℕ) → nat_eq r q ≡ false → r ≡ q → ⊥
  none_of r q e is = (let bad : true ≡ false = sym (eq-eqb r q is) ∙ e in cc)

  pub no_scratch : (r : ℕ) → is_scratch s r ≡ false → IsNoScratch s r
  no_scratch r e = (
    none_of r s.first (or_left (nat_eq r s.first) (nat_eq r s.second) e),
    none_of r s.second
        (or_right (nat_eq r s.first) (nat_eq r s.second) e),
  )

  abbrev Each : Item → Type 0
  Each i = AsksElsewhere s i.kind

  one : (x : Item) → Each x → All Each (x ∷ [])
  one x h = All-cons Each x [] h (All-nil Each)

  value : (v : VarId) (r : ℕ) → slot_of s.homes r ≡ None → (z : Bool) → is_scratch s r ≡ z → AsksElsewhere s (Mark v (cond z Nothing (At r)))
  value v r home true e = tt
  value v r home false e = (home, no_scratch r e)

  mark : (k : ℕ) (v : VarId) (r : ℕ) (o : Origin) (l : Loc) (home : Option ℕ) → slot_of s.homes r ≡ home → All Each (mark_asked s k v r home o l)
  mark k v r o l None is = one (item (Mark v (cond (is_scratch s r) Nothing (At r))) o l) (value v r is (is_scratch s r) refl)
  mark k v r o l (Some n) is =
      All-cons Each (item_before (Phi (Some (Register r)) k) o) (item (Mark v (Pair (first_operand k))) o l ∷ []) (apart r n is)
      (one (item (Mark v (Pair (first_operand k))) o l) tt)

  place : (p : Place) (n : ℕ) (z : Bool) → is_scratch_place s p ≡ z → AsksElsewhere s (Phi (cond z None (Some p)) n)
  place p n true e = tt
  place (Register r) n false e = no_scratch r e
  place (Slot m) n false e = tt
  place (Const c) n false e = tt

  phi : (p : Option Place) (n : ℕ) → AsksElsewhere s (Phi (place_left s p) n)
  phi None n = tt
  phi (Some p) n = place p n (is_scratch_place s p) refl

  kind : (k : ℕ) (x : ItemKind) (o : Origin) (l : Loc) → All Each (kind_asked s k x o l)
  kind k (Code i n) o l = one (item (Code i n) o l) tt
  kind k (Phi p n) o l = one (item (Phi (place_left s p) n) o l) (phi p n)
  kind k (Mark v Nothing) o l = one (item (Mark v Nothing) o l) tt
  kind k (Mark v (Constant n)) o l = one (item (Mark v (Constant n)) o l) tt
  kind k (Mark v (Pair q)) o l = one (item (Mark v (Pair q)) o l) tt
  kind k (Mark v (At r)) o l = mark k v r o l (slot_of s.homes r) refl

  items : (k : ℕ) (xs : List Item) → All Each (items_asked s k xs)
  items k [] = All-nil Each
  items k (x ∷ xs) =
      All-append Each (kind_asked s k x.kind x.origin x.loc) (items_asked s (next_number s.homes k x.kind) xs) (kind k x.kind x.origin x.loc)
      (items (next_number s.homes k x.kind) xs)

  pub asks_elsewhere : (k : ℕ) (bs : List Block) → AllItems Each (blocks_asked s k bs)
  asks_elsewhere k [] = All-nil (λ (b : Block). All Each b.items)
  asks_elsewhere k (b ∷ bs) =
      All-cons (λ (c : Block). All Each c.items) (record { id = b.id; items = items_asked s k b.items; source_end = b.source_end })
      (blocks_asked s (number_behind s.homes k b.items) bs) (items k b.items) (asks_elsewhere (number_behind s.homes k b.items) bs)

pub forms_asked : (s : Spilling) (k : ℕ) (bs : List Block) → AllItems (λ i. HasForm i.kind) bs → AllItems (λ i. HasForm i.kind) (blocks_asked s k bs)
forms_asked s k bs h = each_block s (λ kind o. HasForm kind) (record { marks = λ v m m' o h. tt; phis = λ p n o h. tt; puts = λ v m r n o h. tt }) k bs h
