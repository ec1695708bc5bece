-- The tokens after items, by what stood before them.
-- Registers and slots go row by row; pairs, marks and phis pick one value out. A list of items is one item after the other.
use Rattle.std.proofs.Common.{◌≡◌, ℕ, zero, suc, ◌+◌, List, [], ◌∷◌, Option, Some, None, Bool, true, false, cond, refl, sym, ap, ◌∙◌}
use Rattle.std.proofs.Common.{eqb, arith}
use Rattle.std.specs.Prelude.{slice_get, ◌||◌}
use Rattle.std.specs.List.{list_any}
use Rattle.std.proofs.lemmas.Bool.{eqb-true, ne_eqb}
use Rattle.rv64_instr.specs.declared.operand.Operand.{Operand}
use Rattle.rv64_instr.specs.declared.place.Place.{Place}
use Rattle.rv64_instr.specs.declared.place.Place.TheVariants.{Register, Slot, Const}
use Rattle.rv64_instr.specs.Row.{Row, Fixes, Moves, Sets, Addresses, Loads, LoadsSlot, StoresSlot, Calls, row_of}
use Rattle.rv64_instr.specs.DefsAndUses.{caller_saved}
use Rattle.rv64_instr.specs.LocationEffects.{is_call}
use Rattle.mir_func.specs.declared.debug_substitution.OperandPair.{OperandPair}
use Rattle.mir_func.specs.declared.variable.MarkValue.{MarkValue}
use Rattle.mir_func.specs.declared.variable.MarkValue.TheVariants.{Nothing, Constant, At, Pair}
use Rattle.mir_func.specs.declared.item.Item.{Item}
use Rattle.mir_func.specs.declared.item.ItemKind.{ItemKind}
use Rattle.mir_func.specs.declared.item.ItemKind.TheVariants.{Code, Mark, Phi}
use Rattle.mir_func.specs.Variables.{is_same, overlaps}
use Rattle.sem_mir.specs.State.{updated, assigned}
use Rattle.sem_mir.specs.Step.{defined}
use Rattle.sem_mir.specs.ValueId.{Token, Made, Fixed, Tokens, register_token, put_token, make_all, moved_tokens, sets_pointer, code_tokens}
use Rattle.sem_mir.specs.ValueId.{given_token, numbered_tokens, place_token, pair_token, mark_token, after_item}
use Rattle.sem_value_ids.specs.Pullback.{Tracked, InRegister, InSlot, OfPair, OfVariable, OfNumber, token_of, Back, Was, New, Nameless, token_back}
use Rattle.sem_value_ids.specs.Pullback.{put_back, back_register, slot_stored, back_row, given_back, back_place, back_pair, back_value}
use Rattle.sem_value_ids.specs.Pullback.{back, through, back_over, after_items, TokensPullBack}

token_cond : (n : ℕ) (z : Bool) (t : Tokens) (x y : Option Token) (b c : Back) → x ≡ token_back n t b → y ≡ token_back n t c →
    cond z x y ≡ token_back n t (cond z b c)
token_cond n true t x y b c e f = e
token_cond n false t x y b c e f = f

-- ---- registers

token_put : (n rd : ℕ) (b : Back) (t : Tokens) (r : ℕ) → register_token (put_token rd (token_back n t b) t.regs) r ≡ token_back n t (put_back rd b r)
token_put n rd b t zero =
    elim rd as (λ z. register_token (put_token z (token_back n t b) t.regs) zero ≡ Some (Fixed 0)) [ zero ↦ refl | suc k ↦ refl ]
token_put n zero b t (suc r) = refl
token_put n (suc rd) b t (suc r) =
    token_cond n (eqb (suc r) (suc rd)) t (cond (eqb rd 1) None (token_back n t b)) (t.regs (suc r)) (cond (eqb rd 1) Nameless b) (Was (InRegister (suc r)))
    (token_cond n (eqb rd 1) t None (token_back n t b) Nameless b refl refl) refl

-- one register that is made, seen from another one
token_put_made : (n q : ℕ) (tr : ℕ → Option Token) (r : ℕ) → (r ≡ 2 → ⊥) → (r ≡ 0 → ⊥) →
    register_token (put_token q (Some (Made n q)) tr) r ≡ cond (eqb r q) (Some (Made n r)) (register_token tr r)
token_put_made n q tr zero not2 not0 = absurd (not0 refl)
token_put_made n zero tr (suc r) not2 not0 = ap (λ (z : Bool). cond z (Some (Made n (suc r))) (tr (suc r))) (sym (ne_eqb (suc r) 0 not0))
token_put_made n (suc q) tr (suc r) not2 not0 = by_case (eqb (suc r) (suc q)) refl where
  by_case : (z : Bool) → eqb (suc r) (suc q) ≡ z →
      cond z (cond (eqb q 1) None (Some (Made n (suc q)))) (tr (suc r)) ≡ cond z (Some (Made n (suc r))) (tr (suc r))
  by_case false k = refl
  by_case true k =
      let e : suc r ≡ suc q = eqb-true (suc r) (suc q) k in
      let ne : q ≡ 1 → ⊥ = λ same. not2 (omega (arith, e, same)) in
      ap (λ (z : Bool). cond z None (Some (Made n (suc q)))) (ne_eqb q 1 ne) ∙ ap (λ (z : ℕ). Some (Made n z)) (sym e)

either : (a b : Bool) (x y : Option Token) → cond b x (cond a x y) ≡ cond (a || b) x y
either true true x y = refl
either true false x y = refl
either false true x y = refl
either false false x y = refl

-- the registers that a call makes, whatever had tokens before
token_made : (n : ℕ) (rs : List ℕ) (tr : ℕ → Option Token) (r : ℕ) → (r ≡ 2 → ⊥) → (r ≡ 0 → ⊥) →
    register_token (make_all n rs tr) r ≡ cond (list_any (λ q. eqb r q) rs) (Some (Made n r)) (register_token tr r)
token_made n [] tr r not2 not0 = refl
token_made n (q ∷ rs) tr r not2 not0 =
    token_made n rs (put_token q (Some (Made n q)) tr) r not2 not0
    ∙ ap (λ (z : Option Token). cond (list_any (λ j. eqb r j) rs) (Some (Made n r)) z) (token_put_made n q tr r not2 not0)
    ∙ either (eqb r q) (list_any (λ j. eqb r j) rs) (Some (Made n r)) (register_token tr r)

call_back : (n i : ℕ) (t : Tokens) (r : ℕ) →
    register_token (make_all (n + i) caller_saved t.regs) r ≡ token_back n t (cond (list_any (λ q. eqb r q) caller_saved) (New i r) (Was (InRegister r)))
call_back n i t zero = refl
call_back n i t (suc zero) = refl
call_back n i t (suc (suc zero)) = refl
call_back n i t (suc (suc (suc k))) =
    let r = suc (suc (suc k)) in
    let not2 : suc (suc (suc k)) ≡ 2 → ⊥ = λ same. absurd (omega arith) in
    let not0 : suc (suc (suc k)) ≡ 0 → ⊥ = λ same. absurd (omega arith) in
    token_made (n + i) caller_saved t.regs r not2 not0
    ∙ token_cond n (list_any (λ q. eqb r q) caller_saved) t (Some (Made (n + i) r)) (t.regs r) (New i r) (Was (InRegister r)) refl refl

register_back : (n i : ℕ) (row : Row) (t : Tokens) (r : ℕ) → register_token (moved_tokens (n + i) row t).regs r ≡ token_back n t (back_register i row r)
unfolding moved_tokens
register_back n i (Fixes rd c) t r = token_put n rd (Was (OfNumber c)) t r
register_back n i (Moves rd rs) t r = token_put n rd (Was (InRegister rs)) t r
register_back n i (Sets rd op a b) t r = token_put n rd (New i rd) t r
register_back n i (Addresses rd k offset) t r = token_put n rd (New i rd) t r
register_back n i (Loads rd op base offset) t r = token_put n rd (New i rd) t r
register_back n i (LoadsSlot rd k) t r = token_put n rd (Was (InSlot k)) t r
register_back n i (Calls call) t r = call_back n i t r
register_back n i row t r = refl

-- ---- slots, pairs and marks

stored_back : (n m : ℕ) (row : Row) (t : Tokens) (k : ℕ) → (moved_tokens m row t).slots k ≡ token_back n t (slot_stored row k)
unfolding moved_tokens
stored_back n m (StoresSlot rs j) t k = token_cond n (eqb k j) t (register_token t.regs rs) (t.slots k) (Was (InRegister rs)) (Was (InSlot k)) refl refl
stored_back n m (Calls call) t k = token_cond n (list_any (eqb k) call.outgoing) t None (t.slots k) Nameless (Was (InSlot k)) refl refl
stored_back n m row t k = refl

moved_pairs : (m : ℕ) (row : Row) (t : Tokens) → (moved_tokens m row t).pairs ≡ t.pairs
unfolding moved_tokens
moved_pairs m (Fixes rd c) t = refl
moved_pairs m row t = refl

moved_marks : (m : ℕ) (row : Row) (t : Tokens) → (moved_tokens m row t).marks ≡ t.marks
unfolding moved_tokens
moved_marks m (Fixes rd c) t = refl
moved_marks m row t = refl

-- ---- code

-- what holds of the tokens that the row moved, and of these without any slot's, holds after the code
by_pointer : (m : ℕ) (row : Row) (t : Tokens) (P : Bool → Tokens → Type 0) →
    P true (record (moved_tokens m row t) { slots = λ k. None }) → P false (moved_tokens m row t) → P (sets_pointer row) (code_tokens m row t)
by_pointer m row t P cleared kept =
    elim (sets_pointer row) as (λ z. P z (cond z (record (moved_tokens m row t) { slots = λ k. None }) (moved_tokens m row t))) [
      | true ↦ cleared
      | false ↦ kept
    ]

pairs_stay : (m : ℕ) (row : Row) (t : Tokens) (k o : ℕ) → (code_tokens m row t).pairs k o ≡ t.pairs k o
pairs_stay m row t k o =
    let same = ap (λ (z : ℕ → ℕ → Option Token). z k o) (moved_pairs m row t) in
    by_pointer m row t (λ z u. u.pairs k o ≡ t.pairs k o) same same

code_back : (n i : ℕ) (row : Row) (t : Tokens) (x : Tracked) → token_of x (code_tokens (n + i) row t) ≡ token_back n t (back_row i row x)
code_back n i row t (InRegister r) =
    let e = register_back n i row t r in
    by_pointer (n + i) row t (λ z u. register_token u.regs r ≡ token_back n t (back_register i row r)) e e
code_back n i row t (InSlot k) =
    by_pointer (n + i) row t (λ z u. u.slots k ≡ token_back n t (cond z Nameless (slot_stored row k))) refl (stored_back n (n + i) row t k)
code_back n i row t (OfPair k o) = pairs_stay (n + i) row t k o
code_back n i row t (OfVariable v) =
    let e = ap (assigned v) (moved_marks (n + i) row t) in
    by_pointer (n + i) row t (λ z u. assigned v u.marks ≡ assigned v t.marks) e e
code_back n i row t (OfNumber c) = refl

-- ---- pairs of code with a number, phis and marks

given_is_back : (n i : ℕ) (row : Row) (d : Option ℕ) (t : Tokens) (k o : ℕ) →
    given_token d ((code_tokens (n + i) row t).pairs k o) (code_tokens (n + i) row t) ≡ token_back n t (given_back i row d (OfPair k o))
given_is_back n i row None t k o = pairs_stay (n + i) row t k o
given_is_back n i row (Some rd) t k o = code_back n i row t (InRegister rd)

place_is_back : (n : ℕ) (p : Option Place) (t : Tokens) → place_token p t ≡ token_back n t (back_place p)
place_is_back n None t = refl
place_is_back n (Some (Register r)) t = refl
place_is_back n (Some (Slot k)) t = refl
place_is_back n (Some (Const c)) t = refl

pair_is_back : (n : ℕ) (q : Option OperandPair) (t : Tokens) → pair_token q t ≡ token_back n t (back_pair q)
pair_is_back n None t = refl
pair_is_back n (Some q) t = refl

value_is_back : (n : ℕ) (resolve : OperandPair → Option OperandPair) (m : MarkValue) (t : Tokens) →
    mark_token resolve m t ≡ token_back n t (back_value resolve m)
value_is_back n resolve Nothing t = refl
value_is_back n resolve (Constant c) t = refl
value_is_back n resolve (At r) t = refl
value_is_back n resolve (Pair q) t = pair_is_back n (resolve q) t

-- pairs of which those of one number are changed
changed_pairs : (n : ℕ) (t : Tokens) (k j o : ℕ) (new : ℕ → Option Token) (old : ℕ → ℕ → Option Token) (b : Back) →
    (k ≡ j → new o ≡ token_back n t b) → old k o ≡ t.pairs k o → updated j new old k o ≡ token_back n t (cond (eqb k j) b (Was (OfPair k o)))
changed_pairs n t k j o new old b here there = by_case (eqb k j) refl where
  by_case : (z : Bool) → eqb k j ≡ z → cond z new (old k) o ≡ token_back n t (cond z b (Was (OfPair k o)))
  by_case true e = here (eqb-true k j e)
  by_case false e = there

number_back : (n i : ℕ) (row : Row) (t : Tokens) (call : Bool) (operands : List Operand) (k j o : ℕ) →
    token_of (OfPair k o) (numbered_tokens call (Some j) operands (code_tokens (n + i) row t))
    ≡ token_back n t (cond (eqb k j) (given_back i row (defined call (slice_get operands o)) (OfPair k o)) (Was (OfPair k o)))
number_back n i row t call operands k j o =
    let u = code_tokens (n + i) row t in
    let d = defined call (slice_get operands o) in
    changed_pairs n t k j o (λ q. given_token (defined call (slice_get operands q)) (u.pairs j q) u) u.pairs (given_back i row d (OfPair k o))
    (λ same. ap (λ (q : ℕ). given_token d (u.pairs q o) u) (sym same) ∙ given_is_back n i row d t k o) (pairs_stay (n + i) row t k o)

phi_back : (n : ℕ) (p : Option Place) (t : Tokens) (k j o : ℕ) →
    updated j (updated 0 (place_token p t) (t.pairs j)) t.pairs k o
    ≡ token_back n t (cond (eqb k j) (cond (eqb o 0) (back_place p) (Was (OfPair k o))) (Was (OfPair k o)))
phi_back n p t k j o =
    changed_pairs n t k j o (updated 0 (place_token p t) (t.pairs j)) t.pairs (cond (eqb o 0) (back_place p) (Was (OfPair k o)))
    (λ same. token_cond n (eqb o 0) t (place_token p t) (t.pairs j o) (back_place p) (Was (OfPair k o)) (place_is_back n p t)
    (ap (λ (q : ℕ). t.pairs q o) (sym same))) refl

-- ---- one item

item_back : (resolve : OperandPair → Option OperandPair) (n i : ℕ) (k : ItemKind) (t : Tokens) (x : Tracked) →
    token_of x (after_item resolve (n + i) k t) ≡ token_back n t (back resolve i k x)
item_back resolve n i (Code c None) t x = code_back n i (row_of c) t x
item_back resolve n i (Code c (Some j)) t (InRegister r) = code_back n i (row_of c) t (InRegister r)
item_back resolve n i (Code c (Some j)) t (InSlot k) = code_back n i (row_of c) t (InSlot k)
item_back resolve n i (Code c (Some j)) t (OfPair k o) = number_back n i (row_of c) t (is_call (row_of c)) c.operands k j o
item_back resolve n i (Code c (Some j)) t (OfVariable v) = code_back n i (row_of c) t (OfVariable v)
item_back resolve n i (Code c (Some j)) t (OfNumber m) = refl
item_back resolve n i (Mark v m) t (OfVariable w) =
    token_cond n (is_same w v) t (mark_token resolve m t) (cond (overlaps w v) None (assigned w t.marks)) (back_value resolve m)
    (cond (overlaps w v) Nameless (Was (OfVariable w))) (value_is_back n resolve m t)
    (token_cond n (overlaps w v) t None (assigned w t.marks) Nameless (Was (OfVariable w)) refl refl)
item_back resolve n i (Mark v m) t (InRegister r) = refl
item_back resolve n i (Mark v m) t (InSlot k) = refl
item_back resolve n i (Mark v m) t (OfPair k o) = refl
item_back resolve n i (Mark v m) t (OfNumber c) = refl
item_back resolve n i (Phi p j) t (OfPair k o) = phi_back n p t k j o
item_back resolve n i (Phi p j) t (InRegister r) = refl
item_back resolve n i (Phi p j) t (InSlot k) = refl
item_back resolve n i (Phi p j) t (OfVariable v) = refl
item_back resolve n i (Phi p j) t (OfNumber c) = refl

-- ---- a list of items

-- what is told of the tokens after an item, told of those before it
through_back : (resolve : OperandPair → Option OperandPair) (n i : ℕ) (k : ItemKind) (t : Tokens) (b : Back) →
    token_back n (after_item resolve (n + i) k t) b ≡ token_back n t (through (back resolve i k) b)
through_back resolve n i k t (Was x) = item_back resolve n i k t x
through_back resolve n i k t (New j r) = refl
through_back resolve n i k t Nameless = refl

over_back : (resolve : OperandPair → Option OperandPair) (n i : ℕ) (items : List Item) (t : Tokens) (x : Tracked) →
    token_of x (after_items resolve (n + i) items t) ≡ token_back n t (back_over resolve i items x)
over_back resolve n i [] t x = refl
over_back resolve n i (item ∷ items) t x =
    let u = after_item resolve (n + i) item.kind t in
    let next : suc (n + i) ≡ n + suc i = omega arith in
    ap (λ (m : ℕ). token_of x (after_items resolve m items u)) next
    ∙ over_back resolve n (suc i) items u x
    ∙ through_back resolve n i item.kind t (back_over resolve (suc i) items x)

pub tokens_pull_back : TokensPullBack
tokens_pull_back resolve n items t x =
    let here : n ≡ n + 0 = omega arith in
    ap (λ (m : ℕ). token_of x (after_items resolve m items t)) here ∙ over_back resolve n 0 items t x
