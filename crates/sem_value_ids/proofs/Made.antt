-- The tokens of a path were made on it, each at the index of its item.
use Rattle.std.proofs.Common.{◌≡◌, ℕ, zero, suc, [], ◌∷◌, Option, Some, None, Bool, true, false, cond, refl, sym, subst, arith, eqb}
use Rattle.std.specs.Prelude.{nat_lt, not, ◌&&◌, slice_get}
use Rattle.std.specs.List.{list_any}
use Rattle.rv64_instr.specs.declared.place.Place.{Place}
use Rattle.rv64_instr.specs.declared.place.Place.TheVariants.{Register, Slot, Const}
use Rattle.rv64_instr.specs.Row.{Row, Fixes, Moves, Sets, Addresses, Loads, LoadsSlot, StoresSlot, Calls, row_of}
use Rattle.rv64_instr.specs.DefsAndUses.{caller_saved}
use Rattle.rv64_instr.specs.LocationEffects.{is_call}
use Rattle.mir_func.specs.declared.debug_substitution.OperandPair.{OperandPair}
use Rattle.mir_func.specs.declared.position.Pos.{Pos}
use Rattle.mir_func.specs.declared.variable.MarkValue.{MarkValue}
use Rattle.mir_func.specs.declared.variable.MarkValue.TheVariants.{Nothing, Constant, At, Pair}
use Rattle.mir_func.specs.declared.item.ItemKind.{ItemKind}
use Rattle.mir_func.specs.declared.item.ItemKind.TheVariants.{Code, Mark, Phi}
use Rattle.mir_func.specs.Variables.{is_same, overlaps}
use Rattle.mir_func.specs.Graph.{Fetch, Here, EndOfBlock, Outside, Program}
use Rattle.sem_mir.specs.Step.{defined}
use Rattle.sem_mir.specs.ValueId.{Token, Entry, Tokens, entry_tokens, sets_pointer, after_fetch, Path, begin, onward}
use Rattle.sem_value_ids.specs.Pullback.{Tracked, InRegister, InSlot, OfPair, OfVariable, OfNumber, token_of, Back, Was, New, Nameless, token_back}
use Rattle.sem_value_ids.specs.Pullback.{put_back, back_register, slot_stored, back_row, given_back, back_place, back_pair, back_value, back}
use Rattle.sem_value_ids.proofs.Naming.{IsOld, old_later}
use Rattle.sem_value_ids.proofs.Backwards.{tokens_pull_back}

-- ---- a token that an item makes is made at the item's index

abbrev pub IsMadeAt : ℕ → Back → Type 0
IsMadeAt i (Was x) = Unit {0}
IsMadeAt i (New j r) = j ≡ i
IsMadeAt i Nameless = Unit {0}

at_cond : (i : ℕ) (z : Bool) (b c : Back) → IsMadeAt i b → IsMadeAt i c → IsMadeAt i (cond z b c)
at_cond i true b c h k = h
at_cond i false b c h k = k

at_put : (i rd : ℕ) (b : Back) (r : ℕ) → IsMadeAt i b → IsMadeAt i (put_back rd b r)
at_put i rd b zero h = elim rd as (λ z. IsMadeAt i (put_back z b zero)) [ zero ↦ tt | suc k ↦ tt ]
at_put i zero b (suc r) h = tt
at_put i (suc rd) b (suc r) h =
    at_cond i (eqb (suc r) (suc rd)) (cond (eqb rd 1) Nameless b) (Was (InRegister (suc r))) (at_cond i (eqb rd 1) Nameless b tt h) tt

at_register : (i : ℕ) (row : Row) (r : ℕ) → IsMadeAt i (back_register i row r)
at_register i (Fixes rd c) r = at_put i rd (Was (OfNumber c)) r tt
at_register i (Moves rd rs) r = at_put i rd (Was (InRegister rs)) r tt
at_register i (Sets rd op a b) r = at_put i rd (New i rd) r refl
at_register i (Addresses rd k offset) r = at_put i rd (New i rd) r refl
at_register i (Loads rd op base offset) r = at_put i rd (New i rd) r refl
at_register i (LoadsSlot rd k) r = at_put i rd (Was (InSlot k)) r tt
at_register i (Calls call) r = at_cond i (list_any (λ q. eqb r q) caller_saved) (New i r) (Was (InRegister r)) refl tt
at_register i row r = tt

at_stored : (i : ℕ) (row : Row) (k : ℕ) → IsMadeAt i (slot_stored row k)
at_stored i (StoresSlot rs j) k = at_cond i (eqb k j) (Was (InRegister rs)) (Was (InSlot k)) tt tt
at_stored i (Calls call) k = at_cond i (list_any (eqb k) call.outgoing) Nameless (Was (InSlot k)) tt tt
at_stored i row k = tt

at_row : (i : ℕ) (row : Row) (x : Tracked) → IsMadeAt i (back_row i row x)
at_row i row (InRegister r) = at_register i row r
at_row i row (InSlot k) = at_cond i (sets_pointer row) Nameless (slot_stored row k) tt (at_stored i row k)
at_row i row (OfPair k o) = tt
at_row i row (OfVariable v) = tt
at_row i row (OfNumber c) = tt

at_given : (i : ℕ) (row : Row) (d : Option ℕ) (x : Tracked) → IsMadeAt i (given_back i row d x)
at_given i row None x = tt
at_given i row (Some rd) x = at_register i row rd

at_place : (i : ℕ) (p : Option Place) → IsMadeAt i (back_place p)
at_place i None = tt
at_place i (Some (Register r)) = tt
at_place i (Some (Slot k)) = tt
at_place i (Some (Const c)) = tt

at_pair : (i : ℕ) (q : Option OperandPair) → IsMadeAt i (back_pair q)
at_pair i None = tt
at_pair i (Some q) = tt

at_value : (i : ℕ) (resolve : OperandPair → Option OperandPair) (m : MarkValue) → IsMadeAt i (back_value resolve m)
at_value i resolve Nothing = tt
at_value i resolve (Constant c) = tt
at_value i resolve (At r) = tt
at_value i resolve (Pair q) = at_pair i (resolve q)

at_item : (resolve : OperandPair → Option OperandPair) (i : ℕ) (k : ItemKind) (x : Tracked) → IsMadeAt i (back resolve i k x)
at_item resolve i (Code c None) x = at_row i (row_of c) x
at_item resolve i (Code c (Some j)) (InRegister r) = at_row i (row_of c) (InRegister r)
at_item resolve i (Code c (Some j)) (InSlot k) = at_row i (row_of c) (InSlot k)
at_item resolve i (Code c (Some j)) (OfPair k o) =
    let d = defined (is_call (row_of c)) (slice_get c.operands o) in
    at_cond i (eqb k j) (given_back i (row_of c) d (OfPair k o)) (Was (OfPair k o)) (at_given i (row_of c) d (OfPair k o)) tt
at_item resolve i (Code c (Some j)) (OfVariable v) = tt
at_item resolve i (Code c (Some j)) (OfNumber m) = tt
at_item resolve i (Mark v m) (OfVariable w) =
    at_cond i (is_same w v) (back_value resolve m) (cond (overlaps w v) Nameless (Was (OfVariable w))) (at_value i resolve m)
    (at_cond i (overlaps w v) Nameless (Was (OfVariable w)) tt tt)
at_item resolve i (Mark v m) (InRegister r) = tt
at_item resolve i (Mark v m) (InSlot k) = tt
at_item resolve i (Mark v m) (OfPair k o) = tt
at_item resolve i (Mark v m) (OfNumber c) = tt
at_item resolve i (Phi p j) (OfPair k o) =
    at_cond i (eqb k j) (cond (eqb o 0) (back_place p) (Was (OfPair k o))) (Was (OfPair k o))
    (at_cond i (eqb o 0) (back_place p) (Was (OfPair k o)) (at_place i p) tt) tt
at_item resolve i (Phi p j) (InRegister r) = tt
at_item resolve i (Phi p j) (InSlot k) = tt
at_item resolve i (Phi p j) (OfVariable v) = tt
at_item resolve i (Phi p j) (OfNumber c) = tt

-- ---- the tokens of a path were made on it

entry_is_old : (x : Tracked) → IsOld 0 (token_of x entry_tokens)
entry_is_old (InRegister zero) = tt
entry_is_old (InRegister (suc r)) =
    elim (nat_lt (suc r) 32 && not (eqb (suc r) 2)) as (λ z. IsOld 0 (cond z (Some (Entry (suc r))) None)) [ true ↦ tt | false ↦ tt ]
entry_is_old (InSlot n) = tt
entry_is_old (OfPair k o) = tt
entry_is_old (OfVariable v) = tt
entry_is_old (OfNumber c) = tt

back_is_old : (n : ℕ) (t : Tokens) (b : Back) → IsMadeAt 0 b → ((x : Tracked) → IsOld n (token_of x t)) → IsOld (suc n) (token_back n t b)
back_is_old n t (Was x) at old = old_later n (token_of x t) (old x)
back_is_old n t (New i r) at old = omega arith
back_is_old n t Nameless at old = tt

fetch_is_old : (g : Program) (n : ℕ) (x : Fetch) (t : Tokens) → ((y : Tracked) → IsOld n (token_of y t)) → (y : Tracked) →
    IsOld (suc n) (token_of y (after_fetch g.resolve n x t))
fetch_is_old g n (Here i) t old y =
    subst (λ (z : Option Token). IsOld (suc n) z) (sym (tokens_pull_back g.resolve n (i ∷ []) t y))
    (back_is_old n t (back g.resolve 0 i.kind y) (at_item g.resolve 0 i.kind y) old)
fetch_is_old g n (EndOfBlock k m) t old y = old_later n (token_of y t) (old y)
fetch_is_old g n Outside t old y = old_later n (token_of y t) (old y)

pub path_is_old : {g : Program} {start : Pos} {n : ℕ} {p : Pos} {t : Tokens} → Path g start n p t → (x : Tracked) → IsOld n (token_of x t)
path_is_old begin x = entry_is_old x
path_is_old {g = g} (onward {n} {p} {q} {t} path edge) x = fetch_is_old g n (g.fetch p) t (path_is_old path) x
