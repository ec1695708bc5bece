-- What is learned and forgotten, by what code sees of a row.
use Rattle.std.proofs.Common.{◌≡◌, ℕ, Bool, cond, Option, None, sym, ap, ◌∙◌, subst}
use Rattle.rv64_instr.specs.declared.place.Place.{Place}
use Rattle.rv64_instr.specs.declared.place.Place.TheVariants.{Register, Slot, Const}
use Rattle.rv64_instr.specs.Instruction.{Instruction}
use Rattle.rv64_instr.specs.Row.{Row, row_of}
use Rattle.rv64_instr.specs.Row as row
use Rattle.rv64_instr.specs.Decoded.{Shows}
use Rattle.rv64_instr.specs.DefsAndUses.{caller_saved}
use Rattle.rv64_instr.specs.LocationEffects.{defines_of, is_passed}
use Rattle.rv64_instr.specs.declared.decoded.Callee.{Callee}
use Rattle.rv64_instr.proofs.Passed.{passed_set}
use Rattle.rv64_instr.specs.declared.decoded.Decoded.{Decoded}
use Rattle.rv64_instr.specs.declared.decoded.Decoded.TheVariants.{Fixes, Sets, Loads, Stores, StoresSlot, Calls}
use Rattle.rv64_instr.specs.declared.decoded.Decoded.TheVariants.{Returns}
use Rattle.mir_func.specs.declared.item.ItemKind.{ItemKind}
use Rattle.mir_func.specs.declared.item.ItemKind.TheVariants.{Code}
use Rattle.remat_pass.specs.Known.{Known, learned, forgotten, known_past}
use Rattle.remat_pass.specs.Table.{is_among}

abbrev pub TeachesNothing : Decoded → Type 0
TeachesNothing (Fixes rd n) = ⊥
TeachesNothing (StoresSlot rs n) = ⊥
TeachesNothing _ = Unit {0}

same_by : (d : Decoded) → TeachesNothing d → (r : Row) → Shows d r → (known : Known) (x : Place) → known x ≡ learned r known x
same_by (Fixes rd n) t r s known x = absurd t
same_by (StoresSlot rs n) t r s known x = absurd t
same_by (Sets rd op a b) t r (input, s, shown) known x = ap (λ (q : Row). learned q known x) (sym s)
same_by (Loads rd op base offset) t r (b, s, shown) known x = ap (λ (q : Row). learned q known x) (sym s)
same_by (Stores op rs base offset) t r (b, s, shown) known x = ap (λ (q : Row). learned q known x) (sym s)
same_by (Calls callee) t r (call, s, named) known x = ap (λ (q : Row). learned q known x) (sym s)
same_by (Returns way) t r (ending, s, shown) known x = ap (λ (q : Row). learned q known x) (sym s)
same_by _ t r s known x = ap (λ (q : Row). learned q known x) (sym s)

-- code of these kinds teaches nothing
pub learned_same : (now : Decoded) {d : Decoded} → now ≡ d → TeachesNothing d → (known : Known) (r : Row) → Shows now r → (x : Place) →
    known x ≡ learned r known x
learned_same now {d} e t known r s x = same_by d t r (subst (λ (z : Decoded). Shows z r) e s) known x

-- a constant definition teaches its number
pub learned_fixes : (now : Decoded) (rd n : ℕ) → now ≡ Fixes rd n → (known new : Known) → ((x : Place) → new x ≡ learned (row.Fixes rd n) known x) →
    (r : Row) → Shows now r → (x : Place) → new x ≡ learned r known x
learned_fixes now rd n e known new h r s x =
    h x ∙ ap (λ (q : Row). learned q known x) (sym (subst (λ (z : Decoded). Shows z r) e s))

-- a call has its registers and slots forgotten
pub call_forgets : (i : Instruction) (callee : Callee) → Shows (Calls callee) (row_of i) → (old mid new : Known) →
    ((x : Place) → mid x ≡ cond (is_among x caller_saved) None (old x)) → ((x : Place) → new x ≡ cond (is_passed x i.operands) None (mid x)) → (x : Place) →
    new x ≡ forgotten (row_of i) old x
call_forgets i callee shows old mid new one two (Register r) =
    two (Register r) ∙ one (Register r) ∙ sym (ap (λ (q : Row). cond (defines_of q (Register r)) None (old (Register r))) shows.1)
call_forgets i callee shows old mid new one two (Slot n) =
    two (Slot n) ∙ ap (λ (z : Option ℕ). cond (is_passed (Slot n) i.operands) None z) (one (Slot n))
    ∙ ap (λ (b : Bool). cond b None (old (Slot n))) (passed_set i callee shows n)
call_forgets i callee shows old mid new one two (Const c) = two (Const c) ∙ one (Const c)

-- debug items teach nothing
pub past_same : (now : ItemKind) {k : ItemKind} → now ≡ k → (known : Known) → ((x : Place) → known x ≡ known_past k known x) → (x : Place) →
    known x ≡ known_past now known x
past_same now {k} e known h x = h x ∙ ap (λ (z : ItemKind). known_past z known x) (sym e)

-- past code: what it sets is forgotten, and what it teaches learned
pub past_code : (now : ItemKind) (i : Instruction) (k : Option ℕ) → now ≡ Code i k → (old mid new : Known) →
    ((x : Place) → mid x ≡ forgotten (row_of i) old x) → ((x : Place) → new x ≡ learned (row_of i) mid x) → (x : Place) → new x ≡ known_past now old x
past_code now i k e old mid new forgot learn x =
    let one : mid ≡ forgotten (row_of i) old = λ j y. forgot y j in
    learn x ∙ (ap (λ (known : Known). learned (row_of i) known x) one ∙ ap (λ (z : ItemKind). known_past z old x) (sym e))
